use Rattle.std.proofs.Common.{◌≡◌, take}
use Rattle.timelines.specs.Layout.{flows_of}
use Rattle.timelines.proofs.layout.flows_of.Given as goal

abbrev pub invariant-loop-step : goal.invariant-loop-step
invariant-loop-step l = l.flows.items ≡ flows_of (take l.step-index l.log)
