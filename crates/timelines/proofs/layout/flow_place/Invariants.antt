use Rattle.std.proofs.Common.{◌≡◌, ◌+◌, drop}
use Rattle.timelines.specs.Layout.{flow_place}
use Rattle.timelines.proofs.layout.flow_place.Given as goal

abbrev pub invariant-loop-place : goal.invariant-loop-place
invariant-loop-place l = l.place + flow_place l.flow (drop l.place l.flows) ≡ flow_place l.flow l.flows
