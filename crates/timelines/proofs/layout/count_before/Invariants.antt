use Rattle.std.proofs.Common.{◌≡◌, ◌≤◌, take}
use Rattle.std.specs.Prelude.{count_by, nat_lt}
use Rattle.timelines.proofs.layout.count_before.Given as goal

abbrev pub invariant-loop-step : goal.invariant-loop-step
invariant-loop-step l = (l.count ≡ count_by (λ k. nat_lt k l.end) (take l.step-index l.steps)) × (l.count ≤ l.step-index)
