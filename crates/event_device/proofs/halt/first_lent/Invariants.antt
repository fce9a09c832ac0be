use Rattle.std.proofs.Common.{ℕ, ◌<◌}
use Rattle.event_device.specs.Home.{IsFilled}
use Rattle.event_device.proofs.halt.first_lent.Given as goal

abbrev pub invariant-loop-number : goal.invariant-loop-number
invariant-loop-number l = (n : ℕ) → n < l.number → IsFilled l.homes n
