use Rattle.std.proofs.Common.{◌≡◌, drop}
use Rattle.evt_types.specs.Fault.{has_twice}
use Rattle.evt_types.proofs.check.has_twice.Given as goal

abbrev pub invariant-loop-place : goal.invariant-loop-place
invariant-loop-place l = has_twice (drop l.place l.links) ≡ has_twice l.links
