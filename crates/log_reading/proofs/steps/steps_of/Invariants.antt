use Rattle.std.proofs.Common.{◌≡◌, ◌+◌, ◌≤◌, length}
use Rattle.log_reading.proofs.Stepping.{IsRead}
use Rattle.log_reading.proofs.steps.steps_of.Given as goal

abbrev pub invariant-loop-rest : goal.invariant-loop-rest
invariant-loop-rest l = record {
  read : IsRead l.queues l.text l.steps.items l.counts.accepted.items l.rest;
  line : l.line ≡ l.fn.line + length l.steps.items;
  fits : length l.steps.items + length l.rest ≤ length l.text;
}

abbrev pub decreases-loop-rest : goal.decreases-loop-rest
decreases-loop-rest l = length l.rest
