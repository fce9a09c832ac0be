use Rattle.std.proofs.Common.{◌+◌, ◌≤◌, length}
use Rattle.log_reading.proofs.Begins.{Passed}
use Rattle.log_reading.proofs.begin.log_begin.Given as goal

abbrev pub invariant-loop-said : goal.invariant-loop-said
invariant-loop-said l = record {
  passed : Passed l.text l.line l.rest;
  fits : l.line + length l.rest ≤ length l.text + 1;
}

abbrev pub decreases-loop-said : goal.decreases-loop-said
decreases-loop-said l = length l.rest
