use Rattle.std.proofs.Common.{◌≡◌, ◌+◌, ◌≤◌, length}
use Rattle.history_reading.proofs.Readings.{IsRead}
use Rattle.history_reading.proofs.reading.read_history.Given as goal

abbrev pub invariant-loop-rest : goal.invariant-loop-rest
invariant-loop-rest l = record {
  read : IsRead l.text l.history.items l.rest;
  line : l.line ≡ length l.history.items;
  fits : length l.history.items + length l.rest ≤ length l.text;
}

abbrev pub decreases-loop-rest : goal.decreases-loop-rest
decreases-loop-rest l = length l.rest
