use Rattle.std.proofs.Common.{◌≡◌, true, take}
use Rattle.std.specs.Str.{all_ascii_digits}
use Rattle.history_reading.proofs.number.digit_count.Given as goal

abbrev pub invariant-loop-at : goal.invariant-loop-at
invariant-loop-at l = all_ascii_digits (take l.at l.text) ≡ true
