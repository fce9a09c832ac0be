use Rattle.std.proofs.Common.{◌≡◌, ℕ, ◌<◌, ◌==◌, length, take}
use Rattle.std.specs.Prelude.{count_by, slice_index}
use Rattle.judge_app.proofs.sets.tally_of.Given as goal

abbrev pub invariant-loop-number : goal.invariant-loop-number
invariant-loop-number l = record {
  size : length l.tally.items ≡ l.size;
  counts : (n : ℕ) → n < l.size → slice_index l.tally.items n ≡ count_by (λ m. m == n) (take l.number-index l.numbers);
}
