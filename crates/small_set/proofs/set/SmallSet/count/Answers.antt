use Rattle.std.proofs.Common.{◌≡◌, ◌==◌, ◌+◌, ◌-◌, ap, ◌∙◌, sym, arith, rules, count_ones, count_by, mod-eq_of_lt}
use Rattle.std.specs.Int.{bit_at}
use Rattle.std.specs.List.{range_with_len}
use Rattle.small_set.specs.SmallSets.{members_below}
use Rattle.small_set.proofs.Counts.{ones_below, ones_from}
use Rattle.small_set.proofs.set.SmallSet.count.Goals as goal

pub returns : goal.returns
unfolding members_below
returns c end past =
    let n = c.args.self.bits in
    let e : 64 + (end - 64) ≡ end = omega arith in
    ap count_ones (sym (mod-eq_of_lt (search rules)))
    ∙ (ones_below n 64
    ∙ (sym (ones_from n 64 (end - 64) (search rules))
    ∙ ap (λ k. count_by (λ i. bit_at n i == 1) (range_with_len 0 k)) e))
