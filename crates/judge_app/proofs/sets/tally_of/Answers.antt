use Rattle.std.proofs.Common.{◌+◌, ◌==◌, cond, get_or, ap, ◌∙◌, sym, subst, ◌<◌}
use Rattle.std.proofs.lemmas.List.Sums.{sum_by_more}
use Rattle.judge_app.proofs.sets.tally_of.Goals as goal

pub loop-number-preserved : goal.loop-number-preserved
loop-number-preserved c =
    let i = c.loop-number.number-index in
    let xs = c.args.numbers.now in
    record {
      size = c.count.ensures.size ∙ c.loop-number.invariant.size;
      counts = λ n lt.
          c.count.ensures.counts n (subst (λ k. n < k) (sym c.loop-number.invariant.size) lt)
          ∙ (ap (λ k. k + cond (get_or xs i 0 == n) 1 0) (c.loop-number.invariant.counts n lt) ∙ sym (sum_by_more (λ m. cond (m == n) 1 0) xs i 0 c.loop-number-test.true));
    }
