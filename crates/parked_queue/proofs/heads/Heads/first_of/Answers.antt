use Rattle.std.proofs.Common.{◌≤◌, subst, sym, arith, ⊎_elim}
use Rattle.parked_queue.specs.Heads.{number_at}
use Rattle.parked_queue.proofs.heads.Heads.first_of.Goals as goal

pub returns-else-best-clause-first : goal.returns-else-best-clause-first
returns-else-best-clause-first c =
    let other = c.if-best.false in
    let within = c.loop-slot.invariant.within in
    ⊎_elim
    (λ none. absurd (other none))
    (λ one.
    let same = one.1 in
    record {
      there = one.0;
      some = omega arith;
      first = λ k has. subst (λ n. n ≤ number_at c.args.self.now k) (sym same) (c.loop-slot.invariant.least k has (c.in_default.ensures.none k));
    })
    c.loop-slot.invariant.one
