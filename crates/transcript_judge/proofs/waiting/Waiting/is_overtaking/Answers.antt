use Rattle.std.proofs.Common.{sym, subst, arith}
use Rattle.transcript_judge.proofs.HeldEvents.{numbers_low}
use Rattle.transcript_judge.proofs.KeyLists.{apart_from_none, not_apart}
use Rattle.transcript_judge.specs.Waiting.{KeepsApart, Waits, listed}
use Rattle.transcript_judge.proofs.waiting.Waiting.is_overtaking.Goals as goal

pub returns-in-Some-clause-none : goal.returns-in-Some-clause-none
returns-in-Some-clause-none c = λ none.
    subst (λ (w : Waits). KeepsApart w c.args.number c.args.event.now) c.self.view_is
    (apart_from_none c.self.inside.kind (listed c.self.inside.events) c.self.inside.keys c.args.number c.in-Some.class c.args.event.now c.self.invariant.keys
    (sym c.in-Some.ensures) (c.has_lower.ensures.none none))

pub returns-in-Some-clause-some : goal.returns-in-Some-clause-some
returns-in-Some-clause-some c = λ some apart.
    let found = c.has_lower.ensures.some some in
    not_apart c.self.inside.kind (listed c.self.inside.events) c.self.inside.keys c.args.number c.in-Some.class found.0 c.args.event.now c.self.invariant.keys
    (sym c.in-Some.ensures) (numbers_low c.self.inside.kind c.self.inside.next c.self.inside.events c.self.inside.keys c.self.invariant)
    (omega (arith, c.ranges.number.fits)) found.1 found.2 (subst (λ (w : Waits). KeepsApart w c.args.number c.args.event.now) (sym c.self.view_is) apart)
