use Rattle.std.proofs.Common.{◌&&◌, not, ap, sym, ◌∙◌, nat_cmp, arith}
use Rattle.std.specs.BTreeSet.{contains}
use Rattle.transcript_judge.proofs.HeldEvents.{held_fewer, held_kept}
use Rattle.transcript_judge.specs.Waiting.{is_key, keyed}
use Rattle.transcript_judge.proofs.waiting.Waiting.take.Goals as goal

pub invariant_of-self : goal.invariant_of-self
invariant_of-self c =
    held_fewer c.self.inside.kind c.self.inside.next c.self.inside.events c.take_at.new.events c.self.inside.keys c.drop_key.new.keys c.args.number c.in-Some.event
    c.self.invariant (omega (arith, c.ranges.number.fits)) (sym c.in-Some.ensures.event) c.in-Some.ensures.rest
    (λ k. c.drop_key.ensures k ∙ ap (λ o. not (is_key o k) && contains nat_cmp c.self.inside.keys k) (c.key_of.ensures ∙ ap (keyed c.args.number) c.class_of-class.ensures))

pub invariant_of-self-in_default : goal.invariant_of-self-in_default
invariant_of-self-in_default c =
    held_kept c.self.inside.kind c.self.inside.next c.self.inside.events c.take_at.new.events c.self.inside.keys c.args.number c.self.invariant
    (sym c.take_at.ensures.event ∙ c.in_default.is) c.take_at.ensures.rest
