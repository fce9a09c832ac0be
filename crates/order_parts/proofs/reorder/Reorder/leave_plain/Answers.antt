use Rattle.std.proofs.Common.{◌≡◌, true, Option, None, Some, subst, slice_get, option_copied, refl, sym, ap, ◌∙◌, arith}
use Rattle.std.specs.Option.{MatchOption}
use Rattle.order_parts.specs.Reorder.{after_leaving, left_plain, oldest_answered}
use Rattle.order_parts.proofs.Fields.{first_within}
use Rattle.order_parts.proofs.Oldest.{bare_oldest, plain_oldest, some_place}
use Rattle.order_parts.proofs.reorder.Reorder.leave_plain.Goals as goal
use Rattle.order_parts.proofs.reorder.Reorder.leave_plain.Goals.{In_ok-plain}

match_none : {X : Type 0} (o : Option X) (P : Type 0) (Q : X → Type 0) → o ≡ None → P → MatchOption o P Q
match_none o P Q none p = subst (λ r. MatchOption r P Q) (sym none) p

there : (c : In_ok-plain) → slice_get c.self.inside.ring.items 0 ≡ Some c.in_ok-plain.plain.now
there c = sym c.front.ensures ∙ ap option_copied c.in_ok-plain.was

pub advance-requires : goal.advance-requires
advance-requires c = some_place c.self.inside c.args.self.now c.self.view_is c.in_ok-plain.plain.now (there (goal.at.advance-requires c).In_ok-plain)

pub advance-requires-2 : goal.advance-requires-2
advance-requires-2 c = some_place c.self.inside c.args.self.now c.self.view_is c.in_ok-plain.plain.now (there (goal.at.advance-requires-2 c).In_ok-plain)

pub index-requires : goal.index-requires
index-requires c =
    let within = first_within c.self.inside c.self.invariant 0 c.in_ok-plain.plain.now (there (goal.at.index-requires c).In_ok-plain) in
    omega (arith, within, c.self.invariant.size, c.self.inside.rows.ok.0)

pub overflow_mul-self-inside : goal.overflow_mul-self-inside
overflow_mul-self-inside c =
    let within = first_within c.self.inside c.self.invariant 0 c.in_ok-plain.plain.now (there (goal.at.overflow_mul-self-inside c).In_ok-plain) in
    omega (arith, within, c.self.invariant.size, c.self.inside.rows.ok.0)

pub returns-in_err-plain-clause-left : goal.returns-in_err-plain-clause-left
returns-in_err-plain-clause-left c = match_none c.from_residual.result _ _ c.from_residual.ensures refl

pub returns-then-plain-eq0-clause-left : goal.returns-then-plain-eq0-clause-left
returns-then-plain-eq0-clause-left c =
    let oldest = bare_oldest c.self.inside c.args.self.now c.self.view_is c.in_ok-plain.plain.now (there (goal.at.returns-then-plain-eq0-clause-left c).In_ok-plain) c.args.event.now c.if-not-plain.false (omega (arith, c.if-plain-eq0.true)) in
    (oldest, c.advance.ensures ∙ sym (ap (after_leaving c.args.self.now) oldest))

pub returns-clause-left : goal.returns-clause-left
returns-clause-left c =
    let here = there (goal.at.returns-clause-left c).In_ok-plain in
    let oldest : oldest_answered c.args.self.now.places ≡ Some (left_plain c.in_ok-plain.plain.now.number true c.index.result.now) =
    plain_oldest c.self.inside c.args.self.now c.self.view_is c.in_ok-plain.plain.now here c.self.invariant c.index.result.now c.if-not-plain.false (omega (arith, c.if-plain-gt1.false, c.if-plain-eq0.false))
    ∙ ap (λ e. Some (left_plain c.in_ok-plain.plain.now.number true e)) (sym c.index.ensures) in
    (oldest, c.advance-2.ensures ∙ sym (ap (after_leaving c.args.self.now) oldest))
