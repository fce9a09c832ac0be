use Rattle.std.proofs.Common.{◌≡◌, ◌+◌, ◌-◌, ◌*◌, true, List, length, slice_get, take, drop, None, Some, option_map, sym, ap, ◌∙◌, arith}
use Rattle.std.proofs.lemmas.Bool.{not-false, not-true}
use Rattle.evt_types.specs.Place.{Place}
use Rattle.evt_types.specs.declared.event.Event.{Event}
use Rattle.evt_types.specs.declared.event.TheConstants.{MAX_FORWARDS}
use Rattle.order_parts.specs.Reorder.{after_leaving, left, oldest_answered}
use Rattle.order_parts.proofs.Fields.{first_within, keeps_few, oldest_kept, oldest_few}
use Rattle.order_parts.proofs.Oldest.{none_oldest, resolved_oldest, some_place, unresolved_oldest}
use Rattle.order_parts.proofs.reorder.Reorder.leave.Goals as goal
use Rattle.order_parts.proofs.reorder.Reorder.leave.Goals.{In_err-oldest, In_ok-oldest, Then-not-oldest}

-- there is no place
none : (c : In_err-oldest) → oldest_answered c.args.self.now.places ≡ None
none c = none_oldest c.self.inside c.args.self.now c.self.view_is (sym c.front.ensures ∙ (sym c.copied.ensures ∙ c.in_err-oldest.was))

pub returns-in_err-oldest-clause-value : goal.returns-in_err-oldest-clause-value
returns-in_err-oldest-clause-value c = ap (option_map left) c.from_residual.ensures ∙ sym (none (goal.at.returns-in_err-oldest-clause-value c).In_err-oldest)

pub returns-in_err-oldest-clause-rest : goal.returns-in_err-oldest-clause-rest
returns-in_err-oldest-clause-rest c = sym (ap (after_leaving c.args.self.now) (none (goal.at.returns-in_err-oldest-clause-rest c).In_err-oldest))

there : (c : In_ok-oldest) → slice_get c.self.inside.ring.items 0 ≡ Some c.in_ok-oldest.oldest
there c = sym c.front.ensures ∙ (sym c.copied.ensures ∙ c.in_ok-oldest.was)

-- it is unanswered
still : (c : Then-not-oldest) → oldest_answered c.args.self.now.places ≡ None
still c = unresolved_oldest c.self.inside c.args.self.now c.self.view_is c.in_ok-oldest.oldest (sym c.front.ensures ∙ (sym c.copied.ensures ∙ c.in_ok-oldest.was)) (not-true c.in_ok-oldest.oldest.answered c.if-not-oldest.true)

pub returns-then-not-oldest-clause-value : goal.returns-then-not-oldest-clause-value
returns-then-not-oldest-clause-value c = sym (still c)

pub returns-then-not-oldest-clause-rest : goal.returns-then-not-oldest-clause-rest
returns-then-not-oldest-clause-rest c = sym (ap (after_leaving c.args.self.now) (still c))

pub overflow_mul-row : goal.overflow_mul-row
overflow_mul-row c =
    let within = first_within c.self.inside c.self.invariant 0 c.in_ok-oldest.oldest (there (goal.at.overflow_mul-row c).In_ok-oldest) in
    omega (arith, within, c.self.invariant.size, c.self.inside.rows.ok.0)

pub overflow_add-row : goal.overflow_add-row
overflow_add-row c =
    let here = there (goal.at.overflow_add-row c).In_ok-oldest in
    omega (arith, first_within c.self.inside c.self.invariant 0 c.in_ok-oldest.oldest here, (keeps_few c.self.inside c.self.invariant 0 c.in_ok-oldest.oldest here).few, c.self.invariant.size, c.self.inside.rows.ok.0)

pub slice_bounds-passed_on-count : goal.slice_bounds-passed_on-count
slice_bounds-passed_on-count c = omega arith

pub slice_bounds-passed_on-start : goal.slice_bounds-passed_on-start
slice_bounds-passed_on-start c = slice_bounds-passed_on-count c

pub slice_bounds-passed_on-end : goal.slice_bounds-passed_on-end
slice_bounds-passed_on-end c =
    let here = there (goal.at.slice_bounds-passed_on-end c).In_ok-oldest in
    omega (arith, first_within c.self.inside c.self.invariant 0 c.in_ok-oldest.oldest here, (keeps_few c.self.inside c.self.invariant 0 c.in_ok-oldest.oldest here).few, c.self.invariant.size, ap length c.deref.ensures.value)

pub passed_on-events-requires : goal.passed_on-events-requires
passed_on-events-requires c = rw c.deref.ensures.value (oldest_few c.self.inside c.self.invariant c.in_ok-oldest.oldest (there (goal.at.passed_on-events-requires c).In_ok-oldest))

pub advance-requires : goal.advance-requires
advance-requires c = some_place c.self.inside c.args.self.now c.self.view_is c.in_ok-oldest.oldest (there (goal.at.advance-requires c).In_ok-oldest)

pub returns-clause-value : goal.returns-clause-value
returns-clause-value c =
    let first = MAX_FORWARDS * c.self.inside.first_row in
    let oldest = there (goal.at.returns-clause-value c).In_ok-oldest in
    ap (λ (es : List Event). let x : Place = record { number = c.in_ok-oldest.oldest.number; answered = true; forwards = es } in Some x)
    (c.passed_on-events.ensures
    ∙ ap (λ (es : List Event). take (first + c.in_ok-oldest.oldest.kept - first) (drop first es)) c.deref.ensures.value
    ∙ oldest_kept c.self.inside c.self.invariant c.in_ok-oldest.oldest oldest)
    ∙ sym (resolved_oldest c.self.inside c.args.self.now c.self.view_is c.in_ok-oldest.oldest oldest (not-false c.in_ok-oldest.oldest.answered c.if-not-oldest.false))

pub returns-clause-rest : goal.returns-clause-rest
returns-clause-rest c =
    c.advance.ensures
    ∙ sym (ap (after_leaving c.args.self.now) (resolved_oldest c.self.inside c.args.self.now c.self.view_is c.in_ok-oldest.oldest (there (goal.at.returns-clause-rest c).In_ok-oldest) (not-false c.in_ok-oldest.oldest.answered c.if-not-oldest.false)))
