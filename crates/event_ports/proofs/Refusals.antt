-- Why the answer to the oldest that is held is refused, or what is added beside it.
use Rattle.std.proofs.Common.{◌≡◌, ◌≢◌, ◌<◌, ◌≤◌, ℕ, true, cond, List, [], ◌∷◌, ◌++◌, length, Some, Result, Ok, Err, IfErr, MatchResult, refl, sym, ap, subst, arith}
use Rattle.std.proofs.lemmas.List.Sums.{sum_by-cons}
use Rattle.evt_types.specs.Additions.{extras_of}
use Rattle.evt_types.specs.Operation.{is_answer, is_answer_op, is_more_op, is_more_reply, is_new_op, is_new_reply}
use Rattle.evt_types.specs.declared.event.Op.{Op}
use Rattle.evt_types.specs.declared.event.Op.TheVariants as ops
use Rattle.evt_types.specs.declared.event.Reply.{Reply}
use Rattle.evt_types.specs.declared.event.TheConstants.{MAX_EXTRAS}
use Rattle.lists.specs.Counts.{count}
use Rattle.lane_rings.specs.Ends.{answered, answers_among, unanswered}
use Rattle.lane_rings.specs.Identity.{far_id, LaneId}
use Rattle.lane_rings.specs.Refusal.{RefusesReply}
use Rattle.lane_rings.specs.declared.far.Far.{Far}
use Rattle.lane_rings.specs.declared.far.Refusal.{Refusal}
use Rattle.lane_rings.specs.declared.far.Refusal.TheVariants.{NothingHeld, Full, TooMany}
use Rattle.event_ports.specs.declared.lane.Lane.TheVariants.{Own}
use Rattle.event_ports.specs.declared.lane.Holding.{Holding}
use Rattle.event_ports.specs.Holds.{Hands}
use Rattle.event_ports.specs.Lanes.{first_lane, IsFilledAt, RefusesFirst}
use Rattle.event_ports.proofs.Orders.{some_first}

-- an answer answers one
pub one_answer : (r : Reply) → is_answer r ≡ true → answers_among (r ∷ []) ≡ 1
one_answer r e = omega (arith, sum_by-cons (λ (x : Reply). cond (is_answer x) 1 0) r [], ap {B = ℕ} (λ b. cond b 1 0) e)

-- what is added answers none
no_answer_op : (o : Op) → is_more_op o ≡ true → count (is_answer_op o) ≡ 0
no_answer_op ops.New e = absurd (cc)
no_answer_op ops.Forward e = absurd (cc)
no_answer_op ops.Release e = absurd (cc)
no_answer_op ops.ForwardMore e = omega arith

pub no_answer : (r : Reply) → is_more_reply r ≡ true → answers_among (r ∷ []) ≡ 0
no_answer r e = omega (arith, sum_by-cons (λ (x : Reply). cond (is_answer x) 1 0) r [], no_answer_op r.event.op e)

-- and so does a NEW
no_answer_new : (o : Op) → is_new_op o ≡ true → count (is_answer_op o) ≡ 0
no_answer_new ops.New e = omega arith
no_answer_new ops.Forward e = absurd (cc)
no_answer_new ops.Release e = absurd (cc)
no_answer_new ops.ForwardMore e = absurd (cc)

pub new_answers_none : (r : Reply) → is_new_reply r ≡ true → answers_among (r ∷ []) ≡ 0
new_answers_none r e = omega (arith, sum_by-cons (λ (x : Reply). cond (is_answer x) 1 0) r [], no_answer_new r.event.op e)

pub not_both : (r : Reply) → is_answer r ≡ true → is_more_reply r ≡ true → ⊥
not_both r answers more = absurd (omega (arith, one_answer r answers, no_answer r more))

pub refused_own : (own far : Far) (h : Hands) (xs : List Holding) (r : Reply) (refusal : Refusal) → is_answer r ≡ true → RefusesReply far r refusal → unanswered far ≢ []
    → first_lane xs ≡ Some Own → far_id own ≡ far_id far → answered own ≡ answered far → RefusesFirst own h xs refusal
refused_own own far h xs r NothingHeld answers refused some first lane same = absurd (some refused.1)
refused_own own far h xs r TooMany answers refused some first lane same = not_both r answers refused.0
refused_own own far h xs r Full answers refused some first lane same =
    let filled : (far_id own).room ≤ length (answered own) = omega (arith, refused.1, ap (λ (i : LaneId). i.room) lane, ap length same) in
    (some_first xs Own first, subst (IsFilledAt own h) (sym first) filled)

-- where something is held, only a full ring refuses an answer to the oldest
pub filled_first : (own : Far) (h : Hands) (xs : List Holding) (refusal : Refusal) → xs ≢ [] → RefusesFirst own h xs refusal → IsFilledAt own h (first_lane xs)
filled_first own h xs NothingHeld some none = absurd (some none)
filled_first own h xs TooMany some refuses = absurd refuses
filled_first own h xs Full some refuses = refuses.1

-- and what is added, where it is one of few
pub full_alone : (far after : Far) (r : Reply) (refusal : Refusal) → RefusesReply far r refusal → unanswered far ≢ [] → (is_more_reply r ≡ true → extras_of (answered far) < MAX_EXTRAS)
    → far_id after ≡ far_id far → answered after ≡ answered far → (refusal ≡ Full) × ((far_id after).room ≤ length (answered after))
full_alone far after r NothingHeld refused some few lane same = absurd (some refused.1)
full_alone far after r TooMany refused some few lane same = absurd (omega (arith, few refused.0, refused.2))
full_alone far after r Full refused some few lane same = (refl, omega (arith, refused.1, ap (λ (i : LaneId). i.room) lane, ap length same))

pub all_full : (far after : Far) (r : Reply) (result : Result (Unit {0}) Refusal) → IfErr result (RefusesReply far r) → unanswered far ≢ []
    → (is_more_reply r ≡ true → extras_of (answered far) < MAX_EXTRAS) → far_id after ≡ far_id far
    → MatchResult result (λ _. answered after ≡ answered far ++ r ∷ []) (λ _. answered after ≡ answered far)
    → IfErr result (λ e. (e ≡ Full) × ((far_id after).room ≤ length (answered after)))
all_full far after r (Ok _) refused some few lane same = refused
all_full far after r (Err refusal) refused some few lane same = full_alone far after r refusal refused some few lane same
