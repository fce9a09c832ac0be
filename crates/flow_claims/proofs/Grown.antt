-- What a call through a held lane's end adds to the lists with which the stint began.
use Rattle.std.proofs.Common.{◌≡◌, slice_get, map, subst, ◌++◌, List, [], ◌∷◌, length, drop, Option, Some, None, MatchOption, MatchResult, sym, ap, ◌∙◌, arith, append-nil, append_assoc}
use Rattle.std.proofs.lemmas.List.{drop-append-le, length-append}
use Rattle.std.specs.Prelude.{Result}
use Rattle.std.specs.Prelude.Result.{Ok, Err}
use Rattle.evt_types.specs.declared.event.Delivery.{Delivery}
use Rattle.evt_types.specs.declared.event.Reply.{Reply}
use Rattle.lane_rings.specs.Ends.{received_by, answered}
use Rattle.lane_rings.specs.declared.far.Far.{Far}
use Rattle.lane_rings.specs.Identity.{far_id}
use Rattle.flow_claims.specs.declared.claim.Stint.{Stint}
use Rattle.flow_claims.specs.declared.seating.LaneLists.{LaneLists}
use Rattle.flow_claims.specs.declared.seating.Seating.{Seating}
use Rattle.flow_claims.specs.Lists.{lists_of, GoesOn}
use Rattle.flow_claims.specs.Open.{IsOpen, number_in, start_in}
use Rattle.flow_claims.specs.Seats.{stint_at}

-- behind what a list began with, there is what there was and what came
rest_grown : {A : Type 0} (first old now more : List A) → old ≡ first ++ drop (length first) old → now ≡ old ++ more → drop (length first) now ≡ drop (length first) old ++ more
rest_grown first old now more goes is =
    ap (drop (length first)) is ∙ drop-append-le (length first) old more (omega (arith, ap length goes, length-append first (drop (length first) old)))

-- a list that goes on from another goes on with more
grown : {A : Type 0} (first old now more : List A) → old ≡ first ++ drop (length first) old → now ≡ old ++ more → now ≡ first ++ drop (length first) now
grown first old now more goes is =
    is ∙ ap (λ l. l ++ more) goes ∙ append_assoc first (drop (length first) old) more ∙ ap (λ l. first ++ l) (sym (rest_grown first old now more goes is))

-- the lists that a stint began with, where a delivery came or none
pub received_goes_on : (start : LaneLists) (old now : Far) (o : Option Delivery) → GoesOn start (lists_of old) → answered now ≡ answered old
    → MatchOption o (received_by now ≡ received_by old) (λ d. received_by now ≡ received_by old ++ d ∷ []) → GoesOn start (lists_of now)
received_goes_on start old now None goes same none = (
  grown start.received (received_by old) (received_by now) [] goes.0 (none ∙ sym (append-nil (received_by old))),
  grown start.answered (answered old) (answered now) [] goes.1 (same ∙ sym (append-nil (answered old))),
)
received_goes_on start old now (Some d) goes same came = (
  grown start.received (received_by old) (received_by now) (d ∷ []) goes.0 came,
  grown start.answered (answered old) (answered now) [] goes.1 (same ∙ sym (append-nil (answered old))),
)

pub received_more : (start : LaneLists) (old now : Far) (o : Option Delivery) → GoesOn start (lists_of old)
    → MatchOption o (received_by now ≡ received_by old) (λ d. received_by now ≡ received_by old ++ d ∷ [])
    → MatchOption o (drop (length start.received) (received_by now) ≡ drop (length start.received) (received_by old))
    (λ d. drop (length start.received) (received_by now) ≡ drop (length start.received) (received_by old) ++ d ∷ [])
received_more start old now None goes none = ap (drop (length start.received)) none
received_more start old now (Some d) goes came = rest_grown start.received (received_by old) (received_by now) (d ∷ []) goes.0 came

-- and where a reply was answered or refused
pub answered_goes_on : {E : Type 0} (start : LaneLists) (old now : Far) (reply : Reply) (r : Result (Unit {0}) E) → GoesOn start (lists_of old) → received_by now ≡ received_by old
    → MatchResult r (λ _. answered now ≡ answered old ++ reply ∷ []) (λ _. answered now ≡ answered old) → GoesOn start (lists_of now)
answered_goes_on start old now reply (Ok _) goes same said = (
  grown start.received (received_by old) (received_by now) [] goes.0 (same ∙ sym (append-nil (received_by old))),
  grown start.answered (answered old) (answered now) (reply ∷ []) goes.1 said,
)
answered_goes_on start old now reply (Err _) goes same refused = (
  grown start.received (received_by old) (received_by now) [] goes.0 (same ∙ sym (append-nil (received_by old))),
  grown start.answered (answered old) (answered now) [] goes.1 (refused ∙ sym (append-nil (answered old))),
)

pub answered_more : {E : Type 0} (start : LaneLists) (old now : Far) (reply : Reply) (r : Result (Unit {0}) E) → GoesOn start (lists_of old)
    → MatchResult r (λ _. answered now ≡ answered old ++ reply ∷ []) (λ _. answered now ≡ answered old)
    → MatchResult r (λ _. drop (length start.answered) (answered now) ≡ drop (length start.answered) (answered old) ++ reply ∷ [])
    (λ _. drop (length start.answered) (answered now) ≡ drop (length start.answered) (answered old))
answered_more start old now reply (Ok _) goes said = rest_grown start.answered (answered old) (answered now) (reply ∷ []) goes.1 said
answered_more start old now reply (Err _) goes refused = ap (drop (length start.answered)) refused

-- a stint whose end is still the lane's, with lists that go on, is open where it was
pub open_still : (v : Seating) (stint after : Stint) → after.lane ≡ stint.lane → after.number ≡ stint.number → far_id after.far ≡ far_id stint.far
    → (GoesOn (start_in (stint_at v stint.lane)) (lists_of stint.far) → GoesOn (start_in (stint_at v stint.lane)) (lists_of after.far)) → IsOpen v stint → IsOpen v after
open_still v stint after lane number far goes is = record {
  number = ap (λ l. number_in (stint_at v l)) lane ∙ is.number ∙ ap Some (sym number);
  goes_on = subst (λ l. GoesOn (start_in (stint_at v l)) (lists_of after.far)) (sym lane) (goes is.goes_on);
  of_lane = ap (λ l. slice_get (map far_id v.lanes) l) lane ∙ is.of_lane ∙ ap Some (sym far);
}

pub answered_open : {E : Type 0} (v : Seating) (stint after : Stint) (reply : Reply) (r : Result (Unit {0}) E) → after.lane ≡ stint.lane → after.number ≡ stint.number
    → far_id after.far ≡ far_id stint.far → received_by after.far ≡ received_by stint.far
    → MatchResult r (λ _. answered after.far ≡ answered stint.far ++ reply ∷ []) (λ _. answered after.far ≡ answered stint.far) → IsOpen v stint → IsOpen v after
answered_open v stint after reply r lane number far same said =
    open_still v stint after lane number far (λ goes. answered_goes_on (start_in (stint_at v stint.lane)) stint.far after.far reply r goes same said)
