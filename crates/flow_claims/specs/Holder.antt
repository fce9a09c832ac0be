-- What a call through a held lane's end does to the end, as `Far` says it.
use Rattle.std.specs.Prelude.{◌≡◌, ◌≢◌, ◌≤◌, ◌↔◌, true, [], ◌∷◌, ◌++◌, length, drop, Option, Result, IfErr, IfNone, MatchOption, MatchResult}
use Rattle.std.specs.Prelude.Option.{Some}
use Rattle.std.specs.Prelude.Result.{Err}
use Rattle.evt_types.specs.Additions.{extras_of}
use Rattle.evt_types.specs.Operation.{is_more_reply, needs_held}
use Rattle.evt_types.specs.declared.event.Delivery.{Delivery}
use Rattle.evt_types.specs.declared.event.Reply.{Reply}
use Rattle.evt_types.specs.Limits.{most_extras}
use Rattle.lane_rings.specs.Ends.{received_by, seen_deliveries, next_delivery, answered, answers_among, unanswered}
use Rattle.lane_rings.specs.Identity.{far_id}
use Rattle.lane_rings.specs.Refusal.{RefusesAnswer, RefusesReply}
use Rattle.lane_rings.specs.declared.far.AnswerFault.{AnswerFault}
use Rattle.lane_rings.specs.declared.far.AnswerFault.TheVariants.{NothingHeld, TooMany}
use Rattle.lane_rings.specs.declared.far.Far.{Far}
use Rattle.lane_rings.specs.declared.far.Refusal.{Refusal}
use Rattle.lane_rings.specs.declared.far.Refusal.TheVariants as refusals

-- what `Far::receive` answered, and what it left
pub record Receives (before : Far) (result : Option Delivery) (after : Far) : Type 0 where
  pub lane : far_id after ≡ far_id before
  pub answered_is : answered after ≡ answered before
  pub received : MatchOption result (received_by after ≡ received_by before) (λ d. received_by after ≡ received_by before ++ d ∷ [])
  pub held : MatchOption result (unanswered after ≡ unanswered before) (λ d. unanswered after ≡ unanswered before ++ d ∷ [])
  pub next : (d : Delivery) → next_delivery before ≡ Some d → result ≡ Some d
  pub none : IfNone result ((seen_deliveries before ≡ []) × (seen_deliveries after ≡ []))

-- what `Far::answer` answered, and what it left
pub record AnswersWith (before : Far) (reply : Reply) (result : Result (Unit {0}) AnswerFault) (after : Far) : Type 0 where
  pub lane : far_id after ≡ far_id before
  pub received : (received_by after ≡ received_by before) × (seen_deliveries after ≡ seen_deliveries before)
  pub answered_is : MatchResult result (λ _. answered after ≡ answered before ++ reply ∷ []) (λ _. answered after ≡ answered before)
  pub held : MatchResult result (λ _. unanswered after ≡ drop (answers_among (reply ∷ [])) (unanswered before)) (λ _. unanswered after ≡ unanswered before)
  pub nothing_held : (result ≡ Err NothingHeld) ↔ ((needs_held reply ≡ true) × (unanswered before ≡ []))
  pub too_many : (result ≡ Err TooMany) ↔ ((is_more_reply reply ≡ true) × (unanswered before ≢ []) × (most_extras ≤ extras_of (answered before)))
  pub refused : IfErr result (RefusesAnswer before reply)

-- what `Far::submit` answered of the reply, and what it left
pub record SubmitsWith (before : Far) (reply : Reply) (result : Result (Unit {0}) Refusal) (after : Far) : Type 0 where
  pub lane : far_id after ≡ far_id before
  pub received : (received_by after ≡ received_by before) × (seen_deliveries after ≡ seen_deliveries before)
  pub answered_is : MatchResult result (λ _. answered after ≡ answered before ++ reply ∷ []) (λ _. answered after ≡ answered before)
  pub held : MatchResult result (λ _. unanswered after ≡ drop (answers_among (reply ∷ [])) (unanswered before)) (λ _. unanswered after ≡ unanswered before)
  pub nothing_held : (result ≡ Err refusals.NothingHeld) ↔ ((needs_held reply ≡ true) × (unanswered before ≡ []))
  pub too_many : (result ≡ Err refusals.TooMany) ↔ ((is_more_reply reply ≡ true) × (unanswered before ≢ []) × (most_extras ≤ extras_of (answered before)))
  pub refused : IfErr result (RefusesReply before reply)
