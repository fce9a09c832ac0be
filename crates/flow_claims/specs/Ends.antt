-- The end of a lane once all seats are one, and the lane's record among the finished stints.
use Rattle.std.specs.Prelude.{◌≡◌, ℕ, List, [], length, slice_get, true, All, Contains, sum_by}
use Rattle.std.specs.Prelude.Option.{Some}
use Rattle.evt_types.specs.declared.event.Delivery.{Delivery}
use Rattle.evt_types.specs.declared.event.Reply.{Reply}
use Rattle.lane_rings.specs.Ends.{received_by, answered, unanswered}
use Rattle.lane_rings.specs.declared.far.Far.{Far}
use Rattle.flow_claims.specs.declared.seating.Past.{Past}
use Rattle.flow_claims.specs.Lists.{lists_of, no_lists, IsOf}
use Rattle.flow_claims.specs.Stints.{last_end, IsDone, IsFinal, IsRecordFrom, at_lane, times, below, received_in, answered_in, received_in_all, answered_in_all, surrenders}

-- The end is the lane's, and its lists are those with which the last stint of the lane's record ended.
-- The record is all of the finished stints that are the lane's.
pub record IsEnd (lanes : List Far) (finished : List Past) (lane : ℕ) (far : Far) : Type 0 where
  pub of_lane : IsOf lanes lane far
  pub past : List Past
  pub recorded : IsRecordFrom lane 0 no_lists past
  pub lists : lists_of far ≡ last_end no_lists past
  -- what was received and answered in the stints, one after the other by number, is all that the end received and answered
  pub received_is : received_by far ≡ received_in_all past
  pub answered_is : answered far ≡ answered_in_all past
  pub done : All IsDone past
  pub final : IsFinal past
  -- a stint that surrendered the lane ended with the end's lists; where there is none, nothing is unanswered
  pub surrendered : All (λ p. p.lane ≡ lane → p.surrendered ≡ true → lists_of far ≡ p.end) finished
  pub settled : surrenders lane finished ≡ 0 → unanswered far ≡ []
  -- each number below the record's length stands there once, each stint of the lane stands in the record, and each of the record there
  pub once : (number : ℕ) → times lane number finished ≡ below number (length past)
  pub in_record : All (λ p. p.lane ≡ lane → slice_get past p.number ≡ Some p) finished
  pub among : All (Contains finished) past
  -- so however they are weighed, they weigh the same; and what was received and answered in them makes the end's lists
  pub weighed : (f : Past → ℕ) → sum_by (at_lane lane f) finished ≡ sum_by f past
  pub received : (f : Delivery → ℕ) → sum_by (at_lane lane (λ p. sum_by f (received_in p))) finished ≡ sum_by f (received_by far)
  pub answered : (f : Reply → ℕ) → sum_by (at_lane lane (λ p. sum_by f (answered_in p))) finished ≡ sum_by f (answered far)
