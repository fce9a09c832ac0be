-- Why a reply is refused.
use Rattle.std.specs.Prelude.{◌≡◌, ◌≢◌, ◌<◌, ◌≤◌, true, [], length}
use Rattle.evt_types.specs.Additions.{extras_of}
use Rattle.evt_types.specs.Operation.{is_more_reply, needs_held}
use Rattle.evt_types.specs.declared.event.Event.{Event}
use Rattle.evt_types.specs.declared.event.Reply.{Reply}
use Rattle.evt_types.specs.Limits.{most_extras}
use Rattle.lane_rings.specs.Ends.{answered, unanswered}
use Rattle.lane_rings.specs.Identity.{far_id}
use Rattle.lane_rings.specs.declared.far.AnswerFault.{AnswerFault}
use Rattle.lane_rings.specs.declared.far.AnswerFault.TheVariants.{NothingHeld, TooMany, Full}
use Rattle.lane_rings.specs.declared.far.Far.{Far}
use Rattle.lane_rings.specs.declared.far.Refusal.{Refusal}
use Rattle.lane_rings.specs.declared.far.Refusal.TheVariants as refusals

-- the reply that carries an event
abbrev pub reply_of : Event → Reply
reply_of e = record { event = e }

-- An answer or an addition needs something that is held, and an addition is one of few beside it; else the holder has given as many
-- replies as the ring has room for.
abbrev pub RefusesAnswer : Far → Reply → AnswerFault → Type 0
RefusesAnswer far reply NothingHeld = (needs_held reply ≡ true) × (unanswered far ≡ [])
RefusesAnswer far reply TooMany = (is_more_reply reply ≡ true) × (unanswered far ≢ []) × (most_extras ≤ extras_of (answered far))
RefusesAnswer far reply (Full back) =
    (back ≡ reply) × ((far_id far).room ≤ length (answered far)) × (needs_held reply ≡ true → unanswered far ≢ [])
    × (is_more_reply reply ≡ true → extras_of (answered far) < most_extras)

-- the same, where no reply comes back
abbrev pub RefusesReply : Far → Reply → Refusal → Type 0
RefusesReply far reply refusals.NothingHeld = RefusesAnswer far reply NothingHeld
RefusesReply far reply refusals.TooMany = RefusesAnswer far reply TooMany
RefusesReply far reply refusals.Full = RefusesAnswer far reply (Full reply)
