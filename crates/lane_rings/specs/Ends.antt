-- The lists of a lane, as its two ends see them: offered and taken at the scheduler's end, received and answered at the holder's.
-- What is gathered at the scheduler's end, to go into its ring at once, counts as offered, and is hidden until then.
use Rattle.std.specs.Prelude.{◌≡◌, ℕ, List, ◌++◌, Option, count_by, map, drop, slice_get}
use Rattle.evt_types.specs.Operation.{is_answer}
use Rattle.evt_types.specs.declared.event.Delivery.{Delivery}
use Rattle.evt_types.specs.declared.event.Reply.{Reply}
use Rattle.evt_types.specs.Event.{pair_of}
use Rattle.lane_rings.specs.Intakes.{inside, handed, ahead}
use Rattle.lane_rings.specs.Outlets.{all_put, kept_back, put_in, room_beside, room_of}
use Rattle.lane_rings.specs.declared.far.Far.{Far}
use Rattle.lane_rings.specs.declared.near.Near.{Near}

-- every delivery that the scheduler offered, in order
abbrev pub offered : Near → List Delivery
offered near = all_put near.deliveries

-- the last of these, which are not in the ring yet: the holder can't see them before the next `flush`
abbrev pub hidden_offers : Near → List Delivery
hidden_offers near = kept_back near.deliveries

-- how many deliveries more there is a free slot for, as far as the scheduler's end knows
abbrev pub room_in : Near → ℕ
room_in near = room_beside near.deliveries

-- every reply that the scheduler took: out of the ring, or of what `fetch` took out of it
abbrev pub taken : Near → List Reply
taken near = handed near.replies

-- the replies that the scheduler has seen, fetched and in the ring, and not taken
abbrev pub seen_replies : Near → List Reply
seen_replies near = ahead near.replies

-- the first of these, which `fetch` took out of the ring
abbrev pub fetched_replies : Near → List Reply
fetched_replies near = inside near.replies

-- the first that was seen
abbrev pub next_reply : Near → Option Reply
next_reply near = slice_get (seen_replies near) 0

-- every delivery that the holder received, which is all that came out of the ring
abbrev pub received_by : Far → List Delivery
received_by far = handed far.deliveries

-- the deliveries that the holder has seen in the ring, and not received
abbrev pub seen_deliveries : Far → List Delivery
seen_deliveries far = ahead far.deliveries

-- the first that was seen
abbrev pub next_delivery : Far → Option Delivery
next_delivery far = slice_get (seen_deliveries far) 0

-- every reply that the holder gave
abbrev pub answered : Far → List Reply
answered far = put_in far.replies

-- how many replies more there is a free slot for, as far as the holder's end knows
abbrev pub room_left : Far → ℕ
room_left far = room_of far.replies

-- how many replies end the handling of a delivered event
abbrev pub answers_among : List Reply → ℕ
answers_among replies = count_by is_answer replies

-- the deliveries that the holder has not answered, oldest first
abbrev pub unanswered : Far → List Delivery
unanswered far = drop (answers_among (answered far)) (received_by far)

-- the queue and the number of each of these
abbrev pub held_list : Far → List (ℕ × ℕ)
held_list far = map pair_of (unanswered far)

-- Some deliveries came: they were received, are held, and stand behind what was in the array.
pub record Comes (before : Far) (old : List Delivery) (after : Far) (new : List Delivery) : Type 0 where
  pub came : List Delivery
  pub array : new ≡ old ++ came
  pub received : received_by after ≡ received_by before ++ came
  pub held : unanswered after ≡ unanswered before ++ came
