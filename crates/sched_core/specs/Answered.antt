-- An answer by its parts: it is noted first, and then the answered places of its queue leave.
use Rattle.std.specs.Prelude.{ℕ, List, drop, slice_set, Option, Some, None, if◌then◌else◌}
use Rattle.evt_types.specs.Plan.{queue_of, is_ordered}
use Rattle.transcripts.specs.Standing.{View, places_at, oldest_at, unanswered_at, answered_places}
use Rattle.evt_types.specs.Place.{Place}
use Rattle.transcripts.specs.Transcript.{Held}
use Rattle.evt_types.specs.declared.step.Outcome.{Outcome}
use Rattle.order_parts.specs.Reorder.{oldest_answered}

-- the event's place, where its queue restores an order, is answered
abbrev pub places_answered : View → Option Held → Outcome → List (List Place)
places_answered v None o = v.places
places_answered v (Some h) o =
    if is_ordered (queue_of v.shape h.queue).kind then slice_set v.places h.queue (answered_places v h.queue h.number o) else v.places

-- the lane's oldest event is answered, and nothing has left yet
abbrev pub after_answer : View → ℕ → Outcome → View
after_answer v l o =
    record v {
      places = places_answered v (oldest_at v l) o;
      unanswered = slice_set v.unanswered l (drop 1 (unanswered_at v l));
      extras = slice_set v.extras l 0;
    }

-- the oldest place left, where it is answered
abbrev pub rest_behind : List Place → Option Place → List Place
rest_behind xs None = xs
rest_behind xs (Some x) = drop 1 xs

abbrev pub after_leave : View → ℕ → View
after_leave v q = record v { places = slice_set v.places q (rest_behind (places_at v q) (oldest_answered (places_at v q))) }
