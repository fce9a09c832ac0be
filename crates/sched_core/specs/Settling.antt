-- What an answer of an ordered queue's event sets free: the answered places at the front leave, one after the other, and
-- what they were passed on as is accepted.
use Rattle.std.specs.Prelude.{ℕ, ◌≡◌, Bool, ◌||◌, List, ◌++◌, drop, flat_map, slice_set, Option, Some, None}
use Rattle.std.specs.List.{list_any}
use Rattle.transcripts.specs.Standing.{View, places_at, unanswered_at, answered_places, leaving, staying, accepts_from, after}
use Rattle.evt_types.specs.Place.{Place}
use Rattle.transcripts.specs.Transcript.{Held}
use Rattle.evt_types.specs.declared.step.Outcome.{Outcome}
use Rattle.evt_types.specs.declared.step.Step.{Step}
use Rattle.order_parts.specs.Reorder.{oldest_answered}
use Rattle.sched_core.specs.Taken.{is_accept_of}

abbrev pub with_places_at : View → ℕ → List Place → View
with_places_at v q xs = record v { places = slice_set v.places q xs }

-- what is accepted of the places that leave
abbrev pub leaving_steps : ℕ → List Place → List Step
leaving_steps q xs = flat_map (λ (x : Place). accepts_from q x.number x.forwards) (leaving xs)

abbrev pub flush_steps : View → ℕ → List Step
flush_steps v q = leaving_steps q (places_at v q)

-- once no answered place is at the queue's front
abbrev pub flushed : View → ℕ → View
flushed v q = after (with_places_at v q (staying (places_at v q))) (flush_steps v q)

-- once the first place left
abbrev pub after_leaving_of : View → ℕ → Place → View
after_leaving_of v q x = after (with_places_at v q (drop 1 (places_at v q))) (accepts_from q x.number x.forwards)

-- once the lane's oldest event is answered, and before a place leaves
abbrev pub answered_view : View → ℕ → Held → Outcome → View
answered_view v l h o =
    record v {
      places = slice_set v.places h.queue (answered_places v h.queue h.number o);
      unanswered = slice_set v.unanswered l (drop 1 (unanswered_at v l));
      extras = slice_set v.extras l 0;
    }

-- One place left the queue's front, and what its event was passed on as is accepted: whether that is something, and of the number.
pub record IsPassedOn (q mine : ℕ) (v : View) (log : List Step) (w : View) (new : List Step) (passed : Bool) : Type 0 where
  pub place : Place
  pub oldest : oldest_answered (places_at v q) ≡ Some place
  pub view : w ≡ after_leaving_of v q place
  pub steps : new ≡ log ++ accepts_from q place.number place.forwards
  pub passes : passed ≡ list_any (is_accept_of q mine) (accepts_from q place.number place.forwards)

-- the oldest place was passed on, or it isn't answered and nothing was done
abbrev pub IsTurn : ℕ → ℕ → View → List Step → View → List Step → Option Bool → Type 0
IsTurn q mine v log w new None = (oldest_answered (places_at v q) ≡ None) × (w ≡ v) × (new ≡ log)
IsTurn q mine v log w new (Some passed) = IsPassedOn q mine v log w new passed

-- Places have left since the view and the log were those of the start: what is still to come makes the same of both, and
-- whether the event of this number was passed on is told by what came and what is to come.
pub record IsOnTheWay (q mine : ℕ) (start : View) (first : List Step) (v : View) (log : List Step) (passed : Bool) : Type 0 where
  pub view : flushed v q ≡ flushed start q
  pub steps : log ++ flush_steps v q ≡ first ++ flush_steps start q
  pub passes : (passed || list_any (is_accept_of q mine) (flush_steps v q)) ≡ list_any (is_accept_of q mine) (flush_steps start q)
