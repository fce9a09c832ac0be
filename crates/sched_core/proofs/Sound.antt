-- Each core holds what bounds the steps of a reply, and what may be kept, at whatever transcript it stands.
use Rattle.std.proofs.Common.{◌<◌, ◌≤◌, length, map, subst, sym, ◌∙◌, arith}
use Rattle.std.proofs.lemmas.List.{length-map}
use Rattle.evt_types.specs.Place.{Place}
use Rattle.evt_types.specs.declared.event.TheConstants.{MAX_FORWARDS}
use Rattle.evt_types.specs.Plan.{kept_room, queue_of}
use Rattle.sched_core.specs.Ordered.{places_in}
use Rattle.sched_core.specs.Sized.{IsSized}
use Rattle.sched_core.specs.View.{IsCore, unanswered_in, view_in, waiting_in}
use Rattle.sched_core.specs.declared.state.Core.TheInside.{Inside}
use Rattle.sched_core.proofs.Cores.{in_view, places_here}
use Rattle.sched_core.proofs.Pinned.{oldest_known as known_of}
use Rattle.transcripts.proofs.Fewness.{AreSound}
use Rattle.transcripts.proofs.PlaceFacts.{Differ}
use Rattle.std.specs.List.{All, AllPairs}

pub core_sound : (a : Inside) → IsCore a → AreSound (view_in a)
core_sound a core =
    record {
      long = length-map a.orders places_in ∙ core.places.count;
      differ = λ q h. subst (AllPairs Differ) (sym (places_here a q core h)) (core.places.each q h).distinct;
      few = λ q h. subst (All (λ (x : Place). length x.forwards ≤ MAX_FORWARDS)) (sym (places_here a q core h)) (λ k d lt. ((core.places.each q h).keeps k d lt).few.few);
      fit = λ q h.
          let room = core.places.each q h in
          subst (λ xs. length xs ≤ kept_room (queue_of a.shape q)) (sym (places_here a q core h)) (omega (arith, room.room, room.within));
      there = λ l h lane ordered is.
          let within : l < length a.lanes = omega (arith, core.lanes, lane) in
          known_of a.shape (map unanswered_in a.lanes) a.pins l h core.pins (in_view a l within) is;
    }

-- and of its lists there is one for each queue or lane
pub core_sized : (a : Inside) → IsCore a → IsSized (view_in a)
core_sized a core =
    record {
      waiting = length-map a.queues waiting_in ∙ core.queues;
      places = length-map a.orders places_in ∙ core.places.count;
      unanswered = length-map a.lanes unanswered_in ∙ core.lanes;
    }
