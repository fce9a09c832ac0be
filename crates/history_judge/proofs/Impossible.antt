-- A breach fits no run.
use Rattle.std.specs.Prelude.{ℕ, ◌≡◌, ◌≢◌, ◌<◌, true, List, [], length, All, nat_lt}
use Rattle.std.proofs.Common.{sym, ap, ◌∙◌, subst, arith, append-nil}
use Rattle.std.proofs.lemmas.Bool.{and_from, both_ways, lt-ltb}
use Rattle.std.proofs.lemmas.List.{take_all}
use Rattle.evt_types.specs.Plan.{Plan, serves, slot_of}
use Rattle.evt_types.specs.declared.event.Event.{Event}
use Rattle.lists.proofs.Lists.{All-slice_get, All-unmap}
use Rattle.transcripts.proofs.Facts.{out_is_accepted}
use Rattle.transcripts.proofs.Pushes.{HasEvent}
use Rattle.transcripts.proofs.WholeStands.{facts_of}
use Rattle.transcripts.specs.Lawful.{AreApart, IsLinked, Lawful}
use Rattle.transcripts.specs.Transcript.{accepted, held_at, out, slot_at}
use Rattle.world_laws.proofs.Consistent.{consistent_end, consistent_none, consistent_run}
use Rattle.world_laws.proofs.Hands.{held_alone}
use Rattle.world_laws.specs.Order.{IsHeldAlone, held_in}
use Rattle.world_laws.specs.World.{World, after_moves, empty, in_hand}
use Rattle.history_judge.proofs.Crowded.{crowded_fits_none}
use Rattle.history_judge.proofs.Held.{HoldsEvent, IsPairOf, held_in_hand, pair_of_got}
use Rattle.history_judge.proofs.Moments.{made_by}
use Rattle.history_judge.proofs.Overfull.{overfull_fits_none}
use Rattle.history_judge.proofs.Overtaken.{overtaken_fits_none}
use Rattle.history_judge.proofs.Premature.{early_fits_none}
use Rattle.history_judge.proofs.Reordered.{reordered_fits_none}
use Rattle.history_judge.proofs.Unsent.{unsent_fits_none}
use Rattle.history_judge.specs.Breaches.{AreOfOneSlot, IsBreach, IsTogether, IsUnlinked, may_get}
use Rattle.history_judge.specs.Histories.{IsImpossible, WasDone, WasGot, got_before}
use Rattle.history_judge.specs.declared.breach.Breach.{Breach}
use Rattle.history_judge.specs.declared.breach.Breach.TheVariants.{Unlinked, Together, Unsent, Early, Overtaken, Reordered, Overfull, Crowded}
use Rattle.history_judge.specs.declared.seen.Seen.{Seen}

-- ---- what a port may get

unlinked_fits_none : (p : Plan) (hs : List Seen) (i : ℕ) → IsUnlinked p hs i → IsImpossible p hs
unlinked_fits_none p hs i b moves v clock x = both_ways (may_get p s.port b.event) b.refused may
  where
    s : Seen
    s = b.seen

    was : WasGot hs moves v clock i s b.event
    was = subst (WasDone hs moves v clock i s) b.got (x.each i s b.entry)

    lawful : Lawful p v.log
    lawful = (consistent_end p empty v moves x.run (consistent_none p)).lawful

    there : was.pair.1 < length (accepted v.log was.pair.0)
    there =
        All-slice_get (HasEvent v.log) (out v.log s.port) (got_before hs s.port i) was.pair (out_is_accepted p v.log s.port (facts_of p v.log lawful)) was.received

    is : IsPairOf p v.log was.pair b.event
    is = pair_of_got p v.log v.log was.pair b.event was.event lawful ([], append-nil v.log) there was.accepted was.same

    linked : IsLinked p v.log
    linked = subst (IsLinked p) (take_all (length v.log) v.log (omega arith)) (lawful.linked (length v.log) (omega arith))

    serving : serves p s.port was.pair.0 (slot_at p v.log was.pair.0 was.pair.1) ≡ true
    serving =
        All-slice_get (λ (y : ℕ × ℕ). serves p s.port y.0 (slot_at p v.log y.0 y.1) ≡ true) (out v.log s.port) (got_before hs s.port i) was.pair (linked s.port) was.received

    may : may_get p s.port b.event ≡ true
    may =
        and_from (nat_lt (b.event).queue (length p.queues)) (serves p s.port (b.event).queue (slot_of p (b.event).queue (b.event).flow))
        (lt-ltb (b.event).queue (length p.queues) (subst (λ q. q < length p.queues) is.queue is.known))
        (ap (serves p s.port (b.event).queue) (sym is.slot) ∙ (ap (λ q. serves p s.port q (slot_at p v.log was.pair.0 was.pair.1)) (sym is.queue) ∙ serving))

-- ---- who may hold a slot

-- two hands don't hold events of one slot
apart_in_hands : (p : Plan) (w : World) (l m : ℕ) (e f : Event) → IsHeldAlone p w → l ≢ m → HoldsEvent p w l e → HoldsEvent p w m f → AreOfOneSlot p e f → ⊥
apart_in_hands p w l m e f alone differs one other same =
    differ one.is.queue (other.is.queue ∙ sym same.queue) (one.is.slot ∙ (same.slot ∙ sym other.is.slot))
  where
    beside : All (λ y. AreApart e.queue (held_at p w.log one.pair) y) (held_in p w m)
    beside =
        All-slice_get (λ x. All (λ y. AreApart e.queue (held_at p w.log x) y) (held_in p w m)) (in_hand w l) one.place one.pair
        (All-unmap (λ x. All (λ y. AreApart e.queue x y) (held_in p w m)) (held_at p w.log) (in_hand w l) (alone e.queue same.atomic l m differs))
        one.there

    differ : AreApart e.queue (held_at p w.log one.pair) (held_at p w.log other.pair)
    differ =
        All-slice_get (λ y. AreApart e.queue (held_at p w.log one.pair) (held_at p w.log y)) (in_hand w m) other.place other.pair
        (All-unmap (AreApart e.queue (held_at p w.log one.pair)) (held_at p w.log) (in_hand w m) beside) other.there

together_fits_none : (p : Plan) (hs : List Seen) (i j : ℕ) → IsTogether p hs i j → IsImpossible p hs
together_fits_none p hs i j b moves v clock x =
    apart_in_hands p (after_moves moves now) b.one.port b.other.port b.one_event b.other_event
    (held_alone p (after_moves moves now) (consistent_run p empty v moves x.run (consistent_none p) now)) b.apart
    (held_in_hand p hs moves v clock i b.time b.one b.one_event x b.one_held b.one_port b.one_got)
    (held_in_hand p hs moves v clock j b.time b.other b.other_event x b.other_held b.other_port b.other_got) b.same
  where
    now : ℕ
    now = made_by clock b.time (length moves)

pub breach_fits_none : (p : Plan) (hs : List Seen) (b : Breach) → IsBreach p hs b → IsImpossible p hs
breach_fits_none p hs (Unlinked i) b = unlinked_fits_none p hs i b
breach_fits_none p hs (Together i j) b = together_fits_none p hs i j b
breach_fits_none p hs (Unsent i) b = unsent_fits_none p hs i b
breach_fits_none p hs (Early i) b = early_fits_none p hs i b
breach_fits_none p hs (Overtaken i j) b = overtaken_fits_none p hs i j b
breach_fits_none p hs (Reordered i j) b = reordered_fits_none p hs i j b
breach_fits_none p hs (Overfull i) b = overfull_fits_none p hs i b
breach_fits_none p hs (Crowded i) b = crowded_fits_none p hs i b
