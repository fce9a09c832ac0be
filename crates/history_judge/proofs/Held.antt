-- What an entry that was got tells of a run that fits: its pair, its slot, and that it is in hand while it isn't answered.
use Rattle.std.specs.Prelude.{ℕ, ◌≡◌, ◌+◌, ◌-◌, ◌<◌, ◌≤◌, List, length, take, drop, All, count_by, filter_map, Some, slice_get}
use Rattle.std.proofs.Common.{refl, sym, ap, ◌∙◌, subst, arith, get_or, get_or-drop, get_or-take, length-drop, length-take}
use Rattle.std.proofs.lemmas.List.Elements.{All-weaker, filter_map-append}
use Rattle.std.proofs.lemmas.Option.{get_or_from_slice_get, slice_get_read, slice_get_within}
use Rattle.evt_types.specs.Operation.{is_answer}
use Rattle.evt_types.specs.Plan.{Plan, slot_of}
use Rattle.evt_types.specs.declared.event.Event.{Event}
use Rattle.evt_types.specs.declared.step.Source.{Source}
use Rattle.evt_types.specs.declared.step.Source.TheVariants.{New, Of}
use Rattle.evt_types.specs.declared.step.Step.{Step}
use Rattle.evt_types.specs.declared.step.Step.TheVariants.{Accept}
use Rattle.lists.proofs.Lists.{All-filter_map, All-slice_get, slice_get-append_left}
use Rattle.transcripts.proofs.Facts.{out_is_accepted}
use Rattle.transcripts.proofs.Pushes.{HasEvent, accepted_in_is}
use Rattle.transcripts.proofs.Replies.{out-append}
use Rattle.transcripts.proofs.WholeStands.{facts_of}
use Rattle.transcripts.specs.Lawful.{IsEntry, IsFormed, IsPrefix, Lawful}
use Rattle.transcripts.specs.Transcript.{accepted, accepted_in, event_at, out, slot_at, slot_if}
use Rattle.world_laws.proofs.Consistent.{consistent_end, consistent_none, consistent_run}
use Rattle.world_laws.proofs.Worlds.{at_lane-same}
use Rattle.world_laws.specs.World.{World, IsConsistent, Move, Receives, after_moves, empty, in_hand}
use Rattle.history_judge.proofs.Fits.{answers_few}
use Rattle.history_judge.proofs.Moments.{grows_to_end, grows_to_moment, made_by, made_early, moment_moves}
use Rattle.history_judge.specs.Histories.{Explains, IsHeldAt, IsSameBut, WasDone, WasGot, got_before}
use Rattle.history_judge.specs.declared.seen.Deed.TheVariants.{Got}
use Rattle.history_judge.specs.declared.seen.Seen.{Seen}

-- ---- accepted events

formed_entry : (p : Plan) (q : ℕ) (e : Event) (c : Source) → IsFormed p (Accept q e c) → IsEntry p q e
formed_entry p q e (New l) formed = formed.entry
formed_entry p q e (Of r n) formed = formed.entry

-- each is of a queue that is there, and names it
entries_formed : (p : Plan) (T : List Step) (q : ℕ) → All (IsFormed p) T → All (IsEntry p q) (accepted T q)
unfolding accepted
entries_formed p T q formed =
    All-filter_map (IsEntry p q) (accepted_in q) T (All-weaker (IsFormed p) (λ s. (e : Event) → accepted_in q s ≡ Some e → IsEntry p q e) by_step T formed)
  where
    by_step : (s : Step) → IsFormed p s → (e : Event) → accepted_in q s ≡ Some e → IsEntry p q e
    by_step s is e at = let accept = accepted_in_is q s e at in formed_entry p q e accept.0 (subst (IsFormed p) accept.1 is)

pub event_stays : (P T : List Step) (q n : ℕ) (e : Event) → IsPrefix P T → n < length (accepted P q) → event_at T q n ≡ Some e → event_at P q n ≡ Some e
unfolding accepted
event_stays P T q n e front within at =
    sym (slice_get-append_left (filter_map (accepted_in q) P) (filter_map (accepted_in q) front.0) n within)
    ∙ (ap (λ es. slice_get es n) (sym (filter_map-append (accepted_in q) P front.0))
    ∙ (ap (λ U. event_at U q n) front.1 ∙ at))

-- ---- hands

-- what stands behind what was dropped, and in what was taken
slice_get_part : {X : Type 0} (xs : List X) (c n g : ℕ) (x : X) → slice_get xs g ≡ Some x → c ≤ g → g < n → slice_get (drop c (take n xs)) (g - c) ≡ Some x
slice_get_part xs c n g x at from to =
    slice_get_read (drop c (take n xs)) (length (drop c (take n xs))) (g - c) x refl
    (omega (arith, slice_get_within xs g x at, length-drop c (take n xs), length-take n xs))
    (sym (get_or-drop c (take n xs) (g - c) x
    ∙ (ap (λ k. get_or (take n xs) k x) place ∙ (get_or-take n xs g x to ∙ get_or_from_slice_get xs g x x at))))
  where
    place : c + (g - c) ≡ g
    place = omega (arith, from)

-- ---- what was got

-- a pair whose event is this one but for what a device changes: its queue is there, it is the event's, and so is its slot
pub record IsPairOf (p : Plan) (T : List Step) (pair : ℕ × ℕ) (e : Event) : Type 0 where
  pub known : pair.0 < length p.queues
  pub queue : pair.0 ≡ e.queue
  pub slot : slot_at p T pair.0 pair.1 ≡ slot_of p e.queue e.flow

-- at each moment by which it was accepted
pub pair_of_got : (p : Plan) (P T : List Step) (pair : ℕ × ℕ) (e f : Event) → Lawful p T → IsPrefix P T → pair.1 < length (accepted P pair.0)
    → event_at T pair.0 pair.1 ≡ Some f → IsSameBut e f → IsPairOf p P pair e
pair_of_got p P T pair e f lawful front within at same =
    record {
      known = entry.queue;
      queue = sym entry.named ∙ sym same.queue;
      slot = ap (slot_if p pair.0) (event_stays P T pair.0 pair.1 f front within at) ∙ (ap (slot_of p pair.0) (sym same.flow) ∙ ap (λ q. slot_of p q e.flow) (sym entry.named ∙ sym same.queue));
    }
  where
    entry : IsEntry p pair.0 f
    entry = All-slice_get (IsEntry p pair.0) (accepted T pair.0) pair.1 f (entries_formed p T pair.0 lawful.formed) at

-- a pair of the lane's hand
pub record HoldsEvent (p : Plan) (w : World) (l : ℕ) (e : Event) : Type 0 where
  pub place : ℕ
  pub pair : ℕ × ℕ
  pub there : slice_get (in_hand w l) place ≡ Some pair
  pub is : IsPairOf p w.log pair e

-- what was got by then is among what was received by then
pub got_by : (p : Plan) (hs : List Seen) (moves : List Move) (v : World) (clock : ℕ → ℕ) (i t : ℕ) (s : Seen) (e : Event) → Explains p hs moves v clock
    → WasGot hs moves v clock i s e → s.ended ≤ t → got_before hs s.port i < (after_moves moves (made_by clock t (length moves))).received s.port
got_by p hs moves v clock i t s e x was since =
    omega (
      arith,
      (grows_to_moment moves (was.move + 1) (made_by clock t (length moves)) early).received s.port,
      ap (λ (w : World). w.received s.port) (moment_moves moves was.move (Receives s.port) was.made),
      at_lane-same s.port ((after_moves moves was.move).received s.port + 1) (after_moves moves was.move).received,
      was.place,
    )
  where
    early : was.move + 1 ≤ made_by clock t (length moves)
    early =
        omega (arith, made_early clock t (length moves) was.move (slice_get_within moves was.move (Receives s.port) was.made) (omega (arith, was.time.ended, since)))

-- the pair was given in the world with this number, and is of an event that was accepted
pub record IsGivenIn (w : World) (l n : ℕ) (pair : ℕ × ℕ) : Type 0 where
  pub given : slice_get (out w.log l) n ≡ Some pair
  pub accepted : pair.1 < length (accepted w.log pair.0)

pub given_by : (p : Plan) (hs : List Seen) (moves : List Move) (v : World) (clock : ℕ → ℕ) (i t : ℕ) (s : Seen) (e : Event) → Explains p hs moves v clock
    → (was : WasGot hs moves v clock i s e) → s.ended ≤ t → IsGivenIn (after_moves moves (made_by clock t (length moves))) s.port (got_before hs s.port i) was.pair
given_by p hs moves v clock i t s e x was since =
    record {
      given = given;
      accepted =
          All-slice_get (HasEvent now.log) (out now.log s.port) (got_before hs s.port i) was.pair (out_is_accepted p now.log s.port (facts_of p now.log consistent.lawful)) given;
    }
  where
    now : World
    now = after_moves moves (made_by clock t (length moves))

    consistent : IsConsistent p now
    consistent = consistent_run p empty v moves x.run (consistent_none p) (made_by clock t (length moves))

    front : IsPrefix now.log v.log
    front = (grows_to_end p v moves (made_by clock t (length moves)) x.run).log

    given : slice_get (out now.log s.port) (got_before hs s.port i) ≡ Some was.pair
    given =
        sym (slice_get-append_left (out now.log s.port) (out front.0 s.port) (got_before hs s.port i) (omega (arith, got_by p hs moves v clock i t s e x was since, consistent.received s.port)))
        ∙ (ap (λ xs. slice_get xs (got_before hs s.port i)) (sym (out-append now.log front.0 s.port) ∙ ap (λ T. out T s.port) front.1) ∙ was.received)

-- an entry that is held is in its port's hand, in each run that fits
pub held_in_hand : (p : Plan) (hs : List Seen) (moves : List Move) (v : World) (clock : ℕ → ℕ) (i t : ℕ) (s : Seen) (e : Event) → Explains p hs moves v clock
    → IsHeldAt hs i t s → s.port < length p.ports → s.deed ≡ Got e → HoldsEvent p (after_moves moves (made_by clock t (length moves))) s.port e
held_in_hand p hs moves v clock i t s e x held port got =
    record {
      place = got_before hs s.port i - count_by is_answer (now.submitted s.port);
      pair = was.pair;
      there = slice_get_part (out now.log s.port) (count_by is_answer (now.submitted s.port)) (now.received s.port) (got_before hs s.port i) was.pair is_given.given (omega (arith, held.unanswered, answers_few p hs moves v clock s.port t x port)) received;
      is = pair_of_got p now.log v.log was.pair e was.event (consistent_end p empty v moves x.run (consistent_none p)).lawful front is_given.accepted was.accepted was.same;
    }
  where
    now : World
    now = after_moves moves (made_by clock t (length moves))

    was : WasGot hs moves v clock i s e
    was = subst (WasDone hs moves v clock i s) got (x.each i s held.entry)

    front : IsPrefix now.log v.log
    front = (grows_to_end p v moves (made_by clock t (length moves)) x.run).log

    received : got_before hs s.port i < now.received s.port
    received = got_by p hs moves v clock i t s e x was held.since

    is_given : IsGivenIn now s.port (got_before hs s.port i) was.pair
    is_given = given_by p hs moves v clock i t s e x was held.since
