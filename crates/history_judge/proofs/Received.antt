-- What is received of an event that was sent once; and of two events of one flow the one that was got first has the lower number.
use Rattle.std.specs.Prelude.{ℕ, ◌≡◌, ◌+◌, ◌/◌, ◌<◌, ◌≤◌, Bool, true, false, ◌&&◌, List, [], ◌==◌, length, filter, Some, None, slice_get, if◌then◌else◌}
use Rattle.std.proofs.Common.{refl, sym, ap, ◌∙◌, subst, arith, ⊎_elim, append-nil}
use Rattle.std.proofs.lemmas.Bool.{and_from, cases_Bool, cases_lt, cond-true, cond-false, false≢true}
use Rattle.std.proofs.lemmas.List.Kept.{AllPairs-filter}
use Rattle.std.proofs.lemmas.Option.{cond_some, none-some, slice_get_within}
use Rattle.evt_types.specs.Plan.{Plan, is_atomic, is_ordered, level_of, queue_of}
use Rattle.evt_types.specs.declared.event.Event.{Event}
use Rattle.evt_types.specs.declared.event.Kind.{Kind}
use Rattle.evt_types.specs.declared.event.Kind.TheVariants.{Atomic, Ordered, Parallel}
use Rattle.evt_types.specs.declared.event.Numbered.{Numbered}
use Rattle.evt_types.specs.declared.event.Reply.{Reply}
use Rattle.evt_types.specs.declared.step.Step.{Step}
use Rattle.evt_types.specs.declared.step.Step.TheVariants.{Accept, Give, Done, More, Turned, Bounced, Shut}
use Rattle.lists.proofs.Lists.{eqb_is, eqb_same, slice_get-append_left}
use Rattle.transcripts.proofs.Replies.{out-append}
use Rattle.transcripts.proofs.Waits.{entered-rises}
use Rattle.transcripts.specs.Lawful.{IsPrefix, is_of_flow}
use Rattle.transcripts.specs.Transcript.{accepted, entered, event_at, given_of, given_to, hand, named, named_at, out}
use Rattle.world_laws.proofs.Consistent.{consistent_end, consistent_none, consistent_run}
use Rattle.world_laws.proofs.Orders.{received_as_accepted}
use Rattle.world_laws.proofs.Worlds.{at_lane-same}
use Rattle.world_laws.specs.Order.{events_in, number_in, numbers_in}
use Rattle.world_laws.specs.World.{World, IsConsistent, Move, Receives, after_moves, empty, received_by_all}
use Rattle.history_judge.proofs.Fits.{count_more}
use Rattle.history_judge.proofs.Handed.{handed_low}
use Rattle.history_judge.proofs.Held.{IsPairOf, pair_of_got}
use Rattle.history_judge.proofs.Moments.{grows_to_end, grows_to_moment, moment_moves}
use Rattle.history_judge.proofs.Numbers.{count_first, same_fields}
use Rattle.history_judge.proofs.Precedence.{IsReceipt, Precedes, precedes_kept, precedes_mapped, precedes_on, precedes_pair, received_in_order}
use Rattle.history_judge.proofs.Traced.{AreMapped, mapped_in_order}
use Rattle.history_judge.proofs.Unsent.{same_value}
use Rattle.history_judge.specs.Breaches.{AreKeptInOrder, CameBefore, IsOnlyOne, WasGotBefore}
use Rattle.history_judge.specs.Histories.{Explains, IsSameBut, IsWithin, WasDone, WasGot, gets, got_before, is_got}
use Rattle.history_judge.specs.Values.{gets_value, is_same_but}
use Rattle.history_judge.specs.declared.seen.Deed.{Deed}
use Rattle.history_judge.specs.declared.seen.Deed.TheVariants.{Sent, Got}
use Rattle.history_judge.specs.declared.seen.Seen.{Seen}

-- the event that was received, its pair and its move
pub record WasReceived (hs : List Seen) (moves : List Move) (v : World) (clock : ℕ → ℕ) (i : ℕ) (s : Seen) (e : Event) : Type 0 where
  pub move : ℕ
  pub pair : ℕ × ℕ
  pub event : Event
  pub accepted : event_at v.log e.queue pair.1 ≡ Some event
  pub value : is_same_but e event ≡ true
  pub named : pair.0 ≡ e.queue
  pub received : slice_get (out v.log s.port) (got_before hs s.port i) ≡ Some pair
  pub receipt : IsReceipt moves move pair
  pub place : (after_moves moves move).received s.port ≡ got_before hs s.port i
  pub time : IsWithin s (clock move)
  pub gets : gets s.deed ≡ true

-- whether a queue of this kind keeps the order of two events: they are of one level, and of an atomic queue of one flow
abbrev rest_of : Kind → Event → Event → Bool
rest_of k d e = if is_ordered k then true else is_atomic k && (d.flow == e.flow)

abbrev keeps_of : Kind → Event → Event → Bool
keeps_of k d e = if level_of d == level_of e then rest_of k d e else false

same_level : (k : Kind) (d e : Event) → keeps_of k d e ≡ true → (level_of d ≡ level_of e) × (rest_of k d e ≡ true)
same_level k d e is =
    ⊎_elim (λ same. (eqb_is (level_of d) (level_of e) same, sym (cond-true (level_of d == level_of e) (rest_of k d e) false same) ∙ is))
    (λ differs. absurd (false≢true (sym (cond-false (level_of d == level_of e) (rest_of k d e) false differs) ∙ is))) (cases_Bool (level_of d == level_of e))

-- an event's number, in its queue, and that it is of the flow
number_is : (q : ℕ) (y : ℕ × ℕ) → y.0 ≡ q → number_in q y ≡ Some y.1
number_is q y same = cond-true (y.0 == q) (Some y.1) None (subst (λ n. (y.0 == n) ≡ true) same (eqb_same y.0))

flow_there : (d f : Event) (n : ℕ) → is_same_but d f ≡ true → is_of_flow d.flow (level_of d) (record { number = n; event = f }) ≡ true
flow_there d f n same =
    and_from (f.flow == d.flow) (level_of f == level_of d) (ap (λ m. f.flow == m) is.flow ∙ eqb_same f.flow)
    (ap (λ m. level_of f == (m / 64)) is.priority ∙ eqb_same (level_of f))
  where
    is : IsSameBut d f
    is = same_fields d f same

module _ (p : Plan) (hs : List Seen) (moves : List Move) (v : World) (clock : ℕ → ℕ) (x : Explains p hs moves v clock) where
  consistent : IsConsistent p v
  consistent = consistent_end p empty v moves x.run (consistent_none p)

  -- the pair is the next that the lane receives
  next_pair : (i : ℕ) (s : Seen) (e : Event) (was : WasGot hs moves v clock i s e) → IsReceipt moves was.move was.pair
  next_pair i s e was = record { lane = s.port; made = was.made; pair = given }
    where
      now : World
      now = after_moves moves was.move

      after : IsConsistent p (after_moves moves (was.move + 1))
      after = consistent_run p empty v moves x.run (consistent_none p) (was.move + 1)

      front : IsPrefix now.log v.log
      front = (grows_to_end p v moves was.move x.run).log

      within : now.received s.port < length (out now.log s.port)
      within =
          omega (
            arith,
            after.received s.port,
            ap (λ (w : World). w.received s.port) (moment_moves moves was.move (Receives s.port) was.made),
            ap (λ (w : World). length (out w.log s.port)) (moment_moves moves was.move (Receives s.port) was.made),
            at_lane-same s.port (now.received s.port + 1) now.received,
          )

      given : slice_get (out now.log s.port) (now.received s.port) ≡ Some was.pair
      given =
          sym (slice_get-append_left (out now.log s.port) (out front.0 s.port) (now.received s.port) within)
          ∙ (ap (λ xs. slice_get xs (now.received s.port)) (sym (out-append now.log front.0 s.port) ∙ ap (λ T. out T s.port) front.1)
          ∙ (ap (slice_get (out v.log s.port)) was.place ∙ was.received))

  pub was_received : {is : Reply → Bool} (i : ℕ) (o : IsOnlyOne is hs i) → WasReceived hs moves v clock i o.getter o.reply.event
  was_received i o = by_deed o.getter.deed refl o.got
    where
      e : Event
      e = o.reply.event

      by_deed : (d : Deed) → o.getter.deed ≡ d → gets_value e d ≡ true → WasReceived hs moves v clock i o.getter e
      by_deed (Sent r) is got = absurd (false≢true got)
      by_deed (Got f) is got =
          record {
            move = was.move;
            pair = was.pair;
            event = was.event;
            accepted = ap (λ q. event_at v.log q was.pair.1) (sym queue) ∙ was.accepted;
            value = sym (same_value e f was.event was.same) ∙ got;
            named = queue;
            received = was.received;
            receipt = next_pair i o.getter f was;
            place = was.place;
            time = was.time;
            gets = ap gets is;
          }
        where
          was : WasGot hs moves v clock i o.getter f
          was = subst (WasDone hs moves v clock i o.getter) is (x.each i o.getter o.dequeued)

          is_pair : IsPairOf p v.log was.pair f
          is_pair =
              pair_of_got p v.log v.log was.pair f was.event consistent.lawful ([], append-nil v.log) (slice_get_within (accepted v.log was.pair.0) was.pair.1 was.event was.accepted) was.accepted
              was.same

          queue : was.pair.0 ≡ e.queue
          queue = is_pair.queue ∙ sym (same_fields e f got).queue

  -- what was got before was received before
  moved_before : (i j : ℕ) (s u : Seen) (d e : Event) → slice_get hs j ≡ Some u → (one : WasReceived hs moves v clock i s d) → (other : WasReceived hs moves v clock j u e) → WasGotBefore j u i s
      → other.move < one.move
  moved_before i j s u d e at one other before = ⊎_elim (λ lt. lt) (λ ge. absurd (late ge before)) (cases_lt other.move one.move)
    where
      late : one.move ≤ other.move → WasGotBefore j u i s → ⊥
      late ge = ⊎_elim (λ same. by_place same.0 same.1) (λ ended. omega (arith, ended, x.rises one.move other.move ge, one.time.began, other.time.ended))
        where
          by_place : u.port ≡ s.port → j < i → ⊥
          by_place port lt =
              omega (
                arith,
                (grows_to_moment moves one.move other.move ge).received s.port,
                one.place,
                subst (λ l. (after_moves moves other.move).received l ≡ got_before hs l j) port other.place,
                count_more (is_got s.port) hs j u at,
                cond-true {A = ℕ} (is_got s.port u) 1 0 (and_from (u.port == s.port) (gets u.deed) (ap (λ l. u.port == l) (sym port) ∙ eqb_same u.port) other.gets),
                count_first (is_got s.port) hs (j + 1) i (omega (arith, lt)),
              )

  -- of two events of one flow and level of an atomic queue the one that was got first has the lower number
  lower_of_flow : (i j : ℕ) (s u : Seen) (d e : Event) → slice_get hs j ≡ Some u → (one : WasReceived hs moves v clock i s d) → (other : WasReceived hs moves v clock j u e) → (atomic : is_atomic (queue_of p d.queue).kind ≡ true)
      → d.queue ≡ e.queue → d.flow ≡ e.flow → level_of d ≡ level_of e → WasGotBefore j u i s → other.pair.1 < one.pair.1
  lower_of_flow i j s u d e at one other atomic queue flow level before =
      precedes_pair (λ (w y : Numbered). w.number < y.number) (filter of_flow (entered v.log d.queue)) second first among
      (AllPairs-filter (λ (w y : Numbered). w.number < y.number) of_flow (entered v.log d.queue) (entered-rises v.log d.queue))
    where
      of_flow : Numbered → Bool
      of_flow = is_of_flow d.flow (level_of d)

      first : Numbered
      first = record { number = one.pair.1; event = one.event }

      second : Numbered
      second = record { number = other.pair.1; event = other.event }

      accepted_there : event_at v.log d.queue other.pair.1 ≡ Some other.event
      accepted_there = ap (λ q. event_at v.log q other.pair.1) queue ∙ other.accepted

      -- it was received first
      received : Precedes (received_by_all moves) other.pair one.pair
      received =
          received_in_order moves other.move one.move other.pair one.pair (moved_before i j s u d e at one other before) other.receipt one.receipt

      numbers : Precedes (numbers_in d.queue (received_by_all moves)) other.pair.1 one.pair.1
      numbers =
          precedes_mapped (number_in d.queue) (received_by_all moves) other.pair one.pair other.pair.1 one.pair.1 received (number_is d.queue other.pair (other.named ∙ sym queue))
          (number_is d.queue one.pair one.named)

      events : Precedes (events_in v.log d.queue (received_by_all moves)) second first
      events =
          precedes_mapped (named_at v.log d.queue) (numbers_in d.queue (received_by_all moves)) other.pair.1 one.pair.1 second first numbers (ap (named other.pair.1) accepted_there)
          (ap (named one.pair.1) one.accepted)

      second_of : of_flow second ≡ true
      second_of =
          subst (λ f. is_of_flow f (level_of d) second ≡ true) (sym flow)
          (subst (λ c. is_of_flow e.flow c second ≡ true) (sym level) (flow_there e other.event other.pair.1 other.value))

      kept : Precedes (filter of_flow (events_in v.log d.queue (received_by_all moves))) second first
      kept = precedes_kept of_flow (events_in v.log d.queue (received_by_all moves)) second first events second_of (flow_there d one.event one.pair.1 one.value)

      among : Precedes (filter of_flow (entered v.log d.queue)) second first
      among =
          precedes_on (filter of_flow (events_in v.log d.queue (received_by_all moves))) (filter of_flow (entered v.log d.queue)) second first kept
          (received_as_accepted p moves v x.run consistent d.queue atomic d.flow (level_of d))

  -- of two events of one level of an ordered queue that a port got
  lower_of_level : (i j : ℕ) (s u : Seen) (d e : Event) → slice_get hs j ≡ Some u → (one : WasReceived hs moves v clock i s d) → (other : WasReceived hs moves v clock j u e) → is_ordered (queue_of p d.queue).kind ≡ true
      → d.queue ≡ e.queue → level_of d ≡ level_of e → u.port ≡ s.port → j < i → other.pair.1 < one.pair.1
  unfolding out hand
  lower_of_level i j s u d e at one other ordered queue level port lt =
      handed_low p v.log d.queue other.pair.1 one.pair.1 other.event one.event consistent.lawful accepted_there one.accepted level_there ordered handed
    where
      accepted_there : event_at v.log d.queue other.pair.1 ≡ Some other.event
      accepted_there = ap (λ q. event_at v.log q other.pair.1) queue ∙ other.accepted

      level_there : (level_of other.event == level_of one.event) ≡ true
      level_there =
          ap (λ n. (n / 64) == level_of one.event) (sym (same_fields e other.event other.value).priority)
          ∙ (ap (λ n. n == level_of one.event) (sym level) ∙ (ap (λ n. level_of d == (n / 64)) (sym (same_fields d one.event one.value).priority) ∙ eqb_same (level_of d)))

      before : got_before hs s.port j < got_before hs s.port i
      before =
          omega (
            arith,
            count_more (is_got s.port) hs j u at,
            cond-true {A = ℕ} (is_got s.port u) 1 0 (and_from (u.port == s.port) (gets u.deed) (ap (λ l. u.port == l) (sym port) ∙ eqb_same u.port) other.gets),
            count_first (is_got s.port) hs (j + 1) i (omega (arith, lt)),
          )

      gives : AreMapped (given_to s.port) v.log other.pair one.pair
      gives =
          mapped_in_order (given_to s.port) v.log (got_before hs s.port j) (got_before hs s.port i) other.pair one.pair before
          (subst (λ l. slice_get (out v.log l) (got_before hs l j) ≡ Some other.pair) port other.received) one.received

      given : (t : Step) (x : ℕ × ℕ) → given_to s.port t ≡ Some x → x.0 ≡ d.queue → given_of d.queue t ≡ Some x.1
      given t x is named = by_step t is
        where
          by_step : (t : Step) → given_to s.port t ≡ Some x → given_of d.queue t ≡ Some x.1
          by_step (Give l q n) is =
              let same = (cond_some (l == s.port) (q, n) x is).1 in
              cond-true (q == d.queue) (Some n) None (ap (λ m. q == m) (sym named ∙ ap (λ (y : ℕ × ℕ). y.0) (sym same)) ∙ eqb_same q) ∙ ap (λ (y : ℕ × ℕ). Some y.1) same
          by_step (Accept q f c) is = absurd (none-some x is)
          by_step (Done l o) is = absurd (none-some x is)
          by_step (More l f) is = absurd (none-some x is)
          by_step (Turned l f) is = absurd (none-some x is)
          by_step (Bounced l) is = absurd (none-some x is)
          by_step Shut is = absurd (none-some x is)

      handed : Precedes (hand v.log d.queue) other.pair.1 one.pair.1
      handed =
          precedes_mapped (given_of d.queue) v.log gives.first gives.second other.pair.1 one.pair.1 gives.order (given gives.first other.pair gives.one (other.named ∙ sym queue))
          (given gives.second one.pair gives.other one.named)

  -- Of two events whose order their queue keeps the one that was got first has the lower number.
  pub first_is_lower : (i j : ℕ) (s u : Seen) (d e : Event) → slice_get hs j ≡ Some u → (one : WasReceived hs moves v clock i s d) → (other : WasReceived hs moves v clock j u e)
      → AreKeptInOrder p d e → CameBefore (queue_of p d.queue).kind j u i s → other.pair.1 < one.pair.1
  first_is_lower i j s u d e at one other same = by_kind (queue_of p d.queue).kind refl same.kept
    where
      by_kind : (k : Kind) → (queue_of p d.queue).kind ≡ k → keeps_of k d e ≡ true → CameBefore k j u i s → other.pair.1 < one.pair.1
      by_kind Atomic kind is before =
          let both = same_level Atomic d e is in lower_of_flow i j s u d e at one other (ap is_atomic kind) same.queue (eqb_is d.flow e.flow both.1) both.0 before
      by_kind Ordered kind is before = lower_of_level i j s u d e at one other (ap is_ordered kind) same.queue (same_level Ordered d e is).0 before.0 before.1
      by_kind Parallel kind is before = absurd before
