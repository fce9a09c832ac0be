-- Holds of entries: two entries are held together exactly where their holds are of one cell and of two ports and meet.
use Rattle.std.specs.Prelude.{ℕ, ◌≡◌, ◌≢◌, ◌+◌, ◌*◌, ◌<◌, ◌≤◌, ◌%◌, true, false, List, length, nat_lt, Some, slice_get}
use Rattle.std.proofs.Common.{refl, sym, ap, ◌∙◌, arith, subst, ⊎_elim}
use Rattle.std.proofs.lemmas.Bool.{and_parts, both_ways, cases_lt, cond-true, false≢true, false_from_ne_true, ltb-true, not-false, not-true, true_from_ne_false}
use Rattle.std.proofs.lemmas.Nat.{mod_below}
use Rattle.std.proofs.lemmas.Option.{same_Some, slice_get_within}
use Rattle.evt_types.specs.Fault.{IsBetween, IsWithinLimits}
use Rattle.evt_types.specs.Limits.{most_slots}
use Rattle.evt_types.specs.Plan.{Plan, is_atomic, lanes_of, queue_of, serves, slot_of}
use Rattle.evt_types.specs.declared.event.Event.{Event}
use Rattle.evt_types.specs.declared.event.Kind.TheVariants.{Parallel}
use Rattle.history_judge.proofs.RisingTimes.{begun_are_past, not_past, times_rise, to_come}
use Rattle.history_judge.specs.Breaches.{IsTogether, IsUnlinked, may_get}
use Rattle.history_judge.specs.Histories.{IsHeldAt, gets, got_before}
use Rattle.history_judge.specs.Holds.{IsHoldOf, answer_times, cell_of, ends_after, got_badly, got_wrongly}
use Rattle.history_judge.specs.Watching.{IsFit}
use Rattle.history_judge.specs.declared.holds.Hold.{Hold}
use Rattle.history_judge.specs.declared.seen.Deed.{Deed}
use Rattle.history_judge.specs.declared.seen.Deed.TheVariants.{Sent, Got}
use Rattle.history_judge.specs.declared.seen.Seen.{Seen}
use Rattle.std.specs.declared.alloc.Global.{Global}
use Rattle.std.specs.declared.vec.Vec.{Vec}

-- ---- the cell of a slot

-- a slot is one of few
pub slot_low : (p : Plan) (q flow : ℕ) → IsWithinLimits p → q < length p.queues → is_atomic (queue_of p q).kind ≡ true → slot_of p q flow < most_slots
slot_low p q flow within there atomic =
    subst (λ n. n < most_slots) (sym (cond-true (is_atomic (queue_of p q).kind) (flow % (queue_of p q).slots) 0 atomic))
    (omega (arith, mod_below flow (queue_of p q).slots (omega (arith, few.0)), few.1))
  where
    few : IsBetween 1 most_slots (queue_of p q).slots
    few = within.slots q (record { kind = Parallel; priority = 0; slots = 0; order = 0; single = false }) there atomic

-- two cells are the same where the queues and the slots are
same_cell : (a b m n : ℕ) → m < 64 → n < 64 → a * 64 + m ≡ b * 64 + n → (a ≡ b) × (m ≡ n)
same_cell a b m n low least same = (omega (arith, low, least, same), omega (arith, low, least, same))

-- and the cell is one of those that there are
pub cell_there : (p : Plan) (q flow : ℕ) → IsWithinLimits p → q < length p.queues → is_atomic (queue_of p q).kind ≡ true → q * 64 + slot_of p q flow < length p.queues * 64
cell_there p q flow within there atomic = omega (arith, there, slot_low p q flow within there atomic)

-- a port's lane is one of the lanes
pub lane_there : (p : Plan) (l : ℕ) → l < length p.ports → l < lanes_of p
unfolding lanes_of
lane_there p l lt = omega (arith, lt)

-- ---- what a port may not get

pub unlinked_within : (p : Plan) (hs : List Seen) (i : ℕ) → IsUnlinked p hs i → i < length hs
unlinked_within p hs i bad = slice_get_within hs i bad.seen bad.entry

pub is_unlinked : (p : Plan) (hs : List Seen) (i : ℕ) (s : Seen) → slice_get hs i ≡ Some s → got_wrongly p s ≡ true → IsUnlinked p hs i
is_unlinked p hs i s at wrongly = by_deed s.deed refl wrongly
  where
    by_deed : (d : Deed) → s.deed ≡ d → got_badly p s.port d ≡ true → IsUnlinked p hs i
    by_deed (Sent r) deed bad = absurd (false≢true bad)
    by_deed (Got e) deed bad = record { seen = s; entry = at; event = e; got = deed; refused = not-true (may_get p s.port e) bad }

pub is_linked : (p : Plan) (hs : List Seen) (i : ℕ) (s : Seen) → slice_get hs i ≡ Some s → got_wrongly p s ≡ false → ¬ IsUnlinked p hs i
is_linked p hs i s at rightly bad =
    both_ways (may_get p s.port bad.event) (subst (λ (u : Seen). may_get p u.port bad.event ≡ false) same bad.refused) (not-false (may_get p s.port bad.event) (ap (got_badly p s.port) (sym deed) ∙ rightly))
  where
    same : bad.seen ≡ s
    same = same_Some bad.seen s (sym bad.entry ∙ at)

    deed : s.deed ≡ Got bad.event
    deed = ap (λ (u : Seen). u.deed) (sym same) ∙ bad.got

-- the other way round
pub got_rightly : (p : Plan) (hs : List Seen) (i : ℕ) (s : Seen) → ((j : ℕ) → ¬ IsUnlinked p hs j) → slice_get hs i ≡ Some s → got_wrongly p s ≡ false
got_rightly p hs i s linked at = false_from_ne_true (got_wrongly p s) (λ wrongly. linked i (is_unlinked p hs i s at wrongly))

-- ---- when an entry is held

-- the port of a hold got what it may get
pub queue_there : (p : Plan) (hs : List Seen) (times : List (Vec ℕ Global)) (h : Hold) → IsFit p hs times → (is : IsHoldOf p hs h) → (is.event).queue < length p.queues
queue_there p hs times h fit is =
    ltb-true (is.event).queue (length p.queues) (and_parts (nat_lt (is.event).queue (length p.queues)) (serves p (is.seen).port (is.event).queue (slot_of p (is.event).queue (is.event).flow)) may).0
  where
    may : may_get p (is.seen).port is.event ≡ true
    may =
        true_from_ne_false (may_get p (is.seen).port is.event)
        (λ fails. fit.linked h.at (record { seen = is.seen; entry = is.entry; event = is.event; got = is.got; refused = fails }))

pub port_there : (p : Plan) (hs : List Seen) (times : List (Vec ℕ Global)) (i : ℕ) (s : Seen) → IsFit p hs times → slice_get hs i ≡ Some s → s.port < length p.ports
port_there p hs times i s fit at =
    ⊎_elim (λ lt. lt) (λ past. absurd (fit.known i (record { seen = s; entry = at; missing = past }))) (cases_lt s.port (length p.ports))

-- from its start, and as long as it doesn't end
pub held_by_hold : (p : Plan) (hs : List Seen) (times : List (Vec ℕ Global)) (h : Hold) (t : ℕ) → IsFit p hs times → (is : IsHoldOf p hs h) → h.since ≤ t → ends_after t h.until ≡ true → IsHeldAt hs h.at t is.seen
held_by_hold p hs times h t fit is since until =
    record {
      entry = is.entry;
      got = ap gets is.got;
      since = omega (arith, since, is.since);
      unanswered = omega (
        arith,
        begun_are_past hs (is.seen).port t,
        not_past t (got_before hs (is.seen).port h.at) (answer_times hs (is.seen).port) (times_rise hs (is.seen).port fit.ordered) (ap (ends_after t) (sym is.until) ∙ until),
      );
    }

pub hold_by_held : (p : Plan) (hs : List Seen) (times : List (Vec ℕ Global)) (i t : ℕ) (s : Seen) → IsFit p hs times → IsHeldAt hs i t s → ends_after t (slice_get (answer_times hs s.port) (got_before hs s.port i)) ≡ true
hold_by_held p hs times i t s fit held =
    to_come t (got_before hs s.port i) (answer_times hs s.port) (times_rise hs s.port fit.ordered) (omega (arith, begun_are_past hs s.port t, held.unanswered))

-- ---- together

-- two holds of one cell and of two ports that meet
pub record Meet (g h : Hold) : Type 0 where
  pub cell : g.cell ≡ h.cell
  pub ports : g.port ≢ h.port
  pub time : ℕ
  pub one_since : g.since ≤ time
  pub other_since : h.since ≤ time
  pub one_until : ends_after time g.until ≡ true
  pub other_until : ends_after time h.until ≡ true

pub together_by_meet : (p : Plan) (hs : List Seen) (times : List (Vec ℕ Global)) (g h : Hold) → IsFit p hs times → IsHoldOf p hs g → IsHoldOf p hs h → Meet g h → IsTogether p hs g.at h.at
together_by_meet p hs times g h fit one other meet =
    record {
      time = meet.time;
      one = one.seen;
      other = other.seen;
      one_held = held_by_hold p hs times g meet.time fit one meet.one_since meet.one_until;
      other_held = held_by_hold p hs times h meet.time fit other meet.other_since meet.other_until;
      one_port = port_there p hs times g.at one.seen fit one.entry;
      other_port = port_there p hs times h.at other.seen fit other.entry;
      apart = λ same. meet.ports (one.port ∙ (same ∙ sym other.port));
      one_event = one.event;
      other_event = other.event;
      one_got = one.got;
      other_got = other.got;
      same = record { atomic = one.atomic; queue = cells.0; slot = cells.1 };
    }
  where
    cells : ((one.event).queue ≡ (other.event).queue) × (slot_of p (one.event).queue (one.event).flow ≡ slot_of p (other.event).queue (other.event).flow)
    cells =
        same_cell (one.event).queue (other.event).queue (slot_of p (one.event).queue (one.event).flow) (slot_of p (other.event).queue (other.event).flow)
        (slot_low p (one.event).queue (one.event).flow fit.within (queue_there p hs times g fit one) one.atomic)
        (slot_low p (other.event).queue (other.event).flow fit.within (queue_there p hs times h fit other) other.atomic)
        (sym one.cell ∙ (meet.cell ∙ other.cell))

-- the hold of an entry
abbrev pub hold_at : Plan → List Seen → ℕ → Seen → Event → Hold
hold_at p hs i s e = record { at = i; port = s.port; cell = cell_of p e; since = s.ended; until = slice_get (answer_times hs s.port) (got_before hs s.port i) }

-- the holds of two entries that are held together
pub record AreMeeting (p : Plan) (hs : List Seen) (i j : ℕ) : Type 0 where
  pub one : Hold
  pub other : Hold
  pub one_is : IsHoldOf p hs one
  pub other_is : IsHoldOf p hs other
  pub one_at : one.at ≡ i
  pub other_at : other.at ≡ j
  pub meet : Meet one other

pub meet_by_together : (p : Plan) (hs : List Seen) (times : List (Vec ℕ Global)) (i j : ℕ) → IsFit p hs times → IsTogether p hs i j → AreMeeting p hs i j
meet_by_together p hs times i j fit b =
    record {
      one = hold_at p hs i b.one b.one_event;
      other = hold_at p hs j b.other b.other_event;
      one_is = record {
        seen = b.one;
        entry = b.one_held.entry;
        event = b.one_event;
        got = b.one_got;
        atomic = b.same.atomic;
        port = refl;
        cell = refl;
        since = refl;
        until = refl;
      };
      other_is = record {
        seen = b.other;
        entry = b.other_held.entry;
        event = b.other_event;
        got = b.other_got;
        atomic = subst (λ q. is_atomic (queue_of p q).kind ≡ true) b.same.queue b.same.atomic;
        port = refl;
        cell = refl;
        since = refl;
        until = refl;
      };
      one_at = refl;
      other_at = refl;
      meet = record {
        cell = ap (λ q. q * most_slots + slot_of p (b.one_event).queue (b.one_event).flow) b.same.queue ∙ ap (λ n. (b.other_event).queue * most_slots + n) b.same.slot;
        ports = b.apart;
        time = b.time;
        one_since = b.one_held.since;
        other_since = b.other_held.since;
        one_until = hold_by_held p hs times i b.time b.one fit b.one_held;
        other_until = hold_by_held p hs times j b.time b.other fit b.other_held;
      };
    }

-- two holds of one entry last as long, and are of one cell
pub record AreSame (g h : Hold) : Type 0 where
  pub port : g.port ≡ h.port
  pub cell : g.cell ≡ h.cell
  pub since : g.since ≡ h.since
  pub until : g.until ≡ h.until

got_same : (e f : Event) → Got e ≡ Got f → e ≡ f
got_same e f same = ap event_of same
  where
    event_of : Deed → Event
    event_of (Sent r) = e
    event_of (Got g) = g

pub same_holds : (p : Plan) (hs : List Seen) (g h : Hold) → IsHoldOf p hs g → IsHoldOf p hs h → g.at ≡ h.at → AreSame g h
same_holds p hs g h one other at =
    record {
      port = one.port ∙ (ap (λ (s : Seen). s.port) seen ∙ sym other.port);
      cell = one.cell ∙ (ap (cell_of p) event ∙ sym other.cell);
      since = one.since ∙ (ap (λ (s : Seen). s.ended) seen ∙ sym other.since);
      until =
          one.until
          ∙ (ap (λ (s : Seen). slice_get (answer_times hs s.port) (got_before hs s.port g.at)) seen
          ∙ (ap (λ n. slice_get (answer_times hs (other.seen).port) (got_before hs (other.seen).port n)) at ∙ sym other.until));
    }
  where
    seen : one.seen ≡ other.seen
    seen = same_Some one.seen other.seen (sym one.entry ∙ (ap (λ n. slice_get hs n) at ∙ other.entry))

    event : one.event ≡ other.event
    event = got_same one.event other.event (sym one.got ∙ (ap (λ (s : Seen). s.deed) seen ∙ other.got))
