-- The wrong logs of specs/Logs.antt, each refused by the clause that it breaks.
use Rattle.std.specs.Prelude.{ℕ, ◌≡◌, ◌<◌, ◌≤◌, true, false, List, [], ◌∷◌, length, Contains}
use Rattle.std.specs.List.{list_all}
use Rattle.std.proofs.Common.{refl, ap, sym, arith, suc}
use Rattle.std.proofs.Math.Dec.{lit<, lit≤}
use Rattle.std.proofs.lemmas.Bool.{true≢false, both_ways}
use Rattle.std.proofs.lemmas.List.Elements.{All-contains}
use Rattle.std.proofs.lemmas.List.Sums.{AllPass-from_list_all}
use Rattle.transcripts.specs.Lawful.{Lawful}
use Rattle.evt_types.specs.Plan.{depth_of, flow_lanes, lanes_by_slot, serves}
use Rattle.worked_examples.specs.Logs.{one_worker, two_workers, two_stages, atomic_stages, flow_workers, passed_on, given_twice, overtaken, split_slot, accepted_early, kept_for_good, accepted_twice, new_after_shut, turned_before_shut, shut_twice, not_linked, answered_early, beyond_depth, exchanged, accepted_backwards, no_such_queue, given_before, turned_nowhere, flow_lane_brings, given_past_flow_lane, given_to_other_slot, added, added_early, added_at_once, ended_by_added, added_too_many, added_to_none, added_kept_for_good}
use Rattle.transcripts.specs.Transcript.{accepted, out, answers, unanswered, Held, hand, ended, sent, forwards, extras, taken, sources, kept, is_answered}
use Rattle.lists.specs.Lists.{upto}
use Rattle.evt_types.specs.declared.event.Event.{Event}
use Rattle.evt_types.specs.declared.event.Numbered.{Numbered}
use Rattle.evt_types.specs.declared.step.Step.{Step}
use Rattle.evt_types.specs.declared.step.Step.TheVariants.{Shut}

-- (once)
pub given_twice_refused : Lawful two_workers given_twice → ⊥
unfolding hand
given_twice_refused h = (h.once 3 (lit≤ tt)).once 0 0 1 0 (lit< tt) (lit< tt) refl

-- (flow)
first_number : List Numbered → ℕ
first_number [] = 0
first_number (w ∷ ws) = w.number

pub overtaken_refused : Lawful two_workers overtaken → ⊥
unfolding first_number accepted hand
overtaken_refused h =
    let is_prefix = (h.flow 3 (lit≤ tt)).atomic 0 refl 7 2 in
    let same : ◌≡◌ {A = ℕ} 1 0 = ap first_number is_prefix.1 in absurd (omega arith)

-- (alone)
no_held : Held
no_held = record { queue = 0; number = 0; slot = 0 }

pub split_slot_refused : Lawful two_workers split_slot → ⊥
unfolding accepted out answers unanswered
split_slot_refused h = h.alone 7 (lit≤ tt) 0 refl 1 2 (omega arith) 0 no_held (lit< tt) 0 no_held (lit< tt) refl refl refl

-- (order)
pub accepted_early_refused : Lawful two_stages accepted_early → ⊥
unfolding out answers hand sources ended
accepted_early_refused h = true≢false (sym (((h.order 6 (lit≤ tt)).ordered 0 refl).answered 0 0 (lit< tt) 0 0 (lit< tt)))

-- (prompt): nothing that was handed out before waits, where all of it was answered
none_waits : (T : List Step) (q n : ℕ) → list_all (is_answered T q) (upto n (hand T q)) ≡ true → (m : ℕ) → Contains (upto n (hand T q)) m
    → is_answered T q m ≡ false → ⊥
none_waits T q n all m before waits =
    both_ways (is_answered T q m) waits
    (All-contains (λ k. is_answered T q k ≡ true) (upto n (hand T q)) m (AllPass-from_list_all (is_answered T q) (upto n (hand T q)) all) before)

pub kept_for_good_refused : Lawful two_stages kept_for_good → ⊥
unfolding out answers hand sent forwards taken kept ended
kept_for_good_refused h =
    let waits_for = (h.prompt.end 0 0 (0, passed_on 20) (lit< tt)).1 in none_waits kept_for_good 0 1 refl waits_for.0 waits_for.1 waits_for.2

-- (origin)
pub accepted_twice_refused : Lawful two_stages accepted_twice → ⊥
unfolding out answers sent forwards taken
accepted_twice_refused h =
    let is_prefix = h.origin 5 (lit≤ tt) 0 0 in
    let short : suc (suc (length is_prefix.0)) ≡ 1 = ap length is_prefix.1 in absurd (omega arith)

-- (closed)
pub new_after_shut_refused : Lawful one_worker new_after_shut → ⊥
new_after_shut_refused h = true≢false ((h.closed 2 (lit≤ tt)).no_new 0 Shut (lit< tt))

pub turned_before_shut_refused : Lawful one_worker turned_before_shut → ⊥
turned_before_shut_refused h = true≢false ((h.closed 2 (lit≤ tt)).no_turned 0 Shut (lit< tt))

pub shut_twice_refused : Lawful one_worker shut_twice → ⊥
shut_twice_refused h = true≢false ((h.closed 2 (lit≤ tt)).one 0 Shut (lit< tt))

-- (linked)
pub not_linked_refused : Lawful one_worker not_linked → ⊥
unfolding accepted out serves
not_linked_refused h = true≢false (sym (h.linked 2 (lit≤ tt) 0 0 (0, 0) (lit< tt)))

-- (answers)
pub answered_early_refused : Lawful one_worker answered_early → ⊥
unfolding out answers
answered_early_refused h =
    let none_left : 1 ≤ 0 = h.answers 2 (lit≤ tt) 1 in absurd (omega arith)

-- (room)
pub beyond_depth_refused : Lawful one_worker beyond_depth → ⊥
unfolding out answers unanswered depth_of
beyond_depth_refused h =
    let within : 5 ≤ 4 = (h.room 10 (lit≤ tt)).lanes 1 in absurd (omega arith)

-- (origin)
first_payload : List Event → ℕ
first_payload [] = 0
first_payload (e ∷ es) = e.payload

pub exchanged_refused : Lawful two_stages exchanged → ⊥
unfolding first_payload out answers sent forwards taken
exchanged_refused h =
    let is_prefix = h.origin 4 (lit≤ tt) 0 0 in
    let same : ◌≡◌ {A = ℕ} 11 10 = ap first_payload is_prefix.1 in absurd (omega arith)

-- (order)
pub accepted_backwards_refused : Lawful atomic_stages accepted_backwards → ⊥
unfolding accepted sources
accepted_backwards_refused h =
    let rising : 1 ≤ 0 = (h.order 8 (lit≤ tt)).atomic 0 refl 0 1 0 (lit< tt) (lit< tt) refl in absurd (omega arith)

-- (formed)
pub no_such_queue_refused : Lawful one_worker no_such_queue → ⊥
no_such_queue_refused h =
    let there : 5 < 1 = (h.formed 0 Shut (lit< tt)).entry.queue in absurd (omega arith)

-- (once): what is given was accepted
pub given_before_refused : Lawful one_worker given_before → ⊥
unfolding accepted hand
given_before_refused h =
    let there : 0 < 0 = (h.once 1 (lit≤ tt)).accepted 0 0 0 (lit< tt) in absurd (omega arith)

-- (formed): a queue that isn't there, a lane that isn't a port's
pub turned_nowhere_refused : Lawful one_worker turned_nowhere → ⊥
turned_nowhere_refused h =
    let there : 5 < 1 = (h.formed 1 Shut (lit< tt)).queue in absurd (omega arith)

pub flow_lane_brings_refused : Lawful flow_workers flow_lane_brings → ⊥
flow_lane_brings_refused h =
    let port : 6 < 3 = (h.formed 0 Shut (lit< tt)).lane in absurd (omega arith)

-- (linked): with flow lanes these alone serve the slots of an atomic queue, each its own
pub given_past_flow_lane_refused : Lawful flow_workers given_past_flow_lane → ⊥
unfolding accepted out serves
given_past_flow_lane_refused h = true≢false (sym (h.linked 2 (lit≤ tt) 1 0 (0, 0) (lit< tt)))

pub given_to_other_slot_refused : Lawful flow_workers given_to_other_slot → ⊥
unfolding accepted out flow_lanes lanes_by_slot serves
given_to_other_slot_refused h = true≢false (sym (h.linked 2 (lit≤ tt) 4 0 (0, 0) (lit< tt)))

-- ---- events that are added

-- (order)
pub added_early_refused : Lawful two_stages added_early → ⊥
unfolding out answers hand sources ended
added_early_refused h = true≢false (sym (((h.order 7 (lit≤ tt)).ordered 0 refl).answered 0 0 (lit< tt) 0 0 (lit< tt)))

pub added_at_once_refused : Lawful two_stages added_at_once → ⊥
unfolding out answers hand sources ended
added_at_once_refused h = true≢false (sym (((h.order 4 (lit≤ tt)).ordered 0 refl).answered 0 0 (lit< tt) 0 0 (lit< tt)))

-- (alone)
pub ended_by_added_refused : Lawful atomic_stages ended_by_added → ⊥
unfolding accepted out answers unanswered
ended_by_added_refused h = h.alone 6 (lit≤ tt) 0 refl 1 2 (omega arith) 0 no_held (lit< tt) 0 no_held (lit< tt) refl refl refl

-- (extras)
pub added_too_many_refused : Lawful two_stages added_too_many → ⊥
unfolding extras
added_too_many_refused h =
    let few : 5 ≤ 4 = (h.extras 7 (lit≤ tt)).few 1 in absurd (omega arith)

pub added_to_none_refused : Lawful two_stages added_to_none → ⊥
unfolding out answers unanswered extras
added_to_none_refused h =
    let none : ◌≡◌ {A = ℕ} 1 0 = ap length ((h.extras 2 (lit≤ tt)).beside 1 refl) in absurd (omega arith)

-- (prompt)
pub added_kept_for_good_refused : Lawful two_stages added_kept_for_good → ⊥
unfolding out answers hand sent forwards taken kept ended
added_kept_for_good_refused h =
    let waits_for = (h.prompt.end 0 0 (0, added 10) (lit< tt)).1 in none_waits added_kept_for_good 0 0 refl waits_for.0 waits_for.1 waits_for.2
