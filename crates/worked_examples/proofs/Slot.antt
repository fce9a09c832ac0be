-- The world after the log of two flows in one slot: its lists fit together, and its moves are those that are written out.
use Rattle.std.specs.Prelude.{ℕ, ◌≡◌, ◌≢◌, ◌≤◌, true, false, not, List, [], ◌∷◌, length, map, count_by}
use Rattle.std.specs.List.{list_all}
use Rattle.std.proofs.Common.{refl, sym, subst, arith}
use Rattle.std.proofs.Math.Dec.{lit<, lit≤}
use Rattle.std.proofs.lemmas.Bool.{ne_eqb, not-true}
use Rattle.std.proofs.lemmas.List.Elements.{All-weaker}
use Rattle.std.proofs.lemmas.List.Sums.{AllPass-from_list_all}
use Rattle.evt_types.proofs.Additions.{beside-none, beside-plain}
use Rattle.evt_types.specs.Additions.{AreBeside}
use Rattle.evt_types.specs.Event.{release_event}
use Rattle.evt_types.specs.Operation.{is_answer, is_more_reply, is_new_reply}
use Rattle.evt_types.specs.Plan.{flow_lanes, lanes_of}
use Rattle.evt_types.specs.declared.event.Reply.{Reply}
use Rattle.transcripts.specs.Lawful.{IsPrefix}
use Rattle.transcripts.specs.Replies.{said, replies_in}
use Rattle.transcripts.specs.Transcript.{out}
use Rattle.worked_examples.proofs.LogsLawful.{two_flows_one_slot_lawful}
use Rattle.worked_examples.specs.Logs.{two_flows_one_slot, two_workers}
use Rattle.world_laws.proofs.Found.{found_is_a_run}
use Rattle.world_laws.proofs.Worlds.{at_each}
use Rattle.world_laws.specs.Logged.{as_logged}
use Rattle.world_laws.specs.World.{IsConsistent, LeadsTo, at_lane, empty, in_hand, received_by_all}
use Rattle.worked_examples.specs.Worlds.{by_port_0, by_port_1, late_event, reply, slot_moves, slot_world}

-- what holds of each lane's replies
each_lane : (P : ℕ → List Reply → Type 0) → P 0 by_port_0 → P 1 by_port_1 → ((l : ℕ) → l ≢ 0 → l ≢ 1 → P l []) → (l : ℕ) → P l (slot_world.submitted l)
each_lane P first second others =
    at_each P 0 by_port_0 (at_lane 1 by_port_1 (λ l. [])) first
    (λ l not_first. at_each (λ m rs. m ≢ 0 → P m rs) 1 by_port_1 (λ m. []) (λ _. second) (λ m not_second not_zero. others m not_zero not_second) l not_first)

received_few : (l : ℕ) → slot_world.received l ≤ length (out two_flows_one_slot l)
unfolding out
received_few = at_each (λ l n. n ≤ length (out two_flows_one_slot l)) 1 3 (λ l. 0) (lit≤ tt) (λ l differs. omega arith)

answers_few : (l : ℕ) → count_by is_answer (slot_world.submitted l) ≤ slot_world.received l
answers_few = each_lane (λ l rs. count_by is_answer rs ≤ slot_world.received l) (lit≤ tt) (lit≤ tt) (λ l not_0 not_1. omega arith)

-- no event was added
plain : (n : ℕ) (rs : List Reply) → list_all (λ (r : Reply). not (is_more_reply r)) rs ≡ true → AreBeside n rs
plain n rs h =
    beside-plain n rs
    (All-weaker (λ r. not (is_more_reply r) ≡ true) (λ r. is_more_reply r ≡ false) (λ r none. not-true (is_more_reply r) none) rs
    (AllPass-from_list_all (λ (r : Reply). not (is_more_reply r)) rs h))

none_added : (l : ℕ) → AreBeside (slot_world.received l) (slot_world.submitted l)
none_added =
    each_lane (λ l rs. AreBeside (slot_world.received l) rs) (plain (slot_world.received 0) by_port_0 refl) (plain (slot_world.received 1) by_port_1 refl)
    (λ l not_0 not_1. beside-none (slot_world.received l))

-- the other ports say nothing
silent : (l : ℕ) → l ≢ 0 → l ≢ 1 → replies_in two_flows_one_slot l ≡ []
unfolding replies_in
silent l not_0 not_1 = rw (ne_eqb 0 l (λ e. not_0 (sym e)), ne_eqb 1 l (λ e. not_1 (sym e)))

taken_front : (l : ℕ) → IsPrefix (replies_in two_flows_one_slot l) (map said (slot_world.submitted l))
unfolding replies_in
taken_front =
    each_lane (λ l rs. IsPrefix (replies_in two_flows_one_slot l) (map said rs)) (said (reply late_event) ∷ [], refl) (said (reply release_event) ∷ [], refl)
    (λ l not_0 not_1. ([], rw (silent l not_0 not_1)))

own_lanes : (l : ℕ) → length two_workers.ports ≤ l → count_by is_new_reply (slot_world.submitted l) ≡ 0
own_lanes =
    each_lane (λ l rs. 3 ≤ l → count_by is_new_reply rs ≡ 0) (λ past. absurd (omega arith)) (λ past. refl) (λ l not_0 not_1 past. refl)

pub slot_consistent : IsConsistent two_workers slot_world
slot_consistent =
    record { lawful = two_flows_one_slot_lawful; received = received_few; fewer = answers_few; beside = none_added; taken = taken_front; own = own_lanes }

pub slot_moves_are : as_logged two_workers slot_world ≡ slot_moves
unfolding out replies_in flow_lanes lanes_of
slot_moves_are = refl

pub slot_run : LeadsTo two_workers empty slot_moves slot_world
slot_run = subst (λ moves. LeadsTo two_workers empty moves slot_world) slot_moves_are (found_is_a_run two_workers slot_world slot_consistent (lit< tt))

pub slot_received : received_by_all slot_moves ≡ (0, 0) ∷ (0, 1) ∷ (0, 2) ∷ []
unfolding out
slot_received = refl

pub slot_hand : in_hand slot_world 1 ≡ []
unfolding out
slot_hand = refl
