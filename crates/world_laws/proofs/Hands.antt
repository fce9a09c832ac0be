-- Exclusion of slots over the hands: what is in a hand is unanswered.
use Rattle.std.specs.Prelude.{ℕ, ◌≤◌, length, count_by, All}
use Rattle.std.proofs.Common.{subst, arith}
use Rattle.std.proofs.lemmas.List.{take_all}
use Rattle.std.proofs.lemmas.List.Elements.{All-map, All-weaker}
use Rattle.evt_types.specs.Operation.{is_answer}
use Rattle.evt_types.specs.Plan.{Plan}
use Rattle.lists.proofs.Lists.{All-unmap}
use Rattle.lists.proofs.Parts.{All-part}
use Rattle.transcripts.specs.Lawful.{AreApart, IsAlone, KeepsFlow}
use Rattle.transcripts.specs.Transcript.{Held, held_at, out, answers, unanswered, unanswered_slots}
use Rattle.world_laws.proofs.Said.{answers_few}
use Rattle.world_laws.specs.Order.{IsHeldAlone, held_in}
use Rattle.world_laws.specs.World.{World, IsConsistent, in_hand}

-- no more was answered in the log than was submitted
pub answered_few : (p : Plan) (w : World) (l : ℕ) → IsConsistent p w → length (answers w.log l) ≤ count_by is_answer (w.submitted l)
answered_few p w l c = answers_few w.log l (w.submitted l) (c.taken l)

-- what holds of each unanswered pair holds of each pair in the hand
All-in_hand : (p : Plan) (w : World) (l : ℕ) (P : ℕ × ℕ → Type 0) → IsConsistent p w → All P (unanswered w.log l) → All P (in_hand w l)
unfolding unanswered
All-in_hand p w l P c all = All-part P (length (answers w.log l)) (count_by is_answer (w.submitted l)) (w.received l) (out w.log l) (answered_few p w l c) all

-- the same with the slots
All-held_in : (p : Plan) (w : World) (l : ℕ) (P : Held → Type 0) → IsConsistent p w → All P (unanswered_slots p w.log l) → All P (held_in p w l)
All-held_in p w l P c all =
    All-map P (held_at p w.log) (in_hand w l) (All-in_hand p w l (λ x. P (held_at p w.log x)) c (All-unmap P (held_at p w.log) (unanswered w.log l) all))

pub log_alone : (p : Plan) (w : World) → IsConsistent p w → IsAlone p w.log
log_alone p w c = subst (IsAlone p) (take_all (length w.log) w.log (omega arith)) (c.lawful.alone (length w.log) (omega arith))

pub log_flow : (p : Plan) (w : World) → IsConsistent p w → KeepsFlow p w.log
log_flow p w c = subst (KeepsFlow p) (take_all (length w.log) w.log (omega arith)) (c.lawful.flow (length w.log) (omega arith))

pub held_alone : (p : Plan) (w : World) → IsConsistent p w → IsHeldAlone p w
held_alone p w c q atomic l m apart =
    All-held_in p w l (λ (x : Held). All (AreApart q x) (held_in p w m)) c
    (All-weaker (λ (x : Held). All (AreApart q x) (unanswered_slots p w.log m)) (λ (x : Held). All (AreApart q x) (held_in p w m))
    (λ x all. All-held_in p w m (AreApart q x) c all) (unanswered_slots p w.log l) (log_alone p w c q atomic l m apart))
