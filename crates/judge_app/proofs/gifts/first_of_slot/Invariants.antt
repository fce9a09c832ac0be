use Rattle.std.proofs.Common.{◌≡◌, ℕ, drop}
use Rattle.std.specs.Prelude.{◌&&◌, ◌==◌, slice_get}
use Rattle.std.specs.List.{find}
use Rattle.transcripts.specs.Transcript.{slot_if}
use Rattle.judge_app.proofs.gifts.first_of_slot.Given as goal

abbrev pub invariant-loop-other : goal.invariant-loop-other
invariant-loop-other l =
    find (λ (x : ℕ × ℕ). (x.0 == l.queue) && (slot_if l.shape l.queue (slice_get l.accepted x.1) == l.slot)) (drop l.other-index l.held)
    ≡ find (λ (x : ℕ × ℕ). (x.0 == l.queue) && (slot_if l.shape l.queue (slice_get l.accepted x.1) == l.slot)) l.held
