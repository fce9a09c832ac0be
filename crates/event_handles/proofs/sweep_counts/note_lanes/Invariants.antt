use Rattle.std.proofs.Common.{◌≡◌, ℕ, ◌≤◌, ◌<◌, length, slice_index_or}
use Rattle.transcripts.specs.Transcript.{out}
use Rattle.event_handles.specs.Logs.{steps_logged}
use Rattle.event_handles.proofs.sweep_counts.note_lanes.Given as goal

-- the last lanes are noted, the first ones are as they were
abbrev pub invariant-loop-left : goal.invariant-loop-left
invariant-loop-left l =
    record {
      within : l.left ≤ l.fn.lanes;
      sent : (k : ℕ) → l.left ≤ k → k < l.fn.lanes → slice_index_or l.sent k 0 ≡ length (out (steps_logged l.log) k);
      before : (k : ℕ) → l.left ≤ k → k < l.fn.lanes → slice_index_or l.before k 0 ≡ slice_index_or l.fn.sent k 0;
      rest : (k : ℕ) → k < l.left → slice_index_or l.sent k 0 ≡ slice_index_or l.fn.sent k 0;
    }

abbrev pub decreases-loop-left : goal.decreases-loop-left
decreases-loop-left l = l.left
