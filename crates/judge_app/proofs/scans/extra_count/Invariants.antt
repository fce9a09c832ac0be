use Rattle.std.proofs.Common.{◌≡◌, ◌≤◌, length, take}
use Rattle.transcripts.specs.Transcript.{extras}
use Rattle.judge_app.proofs.scans.extra_count.Given as goal

abbrev pub invariant-loop-step : goal.invariant-loop-step
invariant-loop-step l = record {
  value : l.count ≡ length (extras (take l.step-index l.past) l.lane);
  few : l.count ≤ l.step-index;
}
