use Rattle.std.proofs.Common.{◌≡◌, length, take}
use Rattle.transcripts.specs.Transcript.{answers, out}
use Rattle.judge_app.specs.Forwards.{sent_on}
use Rattle.judge_app.proofs.forwards.sent_on.Given as goal

abbrev pub invariant-loop-step : goal.invariant-loop-step
invariant-loop-step l = record {
  given : l.given.items ≡ out (take l.step-index l.past) l.lane;
  answered : l.answered ≡ length (answers (take l.step-index l.past) l.lane);
  numbers : l.numbers.items ≡ sent_on (take l.step-index l.past) l.lane l.queue;
}
