use Rattle.std.proofs.Common.{take}
use Rattle.play_text.proofs.Counted.{Counts}
use Rattle.judge_app.proofs.words.number_of.Given as goal

abbrev pub invariant-loop-earlier : goal.invariant-loop-earlier
invariant-loop-earlier l = Counts l.queues l.counts.accepted.items (take l.earlier-index l.past)
