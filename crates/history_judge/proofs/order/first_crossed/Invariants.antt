use Rattle.std.proofs.Common.{length, ◌-◌}
use Rattle.history_judge.specs.Streams.{AreFirsts}
use Rattle.history_judge.proofs.order.first_crossed.Given as goal

abbrev pub invariant-loop-gone : goal.invariant-loop-gone
invariant-loop-gone l = AreFirsts l.shape l.history l.course (length l.history - l.gone) l.firsts
