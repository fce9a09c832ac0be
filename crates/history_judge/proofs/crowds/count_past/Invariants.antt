use Rattle.std.proofs.Common.{◌≤◌}
use Rattle.history_judge.specs.Crowds.{past}
use Rattle.history_judge.proofs.crowds.count_past.Given as goal

abbrev pub invariant-loop-past : goal.invariant-loop-past
invariant-loop-past l = l.past ≤ past l.times l.time
