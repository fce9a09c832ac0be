use Rattle.std.proofs.Common.{◌≡◌, ◌+◌, sum_by}
use Rattle.std.specs.List.{range_with_len}
use Rattle.history_judge.specs.Crowds.{AreKnownPast, held_by}
use Rattle.history_judge.proofs.crowds.exceeds.Given as goal

abbrev pub invariant-loop-port : goal.invariant-loop-port
invariant-loop-port l = AreKnownPast l.times l.seen.ended l.begun.items × (l.bound ≡ l.room + sum_by (held_by l.got l.times l.seen.ended) (range_with_len 0 l.port))
