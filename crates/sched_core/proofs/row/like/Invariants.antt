use Rattle.std.proofs.Common.{All, take}
use Rattle.evt_types.specs.declared.event.Reply.{Reply}
use Rattle.sched_core.specs.Rows.{IsLike}
use Rattle.sched_core.proofs.row.like.Given as goal

abbrev pub invariant-loop-index : goal.invariant-loop-index
invariant-loop-index l = All (λ (r : Reply). IsLike l.first r.event) (take l.index l.replies)
