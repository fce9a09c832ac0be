use Rattle.std.proofs.Common.{◌≡◌, ◌++◌, map, take, drop}
use Rattle.event_handles.specs.Events.{written_in}
use Rattle.event_handles.proofs.event.write_all.Given as goal

abbrev pub invariant-loop-index : goal.invariant-loop-index
invariant-loop-index l = l.out ≡ map (written_in l.kinds) (take l.index l.deliveries) ++ drop l.index l.fn.out
