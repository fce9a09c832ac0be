use Rattle.std.proofs.Common.{map, take}
use Rattle.std.specs.List.{AllZip}
use Rattle.evt_types.specs.declared.event.Reply.{Reply}
use Rattle.event_handles.specs.Events.{IsRead}
use Rattle.event_handles.proofs.event.read_all.Given as goal

abbrev pub invariant-loop-index : goal.invariant-loop-index
invariant-loop-index l = AllZip IsRead (take l.index l.given) (map (λ (r : Reply). r.event) (take l.index l.replies))
