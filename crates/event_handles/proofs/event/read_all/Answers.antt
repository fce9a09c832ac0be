use Rattle.std.proofs.Common.{◌<◌, [], ◌∷◌, length, take, arith}
use Rattle.std.proofs.lemmas.List.{map-append, take_more, take_more_set}
use Rattle.std.proofs.lemmas.Slice.Zip.{all_zipped_more}
use Rattle.evt_types.specs.declared.event.Reply.{Reply}
use Rattle.event_handles.specs.Events.{IsRead}
use Rattle.event_handles.specs.declared.event.CEvent.{CEvent}
use Rattle.event_handles.proofs.event.read_all.Goals as goal

pub loop-index-preserved : goal.loop-index-preserved
loop-index-preserved c =
    let there : c.loop-index.index < length c.args.given.now = omega arith in
    let room : c.loop-index.index < length c.loop-index.replies = omega arith in
    let zero : CEvent = record { word = 0; payload = 0 } in
    let one : Reply = record { event = c.read.result } in
    rw (take_more c.args.given.now c.loop-index.index zero there, take_more_set _ _ one room, map-append (λ (r : Reply). r.event) (take c.loop-index.index c.loop-index.replies) (one ∷ []))
    (all_zipped_more IsRead _ _ _ _ c.loop-index.invariant c.read.ensures)
