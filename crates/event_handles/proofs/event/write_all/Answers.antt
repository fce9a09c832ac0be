use Rattle.std.proofs.Common.{◌≡◌, ◌<◌, ◌≤◌, length, set, ap, ◌∙◌, add-one, arith}
use Rattle.event_handles.specs.Events.{written_in}
use Rattle.event_handles.proofs.Writes.{front-set}
use Rattle.event_handles.proofs.event.write_all.Goals as goal

pub loop-index-preserved : goal.loop-index-preserved
loop-index-preserved c =
    let there : c.loop-index.index < length c.args.deliveries.now = c.loop-index-test.true in
    let room : length c.args.deliveries.now ≤ length c.args.out.now = omega arith in
    let wrote : c.write.result ≡ written_in c.args.kinds.now c.index-deliveries-index.result = cc in
    rw add-one
    (ap (λ xs. set xs c.loop-index.index c.write.result) c.loop-index.invariant ∙ (rw wrote (front-set (written_in c.args.kinds.now) _ _ _ _ there room c.index-deliveries-index.is)))
