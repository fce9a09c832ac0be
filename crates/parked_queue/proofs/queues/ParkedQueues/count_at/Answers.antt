use Rattle.std.proofs.Common.{◌≡◌, ◌+◌, ◌*◌, ◌==◌, ◌∙◌, ap, arith, count_by, refl}
use Rattle.evt_types.specs.Plan.{level_of}
use Rattle.evt_types.specs.declared.event.Numbered.{Numbered}
use Rattle.parked_queue.specs.Parkings.{parted_by}
use Rattle.parked_queue.specs.Waits.{Waits}
use Rattle.parked_queue.proofs.LevelRows.{all_counted_rows, counted, row_counted, row_fits}
use Rattle.parked_queue.proofs.Parkings.{asked, row_there}
use Rattle.parked_queue.proofs.queues.ParkedQueues.count_at.Goals as goal

pub loop-row-init : goal.loop-row-init
loop-row-init c = refl

pub overflow_add-count : goal.overflow_add-count
overflow_add-count c =
    let a = asked c.self.inside.lists c.self.inside.queues.items c.args.self.now c.args.queue c.self.invariant.parkings c.self.view_is c.requires c.index-asked.result.now c.index-asked.ensures in
    let v = parted_by c.self.inside.lists c.index-asked.result.now in
    let read = row_there c.self.inside.lists c.self.inside.queues.items c.args.self.now c.args.queue c.self.invariant.parkings c.self.view_is c.requires c.index-asked.result.now c.index-asked.ensures c.loop-row.row c.args.level.number c.args.level.few c.loop-row-test.true in
    let fit = row_fits v a.part.parking.waits c.args.level.number c.args.level.few c.loop-row.row c.loop-row-test.true in
    omega (arith, c.loop-row.invariant, c.count-count.ensures, read, fit, a.part.count)

pub loop-row-preserved : goal.loop-row-preserved
loop-row-preserved c =
    let a = asked c.self.inside.lists c.self.inside.queues.items c.args.self.now c.args.queue c.self.invariant.parkings c.self.view_is c.requires c.index-asked.result.now c.index-asked.ensures in
    let v = parted_by c.self.inside.lists c.index-asked.result.now in
    let read = row_there c.self.inside.lists c.self.inside.queues.items c.args.self.now c.args.queue c.self.invariant.parkings c.self.view_is c.requires c.index-asked.result.now c.index-asked.ensures c.loop-row.row c.args.level.number c.args.level.few c.loop-row-test.true in
    let more = row_counted v a.part.parking.waits c.args.level.number c.args.level.few c.loop-row.row in
    omega (arith, c.loop-row.invariant, c.count-count.ensures, read, more)

pub returns : goal.returns
returns c =
    let a = asked c.self.inside.lists c.self.inside.queues.items c.args.self.now c.args.queue c.self.invariant.parkings c.self.view_is c.requires c.index-asked.result.now c.index-asked.ensures in
    let v = parted_by c.self.inside.lists c.index-asked.result.now in
    let all : c.loop-row.row ≡ c.index-asked.result.now.slots + 1 = omega (arith, c.loop-row.auto.row-end, c.loop-row-test.false) in
    c.loop-row.invariant
    ∙ (ap (λ n. counted v a.part.parking.waits c.args.level.number c.args.level.few (4 * n)) all
    ∙ (all_counted_rows v a.part.parking.waits c.args.level.number c.args.level.few
    ∙ ap (λ (q : Waits). count_by (λ (w : Numbered). level_of w.event == c.args.level.number) q.waiting) a.waits))
