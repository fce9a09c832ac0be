use Rattle.std.proofs.Common.{◌+◌, ◌*◌, ◌∙◌, ap, arith, get_or, length, subst, sym}
use Rattle.std.proofs.lemmas.List.{length_push}
use Rattle.parked_queue.specs.Parkings.{AreFirstParkings}
use Rattle.parked_queue.proofs.News.{first_more, first_none}
use Rattle.parked_queue.proofs.parking.empty_parkings.Goals as goal

pub loop-count-init : goal.loop-count-init
loop-count-init c =
    let none = c.in_ok-queues.ensures.items in
    record {
      count = ap length none;
      first = subst (λ ps. AreFirstParkings c.args.slots.now ps 0) (sym none) (first_none c.args.slots.now);
    }

pub overflow_add-lists-in-loop-count : goal.overflow_add-lists-in-loop-count
overflow_add-lists-in-loop-count c =
    let range = c.requires.each c.loop-count.count-index 0 (omega (arith, c.loop-count-test.true, c.loop-count.auto.count-index-end)) in
    let few = c.loop-count.invariant.first.apart.few in
    let count = c.loop-count.invariant.count in
    omega (arith, range.1, c.requires.few, c.loop-count-test.true)

pub loop-count-preserved : goal.loop-count-preserved
loop-count-preserved c =
    let range = c.requires.each c.loop-count.count-index 0 (omega (arith, c.loop-count-test.true, c.loop-count.auto.count-index-end)) in
    let count = c.loop-count.invariant.count in
    let items = c.in_ok-push.ensures.items in
    let longer = length_push c.loop-count.queues.items c.in_ok-empty_parking.field-0 in
    record {
      count = ap length items ∙ omega arith;
      first =
          subst (λ ps. AreFirstParkings c.args.slots.now ps (c.loop-count.lists + 4 * (get_or c.args.slots.now c.loop-count.count-index 0 + 1))) (sym items)
          (first_more c.args.slots.now c.loop-count.queues.items c.loop-count.lists (get_or c.args.slots.now c.loop-count.count-index 0) c.in_ok-empty_parking.field-0 c.loop-count.invariant.first c.in_ok-empty_parking.ensures
          (ap (λ k. get_or c.args.slots.now k 0) count) range.1);
    }

pub returns : goal.returns
returns c = record { count = omega (arith, c.loop-count.invariant.count, c.loop-count-test.false, c.loop-count.auto.count-index-end); first = c.loop-count.invariant.first }
