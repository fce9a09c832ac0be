use Rattle.std.proofs.Common.{◌∙◌, ap, arith, subst, sym}
use Rattle.parked_queue.specs.Busy.{AreNoted, AreQueues}
use Rattle.parked_queue.specs.LevelSets.{HaveLevels}
use Rattle.parked_queue.specs.Parkings.{all_waits}
use Rattle.parked_queue.specs.Waits.{all_empty}
use Rattle.parked_queue.proofs.Busy.{busy_new}
use Rattle.parked_queue.proofs.LevelSets.{levels_new}
use Rattle.parked_queue.proofs.Named.{named_new}
use Rattle.parked_queue.proofs.News.{parkings_new, waits_new}
use Rattle.parked_queue.proofs.queues.ParkedQueues.new.Goals as goal

pub returns : goal.returns
returns c =
    ap (λ l. all_waits l c.in_ok-queues.queues.items) c.in_ok-lists.ensures
    ∙ waits_new c.args.slots.now c.in_ok-queues.queues.items c.in_ok-queues.lists c.args.room c.in_ok-queues.ensures c.requires.each

pub invariant_of-result : goal.invariant_of-result
invariant_of-result c =
    subst (λ l. AreQueues l c.in_ok-queues.queues.items c.in_ok-levels.levels.items c.none-2.result) (sym c.in_ok-lists.ensures)
    (record {
      parkings = parkings_new c.args.slots.now c.in_ok-queues.queues.items c.in_ok-queues.lists c.args.room c.in_ok-queues.ensures c.requires.each c.requires.few (omega arith);
      noted =
          subst (λ ws. AreNoted ws c.in_ok-levels.levels.items c.none-2.result) (sym (waits_new c.args.slots.now c.in_ok-queues.queues.items c.in_ok-queues.lists c.args.room c.in_ok-queues.ensures c.requires.each))
          (record {
            levels = subst (HaveLevels (all_empty c.args.room c.args.slots.now)) (sym (c.in_ok-levels.ensures.items_if_clones_equal (λ y e. e))) (levels_new c.args.room c.args.slots.now c.none.result c.none.ensures);
            busy = busy_new c.args.room c.args.slots.now c.none-2.result c.requires.few c.none-2.ensures;
            named = named_new c.args.room c.args.slots.now;
          });
    })
