use Rattle.std.proofs.Common.{Some, refl, ap, sym, ◌∙◌}
use Rattle.order_parts.specs.Reorder.{after_leave}
use Rattle.order_parts.specs.Orders.{shown}
use Rattle.order_parts.proofs.Buffers.{set_shown}
use Rattle.order_parts.proofs.all_orders.AllOrders.leave.Goals as goal
use Rattle.order_parts.proofs.all_orders.AllOrders.leave.Goals.{in-Some, in-None}

pub returns-clause-rest : goal.returns-clause-rest
returns-clause-rest c =
    elim c.match-index_mut.branch [
      | in-Some w ↦ rw w.self-inside-is (set_shown after_leave c.self.inside.queues.items c.args.self.now c.args.queue c.index_mut.result.now (Some w.leave.new.self) c.self.view_is c.requires c.index_mut.ensures.value (w.leave.ensures.rest ∙ ap (λ o. after_leave (shown o)) (sym w.in-Some.is)))
      | in-None w ↦ rw w.self-inside-is (set_shown after_leave c.self.inside.queues.items c.args.self.now c.args.queue c.index_mut.result.now c.index_mut.result.now c.self.view_is c.requires c.index_mut.ensures.value (rw w.in-None.is refl))
    ]
