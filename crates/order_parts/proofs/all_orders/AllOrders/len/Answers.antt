use Rattle.std.proofs.Common.{length, sym, ap, ◌∙◌}
use Rattle.order_parts.specs.Orders.{shown}
use Rattle.order_parts.specs.Reorder.{Reordering}
use Rattle.order_parts.proofs.Buffers.{order_read}
use Rattle.order_parts.proofs.Fields.{rows}
use Rattle.order_parts.proofs.Places.{places_length}
use Rattle.order_parts.proofs.all_orders.AllOrders.len.Goals as goal

pub returns-in-Some : goal.returns-in-Some
returns-in-Some c = c.len.ensures.len ∙ sym (places_length (rows c.order.inside) c.order.inside.ring.items) ∙ ap (λ (r : Reordering). length r.places) (c.order.view_is ∙ sym (order_read c.self.inside.queues.items c.args.self.now c.args.queue c.index.result.now c.self.view_is c.requires c.index.ensures ∙ ap shown c.in-Some.is))
