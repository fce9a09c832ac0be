use Rattle.std.proofs.Common.{is_some, option_copied, sym, ap, ◌∙◌}
use Rattle.order_parts.specs.Orders.{order_at, shown}
use Rattle.order_parts.proofs.Buffers.{order_read}
use Rattle.order_parts.proofs.Oldest.{none_oldest, oldest_leaves}
use Rattle.order_parts.proofs.all_orders.AllOrders.leaves.Goals as goal

pub returns-in-None : goal.returns-in-None
returns-in-None c = ap is_some (sym (none_oldest c.order.inside (order_at c.args.self.now c.args.queue) (c.order.view_is ∙ sym (order_read c.self.inside.queues.items c.args.self.now c.args.queue c.index.result.now c.self.view_is c.requires c.index.ensures ∙ ap shown c.in-Some.is)) (sym c.front.ensures ∙ ap option_copied c.in-None.is)))

pub returns-in-Some-front : goal.returns-in-Some-front
returns-in-Some-front c = sym (oldest_leaves c.order.inside (order_at c.args.self.now c.args.queue) (c.order.view_is ∙ sym (order_read c.self.inside.queues.items c.args.self.now c.args.queue c.index.result.now c.self.view_is c.requires c.index.ensures ∙ ap shown c.in-Some.is)) c.in-Some-front.oldest.now (sym c.front.ensures ∙ ap option_copied c.in-Some-front.is))
