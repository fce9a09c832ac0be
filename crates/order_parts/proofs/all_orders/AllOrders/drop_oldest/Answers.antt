use Rattle.std.proofs.Common.{Some, refl, ap, sym, ◌∙◌}
use Rattle.std.proofs.lemmas.Bool.{cond-true}
use Rattle.order_parts.specs.Orders.{shown, is_restoring, left_in}
use Rattle.order_parts.specs.Reorder.{Reordering}
use Rattle.order_parts.proofs.InTurn.{left_depth}
use Rattle.order_parts.proofs.Buffers.{buffers_left, buffers_same, restores, set_shown}
use Rattle.order_parts.proofs.all_orders.AllOrders.drop_oldest.Goals as goal
use Rattle.order_parts.proofs.all_orders.AllOrders.drop_oldest.Goals.{in-Some, in-None}

pub invariant_of-self : goal.invariant_of-self
invariant_of-self c =
    elim c.match-index_mut.branch [
      | in-Some w ↦ rw w.self-inside-is (record { buffers = buffers_left c.self.inside.queues.items c.args.self.now c.args.queue c.index_mut.result.now w.in-Some.order w.drop_oldest.new.self c.self.invariant.buffers c.self.view_is c.requires.there c.index_mut.ensures.value w.in-Some.is (ap (λ (r : Reordering). r.depth) w.drop_oldest.ensures ∙ left_depth c.args.count w.in-Some.order) })
      | in-None w ↦ rw w.self-inside-is (record { buffers = buffers_same c.self.inside.queues.items c.args.self.now c.args.queue c.index_mut.result.now c.self.invariant.buffers c.self.view_is c.requires.there c.index_mut.ensures.value })
    ]

pub returns : goal.returns
returns c =
    elim c.match-index_mut.branch [
      | in-Some w ↦ rw w.self-inside-is (set_shown (λ r. left_in r c.args.count) c.self.inside.queues.items c.args.self.now c.args.queue c.index_mut.result.now (Some w.drop_oldest.new.self) c.self.view_is c.requires.there c.index_mut.ensures.value (w.drop_oldest.ensures ∙ (sym (cond-true (is_restoring w.in-Some.order) _ w.in-Some.order (restores c.self.inside.queues.items c.args.self.now c.args.queue c.index_mut.result.now w.in-Some.order c.self.invariant.buffers c.self.view_is c.requires.there c.index_mut.ensures.value w.in-Some.is)) ∙ ap (λ o. left_in (shown o) c.args.count) (sym w.in-Some.is))))
      | in-None w ↦ rw w.self-inside-is (set_shown (λ r. left_in r c.args.count) c.self.inside.queues.items c.args.self.now c.args.queue c.index_mut.result.now c.index_mut.result.now c.self.view_is c.requires.there c.index_mut.ensures.value (rw w.in-None.is refl))
    ]
