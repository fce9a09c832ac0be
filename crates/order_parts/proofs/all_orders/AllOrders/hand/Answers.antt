use Rattle.std.proofs.Common.{Some, refl, ap, sym, ◌∙◌}
use Rattle.std.proofs.lemmas.Bool.{cond-true}
use Rattle.order_parts.specs.Orders.{shown, is_restoring, handed}
use Rattle.order_parts.proofs.Buffers.{restores, set_shown}
use Rattle.order_parts.proofs.all_orders.AllOrders.hand.Goals as goal
use Rattle.order_parts.proofs.all_orders.AllOrders.hand.Goals.{in-Some, in-None}

pub returns-clause-handed : goal.returns-clause-handed
returns-clause-handed c =
    elim c.match-index_mut.branch [
      | in-Some w ↦ rw w.self-inside-is (set_shown (λ r. handed r c.args.number) c.self.inside.queues.items c.args.self.now c.args.queue c.index_mut.result.now (Some w.hand.new.self) c.self.view_is c.requires.there c.index_mut.ensures.value (w.hand.ensures.handed ∙ (sym (cond-true (is_restoring w.in-Some.order) _ w.in-Some.order (restores c.self.inside.queues.items c.args.self.now c.args.queue c.index_mut.result.now w.in-Some.order c.self.invariant.buffers c.self.view_is c.requires.there c.index_mut.ensures.value w.in-Some.is)) ∙ ap (λ o. handed (shown o) c.args.number) (sym w.in-Some.is))))
      | in-None w ↦ rw w.self-inside-is (set_shown (λ r. handed r c.args.number) c.self.inside.queues.items c.args.self.now c.args.queue c.index_mut.result.now c.index_mut.result.now c.self.view_is c.requires.there c.index_mut.ensures.value (rw w.in-None.is refl))
    ]
