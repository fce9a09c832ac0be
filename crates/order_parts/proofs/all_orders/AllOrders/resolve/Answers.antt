use Rattle.std.proofs.Common.{Some, option_copied, refl, ap, sym, ◌∙◌}
use Rattle.std.proofs.lemmas.Bool.{cond-true}
use Rattle.order_parts.specs.Orders.{shown, is_restoring, resolved_in}
use Rattle.order_parts.proofs.Buffers.{restores, set_shown}
use Rattle.order_parts.proofs.all_orders.AllOrders.resolve.Goals as goal
use Rattle.order_parts.proofs.all_orders.AllOrders.resolve.Goals.{in-Some, in-None}

pub returns-clause-resolved : goal.returns-clause-resolved
returns-clause-resolved c =
    elim c.match-index_mut.branch [
      | in-Some w ↦ rw w.self-inside-is (set_shown (λ r. resolved_in r c.args.place (option_copied c.args.forward)) c.self.inside.queues.items c.args.self.now c.args.queue c.index_mut.result.now (Some w.resolve.new.self) c.self.view_is c.requires.there c.index_mut.ensures.value (w.resolve.ensures ∙ (sym (cond-true (is_restoring w.in-Some.order) _ w.in-Some.order (restores c.self.inside.queues.items c.args.self.now c.args.queue c.index_mut.result.now w.in-Some.order c.self.invariant.buffers c.self.view_is c.requires.there c.index_mut.ensures.value w.in-Some.is)) ∙ ap (λ o. resolved_in (shown o) c.args.place (option_copied c.args.forward)) (sym w.in-Some.is))))
      | in-None w ↦ rw w.self-inside-is (set_shown (λ r. resolved_in r c.args.place (option_copied c.args.forward)) c.self.inside.queues.items c.args.self.now c.args.queue c.index_mut.result.now c.index_mut.result.now c.self.view_is c.requires.there c.index_mut.ensures.value (rw w.in-None.is refl))
    ]
