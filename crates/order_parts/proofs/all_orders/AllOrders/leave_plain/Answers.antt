use Rattle.std.proofs.Common.{Option, Some, None, ap, sym, ◌∙◌}
use Rattle.std.specs.Option.{IfSome, MatchOption}
use Rattle.order_parts.specs.Reorder.{after_leave}
use Rattle.order_parts.specs.Orders.{shown}
use Rattle.order_parts.proofs.Buffers.{set_shown}
use Rattle.order_parts.proofs.all_orders.AllOrders.leave_plain.Goals as goal
use Rattle.order_parts.proofs.all_orders.AllOrders.leave_plain.Goals.{in-Some, in-None}

-- what follows from the second of two facts on what there is
of_second : {X : Type 0} (o : Option X) (A D : Type 0) (B C : X → Type 0) → MatchOption o A (λ x. B x × C x) → ((x : X) → C x → D) → IfSome o (λ x. D)
of_second None A D B C both follows = tt
of_second (Some x) A D B C both follows = follows x both.1

pub returns-clause-rest : goal.returns-clause-rest
returns-clause-rest c =
    elim c.match-index_mut.branch [
      | in-Some w ↦
          rw w.result-is (rw w.self-inside-is (of_second w.leave_plain.result _ _ _ _ w.leave_plain.ensures.left
          (λ x gone. set_shown after_leave c.self.inside.queues.items c.args.self.now c.args.queue c.index_mut.result.now (Some w.leave_plain.new.self) c.self.view_is c.requires c.index_mut.ensures.value (gone ∙ ap (λ o. after_leave (shown o)) (sym w.in-Some.is)))))
      | in-None w ↦ rw w.result-is tt
    ]
