use Rattle.std.proofs.Common.{◌≡◌, ◌↔◌, ◌<◌, ◌^◌, List, [], ℕ, Option, Some, true, false, ap, map, set, length, refl, rules, subst, sym, ◌∙◌}
use Rattle.std.proofs.lemmas.List.{get_or-set_same, with_items_is}
use Rattle.arrayvec.specs.ArrayVec.{ArrayVec}
use Rattle.order_parts.specs.Histories.{AreRoomy, HasRoom}
use Rattle.order_parts.specs.History.{Entries}
use Rattle.order_parts.specs.Orders.{is_restoring, order_at, shown}
use Rattle.order_parts.specs.Pins.{Pin}
use Rattle.order_parts.specs.QueuePins.{pins_at}
use Rattle.order_parts.specs.Reorder.{Reordering}
use Rattle.order_parts.specs.declared.all_orders.AllOrders.TheInside.{Inside as Orders}
use Rattle.order_parts.specs.declared.histories.Histories.TheInside.{Inside}
use Rattle.order_parts.proofs.Buffers.{order_read, restores, shown_set, shown_there}
use Rattle.order_parts.proofs.Dealt.{dealt_same, last_same, roomy_dealt}
use Rattle.order_parts.proofs.Fewest.{has_low}
use Rattle.order_parts.proofs.ShownLists.{shown_at}
use Rattle.small_set.specs.SmallSets.{Has}
use Rattle.order_parts.proofs.histories.Histories.deal_row.Goals as goal
use Rattle.order_parts.proofs.histories.Histories.deal_row.Goals.{in-Some, in-None}

pub deal_ordered-requires-clause-low : goal.deal_ordered-requires-clause-low
deal_ordered-requires-clause-low g c l has = let fits : c.args.among.bits < 2 ^ 64 = search rules in has_low c.args.among l fits has

pub deal_each-requires-clause-low : goal.deal_each-requires-clause-low
deal_each-requires-clause-low g c l has = let fits : c.args.among.bits < 2 ^ 64 = search rules in has_low c.args.among l fits has

pub invariant_of-self : goal.invariant_of-self
invariant_of-self g c =
    elim c.match-index_mut.branch [
      | in-Some w ↦
          subst (λ (a : Inside). AreRoomy a.lanes.items c.except-self-inside.result) (sym w.self-inside-is)
          (subst (λ (xs : List Entries). AreRoomy xs c.except-self-inside.result) (sym (with_items_is c.self.inside.lanes w.deal_ordered.new.lanes (w.deal_ordered.ensures.count ∙ w.deref_mut.ensures.len)))
          (roomy_dealt w.deref_mut.result.now w.deal_ordered.new.lanes c.args.among w.deal_ordered.new.opened c.self.inside.roomy c.except.result c.except-self-inside.result
          (subst (λ (xs : List Entries). AreRoomy xs c.self.inside.roomy) (sym w.deref_mut.ensures.value) c.self.invariant) w.deal_ordered.ensures.count
          (subst (λ (xs : List Entries). (m : ℕ) → Has c.args.among m → HasRoom xs m) (sym (w.deref_mut.ensures.value ∙ c.self.view_is)) c.requires.roomy) w.deal_ordered.ensures.open w.deal_ordered.ensures.others
          (subst (λ o. (m : ℕ) → Has c.except.result m ↔ (Has c.args.among m × ¬ Has o m)) w.open-is c.except.ensures)
          (subst (λ (a : Inside). (m : ℕ) → Has c.except-self-inside.result m ↔ (Has a.roomy m × ¬ Has c.except.result m)) w.self-inside-is c.except-self-inside.ensures)))
      | in-None w ↦
          subst (λ (a : Inside). AreRoomy a.lanes.items c.except-self-inside.result) (sym w.self-inside-is)
          (subst (λ (xs : List Entries). AreRoomy xs c.except-self-inside.result) (sym (with_items_is c.self.inside.lanes w.deal_each.new.lanes (w.deal_each.ensures.count ∙ w.deref_mut-in-None.ensures.len)))
          (roomy_dealt w.deref_mut-in-None.result.now w.deal_each.new.lanes c.args.among w.deal_each.new.opened c.self.inside.roomy c.except.result c.except-self-inside.result
          (subst (λ (xs : List Entries). AreRoomy xs c.self.inside.roomy) (sym w.deref_mut-in-None.ensures.value) c.self.invariant) w.deal_each.ensures.count
          (subst (λ (xs : List Entries). (m : ℕ) → Has c.args.among m → HasRoom xs m) (sym (w.deref_mut-in-None.ensures.value ∙ c.self.view_is)) c.requires.roomy) w.deal_each.ensures.open w.deal_each.ensures.others
          (subst (λ o. (m : ℕ) → Has c.except.result m ↔ (Has c.args.among m × ¬ Has o m)) w.open-is c.except.ensures)
          (subst (λ (a : Inside). (m : ℕ) → Has c.except-self-inside.result m ↔ (Has a.roomy m × ¬ Has c.except.result m)) w.self-inside-is c.except-self-inside.ensures)))
    ]

pub returns-clause-orders : goal.returns-clause-orders
returns-clause-orders g c =
    elim c.match-index_mut.branch [
      | in-Some w ↦
          subst (λ (a : Orders). map shown a.queues.items ≡ set c.args.orders.now c.args.queue (order_at (map shown a.queues.items) c.args.queue)) (sym w.orders-inside-is)
          (shown_set c.orders.inside.queues.items c.args.orders.now c.args.queue (Some w.deal_ordered.new.order) c.orders.view_is c.requires.order)
      | in-None w ↦
          subst (λ (a : Orders). map shown a.queues.items ≡ set c.args.orders.now c.args.queue (order_at (map shown a.queues.items) c.args.queue)) (sym w.orders-inside-is)
          (shown_set c.orders.inside.queues.items c.args.orders.now c.args.queue c.index_mut.result.now c.orders.view_is c.requires.order)
    ]

pub returns-clause-dealt : goal.returns-clause-dealt
returns-clause-dealt g c =
    let os : List (Option Reordering) = c.orders.inside.queues.items in
    let was : order_at c.args.orders.now c.args.queue ≡ shown c.index_mut.result.now = order_read os c.args.orders.now c.args.queue c.index_mut.result.now c.orders.view_is c.requires.order c.index_mut.ensures.value in
    elim c.match-index_mut.branch [
      | in-Some w ↦
          let restores : is_restoring w.in-Some.order ≡ true = restores os c.args.orders.now c.args.queue c.index_mut.result.now w.in-Some.order c.orders.invariant.buffers c.orders.view_is c.requires.order c.index_mut.ensures.value w.in-Some.is in
          let here : order_at c.args.orders.now c.args.queue ≡ w.in-Some.order = was ∙ ap shown w.in-Some.is in
          let bare : pins_at c.args.pins.now c.args.queue ≡ [] = c.requires.unpinned (ap is_restoring here ∙ restores) in
          dealt_same _ c.args.among c.args.queue w.in-Some.order (order_at c.args.orders.now c.args.queue) [] (pins_at c.args.pins.now c.args.queue) w.deref_mut.result.now c.args.self.now c.args.row.now w.deal_ordered.new.to.items c.match-index_mut.to.items
          w.deal_ordered.new.order _ [] (pins_at c.match-index_mut.pins c.args.queue) w.deal_ordered.new.lanes _ here bare (sym (w.deref_mut.ensures.value ∙ c.self.view_is)) (ap (λ (v : ArrayVec ℕ). v.items) w.to-is)
          (ap (λ (a : Orders). order_at (map shown a.queues.items) c.args.queue) w.orders-inside-is ∙ shown_there os c.args.orders.now c.args.queue (Some w.deal_ordered.new.order) c.orders.view_is c.requires.order)
          (ap (λ (ps : List (List Pin)). pins_at ps c.args.queue) w.pins-is ∙ bare)
          (ap (λ (a : Inside). a.lanes.items) w.self-inside-is ∙ with_items_is c.self.inside.lanes w.deal_ordered.new.lanes (w.deal_ordered.ensures.count ∙ w.deref_mut.ensures.len)) w.deal_ordered.ensures.dealt
      | in-None w ↦
          let plain : is_restoring (order_at c.args.orders.now c.args.queue) ≡ false = ap is_restoring (was ∙ ap shown w.in-None.is) in
          let r : Reordering = order_at c.args.orders.now c.args.queue in
          let pins_was : pins_at c.args.pins.now c.args.queue ≡ w.index_mut-pins.result.now =
          shown_at c.pins.inside.queues.items c.args.pins.now c.args.queue w.index_mut-pins.result.now [] c.pins.view_is c.requires.pins w.index_mut-pins.ensures.value in
          dealt_same _ c.args.among c.args.queue r r w.index_mut-pins.result.now (pins_at c.args.pins.now c.args.queue) w.deref_mut-in-None.result.now c.args.self.now c.args.row.now w.deal_each.new.to.items c.match-index_mut.to.items
          r _ w.deal_each.new.pins (pins_at c.match-index_mut.pins c.args.queue) w.deal_each.new.lanes _ refl pins_was (sym (w.deref_mut-in-None.ensures.value ∙ c.self.view_is)) (ap (λ (v : ArrayVec ℕ). v.items) w.to-is)
          (ap (λ (a : Orders). order_at (map shown a.queues.items) c.args.queue) w.orders-inside-is ∙ (shown_there os c.args.orders.now c.args.queue c.index_mut.result.now c.orders.view_is c.requires.order ∙ sym was))
          (ap (λ (ps : List (List Pin)). pins_at ps c.args.queue) w.pins-is
          ∙ get_or-set_same c.pins.inside.queues.items c.args.queue w.deal_each.new.pins [] (subst (λ (ps : List (List Pin)). c.args.queue < length ps) (sym c.pins.view_is) c.requires.pins))
          (ap (λ (a : Inside). a.lanes.items) w.self-inside-is ∙ with_items_is c.self.inside.lanes w.deal_each.new.lanes (w.deal_each.ensures.count ∙ w.deref_mut-in-None.ensures.len)) (w.deal_each.ensures.dealt r plain)
    ]

pub returns-clause-last : goal.returns-clause-last
returns-clause-last g c =
    let os : List (Option Reordering) = c.orders.inside.queues.items in
    let was : order_at c.args.orders.now c.args.queue ≡ shown c.index_mut.result.now = order_read os c.args.orders.now c.args.queue c.index_mut.result.now c.orders.view_is c.requires.order c.index_mut.ensures.value in
    elim c.match-index_mut.branch [
      | in-Some w ↦
          let restores : is_restoring w.in-Some.order ≡ true = restores os c.args.orders.now c.args.queue c.index_mut.result.now w.in-Some.order c.orders.invariant.buffers c.orders.view_is c.requires.order c.index_mut.ensures.value w.in-Some.is in
          let bare : pins_at c.args.pins.now c.args.queue ≡ [] = c.requires.unpinned (ap is_restoring (was ∙ ap shown w.in-Some.is) ∙ restores) in
          last_same _ c.args.among [] (pins_at c.match-index_mut.pins c.args.queue) w.deal_ordered.new.lanes _ c.args.row.now w.deal_ordered.new.to.items c.match-index_mut.to.items (ap (λ (v : ArrayVec ℕ). v.items) w.to-is)
          (ap (λ (ps : List (List Pin)). pins_at ps c.args.queue) w.pins-is ∙ bare)
          (ap (λ (a : Inside). a.lanes.items) w.self-inside-is ∙ with_items_is c.self.inside.lanes w.deal_ordered.new.lanes (w.deal_ordered.ensures.count ∙ w.deref_mut.ensures.len)) w.deal_ordered.ensures.last
      | in-None w ↦
          last_same _ c.args.among w.deal_each.new.pins (pins_at c.match-index_mut.pins c.args.queue) w.deal_each.new.lanes _ c.args.row.now w.deal_each.new.to.items c.match-index_mut.to.items (ap (λ (v : ArrayVec ℕ). v.items) w.to-is)
          (ap (λ (ps : List (List Pin)). pins_at ps c.args.queue) w.pins-is
          ∙ get_or-set_same c.pins.inside.queues.items c.args.queue w.deal_each.new.pins [] (subst (λ (ps : List (List Pin)). c.args.queue < length ps) (sym c.pins.view_is) c.requires.pins))
          (ap (λ (a : Inside). a.lanes.items) w.self-inside-is ∙ with_items_is c.self.inside.lanes w.deal_each.new.lanes (w.deal_each.ensures.count ∙ w.deref_mut-in-None.ensures.len)) w.deal_each.ensures.last
    ]
