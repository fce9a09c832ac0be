use Rattle.std.proofs.Common.{[], ◌≡◌, ◌<◌, List, Some, length, refl, subst, ap, sym, take, ◌∙◌}
use Rattle.std.proofs.lemmas.Bool.{cond-true}
use Rattle.std.proofs.lemmas.List.{get_or_read}
use Rattle.order_parts.specs.Histories.{lane_in}
use Rattle.order_parts.specs.History.{Entries, entries_of}
use Rattle.order_parts.specs.Orders.{shown, is_restoring}
use Rattle.order_parts.specs.Released.{released_all, released_in, without_answered}
use Rattle.order_parts.specs.Reorder.{Reordering}
use Rattle.order_parts.proofs.Buffers.{buffers_left, buffers_same, restores, set_shown}
use Rattle.order_parts.proofs.Leaving.{row_depth}
use Rattle.order_parts.proofs.all_orders.AllOrders.release_oldest.Goals as goal
use Rattle.order_parts.proofs.all_orders.AllOrders.release_oldest.Goals.{in-Some, in-None}

pub invariant_of-self : goal.invariant_of-self
invariant_of-self c =
    elim c.match-index_mut.branch [
      | in-Some w ↦ rw w.self-inside-is (record { buffers = buffers_left c.self.inside.queues.items c.args.self.now c.args.queue c.index_mut.result.now w.in-Some.order w.release_oldest.new.self c.self.invariant.buffers c.self.view_is c.requires.there c.index_mut.ensures.value w.in-Some.is (ap (λ (r : Reordering). r.depth) w.release_oldest.ensures.released ∙ row_depth (take w.release_oldest.result w.index.result.now.entries) w.in-Some.order) })
      | in-None w ↦ rw w.self-inside-is (record { buffers = buffers_same c.self.inside.queues.items c.args.self.now c.args.queue c.index_mut.result.now c.self.invariant.buffers c.self.view_is c.requires.there c.index_mut.ensures.value })
    ]

pub returns-clause-released : goal.returns-clause-released
returns-clause-released c =
    elim c.match-index_mut.branch [
      | in-Some w ↦
          let ys = take c.match-index_mut.result (lane_in c.args.lanes.now c.args.lane).entries in
          let here : w.index.result.now ≡ lane_in c.args.lanes.now c.args.lane = get_or_read c.lanes.inside.lanes.items c.args.lane w.index.result.now (subst (λ (ls : List Entries). c.args.lane < length ls) (sym c.lanes.view_is) c.requires.lane) w.index.ensures (entries_of [] 0) ∙ ap (λ ls. lane_in ls c.args.lane) c.lanes.view_is in
          let left : w.release_oldest.new.self ≡ without_answered (released_all w.in-Some.order ys) = w.release_oldest.ensures.released ∙ ap (λ (h : Entries). without_answered (released_all w.in-Some.order (take w.release_oldest.result h.entries))) here ∙ ap (λ n. without_answered (released_all w.in-Some.order (take n (lane_in c.args.lanes.now c.args.lane).entries))) (sym w.result-is) in
          rw w.self-inside-is (set_shown (λ r. released_in r ys) c.self.inside.queues.items c.args.self.now c.args.queue c.index_mut.result.now (Some w.release_oldest.new.self) c.self.view_is c.requires.there c.index_mut.ensures.value
          (left ∙ (sym (cond-true (is_restoring w.in-Some.order) _ w.in-Some.order (restores c.self.inside.queues.items c.args.self.now c.args.queue c.index_mut.result.now w.in-Some.order c.self.invariant.buffers c.self.view_is c.requires.there c.index_mut.ensures.value w.in-Some.is)) ∙ ap (λ o. released_in (shown o) ys) (sym w.in-Some.is))))
      | in-None w ↦ rw w.self-inside-is (set_shown (λ r. released_in r (take c.match-index_mut.result (lane_in c.args.lanes.now c.args.lane).entries)) c.self.inside.queues.items c.args.self.now c.args.queue c.index_mut.result.now c.index_mut.result.now c.self.view_is c.requires.there c.index_mut.ensures.value (rw w.in-None.is refl))
    ]
