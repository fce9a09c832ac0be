use Rattle.std.proofs.Common.{◌≡◌, ◌+◌, ◌++◌, List, ap, arith, drop, subst, sym, take, length, ◌∙◌}
use mathlib.Core.List.{IsPrefix}
use Rattle.evt_types.specs.declared.event.Delivery.{Delivery}
use Rattle.rtrb.specs.Ring.{known_items}
use Rattle.lane_rings.specs.Deliveries.{Row}
use Rattle.lane_rings.specs.Intakes.{handed}
use Rattle.lane_rings.proofs.Growing.{row_behind, row_grown}
use Rattle.lane_rings.proofs.deliveries.Deliveries.take_row.Goals as goal
use Rattle.lane_rings.proofs.deliveries.Deliveries.take_row.Goals.{After-pop_behind}

-- what comes is what was written behind the others
came : (c : After-pop_behind)
    → drop (length c.args.self.now.items) (take (c.self.inside.len + c.pop_behind.result) c.pop_behind.new.places) ≡ take c.pop_behind.result (drop c.self.inside.len c.pop_behind.new.places)
came c =
    row_behind c.self.inside.len c.pop_behind.result c.self.inside.places c.pop_behind.new.places c.args.self.now.items c.pop_behind.ensures.front (ap (λ (r : Row). r.items) c.self.view_is)
    (omega (arith, c.self.invariant))

pub returns-clause-kept : goal.returns-clause-kept
returns-clause-kept c =
    row_grown c.self.inside.len c.pop_behind.result c.self.inside.places c.pop_behind.new.places c.args.self.now.items c.pop_behind.ensures.front (ap (λ (r : Row). r.items) c.self.view_is)
    (omega (arith, c.self.invariant))

pub returns-clause-handed : goal.returns-clause-handed
returns-clause-handed c =
    c.pop_behind.ensures.handed ∙ ap (λ (ds : List Delivery). handed c.args.from.now ++ ds) (sym (came (goal.at.returns-clause-handed c).After-pop_behind))

pub returns-clause-known : goal.returns-clause-known
returns-clause-known c =
    subst (λ (ds : List Delivery). IsPrefix (known_items c.args.from.now.ring) (ds ++ known_items c.pop_behind.new.from.ring)) (sym (came (goal.at.returns-clause-known c).After-pop_behind)) c.pop_behind.ensures.known
