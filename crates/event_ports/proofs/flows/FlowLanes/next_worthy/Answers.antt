-- The lowest lane that is left, of those whose hints were cleared now.
use Rattle.std.proofs.Common.{◌≡◌, IfSome, ap, subst}
use Rattle.lane_rings.specs.LaneSets.{AreLowest, SameBut}
use Rattle.lane_rings.specs.declared.hints.LaneSet.{LaneSet}
use Rattle.event_ports.specs.declared.flows.Worthy.{Worthy}
use Rattle.event_ports.proofs.Looks.{none_left}
use Rattle.event_ports.proofs.flows.FlowLanes.next_worthy.Goals as goal

pub returns-clause-others : goal.returns-clause-others
returns-clause-others c =
    let same : c.take.new.self.left ≡ c.args.worthy.now.left = ap (λ (w : Worthy). w.left) c.in_default.ensures.same in
    let From : LaneSet → Type 0 = λ s. IfSome c.take-2.result (λ lane. SameBut lane s c.take-2.new.self.left) in
    subst From same c.take-2.ensures.others

pub returns-clause-none : goal.returns-clause-none
returns-clause-none c =
    let same : c.take.new.self.left ≡ c.args.worthy.now.left = ap (λ (w : Worthy). w.left) c.in_default.ensures.same in
    let Of : LaneSet → Type 0 = λ s. AreLowest s c.args.most c.lowest-next.result in
    none_left c.take-2.result c.args.worthy.now.left c.lowest-next.result c.args.most (subst Of same c.lowest-next.ensures.lowest) c.take-2.ensures.none
