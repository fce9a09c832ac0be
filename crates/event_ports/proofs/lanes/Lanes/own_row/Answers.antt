-- As many are held in all as of the own lane.
use Rattle.std.proofs.Common.{◌≡◌, ◌≤◌, length, ap, arith}
use Rattle.std.proofs.lemmas.List.{length-map}
use Rattle.std.proofs.lemmas.List.Elements.{All-take}
use Rattle.evt_types.specs.Event.{pair_of}
use Rattle.lane_rings.specs.Ends.{unanswered}
use Rattle.event_ports.specs.Handed.{hand_of}
use Rattle.event_ports.specs.Lanes.{held_of, pair_in}
use Rattle.event_ports.specs.declared.lane.Holding.{Holding}
use Rattle.event_ports.specs.declared.lane.Lane.TheVariants.{Own}
use Rattle.event_ports.proofs.OwnRows.{all_own}
use Rattle.event_ports.proofs.lanes.Lanes.own_row.Goals as goal

pub returns-clause-own : goal.returns-clause-own
returns-clause-own c =
    let was = c.args.self.now in
    let every : length (hand_of was).holding ≤ length (held_of Own (hand_of was).holding) =
    omega (arith, c.if-held.false, c.held-held.ensures.value, c.held.ensures.value, ap length (was.ordered Own), length-map (held_of Own (hand_of was).holding) pair_in, length-map (unanswered was.own) pair_of) in
    All-take (λ (x : Holding). x.lane ≡ Own) _ (hand_of was).holding (all_own (hand_of was).holding every)
