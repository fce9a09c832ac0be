-- A lane from which something came that is held is there.
use Rattle.std.proofs.Common.{Some, ◌≡◌, ◌∙◌, sym, ap}
use Rattle.event_ports.specs.declared.lane.Lane.TheVariants.{Flow}
use Rattle.event_ports.specs.Lanes.{first_lane, held_in}
use Rattle.event_ports.proofs.Oldest.{oldest_there}
use Rattle.event_ports.proofs.lanes.Lanes.extras.Goals as goal

pub extras-requires-in-Flow : goal.extras-requires-in-Flow
extras-requires-in-Flow c =
    let first : first_lane (held_in c.args.self.now.own c.args.self.now.order) ≡ Some (Flow c.in-Flow.lane) = sym c.first.ensures ∙ c.in_ok-first.was ∙ ap Some c.in-Flow.is in
    oldest_there c.args.self.now c.in-Flow.lane first
