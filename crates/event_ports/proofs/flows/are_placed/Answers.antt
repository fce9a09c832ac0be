-- Each link passed the test.
use Rattle.std.proofs.Common.{rules, ◌≡◌, length}
use Rattle.event_ports.proofs.Looks.{placed_by}
use Rattle.event_ports.proofs.flows.are_placed.Goals as goal

pub returns : goal.returns
returns c ok =
    let whole : c.loop-position.position ≡ length c.args.links.now = search rules in
    placed_by c.args.lanes c.args.links.now c.loop-position.position whole c.requires c.loop-position.invariant
