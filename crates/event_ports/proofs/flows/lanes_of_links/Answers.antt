-- No lane, where the links don't rise.
use Rattle.event_ports.proofs.Looks.{none_placed}
use Rattle.event_ports.proofs.flows.lanes_of_links.Goals as goal

pub returns-then-not-are_placed : goal.returns-then-not-are_placed
returns-then-not-are_placed c = none_placed c.none.result c.args.links.now c.none.ensures
