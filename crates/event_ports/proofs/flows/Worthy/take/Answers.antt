-- The lowest of the lanes whose hints were cleared is the lowest of all.
use Rattle.event_ports.proofs.Looks.{first_less, first_of_all}
use Rattle.event_ports.proofs.flows.Worthy.take.Goals as goal

pub invariant_of-self-2 : goal.invariant_of-self-2
invariant_of-self-2 c =
    let taken = c.in_ok-lane.ensures in
    record { first = first_less c.args.self.now.next c.args.self.now.left c.take_lowest.new.self c.remove.new.self c.in_ok-lane.lane c.args.self.now.first taken.first taken.gone (c.remove.ensures.gone taken.first.within) taken.others c.remove.ensures.others }

pub returns-clause-first : goal.returns-clause-first
returns-clause-first c = first_of_all c.args.self.now.next c.args.self.now.left c.in_ok-lane.lane c.args.self.now.first c.in_ok-lane.ensures.first
