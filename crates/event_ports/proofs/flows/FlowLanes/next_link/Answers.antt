-- The links up to the one that is next are of lanes that aren't left.
use Rattle.std.proofs.Common.{arith}
use Rattle.event_ports.specs.Flows.{linked_of}
use Rattle.event_ports.proofs.Looks.{left_after, passed_over}
use Rattle.event_ports.proofs.flows.FlowLanes.next_link.Goals as goal

pub returns-clause-passed : goal.returns-clause-passed
returns-clause-passed c j lane le lt at some =
    let next = c.next_worthy-lane.ensures in
    passed_over (linked_of c.args.self.now) c.args.worthy.now.left c.args.self.now.links.items c.next_worthy-lane.result c.args.most c.links_below-lower.result c.args.self.now.placed
    c.links_below-lower.ensures next.first next.none j lane (omega (arith, le, lt, c.min.ensures, c.max.ensures)) at some

pub returns-clause-left : goal.returns-clause-left
returns-clause-left c j lane lt at seen here =
    let next = c.next_worthy-lane.ensures in
    left_after (linked_of c.args.self.now) c.args.worthy.now.left c.next_worthy-lane.new.worthy.left c.args.self.now.links.items c.next_worthy-lane.result c.links_below-lower.result c.min.result
    c.args.self.now.placed c.links_below-lower.ensures next.others next.same (λ few. omega (arith, few, c.min.ensures, c.max.ensures, c.len-2.ensures)) j lane lt at seen here
