use Rattle.std.proofs.Common.{ap, ◌∙◌}
use Rattle.timelines.proofs.Layouts.{frame_is}
use Rattle.timelines.specs.Links.{rows}
use Rattle.timelines.proofs.layout.Sheet.of.Goals as goal

pub returns : goal.returns
returns c =
    frame_is c.args.queues c.args.lanes c.args.log.now c.in_ok-links.links.spots.items c.in_ok-links.links.ends.items c.deref-2.result.now (rows c.deref.result.now) c.in_ok-rows.rows.items
    c.in_ok-rows.bottom c.in_ok-flows.flows.items c.unit_of.result c.in_ok-links.ensures.spots c.in_ok-links.ensures.ends c.deref-2.ensures.value (ap rows c.deref.ensures.value ∙ c.in_ok-links.ensures.begun)
    c.in_ok-rows.ensures.rows c.in_ok-rows.ensures.bottom c.in_ok-flows.ensures c.unit_of.ensures.value
