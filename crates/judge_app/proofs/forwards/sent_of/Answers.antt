use Rattle.std.proofs.Common.{◌++◌, ap, ◌∙◌, sym}
use Rattle.lists.proofs.Ranges.{flat_map_range_more}
use Rattle.judge_app.specs.Forwards.{sent_on}
use Rattle.judge_app.proofs.forwards.sent_of.Goals as goal

pub loop-lane-preserved : goal.loop-lane-preserved
loop-lane-preserved c =
    c.in_ok-extend_from_slice.ensures.items
    ∙ (ap (λ xs. c.loop-lane.numbers.items ++ xs) (c.deref.ensures.value ∙ c.in_ok-sent_on.ensures)
    ∙ (ap (λ xs. xs ++ sent_on c.args.past.now c.loop-lane.lane c.args.queue) c.loop-lane.invariant ∙ sym (flat_map_range_more (λ m. sent_on c.args.past.now m c.args.queue) c.loop-lane.lane)))
