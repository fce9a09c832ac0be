use Rattle.std.proofs.Common.{◌++◌, ap, ◌∙◌, sym}
use Rattle.std.specs.Prelude.{filter_map}
use Rattle.lists.proofs.Ranges.{flat_map_range_more}
use Rattle.transcripts.specs.Transcript.{unanswered}
use Rattle.judge_app.specs.Forwards.{number_of}
use Rattle.judge_app.proofs.orders.held_of.Goals as goal

pub loop-lane-preserved : goal.loop-lane-preserved
loop-lane-preserved c =
    c.in_ok-extend_from_slice.ensures.items
    ∙ (ap (λ xs. c.loop-lane.numbers.items ++ xs) (c.deref.ensures.value ∙ c.in_ok-held_on.ensures)
    ∙ (ap (λ xs. xs ++ filter_map (number_of c.args.queue) (unanswered c.args.past.now c.loop-lane.lane)) c.loop-lane.invariant
    ∙ sym (flat_map_range_more (λ m. filter_map (number_of c.args.queue) (unanswered c.args.past.now m)) c.loop-lane.lane)))
