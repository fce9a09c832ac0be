use Rattle.timelines.proofs.Layouts.{rows_end, bottom_end}
use Rattle.timelines.proofs.layout.rows_of.Goals as goal

pub returns-clause-rows : goal.returns-clause-rows
returns-clause-rows c = rows_end c.args.ends.now c.args.begun.now c.loop-steps.steps-index c.loop-steps.top c.loop-steps.rows.items _ c.loop-steps-test.false c.loop-steps.invariant.written

pub returns-clause-bottom : goal.returns-clause-bottom
returns-clause-bottom c = bottom_end c.args.ends.now c.args.begun.now c.loop-steps.steps-index c.loop-steps.top _ c.loop-steps-test.false c.loop-steps.invariant.below
