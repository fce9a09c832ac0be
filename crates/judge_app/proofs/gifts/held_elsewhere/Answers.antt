use Rattle.std.proofs.Common.{◌∙◌, sym, subst, ◌<◌}
use Rattle.evt_types.specs.Plan.{lanes_of}
use Rattle.judge_app.specs.Gifts.{held_on}
use Rattle.judge_app.proofs.Walks.{found_first, found_none}
use Rattle.judge_app.proofs.gifts.held_elsewhere.Goals as goal

pub returns-in-Some : goal.returns-in-Some
returns-in-Some c =
    sym (found_first (held_on c.args.shape.now c.args.past.now c.args.gift c.args.slot) (lanes_of c.args.shape.now) c.loop-lane.lane c.in-Some.found
    (subst (λ n. c.loop-lane.lane < n) c.lanes-lane-end.ensures.value c.loop-lane-test.true) c.loop-lane.invariant (sym c.in_ok-found.ensures ∙ c.in-Some.is))

pub loop-lane-preserved : goal.loop-lane-preserved
loop-lane-preserved c =
    found_none (held_on c.args.shape.now c.args.past.now c.args.gift c.args.slot) c.loop-lane.lane c.loop-lane.invariant (sym c.in_ok-found.ensures ∙ c.in_default.is)
