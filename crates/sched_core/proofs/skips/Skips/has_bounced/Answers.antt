use Rattle.std.proofs.Common.{false, sym, ap, ◌∙◌}
use Rattle.std.proofs.lemmas.Bool.{le-ltb}
use Rattle.std.proofs.lemmas.Bool.Decides.{same_from_decides}
use Rattle.transcripts.specs.Choice.{Passed, has_bounced}
use Rattle.sched_core.specs.Skipped.{has_lane}
use Rattle.sched_core.proofs.LaneSets.{lane_decides, lane_here, lane_past}
use Rattle.sched_core.proofs.skips.Skips.has_bounced.Goals as goal

pub returns-then-lane-lt-MAX_LANES : goal.returns-then-lane-lt-MAX_LANES
returns-then-lane-lt-MAX_LANES c =
    let sets = c.self.inside.bounced in
    let lane = c.args.lane in
    same_from_decides c.has.result (has_lane sets lane) c.has.ensures (lane_decides sets lane)
    ∙ sym (lane_here sets lane false c.if-lane-lt-MAX_LANES.true) ∙ ap (λ (s : Passed). has_bounced s lane) c.self.view_is

pub returns-else-lane-lt-MAX_LANES : goal.returns-else-lane-lt-MAX_LANES
returns-else-lane-lt-MAX_LANES c =
    le-ltb c.args.lane 160 c.if-lane-lt-MAX_LANES.false
    ∙ sym (lane_past c.self.inside.bounced c.args.lane c.if-lane-lt-MAX_LANES.false) ∙ ap (λ (s : Passed). has_bounced s c.args.lane) c.self.view_is
