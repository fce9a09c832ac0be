use Rattle.std.proofs.Common.{List, Bool, true, set, ap, ◌∙◌}
use Rattle.transcripts.specs.Choice.{Passed}
use Rattle.sched_core.proofs.LaneSets.{lane_added}
use Rattle.sched_core.proofs.skips.Skips.bounced.Goals as goal

pub returns : goal.returns
returns c =
    ap (λ (lanes : List Bool). let passed : Passed = record { bounced = lanes; given = c.self.inside.given } in passed)
    (lane_added c.self.inside.bounced c.add.new.self c.args.lane c.requires c.self.invariant c.add.ensures.there c.add.ensures.others)
    ∙ ap (λ (s : Passed). let passed : Passed = record { bounced = set s.bounced c.args.lane true; given = s.given } in passed) c.self.view_is
