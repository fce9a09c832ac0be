use Rattle.std.proofs.Common.{sym, ap, ◌∙◌, subst}
use Rattle.step_tally.specs.Counts.{lane_counts}
use Rattle.step_tally.specs.Tables.{HasFewOfLane, lane_in, lane_after}
use Rattle.step_tally.proofs.Entries.{AreCounts-there, AreCounts-beyond, AreCounts-nowhere}
use Rattle.step_tally.proofs.Pushes.{lane_counts-same, lane_counts-other, lane_counts_few}
use Rattle.step_tally.proofs.tables.count_at_lane.Goals as goal

pub count_of_lane-requires : goal.count_of_lane-requires
count_of_lane-requires g c =
    let T = g.L.StepLog.steps c.args._log.now in
    subst HasFewOfLane (sym (c.requires c.in-Some.lane _ c.if-lane-table.true)) (lane_counts_few T c.in-Some.lane (g.met.L.StepLog.short c.args._log.now))

pub returns-then-lane-table-clause-counts : goal.returns-then-lane-table-clause-counts
returns-then-lane-table-clause-counts g c =
    let T = g.L.StepLog.steps c.args._log.now in
    let s = c.args.step.now in
    let told = sym c.lane_in.ensures ∙ c.in-Some.is in
    let here = ap (λ x. lane_after x s) (c.requires c.in-Some.lane _ c.if-lane-table.true) ∙ sym (lane_counts-same T s c.in-Some.lane told) in
    AreCounts-there lane_counts lane_in T s (lane_counts-other T s) c.args.table.now c.requires c.in-Some.lane c.count_of_lane.new.counts told (c.count_of_lane.ensures ∙ here)

pub returns-else-lane-table-clause-counts : goal.returns-else-lane-table-clause-counts
returns-else-lane-table-clause-counts g c =
    AreCounts-beyond lane_counts lane_in _ c.args.step.now (lane_counts-other _ c.args.step.now) c.args.table.now c.requires
    c.in-Some.lane (sym c.lane_in.ensures ∙ c.in-Some.is) c.if-lane-table.false

pub returns-in_default-clause-counts : goal.returns-in_default-clause-counts
returns-in_default-clause-counts g c =
    AreCounts-nowhere lane_counts lane_in _ c.args.step.now (lane_counts-other _ c.args.step.now) c.args.table.now c.requires (sym c.lane_in.ensures ∙ c.in_default.is)
