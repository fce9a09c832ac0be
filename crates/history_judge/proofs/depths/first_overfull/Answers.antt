use Rattle.std.proofs.Common.{◌≡◌, ◌∙◌, Some, ap, replicate, slice_get, sym}
use Rattle.history_judge.proofs.Followed.{times_there}
use Rattle.history_judge.proofs.Holdings.{lane_there, port_there}
use Rattle.history_judge.proofs.InOrder.{entry_at, none_at_all}
use Rattle.history_judge.proofs.Overfull.{counted_more, counts_there, never_overfull, none_counted, overfull_by, overfull_within}
use Rattle.history_judge.specs.Breaches.{IsOverfull}
use Rattle.history_judge.proofs.depths.first_overfull.Goals as goal

pub loop-at-init : goal.loop-at-init
loop-at-init c =
    none_counted c.args.shape.now c.args.history.now c.in_ok-got.got.items (c.in_ok-got.ensures ∙ ap (λ n. replicate n 0) c.port_count.ensures)

pub count_got-number-requires-clause-port : goal.count_got-number-requires-clause-port
count_got-number-requires-clause-port c =
    counts_there c.args.shape.now c.args.history.now c.args.times.now c.loop-at.at c.index-history-at.result c.loop-at.got.items c.requires
    (entry_at c.args.history.now c.loop-at.at c.index-history-at.result c.loop-at-test.true c.index-history-at.is) c.loop-at.invariant

pub exceeds-requires-clause-lane : goal.exceeds-requires-clause-lane
exceeds-requires-clause-lane c =
    lane_there c.args.shape.now c.index-history-at.result.port
    (port_there c.args.shape.now c.args.history.now c.args.times.now c.loop-at.at c.index-history-at.result c.requires
    (entry_at c.args.history.now c.loop-at.at c.index-history-at.result c.loop-at-test.true c.index-history-at.is))

pub exceeds-requires-clause-port : goal.exceeds-requires-clause-port
exceeds-requires-clause-port c =
    times_there c.args.shape.now c.args.history.now c.args.times.now c.loop-at.at c.index-history-at.result c.requires
    (entry_at c.args.history.now c.loop-at.at c.index-history-at.result c.loop-at-test.true c.index-history-at.is)

pub returns-then-exceeds-clause-some : goal.returns-then-exceeds-clause-some
returns-then-exceeds-clause-some c =
    let at : slice_get c.args.history.now c.loop-at.at ≡ Some c.index-history-at.result =
    entry_at c.args.history.now c.loop-at.at c.index-history-at.result c.loop-at-test.true c.index-history-at.is in
    overfull_by c.args.shape.now c.args.history.now c.args.times.now c.loop-at.at c.count_got-number.result c.index-history-at.result c.requires at
    (c.count_got-number.ensures.before
    ∙ c.loop-at.invariant.counts c.index-history-at.result.port (port_there c.args.shape.now c.args.history.now c.args.times.now c.loop-at.at c.index-history-at.result c.requires at))
    (sym c.exceeds.ensures ∙ c.if-exceeds.true)

pub loop-at-preserved : goal.loop-at-preserved
loop-at-preserved c =
    let at : slice_get c.args.history.now c.loop-at.at ≡ Some c.index-history-at.result =
    entry_at c.args.history.now c.loop-at.at c.index-history-at.result c.loop-at-test.true c.index-history-at.is in
    counted_more c.args.shape.now c.args.history.now c.args.times.now c.loop-at.at c.index-history-at.result c.loop-at.got.items c.count_got-number.new.got.items c.requires at
    c.loop-at.invariant c.count_got-number.ensures.counted
    (never_overfull c.args.shape.now c.args.history.now c.args.times.now c.loop-at.at c.count_got-number.result c.index-history-at.result c.requires at
    (c.count_got-number.ensures.before
    ∙ c.loop-at.invariant.counts c.index-history-at.result.port (port_there c.args.shape.now c.args.history.now c.args.times.now c.loop-at.at c.index-history-at.result c.requires at))
    (sym c.exceeds.ensures ∙ c.if-exceeds.false))

pub returns-clause-none : goal.returns-clause-none
returns-clause-none c =
    none_at_all (IsOverfull c.args.shape.now c.args.history.now) c.args.history.now c.loop-at.at c.loop-at-test.false
    (overfull_within c.args.shape.now c.args.history.now) c.loop-at.invariant.none
