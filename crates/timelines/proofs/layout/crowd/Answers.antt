use Rattle.std.proofs.Common.{◌≡◌, ◌+◌, ap, ◌∙◌, arith, drop, slice_index}
use Rattle.timelines.proofs.Layouts.{crowd_at, rest_whole}
use Rattle.timelines.specs.Layout.{end_at, meets}
use Rattle.timelines.proofs.layout.crowd.Goals as goal
use Rattle.timelines.proofs.layout.crowd.Goals.{then-met-most, else-met-most}

pub loop-place-preserved : goal.loop-place-preserved
loop-place-preserved c =
    let us = c.args.ends.now in
    let ps = c.args.row.now in
    let k = c.loop-place.place in
    let at = crowd_at us ps k c.loop-place-test.true in
    let value : c.meets-met.result ≡ meets (end_at us (slice_index ps k)) (drop (k + 1) ps) =
    c.meets-met.ensures.value ∙ (ap (meets c.end_at.result) (rest_whole ps (k + 1)) ∙ ap (λ e. meets e (drop (k + 1) ps)) c.end_at.ensures) in
    elim c.if-met-most.branch [
      | then-met-most w ↦ (omega (arith, at, value, c.loop-place.invariant.0, w.if-met-most, w.most-is), omega (arith, c.meets-met.ensures.few, w.most-is))
      | else-met-most w ↦ (omega (arith, at, value, c.loop-place.invariant.0, w.if-met-most, w.most-is), omega (arith, c.loop-place.invariant.1, w.most-is))
    ]
