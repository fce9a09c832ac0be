use Rattle.std.proofs.Common.{◌≡◌, ◌+◌, ◌%◌, ◌^◌, ap, arith, ◌∙◌}
use Rattle.order_parts.specs.Reorder.{Reordering, number_of}
use Rattle.order_parts.proofs.InTurn.{more_in_turn}
use Rattle.order_parts.proofs.reorder.Reorder.in_turn.Goals as goal

pub loop-index-preserved : goal.loop-index-preserved
loop-index-preserved c =
    let y = c.entry-entry.result.now in
    let of : y.queue ≡ c.args.queue = omega (arith, c.if-entry-queue.false) in
    let at : y.place ≡ (c.self.inside.first + c.loop-index.index) % 2 ^ 64 = omega (arith, c.if-entry-self.false) in
    more_in_turn c.args.queue c.loop-index.index c.args.self.now c.args.history.now.entries y c.loop-index.invariant c.entry-entry.ensures of
    (at ∙ ap (λ (r : Reordering). number_of r c.loop-index.index) c.self.view_is)
