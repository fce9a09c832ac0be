use Rattle.std.proofs.Common.{◌≡◌, arith, sym, ◌∙◌}
use Rattle.order_parts.proofs.Unpinning.{entry_gone, entry_held, past_slots}
use Rattle.order_parts.proofs.all_pins.unpin_entries.Goals as goal
use Rattle.order_parts.proofs.all_pins.unpin_entries.Goals.{then-entry-slots, else-entry-slots}

pub unpin-requires-clause-held : goal.unpin-requires-clause-held
unpin-requires-clause-held c =
    let of : c.entry-entry.result.now.queue ≡ c.args.queue = omega (arith, c.if-entry-queue.false) in
    entry_held c.args.queue c.loop-index.index c.args.pins.now c.loop-index.pins c.args.history.now.entries c.entry-entry.result.now c.entry-entry.ensures of c.loop-index.invariant.0 c.loop-index.invariant.1 c.loop-index.invariant.2
    (omega (arith, c.slots.ensures, c.if-entry-slots.true))

pub loop-index-preserved : goal.loop-index-preserved
loop-index-preserved c =
    let y = c.entry-entry.result.now in
    let of : y.queue ≡ c.args.queue = omega (arith, c.if-entry-queue.false) in
    entry_gone c.args.queue c.loop-index.index c.args.pins.now c.loop-index.pins c.args.history.now.entries y c.entry-entry.ensures of c.loop-index.invariant.0 c.loop-index.invariant.1 c.loop-index.invariant.2 c.if-entry-slots.pins
    (elim c.if-entry-slots.branch [
      | then-entry-slots w ↦ w.pins-is ∙ w.unpin.ensures
      | else-entry-slots w ↦ w.pins-is ∙ sym (past_slots c.loop-index.pins y (omega (arith, c.slots.ensures, w.if-entry-slots.false)))
    ])
