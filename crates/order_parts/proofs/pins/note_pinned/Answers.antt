use Rattle.std.proofs.Common.{ap, slice_set, subst, sym, ◌∙◌}
use Rattle.std.proofs.lemmas.Bool.{false≢true}
use Rattle.small_set.specs.SmallSets.{set_at}
use Rattle.order_parts.specs.Held.{AreHeld}
use Rattle.order_parts.specs.Pins.{pin_at, pinned}
use Rattle.order_parts.proofs.HeldSlots.{cell_low, pin_held}
use Rattle.order_parts.proofs.pins.note_pinned.Goals as goal

pub returns-then-is_kept : goal.returns-then-is_kept
returns-then-is_kept c ps kept are within may =
    let same = c.cell_of-cell.ensures.value in
    subst (λ k. AreHeld (slice_set ps c.args.slot (pinned (pin_at ps c.args.slot) c.args.lane)) (slice_set c.args.held.now k c.add.new.self)) (sym same)
    (pin_held ps c.args.held.now are c.args.slot within c.args.lane (set_at c.args.held.now c.cell_of-cell.result) c.add.new.self
    may (cell_low c.args.lane) (ap (set_at c.args.held.now) (sym same)) c.add.ensures.there c.add.ensures.others)

pub returns-else-is_kept : goal.returns-else-is_kept
returns-else-is_kept c ps kept are within may = absurd (false≢true (sym c.if-is_kept.false ∙ kept))
