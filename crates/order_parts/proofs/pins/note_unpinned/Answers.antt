use Rattle.std.proofs.Common.{◌≡◌, ap, slice_set, subst, sym, ◌∙◌, arith}
use Rattle.std.proofs.lemmas.Bool.{false≢true}
use Rattle.small_set.specs.SmallSets.{set_at}
use Rattle.order_parts.specs.Held.{AreHeld}
use Rattle.order_parts.specs.Pins.{Pin, cell_of, pin_at, unpinned}
use Rattle.order_parts.proofs.HeldSlots.{cell_low, last_unpinned, one_unpinned}
use Rattle.order_parts.proofs.pins.note_unpinned.Goals as goal
use Rattle.order_parts.proofs.pins.note_unpinned.Goals.{else-is_kept-via-then-is_kept+else-left-eq0, else-is_kept-via-else-is_kept}

pub returns-then-left-eq0 : goal.returns-then-left-eq0
returns-then-left-eq0 c ps kept are within is =
    let same : c.cell_of-cell.result ≡ cell_of (pin_at ps c.args.slot).lane = c.cell_of-cell.ensures.value ∙ ap (λ (p : Pin). cell_of p.lane) (sym is) in
    subst (λ k. AreHeld (slice_set ps c.args.slot (unpinned (pin_at ps c.args.slot))) (slice_set c.args.held.now k c.remove.new.self)) (sym same)
    (last_unpinned ps c.args.held.now are c.args.slot within (set_at c.args.held.now c.cell_of-cell.result) c.remove.new.self
    (omega (arith, c.if-left-eq0.true, ap (λ (p : Pin). p.count) is)) (cell_low (pin_at ps c.args.slot).lane) (ap (set_at c.args.held.now) (sym same)) c.remove.ensures.gone c.remove.ensures.others)

pub returns-else-is_kept : goal.returns-else-is_kept
returns-else-is_kept c ps kept are within is =
    let count = ap (λ (p : Pin). p.count) is in
    elim c.else-is_kept.branch [
      | else-is_kept-via-then-is_kept+else-left-eq0 w ↦ one_unpinned ps c.args.held.now are c.args.slot within (omega (arith, w.if-left-eq0.false, count)) (omega (arith, count))
      | else-is_kept-via-else-is_kept w ↦ absurd (false≢true (sym w.if-is_kept.false ∙ kept))
    ]
