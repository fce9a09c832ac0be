use Rattle.std.proofs.Common.{◌≡◌, ◌+◌, ap, slice_set, subst, sym, ◌∙◌, arith}
use Rattle.small_set.specs.SmallSets.{set_at}
use Rattle.order_parts.specs.Held.{AreHeldBelow}
use Rattle.order_parts.specs.Pins.{Pin, cell_of, pin_at}
use Rattle.order_parts.proofs.HeldSlots.{free_below, next_below}
use Rattle.order_parts.proofs.pins.note_hold.Goals as goal

pub returns-then-hold-gt0 : goal.returns-then-hold-gt0
returns-then-hold-gt0 c ps are within is =
    let same : c.cell_of-cell.result ≡ cell_of (pin_at ps c.args.slot).lane = c.cell_of-cell.ensures.value ∙ ap (λ (p : Pin). cell_of p.lane) (sym is) in
    subst (λ k. AreHeldBelow ps (c.args.slot + 1) (slice_set c.args.held.now k c.add.new.self)) (sym same)
    (next_below ps c.args.held.now c.args.slot are within (set_at c.args.held.now c.cell_of-cell.result) c.add.new.self
    (omega (arith, c.if-hold-gt0.true, ap (λ (p : Pin). p.count) is)) (ap (set_at c.args.held.now) (sym same)) c.add.ensures.there c.add.ensures.others)

pub returns-else-hold-gt0 : goal.returns-else-hold-gt0
returns-else-hold-gt0 c ps are within is = free_below ps c.args.held.now c.args.slot are within (omega (arith, c.if-hold-gt0.false, ap (λ (p : Pin). p.count) is))
