use Rattle.std.proofs.Common.{◌+◌, refl, sym, subst, arith}
use Rattle.std.proofs.lemmas.List.{length-set}
use Rattle.order_parts.specs.Held.{AreNoted}
use Rattle.order_parts.specs.Pins.{Pin, pin_at, pinned}
use Rattle.order_parts.proofs.Holds.{set_pin}
use Rattle.order_parts.proofs.pins.Pins.pin.Goals as goal

pub returns : goal.returns
returns c =
    set_pin (λ (p : Pin). pinned p c.args.lane) c.self.inside.holds.items c.args.self.now c.args.slot c.index_mut-hold.result.now (record { count = c.index_mut-hold.result.now.count + 1; lane = c.args.lane }) c.self.view_is c.requires.there c.index_mut-hold.ensures.value refl

pub invariant_of-self : goal.invariant_of-self
invariant_of-self c =
    let was : AreNoted c.args.self.now c.self.inside.is_kept c.self.inside.held = subst (λ ps. AreNoted ps c.self.inside.is_kept c.self.inside.held) c.self.view_is c.self.invariant in
    subst (λ ps. AreNoted ps c.self.inside.is_kept c.note_pinned.new.held) (sym (returns c))
    (record {
      few = omega (arith, was.few, length-set c.args.self.now c.args.slot (pinned (pin_at c.args.self.now c.args.slot) c.args.lane));
      held = λ kept. c.note_pinned.ensures c.args.self.now kept (was.held kept) c.requires.there c.requires.may;
    })
