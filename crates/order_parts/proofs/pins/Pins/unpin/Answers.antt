use Rattle.std.proofs.Common.{◌≡◌, ◌+◌, ◌-◌, refl, sym, ap, ◌∙◌, subst, arith}
use Rattle.std.proofs.lemmas.List.{length-set}
use Rattle.order_parts.specs.Held.{AreNoted}
use Rattle.order_parts.specs.Pins.{Pin, pin_at, pin_of, pin_on, unpinned}
use Rattle.order_parts.proofs.Holds.{set_pin, pin_here}
use Rattle.order_parts.proofs.pins.Pins.unpin.Goals as goal

pub returns : goal.returns
returns c =
    set_pin unpinned c.self.inside.holds.items c.args.self.now c.args.slot c.index_mut-hold.result.now (record { count = c.index_mut-hold.result.now.count - 1; lane = c.index_mut-hold.result.now.lane }) c.self.view_is c.requires.there c.index_mut-hold.ensures.value refl

pub invariant_of-self : goal.invariant_of-self
invariant_of-self c =
    let was : AreNoted c.args.self.now c.self.inside.is_kept c.self.inside.held = subst (λ ps. AreNoted ps c.self.inside.is_kept c.self.inside.held) c.self.view_is c.self.invariant in
    let pin : pin_at c.args.self.now c.args.slot ≡ pin_of c.index_mut-hold.result.now = pin_here c.self.inside.holds.items c.args.self.now c.args.slot c.index_mut-hold.result.now c.self.view_is c.requires.there c.index_mut-hold.ensures.value in
    let some = ap (λ (p : Pin). p.count) pin in
    let back : c.index_mut-hold.result.now.count ≡ c.index_mut-hold.result.now.count - 1 + 1 = omega (arith, c.requires.held, some) in
    subst (λ ps. AreNoted ps c.self.inside.is_kept c.note_unpinned.new.held) (sym (returns c))
    (record {
      few = omega (arith, was.few, length-set c.args.self.now c.args.slot (unpinned (pin_at c.args.self.now c.args.slot)));
      held = λ kept. c.note_unpinned.ensures c.args.self.now kept (was.held kept) c.requires.there (pin ∙ ap (λ n. pin_on n c.index_mut-hold.result.now.lane) back);
    })
