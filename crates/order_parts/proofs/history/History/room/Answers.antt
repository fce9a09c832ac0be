use Rattle.std.proofs.Common.{◌≡◌, length, sym, ap, ◌∙◌, arith}
use Rattle.order_parts.specs.History.{Entries}
use Rattle.order_parts.proofs.Rings.{held_len}
use Rattle.order_parts.proofs.history.History.room.Goals as goal

pub returns : goal.returns
returns c =
    let len : c.self.inside.len ≡ length c.args.self.now.entries = sym (held_len c.self.inside c.self.invariant) ∙ ap (λ (h : Entries). length h.entries) c.self.view_is in
    omega (arith, len, ap (λ (h : Entries). h.capacity) c.self.view_is, c.self.invariant.few)
