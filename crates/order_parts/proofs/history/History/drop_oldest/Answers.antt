use Rattle.std.proofs.Common.{◌≡◌, List, ap, arith, drop, length, sym, ◌∙◌}
use Rattle.order_parts.specs.History.{Entries, entries_of}
use Rattle.order_parts.specs.declared.history.Entry.{Entry}
use Rattle.order_parts.proofs.Rings.{fewer_held, held_len}
use Rattle.order_parts.proofs.history.History.drop_oldest.Goals as goal

pub overflow_add-self : goal.overflow_add-self
overflow_add-self c =
    let same : length c.args.self.now.entries ≡ c.self.inside.len = sym (ap (λ (h : Entries). length h.entries) c.self.view_is) ∙ held_len c.self.inside c.self.invariant in
    omega (arith, c.requires, c.self.invariant.first, c.self.invariant.few, c.self.invariant.room, c.self.inside.ring.ok.0, c.self.inside.ring.small)

pub overflow_sub-self : goal.overflow_sub-self
overflow_sub-self c =
    let same : length c.args.self.now.entries ≡ c.self.inside.len = sym (ap (λ (h : Entries). length h.entries) c.self.view_is) ∙ held_len c.self.inside c.self.invariant in
    omega (arith, c.requires)

pub returns : goal.returns
returns c =
    let same : length c.args.self.now.entries ≡ c.self.inside.len = sym (ap (λ (h : Entries). length h.entries) c.self.view_is) ∙ held_len c.self.inside c.self.invariant in
    ap (λ (ys : List Entry). entries_of ys c.self.inside.capacity) (sym (fewer_held c.self.inside c.self.invariant c.args.count (omega (arith, c.requires, same))))
    ∙ ap (λ (h : Entries). entries_of (drop c.args.count h.entries) h.capacity) c.self.view_is
