use Rattle.std.proofs.Common.{◌≡◌, Some, ap, arith, length, get_or, sym, ◌∙◌}
use Rattle.std.proofs.lemmas.Option.{slice_get-get_or}
use Rattle.order_parts.specs.History.{Entries}
use Rattle.order_parts.proofs.Rings.{entry_at, held_len}
use Rattle.order_parts.proofs.history.History.entry.Goals as goal

pub overflow_add-self-inside : goal.overflow_add-self-inside
overflow_add-self-inside c =
    let same : length c.args.self.now.entries ≡ c.self.inside.len = sym (ap (λ (h : Entries). length h.entries) c.self.view_is) ∙ held_len c.self.inside c.self.invariant in
    omega (arith, c.requires, c.self.invariant.first, c.self.invariant.few, c.self.invariant.room, c.self.inside.ring.ok.0, c.self.inside.ring.small)

pub returns : goal.returns
returns c =
    let same : length c.args.self.now.entries ≡ c.self.inside.len = sym (ap (λ (h : Entries). length h.entries) c.self.view_is) ∙ held_len c.self.inside c.self.invariant in
    let y = c.index.result.now in
    slice_get-get_or c.args.self.now.entries c.args.index y c.requires
    ∙ ap Some (ap (λ (h : Entries). get_or h.entries c.args.index y) (sym c.self.view_is) ∙ (entry_at c.self.inside c.self.invariant c.args.index y (omega (arith, c.requires, same)) ∙ sym c.index.ensures))
