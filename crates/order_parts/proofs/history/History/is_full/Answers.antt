use Rattle.std.proofs.Common.{length, ◌==◌, sym, ap, ◌∙◌}
use Rattle.order_parts.specs.History.{Entries}
use Rattle.order_parts.proofs.Rings.{held_len}
use Rattle.order_parts.proofs.history.History.is_full.Goals as goal

pub returns : goal.returns
returns c = ap (λ n. n == c.self.inside.capacity) (sym (held_len c.self.inside c.self.invariant)) ∙ ap (λ (h : Entries). length h.entries == h.capacity) c.self.view_is
