use Rattle.std.proofs.Common.{length, sym, ap, ◌∙◌}
use Rattle.order_parts.specs.History.{Entries}
use Rattle.order_parts.proofs.Rings.{held_len}
use Rattle.order_parts.proofs.history.History.len.Goals as goal

pub returns-clause-value : goal.returns-clause-value
returns-clause-value c = sym (held_len c.self.inside c.self.invariant) ∙ ap (λ (h : Entries). length h.entries) c.self.view_is
