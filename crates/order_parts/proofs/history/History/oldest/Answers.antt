use Rattle.std.proofs.Common.{List, slice_get, sym, ap, ◌∙◌}
use Rattle.order_parts.specs.declared.history.Entry.{Entry}
use Rattle.order_parts.specs.History.{Entries}
use Rattle.order_parts.proofs.Rings.{none_held, one_less}
use Rattle.order_parts.proofs.history.History.oldest.Goals as goal

pub returns-then-self-eq0 : goal.returns-then-self-eq0
returns-then-self-eq0 c = sym (ap (λ (es : List Entry). slice_get es 0) (none_held c.self.inside c.self.invariant c.if-self-eq0.true)) ∙ ap (λ (h : Entries). slice_get h.entries 0) c.self.view_is

pub returns : goal.returns
returns c =
    sym (ap (λ (es : List Entry). slice_get es 0) (one_less c.self.inside c.self.invariant c.index.result.now c.index.ensures c.if-self-eq0.false))
    ∙ ap (λ (h : Entries). slice_get h.entries 0) c.self.view_is
