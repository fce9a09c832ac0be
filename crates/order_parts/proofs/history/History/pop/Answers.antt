use Rattle.std.proofs.Common.{List, drop, slice_get, sym, ap, ◌∙◌}
use Rattle.order_parts.specs.declared.history.Entry.{Entry}
use Rattle.order_parts.specs.History.{Entries, entries_of}
use Rattle.order_parts.proofs.Rings.{none_held, one_less}
use Rattle.order_parts.proofs.history.History.pop.Goals as goal

pub returns-then-self-eq0-clause-value : goal.returns-then-self-eq0-clause-value
returns-then-self-eq0-clause-value c =
    sym (ap (λ (es : List Entry). slice_get es 0) (none_held c.self.inside c.self.invariant c.if-self-eq0.true)) ∙ ap (λ (h : Entries). slice_get h.entries 0) c.self.view_is

pub returns-then-self-eq0-clause-rest : goal.returns-then-self-eq0-clause-rest
returns-then-self-eq0-clause-rest c =
    let none = none_held c.self.inside c.self.invariant c.if-self-eq0.true in
    sym c.self.view_is ∙ ap (λ (es : List Entry). entries_of es c.self.inside.capacity) (none ∙ sym (ap (drop 1) none))
    ∙ ap (λ (h : Entries). entries_of (drop 1 h.entries) h.capacity) c.self.view_is

pub returns-clause-value : goal.returns-clause-value
returns-clause-value c =
    sym (ap (λ (es : List Entry). slice_get es 0) (one_less c.self.inside c.self.invariant c.index-entry.result.now c.index-entry.ensures c.if-self-eq0.false))
    ∙ ap (λ (h : Entries). slice_get h.entries 0) c.self.view_is

pub returns-clause-rest : goal.returns-clause-rest
returns-clause-rest c =
    sym (ap (λ (es : List Entry). entries_of (drop 1 es) c.self.inside.capacity) (one_less c.self.inside c.self.invariant c.index-entry.result.now c.index-entry.ensures c.if-self-eq0.false))
    ∙ ap (λ (h : Entries). entries_of (drop 1 h.entries) h.capacity) c.self.view_is
