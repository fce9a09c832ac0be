use Rattle.std.proofs.Common.{List, [], ◌∷◌, ◌++◌, ◌+◌, bit_and, ap, ◌∙◌}
use Rattle.order_parts.specs.declared.history.Entry.{Entry}
use Rattle.order_parts.specs.History.{Entries, entries_of}
use Rattle.order_parts.proofs.Rings.{has_room, one_more, ring_written}
use Rattle.order_parts.proofs.history.History.push.Goals as goal

pub invariant_of-self : goal.invariant_of-self
invariant_of-self c =
    ring_written c.self.inside c.self.invariant (bit_and (c.self.inside.first + c.self.inside.len) c.self.inside.mask) c.args.entry (has_room c.self.inside c.self.invariant c.args.self.now c.self.view_is c.requires)

pub returns : goal.returns
returns c =
    ap (λ (es : List Entry). entries_of es c.self.inside.capacity)
    (one_more c.self.inside c.self.invariant c.args.entry (has_room c.self.inside c.self.invariant c.args.self.now c.self.view_is c.requires))
    ∙ ap (λ (h : Entries). entries_of (h.entries ++ c.args.entry ∷ []) h.capacity) c.self.view_is
