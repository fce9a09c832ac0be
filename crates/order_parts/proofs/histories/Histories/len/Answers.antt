use Rattle.std.proofs.Common.{length, [], sym, ap, ◌∙◌}
use Rattle.order_parts.specs.History.{Entries, entries_of}
use Rattle.order_parts.proofs.ShownLists.{shown_at}
use Rattle.order_parts.proofs.Rings.{held_len}
use Rattle.order_parts.proofs.histories.Histories.len.Goals as goal

pub returns : goal.returns
returns c = sym (held_len c.behind-self.inside c.behind-self.invariant) ∙ ap (λ (h : Entries). length h.entries) (c.behind-self.view_is ∙ sym (shown_at c.self.inside.lanes.items c.args.self.now c.args.lane c.index.result.now (entries_of [] 0) c.self.view_is c.requires c.index.ensures))
