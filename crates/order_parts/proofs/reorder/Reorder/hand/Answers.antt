use Rattle.std.proofs.Common.{◌+◌, ◌%◌, ◌^◌, sym, ap, ◌∙◌}
use Rattle.order_parts.specs.Reorder.{next_number}
use Rattle.order_parts.proofs.Changes.{rows_handed, shown_handed}
use Rattle.order_parts.proofs.Fields.{rows}
use Rattle.order_parts.proofs.Places.{places_length}
use Rattle.order_parts.proofs.reorder.Reorder.hand.Goals as goal

pub invariant_of-self : goal.invariant_of-self
invariant_of-self c = rw c.push_back.ensures.items (rows_handed c.self.inside c.self.invariant c.args.self.now c.self.view_is c.args.number c.requires)

pub returns-clause-value : goal.returns-clause-value
returns-clause-value c =
    ap (λ n. (c.self.inside.first + n) % 2 ^ 64) (c.len.ensures.len ∙ sym (places_length (rows c.self.inside) c.self.inside.ring.items))
    ∙ ap next_number c.self.view_is

pub returns-clause-handed : goal.returns-clause-handed
returns-clause-handed c = rw c.push_back.ensures.items (shown_handed c.self.inside c.self.invariant c.args.self.now c.self.view_is c.args.number c.requires)
