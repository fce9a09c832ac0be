use Rattle.std.proofs.Common.{◌≡◌, ◌+◌, ◌-◌, ap, ◌∙◌, arith, drop, sum_by}
use Rattle.order_parts.specs.Reorder.{wrapped}
use Rattle.order_parts.specs.Rows.{kept_by}
use Rattle.order_parts.specs.declared.reorder.Handed.{Handed}
use Rattle.order_parts.proofs.Changes.{rows_advanced, shown_advanced}
use Rattle.order_parts.proofs.Kept.{others_counted}
use Rattle.order_parts.proofs.reorder.Reorder.advance.Goals as goal
use Rattle.order_parts.proofs.reorder.Reorder.advance.Goals.{After-around-self-inside, After-kept_by}

-- what the others keep is what is counted without the oldest place's
rest : (c : After-kept_by) → c.self.inside.kept - c.kept_by.result ≡ sum_by (λ (h : Handed). h.kept) (drop 1 c.self.inside.ring.items)
rest c = omega (arith, others_counted c.self.inside c.self.invariant, c.kept_by.ensures ∙ ap kept_by c.pop_front-oldest.ensures.value)

-- the row behind the oldest place's is now the first
next_row : (c : After-around-self-inside) → c.around-self-inside.result ≡ wrapped c.self.inside.ring.capacity (c.self.inside.first_row + 1)
next_row c =
    c.around-self-inside.ensures ∙ ap (λ n. wrapped n (c.self.inside.first_row + 1)) (c.capacity.ensures.capacity ∙ ap (λ b. b.capacity) c.pop_front-oldest.ensures.items)

pub overflow_sub-self : goal.overflow_sub-self
overflow_sub-self c = omega (arith, others_counted c.self.inside c.self.invariant, c.kept_by.ensures ∙ ap kept_by c.pop_front-oldest.ensures.value)

pub invariant_of-self : goal.invariant_of-self
invariant_of-self c =
    let at = goal.at.invariant_of-self c in
    rw c.pop_front-oldest.ensures.items (rw (next_row at.After-around-self-inside) (rows_advanced c.self.inside c.self.invariant _ _ (rest at.After-kept_by)))

pub returns : goal.returns
returns c =
    rw c.pop_front-oldest.ensures.items
    (rw (next_row (goal.at.returns c).After-around-self-inside) (shown_advanced c.self.inside c.self.invariant c.args.self.now c.self.view_is c.requires (c.self.inside.kept - c.kept_by.result)))
