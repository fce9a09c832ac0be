use Rattle.std.proofs.Common.{◌≡◌, length, sym, ap, ap₂, subst, ◌∙◌, All, nat_lt, arith}
use Rattle.order_parts.specs.Reorder.{HasFew, Reordering}
use Rattle.order_parts.proofs.Fields.{all_few, rows}
use Rattle.order_parts.proofs.Places.{places_length}
use Rattle.order_parts.proofs.reorder.Reorder.room.Goals as goal

-- as many as the ring has
count : (c : goal.After-capacity) → c.len.result ≡ length c.args.self.now.places
count c = c.len.ensures.len ∙ sym (places_length (rows c.self.inside) c.self.inside.ring.items) ∙ ap (λ (r : Reordering). length r.places) c.self.view_is

depth : (c : goal.After-capacity) → c.capacity.result ≡ c.args.self.now.depth
depth c = c.capacity.ensures.capacity ∙ ap (λ (r : Reordering). r.depth) c.self.view_is

pub returns-clause-value : goal.returns-clause-value
returns-clause-value c = ap₂ nat_lt (count c) (depth c)

pub returns-clause-within : goal.returns-clause-within
returns-clause-within c = (omega (arith, count c, depth c, c.len.ensures, c.capacity.ensures), omega (arith, depth c, c.capacity.ensures))

pub returns-clause-few : goal.returns-clause-few
returns-clause-few c = subst (λ (r : Reordering). All HasFew r.places) c.self.view_is (all_few c.self.inside c.self.invariant)
