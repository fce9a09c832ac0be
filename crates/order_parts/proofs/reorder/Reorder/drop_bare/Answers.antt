use Rattle.std.proofs.Common.{◌≡◌, ◌+◌, ◌≤◌, ⊎_elim, ap, arith, drop, length, sym, ◌∙◌}
use Rattle.std.proofs.lemmas.Bool.{cases_lt}
use Rattle.circular_buffer.specs.Buffer.{buffer}
use Rattle.order_parts.specs.Reorder.{Reordering, wrapped}
use Rattle.order_parts.proofs.Changes.{rows_left, shown_left}
use Rattle.order_parts.proofs.Fields.{rows}
use Rattle.order_parts.proofs.Kept.{counted}
use Rattle.order_parts.proofs.Places.{places_length}
use Rattle.order_parts.proofs.reorder.Reorder.drop_bare.Goals as goal
use Rattle.order_parts.proofs.reorder.Reorder.drop_bare.Goals.{After-around-self-inside, After-len}

few : (c : After-len) → c.args.count ≤ length c.self.inside.ring.items
few c = omega (arith, c.requires.few, places_length (rows c.self.inside) c.self.inside.ring.items, ap (λ (r : Reordering). length r.places) c.self.view_is)

bare : (c : After-len) → c.self.inside.kept ≡ 0
bare c = sym (counted c.self.inside c.args.self.now c.self.view_is c.self.invariant) ∙ c.requires.bare

left : (c : After-around-self-inside) → c.args.count ≤ length c.self.inside.ring.items → c.truncate_front.new.self ≡ buffer (drop c.args.count c.self.inside.ring.items) c.self.inside.ring.capacity
left c here =
    c.truncate_front.ensures
    ∙ ap (λ n. buffer (drop n c.self.inside.ring.items) c.self.inside.ring.capacity) (omega (arith, c.len.ensures.len, here))

row : (c : After-around-self-inside) → c.around-self-inside.result ≡ wrapped c.self.inside.ring.capacity (c.self.inside.first_row + c.args.count)
row c =
    c.around-self-inside.ensures ∙ ap (λ n. wrapped n (c.self.inside.first_row + c.args.count)) (c.capacity.ensures.capacity ∙ ap (λ b. b.capacity) c.truncate_front.ensures)

pub overflow_sub-rest : goal.overflow_sub-rest
overflow_sub-rest c = omega (arith, c.len.ensures.len, few (goal.at.overflow_sub-rest c).After-len)

pub overflow_add-self-inside : goal.overflow_add-self-inside
overflow_add-self-inside c =
    let held = few (goal.at.overflow_add-self-inside c).After-len in
    ⊎_elim (λ some. let within = c.self.invariant.start some in omega (arith, within, held, c.self.invariant.places, c.len.ensures.within))
    (λ none. omega (arith, none, held, c.self.invariant.places, c.self.ranges))
    (cases_lt 0 c.self.inside.ring.capacity)

pub invariant_of-self : goal.invariant_of-self
invariant_of-self c =
    let at = (goal.at.invariant_of-self c).After-around-self-inside in
    let here = few (goal.at.invariant_of-self c).After-len in
    rw (left at here) (rw (row at) (rows_left c.self.inside c.self.invariant (bare (goal.at.invariant_of-self c).After-len) c.args.count _ here))

pub returns : goal.returns
returns c =
    let at = (goal.at.returns c).After-around-self-inside in
    let here = few (goal.at.returns c).After-len in
    rw (left at here) (rw (row at) (shown_left c.args.count c.self.inside c.self.invariant c.args.self.now c.self.view_is (bare (goal.at.returns c).After-len) (omega (arith, c.self.ranges)) here))
