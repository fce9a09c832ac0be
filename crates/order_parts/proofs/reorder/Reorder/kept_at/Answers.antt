use Rattle.std.proofs.Common.{◌≡◌, ◌+◌, ◌*◌, ◌<◌, Some, length, get_or, slice_get, option_copied, ap, sym, ◌∙◌, arith}
use Rattle.evt_types.specs.declared.event.Event.{Event}
use Rattle.evt_types.specs.declared.event.Numbered.{Numbered}
use Rattle.evt_types.specs.declared.event.TheConstants.{MAX_FORWARDS}
use Rattle.order_parts.specs.Reorder.{kept_of, wrapped}
use Rattle.order_parts.proofs.Fields.{first_within, index_within, keeps_few, row_there}
use Rattle.order_parts.proofs.Kept.{kept_nth, kept_past, none_there}
use Rattle.order_parts.proofs.reorder.Reorder.kept_at.Goals as goal
use Rattle.order_parts.proofs.reorder.Reorder.kept_at.Goals.{In_ok-handed, After-around-row}

pub returns-in_err-handed : goal.returns-in_err-handed
returns-in_err-handed c =
    c.from_residual.ensures
    ∙ sym (ap (λ x. slice_get (kept_of x) c.args.nth) (none_there c.self.inside c.args.self.now c.self.view_is c.args.index (sym c.get.ensures ∙ ap option_copied c.in_err-handed.was)))

there : (c : In_ok-handed) → slice_get c.self.inside.ring.items c.args.index ≡ Some c.in_ok-handed.handed.now
there c = sym c.get.ensures ∙ ap option_copied c.in_ok-handed.was

row : (c : After-around-row) → c.around-row.result ≡ wrapped c.self.inside.ring.capacity (c.self.inside.first_row + c.args.index)
row c = c.around-row.ensures ∙ ap (λ n. wrapped n (c.self.inside.first_row + c.args.index)) c.capacity.ensures.capacity

-- the event's cell is there
cell : (c : After-around-row) → MAX_FORWARDS * c.around-row.result + c.args.nth < length c.self.inside.rows.items
cell c =
    let here : slice_get c.self.inside.ring.items c.args.index ≡ Some c.in_ok-handed.handed.now = sym c.get.ensures ∙ ap option_copied c.in_ok-handed.was in
    let is_there = row_there c.self.inside c.self.invariant c.args.index c.in_ok-handed.handed.now here in
    let few = (keeps_few c.self.inside c.self.invariant c.args.index c.in_ok-handed.handed.now here).few in
    omega (arith, row c, is_there, few, c.if-nth-handed.false)

pub overflow_add-self-inside : goal.overflow_add-self-inside
overflow_add-self-inside c =
    let here = there (goal.at.overflow_add-self-inside c).In_ok-handed in
    let index = index_within c.self.inside c.self.invariant c.args.index c.in_ok-handed.handed.now here in
    let first = first_within c.self.inside c.self.invariant c.args.index c.in_ok-handed.handed.now here in
    omega (arith, index, first, c.self.invariant.size, c.self.inside.rows.ok, c.self.inside.rows.small)

pub overflow_mul-row : goal.overflow_mul-row
overflow_mul-row c = omega (arith, cell (goal.at.overflow_mul-row c).After-around-row, c.self.inside.rows.ok, c.self.inside.rows.small)

pub overflow_add-row : goal.overflow_add-row
overflow_add-row c = omega (arith, cell (goal.at.overflow_add-row c).After-around-row, c.self.inside.rows.ok, c.self.inside.rows.small)

pub index-event-requires : goal.index-event-requires
index-event-requires c = omega (arith, cell (goal.at.index-event-requires c).After-around-row, c.self.inside.rows.ok)

pub returns-then-nth-handed : goal.returns-then-nth-handed
returns-then-nth-handed c = sym (kept_past c.self.inside c.args.self.now c.self.view_is c.args.index c.self.invariant c.in_ok-handed.handed.now (there (goal.at.returns-then-nth-handed c).In_ok-handed) c.args.nth c.if-nth-handed.true)

pub returns : goal.returns
returns c =
    let event = c.index-event.result.now in
    ap (λ (e : Event). let x : Numbered = record { number = c.in_ok-handed.handed.now.number; event = e } in Some x)
    (c.index-event.ensures ∙ ap (λ k. get_or c.self.inside.rows.items (MAX_FORWARDS * k + c.args.nth) event) (row (goal.at.returns c).After-around-row))
    ∙ sym (kept_nth c.self.inside c.args.self.now c.self.view_is c.args.index c.self.invariant c.in_ok-handed.handed.now (there (goal.at.returns c).In_ok-handed) c.args.nth event (omega arith))
