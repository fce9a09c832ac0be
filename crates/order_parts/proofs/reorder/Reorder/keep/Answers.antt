use Rattle.std.proofs.Common.{◌≡◌, ◌+◌, ◌-◌, ◌*◌, ◌%◌, ◌^◌, ◌<◌, Some, length, slice_get, ap, refl, sym, ◌∙◌, arith}
use Rattle.std.specs.Option.{option_copied_mut}
use Rattle.evt_types.specs.declared.event.TheConstants.{MAX_FORWARDS}
use Rattle.order_parts.specs.Reorder.{wrapped}
use Rattle.order_parts.proofs.Changes.{count_small, is_there, more_few, row_left, rows_stand, shown_kept}
use Rattle.order_parts.proofs.Fields.{row_there}
use Rattle.order_parts.proofs.reorder.Reorder.keep.Goals as goal
use Rattle.order_parts.proofs.reorder.Reorder.keep.Goals.{After-around-row}

there : (c : After-around-row) → slice_get c.self.inside.ring.items ((c.args.place + (2 ^ 64 - c.self.inside.first)) % 2 ^ 64) ≡ Some c.in-Some.handed.now
there c = sym c.get_mut.ensures.value ∙ ap option_copied_mut c.in-Some.is

-- an event more fits in its row
room : (c : After-around-row) → c.in-Some.handed.now.kept < MAX_FORWARDS
room c = row_left c.self.inside c.self.invariant c.args.self.now c.self.view_is c.args.place c.requires.open c.in-Some.handed.now (there c)

row : (c : After-around-row) → c.around-row.result ≡ wrapped c.self.inside.ring.capacity (c.self.inside.first_row + (c.args.place + (2 ^ 64 - c.self.inside.first)) % 2 ^ 64)
row c = c.around-row.ensures ∙ ap (λ n. wrapped n (c.self.inside.first_row + (c.args.place + (2 ^ 64 - c.self.inside.first)) % 2 ^ 64)) c.capacity-count.ensures.capacity

-- the cell is there
cell : (c : After-around-row) → MAX_FORWARDS * c.around-row.result + c.in-Some.handed.now.kept < length c.self.inside.rows.items
cell c =
    let is_there = row_there c.self.inside c.self.invariant ((c.args.place + (2 ^ 64 - c.self.inside.first)) % 2 ^ 64) c.in-Some.handed.now (there c) in
    omega (arith, row c, is_there, room c)

pub returns-in_default : goal.returns-in_default
returns-in_default c =
    absurd (is_there c.self.inside c.self.invariant c.args.self.now c.self.view_is c.args.place c.requires.open (sym c.get_mut.ensures.value ∙ ap option_copied_mut c.in_default.is))

pub overflow_mul-row : goal.overflow_mul-row
overflow_mul-row c = omega (arith, cell (goal.at.overflow_mul-row c).After-around-row, c.self.inside.rows.ok, c.self.inside.rows.small)

pub overflow_add-row : goal.overflow_add-row
overflow_add-row c = omega (arith, cell (goal.at.overflow_add-row c).After-around-row, c.self.inside.rows.ok, c.self.inside.rows.small)

pub index_mut-requires : goal.index_mut-requires
index_mut-requires c = omega (arith, cell (goal.at.index_mut-requires c).After-around-row, c.self.inside.rows.ok)

pub overflow_add-handed : goal.overflow_add-handed
overflow_add-handed c = omega (arith, room (goal.at.overflow_add-handed c).After-around-row)

pub overflow_add-self : goal.overflow_add-self
overflow_add-self c = omega (arith, count_small c.self.inside c.self.invariant, c.self.inside.rows.ok, c.self.inside.rows.small)

pub invariant_of-self : goal.invariant_of-self
invariant_of-self c =
    let here = there (goal.at.invariant_of-self c).After-around-row in
    rows_stand c.self.inside c.self.invariant _ _ _ _ _ (more_few c.self.inside c.self.invariant c.args.self.now c.self.view_is c.args.place c.requires.open c.in-Some.handed.now here c.args.answered c.requires.room) here refl

pub returns-in-Some : goal.returns-in-Some
returns-in-Some c =
    rw (row (goal.at.returns-in-Some c).After-around-row)
    (shown_kept c.self.inside c.self.invariant c.args.self.now c.self.view_is c.args.place c.requires.open c.in-Some.handed.now (there (goal.at.returns-in-Some c).After-around-row) c.args.event.now c.args.answered)
