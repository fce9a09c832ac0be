-- What operations and replies ask for.
use Rattle.std.specs.Prelude.{Bool, true, false, ◌||◌}
use Rattle.evt_types.specs.declared.event.Op.{Op}
use Rattle.evt_types.specs.declared.event.Op.TheVariants as ops
use Rattle.evt_types.specs.declared.event.Reply.{Reply}

-- whether an operation answers the oldest event that is held, and so ends it
abbrev pub is_answer_op : Op → Bool
is_answer_op ops.New = false
is_answer_op ops.Forward = true
is_answer_op ops.Release = true
is_answer_op ops.ForwardMore = false

abbrev pub is_new_op : Op → Bool
is_new_op ops.New = true
is_new_op ops.Forward = false
is_new_op ops.Release = false
is_new_op ops.ForwardMore = false

abbrev pub is_release_op : Op → Bool
is_release_op ops.New = false
is_release_op ops.Forward = false
is_release_op ops.Release = true
is_release_op ops.ForwardMore = false

-- whether it adds an event beside the oldest that is held
abbrev pub is_more_op : Op → Bool
is_more_op ops.New = false
is_more_op ops.Forward = false
is_more_op ops.Release = false
is_more_op ops.ForwardMore = true

-- whether an event of this operation is one that the oldest held event is passed on as
abbrev pub passes_on : Op → Bool
passes_on ops.New = false
passes_on ops.Forward = true
passes_on ops.Release = false
passes_on ops.ForwardMore = true

-- whether it brings one event more into the device
abbrev pub costs_credit : Op → Bool
costs_credit ops.New = true
costs_credit ops.Forward = false
costs_credit ops.Release = false
costs_credit ops.ForwardMore = true

abbrev pub is_answer : Reply → Bool
is_answer r = is_answer_op r.event.op

abbrev pub is_new_reply : Reply → Bool
is_new_reply r = is_new_op r.event.op

abbrev pub is_release_reply : Reply → Bool
is_release_reply r = is_release_op r.event.op

abbrev pub is_more_reply : Reply → Bool
is_more_reply r = is_more_op r.event.op

-- whether it needs an event that is held: it answers the oldest, or adds beside it
abbrev pub needs_held : Reply → Bool
needs_held r = is_answer r || is_more_reply r
