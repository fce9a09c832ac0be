use Rattle.std.proofs.Common.{sym}
use Rattle.order_parts.specs.Reorder.{left}
use Rattle.sched_core.proofs.Leaving.{core_left, leaving_named, left_counts, room_with, view_with}
use Rattle.sched_core.proofs.state.Core.leave.Goals as goal

pub overflow_sub-self : goal.overflow_sub-self
overflow_sub-self c = (left_counts c.self.inside c.args.self.now c.args.queue (left c.in_ok-left.left) c.len-count.result c.self.invariant c.self.view_is c.requires.queue (sym c.in_ok-left.ensures.value) c.len-count.ensures.value).0

pub overflow_sub-self-2 : goal.overflow_sub-self-2
overflow_sub-self-2 c = (left_counts c.self.inside c.args.self.now c.args.queue (left c.in_ok-left.left) c.len-count.result c.self.invariant c.self.view_is c.requires.queue (sym c.in_ok-left.ensures.value) c.len-count.ensures.value).1

pub invariant_of-self-2 : goal.invariant_of-self-2
invariant_of-self-2 c = core_left c.self.inside c.args.self.now c.args.queue (left c.in_ok-left.left) c.len-count.result c.self.invariant c.self.view_is c.requires.queue (sym c.in_ok-left.ensures.value) c.len-count.ensures.value c.leave.new.self c.leave.ensures.rest

pub returns-clause-view : goal.returns-clause-view
returns-clause-view c = view_with c.self.inside c.args.self.now c.args.queue (left c.in_ok-left.left) c.len-count.result c.self.invariant c.self.view_is c.requires.queue (sym c.in_ok-left.ensures.value) c.len-count.ensures.value c.leave.new.self c.leave.ensures.rest

pub returns-clause-named : goal.returns-clause-named
returns-clause-named c = leaving_named c.self.inside c.args.self.now c.args.queue (left c.in_ok-left.left) c.len-count.result c.self.invariant c.self.view_is c.requires.queue (sym c.in_ok-left.ensures.value) c.len-count.ensures.value

pub returns-clause-inside : goal.returns-clause-inside
returns-clause-inside c = (room_with c.self.inside c.args.self.now c.args.queue (left c.in_ok-left.left) c.len-count.result c.self.invariant c.self.view_is c.requires.queue (sym c.in_ok-left.ensures.value) c.len-count.ensures.value c.leave.new.self c.leave.ensures.rest).0

pub returns-clause-entries : goal.returns-clause-entries
returns-clause-entries c = (room_with c.self.inside c.args.self.now c.args.queue (left c.in_ok-left.left) c.len-count.result c.self.invariant c.self.view_is c.requires.queue (sym c.in_ok-left.ensures.value) c.len-count.ensures.value c.leave.new.self c.leave.ensures.rest).1
