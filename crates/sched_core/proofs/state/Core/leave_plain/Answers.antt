use Rattle.order_parts.specs.Reorder.{left_plain}
use Rattle.sched_core.proofs.Leaving.{core_left, keeps_count, keeps_one, keeps_some, left_counts, leaving_one, some_with, view_with}
use Rattle.sched_core.proofs.state.Core.leave_plain.Goals as goal

pub overflow_sub-self : goal.overflow_sub-self
overflow_sub-self c = (left_counts c.self.inside c.args.self.now c.args.queue (left_plain c.in_ok-left.left.0 c.in_ok-left.left.1 c.leave_plain.new.event) c.count_of-count.result c.self.invariant c.self.view_is c.requires.queue c.in_ok-left.ensures.value (keeps_count c.in_ok-left.left.1 c.leave_plain.new.event c.count_of-count.result c.count_of-count.ensures.value)).0

pub overflow_sub-self-2 : goal.overflow_sub-self-2
overflow_sub-self-2 c = (left_counts c.self.inside c.args.self.now c.args.queue (left_plain c.in_ok-left.left.0 c.in_ok-left.left.1 c.leave_plain.new.event) c.count_of-count.result c.self.invariant c.self.view_is c.requires.queue c.in_ok-left.ensures.value (keeps_count c.in_ok-left.left.1 c.leave_plain.new.event c.count_of-count.result c.count_of-count.ensures.value)).1

pub invariant_of-self-2 : goal.invariant_of-self-2
invariant_of-self-2 c = core_left c.self.inside c.args.self.now c.args.queue (left_plain c.in_ok-left.left.0 c.in_ok-left.left.1 c.leave_plain.new.event) c.count_of-count.result c.self.invariant c.self.view_is c.requires.queue c.in_ok-left.ensures.value (keeps_count c.in_ok-left.left.1 c.leave_plain.new.event c.count_of-count.result c.count_of-count.ensures.value) c.leave_plain.new.self c.in_ok-left.ensures.rest

pub returns-clause-view : goal.returns-clause-view
returns-clause-view c = view_with c.self.inside c.args.self.now c.args.queue (left_plain c.in_ok-left.left.0 c.in_ok-left.left.1 c.leave_plain.new.event) c.count_of-count.result c.self.invariant c.self.view_is c.requires.queue c.in_ok-left.ensures.value (keeps_count c.in_ok-left.left.1 c.leave_plain.new.event c.count_of-count.result c.count_of-count.ensures.value) c.leave_plain.new.self c.in_ok-left.ensures.rest

pub returns-clause-named : goal.returns-clause-named
returns-clause-named c = λ one. leaving_one c.self.inside c.args.self.now c.args.queue (left_plain c.in_ok-left.left.0 c.in_ok-left.left.1 c.leave_plain.new.event) c.count_of-count.result c.self.invariant c.self.view_is c.requires.queue c.in_ok-left.ensures.value (keeps_count c.in_ok-left.left.1 c.leave_plain.new.event c.count_of-count.result c.count_of-count.ensures.value) c.leave_plain.new.event (keeps_one c.in_ok-left.left.1 c.leave_plain.new.event one)

pub returns-clause-inside : goal.returns-clause-inside
returns-clause-inside c = λ one. (some_with c.self.inside c.args.self.now c.args.queue (left_plain c.in_ok-left.left.0 c.in_ok-left.left.1 c.leave_plain.new.event) c.count_of-count.result c.self.invariant c.self.view_is c.requires.queue c.in_ok-left.ensures.value (keeps_count c.in_ok-left.left.1 c.leave_plain.new.event c.count_of-count.result c.count_of-count.ensures.value) c.leave_plain.new.self c.in_ok-left.ensures.rest (keeps_some c.in_ok-left.left.1 c.leave_plain.new.event one)).0

pub returns-clause-entries : goal.returns-clause-entries
returns-clause-entries c = λ one. (some_with c.self.inside c.args.self.now c.args.queue (left_plain c.in_ok-left.left.0 c.in_ok-left.left.1 c.leave_plain.new.event) c.count_of-count.result c.self.invariant c.self.view_is c.requires.queue c.in_ok-left.ensures.value (keeps_count c.in_ok-left.left.1 c.leave_plain.new.event c.count_of-count.result c.count_of-count.ensures.value) c.leave_plain.new.self c.in_ok-left.ensures.rest (keeps_some c.in_ok-left.left.1 c.leave_plain.new.event one)).1
