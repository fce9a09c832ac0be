use Rattle.std.proofs.Common.{◌≡◌, ◌<◌, length, subst, sym, ap, ◌∙◌, arith}
use Rattle.evt_types.specs.Plan.{level_of}
use Rattle.evt_types.specs.declared.event.Reply.{Reply}
use Rattle.std.proofs.lemmas.List.Elements.{All-weaker}
use Rattle.parked_queue.specs.Waits.{waits_at}
use Rattle.transcripts.specs.Standing.{entries_of}
use Rattle.sched_core.proofs.Busy.{waits_is}
use Rattle.sched_core.proofs.Cores.{fits_number, queue_there}
use Rattle.sched_core.proofs.Rows.{HasTaken, waits_taken}
use Rattle.sched_core.specs.Rows.{HasRoomFor, IsFor, after_waiting}
use Rattle.sched_core.proofs.state.Core.wait_row.Goals as goal
use Rattle.sched_core.proofs.state.Core.wait_row.Goals.{After-accept_row}

-- the core that it leaves
taken : (c : After-accept_row) → HasTaken c.self.inside c.args.queue c.args.replies.now
taken c =
    waits_taken c.args.replies.now c.self.inside c.args.queue c.args.level.number c.self.invariant c.args.level.few (subst (λ v. HasRoomFor v c.args.queue c.args.level.number c.args.replies.now) (sym c.self.view_is) c.requires.room)

pub accept_row-requires-clause-numbers : goal.accept_row-requires-clause-numbers
accept_row-requires-clause-numbers c =
    let queue = queue_there c.self.inside c.args.self.now c.args.queue c.self.view_is c.requires.room.queue in
    let h : c.args.queue < length c.self.inside.queues = omega (arith, queue, c.self.invariant.queues) in
    let le = fits_number c.self.inside c.args.queue (waits_at c.self.inside.queues c.args.queue) h (waits_is c.self.inside.queues c.args.queue h) in
    let few = ap entries_of c.self.view_is in
    omega (arith, le, few, c.requires.room.entries)

pub accept_row-requires-clause-named : goal.accept_row-requires-clause-named
accept_row-requires-clause-named c =
    All-weaker (IsFor c.args.queue c.args.level.number) (λ (r : Reply). (r.event.queue ≡ c.args.queue) × (level_of r.event ≡ c.args.level.number)) (λ r of. (of.queue, of.level)) c.args.replies.now c.requires.room.each

pub invariant_of-self : goal.invariant_of-self
invariant_of-self c = rw c.accept_row.ensures.value (taken (goal.at.invariant_of-self c).After-accept_row).core

pub returns : goal.returns
returns c = rw c.accept_row.ensures.value (taken (goal.at.returns c).After-accept_row).view ∙ ap (λ v. after_waiting v c.args.queue c.args.replies.now) c.self.view_is
