use Rattle.std.proofs.Common.{◌+◌, ◌<◌, arith, subst, sym}
use Rattle.evt_types.specs.Plan.{bound_of}
use Rattle.sched_core.specs.View.{view_in}
use Rattle.transcripts.specs.Standing.{View, inside_of}
use Rattle.sched_core.proofs.Accepting.{HasAccepted, accept_number, accept_room, accepted_one}
use Rattle.sched_core.proofs.state.Core.accept.Given as given
use Rattle.sched_core.proofs.state.Core.accept.Goals as goal
use Rattle.sched_core.proofs.state.Core.accept.Goals.{After-accept}

-- the core that it leaves
accepted : (g : given.Over) (c : After-accept g) → HasAccepted (record c.self.inside { queues = c.accept.new.self; inside = c.self.inside.inside + 1; entries = c.self.inside.entries + 1 }) c.args.self.now c.args.event.now
accepted g c =
    accepted_one c.self.inside c.args.self.now c.args.event.now c.self.invariant c.self.view_is c.requires.queue c.requires.inside c.requires.entries c.accept.new.self c.accept.ensures.value c.accept.ensures.waits

pub accept-requires-clause-room : goal.accept-requires-clause-room
accept-requires-clause-room g c = accept_room c.self.inside c.args.self.now c.args.event.now c.self.invariant c.self.view_is c.requires.queue c.requires.inside c.requires.entries

pub accept-requires-clause-numbers : goal.accept-requires-clause-numbers
accept-requires-clause-numbers g c = accept_number c.self.inside c.args.self.now c.args.event.now c.self.invariant c.self.view_is c.requires.queue c.requires.inside c.requires.entries

pub invariant_of-self : goal.invariant_of-self
invariant_of-self g c = (accepted g (goal.at.invariant_of-self g c).After-accept).core

pub returns-clause-view : goal.returns-clause-view
returns-clause-view g c = (accepted g (goal.at.returns-clause-view g c).After-accept).view

pub returns-clause-counts : goal.returns-clause-counts
returns-clause-counts g c = (accepted g (goal.at.returns-clause-counts g c).After-accept).counts

pub overflow_add-self : goal.overflow_add-self
overflow_add-self g c =
    let within : inside_of (view_in c.self.inside) < bound_of c.self.inside.shape = subst (λ (v : View). inside_of v < bound_of v.shape) (sym c.self.view_is) c.requires.inside in
    omega (arith, within, c.self.invariant.inside, c.self.invariant.small)
