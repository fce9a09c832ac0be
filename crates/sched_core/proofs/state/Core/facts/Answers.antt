use Rattle.std.proofs.Common.{◌≤◌, ◌^◌, subst}
use Rattle.evt_types.specs.Fault.{IsWithinLimits}
use Rattle.transcripts.specs.Standing.{View, entries_of}
use Rattle.transcripts.proofs.Fewness.{AreSound, sound_steps}
use Rattle.sched_core.proofs.Sound.{core_sized, core_sound}
use Rattle.sched_core.specs.Sized.{IsSized}
use Rattle.sched_core.proofs.state.Core.facts.Goals as goal

pub returns-clause-limits : goal.returns-clause-limits
returns-clause-limits c = subst (λ (v : View). IsWithinLimits v.shape) c.self.view_is c.self.invariant.limits

pub returns-clause-sized : goal.returns-clause-sized
returns-clause-sized c = subst IsSized c.self.view_is (core_sized c.self.inside c.self.invariant)

pub returns-clause-places : goal.returns-clause-places
returns-clause-places c = (subst AreSound c.self.view_is (core_sound c.self.inside c.self.invariant)).long

pub returns-clause-few : goal.returns-clause-few
returns-clause-few c = subst (λ v. entries_of v ≤ 2 ^ 63) c.self.view_is c.self.invariant.few

pub returns-clause-replies : goal.returns-clause-replies
returns-clause-replies c l e lane = sound_steps c.args.self.now l e (subst AreSound c.self.view_is (core_sound c.self.inside c.self.invariant)) lane
