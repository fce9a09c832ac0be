use Rattle.std.proofs.Common.{◌≤◌, length, subst, sym, ap, ◌∙◌}
use Rattle.transcripts.specs.Standing.{View}
use Rattle.transcripts.specs.Sweep.{sweep_room, sweep_steps}
use Rattle.transcripts.proofs.Fewness.{AreSound, sound_kept}
use Rattle.transcripts.proofs.Sweeps.{sweep_fits}
use Rattle.sched_core.proofs.Sound.{core_sound}
use Rattle.sched_core.proofs.state.Core.log_room.Goals as goal

pub returns-clause-value : goal.returns-clause-value
returns-clause-value c = c.self.invariant.log_room ∙ ap (λ (v : View). sweep_room v.shape) c.self.view_is

pub returns-clause-kept : goal.returns-clause-kept
returns-clause-kept c = sound_kept c.args.self.now (subst AreSound c.self.view_is (core_sound c.self.inside c.self.invariant))

pub returns-clause-fits : goal.returns-clause-fits
returns-clause-fits c T s stands sweep = subst (λ n. length (sweep_steps c.args.self.now s) ≤ n) (sym (returns-clause-value c)) (sweep_fits c.args.self.now T s stands sweep)
