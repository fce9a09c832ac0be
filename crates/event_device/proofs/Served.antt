-- The scheduler of a device that runs stands at the recorder's log.
use Rattle.std.proofs.Common.{◌<◌, ◌≤◌, ◌^◌, List, length, sym, subst, arith}
use Rattle.std.proofs.Math.Logic.{∥∥₁_elim, ∥∥₁_map}
use Rattle.std.specs.Coded.{le_prop}
use Rattle.std.proofs.lemmas.List.{take_all}
use Rattle.event_answers.specs.declared.answer.Swept.{Swept}
use Rattle.event_scheduler.specs.Scheduler.{Serves, Sight}
use Rattle.event_scheduler.specs.Swept.{Sweeps}
use Rattle.evt_types.specs.Plan.{bound_of}
use Rattle.evt_types.specs.declared.step.Step.{Step}
use Rattle.transcripts.specs.Transcript.{inside}
use Rattle.event_device.specs.Parts.{IsOne, Parts}

few_inside : (T : List Step) (s : Sight) → Serves T s → inside s.core.shape T ≤ bound_of s.core.shape
few_inside T s serves =
    subst (λ P. inside s.core.shape P ≤ bound_of s.core.shape) (take_all (length T) T (omega arith)) (serves.stands.lawful.room (length T) (omega arith)).inside

-- what is inside can be counted
pub inside_fits : (r : Parts) → IsOne r → inside r.recorded.sight.core.shape r.recorded.log < 2 ^ 63
inside_fits r one =
    let few : inside r.recorded.sight.core.shape r.recorded.log ≤ bound_of r.recorded.sight.core.shape = ∥∥₁_elim one.serves le_prop (few_inside r.recorded.log r.recorded.sight) in
    omega (arith, few, one.small.bound)

-- after a sweep it stands at the longer log
pub still_serves : (n : Swept) (s : Sight) (log : List Step) (t : Sight) (longer : List Step) → Sweeps n s log t longer → ∥ Serves log s ∥₁ → ∥ Serves longer t ∥₁
still_serves n s log t longer sweeps served =
    ∥∥₁_map served (λ serves. subst (λ T. Serves T t) (sym sweeps.runs.logged) (sweeps.runs.serves log serves))
