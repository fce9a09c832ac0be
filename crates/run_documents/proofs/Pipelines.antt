-- What holds of a pipeline that was read.
use Rattle.std.proofs.Common.{◌≡◌, ℕ, ◌+◌, ◌*◌, ◌≤◌, false, List, length, Result, Ok, Err, sym, subst}
use Rattle.std.specs.Prelude.{All, IfOk}
use Rattle.std.proofs.lemmas.Bool.{ltb-false}
use Rattle.evt_types.proofs.Limits.{within}
use Rattle.evt_types.specs.Fault.{IsWithinLimits}
use Rattle.evt_types.specs.Limits.{most_queues}
use Rattle.evt_types.specs.Plan.{Plan}
use Rattle.pipeline_laws.specs.Pipeline.{IsProper}
use Rattle.pipeline_laws.specs.Worked.{IsStaged}
use Rattle.pipeline_laws.specs.declared.stage.Action.{Action}
use Rattle.play_documents.specs.Document.{Gives}
use Rattle.play_documents.specs.declared.fault.ReadFault.{ReadFault}
use Rattle.run_documents.proofs.Readings.{reading}
use Rattle.run_documents.proofs.Stages.{proper, staged}
use Rattle.run_documents.proofs.Workers.{asked}
use Rattle.run_documents.specs.Drafts.{actions_asked}
use Rattle.run_documents.specs.Pipelines.{HasWorkers, Planned, is_tight, pipeline_of, planned_of}
use Rattle.run_documents.specs.Survey.{survey_of}
use Rattle.run_documents.specs.declared.pipeline.Pipeline.{Pipeline}

-- the premises of the law of pipelines
pub record IsReady (workers : ℕ) (x : Planned) : Type 0 where
  pub staged : IsStaged x.plan x.actions
  pub proper : All IsProper x.actions
  pub some : (1 ≤ length x.actions) × (length x.actions ≤ most_queues)
  pub ports : HasWorkers workers x.plan
  pub room : 2 * x.plan.quantum * (workers + 1) ≤ x.plan.limit

has_room : (workers : ℕ) (p : Plan) → is_tight workers p ≡ false → 2 * p.quantum * (workers + 1) ≤ p.limit
unfolding is_tight
has_room workers p roomy = ltb-false p.limit (2 * p.quantum * (workers + 1)) roomy

as_many : (x : Planned) → IsStaged x.plan x.actions → IsWithinLimits x.plan → (1 ≤ length x.actions) × (length x.actions ≤ most_queues)
as_many x st limits = rw (← st.queues) limits.queue_count

ready : (workers : ℕ) (bytes : List ℕ) (x : Planned) → pipeline_of workers bytes ≡ Ok x → IsReady workers x
ready workers bytes x e =
    let read = reading workers bytes x e in
    let s = survey_of read.0 in
    let h = read.1 in
    let is_staged : IsStaged x.plan x.actions =
    subst (λ (acts : List Action). IsStaged x.plan acts) (sym h.actions) (subst (λ (p : Plan). IsStaged p (actions_asked s)) (sym h.plan) (staged workers s h.none)) in
    record {
      staged = is_staged;
      proper = subst (All IsProper) (sym h.actions) (proper read.0);
      some = as_many x is_staged (within x.plan h.accepted);
      ports = subst (HasWorkers workers) (sym h.plan) (asked workers s);
      room = has_room workers x.plan h.roomy;
    }

-- what was answered is ready, and so has what each that is ready has
pub gives-ready : (P : Pipeline → Type 0) (workers : ℕ) (bytes : List ℕ) (r : Result Pipeline ReadFault) → Gives planned_of r (pipeline_of workers bytes)
    → ((p : Pipeline) → IsReady workers (planned_of p) → P p) → IfOk r P
gives-ready P workers bytes (Ok p) e of_ready = of_ready p (ready workers bytes (planned_of p) e)
gives-ready P workers bytes (Err f) e of_ready = tt
