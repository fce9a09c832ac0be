-- What a document says that has no fault.
use Rattle.std.proofs.Common.{◌≡◌, ℕ, Bool, true, false, cond, List, Option, Some, None, Result, Ok, Err, refl, sym, ap, subst, ◌∙◌}
use Rattle.evt_types.specs.Fault.{fault_of}
use Rattle.evt_types.specs.Plan.{Plan}
use Rattle.evt_types.specs.declared.shape.ShapeFault.{ShapeFault}
use Rattle.pipeline_laws.specs.declared.stage.Entry.{Entry}
use Rattle.play_documents.proofs.Plays.{bind_ok, checked_is, no_fault, ok_is}
use Rattle.play_documents.specs.Document.{checked, table_of, plan_or_fault}
use Rattle.play_documents.specs.declared.fault.DocFault.{DocFault}
use Rattle.play_documents.specs.declared.fault.DocFault.TheVariants as doc
use Rattle.run_documents.specs.Drafts.{actions_asked, plan_asked}
use Rattle.run_documents.specs.Judge.{first_fault}
use Rattle.run_documents.specs.Pipelines.{Planned, is_tight, judged, loose, pipeline_of, trace_in}
use Rattle.run_documents.specs.Survey.{SurveySeen, survey_of}
use Rattle.toml.specs.Data.{Members}

-- the rows show no fault, and what is said is what they ask for, of which the device refuses nothing
pub record IsReading (workers : ℕ) (s : SurveySeen) (x : Planned) : Type 0 where
  pub none : first_fault s ≡ None
  pub plan : x.plan ≡ plan_asked workers s
  pub actions : x.actions ≡ actions_asked s
  pub accepted : fault_of x.plan ≡ None
  pub roomy : is_tight workers x.plan ≡ false

accepted_by : (p : Plan) (f : Option ShapeFault) (q : Plan) → plan_or_fault p f ≡ Ok q → f ≡ None
accepted_by p None q e = refl
accepted_by p (Some f) q e = absurd cc

checked-is : (p q : Plan) → checked p ≡ Ok q → (q ≡ p) × (fault_of p ≡ None)
unfolding checked
checked-is p q e = (checked_is p (fault_of p) q e, accepted_by p (fault_of p) q e)

roomy_by : (b : Bool) (p q : Plan) → ◌≡◌ {A = Result Plan DocFault} (cond b (Err doc.LimitTight) (Ok p)) (Ok q) → (q ≡ p) × (b ≡ false)
roomy_by true p q e = absurd cc
roomy_by false p q e = (sym (ok_is p q e), refl)

loose-is : (workers : ℕ) (p q : Plan) → loose workers p ≡ Ok q → (q ≡ p) × (is_tight workers p ≡ false)
unfolding loose
loose-is workers p q e = roomy_by (is_tight workers p) p q e

reading_of : (workers : ℕ) (s : SurveySeen) (p q : Plan) (t : List Entry) (x : Planned) → first_fault s ≡ None → (p ≡ plan_asked workers s) × (fault_of (plan_asked workers s) ≡ None)
    → (q ≡ p) × (is_tight workers p ≡ false) → record { plan = q; actions = actions_asked s; trace = t } ≡ x → IsReading workers s x
reading_of workers s p q t x none plan roomy same =
    subst (IsReading workers s) same
    (record {
      none = none;
      plan = roomy.0 ∙ plan.0;
      actions = refl;
      accepted = ap fault_of (roomy.0 ∙ plan.0) ∙ plan.1;
      roomy = ap (is_tight workers) roomy.0 ∙ roomy.1;
    })

judged-reading : (workers : ℕ) (s : SurveySeen) (x : Planned) → judged workers s ≡ Ok x → IsReading workers s x
unfolding judged
judged-reading workers s x e =
    let rows = no_fault (first_fault s) _ x e in
    let a = bind_ok (checked (plan_asked workers s)) _ x rows.1 in
    let b = bind_ok (loose workers a.0) _ x a.2 in
    let c = bind_ok (trace_in s) _ x b.2 in
    reading_of workers s a.0 b.0 c.0 x rows.0 (checked-is (plan_asked workers s) a.0 a.1) (loose-is workers a.0 b.0 b.1) (ok_is _ x c.2)

pub reading : (workers : ℕ) (bytes : List ℕ) (x : Planned) → pipeline_of workers bytes ≡ Ok x → (t : Members) × IsReading workers (survey_of t) x
unfolding pipeline_of
reading workers bytes x e =
    let a = bind_ok (table_of bytes) _ x e in
    (a.0, judged-reading workers (survey_of a.0) x a.2)
