-- The check of a log, so far: what is known follows the steps read, their answers are due, and none of them added an event.
use Rattle.std.proofs.Common.{◌≡◌, ℕ, ◌+◌, ◌<◌, Bool, true, false, List, [], ◌∷◌, ◌++◌, length, take, get_or, ◌≤◌, refl, sym, ap, ◌∙◌, subst, arith, ◌↔◌}
use Rattle.std.proofs.lemmas.Bool.{false≢true}
use Rattle.std.proofs.lemmas.List.{take_all, take_more}
use Rattle.std.proofs.lemmas.List.Elements.{All-nil, All-push}
use Rattle.evt_types.specs.Plan.{Plan, lanes_of}
use Rattle.evt_types.specs.declared.step.Source.TheVariants.{New, Of}
use Rattle.evt_types.specs.declared.step.Step.{Step}
use Rattle.evt_types.specs.declared.step.Step.TheVariants.{Accept, Give, Done, More, Turned, Bounced, Shut}
use Rattle.pipeline_laws.proofs.DueAnswers.{due_adds_none, due_taken, strays}
use Rattle.pipeline_laws.specs.Past.{Follows, HasPlace, HasSizes, IsDueAfter}
use Rattle.pipeline_laws.specs.Worked.{AnswersAreDue, IsLogOf}
use Rattle.pipeline_laws.specs.declared.past.Past.{Past}
use Rattle.pipeline_laws.specs.declared.stage.Action.{Action}
use Rattle.transcripts.proofs.Facts.{AllowedAfter-at}
use Rattle.transcripts.proofs.Pushes.{length-unanswered}
use Rattle.transcripts.proofs.Whole.{steps-Lawful}
use Rattle.transcripts.specs.Allowed.{Allowed}
use Rattle.transcripts.specs.Lawful.{Lawful}
use Rattle.transcripts.specs.Laws.{AddsNone}
use Rattle.transcripts.specs.Transcript.{answers, is_more, out}

pub record Reading (queues lanes : ℕ) (actions : List Action) (T : List Step) (k : ℕ) (past : Past) : Type 0 where
  pub sizes : HasSizes past queues lanes
  pub follows : Follows (take k T) past
  pub due : AnswersAreDue actions (take k T)
  pub adds_none : AddsNone (take k T)

pub reading_none : (queues lanes : ℕ) (actions : List Action) (T : List Step) (past : Past) → HasSizes past queues lanes → Follows [] past → Reading queues lanes actions T 0 past
unfolding answers out
reading_none queues lanes actions T past sizes follows = record { sizes = sizes; follows = follows; due = λ l. ([], refl); adds_none = All-nil (λ s. is_more s ≡ false) }

-- what an allowed step names is there
has_place : (p : Plan) (P : List Step) (past : Past) (s : Step) → HasSizes past (length p.queues) (lanes_of p) → Follows P past → Allowed p P s → HasPlace past s
has_place p P past (Accept q e (New l)) sizes follows a = let within : q < length p.queues = a.formed.entry.queue in omega (arith, sizes.accepted)
has_place p P past (Accept q e (Of r n)) sizes follows a = let within : q < length p.queues = a.formed.entry.queue in omega (arith, sizes.accepted)
has_place p P past (Give l q n) sizes follows a = let within : l < lanes_of p = a.formed.lane in omega (arith, sizes.given)
has_place p P past (Done l o) sizes follows a =
    let within : l < lanes_of p = a.formed.0 in
    let some : length (answers P l) < length (out P l) = omega (arith, a.needs, length-unanswered P l) in
    record {
      given = omega (arith, sizes.given);
      answered = omega (arith, sizes.answered);
      some = omega (arith, follows.answered l, ap length (follows.given l));
    }
has_place p P past (More l e) sizes follows a = tt
has_place p P past (Turned l e) sizes follows a = tt
has_place p P past (Bounced l) sizes follows a = tt
has_place p P past Shut sizes follows a = tt

-- the step that is read is one that the steps before it allow
allowed_at : (p : Plan) (T : List Step) (k : ℕ) (s : Step) → Lawful p T → k < length T → s ≡ get_or T k s → Allowed p (take k T) s
allowed_at p T k s lawful lt is = subst (Allowed p (take k T)) (sym is) (AllowedAfter-at p [] T k s lt (steps-Lawful p T lawful).steps)

pub reading_place : (queues lanes : ℕ) (actions : List Action) (T : List Step) (k : ℕ) (past : Past) (s : Step) → IsLogOf queues lanes T → Reading queues lanes actions T k past → k < length T
    → s ≡ get_or T k s → HasPlace past s
reading_place queues lanes actions T k past s log r lt is =
    let sizes : HasSizes past (length log.plan.queues) (lanes_of log.plan) =
    subst (HasSizes past (length log.plan.queues)) (sym log.lanes_are) (subst (λ n. HasSizes past n lanes) (sym log.queues_are) r.sizes) in
    has_place log.plan (take k T) past s sizes r.follows (allowed_at log.plan T k s log.lawful lt is)

-- one step more, which was due
pub reading_more : (queues lanes : ℕ) (actions : List Action) (T : List Step) (k : ℕ) (past new : Past) (s : Step) (b : Bool) → IsLogOf queues lanes T → Reading queues lanes actions T k past
    → k < length T → s ≡ get_or T k s → HasSizes new queues lanes → Follows (take k T ++ s ∷ []) new → (b ≡ true) ↔ IsDueAfter actions (take k T) s → b ≡ true
    → Reading queues lanes actions T (k + 1) new
reading_more queues lanes actions T k past new s b log r lt is sizes follows tells is_due = record {
  sizes = sizes;
  follows = subst (λ P. Follows P new) (ap (λ t. take k T ++ t ∷ []) is ∙ sym (take_more T k s lt)) follows;
  due = due_taken log.plan actions T k s (steps-Lawful log.plan T log.lawful).steps lt r.due due_now;
  adds_none =
      subst AddsNone (sym (take_more T k s lt))
      (All-push (λ t. is_more t ≡ false) (take k T) (get_or T k s) r.adds_none (due_adds_none actions (take k T) (get_or T k s) due_now));
}
  where
    due_now : IsDueAfter actions (take k T) (get_or T k s)
    due_now = subst (IsDueAfter actions (take k T)) is (tells.0 is_due)

-- a step that wasn't due
pub reading_strays : (queues lanes : ℕ) (actions : List Action) (T : List Step) (k : ℕ) (s : Step) (b : Bool) → IsLogOf queues lanes T → k < length T → s ≡ get_or T k s
    → (b ≡ true) ↔ IsDueAfter actions (take k T) s → b ≡ false → (false ≡ true) ↔ (AddsNone T × AnswersAreDue actions T)
reading_strays queues lanes actions T k s b log lt is tells no' = (
  λ h. absurd (false≢true h),
  λ h. sym no' ∙ tells.1 (subst (IsDueAfter actions (take k T)) (sym is) (strays log.plan actions T k s (steps-Lawful log.plan T log.lawful).steps lt h.0 h.1)),
)

-- all steps read
pub reading_all : (queues lanes : ℕ) (actions : List Action) (T : List Step) (k : ℕ) (past : Past) → Reading queues lanes actions T k past → length T ≤ k
    → (true ≡ true) ↔ (AddsNone T × AnswersAreDue actions T)
reading_all queues lanes actions T k past r past_end =
    (λ h. (subst AddsNone (take_all k T past_end) r.adds_none, subst (AnswersAreDue actions) (take_all k T past_end) r.due), λ h. refl)
