-- Fronts of lawful transcripts, and which clause of what is lawful a transcript breaks.
use Rattle.std.specs.Prelude.{ℕ, ◌≡◌, ◌≢◌, ◌<◌, ◌≤◌, true, false, List, ◌++◌, length, take, slice_index_or, All, ◌⊎◌}
use Rattle.evt_types.specs.Plan.{Plan, bound_of, depth_of, is_ordered, queue_of}
use Rattle.evt_types.specs.declared.step.Step.{Step}
use Rattle.lists.specs.Lists.{has, upto}
use Rattle.transcripts.specs.Lawful.{AddsFew, AnswersWhatItHas, GivesOnce, HasOrigin, IsAlone, IsClosed, IsFormed, IsLinked, IsSettled, KeepsFlow, KeepsOrder, Lawful}
use Rattle.transcripts.specs.Transcript.{hand, inside, is_from_of, kept_of, open_of, sources, unanswered}
use Rattle.transcript_judge.specs.declared.verdict.Clause.{Clause}
use Rattle.transcript_judge.specs.declared.verdict.Clause.TheVariants.{Formed, Answers, Extras, Once, Linked, Depth, Places, Limit, Flow, Alone, Order, Origin, Closed, Prompt}

-- some steps can follow, so that the whole is lawful
abbrev pub IsFront : Plan → List Step → Type 0
IsFront p T = (U : List Step) × Lawful p (T ++ U)

-- before each step that isn't an Accept of what was passed on, nothing that was passed on waits for nothing
abbrev pub IsPromptSoFar : Plan → List Step → Type 0
IsPromptSoFar p T = (k : ℕ) (d : Step) → k < length T → is_from_of (slice_index_or T k d) ≡ false → IsSettled p (take k T)

-- of an ordered queue an event was accepted from n, though of what m was passed on as, which was handed out before n, something is
-- kept still
pub record PassesOver (p : Plan) (T : List Step) : Type 0 where
  pub queue : ℕ
  pub ordered : is_ordered (queue_of p queue).kind ≡ true
  pub m : ℕ
  pub n : ℕ
  pub apart : m ≢ n
  pub before : has m (upto n (hand T queue)) ≡ true
  pub kept : 0 < length (kept_of T queue m)
  pub accepted : has n (sources T queue) ≡ true

-- what it is to break a clause
abbrev pub Breaks : Clause → Plan → List Step → Type 0
Breaks Formed p T = ¬ All (IsFormed p) T
Breaks Answers p T = ¬ AnswersWhatItHas T
Breaks Extras p T = ¬ AddsFew T
Breaks Once p T = ¬ GivesOnce T
Breaks Linked p T = ¬ IsLinked p T
Breaks Depth p T = ¬ ((l : ℕ) → length (unanswered T l) ≤ depth_of p l)
Breaks Places p T = ¬ ((q : ℕ) → is_ordered (queue_of p q).kind ≡ true → length (open_of T q) ≤ (queue_of p q).order)
Breaks Limit p T = ¬ (inside p T ≤ bound_of p)
Breaks Flow p T = ¬ KeepsFlow p T
Breaks Alone p T = ¬ IsAlone p T
Breaks Order p T = ¬ KeepsOrder p T ⊎ PassesOver p T
Breaks Origin p T = ¬ HasOrigin T
Breaks Closed p T = ¬ IsClosed T
Breaks Prompt p T = ¬ IsPromptSoFar p T
