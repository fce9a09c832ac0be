-- How the judge stands at the steps that it has read.
use Rattle.std.specs.Prelude.{ℕ, ◌≡◌, ◌≤◌, ◌+◌, false, List, [], ◌∷◌, ◌++◌, length, map, drop, All, Option, Some, None}
use Rattle.evt_types.specs.Plan.{Plan, is_ordered, queue_of}
use Rattle.evt_types.specs.declared.event.KeptEvent.{KeptEvent}
use Rattle.evt_types.specs.declared.step.Step.{Step}
use Rattle.transcripts.specs.Lawful.{IsPrefix, Lawful}
use Rattle.transcripts.specs.Replies.{more_count, new_count, release_count}
use Rattle.transcripts.specs.Standing.{Stands, after}
use Rattle.transcript_judge.specs.Fronts.{Breaks}
use Rattle.transcript_judge.specs.Ledger.{accept_of, view_in}
use Rattle.transcript_judge.specs.Waiting.{kinds_in, kinds_of, nexts_in}
use Rattle.transcript_judge.specs.declared.reading.Reading.{Reading}
use Rattle.transcript_judge.specs.declared.verdict.Clause.{Clause}

-- the Accepts that have to follow now
abbrev pub to_come : Reading → List Step
to_come r = map accept_of (drop r.taken r.due.items)

-- events of one queue, and one at most where that restores no order
pub record AreOfOne (p : Plan) (ks : List KeptEvent) : Type 0 where
  pub queue : ℕ
  pub same : All (λ (k : KeptEvent). k.queue ≡ queue) ks
  pub one : is_ordered (queue_of p queue).kind ≡ false → length ks ≤ 1

-- With the Accepts to come the transcript is lawful and the ledger its view; and whatever makes it lawful begins with these. The count
-- is that of what is inside, as soon as nothing is to come.
pub record IsRead (p : Plan) (P : List Step) (r : Reading) : Type 0 where
  pub stands : Stands (P ++ to_come r) (after (view_in p r.ledger) (to_come r))
  pub only : (U : List Step) → Lawful p (P ++ U) → IsPrefix (to_come r) U
  pub count : r.inside + release_count P ≡ new_count P + more_count P
  pub numbers : All (λ n. n ≤ length P) (nexts_in r.ledger.waiting.items)
  pub kinds : kinds_in r.ledger.waiting.items ≡ kinds_of p
  pub within : r.taken ≤ length r.due.items
  pub one : AreOfOne p (drop r.taken r.due.items)

-- the step is read, or it breaks the clause
abbrev pub IsFollowed : Plan → List Step → Step → Option Clause → Reading → Type 0
IsFollowed p P s None r = IsRead p (P ++ s ∷ []) r
IsFollowed p P s (Some c) r = Breaks c p (P ++ s ∷ [])
