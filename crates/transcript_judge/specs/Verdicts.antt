-- What a verdict says of a transcript.
use Rattle.std.specs.Prelude.{ℕ, ◌≡◌, ◌+◌, List, take, Some, slice_get}
use Rattle.evt_types.specs.Plan.{Plan}
use Rattle.evt_types.specs.declared.step.Step.{Step}
use Rattle.transcripts.specs.Lawful as transcripts
use Rattle.transcript_judge.specs.Fronts.{IsFront, Breaks}
use Rattle.transcript_judge.specs.declared.verdict.Clause.{Clause}
use Rattle.transcript_judge.specs.declared.verdict.Verdict.{Verdict}
use Rattle.transcript_judge.specs.declared.verdict.Verdict.TheVariants.{Lawful, Running, Broken}

-- it can be gone on with lawfully, and isn't lawful as it is
pub record IsRunning (p : Plan) (T : List Step) : Type 0 where
  pub front : IsFront p T
  pub unlawful : ¬ transcripts.Lawful p T

-- the steps before the one at k can be gone on with lawfully; with it they can't, and break the clause
pub record IsBrokenAt (p : Plan) (T : List Step) (k : ℕ) (c : Clause) (s : Step) : Type 0 where
  pub step : slice_get T k ≡ Some s
  pub before : IsFront p (take k T)
  pub ended : ¬ IsFront p (take (k + 1) T)
  pub broken : Breaks c p (take (k + 1) T)

abbrev pub IsVerdict : Plan → List Step → Verdict → Type 0
IsVerdict p T Lawful = transcripts.Lawful p T
IsVerdict p T Running = IsRunning p T
IsVerdict p T (Broken k c s) = IsBrokenAt p T k c s

-- two verdicts of one kind, and if something is broken, at one step
abbrev pub IsSameFinding : Verdict → Verdict → Type 0
IsSameFinding Lawful Lawful = Unit {0}
IsSameFinding Lawful Running = ⊥
IsSameFinding Lawful (Broken j d t) = ⊥
IsSameFinding Running Lawful = ⊥
IsSameFinding Running Running = Unit {0}
IsSameFinding Running (Broken j d t) = ⊥
IsSameFinding (Broken k c s) Lawful = ⊥
IsSameFinding (Broken k c s) Running = ⊥
IsSameFinding (Broken k c s) (Broken j d t) = (k ≡ j) × (s ≡ t)
