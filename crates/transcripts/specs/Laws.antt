-- Words for laws of lawful transcripts: the calls in src/laws.rt prove them.
use Rattle.std.specs.Prelude.{ℕ, ◌≡◌, ◌≢◌, ◌<◌, ◌≤◌, Bool, true, false, List, [], take, filter, All, AllPairs, Some, slice_get}
use Rattle.evt_types.specs.Plan.{Plan}
use Rattle.transcripts.specs.Lawful.{keeps_with}
use Rattle.transcripts.specs.Transcript.{hand, sources, kept_of, is_answered, is_more}
use Rattle.evt_types.specs.declared.step.Step.{Step}

-- what some test keeps of a list: it leaves items out, and keeps the order of the rest
abbrev pub IsSublist : List ℕ → List ℕ → Type 0
IsSublist xs ys = (keeps : ℕ → Bool) × (xs ≡ filter keeps ys)

-- no event was added beside another
abbrev pub AddsNone : List Step → Type 0
AddsNone T = All (λ s. is_more s ≡ false) T

-- no number of the queue has two Accepts from it
abbrev pub IsAcceptedOnce : List Step → ℕ → Type 0
IsAcceptedOnce T q = AllPairs (λ m n. m ≢ n) (sources T q)

-- the numbers of one flow and level from which events were accepted rise
abbrev pub IsStrictlyRising : Plan → List Step → ℕ → Type 0
IsStrictlyRising p T q = AllPairs (λ m n. keeps_with p T q m n ≡ true → m < n) (sources T q)

-- ---- the order of a hand-out

-- wherever the two numbers stand in the hand-out, the first stands before the second, or is it
abbrev pub IsHandedBefore : List Step → ℕ → ℕ → ℕ → Type 0
IsHandedBefore T q m n = (i j : ℕ) → slice_get (hand T q) i ≡ Some m → slice_get (hand T q) j ≡ Some n → i < j

abbrev pub IsHandedNoLater : List Step → ℕ → ℕ → ℕ → Type 0
IsHandedNoLater T q m n = (i j : ℕ) → slice_get (hand T q) i ≡ Some m → slice_get (hand T q) j ≡ Some n → i ≤ j

-- of two Accepts from the queue's numbers the earlier one's number was handed out no later than the later one's, or before it
abbrev pub NeverStepsBack : List Step → ℕ → Type 0
NeverStepsBack T q = AllPairs (IsHandedNoLater T q) (sources T q)

abbrev pub StepsForward : List Step → ℕ → Type 0
StepsForward T q = AllPairs (IsHandedBefore T q) (sources T q)

-- the first k numbers of the hand-out are answered
abbrev pub IsAnsweredTo : List Step → ℕ → ℕ → Type 0
IsAnsweredTo T q k = All (λ n. is_answered T q n ≡ true) (take k (hand T q))

-- of what the first k numbers of the hand-out were passed on as nothing is kept
abbrev pub KeepsNoneTo : List Step → ℕ → ℕ → Type 0
KeepsNoneTo T q k = All (λ n. kept_of T q n ≡ []) (take k (hand T q))
