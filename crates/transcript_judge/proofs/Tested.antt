-- Verdicts on worked logs: those before the broken step pass the test of worked examples, and so are lawful.
use Rattle.std.specs.Prelude.{ℕ, ◌≡◌, ◌+◌, false, true, List, [], ◌∷◌, ◌++◌, take, Contains, Some, slice_get}
use Rattle.std.specs.List.{list_all}
use Rattle.std.proofs.lemmas.Bool.{both_ways}
use Rattle.std.proofs.lemmas.List.Elements.{All-contains}
use Rattle.std.proofs.lemmas.List.Sums.{AllPass-from_list_all}
use Rattle.lists.specs.Lists.{upto}
use Rattle.transcripts.specs.Transcript.{hand, is_answered}
use Rattle.evt_types.specs.Plan.{Plan}
use Rattle.evt_types.specs.declared.event.Event.{Event}
use Rattle.evt_types.specs.declared.event.Numbered.{Numbered}
use Rattle.evt_types.specs.declared.step.Step.{Step}
use Rattle.transcripts.specs.Lawful.{Lawful}
use Rattle.worked_examples.proofs.LogsLawful.{lawful_by_test}
use Rattle.worked_examples.specs.Check.{is_lawful}
use Rattle.transcript_judge.proofs.Verdicts.{broken_ends}
use Rattle.transcript_judge.specs.Fronts.{Breaks}
use Rattle.transcript_judge.specs.Verdicts.{IsBrokenAt, IsRunning}
use Rattle.transcript_judge.specs.declared.verdict.Clause.{Clause}

-- a transcript whose first steps pass the test, with some others behind them, and with one more break a clause
pub broken_by_test : (p : Plan) (T U : List Step) (k : ℕ) (c : Clause) (s : Step) → slice_get T k ≡ Some s → is_lawful p (take k T ++ U) ≡ true
    → Breaks c p (take (k + 1) T) → IsBrokenAt p T k c s
broken_by_test p T U k c s step passes broken = record {
  step = step;
  before = (U, lawful_by_test p (take k T ++ U) passes);
  ended = broken_ends c p (take (k + 1) T) broken;
  broken = broken;
}

-- one that passes the test with some steps more
pub running_by_test : (p : Plan) (T U : List Step) → is_lawful p (T ++ U) ≡ true → ¬ Lawful p T → IsRunning p T
running_by_test p T U passes unlawful = record { front = (U, lawful_by_test p (T ++ U) passes); unlawful = unlawful }

unfoldable pub first_number : List Numbered → ℕ
first_number [] = 0
first_number (w ∷ ws) = w.number

unfoldable pub first_payload : List Event → ℕ
first_payload [] = 0
first_payload (e ∷ es) = e.payload

-- nothing that was handed out before waits, where all of it was answered
pub none_waits : (T : List Step) (q n : ℕ) → list_all (is_answered T q) (upto n (hand T q)) ≡ true → (m : ℕ) → Contains (upto n (hand T q)) m
    → is_answered T q m ≡ false → ⊥
none_waits T q n all m before waits =
    both_ways (is_answered T q m) waits
    (All-contains (λ k. is_answered T q k ≡ true) (upto n (hand T q)) m (AllPass-from_list_all (is_answered T q) (upto n (hand T q)) all) before)
