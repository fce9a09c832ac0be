-- The worked run is staged, worked and finished.
use Rattle.std.proofs.Common.{◌≡◌, ◌≢◌, true, false, not, ◌||◌, [], ◌++◌, map, ⊎_elim, refl, sym, ap, subst, arith}
use Rattle.std.proofs.lemmas.Bool.{cases_eq, not-true}
use Rattle.std.proofs.lemmas.List.Elements.{All-weaker}
use Rattle.std.proofs.lemmas.List.Sums.{AllPass-from_list_all}
use Rattle.evt_types.specs.Plan.{queue_of, is_atomic, is_ordered, flow_lanes, lanes_of}
use Rattle.lists.proofs.Lists.{eqb_other}
use Rattle.pipeline_laws.specs.Example.{example_actions, example_log, example_plan, example_trace}
use Rattle.pipeline_laws.specs.Worked.{AnswersAreDue, IsFinished, IsStaged, IsWorked, due, newcomers}
use Rattle.transcripts.specs.Lawful.{IsPrefix}
use Rattle.transcripts.specs.Transcript.{accepted, answers, forwards, hand, inside, is_more, kept, out, sent, taken, unanswered, waiting}

pub example_staged : IsStaged example_plan example_actions
example_staged = record {
  queues = refl;
  kinds = λ k inner. let first : k ≡ 0 = omega arith in subst (λ q. (is_ordered (queue_of example_plan q).kind || is_atomic (queue_of example_plan q).kind) ≡ true) (sym first) refl;
}

-- lane 1 answers as is due, another lane nothing
due_answers : AnswersAreDue example_actions example_log
unfolding answers out accepted
due_answers l = ⊎_elim here elsewhere (cases_eq 1 l)
  where
    here : 1 ≡ l → IsPrefix (answers example_log l) (map (due example_actions example_log) (out example_log l))
    here same = subst (λ m. IsPrefix (answers example_log m) (map (due example_actions example_log) (out example_log m))) same ([], refl)

    elsewhere : 1 ≢ l → IsPrefix (answers example_log l) (map (due example_actions example_log) (out example_log l))
    elsewhere other =
        let none : answers example_log l ≡ [] = rw (eqb_other 1 l other) refl in
        (map (due example_actions example_log) (out example_log l), ap (λ os. os ++ map (due example_actions example_log) (out example_log l)) none)

pub example_worked : IsWorked example_actions example_trace example_log
unfolding newcomers
example_worked = record {
  answers = due_answers;
  adds_none =
      All-weaker (λ s. not (is_more s) ≡ true) (λ s. is_more s ≡ false) (λ s. not-true (is_more s)) example_log
      (AllPass-from_list_all (λ s. not (is_more s)) example_log refl);
  newcomers = ([], refl);
}

pub example_finished : IsFinished example_plan example_trace example_log
unfolding inside waiting kept unanswered accepted hand sent forwards taken out answers lanes_of flow_lanes
example_finished = record { all = refl; none_inside = refl }
