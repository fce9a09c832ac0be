-- What an ordered queue hands out.
use Rattle.std.specs.Prelude.{ℕ, ◌≡◌, ◌<◌, Bool, true, List, ◌==◌, length, filter, Some}
use Rattle.std.proofs.Common.{ap, ◌∙◌, subst, arith}
use Rattle.std.proofs.lemmas.List.{take_all}
use Rattle.std.proofs.lemmas.List.Kept.{AllPairs-filter}
use Rattle.evt_types.specs.Plan.{Plan, is_ordered, level_of, queue_of}
use Rattle.evt_types.specs.declared.event.Event.{Event}
use Rattle.evt_types.specs.declared.event.Numbered.{Numbered}
use Rattle.evt_types.specs.declared.step.Step.{Step}
use Rattle.lists.proofs.Lists.{eqb_comm, eqb_same}
use Rattle.transcripts.proofs.Waits.{entered-rises}
use Rattle.transcripts.specs.Lawful.{KeepsFlow, Lawful, is_of_level}
use Rattle.transcripts.specs.Transcript.{entered, event_at, given, hand, named, named_at}
use Rattle.history_judge.proofs.Precedence.{Precedes, precedes_kept, precedes_mapped, precedes_on, precedes_pair}

-- of one level the number that is handed out first is the lower one
pub handed_low : (p : Plan) (T : List Step) (q m n : ℕ) (d e : Event) → Lawful p T → event_at T q m ≡ Some d → event_at T q n ≡ Some e → (level_of d == level_of e) ≡ true → is_ordered (queue_of p q).kind ≡ true
    → Precedes (hand T q) m n → m < n
handed_low p T q m n d e lawful at there level ordered handed =
    precedes_pair (λ (w y : Numbered). w.number < y.number) (filter of_level (entered T q)) one other among
    (AllPairs-filter (λ (w y : Numbered). w.number < y.number) of_level (entered T q) (entered-rises T q))
  where
    of_level : Numbered → Bool
    of_level = is_of_level (level_of d)

    one : Numbered
    one = record { number = m; event = d }

    other : Numbered
    other = record { number = n; event = e }

    events : Precedes (given T q) one other
    events = precedes_mapped (named_at T q) (hand T q) m n one other handed (ap (named m) at) (ap (named n) there)

    flow : KeepsFlow p T
    flow = subst (KeepsFlow p) (take_all (length T) T (omega arith)) (lawful.flow (length T) (omega arith))

    among : Precedes (filter of_level (entered T q)) one other
    among =
        precedes_on (filter of_level (given T q)) (filter of_level (entered T q)) one other
        (precedes_kept of_level (given T q) one other events (eqb_same (level_of d)) (eqb_comm (level_of e) (level_of d) ∙ level)) (flow.ordered q ordered (level_of d))
