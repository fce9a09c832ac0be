-- From which events of a queue others were passed on.
use Rattle.std.specs.Prelude.{ℕ, ◌==◌, List, [], flat_map, Option, Some, None, if◌then◌else◌}
use Rattle.evt_types.specs.Plan.{Plan, lanes}
use Rattle.evt_types.specs.declared.step.Step.{Step}
use Rattle.lists.specs.Lists.{with_past}
use Rattle.transcripts.specs.Transcript.{next_pair}
use Rattle.judge_app.specs.Steps.{is_number, passer_of}

-- the number of a pair of the queue
abbrev pub number_of : ℕ → ℕ × ℕ → Option ℕ
number_of q x = if x.0 == q then Some x.1 else None

abbrev pub number_if : ℕ → Option (ℕ × ℕ) → Option ℕ
number_if q None = None
number_if q (Some x) = number_of q x

-- of a lane whose next answer is to this pair: the queue's number that it passes an event on from
abbrev pub sent_from : ℕ → ℕ → Option (ℕ × ℕ) → Step → Option ℕ
sent_from l q next s = if is_number l (passer_of s) then number_if q next else None

abbrev pub sent_by : ℕ → ℕ → List Step → Step → Option ℕ
sent_by l q P s = sent_from l q (next_pair P l) s

-- the queue's numbers that the lane passed events on from, by its FORWARDs and by what it added beside them, in order
abbrev pub sent_on : List Step → ℕ → ℕ → List ℕ
sent_on T l q = with_past (sent_by l q) [] T

-- the same of all lanes
abbrev pub sent_of : Plan → List Step → ℕ → List ℕ
sent_of p T q = flat_map (λ l. sent_on T l q) (lanes p)
