-- Where each accepted event is at stop: how often it is found in each kind of place, over all lanes.
use Rattle.std.specs.Prelude.{ℕ, List, ◌==◌, map, take, drop, count_by, sum_by}
use Rattle.evt_types.specs.Event.{pair_of}
use Rattle.evt_types.specs.Operation.{is_answer}
use Rattle.evt_types.specs.Plan.{Plan, lanes}
use Rattle.evt_types.specs.declared.event.Numbered.{Numbered}
use Rattle.evt_types.specs.declared.step.Step.{Step}
use Rattle.transcripts.specs.Transcript.{is_pair, waiting}
use Rattle.world_laws.specs.Rest.{Rest, still_held}

-- the pairs that a lane was given and its holder didn't receive
abbrev pub undelivered_pairs : Rest → List (ℕ × ℕ)
undelivered_pairs r = map pair_of r.undelivered

-- the pairs that the lane's holder received and answered: the k-th answer is to the k-th that was received
abbrev pub answered_pairs : Rest → List (ℕ × ℕ)
answered_pairs r = map pair_of (take (count_by is_answer r.answered) r.received)

-- of these those whose answers the scheduler took, and those whose answers it didn't take
abbrev pub taken_pairs : Rest → List (ℕ × ℕ)
taken_pairs r = take (count_by is_answer r.taken) (answered_pairs r)

abbrev pub untaken_pairs : Rest → List (ℕ × ℕ)
untaken_pairs r = drop (count_by is_answer r.taken) (answered_pairs r)

-- how often the number is among the events of the queue that wait
abbrev pub times_waiting : List Step → ℕ → ℕ → ℕ
times_waiting T q n = count_by (λ (w : Numbered). w.number == n) (waiting T q)

-- how often the event of the queue and number is in these lists of all lanes
abbrev pub times_in : (Rest → List (ℕ × ℕ)) → Plan → (ℕ → Rest) → ℕ → ℕ → ℕ
times_in pairs p rest q n = sum_by (λ l. count_by (is_pair q n) (pairs (rest l))) (lanes p)

-- given to a lane and not received
abbrev pub times_undelivered : Plan → (ℕ → Rest) → ℕ → ℕ → ℕ
times_undelivered = times_in undelivered_pairs

-- received and not answered
abbrev pub times_held : Plan → (ℕ → Rest) → ℕ → ℕ → ℕ
times_held = times_in still_held

-- received and answered
abbrev pub times_answered : Plan → (ℕ → Rest) → ℕ → ℕ → ℕ
times_answered = times_in answered_pairs

-- by an answer that the scheduler took
abbrev pub times_taken : Plan → (ℕ → Rest) → ℕ → ℕ → ℕ
times_taken = times_in taken_pairs

-- by an answer that it didn't take
abbrev pub times_untaken : Plan → (ℕ → Rest) → ℕ → ℕ → ℕ
times_untaken = times_in untaken_pairs
