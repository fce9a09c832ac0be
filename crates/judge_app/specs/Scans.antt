-- The places of steps, from 0.
use Rattle.std.specs.Prelude.{ℕ, Bool, List, Option, Some, None, filter_map, position, slice_get, if◌then◌else◌}
use Rattle.std.specs.List.{enumerate_from}
use Rattle.evt_types.specs.declared.step.Step.{Step}
use Rattle.transcripts.specs.Transcript.{is_shut}
use Rattle.judge_app.specs.Steps.{accepts, gives, takes}

abbrev pub place_if : (Step → Bool) → ℕ × Step → Option ℕ
place_if passes x = if passes x.1 then Some x.0 else None

-- the places of the steps that pass
abbrev pub places : (Step → Bool) → List Step → List ℕ
places passes T = filter_map (place_if passes) (enumerate_from 0 T)

-- where the queue accepted this number: the queue's Accepts have its numbers from 0 on
abbrev pub accept_place : List Step → ℕ → ℕ → Option ℕ
accept_place T q n = slice_get (places (accepts q) T) n

-- where the queue's number was given first, where an event was accepted from it first, and where the device was shut first
abbrev pub give_place : List Step → ℕ → ℕ → Option ℕ
give_place T q n = position (gives q n) T

abbrev pub take_place : List Step → ℕ → ℕ → Option ℕ
take_place T q n = position (takes q n) T

abbrev pub shut_place : List Step → Option ℕ
shut_place T = position is_shut T
