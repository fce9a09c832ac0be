-- The world that is found at stop, by the lists of each lane's two ends.
use Rattle.std.specs.Prelude.{ℕ, ◌≡◌, ◌≤◌, List, ◌++◌, length, map, take, drop, count_by}
use Rattle.std.proofs.Common.{refl, sym, ap, ◌∙◌, arith, length-append}
use Rattle.std.proofs.lemmas.List.{drop-map, length-map, map-append, take-map, take_at}
use Rattle.evt_types.specs.Event.{pair_of}
use Rattle.evt_types.specs.Operation.{is_answer}
use Rattle.evt_types.specs.Plan.{Plan}
use Rattle.evt_types.specs.declared.step.Step.{Step}
use Rattle.transcripts.specs.Lawful.{IsPrefix}
use Rattle.transcripts.specs.Replies.{said, replies_in}
use Rattle.transcripts.specs.Transcript.{out}
use Rattle.world_laws.proofs.Found.{found_is_a_run}
use Rattle.world_laws.specs.Logged.{as_logged}
use Rattle.world_laws.specs.Rest.{AreRests, IsRest, Rest, found_in, still_held}
use Rattle.world_laws.specs.World.{IsConsistent, LeadsTo, empty, in_hand}

received_few : (T : List Step) (l : ℕ) (r : Rest) → IsRest T l r → length r.received ≤ length (out T l)
received_few T l r is =
    omega (arith, ap length is.given, length-map r.offered pair_of, ap length is.received, length-append r.received r.undelivered)

taken_front : (T : List Step) (l : ℕ) (r : Rest) → IsRest T l r → IsPrefix (replies_in T l) (map said r.answered)
taken_front T l r is = (
  map said r.untaken,
  ap (λ xs. xs ++ map said r.untaken) (sym is.replies) ∙ (sym (map-append said r.taken r.untaken) ∙ ap (map said) (sym is.answered)),
)

rests_fit : (p : Plan) (T : List Step) (rest : ℕ → Rest) → AreRests p T rest → IsConsistent p (found_in T rest)
rests_fit p T rest are =
    record {
      lawful = are.lawful;
      received = λ l. received_few T l (rest l) (are.each l);
      fewer = λ l. (are.each l).fewer;
      beside = λ l. (are.each l).beside;
      taken = λ l. taken_front T l (rest l) (are.each l);
      own = are.own;
    }

pub rests_are_a_run : (p : Plan) (T : List Step) (rest : ℕ → Rest) → AreRests p T rest → LeadsTo p empty (as_logged p (found_in T rest)) (found_in T rest)
rests_are_a_run p T rest are = found_is_a_run p (found_in T rest) (rests_fit p T rest are) are.short

-- what was received, by its pairs
received_pairs : (T : List Step) (l : ℕ) (r : Rest) → IsRest T l r → take (length r.received) (out T l) ≡ map pair_of r.received
received_pairs T l r is =
    ap (take (length r.received)) (sym is.given ∙ ap (map pair_of) is.received)
    ∙ (take-map pair_of (length r.received) (r.received ++ r.undelivered) ∙ ap (map pair_of) (take_at r.received r.undelivered (length r.received) refl))

pub hand_at_rest : (p : Plan) (T : List Step) (rest : ℕ → Rest) (l : ℕ) → AreRests p T rest → in_hand (found_in T rest) l ≡ still_held (rest l)
hand_at_rest p T rest l are =
    ap (drop (count_by is_answer (rest l).answered)) (received_pairs T l (rest l) (are.each l))
    ∙ drop-map pair_of (count_by is_answer (rest l).answered) (rest l).received
