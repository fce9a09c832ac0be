-- The rule holds of new claims.
use Rattle.std.proofs.Common.{◌≡◌, ℕ, zero, suc, ◌+◌, ◌/◌, ◌<◌, List, [], ◌∷◌, map, replicate, length, drop, get_or, Some, All, refl, sym, ap, ◌∙◌, arith}
use Rattle.std.proofs.lemmas.List.{length-replicate, length-map, get_or-replicate}
use Rattle.std.proofs.lemmas.List.Elements.{All-nil, All-cons, All-head, All-tail}
use mathlib.Core.Option as O
use lib.ListN.{get_elem?}
use Rattle.atomic_table.specs.Table.{opening}
use Rattle.lane_rings.specs.Ends.{answered, answers_among, unanswered}
use Rattle.lane_rings.specs.declared.far.Far.{Far}
use Rattle.flow_claims.specs.Lists.{no_lists, lists_of, IsOf}
use Rattle.flow_claims.specs.Stints.{below}
use Rattle.flow_claims.specs.Seats.{first_seating}
use Rattle.flow_claims.specs.Rule.{IsSeat, Claimed}
use Rattle.flow_claims.specs.Laws.{IsUnused}
use Rattle.flow_claims.proofs.WordReads.{busy_free, not_below}

-- the end of a lane, in the list and in its slot
record Standing (lanes : List Far) (lane : ℕ) : Type 0 where
  far : Far
  fresh : IsUnused far
  of_lane : IsOf lanes lane far
  home : get_elem? (map O.some (map Some lanes)) lane ≡ O.some (O.some (Some far))

standing : (lanes : List Far) (lane : ℕ) → lane < length lanes → All IsUnused lanes → Standing lanes lane
standing [] lane lt all = absurd (omega (arith, lt))
standing (x ∷ xs) zero lt all = record { far = x; fresh = All-head IsUnused x xs all; of_lane = refl; home = refl }
standing (x ∷ xs) (suc lane) lt all =
    let more = standing xs lane (omega (arith, lt)) (All-tail IsUnused x xs all) in
    record { far = more.far; fresh = more.fresh; of_lane = more.of_lane; home = more.home }

drop_nil : {A : Type 0} (n : ℕ) → drop {A = A} n [] ≡ []
drop_nil zero = refl
drop_nil (suc n) = refl

fresh_lists : (far : Far) → IsUnused far → lists_of far ≡ no_lists
fresh_lists far f = λ i. record { received = f.0 i; answered = f.1 i }

fresh_answered : (far : Far) → IsUnused far → unanswered far ≡ []
fresh_answered far f = ap (drop (answers_among (answered far))) f.0 ∙ drop_nil (answers_among (answered far))

pub starts : (lanes : List Far) → All IsUnused lanes → Claimed lanes (opening (replicate (length lanes + 1) 0) (map Some lanes) (first_seating lanes))
starts lanes fresh =
    let words : List ℕ = replicate (length lanes + 1) 0 in
    let word : (lane : ℕ) → lane < length lanes → get_or words lane 0 ≡ 0 = λ lane lt. get_or-replicate (length lanes + 1) lane 0 0 (omega (arith, lt)) in
    record {
      wide = length-replicate (length lanes + 1) 0;
      deep = length-map (map Some lanes) O.some ∙ length-map lanes Some;
      past = λ lane. [];
      each_lane = λ lane lt.
          let at : Standing lanes lane = standing lanes lane lt fresh in
          record {
            recorded = tt;
            counted = omega (arith, word lane lt);
            done = λ k d lt. absurd (omega (arith, lt));
            closed = λ some. absurd (omega (arith, some, not_below lane 0 (omega arith)));
            final = λ k d lt. absurd (omega (arith, lt));
            surrendered = λ k d lt. absurd (omega (arith, lt));
            free = λ z. (at.far, (at.home, at.of_lane, fresh_lists at.far at.fresh), fresh_answered at.far at.fresh);
            over = λ z. absurd (omega (arith, z, word lane lt));
          };
      each_seat = All-cons (IsSeat lanes words (map O.some (map Some lanes)) (λ lane. [])) (first_seating lanes) []
          (record { idle = λ z. absurd (omega (arith, z)); same_lanes = λ _. refl; held = λ k d lt. absurd (omega (arith, lt)); kept = λ k d lt. absurd (omega (arith, lt)) })
          (All-nil (IsSeat lanes words (map O.some (map Some lanes)) (λ lane. [])));
      parts = refl;
      one_holder = λ lane lt. sym (busy_free (get_or words lane 0) (omega (arith, word lane lt)));
      once = λ lane number lt. sym (ap (λ k. below number (k / 256)) (word lane lt) ∙ none_below number);
      weighed = λ lane f lt. refl;
    }
  where
    none_below : (number : ℕ) → below number (0 / 256) ≡ 0
    none_below number = grind arith
