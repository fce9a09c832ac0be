-- What the kinds of step tell the seat that steps. Each is of the step, the seat before, the word found and the seat after.
use Rattle.std.specs.Prelude.{◌≡◌, ◌≢◌, ℕ, ◌+◌, ◌-◌, ◌*◌, ◌/◌, ◌%◌, ◌<◌, ◌≤◌, ◌==◌, Bool, List, [], ◌∷◌, ◌++◌, map, Option}
use Rattle.std.specs.Prelude.Option.{Some, None}
use Rattle.atomic_table.specs.Table.{Me, Step, rest}
use Rattle.lane_rings.specs.Ends.{unanswered}
use Rattle.lane_rings.specs.declared.far.Far.{Far}
use Rattle.flow_claims.specs.declared.seating.Begun.{Begun}
use Rattle.flow_claims.specs.declared.seating.Seating.{Seating}
use Rattle.flow_claims.specs.Lists.{IsOf}
use Rattle.flow_claims.specs.Stints.{stints_of, surrenders}
use Rattle.flow_claims.specs.Seats.{begun_by, past_of, slot_of, fronted, find_lane, stint_at, after_look, after_load, after_begin, after_front, after_close, HasAll, IsLeft}
use Rattle.flow_claims.specs.Ends.{IsEnd}

-- a seat with the slots that it has
abbrev pub Sitting : Type 0
Sitting = Me (Option Far) Seating

abbrev pub WordStep : Type 0
WordStep = Step (Option Far)

-- What a lane's word tells the seat that reads it. With all parts, it knows all stints.
pub record Reads (lane word : ℕ) (v : Seating) : Type 0 where
  pub parts : v.parts ≤ 64
  pub held : (b : Begun) → stint_at v lane ≡ Some b → (word ≡ 256 * b.number + b.port + 1) × (b.port < 254)
  pub surrendered : 0 < surrenders lane v.finished → word % 256 ≡ 255
  pub counted : HasAll v → word / 256 ≡ stints_of lane v.finished
  pub free : HasAll v → v.closed ≤ lane → IsLeft lane v → word % 256 ≡ 0

-- the load of a claim, and that before a closing swap
abbrev pub Probes : WordStep → Sitting → ℕ → Sitting → Type 0
Probes st m word n = (n.0 ≡ after_load st.word word m.0) × (n.1 ≡ m.1) × Reads st.word word m.0

-- the exchange of a claim: where it succeeds, the seat takes the slot, with the lane's end
abbrev pub Begins : WordStep → Sitting → ℕ → Sitting → Type 0
Begins st m word n =
    (word ≡ st.first → (far : Far)
    × (n.0 ≡ after_begin (begun_by (st.second - st.first - 1) st.word (word / 256) far) (after_look st.word word m.0))
    × (n.1 ≡ (st.word, Some far) ∷ m.1) × IsOf m.0.lanes st.word far × (unanswered far ≡ []))
    × (word ≢ st.first → (n.0 ≡ after_look st.word word m.0) × (n.1 ≡ m.1))
    × Reads st.word word m.0

-- the load that brings the lane's slot before the others that the seat has
abbrev pub Fronts : WordStep → Sitting → ℕ → Sitting → Type 0
Fronts st m word n = (n.0 ≡ after_front st.word m.0) × (n.1 ≡ map slot_of (fronted st.word m.0.held))

-- what the slot that was taken last holds
abbrev pub in_hand : List (ℕ × Option Far) → Option Far
in_hand [] = None
in_hand (x ∷ xs) = x.1

-- the first open stint ends with this end
abbrev pub ends_first : Bool → List Begun → Option Far → Seating → Seating
ends_first surrendered [] far v = v
ends_first surrendered (b ∷ bs) None v = v
ends_first surrendered (b ∷ bs) (Some far) v = record v { held = bs; finished = v.finished ++ past_of surrendered b far ∷ [] }

-- the store that gives the slot back with the end, and surrenders the lane where the word ends in 255
abbrev pub Finishes : WordStep → Sitting → ℕ → Sitting → Type 0
Finishes st m word n = (n.0 ≡ ends_first (st.first % 256 == 255) m.0.held (in_hand m.1) m.0) × (n.1 ≡ rest m.1) × (find_lane st.word n.0.held ≡ None)

-- the closing swap, by which a seat with all parts takes the slot
abbrev pub Closes : WordStep → Sitting → ℕ → Sitting → Type 0
Closes st m word n = (far : Far) × (n.0 ≡ after_close m.0) × (n.1 ≡ (st.word, Some far) ∷ m.1) × IsEnd m.0.lanes m.0.finished st.word far
