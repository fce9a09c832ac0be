-- Deliveries that are gathered at several lanes, and how many their rings have room for.
use Rattle.std.specs.Prelude.{ℕ, ◌≡◌, ◌+◌, ◌≤◌, List, [], ◌∷◌, ◌++◌, length, map, slice_index_or, slice_set}
use Rattle.evt_types.specs.declared.event.Delivery.{Delivery}
use Rattle.evt_types.specs.Plan.{depth_of}
use Rattle.lane_rings.specs.Ends.{offered, room_in, seen_replies, taken}
use Rattle.lane_rings.specs.Identity.{near_id}
use Rattle.lane_rings.specs.declared.near.Near.{Near}
use Rattle.transcripts.specs.Standing.{View, unanswered_at}

-- how many deliveries more the lane's ring has room for, as far as its end knows
abbrev pub room_at : List Near → ℕ → ℕ
room_at lanes l = slice_index_or (map room_in lanes) l 0

-- the lane's ring has room for so many, as far as the lane may hold them
abbrev pub HasRoomFor : View → List Near → ℕ → ℕ → Type 0
HasRoomFor v lanes most l = (n : ℕ) → n ≤ most → n + length (unanswered_at v l) ≤ depth_of v.shape l → n ≤ room_at lanes l

-- one delivery more was offered at the end, and nothing else was done there
pub record IsOffered (d : Delivery) (near later : Near) : Type 0 where
  pub lane : near_id later ≡ near_id near
  pub offers : offered later ≡ offered near ++ d ∷ []
  pub takings : taken later ≡ taken near
  pub seens : seen_replies later ≡ seen_replies near

-- each of these was offered at the lane that stands at its place
abbrev pub AreGathered : List Near → List Delivery → List ℕ → List Near → Type 0
AreGathered lanes [] [] ends = ends ≡ lanes
AreGathered lanes [] (l ∷ to) ends = ⊥
AreGathered lanes (d ∷ ds) [] ends = ⊥
AreGathered lanes (d ∷ ds) (l ∷ to) ends =
    (near : Near) × (later : Near) × (near ≡ slice_index_or lanes l near) × IsOffered d near later × AreGathered (slice_set lanes l later) ds to ends
