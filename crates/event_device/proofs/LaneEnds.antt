-- The two ends of a lane, where the ends of all lanes are taken two at a time.
use Rattle.std.proofs.Common.{◌≡◌, ℕ, ◌+◌, ◌<◌, List, length, map, get_or, Some, refl, sym, ap, ◌∙◌, arith}
use Rattle.std.specs.Prelude.{option_map, slice_get}
use Rattle.std.specs.List.{enumerate_from, zip}
use Rattle.std.proofs.lemmas.List.{length-map}
use Rattle.std.proofs.lemmas.List.FromFn.{get_or-enumerate_from, length-enumerate_from}
use Rattle.std.proofs.lemmas.Option.{same_Some, slice_get-map, slice_get_read}
use Rattle.std.proofs.lemmas.Slice.Zip.{get_or-zip, length-zip}
use Rattle.lane_rings.specs.Identity.{LaneId, far_id, near_id}
use Rattle.lane_rings.specs.declared.far.Far.{Far}
use Rattle.lane_rings.specs.declared.near.Near.{Near}

-- there are as many of the one as of the other
pub as_many_ends : (nears : List Near) (fars : List Far) → map near_id nears ≡ map far_id fars → length fars ≡ length nears
as_many_ends nears fars lanes = sym (sym (length-map nears near_id) ∙ (ap (λ (ids : List LaneId). length ids) lanes ∙ length-map fars far_id))

ends_meet : (nears : List Near) (fars : List Far) (n : ℕ) (a : Near) (b : Far) → map near_id nears ≡ map far_id fars → slice_get nears n ≡ Some a
    → slice_get fars n ≡ Some b → near_id a ≡ far_id b
ends_meet nears fars n a b lanes first second =
    same_Some (near_id a) (far_id b)
    (sym (slice_get-map near_id nears n ∙ ap (option_map near_id) first) ∙ (ap (λ (ids : List LaneId). slice_get ids n) lanes ∙ (slice_get-map far_id fars n ∙ ap (option_map far_id) second)))

-- how many pairs there are
pub pair_count : (nears : List Near) (fars : List Far) → map near_id nears ≡ map far_id fars → length (enumerate_from 0 (zip nears fars)) ≡ length nears
pair_count nears fars lanes = omega (arith, length-enumerate_from 0 (zip nears fars), length-zip nears fars, as_many_ends nears fars lanes)

-- what stands at a home of the pairs: its number, and the two ends of one lane
pub record IsTurn (nears : List Near) (fars : List Far) (n l : ℕ) (a : Near) (b : Far) : Type 0 where
  pub within : n < length nears
  pub lane : l ≡ n
  pub near : slice_get nears n ≡ Some a
  pub far : slice_get fars n ≡ Some b
  pub same : near_id a ≡ far_id b

pub turn_is : (nears : List Near) (fars : List Far) (n l : ℕ) (a : Near) (b : Far) → map near_id nears ≡ map far_id fars
    → (n < length (enumerate_from 0 (zip nears fars))) × (◌≡◌ {A = ℕ × (Near × Far)} (l, (a, b)) (get_or (enumerate_from 0 (zip nears fars)) n (l, (a, b)))) → IsTurn nears fars n l a b
turn_is nears fars n l a b lanes turn =
    let many = as_many_ends nears fars lanes in
    let count = pair_count nears fars lanes in
    let within : n < length nears = omega (arith, turn.0) in
    let item : ◌≡◌ {A = ℕ × (Near × Far)} (l, (a, b)) (0 + n, (get_or nears n a, get_or fars n b)) =
    turn.1 ∙ (get_or-enumerate_from 0 (zip nears fars) n (l, (a, b)) (omega (arith, length-zip nears fars))
    ∙ ap (λ (p : Near × Far). (0 + n, p)) (get_or-zip nears fars n (a, b) within (omega arith))) in
    let near : slice_get nears n ≡ Some a = slice_get_read nears (length nears) n a refl within (ap (λ (x : ℕ × (Near × Far)). x.1.0) item) in
    let far : slice_get fars n ≡ Some b = slice_get_read fars (length fars) n b refl (omega arith) (ap (λ (x : ℕ × (Near × Far)). x.1.1) item) in
    let number : l ≡ 0 + n = ap (λ (x : ℕ × (Near × Far)). x.0) item in
    record {
      within = within;
      lane = omega arith;
      near = near;
      far = far;
      same = ends_meet nears fars n a b lanes near far;
    }
