-- The lanes that a sweep passes over, in sets: none, one more, and what a set says.
use Rattle.std.proofs.Common.{◌≡◌, ◌≢◌, ℕ, ◌/◌, ◌%◌, ◌<◌, ◌≤◌, Bool, true, false, List, length, get_or, set, replicate, ⊎_elim, sym, ap, ◌∙◌, subst, arith, ◌==◌}
use Rattle.std.specs.Prelude.{◌↔◌}
use Rattle.std.specs.Int.{bit_at}
use Rattle.std.specs.Bool.{Decides}
use Rattle.std.proofs.lemmas.Bool.{cases_eq, false_from_ne_true}
use Rattle.std.proofs.lemmas.Bool.Decides.{Decides-eqb, Decides-like, same_from_decides}
use Rattle.std.proofs.lemmas.List.{get_or_past, get_or-replicate, get_or-set_same, get_or-set_other, length-replicate, length-set, same_lists}
use Rattle.std.proofs.lemmas.List.FromFn.{get_or-map-range_with_len, length-map-range_with_len}
use Rattle.std.proofs.lemmas.Grind.{get_or-set_at}
use Rattle.small_set.specs.SmallSets.{Has, IsEmpty, SameBut, no_places, set_at}
use Rattle.small_set.specs.declared.set.SmallSet.{SmallSet}
use Rattle.sched_core.specs.Skipped.{has_lane, lanes_in}

-- ---- what the sets say of a lane

pub lanes_len : (sets : List SmallSet) → length (lanes_in sets) ≡ 160
unfolding lanes_in
lanes_len sets = length-map-range_with_len (has_lane sets) 0 160

pub lane_here : (sets : List SmallSet) (l : ℕ) (d : Bool) → l < 160 → get_or (lanes_in sets) l d ≡ has_lane sets l
unfolding lanes_in
lane_here sets l d h = get_or-map-range_with_len (has_lane sets) 0 160 l l d h (omega arith)

pub lane_past : (sets : List SmallSet) (l : ℕ) → 160 ≤ l → get_or (lanes_in sets) l false ≡ false
lane_past sets l h = get_or_past (lanes_in sets) l false (omega (arith, h, lanes_len sets))

pub lane_decides : (sets : List SmallSet) (l : ℕ) → Decides (has_lane sets l) (Has (set_at sets (l / 64)) (l % 64))
lane_decides sets l = Decides-eqb _ 1

-- the first set has the first lanes
pub first_set : (sets : List SmallSet) (l : ℕ) → l < 64 → Has (set_at sets 0) l ↔ (get_or (lanes_in sets) l false ≡ true)
first_set sets l few =
    let decides = lane_decides sets l in
    let here = lane_here sets l false (omega (arith, few)) in
    let word : l / 64 ≡ 0 = omega (arith, few) in
    let place : l % 64 ≡ l = omega (arith, few) in (
      λ has. here ∙ decides.1 (subst (λ w. Has (set_at sets w) (l % 64)) (sym word) (subst (Has (set_at sets 0)) (sym place) has)),
      λ is. subst (Has (set_at sets 0)) place (subst (λ w. Has (set_at sets w) (l % 64)) word (decides.0 (sym here ∙ is))),
    )

-- ---- no lane

module _ (none : SmallSet) (empty : IsEmpty none) where
  no_lane : (l : ℕ) → l < 160 → has_lane (replicate 3 none) l ≡ false
  no_lane l h =
      let there : set_at (replicate 3 none) (l / 64) ≡ none = get_or-replicate 3 (l / 64) none no_places (omega arith) in
      false_from_ne_true _ (λ e. empty (l % 64) (subst (λ (s : SmallSet). Has s (l % 64)) there ((lane_decides (replicate 3 none) l).0 e)))

  pub no_lanes : lanes_in (replicate 3 none) ≡ replicate 160 false
  no_lanes =
      let len = lanes_len (replicate 3 none) in
      same_lists _ _ (len ∙ sym (length-replicate 160 false))
      (λ k d h. let few : k < 160 = omega (arith, h, len) in lane_here (replicate 3 none) k d few ∙ no_lane k few ∙ sym (get_or-replicate 160 k false d few))

-- ---- one lane more

module _ (sets : List SmallSet) (more : SmallSet) (l : ℕ) (few : l < 160) (count : length sets ≡ 3) (there : Has more (l % 64)) (others : SameBut (l % 64) (set_at sets (l / 64)) more) where
  with_more : List SmallSet
  with_more = set sets (l / 64) more

  added : has_lane with_more l ≡ true
  unfolding with_more
  added = (lane_decides with_more l).1 (subst (λ (s : SmallSet). Has s (l % 64)) (sym (get_or-set_same sets (l / 64) more no_places (omega arith))) there)

  holds : ℕ → SmallSet → Type 0
  holds k s = Has s (k % 64)

  kept : (k : ℕ) → k ≢ l → has_lane with_more k ≡ has_lane sets k
  unfolding with_more holds
  kept k apart = ⊎_elim same_set other_set (cases_eq (k / 64) (l / 64))
    where
      same_set : k / 64 ≡ l / 64 → has_lane with_more k ≡ has_lane sets k
      same_set e =
          let was : set_at sets (k / 64) ≡ set_at sets (l / 64) = ap (set_at sets) e in
          let now : set_at with_more (k / 64) ≡ more = get_or-set_at sets (l / 64) (k / 64) more no_places e (omega arith) in
          let sides = others (k % 64) (λ (r : k % 64 ≡ l % 64). apart (omega (arith, e, r))) in
          same_from_decides (has_lane with_more k) (has_lane sets k) (lane_decides with_more k)
          (Decides-like (has_lane sets k) (λ has. subst (holds k) (sym now) (sides.1 (subst (holds k) was has))) (λ has. subst (holds k) (sym was) (sides.0 (subst (holds k) now has))) (lane_decides sets k))

      other_set : k / 64 ≢ l / 64 → has_lane with_more k ≡ has_lane sets k
      other_set ne = ap (λ (s : SmallSet). bit_at s.bits (k % 64) == 1) (get_or-set_other sets (l / 64) (k / 64) more no_places ne)

  pub lane_added : lanes_in (set sets (l / 64) more) ≡ set (lanes_in sets) l true
  unfolding with_more
  lane_added = same_lists _ _ (lanes_len with_more ∙ sym (length-set (lanes_in sets) l true ∙ lanes_len sets)) each
    where
      each : (k : ℕ) (d : Bool) → k < length (lanes_in with_more) → get_or (lanes_in with_more) k d ≡ get_or (set (lanes_in sets) l true) k d
      each k d h =
          let within : k < 160 = omega (arith, h, lanes_len with_more) in
          lane_here with_more k d within ∙ ⊎_elim
          (λ (e : k ≡ l). subst (λ n. has_lane with_more n ≡ true) (sym e) added ∙ sym (get_or-set_at (lanes_in sets) l k true d e (omega (arith, few, lanes_len sets))))
          (λ apart. kept k apart ∙ sym (lane_here sets k d within) ∙ sym (get_or-set_other (lanes_in sets) l k true d apart))
          (cases_eq k l)
