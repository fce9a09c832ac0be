-- What stands in the places of a ring from one on: as something is put behind the last, and as the first ones leave.
use Rattle.std.proofs.Common.{◌≡◌, ℕ, ◌+◌, ◌-◌, ◌%◌, ◌<◌, ◌≤◌, ◌⊎◌, List, [], ◌∷◌, ◌++◌, length, drop, get_or, set, refl, ap, ap₂, ◌∙◌, inl, inr, mod-eq_of_lt, arith, length-append, length-drop, length-set, length-take-le, get_or-drop, get_or-take}
use native.Mathlib.Nat.{mod-eq-sub-mod, mod-add-mod}
use Rattle.std.proofs.lemmas.Bool.{cases_lt}
use Rattle.std.proofs.lemmas.Grind.{common_steps}
use Rattle.std.proofs.lemmas.List.{same_lists, drop_more, get_or_append_left, get_or-append_right}
use Rattle.std.proofs.lemmas.Nat.{mod_below}
use Rattle.lists.specs.Windows.{window}

-- an index below twice the size wraps once at most
wraps_once : (size j : ℕ) → j < size + size → ((j < size) × (j % size ≡ j)) ⊎ ((size ≤ j) × (j % size ≡ j - size))
wraps_once size j below = elim (cases_lt j size) [
  | inl low ↦ inl (low, mod-eq_of_lt low)
  | inr high ↦ inr (high, mod-eq-sub-mod high ∙ mod-eq_of_lt (omega arith))
]

-- nothing is in no places
pub window_none : {X : Type 0} (k : ℕ) (xs : List X) → window k 0 xs ≡ []
unfolding window
window_none k xs = refl

module _ {X : Type 0} (size k n : ℕ) (xs : List X) (within : k < size) (fits : n ≤ size) (length_xs : length xs ≡ size) where
  pub length-window : length (window k n xs) ≡ n
  unfolding window
  length-window = length-take-le n _ (simp (length-append, length-drop) (omega (arith, length-take-le k xs (omega arith))))

  -- entry i is at place (k + i) % size, which is before the ring's end or past it
  pub get_or-window : (i : ℕ) (d : X) → i < n → get_or (window k n xs) i d ≡ get_or xs ((k + i) % size) d
  unfolding window
  get_or-window i d in_range =
      let length_tail = length-drop k xs in
      get_or-take n _ i d in_range ∙ elim (wraps_once size (k + i) (omega arith)) [
        | inl unwrapped ↦ get_or_append_left _ _ d i (omega arith) ∙ get_or-drop k xs i d ∙ ap (λ j. get_or xs j d) (omega arith)
        | inr wrapped ↦ get_or-append_right _ _ (size - k) i d (omega arith) (omega arith) ∙ get_or-take k xs _ d (omega arith) ∙ ap (λ j. get_or xs j d) (omega arith)
      ]

module _ {X : Type 0} (size k n : ℕ) (xs : List X) (within : k < size) (fits : n ≤ size) (length_xs : length xs ≡ size) where
  pub window_pushed : (x : X) → n < size → window k (n + 1) (set xs ((k + n) % size) x) ≡ window k n xs ++ x ∷ []
  window_pushed x has_room =
      let ys = set xs ((k + n) % size) x in
      let length_ys = length-set xs ((k + n) % size) x ∙ length_xs in
      let length_old = length-window size k n xs within fits length_xs in
      let length_new = length-window size k (n + 1) ys within (omega arith) length_ys in
      let written = wraps_once size (k + n) (omega arith) in
      same_lists _ _ (grind (arith, common_steps)) (λ i d in_range. grind (
        arith,
        common_steps,
        wraps_once size (k + i) (omega arith),
        get_or-window size k n xs within fits length_xs i d,
        get_or-window size k (n + 1) ys within (omega arith) length_ys i d,
      ))

  pub window_dropped : (m : ℕ) → m ≤ n → drop m (window k n xs) ≡ window ((k + m) % size) (n - m) xs
  window_dropped m some =
      let next_within : (k + m) % size < size = mod_below (k + m) size (omega arith) in
      let length_old = length-window size k n xs within fits length_xs in
      let length_new = length-window size ((k + m) % size) (n - m) xs next_within (omega arith) length_xs in
      same_lists _ _ (simp length-drop (omega arith)) (λ i d in_range. grind (
        arith,
        length-drop m (window k n xs),
        get_or-drop m (window k n xs) i d,
        mod-add-mod (k + m) size i,
        get_or-window size k n xs within fits length_xs (m + i) d,
        get_or-window size _ (n - m) xs next_within (omega arith) length_xs i d,
      ))

  pub window_popped : (d : X) → 0 < n → window k n xs ≡ get_or xs k d ∷ window ((k + 1) % size) (n - 1) xs
  window_popped d some =
      let next_within : (k + 1) % size < size = mod_below (k + 1) size (omega arith) in
      let length_old = length-window size k n xs within fits length_xs in
      let length_new = length-window size ((k + 1) % size) (n - 1) xs next_within (omega arith) length_xs in
      let old_entry = get_or-window size k n xs within fits length_xs in
      drop_more _ 0 d (omega arith) ∙ ap₂ ◌∷◌ (grind (arith, old_entry 0 d, wraps_once size k)) (same_lists _ _ (simp length-drop (omega arith)) (λ i e in_range. grind (
        arith,
        length-drop 1 (window k n xs),
        get_or-drop 1 (window k n xs) i e,
        mod-add-mod (k + 1) size i,
        old_entry (1 + i) e,
        get_or-window size _ (n - 1) xs next_within (omega arith) length_xs i e,
      )))
