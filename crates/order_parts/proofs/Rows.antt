-- Which row each place has, and what the rows hold after an event more.
use Rattle.std.proofs.Common.{◌≡◌, ◌≢◌, ℕ, ◌+◌, ◌-◌, ◌*◌, ◌<◌, ◌≤◌, ◌⊎◌, List, [], ◌∷◌, ◌++◌, length, get_or, set, take, drop, refl, ap, ◌∙◌, inl, inr, ⊎_elim, arith, length-drop, length-take-le, get_or-drop, get_or-take}
use Rattle.std.proofs.lemmas.Bool.{cases_lt}
use Rattle.std.proofs.lemmas.Bool.Decides.{nat_tests}
use Rattle.std.proofs.lemmas.List.{drop_more, drop-set-add, drop-set-lt, take-set-le, take_more_set}
use Rattle.evt_types.specs.declared.event.Event.{Event}
use Rattle.evt_types.specs.declared.event.TheConstants.{MAX_FORWARDS}
use Rattle.order_parts.specs.Reorder.{in_row, wrapped}

pub wrapped_low : (n row : ℕ) → row < n → wrapped n row ≡ row
unfolding wrapped
wrapped_low n row low = grind (arith, nat_tests)

pub wrapped_high : (n row : ℕ) → n ≤ row → wrapped n row ≡ row - n
unfolding wrapped
wrapped_high n row high = grind (arith, nat_tests)

-- a row is where it is, or once around
pub wraps : (n row : ℕ) → ((row < n) × (wrapped n row ≡ row)) ⊎ ((n ≤ row) × (wrapped n row ≡ row - n))
wraps n row = ⊎_elim (λ low. inl (low, wrapped_low n row low)) (λ high. inr (high, wrapped_high n row high)) (cases_lt row n)

pub wrapped_within : (n row : ℕ) → row < n + n → wrapped n row < n
wrapped_within n row below = ⊎_elim (λ low. omega (arith, low)) (λ high. omega (arith, high, below)) (wraps n row)

-- two of n places have different rows
pub rows_differ : (n first i j : ℕ) → first < n → i < n → j < n → j ≢ i → wrapped n (first + j) ≢ wrapped n (first + i)
rows_differ n first i j within low other apart same =
    apart (⊎_elim
    (λ a. ⊎_elim (λ b. omega (arith, a, b, same)) (λ b. omega (arith, a, b, same, within, low, other)) (wraps n (first + i)))
    (λ a. ⊎_elim (λ b. omega (arith, a, b, same, within, low, other)) (λ b. omega (arith, a, b, same)) (wraps n (first + i)))
    (wraps n (first + j)))

-- once the oldest place has left, each place is one nearer to the first
pub row_before : (n first i : ℕ) → first < n → i < n → wrapped n (wrapped n (first + 1) + i) ≡ wrapped n (first + (i + 1))
row_before n first i within low =
    ⊎_elim
    (λ a. ap (wrapped n) (omega (arith, a)))
    (λ a. ap (λ k. wrapped n (k + i)) (omega (arith, a, within)) ∙ wrapped_low n (0 + i) (omega (arith, low)) ∙ omega (arith, wrapped_high n (first + (i + 1)) (omega (arith, a)), a, within))
    (wraps n (first + 1))

-- ---- what a row holds

module _ (all : List Event) (row : ℕ) where
  pub row_none : in_row all row 0 ≡ []
  unfolding in_row
  row_none = refl

  pub row_length : (m : ℕ) → MAX_FORWARDS * row + m ≤ length all → length (in_row all row m) ≡ m
  unfolding in_row
  row_length m room = length-take-le m (drop (MAX_FORWARDS * row) all) (omega (arith, room, length-drop (MAX_FORWARDS * row) all))

  pub row_at : (m k : ℕ) (d : Event) → k < m → get_or (in_row all row m) k d ≡ get_or all (MAX_FORWARDS * row + k) d
  unfolding in_row
  row_at m k d below = get_or-take m (drop (MAX_FORWARDS * row) all) k d below ∙ get_or-drop (MAX_FORWARDS * row) all k d

  -- one event
  pub row_one : (d : Event) → MAX_FORWARDS * row < length all → in_row all row 1 ≡ get_or all (MAX_FORWARDS * row) d ∷ []
  unfolding in_row
  row_one d there = ap (take 1) (drop_more all (MAX_FORWARDS * row) d there)

  -- an event more
  pub row_more : (m : ℕ) (e : Event) → MAX_FORWARDS * row + m < length all → in_row (set all (MAX_FORWARDS * row + m) e) row (m + 1) ≡ in_row all row m ++ e ∷ []
  unfolding in_row
  row_more m e room =
      ap (take (m + 1)) (drop-set-add (MAX_FORWARDS * row) all m e)
      ∙ take_more_set (drop (MAX_FORWARDS * row) all) m e (omega (arith, room, length-drop (MAX_FORWARDS * row) all))

  -- the other rows stay
  pub row_stays : (other m k : ℕ) (e : Event) → k < MAX_FORWARDS → m ≤ MAX_FORWARDS → other ≢ row → in_row (set all (MAX_FORWARDS * row + k) e) other m ≡ in_row all other m
  unfolding in_row
  row_stays other m k e low few apart =
      ⊎_elim
      (λ before.
      ap (λ i. take m (drop (MAX_FORWARDS * other) (set all i e))) (omega (arith, before))
      ∙ ap (take m) (drop-set-add (MAX_FORWARDS * other) all (MAX_FORWARDS * row + k - MAX_FORWARDS * other) e)
      ∙ take-set-le m (drop (MAX_FORWARDS * other) all) (MAX_FORWARDS * row + k - MAX_FORWARDS * other) e (omega (arith, before, few)))
      (λ behind. ap (take m) (drop-set-lt (MAX_FORWARDS * other) all (MAX_FORWARDS * row + k) e (omega (arith, behind, apart, low))))
      (cases_lt other row)
