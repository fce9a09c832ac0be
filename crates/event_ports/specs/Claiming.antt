-- Which flow lanes a dequeue claims.
use Rattle.std.specs.Prelude.{◌≡◌, ℕ, ◌+◌, ◌*◌, ◌≤◌, ◌⊎◌, List, [], ◌∷◌, ◌++◌, length}
use Rattle.flow_claims.specs.declared.seating.Seating.{Seating}

-- some of these numbers, in their order, each place of the list once at most
abbrev pub ArePicked : List ℕ → List ℕ → Type 0
ArePicked [] picked = picked ≡ []
ArePicked (x ∷ xs) picked = ArePicked xs picked ⊎ ((rest : List ℕ) × (picked ≡ x ∷ rest) × ArePicked xs rest)

-- Some of these lanes were claimed, each once at most: by one load of its word, and one exchange at most. No other word was read.
pub record ClaimsEach (links : List ℕ) (v after : Seating) : Type 0 where
  pub claimed : List ℕ
  pub picked : ArePicked links claimed
  pub loads : after.loads ≡ v.loads ++ claimed
  pub reads : after.reads ≤ v.reads + 2 * length claimed
