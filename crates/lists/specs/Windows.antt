-- What stands in the places of a ring.
use Rattle.std.specs.Prelude.{ℕ, List, ◌++◌, take, drop}

-- what is in n places from place k on, around the end
unfoldable pub window : {X : Type 0} → ℕ → ℕ → List X → List X
window k n xs = take n (drop k xs ++ take k xs)
