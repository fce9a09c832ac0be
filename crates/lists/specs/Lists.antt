-- Words on lists that know nothing of what stands in them.
use Rattle.std.specs.Prelude.{ℕ, Bool, List, [], ◌∷◌, ◌++◌, ◌==◌, Option, if◌then◌else◌}
use Rattle.std.specs.List.{list_any, cons_option}

-- whether the number is in the list
abbrev pub has : ℕ → List ℕ → Bool
has n xs = list_any (λ m. m == n) xs

-- the numbers as far as n, and those from the first that fails on
abbrev pub upto : ℕ → List ℕ → List ℕ
upto n [] = []
upto n (m ∷ ms) = m ∷ (if m == n then [] else upto n ms)

abbrev pub from_first : (ℕ → Bool) → List ℕ → List ℕ
from_first passes [] = []
from_first passes (n ∷ ns) = if passes n then from_first passes ns else n ∷ ns

-- what f gives of each item and of the items before it
abbrev pub with_past : {X Y : Type 0} → (List X → X → Option Y) → List X → List X → List Y
with_past f past [] = []
with_past f past (x ∷ xs) = cons_option (f past x) (with_past f (past ++ x ∷ []) xs)
