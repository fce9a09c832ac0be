-- Sums over a list, such as the views of all seats of a table, are std's `sum_by`.
use Rattle.std.specs.Prelude.{ℕ, Bool, cond}

-- 1 where it is true, and 0 where it is not: the sum of it is how many there are
abbrev pub count : Bool → ℕ
count b = cond b 1 0
