-- A bit as a number, so that a sum of it is how many elements have the bit.
use Rattle.std.proofs.Common.{◌≡◌, ◌+◌, ◌<◌, ◌≤◌, Bool, true, false, ◌||◌, refl, ap, arith}
use Rattle.lists.specs.Counts.{count}

pub of_count : (b : Bool) → 0 < count b → b ≡ true
of_count true h = refl
of_count false h = absurd (omega arith)

pub to_count : (b : Bool) → b ≡ true → count b ≡ 1
to_count b h = ap count h

pub to_count_none : (b : Bool) → b ≡ false → count b ≡ 0
to_count_none b h = ap count h

pub count_le : (b : Bool) → count b ≤ 1
count_le true = omega arith
count_le false = omega arith

-- where one of two has the bit, either of them has
pub count-or : (a b : Bool) → count a + count b ≤ count (a || b) + count (a || b)
count-or true true = omega arith
count-or true false = omega arith
count-or false true = omega arith
count-or false false = omega arith
