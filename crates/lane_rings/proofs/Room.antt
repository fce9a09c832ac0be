-- No more is left in a lane than it has room for.
use Rattle.std.proofs.Common.{◌≡◌, ℕ, ◌+◌, ◌≤◌, List, ◌++◌, length, arith, ap}
use Rattle.std.proofs.lemmas.List.{length-append}

-- what was put in and didn't come out is no more than the ring has slots, and what was taken out of it and not handed out: what is
-- gathered is no more than its free ones
pub few_left : {T : Type 0} (put sent gathered handed fetched out rest : List T) (free capacity : ℕ) → put ≡ sent ++ gathered → put ≡ handed ++ rest
    → out ≡ handed ++ fetched → length gathered ≤ free → free + length sent ≡ capacity + length out → length rest ≤ capacity + length fetched
few_left put sent gathered handed fetched out rest free capacity e f g fits all =
    omega (arith, ap length e, ap length f, ap length g, length-append sent gathered, length-append handed rest, length-append handed fetched, fits, all)
