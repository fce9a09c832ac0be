-- The levels of each queue of which an event waits.
use Rattle.std.specs.Prelude.{ℕ, ◌≡◌, ◌<◌, List, length, slice_index_or}
use Rattle.std.proofs.Common.{ap, sym, ◌==◌, ◌∙◌}
use Rattle.std.proofs.lemmas.Bool.{false≢true}
use Rattle.std.proofs.lemmas.Nat.Bits.{bit_at-zero}
use Rattle.small_set.specs.SmallSets.{Has, no_places}
use Rattle.small_set.specs.declared.set.SmallSet.{SmallSet}
use Rattle.parked_queue.specs.Waits.{HasNoneOf, Waits, waits_at}
use Rattle.parked_queue.specs.declared.level.Levels.{Levels}

-- the levels, by number
abbrev pub members : Levels → SmallSet
members levels = levels.set

-- no level
pub no_levels : Levels
no_levels = record { set = no_places; few = λ c has. absurd (false≢true (ap (λ n. n == 1) (sym (bit_at-zero c) ∙ has))) }

-- each level of which an event waits is among these
pub record AreLevels (v : Waits) (levels : Levels) : Type 0 where
  pub rest : (c : ℕ) → ¬ Has (members levels) c → HasNoneOf v c

abbrev pub levels_at : List Levels → ℕ → Levels
levels_at ls q = slice_index_or ls q no_levels

pub record HaveLevels (qs : List Waits) (ls : List Levels) : Type 0 where
  pub count : length ls ≡ length qs
  pub each : (q : ℕ) → q < length qs → AreLevels (waits_at qs q) (levels_at ls q)
