-- What is known of some lanes' events while more are dealt among them.
use Rattle.std.specs.Prelude.{ℕ, ◌≡◌, ◌≤◌, ◌⊎◌, IsTrue}
use Rattle.order_parts.specs.Pins.{Pin, may_pin}
use Rattle.order_parts.specs.declared.dealing.Holder.{Holder}
use Rattle.order_parts.specs.declared.dealing.Holder.TheVariants.{Is, Away, Free}
use Rattle.order_parts.specs.declared.round.Round.{Round}
use Rattle.small_set.specs.SmallSets.{Has}
use Rattle.small_set.specs.declared.set.SmallSet.{SmallSet}

-- none of these lanes has fewer events than so many, and those that have just as many are left
abbrev pub IsRound : Round → (ℕ → ℕ) → SmallSet → Type 0
IsRound r load lanes = (m : ℕ) → Has lanes m → (r.fewest ≤ load m) × (load m ≡ r.fewest → Has r.left m)

-- the same, but for this lane, which need not be left
abbrev pub IsRoundBut : ℕ → Round → (ℕ → ℕ) → SmallSet → Type 0
IsRoundBut l r load lanes = (m : ℕ) → Has lanes m → (r.fewest ≤ load m) × (load m ≡ r.fewest → Has r.left m ⊎ (m ≡ l))

-- who may have a slot with this pin, of these lanes: this one alone, none, or any
abbrev pub IsHolder : Pin → SmallSet → Holder → Type 0
IsHolder x lanes (Is l) = Has lanes l × IsTrue (may_pin x l) × ((m : ℕ) → IsTrue (may_pin x m) → m ≡ l)
IsHolder x lanes Away = (m : ℕ) → Has lanes m → ¬ IsTrue (may_pin x m)
IsHolder x lanes Free = (m : ℕ) → IsTrue (may_pin x m)
