-- What lies at a pointer after a call.
use seplogic.Ra.Ura.{Ura}
use base.Logic.{SProp, ex, sep}
use contract.Monad.{fact}
use types.Logic.{Logic, sem}
use denote.RattleType.{RattleType}
use denote.RawPtr.{Ptr}
use Rattle.std.specs.Ptr.{points_to}

-- a value of which this holds
abbrev pub changes : {M : Type 1} {𝓤 : Ura M} (𝓛 : Logic 𝓤) (R : RattleType) → Ptr → (R.Denot → Type 0) → SProp 𝓤
changes {𝓤 = 𝓤} 𝓛 R p Holds = ex 𝓤 (λ (new : R.Denot). sep 𝓤 (sem 𝓛 (points_to R p new)) (fact 𝓤 (Holds new)))
