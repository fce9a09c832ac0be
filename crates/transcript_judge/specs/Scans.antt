-- What stands in the way of a step, among what is held.
use Rattle.std.specs.Prelude.{ℕ, ◌≡◌, ◌≢◌, ◌<◌, false, ◌&&◌, ◌==◌, List, [], ◌∷◌, All, Option, Some, None, slice_get, if◌then◌else◌}
use Rattle.evt_types.specs.Place.{Place}
use Rattle.evt_types.specs.Plan.{Plan}
use Rattle.evt_types.specs.declared.event.Event.{Event}
use Rattle.evt_types.specs.declared.event.KeptEvent.{KeptEvent}
use Rattle.evt_types.specs.declared.event.Numbered.{Numbered}
use Rattle.evt_types.specs.declared.step.Step.{Step}
use Rattle.transcripts.specs.Lawful.{keeps_order}
use Rattle.transcripts.specs.Transcript.{Held}
use Rattle.transcript_judge.specs.Ledger.{row}

-- none of these events, of a lower number, keeps its order with the event
abbrev pub LetsPass : Plan → ℕ → List Numbered → ℕ → Event → Type 0
LetsPass p q ws n e = All (λ (v : Numbered). v.number < n → keeps_order p q v.event e ≡ false) ws

-- nothing of the slot of the queue is held
abbrev pub AreOtherSlots : ℕ → ℕ → List Held → Type 0
AreOtherSlots q slot held = All (λ (y : Held). y.queue ≡ q → y.slot ≢ slot) held

-- no lane but l holds any
abbrev pub LeavesSlot : List (List Held) → ℕ → ℕ → ℕ → Type 0
LeavesSlot lists l q slot = (m : ℕ) → m ≢ l → AreOtherSlots q slot (row lists m)

-- the first event that is due from the number, the first that an open number keeps
abbrev pub kept_in_due : List KeptEvent → ℕ → ℕ → Option Event
kept_in_due [] q n = None
kept_in_due (k ∷ ks) q n = if (k.queue == q) && (k.number == n) then Some k.event else kept_in_due ks q n

abbrev pub kept_in_spots : List Place → ℕ → Option Event
kept_in_spots [] n = None
kept_in_spots (x ∷ xs) n = if x.number == n then slice_get x.forwards 0 else kept_in_spots xs n

abbrev pub or_else : Option Event → Option Event → Option Event
or_else None o = o
or_else (Some e) o = Some e

-- the step is the first of these, or isn't
abbrev pub IsNext : List Step → Step → Type 0
IsNext steps s = (rest : List Step) × (steps ≡ s ∷ rest)

abbrev pub IsOther : List Step → Step → Type 0
IsOther steps s = ¬ IsNext steps s
