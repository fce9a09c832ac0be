-- What waits in a queue, and under which keys what keeps an order stands beside it.
use Rattle.std.specs.Prelude.{ℕ, ◌≡◌, ◌+◌, ◌*◌, ◌^◌, ◌<◌, ◌≤◌, Bool, true, false, not, ◌&&◌, if◌then◌else◌, ◌==◌, List, [], ◌∷◌, ◌++◌, map, filter, All, AllPairs, Option, Some, None}
use Rattle.std.specs.BTreeMap.{BTreeMap}
use Rattle.std.specs.BTreeSet.{BTreeSet, contains}
use Rattle.std.specs.List.{list_any}
use Rattle.std.specs.Ordering.{nat_cmp}
use Rattle.evt_types.specs.Plan.{Plan, is_atomic, is_ordered, level_of}
use Rattle.evt_types.specs.declared.draft.QueueDraft.{QueueDraft}
use Rattle.evt_types.specs.declared.event.Event.{Event}
use Rattle.evt_types.specs.declared.event.Kind.{Kind}
use Rattle.evt_types.specs.declared.event.Kind.TheVariants.{Ordered, Atomic, Parallel}
use Rattle.evt_types.specs.declared.event.Numbered.{Numbered}
use Rattle.transcripts.specs.Standing.{kept_under}

-- what waits in a queue of this kind, by rising number, and the number of its next event
pub record Waits : Type 0 where
  pub kind : Kind
  pub next : ℕ
  pub events : List Numbered

abbrev pub no_waits : Kind → Waits
no_waits kind = record { kind = kind; next = 0; events = [] }

abbrev pub with_event : Waits → Event → Waits
with_event w e = record w { next = w.next + 1; events = w.events ++ record { number = w.next; event = e } ∷ [] }

abbrev pub without : Waits → ℕ → Waits
without w n = record w { events = filter (λ (v : Numbered). not (v.number == n)) w.events }

-- no number stands before a lower one or before itself
abbrev pub Rise : List Numbered → Type 0
Rise ws = AllPairs (λ (v w : Numbered). v.number < w.number) ws

-- an ordered queue's events keep their order with those of their level, an atomic queue's with those of their level and flow
abbrev pub class_of : Kind → Event → Option ℕ
class_of Ordered e = Some (level_of e)
class_of Atomic e = Some (level_of e * 2 ^ 20 + e.flow)
class_of Parallel e = None

-- whether two events of a queue of the kind keep their order
abbrev pub keeps_by : Kind → Event → Event → Bool
keeps_by kind d e = if level_of d == level_of e then (if is_ordered kind then true else is_atomic kind && (d.flow == e.flow)) else false

-- no event of a lower number keeps its order with the event
abbrev pub KeepsApart : Waits → ℕ → Event → Type 0
KeepsApart w n e = All (λ (v : Numbered). v.number < n → keeps_by w.kind v.event e ≡ false) w.events

-- keys stand by class, and then by number
abbrev pub key_in : ℕ → ℕ → ℕ
key_in c n = c * 2 ^ 64 + n

abbrev pub keyed : ℕ → Option ℕ → Option ℕ
keyed n None = None
keyed n (Some c) = Some (key_in c n)

abbrev pub key_of : Kind → Numbered → Option ℕ
key_of kind w = keyed w.number (class_of kind w.event)

abbrev pub is_key : Option ℕ → ℕ → Bool
is_key None k = false
is_key (Some j) k = j == k

-- the set has the keys of the events
abbrev pub AreKeys : Kind → List Numbered → BTreeSet ℕ → Type 0
AreKeys kind ws s = (k : ℕ) → contains nat_cmp s k ≡ list_any (λ (w : Numbered). is_key (key_of kind w) k) ws

abbrev pub listed : BTreeMap ℕ Event → List Numbered
listed m = map kept_under m.entries

-- the events by number, the keys of those that keep an order, and the next number
pub record AreHeld (kind : Kind) (next : ℕ) (m : BTreeMap ℕ Event) (s : BTreeSet ℕ) : Type 0 where
  pub rise : Rise (listed m)
  pub below : All (λ (w : Numbered). w.number < next) (listed m)
  pub few : next ≤ 2 ^ 63
  pub keys : AreKeys kind (listed m) s

-- what waits in each queue, its next number and its kind
abbrev pub events_in : List Waits → List (List Numbered)
events_in ws = map (λ (w : Waits). w.events) ws

abbrev pub nexts_in : List Waits → List ℕ
nexts_in ws = map (λ (w : Waits). w.next) ws

abbrev pub kinds_in : List Waits → List Kind
kinds_in ws = map (λ (w : Waits). w.kind) ws

-- the kind of each queue
abbrev pub kinds_of : Plan → List Kind
kinds_of p = map (λ (d : QueueDraft). d.kind) p.queues
