-- A ring of entries: which places they take, and how its numbers fit together.
use Rattle.std.specs.Prelude.{◌≡◌, ◌+◌, ◌<◌, ◌≤◌, List, length}
use Rattle.std.specs.Int.{IsPowerOfTwo}
use Rattle.lists.specs.Windows.{window}
use Rattle.order_parts.specs.declared.history.Entry.{Entry}
use Rattle.order_parts.specs.declared.history.History.TheInside.{Inside}

-- the entries of a history, oldest first
abbrev pub held : Inside → List Entry
held a = window a.first a.len a.ring.items

-- the ring has room for all entries, and its mask is one less than a power of two
pub record IsRing (a : Inside) : Type 0 where
  pub power : IsPowerOfTwo (length a.ring.items)
  pub mask : a.mask + 1 ≡ length a.ring.items
  pub first : a.first < length a.ring.items
  pub few : a.len ≤ a.capacity
  pub room : a.capacity ≤ length a.ring.items
