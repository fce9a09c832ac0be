-- How the lists stand in one store of nodes. `at` is what it has at each number of a node, and `size` how many nodes it has.
use Rattle.std.specs.Prelude.{ℕ, suc, ◌≡◌, ◌+◌, ◌-◌, ◌<◌, ◌≤◌, List, length, map, slice_set, Option}
use Rattle.evt_types.specs.declared.event.Numbered.{Numbered}
use Rattle.parked_queue.specs.Chains.{AreNodes, IsChain, chain_at, events_of, row}
use Rattle.parked_queue.specs.Lists.{Lists, total_of, with_row}
use Rattle.parked_queue.specs.declared.chain.Chain.{Chain}
use Rattle.parked_queue.specs.declared.chain.Node.{Node}

abbrev pub lists_in : (ℕ → Option Node) → ℕ → List Chain → ℕ → Lists
lists_in at size cs room = record { room = room; lists = map (events_of at size) cs }

-- each chain has nodes of its own, those of the list k as the owner k + 1; and so many nodes are free, from this one on, the owner 0's
pub record AreChains (at : ℕ → Option Node) (size n free : ℕ) (cs : List Chain) : Type 0 where
  pub owner : ℕ → ℕ
  pub each : (k : ℕ) → k < length cs → IsChain at owner (suc k) size (chain_at cs k)
  pub unused : AreNodes at owner 0 (row at free n)

-- one node more is free than there is room for events, and there are more nodes than events that may wait
pub record IsStore (at : ℕ → Option Node) (size free : ℕ) (cs : List Chain) (room : ℕ) : Type 0 where
  pub within : total_of (lists_in at size cs room) ≤ room
  pub chains : AreChains at size (suc (room - total_of (lists_in at size cs room))) free cs
  pub spacious : room < size

-- The chain is that of a list of the store, in which there is room for so many events more.
pub record IsOfStore (at : ℕ → Option Node) (size free : ℕ) (c : Chain) (n : ℕ) (cs : List Chain) (room k : ℕ) : Type 0 where
  pub there : k < length cs
  pub is : c ≡ chain_at cs k
  pub store : IsStore at size free cs room
  pub fits : total_of (lists_in at size cs room) + n ≤ room

pub record HasStore (at : ℕ → Option Node) (size free : ℕ) (c : Chain) (n : ℕ) : Type 0 where
  pub chains : List Chain
  pub room : ℕ
  pub list : ℕ
  pub is : IsOfStore at size free c n chains room list

-- with this chain in its place, and this node as the first free one, it is a store in which these events came to the list's end
pub record HasCome (old new : ℕ → Option Node) (size free : ℕ) (c : Chain) (ws : List Numbered) (cs : List Chain) (room k : ℕ) : Type 0 where
  pub store : IsStore new size free (slice_set cs k c) room
  pub view : lists_in new size (slice_set cs k c) room ≡ with_row (lists_in old size cs room) k ws
