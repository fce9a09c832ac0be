-- Chains of nodes. `at` is what the store has at each number of a node, and `size` how many nodes it has.
use Rattle.std.specs.Prelude.{ℕ, ◌≡◌, ◌≢◌, ◌+◌, ◌==◌, ◌<◌, zero, suc, List, [], ◌∷◌, ◌++◌, All, length, slice_get, slice_index_or, Option, Some, None, IsSome, if◌then◌else◌}
use Rattle.evt_types.specs.declared.event.Numbered.{Numbered}
use Rattle.parked_queue.specs.declared.chain.Chain.{Chain}
use Rattle.parked_queue.specs.declared.chain.Node.{Node}

-- ---- what stands at the nodes

abbrev pub next_of : Option Node → ℕ
next_of None = 0
next_of (Some n) = n.next

abbrev pub item_then : Option Node → List Numbered → List Numbered
item_then None ws = ws
item_then (Some n) ws = n.item ∷ ws

-- the nodes from i on, up to the last one, which isn't among them; no more than so many
abbrev pub path : (ℕ → Option Node) → ℕ → ℕ → ℕ → List ℕ
path at last zero i = []
path at last (suc n) i = if i == last then [] else i ∷ path at last n (next_of (at i))

-- so many nodes, from i on
abbrev pub row : (ℕ → Option Node) → ℕ → ℕ → List ℕ
row at i zero = []
row at i (suc n) = i ∷ row at (next_of (at i)) n

-- the events at the nodes
abbrev pub items : (ℕ → Option Node) → List ℕ → List Numbered
items at [] = []
items at (i ∷ is) = item_then (at i) (items at is)

-- ---- nodes

-- none of them is the node
abbrev pub IsFresh : ℕ → List ℕ → Type 0
IsFresh j [] = Unit {0}
IsFresh j (i ∷ is) = (i ≢ j) × IsFresh j is

-- each has a node that belongs to the owner k, and no two are the same
abbrev pub AreNodes : (ℕ → Option Node) → (ℕ → ℕ) → ℕ → List ℕ → Type 0
AreNodes at owner k [] = Unit {0}
AreNodes at owner k (i ∷ is) = IsSome (at i) × (owner i ≡ k) × IsFresh i is × AreNodes at owner k is

-- they lead from i to the last one, which isn't among them
abbrev pub IsPath : (ℕ → Option Node) → ℕ → ℕ → List ℕ → Type 0
IsPath at last i [] = i ≡ last
IsPath at last i (j ∷ is) = (j ≡ i) × (i ≢ last) × IsPath at last (next_of (at i)) is

-- ---- chains

-- the nodes of what waits, and with the spare one
abbrev pub path_of : (ℕ → Option Node) → ℕ → Chain → List ℕ
path_of at size c = path at c.spare size c.first

abbrev pub nodes_of : (ℕ → Option Node) → ℕ → Chain → List ℕ
nodes_of at size c = path_of at size c ++ c.spare ∷ []

abbrev pub events_of : (ℕ → Option Node) → ℕ → Chain → List Numbered
events_of at size c = items at (path_of at size c)

-- the nodes of the owner k lead from the first one to the spare one
pub record IsChain (at : ℕ → Option Node) (owner : ℕ → ℕ) (k size : ℕ) (c : Chain) : Type 0 where
  pub leads : IsPath at c.spare c.first (path_of at size c)
  pub nodes : AreNodes at owner k (nodes_of at size c)

pub record HasChain (at : ℕ → Option Node) (size : ℕ) (c : Chain) : Type 0 where
  pub owner : ℕ → ℕ
  pub k : ℕ
  pub is : IsChain at owner k size c

-- the event of the number is at the node behind the node i
pub record IsBehind (at : ℕ → Option Node) (size : ℕ) (c : Chain) (n i : ℕ) : Type 0 where
  pub front : List ℕ
  pub rest : List ℕ
  pub whole : path_of at size c ≡ front ++ i ∷ next_of (at i) ∷ rest
  pub node : Node
  pub found : at (next_of (at i)) ≡ Some node
  pub number : node.item.number ≡ n

-- no event has the number
abbrev pub HasNone : (ℕ → Option Node) → ℕ → Chain → ℕ → Type 0
HasNone at size c n = All (λ (w : Numbered). w.number ≢ n) (events_of at size c)

-- ---- new ones

-- each node leads to the one behind it
pub record AreInRow (ns : List Node) (n : ℕ) : Type 0 where
  pub count : length ns ≡ n
  pub each : (i : ℕ) → i < n → next_of (slice_get ns i) ≡ i + 1

abbrev pub no_chain : Chain
no_chain = record { first = 0; spare = 0 }

abbrev pub chain_at : List Chain → ℕ → Chain
chain_at cs k = slice_index_or cs k no_chain

-- each chain has the node of its own number alone
pub record AreNewChains (cs : List Chain) (n : ℕ) : Type 0 where
  pub count : length cs ≡ n
  pub each : (k : ℕ) → k < n → chain_at cs k ≡ record { first = k; spare = k }

-- ---- changes of the nodes

-- the node is another one, and nothing else has changed
pub record IsFilled (old new : List Node) (i : ℕ) (n : Node) : Type 0 where
  pub filled : slice_get new i ≡ Some n
  pub others : (j : ℕ) → j ≢ i → slice_get new j ≡ slice_get old j

-- the node leads to the next one, and nothing else has changed
pub record IsLinked (old new : List Node) (i next : ℕ) : Type 0 where
  pub linked : (n : Node) → slice_get old i ≡ Some n → slice_get new i ≡ Some (record n { next = next })
  pub others : (j : ℕ) → j ≢ i → slice_get new j ≡ slice_get old j
