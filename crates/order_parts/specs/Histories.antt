-- The unanswered events of all lanes, and the lanes that have room.
use Rattle.std.specs.Prelude.{ℕ, ◌≡◌, ◌<◌, ◌↔◌, List, [], length, slice_index_or, All}
use Rattle.evt_types.specs.Plan.{Plan, depth_of}
use Rattle.order_parts.specs.History.{Entries, entries_of}
use Rattle.small_set.specs.SmallSets.{Has}
use Rattle.small_set.specs.declared.set.SmallSet.{SmallSet}

-- the history of a lane
abbrev pub lane_in : List Entries → ℕ → Entries
lane_in ls l = slice_index_or ls l (entries_of [] 0)

-- the lane has room for one event more
abbrev pub HasRoom : List Entries → ℕ → Type 0
HasRoom ls l = length (lane_in ls l).entries < (lane_in ls l).capacity

-- of the first lanes, as many as a set has places, these have room
abbrev pub AreRoomy : List Entries → SmallSet → Type 0
AreRoomy ls roomy = (l : ℕ) → l < length ls → l < 64 → Has roomy l ↔ HasRoom ls l

-- ---- new ones

abbrev pub IsEmptyLane : ℕ → Entries → Type 0
IsEmptyLane depth l = l ≡ entries_of [] depth

-- each lane has room for just what its holder may hold
abbrev pub HaveRoom : Plan → List Entries → Type 0
HaveRoom p ls = (k : ℕ) (d : Entries) → k < length ls → (slice_index_or ls k d).capacity ≡ depth_of p k

abbrev pub IsBare : Entries → Type 0
IsBare l = l.entries ≡ []

-- the first lanes of a device, with nothing unanswered
pub record AreEmptyLanes (p : Plan) (n : ℕ) (ls : List Entries) : Type 0 where
  pub count : length ls ≡ n
  pub room : HaveRoom p ls
  pub empty : All IsBare ls
