-- What the laws say of a board: the words, slots and views as they are between two steps of any seats.
use Rattle.std.specs.Prelude.{◌≡◌, ◌≢◌, ℕ, ◌+◌, ◌*◌, ◌/◌, ◌%◌, ◌<◌, ◌≤◌, ◌⊎◌, true, List, [], ◌++◌, length, map, replicate, slice_set, All, Contains, sum_by}
use Rattle.std.specs.Prelude.Option.{Some, None}
use mathlib.Core.Option as O
use lib.ListN.{get_elem?}
use Rattle.atomic_table.specs.Table.{opening}
use Rattle.lane_rings.specs.Ends.{received_by, answered}
use Rattle.lane_rings.specs.declared.far.Far.{Far}
use Rattle.flow_claims.specs.declared.seating.Begun.{Begun}
use Rattle.flow_claims.specs.declared.seating.Past.{Past}
use Rattle.flow_claims.specs.declared.seating.Seating.{Seating}
use Rattle.flow_claims.specs.Lists.{IsOf}
use Rattle.flow_claims.specs.Stints.{times}
use Rattle.flow_claims.specs.Seats.{stint_at, first_seating}
use Rattle.flow_claims.specs.Rule.{Board, Claimed, word_at, home_at}
use Rattle.flow_claims.specs.Steps.{Sitting, WordStep, Probes, Begins, Fronts, Finishes, Closes}

-- the board with which claims over these lanes begin: a word 0 for each lane and one more, all ends at home, and the first seat
abbrev pub first_board : List Far → Board
first_board lanes = opening (replicate (length lanes + 1) 0) (map Some lanes) (first_seating lanes)

-- nothing was received or answered at the end
abbrev pub IsUnused : Far → Type 0
IsUnused far = (received_by far ≡ []) × (answered far ≡ [])

-- the seat of that number knows this
abbrev pub Sits : Board → ℕ → Seating → Type 0
Sits s seat v = get_elem? s.views seat ≡ O.some v

-- the parts of all seats
abbrev pub parts_in : Board → ℕ
parts_in s = sum_by (λ v. v.parts) s.views

-- the lane's end is at home
abbrev pub IsAtHome : List Far → Board → ℕ → Far → Type 0
IsAtHome lanes s lane far = (home_at s lane ≡ O.some (O.some (Some far))) × IsOf lanes lane far

-- the lane's end is away, and the lane's word names the stint and its port
pub record IsAway (s : Board) (lane : ℕ) (b : Begun) : Type 0 where
  pub of_port : b.port < 254
  pub word : word_at s lane ≡ 256 * b.number + b.port + 1
  pub away : home_at s lane ≡ O.some O.none

-- one seat has an open stint of the lane, and no other seat has one
pub record IsHeldByOne (s : Board) (lane : ℕ) : Type 0 where
  pub seat : ℕ
  pub view : Seating
  pub begun : Begun
  pub sits : Sits s seat view
  pub holds : stint_at view lane ≡ Some begun
  pub others : (j : ℕ) (w : Seating) → j ≢ seat → Sits s j w → stint_at w lane ≡ None

-- the finished stint of that lane and number is in one seat's list, once, and in no other seat's
pub record IsInOneList (s : Board) (lane number : ℕ) : Type 0 where
  pub seat : ℕ
  pub view : Seating
  pub sits : Sits s seat view
  pub once : times lane number view.finished ≡ 1
  pub others : (j : ℕ) (w : Seating) → j ≢ seat → Sits s j w → times lane number w.finished ≡ 0

-- why a lane is over: a seat closed it, or a finished stint of some seat surrendered it and its end is at home
pub record WasSurrendered (lanes : List Far) (s : Board) (lane : ℕ) : Type 0 where
  pub far : Far
  pub at_home : IsAtHome lanes s lane far
  pub seat : ℕ
  pub view : Seating
  pub sits : Sits s seat view
  pub stint : Past
  pub finished : Contains view.finished stint
  pub of_lane : stint.lane ≡ lane
  pub surrendered : stint.surrendered ≡ true

abbrev pub WasClosed : Board → ℕ → Type 0
WasClosed s lane = (seat : ℕ) × (v : Seating) × Sits s seat v × (lane < v.closed)

-- what a step makes of a seat and its slots, by its kind: each but a split and a join, which step on no lane's word
abbrev pub IsKind : WordStep → Sitting → ℕ → Sitting → Type 0
IsKind st m word n = Probes st m word n ⊎ (Begins st m word n ⊎ (Fronts st m word n ⊎ (Finishes st m word n ⊎ Closes st m word n)))

-- One step of the seat leads from s to t: what it knows changes by the kind of step, and what the others know stays.
pub record IsStep (lanes : List Far) (seat : ℕ) (s t : Board) : Type 0 where
  pub before : Claimed lanes s
  pub after : Claimed lanes t
  pub step : WordStep
  pub m : Sitting
  pub n : Sitting
  pub sits : Sits s seat m.0
  pub kind : IsKind step m (word_at s step.word) n
  pub views : t.views ≡ slice_set s.views seat n.0

-- these stints were open in what the seat knew
abbrev pub WereOpen : Seating → List Past → Type 0
WereOpen v ps = All (λ p. (b : Begun) × (stint_at v p.lane ≡ Some b) × (p.number ≡ b.number) × (p.port ≡ b.port)) ps

-- What a step of the seat may change of the lanes and of what all seats know.
pub record MayChange (lanes : List Far) (seat : ℕ) (s t : Board) : Type 0 where
  -- no other seat knows more or less
  pub others : (j : ℕ) → j ≢ seat → get_elem? t.views j ≡ get_elem? s.views j
  -- the seat keeps its finished stints, and more are only those that were open in it
  pub kept : (v w : Seating) → Sits s seat v → Sits t seat w → (more : List Past) × (w.finished ≡ v.finished ++ more) × WereOpen v more
  -- no stint of a lane is taken back, and the seat that has it open finishes it
  pub counted : (lane : ℕ) → lane < length lanes → word_at s lane / 256 ≤ word_at t lane / 256
  pub ended : (lane : ℕ) → lane < length lanes → word_at s lane / 256 < word_at t lane / 256 → (v : Seating) × (b : Begun) × Sits s seat v × (stint_at v lane ≡ Some b)
  -- the word of a lane that another seat holds stays, and that of a lane that is over
  pub held : (j lane : ℕ) (v : Seating) (b : Begun) → j ≢ seat → Sits s j v → stint_at v lane ≡ Some b → word_at t lane ≡ word_at s lane
  pub over : (lane : ℕ) → lane < length lanes → word_at s lane % 256 ≡ 255 → word_at t lane ≡ word_at s lane

-- all seats together have the same stints and parts
pub record SameInAll (before after : List Seating) : Type 0 where
  pub parts : sum_by (λ v. v.parts) after ≡ sum_by (λ v. v.parts) before
  pub held : (f : Begun → ℕ) → sum_by (λ v. sum_by f v.held) after ≡ sum_by (λ v. sum_by f v.held) before
  pub finished : (f : Past → ℕ) → sum_by (λ v. sum_by f v.finished) after ≡ sum_by (λ v. sum_by f v.finished) before
