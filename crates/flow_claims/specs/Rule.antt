-- The rule of the claim words, which holds between any two steps of any seats.
-- A lane's word is 256 k where it is free after k stints, 256 k + p + 1 while port p has stint k, and 256 k + 255 where it was
-- surrendered or closed after k stints.
use Rattle.std.specs.Prelude.{◌≡◌, ℕ, ◌+◌, ◌*◌, ◌/◌, ◌%◌, ◌<◌, ◌⊎◌, ◌==◌, cond, true, List, [], Option, length, slice_get, slice_index, All, sum_by}
use Rattle.std.specs.Prelude.Option.{Some}
use mathlib.Core.Option as O
use lib.ListN.{get_elem?}
use Rattle.atomic_table.specs.Table.{State}
use Rattle.lane_rings.specs.Ends.{unanswered}
use Rattle.lane_rings.specs.declared.far.Far.{Far}
use Rattle.lists.specs.Counts.{count}
use Rattle.flow_claims.specs.declared.seating.Begun.{Begun}
use Rattle.flow_claims.specs.declared.seating.Past.{Past}
use Rattle.flow_claims.specs.declared.seating.Seating.{Seating}
use Rattle.flow_claims.specs.Lists.{lists_of, no_lists, IsOf}
use Rattle.flow_claims.specs.Stints.{last_end, IsDone, IsRecordFrom, IsFinal, at_lane, times, gives_up, below}

-- the words, the slots and all views
abbrev pub Board : Type 0
Board = State (Option Far) Seating

-- a lane's slot, where there is one: with what it holds while it is at home, and else out with a seat
abbrev pub Home : Type 0
Home = O.Option (O.Option (Option Far))

abbrev pub word_at : Board → ℕ → ℕ
word_at s lane = slice_index s.words lane

abbrev pub home_at : Board → ℕ → Home
home_at s lane = get_elem? s.homes lane

-- 1 where a port has the lane with this word
abbrev pub busy : ℕ → ℕ
busy word = cond (word % 256 == 0) 0 (cond (word % 256 == 255) 0 1)

-- how many of these are stints of the lane
abbrev pub opens : ℕ → List Begun → ℕ
opens lane bs = sum_by (λ b. count (b.lane == lane)) bs

-- 1 where the lane was closed through the seat
abbrev pub closed_by : ℕ → Seating → ℕ
closed_by lane v = below lane v.closed

-- the lane's end is at home, and its lists are those with which the last stint of its record ended
abbrev pub IsHome : List Far → ℕ → Home → List Past → Far → Type 0
IsHome lanes lane home past far = (home ≡ O.some (O.some (Some far))) × IsOf lanes lane far × (lists_of far ≡ last_end no_lists past)

-- a lane, with its word, its slot, how many seats closed it, and its record
pub record IsLane (lanes : List Far) (lane word : ℕ) (home : Home) (closers : ℕ) (past : List Past) : Type 0 where
  pub recorded : IsRecordFrom lane 0 no_lists past
  pub counted : length past ≡ word / 256
  pub done : All IsDone past
  -- a surrendered lane stays so, and so does a closed one
  pub final : IsFinal past
  pub surrendered : All (λ p. p.surrendered ≡ true → word % 256 ≡ 255) past
  pub closed : 0 < closers → word % 256 ≡ 255
  pub free : word % 256 ≡ 0 → (far : Far) × IsHome lanes lane home past far × (unanswered far ≡ [])
  -- no other lane is over: a seat closed it, or its end is at home and a stint of its record surrendered it
  pub over : word % 256 ≡ 255 → (0 < closers) ⊎ ((far : Far) × IsHome lanes lane home past far × (0 < sum_by gives_up past))

-- an open stint of a lane with this word, slot and record: it has the record's next number, and begins as the record ends
pub record IsHeld (word : ℕ) (home : Home) (past : List Past) (b : Begun) : Type 0 where
  pub of_port : b.port < 254
  pub claimed : word ≡ 256 * b.number + b.port + 1
  pub start : b.start ≡ last_end no_lists past
  pub away : home ≡ O.some O.none

-- a seat without parts has no stint and closed no lane
pub record IsSpent (v : Seating) : Type 0 where
  pub held : v.held ≡ []
  pub finished : v.finished ≡ []
  pub closed : v.closed ≡ 0

-- a seat; `past` gives the record of each lane
pub record IsSeat (lanes : List Far) (words : List ℕ) (homes : List (O.Option (Option Far))) (past : ℕ → List Past) (v : Seating) : Type 0 where
  pub idle : v.parts ≡ 0 → IsSpent v
  pub same_lanes : 0 < v.parts → v.lanes ≡ lanes
  pub held : All (λ b. (b.lane < length lanes) × IsHeld (slice_index words b.lane) (get_elem? homes b.lane) (past b.lane) b) v.held
  pub kept : All (λ p. (p.lane < length lanes) × (slice_get (past p.lane) p.number ≡ Some p)) v.finished

pub record Claimed (lanes : List Far) (s : Board) : Type 0 where
  -- there is one word more than lanes
  pub wide : length s.words ≡ length lanes + 1
  pub deep : length s.homes ≡ length lanes
  -- the record of each lane
  pub past : ℕ → List Past
  pub each_lane : (lane : ℕ) → lane < length lanes → IsLane lanes lane (word_at s lane) (home_at s lane) (sum_by (closed_by lane) s.views) (past lane)
  pub each_seat : All (IsSeat lanes s.words s.homes past) s.views
  pub parts : sum_by (λ v. v.parts) s.views ≡ 64
  -- a lane is held by the one port of its word, or by none
  pub one_holder : (lane : ℕ) → lane < length lanes → sum_by (λ v. opens lane v.held) s.views ≡ busy (word_at s lane)
  -- each number below k stands among the finished stints of all seats once, and these are the record, however they are weighed
  pub once : (lane number : ℕ) → lane < length lanes → sum_by (λ v. times lane number v.finished) s.views ≡ below number (word_at s lane / 256)
  pub weighed : (lane : ℕ) (f : Past → ℕ) → lane < length lanes → sum_by (λ v. sum_by (at_lane lane f) v.finished) s.views ≡ sum_by f (past lane)
