-- Finished stints, and the record that those of a lane make.
use Rattle.std.specs.Prelude.{◌≡◌, ℕ, ◌+◌, ◌<◌, cond, nat_lt, ◌==◌, List, [], ◌∷◌, length, drop, true, false, flat_map, All, sum_by}
use Rattle.evt_types.specs.declared.event.Delivery.{Delivery}
use Rattle.evt_types.specs.declared.event.Reply.{Reply}
use Rattle.lane_rings.specs.Ends.{answers_among}
use Rattle.lists.specs.Counts.{count}
use Rattle.flow_claims.specs.declared.seating.LaneLists.{LaneLists}
use Rattle.flow_claims.specs.declared.seating.Past.{Past}
use Rattle.flow_claims.specs.Lists.{GoesOn}

-- what was received and answered in a stint
abbrev pub received_in : Past → List Delivery
received_in p = drop (length p.start.received) p.end.received

abbrev pub answered_in : Past → List Reply
answered_in p = drop (length p.start.answered) p.end.answered

-- the same of several stints, one after the other
abbrev pub received_in_all : List Past → List Delivery
received_in_all ps = flat_map received_in ps

abbrev pub answered_in_all : List Past → List Reply
answered_in_all ps = flat_map answered_in ps

-- what is unanswered of a lane with these lists
abbrev pub left_in : LaneLists → List Delivery
left_in lists = drop (answers_among lists.answered) lists.received

-- A finished stint is that of a port, and where it gave its lane back, nothing was left unanswered.
pub record IsDone (p : Past) : Type 0 where
  pub of_port : p.port < 254
  pub given_back : p.surrendered ≡ false → left_in p.end ≡ []

-- the lists with which the last of these stints ended, and the given ones where there is none
abbrev pub last_end : LaneLists → List Past → LaneLists
last_end lists [] = lists
last_end lists (p ∷ ps) = last_end p.end ps

-- These are stints of the lane, numbered from the given number on without a gap.
-- The first begins with the given lists, and each later one with those with which the one before it ended.
abbrev pub IsRecordFrom : ℕ → ℕ → LaneLists → List Past → Type 0
IsRecordFrom lane number lists [] = Unit {0}
IsRecordFrom lane number lists (p ∷ ps) =
    (p.lane ≡ lane) × (p.number ≡ number) × (p.start ≡ lists) × GoesOn p.start p.end × IsRecordFrom lane (number + 1) p.end ps

-- no stint of the record came after one by which the lane was surrendered
abbrev pub IsFinal : List Past → Type 0
IsFinal past = All (λ p. p.surrendered ≡ true → p.number + 1 ≡ length past) past

-- the weight of a stint of the lane, and 0 of any other
abbrev pub at_lane : ℕ → (Past → ℕ) → Past → ℕ
at_lane lane f p = cond (p.lane == lane) (f p) 0

-- how often the stint of that lane and number is among these
abbrev pub times : ℕ → ℕ → List Past → ℕ
times lane number ps = sum_by (at_lane lane (λ p. count (p.number == number))) ps

-- how many of these are stints of the lane
abbrev pub stints_of : ℕ → List Past → ℕ
stints_of lane ps = sum_by (at_lane lane (λ p. 1)) ps

-- 1 of a stint by which its lane was surrendered
abbrev pub gives_up : Past → ℕ
gives_up p = count p.surrendered

-- how many of these are stints by which the lane was surrendered
abbrev pub surrenders : ℕ → List Past → ℕ
surrenders lane ps = sum_by (at_lane lane gives_up) ps

-- 1 of a number below n, and 0 of any other
abbrev pub below : ℕ → ℕ → ℕ
below number n = count (nat_lt number n)
