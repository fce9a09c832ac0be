-- The same as it is read step by step.
use Rattle.std.specs.Prelude.{ℕ, ◌≡◌, ◌+◌, List, [], ◌∷◌, ◌++◌, length, replicate, slice_set, slice_index, Option, Some, None}
use Rattle.evt_types.specs.declared.step.Step.{Step}
use Rattle.evt_types.specs.declared.step.Step.TheVariants.{Accept, Give, Done, More, Turned, Bounced, Shut}
use Rattle.timelines.specs.Links.{begins, closed_by, origin_by, place_by, row, rows}
use Rattle.timelines.specs.declared.links.Links.{Links}
use Rattle.timelines.specs.declared.links.Spot.{Spot}

abbrev pub begin_more : ℕ → Option ℕ → List (List ℕ) → List (List ℕ)
begin_more now None lists = lists
begin_more now (Some r) lists = slice_set lists r (row lists r ++ now ∷ [])

abbrev pub close_at : ℕ → Option ℕ → List ℕ → List ℕ
close_at now None us = us
close_at now (Some i) us = slice_set us i now

abbrev pub answer_more : Step → List ℕ → List ℕ
answer_more (Accept q e s) counts = counts
answer_more (Give l q n) counts = counts
answer_more (Done l o) counts = slice_set counts l (slice_index counts l + 1)
answer_more (More l e) counts = counts
answer_more (Turned l e) counts = counts
answer_more (Bounced l) counts = counts
answer_more Shut counts = counts

-- one step more
abbrev pub origin_in : ℕ → Links → Step → Option ℕ
origin_in qs a s = origin_by qs (row (rows a.begun.items)) (slice_index a.answered.items) s

abbrev pub spot_in : ℕ → Links → Step → Spot
spot_in qs a s = record { place = place_by (row (rows a.begun.items)) (begins qs s); origin = origin_in qs a s }

pub record IsNext (qs : ℕ) (s : Step) (a b : Links) : Type 0 where
  pub begun : rows b.begun.items ≡ begin_more (length a.spots.items) (begins qs s) (rows a.begun.items)
  pub answered : b.answered.items ≡ answer_more s a.answered.items
  pub spots : b.spots.items ≡ a.spots.items ++ spot_in qs a s ∷ []
  pub ends : b.ends.items ≡ close_at (length a.spots.items) (closed_by (origin_in qs a s) s) a.ends.items

pub record HasSizes (qs ls : ℕ) (a : Links) : Type 0 where
  pub begun : length a.begun.items ≡ qs + ls
  pub answered : length a.answered.items ≡ ls

pub record IsNew (qs ls n : ℕ) (a : Links) : Type 0 where
  pub begun : rows a.begun.items ≡ replicate (qs + ls) []
  pub answered : a.answered.items ≡ replicate ls 0
  pub spots : a.spots.items ≡ []
  pub ends : a.ends.items ≡ replicate n n
