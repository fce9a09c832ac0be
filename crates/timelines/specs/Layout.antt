-- Where a picture's marks stand: rows, tracks in them, flows and their colours, and how wide a step is.
use Rattle.std.specs.Prelude.{ℕ, ◌+◌, ◌*◌, ◌/◌, ◌%◌, List, [], ◌∷◌, ◌++◌, ◌==◌, ◌&&◌, nat_lt, min, max, length, map, take, fold, count_by, slice_index_or, None, if◌then◌else◌}
use Rattle.std.specs.List.{range_with_len}
use Rattle.evt_types.specs.declared.step.Step.{Step}
use Rattle.evt_types.specs.declared.step.Step.TheVariants.{Accept, Give, Done, More, Turned, Bounced, Shut}
use Rattle.timelines.specs.Links.{begun, ends, spots}
use Rattle.timelines.specs.declared.links.Spot.{Spot}
use Rattle.timelines.specs.declared.layout.Row.{Row}
use Rattle.timelines.specs.declared.layout.Sheet.{Sheet}

-- ---- tracks: a row has as many that no two of its bars lie on one another, 24 at most

-- the step that ends the bar of a step; of a step that isn't there, how many there are
abbrev pub end_at : List ℕ → ℕ → ℕ
end_at us i = slice_index_or us i (length us)

-- how many of the row's next bars begin while a bar lasts to this end, of the next 23
abbrev pub meets : ℕ → List ℕ → ℕ
meets end next = count_by (λ k. nat_lt k end) (take 23 next)

-- the most that any of the row's bars meets
abbrev pub crowd : List ℕ → List ℕ → ℕ
crowd us [] = 0
crowd us (p ∷ ps) = max (meets (end_at us p) ps) (crowd us ps)

abbrev pub height : ℕ → ℕ
height extra = 34 + 16 * extra

-- one row below the other, each as high as it needs
abbrev pub rows_from : List ℕ → ℕ → List (List ℕ) → List Row
rows_from us top [] = []
rows_from us top (ps ∷ rest) = record { top = top; extra = crowd us ps } ∷ rows_from us (top + height (crowd us ps)) rest

abbrev pub bottom_from : List ℕ → ℕ → List (List ℕ) → ℕ
bottom_from us top [] = top
bottom_from us top (ps ∷ rest) = bottom_from us (top + height (crowd us ps)) rest

-- ---- flows: the first seven that the log names have a colour each, the others one

-- a flow's place; of one that isn't there, how many there are
abbrev pub flow_place : ℕ → List ℕ → ℕ
flow_place f [] = 0
flow_place f (g ∷ gs) = if g == f then 0 else flow_place f gs + 1

abbrev pub add_flow : List ℕ → ℕ → List ℕ
add_flow fs f = if (flow_place f fs == length fs) && nat_lt (length fs) 7 then fs ++ f ∷ [] else fs

abbrev pub flow_step : List ℕ → Step → List ℕ
flow_step fs (Accept q e s) = add_flow fs e.flow
flow_step fs (Give l q n) = fs
flow_step fs (Done l o) = fs
flow_step fs (More l e) = fs
flow_step fs (Turned l e) = fs
flow_step fs (Bounced l) = fs
flow_step fs Shut = fs

abbrev pub flows_of : List Step → List ℕ
flows_of T = fold flow_step [] T

-- ---- the whole

-- how wide a step is
abbrev pub unit_of : ℕ → ℕ
unit_of n = max 8 (min 48 (740 / (n + 1)))

-- what stands where
pub record Frame : Type 0 where
  pub spots : List Spot
  pub ends : List ℕ
  pub rows : List Row
  pub bottom : ℕ
  pub flows : List ℕ
  pub unit : ℕ

-- of a log, for so many queues and lanes
unfoldable pub frame_of : ℕ → ℕ → List Step → Frame
frame_of qs ls T =
    let bars = map (begun qs T) (range_with_len 0 (qs + ls)) in
    record {
      spots = spots qs T;
      ends = ends qs T;
      rows = rows_from (ends qs T) 136 bars;
      bottom = bottom_from (ends qs T) 136 bars;
      flows = flows_of T;
      unit = unit_of (length T);
    }

abbrev pub frame_in : Sheet → Frame
frame_in s = record { spots = s.spots.items; ends = s.ends.items; rows = s.rows.items; bottom = s.bottom; flows = s.flows.items; unit = s.unit }

abbrev pub x_at : ℕ → ℕ → ℕ
x_at unit i = 130 + unit * i

abbrev pub row_at : List Row → ℕ → Row
row_at rs r = slice_index_or rs r (record { top = 0; extra = 0 })

-- the top of the track on which the bar of this place of the row lies
abbrev pub track_in : Row → ℕ → ℕ
track_in r place = r.top + 14 + 16 * (place % (r.extra + 1))

abbrev pub track_at : List Row → ℕ → ℕ → ℕ
track_at rs r place = track_in (row_at rs r) place

abbrev pub spot_at : List Spot → ℕ → Spot
spot_at xs i = slice_index_or xs i (record { place = 0; origin = None })
