-- Which steps of a log belong together: the step that a step goes back to, and the step that ends its bar.
use Rattle.std.specs.Prelude.{ℕ, ◌<◌, ◌+◌, ◌-◌, List, [], ◌==◌, length, map, slice_get, slice_index_or, Option, Some, None, if◌then◌else◌}
use Rattle.std.specs.List.{range_with_len}
use Rattle.lists.specs.Lists.{with_past}
use Rattle.transcripts.specs.Transcript.{answers}
use Rattle.evt_types.specs.declared.step.Source.TheVariants.{New, Of}
use Rattle.evt_types.specs.declared.step.Step.{Step}
use Rattle.evt_types.specs.declared.step.Step.TheVariants.{Accept, Give, Done, More, Turned, Bounced, Shut}
use Rattle.std.specs.declared.alloc.Global.{Global}
use Rattle.std.specs.declared.vec.Vec.{Vec}
use Rattle.timelines.specs.declared.links.Spot.{Spot}

-- ---- rows: a queue's is its number, and those of the lanes are behind them; qs is how many queues there are

-- the row in which the step begins a bar: an event waits in its queue from its Accept on, and is with its lane from its Give on
abbrev pub begins : ℕ → Step → Option ℕ
begins qs (Accept q e s) = Some q
begins qs (Give l q n) = Some (qs + l)
begins qs (Done l o) = None
begins qs (More l e) = None
begins qs (Turned l e) = None
begins qs (Bounced l) = None
begins qs Shut = None

abbrev pub if_row : ℕ → ℕ → Option ℕ → Option ℕ
if_row r n None = None
if_row r n (Some k) = if k == r then Some n else None

abbrev pub begun_in : ℕ → ℕ → List Step → Step → Option ℕ
begun_in qs r P s = if_row r (length P) (begins qs s)

-- the numbers of the steps that begin a bar in the row, in order: the n-th of a queue's row accepts its event number n, and the k-th of
-- a lane's row gives it the pair that its k-th answer is to
unfoldable pub begun : ℕ → List Step → ℕ → List ℕ
begun qs T r = with_past (begun_in qs r) [] T

-- ---- what a step goes back to

-- by the steps that begin a bar in each row, and how many answers each lane has given
abbrev pub origin_by : ℕ → (ℕ → List ℕ) → (ℕ → ℕ) → Step → Option ℕ
origin_by qs steps answered (Accept q e (New l)) = None
origin_by qs steps answered (Accept q e (Of r n)) = slice_get (steps r) n
origin_by qs steps answered (Give l q n) = slice_get (steps q) n
origin_by qs steps answered (Done l o) = slice_get (steps (qs + l)) (answered l)
origin_by qs steps answered (More l e) = slice_get (steps (qs + l)) (answered l)
origin_by qs steps answered (Turned l e) = None
origin_by qs steps answered (Bounced l) = None
origin_by qs steps answered Shut = None

-- the step after P goes back to this one of P: a Give to its event's Accept, an answer and what is added to the Give of the lane's
-- oldest unanswered event, and an Accept of what was passed on to the Accept of the event that it comes from
abbrev pub origin : ℕ → List Step → Step → Option ℕ
origin qs P s = origin_by qs (begun qs P) (λ l. length (answers P l)) s

-- the place of a step's bar among those of its row
abbrev pub place_by : (ℕ → List ℕ) → Option ℕ → ℕ
place_by steps None = 0
place_by steps (Some r) = length (steps r)

abbrev pub spot : ℕ → List Step → Step → Spot
spot qs P s = record { place = place_by (begun qs P) (begins qs s); origin = origin qs P s }

abbrev pub some_spot : ℕ → List Step → Step → Option Spot
some_spot qs P s = Some (spot qs P s)

-- of each step
unfoldable pub spots : ℕ → List Step → List Spot
spots qs T = with_past (some_spot qs) [] T

-- ---- what ends a bar

-- the bar that a step ends: a Give that of the Accept, an answer that of the Give
abbrev pub closed_by : Option ℕ → Step → Option ℕ
closed_by o (Accept q e s) = None
closed_by o (Give l q n) = o
closed_by o (Done l u) = o
closed_by o (More l e) = None
closed_by o (Turned l e) = None
closed_by o (Bounced l) = None
closed_by o Shut = None

abbrev pub ender_in : ℕ → ℕ → List Step → Step → Option ℕ
ender_in qs i P s = if_row i (length P) (closed_by (origin qs P s) s)

-- the steps that end the bar of step i: in a lawful log there is one at most
unfoldable pub enders : ℕ → List Step → ℕ → List ℕ
enders qs T i = with_past (ender_in qs i) [] T

abbrev pub last_or : ℕ → List ℕ → ℕ
last_or d xs = slice_index_or xs (length xs - 1) d

-- for each step of T the step that ends its bar; where none does it lasts as long as T
unfoldable pub ends : ℕ → List Step → List ℕ
ends qs T = map (λ i. last_or (length T) (enders qs T i)) (range_with_len 0 (length T))

-- lists that stand in a list; one that isn't there is empty
abbrev pub rows : List (Vec ℕ Global) → List (List ℕ)
rows lists = map (λ (list : Vec ℕ Global). list.items) lists

abbrev pub row : List (List ℕ) → ℕ → List ℕ
row lists n = slice_index_or lists n []

-- the queue and the lane that the step names are there: so many queues, so many lanes
abbrev pub IsPlaced : ℕ → ℕ → Step → Type 0
IsPlaced qs ls (Accept q e s) = q < qs
IsPlaced qs ls (Give l q n) = l < ls
IsPlaced qs ls (Done l o) = l < ls
IsPlaced qs ls (More l e) = l < ls
IsPlaced qs ls (Turned l e) = l < ls
IsPlaced qs ls (Bounced l) = l < ls
IsPlaced qs ls Shut = Unit {0}
