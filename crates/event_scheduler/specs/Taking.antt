-- Replies that are taken.
use Rattle.std.specs.Prelude.{ℕ, ◌≡◌, ◌+◌, ◌%◌, ◌^◌, ◌<◌, ◌≤◌, ◌⊎◌, false, List, [], ◌++◌, ◌==◌, nat_lt, if◌then◌else◌, length, count_by, filter, filter_map, slice_get, slice_set, AllPairs, Option, Some, None}
use Rattle.event_scheduler.specs.Scheduler.{Runs, Sight, seen_at, taken_at}
use Rattle.evt_types.specs.Plan.{lanes_of}
use Rattle.evt_types.specs.declared.event.Event.{Event}
use Rattle.evt_types.specs.declared.event.Op.{Op}
use Rattle.evt_types.specs.declared.event.Op.TheVariants as ops
use Rattle.evt_types.specs.declared.event.Reply.{Reply}
use Rattle.evt_types.specs.declared.step.Step.{Step}
use Rattle.sched_core.specs.declared.take.Took.{Took}
use Rattle.sched_core.specs.declared.take.Took.TheVariants as tooks
use Rattle.transcripts.specs.Replies.{turned_count}
use Rattle.transcripts.specs.Standing.{View, after, may_take}
use Rattle.transcripts.specs.Sweep.{MayBeTaken, replies_steps}

-- the credit of what was turned away goes to the scheduler's pocket
abbrev pub turned_by : Took → ℕ
turned_by tooks.Turned = 1
turned_by tooks.Accepted = 0
turned_by tooks.Kept = 0
turned_by tooks.Released = 0

-- how many events were accepted as new
abbrev pub entered_as : Took → ℕ
entered_as tooks.Accepted = 1
entered_as tooks.Turned = 0
entered_as tooks.Kept = 0
entered_as tooks.Released = 0

abbrev pub entered_by : Op → Took → ℕ
entered_by ops.New t = entered_as t
entered_by ops.Forward t = 0
entered_by ops.Release t = 0
entered_by ops.ForwardMore t = 0

-- of some replies, each a lane with its event, those of the lane
abbrev pub reply_from : ℕ → ℕ × Event → Option Reply
reply_from l r = if r.0 == l then Some (record { event = r.1 }) else None

abbrev pub replies_from : ℕ → List (ℕ × Event) → List Reply
replies_from l replies = filter_map (reply_from l) replies

abbrev pub count_from : ℕ → List (ℕ × Event) → ℕ
count_from l replies = count_by (λ (r : ℕ × Event). r.0 == l) replies

-- they go by rising lane
abbrev pub GoByLane : List (ℕ × Event) → Type 0
GoByLane replies = AllPairs (λ (x y : ℕ × Event). x.0 ≤ y.0) replies

-- so many of the lane, none of another
abbrev pub only : ℕ → ℕ → ℕ → ℕ
only l n m = if m == l then n else 0

-- so many of each of the first lanes
abbrev pub of_first : ℕ → ℕ → ℕ → ℕ
of_first i n m = if nat_lt m i then n else 0

-- So many replies were taken, by rising lane and no more than these of each: each might be taken in its turn, and the steps are
-- theirs.
pub record Takes (most : ℕ → ℕ) (n : ℕ) (s : Sight) (log : List Step) (t : Sight) (longer : List Step) : Type 0 where
  pub replies : List (ℕ × Event)
  pub runs : Runs (replies_steps s.core replies) s log t longer
  pub core : t.core ≡ after s.core (replies_steps s.core replies)
  pub may : MayBeTaken s.core replies
  pub by_lane : GoByLane replies
  pub few : (l : ℕ) → count_from l replies ≤ most l
  pub taken : (l : ℕ) → taken_at t l ≡ taken_at s l ++ replies_from l replies
  pub offered : t.offered ≡ s.offered
  pub count : length replies ≡ n
  pub account : t.account ≡ s.account
  pub pocket : t.pocket % 2 ^ 64 ≡ (s.pocket + turned_count (replies_steps s.core replies)) % 2 ^ 64

-- the same scheduler with this core and these counts
abbrev pub with_core : Sight → View → ℕ → ℕ → Sight
with_core s core pocket accepted_new = record s { core = core; pocket = pocket; accepted_new = accepted_new }

-- the same scheduler, from whose lane these replies were taken too
abbrev pub with_taken : Sight → ℕ → List Reply → Sight
with_taken s l replies = record s { taken = slice_set s.taken l (taken_at s l ++ replies) }

-- the first of these replies, up to those of the lane, where they go by rising lane
abbrev pub up_to : ℕ → List (ℕ × Event) → List (ℕ × Event)
up_to l replies = filter (λ (r : ℕ × Event). nat_lt r.0 (l + 1)) replies

-- Taking replies of a lane may end after so many, where none is seen, or where the first that is seen may not be taken.
abbrev pub MayEnd : ℕ → View → ℕ → ℕ → List Reply → Type 0
MayEnd quantum v l n seen = (n ≡ quantum) ⊎ ((seen ≡ []) ⊎ ((reply : Reply) × (slice_get seen 0 ≡ Some reply) × (may_take v l reply.event ≡ false)))

-- Replies of each lane were taken, no more of each than the quantum, and each lane's taking ended where it may.
pub record TakesAll (quantum n : ℕ) (s : Sight) (log : List Step) (t : Sight) (longer : List Step) : Type 0 where
  pub takes : Takes (λ l. quantum) n s log t longer
  pub ends : (l : ℕ) → l < lanes_of s.core.shape
      → MayEnd quantum (after s.core (replies_steps s.core (up_to l takes.replies))) l (count_from l takes.replies) (seen_at t l)
