-- Tables of counts, and what one step more makes of the counts of its queue and of its lane.
use Rattle.std.specs.Prelude.{ℕ, ◌≡◌, ◌+◌, ◌<◌, ◌^◌, List, length, map, slice_index, slice_index_or, slice_set, Option, Some, None}
use Rattle.std.specs.List.{range_with_len}
use Rattle.evt_types.specs.declared.shape.TheConstants.{MAX_LANES, MAX_PORTS, MAX_QUEUES}
use Rattle.evt_types.specs.declared.step.Outcome.TheVariants.{Forwarded, Released}
use Rattle.evt_types.specs.declared.step.Source.TheVariants.{New, Of}
use Rattle.evt_types.specs.declared.step.Step.{Step}
use Rattle.evt_types.specs.declared.step.Step.TheVariants.{Accept, Give, Done, More, Turned, Bounced, Shut}
use Rattle.step_tally.specs.Counts.{given_to, queue_counts, lane_counts}
use Rattle.step_tally.specs.declared.counts.LaneCounts.{LaneCounts}
use Rattle.step_tally.specs.declared.counts.QueueCounts.{QueueCounts}
use Rattle.step_tally.specs.declared.tables.QueueRow.{QueueRow}

-- each place of the table has the counts of its number
abbrev pub AreCounts : {X : Type 0} → (ℕ → X) → List X → Type 0
AreCounts {X} counts table = (k : ℕ) (d : X) → k < length table → slice_index_or table k d ≡ counts k

-- how many of the queue's events each port's lane was given
abbrev pub given_row : List Step → ℕ → List ℕ
given_row T q = map (given_to T q) (range_with_len 0 MAX_PORTS)

abbrev pub queue_row : List Step → ℕ → QueueRow
queue_row T q = record { counts = queue_counts T q; given = given_row T q }

-- the tables have the counts of these steps, for each queue and each lane that a device may have
pub record AreTables (T : List Step) (by_queue : List QueueRow) (by_lane : List LaneCounts) : Type 0 where
  pub all_queues : length by_queue ≡ MAX_QUEUES
  pub all_lanes : length by_lane ≡ MAX_LANES
  pub queues : AreCounts (queue_row T) by_queue
  pub lanes : AreCounts (lane_counts T) by_lane

-- ---- one step

-- the queue of which the step is counted
abbrev pub queue_in : Step → Option ℕ
queue_in (Accept q e s) = Some q
queue_in (Give l q n) = Some q
queue_in step = None

-- the counts of its queue after it
abbrev pub queue_after : QueueCounts → Step → QueueCounts
queue_after c (Accept q e (New l)) = record c { rx_new = c.rx_new + 1 }
queue_after c (Accept q e (Of r n)) = record c { rx_forwarded = c.rx_forwarded + 1 }
queue_after c (Give l q n) = record c { tx = c.tx + 1 }
queue_after c step = c

-- the row of its queue after it: a lane that is no port's has no place
abbrev pub row_after : QueueRow → Step → QueueRow
row_after r (Give l q n) = record { counts = queue_after r.counts (Give l q n); given = slice_set r.given l (slice_index r.given l + 1) }
row_after r step = record r { counts = queue_after r.counts step }

-- the row of a queue after so many gifts of it to the lane
abbrev pub row_given : QueueRow → ℕ → ℕ → QueueRow
row_given r l n = record { counts = record r.counts { tx = r.counts.tx + n }; given = slice_set r.given l (slice_index r.given l + n) }

-- the lane of which the step is counted
abbrev pub lane_in : Step → Option ℕ
lane_in (Accept q e (New l)) = Some l
lane_in (Accept q e (Of r n)) = None
lane_in (Give l q n) = Some l
lane_in (Done l o) = Some l
lane_in (More l e) = Some l
lane_in (Turned l e) = Some l
lane_in (Bounced l) = Some l
lane_in Shut = None

-- the counts of its lane after it
abbrev pub lane_after : LaneCounts → Step → LaneCounts
lane_after c (Accept q e (New l)) = record c { rx_new = c.rx_new + 1 }
lane_after c (Give l q n) = record c { tx = c.tx + 1 }
lane_after c (Done l Released) = record c { released = c.released + 1 }
lane_after c (Done l (Forwarded e)) = record c { forwarded = c.forwarded + 1 }
lane_after c (More l e) = record c { added = c.added + 1 }
lane_after c (Turned l e) = record c { turned = c.turned + 1 }
lane_after c (Bounced l) = record c { bounced = c.bounced + 1 }
lane_after c step = c

-- no count is at its greatest
pub record HasFewOfQueue (r : QueueRow) : Type 0 where
  pub rx_new : r.counts.rx_new < 2 ^ 63
  pub rx_forwarded : r.counts.rx_forwarded < 2 ^ 63
  pub tx : r.counts.tx < 2 ^ 63
  pub given : (l : ℕ) → l < MAX_PORTS → slice_index r.given l < 2 ^ 63

pub record HasFewOfLane (c : LaneCounts) : Type 0 where
  pub rx_new : c.rx_new < 2 ^ 63
  pub tx : c.tx < 2 ^ 63
  pub released : c.released < 2 ^ 63
  pub forwarded : c.forwarded < 2 ^ 63
  pub added : c.added < 2 ^ 63
  pub turned : c.turned < 2 ^ 63
  pub bounced : c.bounced < 2 ^ 63
