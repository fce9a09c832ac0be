-- What a hub says of its counts (rte_eventdev, rte_event_dev_xstats_get; which there are is own).
use Rattle.std.specs.Prelude.{ℕ, ℤ, ◌-◌, ◌==◌, nat_lt, MatchBool, List, [], ◌∷◌, Option, if◌then◌else◌}
use Rattle.std.specs.Prelude.Option.{Some, None}
use Rattle.evt_types.specs.declared.step.Step.{Step}
use Rattle.evt_types.specs.declared.shape.TheConstants.{MAX_QUEUES}
use Rattle.step_tally.specs.Counts.{lane_counts, queue_counts}
use Rattle.step_tally.specs.declared.counts.LaneCounts.{LaneCounts}
use Rattle.step_tally.specs.declared.counts.QueueCounts.{QueueCounts}
use Rattle.transcripts.specs.Replies.{new_count}
use Rattle.transcripts.specs.Transcript.{inside}
use Rattle.event_device.specs.Parts.{Parts}
use Rattle.event_handles.specs.Logs.{steps_logged}
use Rattle.event_handles.specs.Numbers.{invalid, no_device}
use Rattle.event_handles.specs.Report.{Fills, LeavesEmpty}
use Rattle.event_handles.specs.declared.hub.Hub.{Hub}
use Rattle.event_handles.specs.declared.stopped.Stopped.{Stopped}
use Rattle.event_handles.specs.declared.sweep_counts.SweepCounts.{SweepCounts}

abbrev pub queue_list : QueueCounts → List ℕ
queue_list c = c.rx_new ∷ c.rx_forwarded ∷ c.tx ∷ []

abbrev pub lane_list : LaneCounts → List ℕ
lane_list c = c.rx_new ∷ c.tx ∷ c.released ∷ c.forwarded ∷ c.added ∷ c.turned ∷ c.bounced ∷ []

-- what the steps say of queue `what`, or of the lane that has the number after the queues
abbrev pub numbers_of : List Step → ℕ → List ℕ
numbers_of T what = if nat_lt what MAX_QUEUES then queue_list (queue_counts T what) else lane_list (lane_counts T (what - MAX_QUEUES))

-- that of the device comes after those of the lanes
abbrev pub of_device : ℕ
of_device = 192

-- how many events were accepted as new, and how many are inside
abbrev pub device_list : Parts → List ℕ
device_list r = new_count r.recorded.log ∷ inside r.recorded.sight.core.shape r.recorded.log ∷ []

-- that of its sweeps comes next
abbrev pub of_sweeps : ℕ
of_sweeps = 193

-- how many sweeps there were, what they took and gave, and how many took nothing and gave nothing
abbrev pub sweep_list : SweepCounts → List ℕ
sweep_list c = c.sweeps ∷ c.taken ∷ c.given ∷ c.no_take ∷ c.no_give ∷ []

abbrev pub CountsRunning : Parts → SweepCounts → ℕ → List ℕ → List ℕ → ℤ → Type 0
CountsRunning r c what before after answer =
    MatchBool (nat_lt what of_device) (Fills (numbers_of r.recorded.log what) before after answer)
    (MatchBool (what == of_device) (Fills (device_list r) before after answer)
    (MatchBool (what == of_sweeps) (Fills (sweep_list c) before after answer) (LeavesEmpty invalid before after answer)))

-- of a device that was stopped it isn't known how many are inside
abbrev pub CountsStopped : Stopped → SweepCounts → ℕ → List ℕ → List ℕ → ℤ → Type 0
CountsStopped s c what before after answer =
    MatchBool (nat_lt what of_device) (Fills (numbers_of (steps_logged s.report.log) what) before after answer)
    (MatchBool (what == of_device) (LeavesEmpty no_device before after answer)
    (MatchBool (what == of_sweeps) (Fills (sweep_list c) before after answer) (LeavesEmpty invalid before after answer)))

abbrev pub CountsOf : Option Parts → Option Stopped → SweepCounts → ℕ → List ℕ → List ℕ → ℤ → Type 0
CountsOf (Some r) s c what before after answer = CountsRunning r c what before after answer
CountsOf None (Some s) c what before after answer = CountsStopped s c what before after answer
CountsOf None None c what before after answer = LeavesEmpty no_device before after answer

abbrev pub IsCounted : Hub → ℕ → List ℕ → List ℕ → ℤ → Type 0
IsCounted hub what before after answer = CountsOf hub.device hub.stopped hub.sweeps what before after answer
