-- What a tally counts of each queue and of each lane, read off the whole transcript (rte_eventdev, rte_event_dev_xstats_get: the
-- statistics of a queue and of a port; which there are is own).
use Rattle.std.specs.Prelude.{ℕ, Bool, true, false, List, ◌==◌, ◌&&◌, length, count_by}
use Rattle.transcripts.specs.Transcript.{out, answers, hand}
use Rattle.evt_types.specs.declared.step.Outcome.{Outcome}
use Rattle.evt_types.specs.declared.step.Outcome.TheVariants.{Forwarded, Released}
use Rattle.evt_types.specs.declared.step.Source.TheVariants.{New, Of}
use Rattle.evt_types.specs.declared.step.Step.{Step}
use Rattle.evt_types.specs.declared.step.Step.TheVariants.{Accept, Give, More, Turned, Bounced}
use Rattle.step_tally.specs.declared.counts.LaneCounts.{LaneCounts}
use Rattle.step_tally.specs.declared.counts.QueueCounts.{QueueCounts}

-- ---- Queues

-- an Accept of the queue from a NEW
abbrev pub is_new_to : ℕ → Step → Bool
is_new_to q (Accept r e (New l)) = r == q
is_new_to q step = false

-- an Accept of the queue of what an event was passed on as
abbrev pub is_passed_to : ℕ → Step → Bool
is_passed_to q (Accept r e (Of s n)) = r == q
is_passed_to q step = false

-- how many events the queue accepted as new, and how many of what others were passed on as
unfoldable pub new_to : List Step → ℕ → ℕ
new_to T q = count_by (is_new_to q) T

unfoldable pub passed_to : List Step → ℕ → ℕ
passed_to T q = count_by (is_passed_to q) T

-- a Give of the queue to the lane
abbrev pub is_given_to : ℕ → ℕ → Step → Bool
is_given_to q l (Give m r n) = (r == q) && (m == l)
is_given_to q l step = false

-- how many of the queue's events were given to the lane
unfoldable pub given_to : List Step → ℕ → ℕ → ℕ
given_to T q l = count_by (is_given_to q l) T

abbrev pub queue_counts : List Step → ℕ → QueueCounts
queue_counts T q = record { rx_new = new_to T q; rx_forwarded = passed_to T q; tx = length (hand T q) }

-- ---- Lanes

abbrev pub is_released : Outcome → Bool
is_released Released = true
is_released (Forwarded e) = false

abbrev pub is_forwarded : Outcome → Bool
is_forwarded (Forwarded e) = true
is_forwarded Released = false

-- an Accept from a NEW of the lane
abbrev pub is_new_on : ℕ → Step → Bool
is_new_on l (Accept q e (New m)) = m == l
is_new_on l step = false

-- an event that was added on the lane, a NEW of it that was turned away, a delivery that its ring had no room for
abbrev pub is_added_on : ℕ → Step → Bool
is_added_on l (More m e) = m == l
is_added_on l step = false

abbrev pub is_turned_on : ℕ → Step → Bool
is_turned_on l (Turned m e) = m == l
is_turned_on l step = false

abbrev pub is_bounced_on : ℕ → Step → Bool
is_bounced_on l (Bounced m) = m == l
is_bounced_on l step = false

-- how many of the lane's NEWs were accepted
unfoldable pub new_on : List Step → ℕ → ℕ
new_on T l = count_by (is_new_on l) T

-- how many of the lane's answers are RELEASEs, and how many FORWARDs
unfoldable pub released_by : List Step → ℕ → ℕ
released_by T l = count_by is_released (answers T l)

unfoldable pub forwarded_by : List Step → ℕ → ℕ
forwarded_by T l = count_by is_forwarded (answers T l)

unfoldable pub added_by : List Step → ℕ → ℕ
added_by T l = count_by (is_added_on l) T

unfoldable pub turned_on : List Step → ℕ → ℕ
turned_on T l = count_by (is_turned_on l) T

unfoldable pub bounced_on : List Step → ℕ → ℕ
bounced_on T l = count_by (is_bounced_on l) T

abbrev pub lane_counts : List Step → ℕ → LaneCounts
lane_counts T l =
    record {
      rx_new = new_on T l;
      tx = length (out T l);
      released = released_by T l;
      forwarded = forwarded_by T l;
      added = added_by T l;
      turned = turned_on T l;
      bounced = bounced_on T l;
    }
