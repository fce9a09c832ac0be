-- What a hub says of a device that runs, as it is now (rte_eventdev, rte_event_dev_xstats_get; which there are is own).
use Rattle.std.specs.Prelude.{ℕ, ℤ, ◌≡◌, ◌+◌, ◌-◌, ◌==◌, ◌&&◌, Bool, nat_lt, MatchBool, List, [], ◌∷◌, length, count_by, sum_by, Option}
use Rattle.std.specs.Prelude.Option.{Some, None}
use Rattle.credit_pool.specs.Accounts.{free_of}
use Rattle.evt_types.specs.declared.shape.TheConstants.{MAX_PORTS, MAX_QUEUES}
use Rattle.step_tally.specs.Counts.{given_to}
use Rattle.sched_core.specs.Inside.{is_of_queue, slots_among}
use Rattle.transcripts.specs.Lawful.{is_of_level}
use Rattle.transcripts.specs.Standing.{View, kept_at, unanswered_at, waiting_at}
use Rattle.transcripts.specs.Transcript.{Held}
use Rattle.event_device.specs.Lent.{with_look}
use Rattle.event_device.specs.Parts.{Parts}
use Rattle.event_handles.specs.Counts.{of_device}
use Rattle.event_handles.specs.Hub.{Changes}
use Rattle.event_handles.specs.Numbers.{invalid, no_device}
use Rattle.event_handles.specs.Report.{Fills, LeavesEmpty}
use Rattle.event_handles.specs.Sweeps.{given_last}
use Rattle.event_handles.specs.declared.hub.Hub.{Hub}
use Rattle.event_handles.specs.declared.sweep_counts.SweepCounts.{SweepCounts}

-- ---- a queue, a port, the credits

-- whether the device has a queue, and a port, of this number
abbrev pub has_queue : Parts → ℕ → Bool
has_queue r q = nat_lt q (length r.recorded.sight.core.shape.queues)

abbrev pub has_port : Parts → ℕ → Bool
has_port r n = nat_lt n (length r.recorded.sight.core.shape.ports)

-- what waits at each level, is unanswered and is kept
abbrev pub waiting_of : View → ℕ → ℕ → ℕ
waiting_of v q level = count_by (is_of_level level) (waiting_at v q)

abbrev pub unanswered_of : View → ℕ → ℕ
unanswered_of v q = sum_by (λ (hs : List Held). count_by (is_of_queue q) hs) v.unanswered

abbrev pub queue_list : View → ℕ → List ℕ
queue_list v q = waiting_of v q 0 ∷ waiting_of v q 1 ∷ waiting_of v q 2 ∷ waiting_of v q 3 ∷ unanswered_of v q ∷ length (kept_at v q) ∷ []

abbrev pub SaysQueue : Parts → ℕ → List ℕ → List ℕ → ℤ → Type 0
SaysQueue r q before after answer =
    MatchBool (has_queue r q) (Fills (queue_list r.recorded.sight.core q) before after answer) (LeavesEmpty invalid before after answer)

-- what the last sweep gave to the port's lane
abbrev pub SaysPort : Parts → SweepCounts → ℕ → List ℕ → List ℕ → ℤ → Type 0
SaysPort r c n before after answer =
    MatchBool (has_port r n) (Fills (given_last c n ∷ []) before after answer) (LeavesEmpty invalid before after answer)

-- the credit word is read once: what is free by it, and what is in the scheduler's pocket
pub record SaysCredits (before after : List ℕ) (answer : ℤ) (r q : Parts) : Type 0 where
  pub looked : q ≡ with_look q.recorded.sight.account.last r
  pub fills : Fills (free_of q.recorded.sight.account.last ∷ r.recorded.sight.pocket ∷ []) before after answer

-- ---- the numbers that ask for them

-- the ports come after the queues, and the credits have the number of the device
abbrev pub ports_end : ℕ
ports_end = MAX_QUEUES + MAX_PORTS

pub record Stays (Says : Type 0) (r q : Parts) : Type 0 where
  pub same : q ≡ r
  pub says : Says

abbrev pub SaysNow : ℕ → SweepCounts → List ℕ → List ℕ → ℤ → Parts → Parts → Type 0
SaysNow what c before after answer r q =
    MatchBool (nat_lt what MAX_QUEUES) (Stays (SaysQueue r what before after answer) r q)
    (MatchBool (nat_lt what ports_end) (Stays (SaysPort r c (what - MAX_QUEUES) before after answer) r q)
    (MatchBool (what == of_device) (SaysCredits before after answer r q) (Stays (LeavesEmpty invalid before after answer) r q)))

abbrev pub IsNow : Hub → ℕ → Hub → List ℕ → List ℕ → ℤ → Type 0
IsNow old what new before after answer = Changes (SaysNow what old.sweeps before after answer) (LeavesEmpty no_device before after answer) old new

-- ---- what a port's lane has of a queue

abbrev pub share_list : Parts → ℕ → ℕ → List ℕ
share_list r q n = given_to r.recorded.log q n ∷ slots_among r.recorded.sight.core.shape q (unanswered_at r.recorded.sight.core n) ∷ []

abbrev pub SaysShares : Parts → ℕ → ℕ → List ℕ → List ℕ → ℤ → Type 0
SaysShares r q n before after answer =
    MatchBool (has_queue r q && has_port r n) (Fills (share_list r q n) before after answer) (LeavesEmpty invalid before after answer)

abbrev pub SharesOf : Option Parts → ℕ → ℕ → List ℕ → List ℕ → ℤ → Type 0
SharesOf (Some r) q n before after answer = SaysShares r q n before after answer
SharesOf None q n before after answer = LeavesEmpty no_device before after answer

abbrev pub IsShared : Hub → ℕ → ℕ → List ℕ → List ℕ → ℤ → Type 0
IsShared hub q n before after answer = SharesOf hub.device q n before after answer
