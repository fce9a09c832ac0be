-- What one sweep does: it may see that the device is shut, takes replies, and gives events or finds that a lane's ring is full
-- (own; Software Eventdev, "Scheduling Quanta").
use Rattle.std.specs.Prelude.{ℕ, ◌≡◌, ◌≤◌, ◌<◌, ◌+◌, ◌*◌, true, false, List, [], ◌∷◌, ◌++◌, ◌==◌, length, sum_by, count_by, filter_map, All, Option, Some, None, ◌⊎◌}
use Rattle.evt_types.specs.Plan.{Plan, kept_room, lanes_of}
use Rattle.evt_types.specs.declared.event.Event.{Event}
use Rattle.evt_types.specs.Limits.{most_forwards}
use Rattle.evt_types.specs.declared.step.Step.{Step}
use Rattle.evt_types.specs.declared.step.Step.TheVariants.{Accept, Give, Done, More, Turned, Bounced, Shut}
use Rattle.transcripts.specs.Standing.{View, may_take, steps_of, after}

-- the steps of replies that are taken in turn, each a lane with its event
abbrev pub replies_steps : View → List (ℕ × Event) → List Step
replies_steps v [] = []
replies_steps v (r ∷ rs) = steps_of v r.0 r.1 ++ replies_steps (after v (steps_of v r.0 r.1)) rs

-- each is of a lane that is there, and may be taken in its turn
abbrev pub MayBeTaken : View → List (ℕ × Event) → Type 0
MayBeTaken v [] = Unit {0}
MayBeTaken v (r ∷ rs) = (r.0 < lanes_of v.shape) × (may_take v r.0 r.1 ≡ true) × MayBeTaken (after v (steps_of v r.0 r.1)) rs

-- the queue of an event that is given, the lane of a ring that was full
abbrev pub given_queue : Step → Option ℕ
given_queue (Give l q n) = Some q
given_queue s = None

abbrev pub bounced_lane : Step → Option ℕ
bounced_lane (Bounced l) = Some l
bounced_lane s = None

-- an event of a queue that is there is given, or a lane that is there has no room
abbrev pub IsOffered : Plan → Step → Type 0
IsOffered p (Give l q n) = q < length p.queues
IsOffered p (Bounced l) = l < lanes_of p
IsOffered p (Accept q e s) = ⊥
IsOffered p (Done l o) = ⊥
IsOffered p (More l e) = ⊥
IsOffered p (Turned l e) = ⊥
IsOffered p Shut = ⊥

-- how often a number stands in a list
abbrev pub times : ℕ → List ℕ → ℕ
times n xs = count_by (λ m. m == n) xs

-- what a sweep did: the step by which it saw that the device is shut, if it did; the replies that it took; what it offered
pub record Sweeping : Type 0 where
  pub shut : List Step
  pub taken : List (ℕ × Event)
  pub offered : List Step

-- of each lane it takes no more replies than the sweep quantum, and of each queue it gives no more events; a lane is found full once
pub record IsSweep (v : View) (s : Sweeping) : Type 0 where
  pub shut : (s.shut ≡ []) ⊎ ((v.shut ≡ false) × (s.shut ≡ Shut ∷ []))
  pub taken : MayBeTaken (after v s.shut) s.taken
  pub few_taken : (l : ℕ) → count_by (λ (r : ℕ × Event). r.0 == l) s.taken ≤ v.shape.sweep
  pub offered : All (IsOffered v.shape) s.offered
  pub few_given : (q : ℕ) → times q (filter_map given_queue s.offered) ≤ v.shape.sweep
  pub once_full : (l : ℕ) → times l (filter_map bounced_lane s.offered) ≤ 1

abbrev pub sweep_steps : View → Sweeping → List Step
sweep_steps v s = s.shut ++ replies_steps (after v s.shut) s.taken ++ s.offered

-- room for the steps of a sweep: the shut step, an answer or an added event and an event accepted for each reply, the events that
-- were kept, the events given, the lanes whose ring was full
abbrev pub sweep_room : Plan → ℕ
sweep_room p = 1 + 2 * p.sweep * lanes_of p + most_forwards * sum_by kept_room p.queues + p.sweep * length p.queues + lanes_of p
