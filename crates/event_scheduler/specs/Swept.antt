-- A whole sweep.
use Rattle.std.specs.Prelude.{ℕ, ◌≡◌, ◌+◌, ◌%◌, ◌^◌, ◌<◌, ◌≤◌, List, [], ◌∷◌, ◌++◌, true, false, ◌⊎◌, IsTrue, length, count_by}
use Rattle.event_scheduler.specs.Giving.{AreGifts, is_bounced, passed_by}
use Rattle.event_scheduler.specs.Looking.{Returns, look_steps}
use Rattle.event_scheduler.specs.Scheduler.{Runs, Serves, Sight, seen_at, taken_at}
use Rattle.event_scheduler.specs.Taking.{GoByLane, MayEnd, count_from, replies_from, up_to}
use Rattle.credit_pool.specs.Accounts.{after_look}
use Rattle.evt_types.specs.Plan.{lanes_of}
use Rattle.transcripts.specs.Replies.{turned_count}
use Rattle.event_answers.specs.declared.answer.Swept.{Swept}
use Rattle.evt_types.specs.declared.step.Step.{Step}
use Rattle.evt_types.specs.declared.step.Step.TheVariants.{Shut}
use Rattle.transcripts.specs.Choice.{HasNoChoice}
use Rattle.transcripts.specs.Standing.{after}
use Rattle.transcripts.specs.Sweep.{MayBeTaken, Sweeping, replies_steps, sweep_steps}
use Rattle.transcripts.specs.Transcript.{has_shut, is_give}

-- A sweep: it reads the credit word once and logs what that says, takes replies by rising lane, of each lane until the sweep quantum
-- is reached, none is seen or one may not be taken, tries once to give back all that is in its pocket then, and gives what is chosen
-- until nothing is left to give.
pub record Sweeps (n : Swept) (s : Sight) (log : List Step) (t : Sight) (longer : List Step) : Type 0 where
  pub sweeping : Sweeping
  pub runs : Runs (sweep_steps s.core sweeping) s log t longer
  pub core : t.core ≡ after s.core (sweep_steps s.core sweeping)
  pub looked : (sweeping.shut ≡ []) ⊎ ((s.core.shut ≡ false) × (sweeping.shut ≡ Shut ∷ []))
  pub shut : (T : List Step) → Serves T s → IsTrue s.account.saw_shut → has_shut (T ++ sweeping.shut) ≡ true
  pub may : MayBeTaken (after s.core sweeping.shut) sweeping.taken
  pub by_lane : GoByLane sweeping.taken
  pub quantum : (l : ℕ) → count_from l sweeping.taken ≤ s.core.shape.sweep
  pub taken : (l : ℕ) → taken_at t l ≡ taken_at s l ++ replies_from l sweeping.taken
  pub ends : (l : ℕ) → l < lanes_of s.core.shape
      → MayEnd s.core.shape.sweep (after (after s.core sweeping.shut) (replies_steps (after s.core sweeping.shut) (up_to l sweeping.taken))) l (count_from l sweeping.taken) (seen_at t l)
  -- the scheduler between the replies and the gifts: the word was read, and what was turned away is in the pocket
  pub between : Sight
  pub read : between.account ≡ after_look between.account.last s.account
  pub logs : sweeping.shut ≡ look_steps between.account.last s.core
  pub pocket : between.pocket % 2 ^ 64 ≡ (s.pocket + turned_count (replies_steps (after s.core sweeping.shut) sweeping.taken)) % 2 ^ 64
  pub fits : between.pocket < 2 ^ 64
  pub held : (T : List Step) → Serves T s → Serves (T ++ (sweeping.shut ++ replies_steps (after s.core sweeping.shut) sweeping.taken)) between
  pub returns : Returns between.account between.pocket t.account t.pocket
  pub gifts : AreGifts (record s { core = after (after s.core sweeping.shut) (replies_steps (after s.core sweeping.shut) sweeping.taken) }) [] sweeping.offered
  pub done : HasNoChoice t.core (passed_by sweeping.offered)
  pub count_taken : length sweeping.taken ≡ n.taken
  pub count_given : count_by is_give sweeping.offered ≡ n.given
  pub count_bounced : count_by is_bounced sweeping.offered ≡ n.bounced
