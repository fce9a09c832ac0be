-- How many events of a queue wait, and how many waited at most.
use Rattle.std.specs.Prelude.{ℕ, Option, Some, None, ◌+◌, ◌≡◌, ◌≤◌, ◌<◌, ◌-◌, List, length, take, slice_index, slice_index_or}
use Rattle.evt_types.specs.declared.shape.TheConstants.{MAX_QUEUES}
use Rattle.evt_types.specs.declared.step.Step.{Step}
use Rattle.evt_types.specs.declared.step.Step.TheVariants.{Accept}
use Rattle.run_counts.specs.declared.text.QueueWork.{QueueWork}
use Rattle.transcripts.specs.Transcript.{accepted, hand}

-- how many of the queue's events wait after the steps: what it accepted, less what was given
abbrev pub waits : List Step → ℕ → ℕ
waits T q = length (accepted T q) - length (hand T q)

-- how many would wait after one more was accepted
abbrev pub waits_with_one_more : List Step → ℕ → ℕ
waits_with_one_more T q = (length (accepted T q) + 1) - length (hand T q)

-- the queue that accepts an event by the step
abbrev pub accepts : Step → Option ℕ
accepts (Accept q e c) = Some q
accepts step = None

-- so many waited at most: after no first part of the steps more, and after one so many
pub record IsMost (T : List Step) (q n : ℕ) : Type 0 where
  pub bound : (k : ℕ) → waits (take k T) q ≤ n
  pub reached : (k : ℕ) × (waits (take k T) q ≡ n)

-- each place of the table has it of its queue
abbrev pub AreMost : List Step → List ℕ → Type 0
AreMost T table = (q : ℕ) → q < length table → IsMost T q (slice_index table q)

-- the table has it of each queue that a device may have
pub record HaveMost (T : List Step) (table : List ℕ) : Type 0 where
  pub all : length table ≡ MAX_QUEUES
  pub most : AreMost T table

-- what is counted of the queue
pub record IsWorkOf (T : List Step) (q : ℕ) (w : QueueWork) : Type 0 where
  pub queue : w.queue ≡ q
  pub came : w.came ≡ length (accepted T q)
  pub given : w.given ≡ length (hand T q)
  pub most : IsMost T q w.most

-- what is counted of the first queues, so many
pub record AreWorksOf (T : List Step) (queues : ℕ) (ws : List QueueWork) : Type 0 where
  pub count : length ws ≡ queues
  pub each : (q : ℕ) (d : QueueWork) → q < queues → IsWorkOf T q (slice_index_or ws q d)
