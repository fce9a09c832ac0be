-- How many lists a core's view has.
use Rattle.std.specs.Prelude.{◌≡◌, length}
use Rattle.evt_types.specs.Plan.{lanes_of}
use Rattle.transcripts.specs.Standing.{View}

-- one for each queue or lane
pub record IsSized (v : View) : Type 0 where
  pub waiting : length v.waiting ≡ length v.shape.queues
  pub places : length v.places ≡ length v.shape.queues
  pub unanswered : length v.unanswered ≡ lanes_of v.shape
