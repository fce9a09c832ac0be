-- The world that is found at stop, by the lists of each lane's two ends.
use Rattle.std.specs.Prelude.{ℕ, ◌≡◌, ◌<◌, ◌≤◌, ◌^◌, List, ◌++◌, length, map, drop, count_by}
use Rattle.evt_types.specs.Additions.{AreBeside}
use Rattle.evt_types.specs.Event.{pair_of}
use Rattle.evt_types.specs.Operation.{is_answer, is_new_reply}
use Rattle.evt_types.specs.Plan.{Plan}
use Rattle.evt_types.specs.declared.event.Delivery.{Delivery}
use Rattle.evt_types.specs.declared.event.Reply.{Reply}
use Rattle.evt_types.specs.declared.step.Step.{Step}
use Rattle.transcripts.specs.Lawful.{Lawful}
use Rattle.transcripts.specs.Replies.{said, replies_in}
use Rattle.transcripts.specs.Transcript.{out}
use Rattle.world_laws.specs.World.{World}

-- a lane at rest: what was offered, and of that received and not; what was answered, and of that taken and not
pub record Rest : Type 0 where
  pub offered : List Delivery
  pub received : List Delivery
  pub undelivered : List Delivery
  pub answered : List Reply
  pub taken : List Reply
  pub untaken : List Reply

-- what was offered and taken is the transcript's, and the two ends fit together
pub record IsRest (T : List Step) (l : ℕ) (r : Rest) : Type 0 where
  pub given : map pair_of r.offered ≡ out T l
  pub replies : map said r.taken ≡ replies_in T l
  pub received : r.offered ≡ r.received ++ r.undelivered
  pub answered : r.answered ≡ r.taken ++ r.untaken
  pub fewer : count_by is_answer r.answered ≤ length r.received
  pub beside : AreBeside (length r.received) r.answered

-- All lanes are at rest, and a lane that is no port's own has no NEW. A Vec's length is below 2^63.
pub record AreRests (p : Plan) (T : List Step) (rest : ℕ → Rest) : Type 0 where
  pub lawful : Lawful p T
  pub each : (l : ℕ) → IsRest T l (rest l)
  pub own : (l : ℕ) → length p.ports ≤ l → count_by is_new_reply (rest l).answered ≡ 0
  pub short : length T < 2 ^ 63

-- the world that is found
abbrev pub found_in : List Step → (ℕ → Rest) → World
found_in T rest = record { log = T; received = λ l. length (rest l).received; submitted = λ l. (rest l).answered }

-- what the lane's holder received and didn't answer
abbrev pub still_held : Rest → List (ℕ × ℕ)
still_held r = map pair_of (drop (count_by is_answer r.answered) r.received)
