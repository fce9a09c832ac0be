-- The running world: what the scheduler did, and of each lane what was received and said. Its moves are what threads do: a reply is submitted by
-- the push with which the scheduler can see it, and taken by the scheduler out of the ring, or out of what it fetched from the ring before; a
-- delivery is given by the push with which the holder can see it, and received by its pop. What one store pushes or pops together, n items, is
-- n moves, one after the other. Whatever the threads do is one list of moves.
use Rattle.std.specs.Prelude.{ℕ, ◌≡◌, ◌+◌, ◌<◌, ◌≤◌, Bool, true, false, List, [], ◌∷◌, ◌++◌, ◌==◌, length, map, take, drop, fold, count_by, Option, Some, None, slice_get, if◌then◌else◌}
use Rattle.std.specs.List.{cons_option}
use Rattle.evt_types.specs.Additions.{AreBeside, extras_of}
use Rattle.evt_types.specs.Operation.{is_answer, is_more_reply, is_new_reply}
use Rattle.evt_types.specs.Plan.{Plan, lanes_of}
use Rattle.evt_types.specs.declared.event.Reply.{Reply}
use Rattle.evt_types.specs.Limits.{most_extras}
use Rattle.evt_types.specs.declared.step.Step.{Step}
use Rattle.evt_types.specs.declared.step.Step.TheVariants as steps
use Rattle.transcripts.specs.Lawful.{Lawful, IsPrefix}
use Rattle.transcripts.specs.Replies.{said, replies_in}
use Rattle.transcripts.specs.Standing.{AreStepsOf, may_be_taken}
use Rattle.transcripts.specs.Transcript.{out, has_shut}

-- the transcript, and by lane how many deliveries were received and which replies were submitted
pub record World : Type 0 where
  pub log : List Step
  pub received : ℕ → ℕ
  pub submitted : ℕ → List Reply

-- nothing has happened
abbrev pub empty : World
empty = record { log = []; received = λ l. 0; submitted = λ l. [] }

-- the lane's hand, as (queue, number) pairs, oldest first: what was received, less as many from its front as answers were submitted.
-- A FORWARD_MORE answers nothing and leaves the hand as it is.
abbrev pub in_hand : World → ℕ → List (ℕ × ℕ)
in_hand w l = drop (count_by is_answer (w.submitted l)) (take (w.received l) (out w.log l))

-- the lane's first submitted reply that the transcript hasn't taken
abbrev pub next_untaken : World → ℕ → Option Reply
next_untaken w l = slice_get (w.submitted l) (length (replies_in w.log l))

-- ---- moves

pub data Move : Type 0 where
  -- a reply is appended to the lane's
  Submits : ℕ → Reply → Move
  -- the lane's first untaken reply is taken, by these steps
  Takes : ℕ → List Step → Move
  -- the lane is given the event of this number of the queue
  Gives : ℕ → ℕ → ℕ → Move
  -- the lane receives the next that it was given
  Receives : ℕ → Move
  -- the scheduler finds no room for a delivery to the lane
  Bounces : ℕ → Move
  -- the scheduler sees that the device is shut
  Shuts : Move

-- a NEW comes on a port's own lane, an answer where the lane's hand isn't empty, and a FORWARD_MORE there too, as long as few were
-- submitted for the first event of the hand
pub record MaySubmit (p : Plan) (w : World) (l : ℕ) (r : Reply) : Type 0 where
  pub own : is_new_reply r ≡ true → l < length p.ports
  pub held : is_answer r ≡ true → 0 < length (in_hand w l)
  pub beside : is_more_reply r ≡ true → (0 < length (in_hand w l)) × (extras_of (w.submitted l) < most_extras)

-- the lane's next reply may be taken, and these are its steps
pub record MayTake (p : Plan) (w : World) (l : ℕ) (taken : List Step) : Type 0 where
  pub reply : Reply
  pub next : next_untaken w l ≡ Some reply
  pub may : may_be_taken p w.log l reply.event ≡ true
  pub are : AreStepsOf p w.log l reply.event taken

abbrev pub May : Plan → World → Move → Type 0
May p w (Submits l r) = MaySubmit p w l r
May p w (Takes l taken) = MayTake p w l taken
May p w (Gives l q n) = Lawful p (w.log ++ steps.Give l q n ∷ [])
May p w (Receives l) = w.received l < length (out w.log l)
May p w (Bounces l) = l < lanes_of p
May p w Shuts = has_shut w.log ≡ false

-- the function with x for the lane
abbrev pub at_lane : {X : Type 0} → ℕ → X → (ℕ → X) → ℕ → X
at_lane l x f m = if m == l then x else f m

-- the world with more steps
abbrev pub with_steps : World → List Step → World
with_steps w more = record { log = w.log ++ more; received = w.received; submitted = w.submitted }

-- what a move makes of the world
abbrev pub moved : World → Move → World
moved w (Submits l r) = record { log = w.log; received = w.received; submitted = at_lane l (w.submitted l ++ r ∷ []) w.submitted }
moved w (Takes l taken) = with_steps w taken
moved w (Gives l q n) = with_steps w (steps.Give l q n ∷ [])
moved w (Receives l) = record { log = w.log; received = at_lane l (w.received l + 1) w.received; submitted = w.submitted }
moved w (Bounces l) = with_steps w (steps.Bounced l ∷ [])
moved w Shuts = with_steps w (steps.Shut ∷ [])

-- A run: the moves lead from one world to another, each being one that could be made where it was made.
abbrev pub LeadsTo : Plan → World → List Move → World → Type 0
LeadsTo p w [] v = w ≡ v
LeadsTo p w (m ∷ moves) v = May p w m × LeadsTo p (moved w m) moves v

-- the world after the first k moves
abbrev pub after_moves : List Move → ℕ → World
after_moves moves k = fold moved empty (take k moves)

-- ---- what was received

-- the pair that a move receives, where its lane is one of those that are asked for
abbrev pub receipt : (ℕ → Bool) → World → Move → Option (ℕ × ℕ)
receipt asked w (Receives l) = if asked l then slice_get (out w.log l) (w.received l) else None
receipt asked w s = None

abbrev pub receipts : (ℕ → Bool) → World → List Move → List (ℕ × ℕ)
receipts asked w [] = []
receipts asked w (m ∷ moves) = cons_option (receipt asked w m) (receipts asked (moved w m) moves)

-- what one lane receives in a run, and what all lanes receive, in the order of the moves
abbrev pub received_by : ℕ → List Move → List (ℕ × ℕ)
received_by l moves = receipts (λ m. m == l) empty moves

abbrev pub received_by_all : List Move → List (ℕ × ℕ)
received_by_all moves = receipts (λ m. true) empty moves

-- ---- how the lists of a world fit together

pub record IsConsistent (p : Plan) (w : World) : Type 0 where
  pub lawful : Lawful p w.log
  -- a lane received no more than it was given
  pub received : (l : ℕ) → w.received l ≤ length (out w.log l)
  -- it answered no more than it received
  pub fewer : (l : ℕ) → count_by is_answer (w.submitted l) ≤ w.received l
  -- it added each event beside one that it received, and few beside each
  pub beside : (l : ℕ) → AreBeside (w.received l) (w.submitted l)
  -- what was taken is the front of what was submitted
  pub taken : (l : ℕ) → IsPrefix (replies_in w.log l) (map said (w.submitted l))
  -- a lane that is no port's own has no NEW
  pub own : (l : ℕ) → length p.ports ≤ l → count_by is_new_reply (w.submitted l) ≡ 0
