-- The moves of a log: how a world that is found at the end came about, in the order of its log.
use Rattle.std.specs.Prelude.{ℕ, List, [], ◌∷◌, ◌++◌, nat_lt, length, map, drop, flat_map, slice_index_or, if◌then◌else◌}
use Rattle.evt_types.specs.Event.{release_event}
use Rattle.evt_types.specs.Plan.{Plan, lanes}
use Rattle.evt_types.specs.declared.event.Reply.{Reply}
use Rattle.evt_types.specs.declared.step.Source.TheVariants.{New, Of}
use Rattle.evt_types.specs.declared.step.Step.{Step}
use Rattle.evt_types.specs.declared.step.Step.TheVariants.{Accept, Give, Done, More, Turned, Bounced, Shut}
use Rattle.transcripts.specs.Replies.{replies_in}
use Rattle.transcripts.specs.Transcript.{out, is_from_of}
use Rattle.world_laws.specs.World.{World, Move, Submits, Takes, Gives, Receives, Bounces, Shuts}

-- the lane's reply that comes after those that these steps took; a release where there is none
abbrev pub reply_after : World → List Step → ℕ → Reply
reply_after v P l = slice_index_or (v.submitted l) (length (replies_in P l)) (record { event = release_event })

-- the Accepts at the front of what was passed on
abbrev pub forwards_first : List Step → List Step
forwards_first [] = []
forwards_first (s ∷ rest) = if is_from_of s then s ∷ forwards_first rest else []

-- a reply is submitted just before it is taken
abbrev pub reply_moves : World → List Step → ℕ → List Step → List Move
reply_moves v P l taken = Submits l (reply_after v P l) ∷ Takes l taken ∷ []

-- The moves of the step that stands in the log between P and the rest. A delivery that was received is received just after its
-- Give; the Accepts after an answer or an addition, of what was passed on, are among its steps.
abbrev pub moves_at : World → List Step → List Step → Step → List Move
moves_at v P rest (Accept q e (New l)) = reply_moves v P l (Accept q e (New l) ∷ [])
moves_at v P rest (Accept q e (Of r n)) = []
moves_at v P rest (Done l o) = reply_moves v P l (Done l o ∷ forwards_first rest)
moves_at v P rest (More l e) = reply_moves v P l (More l e ∷ forwards_first rest)
moves_at v P rest (Turned l e) = reply_moves v P l (Turned l e ∷ [])
moves_at v P rest (Give l q n) = Gives l q n ∷ (if nat_lt (length (out P l)) (v.received l) then Receives l ∷ [] else [])
moves_at v P rest (Bounced l) = Bounces l ∷ []
moves_at v P rest Shut = Shuts ∷ []

abbrev pub moves_from : World → List Step → List Step → List Move
moves_from v P [] = []
moves_from v P (s ∷ rest) = moves_at v P rest s ++ moves_from v (P ++ s ∷ []) rest

-- the lane's replies that weren't taken are submitted
abbrev pub untaken_moves : World → ℕ → List Move
untaken_moves v l = map (Submits l) (drop (length (replies_in v.log l)) (v.submitted l))

-- the moves of the whole log, and then the Submits of what wasn't taken, lane by lane
abbrev pub as_logged : Plan → World → List Move
as_logged p v = moves_from v [] v.log ++ flat_map (untaken_moves v) (lanes p)
