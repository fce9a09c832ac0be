-- What contracts see of a scheduler, and what it is for a scheduler to stand at a transcript.
use Rattle.std.specs.Prelude.{ℕ, ◌≡◌, ◌<◌, true, List, [], ◌++◌, map, All, Some, slice_index_or, IsTrue}
use Rattle.std.specs.Arc.{arc_value}
use Rattle.credit_pool.specs.Accounts.{Stays}
use Rattle.credit_pool.specs.Pockets.{IsPocket}
use Rattle.credit_pool.specs.Pool.{account}
use Rattle.credit_pool.specs.declared.account.Account.{Account}
use Rattle.credit_pool.specs.declared.pool.Credits.{Credits}
use Rattle.evt_types.specs.Event.{pair_of}
use Rattle.evt_types.specs.Plan.{lanes_of, depth_of}
use Rattle.evt_types.specs.declared.event.Delivery.{Delivery}
use Rattle.evt_types.specs.declared.event.Reply.{Reply}
use Rattle.evt_types.specs.declared.step.Step.{Step}
use Rattle.lane_rings.specs.Ends.{offered, seen_replies, taken}
use Rattle.lane_rings.specs.Identity.{LaneId, near_id}
use Rattle.lane_rings.specs.declared.near.Near.{Near}
use Rattle.transcripts.specs.Replies.{said, replies_in, new_count, turned_count}
use Rattle.transcripts.specs.Standing.{View, Stands}
use Rattle.transcripts.specs.Transcript.{event_at, has_shut, out}
use Rattle.event_scheduler.specs.declared.scheduler.Scheduler.{Scheduler}

-- what never changes of a scheduler, beside its configuration
pub record Site : Type 0 where
  pub pool : Credits
  pub lanes : List LaneId

-- a scheduler, to clauses
pub record Sight : Type 0 where
  pub site : Site
  pub core : View
  pub offered : List (List Delivery)
  pub taken : List (List Reply)
  -- what was seen of each lane's replies and isn't taken
  pub seen : List (List Reply)
  pub account : Account
  pub pocket : ℕ
  pub accepted_new : ℕ

abbrev pub sight : Credits → View → List Near → Account → ℕ → ℕ → Sight
sight pool core lanes account pocket accepted_new =
    record {
      site = record { pool = pool; lanes = map near_id lanes };
      core = core;
      offered = map offered lanes;
      taken = map taken lanes;
      seen = map seen_replies lanes;
      account = account;
      pocket = pocket;
      accepted_new = accepted_new;
    }

abbrev pub sight_of : Scheduler → Sight
sight_of s = sight (arc_value s.pool) s.core s.lanes.items (account s.seat) s.pocket s.accepted_new

-- the depth of a lane's ring, what was offered to the lane, and what was taken from it
abbrev pub depth_in : LaneId → ℕ
depth_in lane = lane.depth

abbrev pub depth_at : Sight → ℕ → ℕ
depth_at v l = slice_index_or (map depth_in v.site.lanes) l 0

abbrev pub offered_at : Sight → ℕ → List Delivery
offered_at v l = slice_index_or v.offered l []

abbrev pub taken_at : Sight → ℕ → List Reply
taken_at v l = slice_index_or v.taken l []

abbrev pub seen_at : Sight → ℕ → List Reply
seen_at v l = slice_index_or v.seen l []

-- the delivery has the event that was accepted under its number
abbrev pub IsAccepted : List Step → Delivery → Type 0
IsAccepted T d = event_at T d.queue d.number ≡ Some d.event

-- The scheduler stands at a transcript: its core does; each lane was offered what the transcript gave it, each delivery with the
-- accepted event of its number; from each lane were taken the replies that the transcript took; it counts what was accepted as new;
-- in its pocket is the credit of what was turned away, less what it gave back; and where the transcript has Shut its seat has read
-- the shut bit.
pub record Serves (T : List Step) (v : Sight) : Type 0 where
  pub stands : Stands T v.core
  pub offered : (l : ℕ) → map pair_of (offered_at v l) ≡ out T l
  pub events : (l : ℕ) → All (IsAccepted T) (offered_at v l)
  pub taken : (l : ℕ) → map said (taken_at v l) ≡ replies_in T l
  pub depths : (l : ℕ) → l < lanes_of v.core.shape → depth_at v l ≡ depth_of v.core.shape l
  pub accepted_new : v.accepted_new ≡ new_count T
  pub own : IsPocket v.pocket (turned_count T) v.account.returned
  pub shut : has_shut T ≡ true → IsTrue v.account.saw_shut

-- From one scheduler and log to another by these steps: wherever the scheduler stood, it stands at the longer transcript.
pub record Runs (steps : List Step) (s : Sight) (log : List Step) (t : Sight) (longer : List Step) : Type 0 where
  pub logged : longer ≡ log ++ steps
  pub serves : (T : List Step) → Serves T s → Serves (T ++ steps) t
  pub site : t.site ≡ s.site
  pub shape : t.core.shape ≡ s.core.shape
  pub account : Stays s.account t.account
