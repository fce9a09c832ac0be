-- The account at stop: where each event that was brought in is, and that these and the free credits are the limit.
use Rattle.std.specs.Prelude.{ℕ, ◌+◌, Bool, not, List, length, count_by, sum_by}
use Rattle.evt_types.specs.Operation.{is_more_reply, is_new_reply, is_release_reply}
use Rattle.evt_types.specs.Plan.{Plan, lanes, queues}
use Rattle.evt_types.specs.declared.event.Reply.{Reply}
use Rattle.evt_types.specs.declared.step.Step.{Step}
use Rattle.transcripts.specs.Transcript.{kept, waiting}
use Rattle.world_laws.specs.Rest.{Rest, still_held}

-- a reply with an event: every one but a RELEASE
abbrev pub has_event : Reply → Bool
has_event r = not (is_release_reply r)

-- how many events a lane at rest has: undelivered, held, and in replies that weren't taken
abbrev pub events_at : Rest → ℕ
events_at r = length r.undelivered + length (still_held r) + count_by has_event r.untaken

-- how many events are in the device when it stops: waiting, kept, and with each lane
abbrev pub events_left : Plan → List Step → (ℕ → Rest) → ℕ
events_left p T rest =
    sum_by (λ q. length (waiting T q)) (queues p) + sum_by (λ q. length (kept T q)) (queues p) + sum_by (λ l. events_at (rest l)) (lanes p)

-- how many NEWs, how many FORWARD_MOREs, and how many RELEASEs the lanes' holders submitted
abbrev pub news_submitted : Plan → (ℕ → Rest) → ℕ
news_submitted p rest = sum_by (λ l. count_by is_new_reply (rest l).answered) (lanes p)

abbrev pub mores_submitted : Plan → (ℕ → Rest) → ℕ
mores_submitted p rest = sum_by (λ l. count_by is_more_reply (rest l).answered) (lanes p)

abbrev pub releases_submitted : Plan → (ℕ → Rest) → ℕ
releases_submitted p rest = sum_by (λ l. count_by is_release_reply (rest l).answered) (lanes p)
