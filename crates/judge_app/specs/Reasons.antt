-- What shows that a step breaks its clause: read off the steps before it.
use Rattle.std.specs.Prelude.{ℕ, ◌==◌, List, length, Option, Some, None, if◌then◌else◌}
use Rattle.evt_types.specs.Plan.{Plan}
use Rattle.evt_types.specs.declared.step.Source.{Source}
use Rattle.evt_types.specs.declared.step.Source.TheVariants.{New, Of}
use Rattle.evt_types.specs.declared.step.Step.{Step}
use Rattle.evt_types.specs.declared.step.Step.TheVariants.{Accept, Give, Done, More, Turned, Bounced, Shut}
use Rattle.transcript_judge.specs.declared.verdict.Clause.{Clause}
use Rattle.transcript_judge.specs.declared.verdict.Clause.TheVariants.{Answers, Extras, Once, Linked, Depth, Flow, Alone, Order, Origin, Closed}
use Rattle.transcripts.specs.Transcript.{extras, unanswered}
use Rattle.judge_app.specs.Gifts.{full, given_again, passed, shared, unserved}
use Rattle.judge_app.specs.Orders.{out_of_order}
use Rattle.judge_app.specs.Scans.{shut_place}
use Rattle.judge_app.specs.declared.reason.Gift.{Gift}
use Rattle.judge_app.specs.declared.reason.Reason.{Reason}
use Rattle.judge_app.specs.declared.reason.Reason.TheVariants as reasons

-- of a Give
abbrev pub gift_reason : Plan → List Step → Clause → Gift → Option Reason
gift_reason p T Once g = given_again T g
gift_reason p T Linked g = unserved T g
gift_reason p T Depth g = Some (full T g.lane)
gift_reason p T Flow g = passed p T g
gift_reason p T Alone g = shared p T g
gift_reason p T c g = None

-- of an Accept from #n of q
abbrev pub forward_reason : Plan → List Step → Clause → ℕ → ℕ → Option Reason
forward_reason p T Order q n = out_of_order p T q n
forward_reason p T Origin q n = Some (reasons.Foreign q n)
forward_reason p T c q n = None

-- of an answer of the lane, or of an event that it adds
abbrev pub extra_reason : List Step → ℕ → Reason
extra_reason T l = if length (unanswered T l) == 0 then reasons.Idle l else reasons.Added l (length (extras T l))

abbrev pub answer_reason : List Step → Clause → ℕ → Option Reason
answer_reason T Answers l = Some (reasons.Idle l)
answer_reason T Extras l = Some (extra_reason T l)
answer_reason T c l = None

-- of what is new, or turned away, or of Shut
abbrev pub shut_reason : Option ℕ → Reason
shut_reason None = reasons.Open
shut_reason (Some at) = reasons.Shut at

abbrev pub closed_reason : List Step → Clause → Option Reason
closed_reason T Closed = Some (shut_reason (shut_place T))
closed_reason T c = None

abbrev pub accept_reason : Plan → List Step → Clause → Source → Option Reason
accept_reason p T c (New l) = closed_reason T c
accept_reason p T c (Of q n) = forward_reason p T c q n

abbrev pub reason_of : Plan → List Step → Clause → Step → Option Reason
reason_of p T c (Accept q e s) = accept_reason p T c s
reason_of p T c (Give l q n) = gift_reason p T c (record { lane = l; queue = q; number = n })
reason_of p T c (Done l o) = answer_reason T c l
reason_of p T c (More l e) = answer_reason T c l
reason_of p T c (Turned l e) = closed_reason T c
reason_of p T c (Bounced l) = None
reason_of p T c Shut = closed_reason T c
