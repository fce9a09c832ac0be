-- What a single step did.
use Rattle.std.specs.Prelude.{ℕ, Bool, false, ◌==◌, is_some, Option, Some, None}
use Rattle.evt_types.specs.declared.step.Outcome.{Outcome}
use Rattle.evt_types.specs.declared.step.Outcome.TheVariants.{Forwarded, Released}
use Rattle.evt_types.specs.declared.step.Source.TheVariants.{New, Of}
use Rattle.evt_types.specs.declared.step.Step.{Step}
use Rattle.evt_types.specs.declared.step.Step.TheVariants.{Accept, Give, Done, More, Turned, Bounced, Shut}
use Rattle.transcripts.specs.Transcript.{accepted_in, given_of, source_in}
use Rattle.judge_app.specs.declared.reason.Gift.{Gift}

-- the number, if it is this one
abbrev pub is_number : ℕ → Option ℕ → Bool
is_number n None = false
is_number n (Some m) = m == n

-- what is given, and to which lane
abbrev pub gift_of : Step → Option Gift
gift_of (Accept q e s) = None
gift_of (Give l q n) = Some (record { lane = l; queue = q; number = n })
gift_of (Done l o) = None
gift_of (More l e) = None
gift_of (Turned l e) = None
gift_of (Bounced l) = None
gift_of Shut = None

-- from which event another one is accepted
abbrev pub source_of : Step → Option (ℕ × ℕ)
source_of (Accept q e (New l)) = None
source_of (Accept q e (Of r n)) = Some (r, n)
source_of (Give l q n) = None
source_of (Done l o) = None
source_of (More l e) = None
source_of (Turned l e) = None
source_of (Bounced l) = None
source_of Shut = None

-- whether the queue accepts an event; whether the queue's number is given; whether an event is accepted from it
abbrev pub accepts : ℕ → Step → Bool
accepts q s = is_some (accepted_in q s)

abbrev pub gives : ℕ → ℕ → Step → Bool
gives q n s = is_number n (given_of q s)

abbrev pub takes : ℕ → ℕ → Step → Bool
takes q n s = is_number n (source_in q s)

-- the lane that passes an event on, by a FORWARD or by adding it
abbrev pub passed_with : ℕ → Outcome → Option ℕ
passed_with l Released = None
passed_with l (Forwarded e) = Some l

abbrev pub passer_of : Step → Option ℕ
passer_of (Accept q e s) = None
passer_of (Give l q n) = None
passer_of (Done l o) = passed_with l o
passer_of (More l e) = Some l
passer_of (Turned l e) = None
passer_of (Bounced l) = None
passer_of Shut = None
