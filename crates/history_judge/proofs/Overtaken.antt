-- Events of one flow that are got in the other order than they were sent fit no run.
use Rattle.std.specs.Prelude.{ℕ, ◌≡◌, List, Some}
use Rattle.std.proofs.Common.{ap, ◌∙◌, arith}
use Rattle.evt_types.specs.Plan.{Plan}
use Rattle.evt_types.specs.declared.event.Event.{Event}
use Rattle.transcripts.specs.Transcript.{event_at}
use Rattle.history_judge.proofs.Numbers.{numbers_rise}
use Rattle.history_judge.proofs.Received.{WasReceived, first_is_lower, was_received}
use Rattle.history_judge.specs.Breaches.{IsOvertaken}
use Rattle.history_judge.specs.Histories.{IsImpossible}
use Rattle.history_judge.specs.declared.seen.Seen.{Seen}

pub overtaken_fits_none : (p : Plan) (hs : List Seen) (i j : ℕ) → IsOvertaken p hs i j → IsImpossible p hs
overtaken_fits_none p hs i j b moves v clock x =
    omega (
      arith,
      numbers_rise p hs moves v clock x i j b.one b.other b.ports b.sender b.later d.queue one.pair.1 other.pair.1 one.event other.event one.accepted one.value accepted_there other.value,
      first_is_lower p hs moves v clock x i j b.one.getter b.other.getter d e b.other.dequeued one other b.same b.before,
    )
  where
    d : Event
    d = b.one.reply.event

    e : Event
    e = b.other.reply.event

    one : WasReceived hs moves v clock i b.one.getter d
    one = was_received p hs moves v clock x i b.one

    other : WasReceived hs moves v clock j b.other.getter e
    other = was_received p hs moves v clock x j b.other

    accepted_there : event_at v.log d.queue other.pair.1 ≡ Some other.event
    accepted_there = ap (λ q. event_at v.log q other.pair.1) b.same.queue ∙ other.accepted
