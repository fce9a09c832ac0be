use Rattle.std.proofs.Common.{◌∙◌, ap, drop, length, refl, subst}
use Rattle.flow_claims.specs.Holder.{SubmitsWith}
use Rattle.flow_claims.specs.Open.{start_in}
use Rattle.flow_claims.specs.Seats.{stint_at}
use Rattle.flow_claims.proofs.Grown.{answered_more, answered_open}
use Rattle.lane_rings.specs.Refusal.{reply_of}
use Rattle.flow_claims.proofs.claim.Stint.submit.Goals as goal

pub returns-clause-far : goal.returns-clause-far
returns-clause-far c =
    let got = c.submit.ensures in
    subst (λ far. SubmitsWith far (reply_of c.args.event.now) c.submit.result c.submit.new.self) (c.deref_mut.ensures.value ∙ c.far.view_is)
    (record { lane = got.lane; received = got.received; answered_is = got.answered; held = got.held; nothing_held = got.nothing_held; too_many = got.too_many; refused = got.refused })

pub returns-clause-received : goal.returns-clause-received
returns-clause-received c v = ap (drop (length (start_in (stint_at v c.args.self.now.lane)).received)) (returns-clause-far c).received.0

pub returns-clause-open : goal.returns-clause-open
returns-clause-open c v is =
    let got = returns-clause-far c in
    answered_open v c.args.self.now _ (reply_of c.args.event.now) c.submit.result refl refl got.lane got.received.0 got.answered_is is

pub returns-clause-lane : goal.returns-clause-lane
returns-clause-lane c = (refl, refl)

pub returns-clause-so_far : goal.returns-clause-so_far
returns-clause-so_far c v is =
    answered_more (start_in (stint_at v c.args.self.now.lane)) c.args.self.now.far c.submit.new.self (reply_of c.args.event.now) c.submit.result is.goes_on (returns-clause-far c).answered_is

pub invariant_of-self : goal.invariant_of-self
invariant_of-self c = record { small = c.args.self.now.small }
