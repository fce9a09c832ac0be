use Rattle.std.proofs.Common.{◌∙◌, ap, drop, length, refl, subst}
use Rattle.flow_claims.specs.Holder.{AnswersWith}
use Rattle.flow_claims.specs.Open.{start_in}
use Rattle.flow_claims.specs.Seats.{stint_at}
use Rattle.flow_claims.proofs.Grown.{answered_more, answered_open}
use Rattle.flow_claims.proofs.claim.Stint.answer.Goals as goal

pub invariant_of-self : goal.invariant_of-self
invariant_of-self c = record { small = c.args.self.now.small }

pub returns-clause-far : goal.returns-clause-far
returns-clause-far c =
    let got = c.answer.ensures in
    subst (λ far. AnswersWith far c.args.reply c.answer.result c.answer.new.self) (c.deref_mut.ensures.value ∙ c.far.view_is)
    (record { lane = got.lane; received = got.received; answered_is = got.answered; held = got.held; nothing_held = got.nothing_held; too_many = got.too_many; refused = got.refused })

pub returns-clause-lane : goal.returns-clause-lane
returns-clause-lane c = (refl, refl)

pub returns-clause-open : goal.returns-clause-open
returns-clause-open c v is =
    let got = returns-clause-far c in
    answered_open v c.args.self.now _ c.args.reply c.answer.result refl refl got.lane got.received.0 got.answered_is is

pub returns-clause-so_far : goal.returns-clause-so_far
returns-clause-so_far c v is =
    answered_more (start_in (stint_at v c.args.self.now.lane)) c.args.self.now.far c.answer.new.self c.args.reply c.answer.result is.goes_on (returns-clause-far c).answered_is

pub returns-clause-received : goal.returns-clause-received
returns-clause-received c v = ap (drop (length (start_in (stint_at v c.args.self.now.lane)).received)) (returns-clause-far c).received.0
