use Rattle.std.proofs.Common.{◌<◌, ◌∙◌, ap, drop, length, refl, subst, sym}
use Rattle.lane_rings.specs.Ends.{unanswered}
use Rattle.lane_rings.specs.Identity.{far_id}
use Rattle.flow_claims.specs.Holder.{Receives}
use Rattle.flow_claims.specs.Open.{start_in}
use Rattle.flow_claims.specs.Seats.{stint_at}
use Rattle.flow_claims.proofs.Grown.{open_still, received_goes_on, received_more}
use Rattle.flow_claims.proofs.claim.Stint.receive.Goals as goal

pub receive-requires : goal.receive-requires
receive-requires c = subst (λ far. length (unanswered far) < (far_id far).depth) (sym (c.deref_mut.ensures.value ∙ c.far.view_is)) c.requires

pub invariant_of-self : goal.invariant_of-self
invariant_of-self c = record { small = c.args.self.now.small }

pub returns-clause-far : goal.returns-clause-far
returns-clause-far c =
    let got = c.receive.ensures in
    subst (λ far. Receives far c.receive.result c.receive.new.self) (c.deref_mut.ensures.value ∙ c.far.view_is)
    (record { lane = got.lane; answered_is = got.answered; received = got.received; held = got.held; next = got.next; none = got.none })

pub returns-clause-open : goal.returns-clause-open
returns-clause-open c v is =
    let got = returns-clause-far c in
    open_still v c.args.self.now _ refl refl got.lane
    (λ goes. received_goes_on (start_in (stint_at v c.args.self.now.lane)) c.args.self.now.far c.receive.new.self c.receive.result goes got.answered_is got.received) is

pub returns-clause-lane : goal.returns-clause-lane
returns-clause-lane c = (refl, refl)

pub returns-clause-so_far : goal.returns-clause-so_far
returns-clause-so_far c v is = received_more (start_in (stint_at v c.args.self.now.lane)) c.args.self.now.far c.receive.new.self c.receive.result is.goes_on (returns-clause-far c).received

pub returns-clause-answered : goal.returns-clause-answered
returns-clause-answered c v = ap (drop (length (start_in (stint_at v c.args.self.now.lane)).answered)) (returns-clause-far c).answered_is
