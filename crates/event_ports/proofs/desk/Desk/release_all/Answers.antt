-- Something is held until all was released.
use Rattle.std.proofs.Common.{◌≡◌, ◌≢◌, ◌<◌, ◌∙◌, ℕ, ◌+◌, ◌%◌, ◌^◌, [], length, refl, sym, ap, subst, arith}
use Rattle.evt_types.specs.declared.event.Event.{Event}
use Rattle.event_ports.specs.Flows.{hands_of}
use Rattle.event_ports.specs.Handed.{hand_of}
use Rattle.event_ports.specs.Lanes.{Releases, SubmitsTo, first_lane, reply_of}
use Rattle.event_ports.specs.Desks.{hand, own_site, pocket_of}
use Rattle.event_ports.proofs.Claiming.{asks_then}
use Rattle.event_ports.proofs.Refusals.{filled_first}
use Rattle.event_ports.proofs.Released.{at_lanes, one_more_credit, releases_more, releases_still, some_left}
use Rattle.event_ports.proofs.desk.Desk.release_all.Goals as goal

pub loop-released-preserved : goal.loop-released-preserved
loop-released-preserved c =
    let was = c.loop-released.invariant in
    let submitted = subst (λ (e : Event). SubmitsTo (first_lane (hand c.loop-released.self).holding) (reply_of e) (hand c.loop-released.self) (hand_of c.answer.new.self)) c.release.ensures c.in_default.ensures.submitted in (
      ap (at_lanes (own_site c.loop-released.self)) c.answer.ensures.site ∙ was.0,
      was.1,
      releases_more c.loop-released.released (hand c.args.self.now) (hand c.loop-released.self) (hand_of c.answer.new.self) was.2 submitted,
      one_more_credit (pocket_of c.args.self.now) c.loop-released.released (pocket_of c.loop-released.self) _ was.3 refl,
      was.4,
      c.answer.ensures.asks.loads ∙ was.5,
      c.answer.ensures.asks.reads ∙ was.6,
    )

pub returns-in-Err-clause-behind : goal.returns-in-Err-clause-behind
returns-in-Err-clause-behind c =
    let was = c.loop-released.invariant in
    let rests = c.in-Err.ensures.submitted in
    let few : c.loop-released.released < length (hand c.args.self.now).holding = omega (arith, c.loop-released-test.true, was.4) in
    let some : (hand_of c.answer.new.self).holding ≢ [] = λ none. some_left c.loop-released.released (hand c.args.self.now) (hand c.loop-released.self) was.2 few (sym rests.holding ∙ none) in (
      few,
      releases_still c.loop-released.released (hand c.args.self.now) (hand c.loop-released.self) (hand_of c.answer.new.self) was.2 rests,
      filled_first c.answer.new.self.own (hands_of c.answer.new.self.flows) (hand_of c.answer.new.self).holding c.in-Err.field-0 some c.in-Err.ensures.refused,
      was.3,
    )

pub returns-clause-ok : goal.returns-clause-ok
returns-clause-ok c =
    let was = c.loop-released.invariant in
    let all : c.loop-released.released ≡ length (hand c.args.self.now).holding = omega (arith, c.loop-released-test.false, c.loop-released.auto.released-end, was.4) in
    subst (λ (n : ℕ). Releases n (hand c.args.self.now) (hand c.loop-released.self) × (pocket_of c.loop-released.self ≡ (pocket_of c.args.self.now + n) % 2 ^ 64)) all (was.2, was.3)

pub returns-in-Err-clause-asks : goal.returns-in-Err-clause-asks
returns-in-Err-clause-asks c =
    let was = c.loop-released.invariant in
    asks_then _ _ _ (record { loads = was.5; reads = was.6 }) c.answer.ensures.asks

pub returns-clause-asks : goal.returns-clause-asks
returns-clause-asks c =
    let was = c.loop-released.invariant in
    record { loads = was.5; reads = was.6 }
