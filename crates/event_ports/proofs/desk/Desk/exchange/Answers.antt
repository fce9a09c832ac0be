-- What was released first, and what arrived then.
use Rattle.std.proofs.Common.{rules, ◌+◌, ◌∙◌, List, ap, subst, [], length, arith}
use Rattle.evt_types.specs.declared.event.Delivery.{Delivery}
use Rattle.event_ports.specs.declared.lane.Lane.TheVariants.{Own}
use Rattle.event_ports.specs.Claiming.{ClaimsEach}
use Rattle.event_ports.specs.Handed.{hand_of, seating_of}
use Rattle.event_ports.specs.Lanes.{Arrives}
use Rattle.event_ports.specs.Desks.{DeskSite, claim_seating, hand, links}
use Rattle.event_ports.proofs.Claiming.{claims_after, claims_none}
use Rattle.event_ports.proofs.Released.{dequeues_where, dequeues_released, same_credit}
use Rattle.event_ports.proofs.desk.Desk.exchange.Goals as goal

pub returns-then-not-self-clause-ok : goal.returns-then-not-self-clause-ok
returns-then-not-self-clause-ok c =
    dequeues_where c.args.self.now.implicit (links c.args.self.now) (length (hand c.args.self.now).holding) (hand c.args.self.now) (hand_of c.receive_all.new.self) c.receive_all.new.into.items
    (search rules) c.receive_all.ensures.arrived

pub returns-then-not-self-clause-pocket : goal.returns-then-not-self-clause-pocket
returns-then-not-self-clause-pocket c = same_credit c.args.self.now.implicit (length (hand c.args.self.now).holding) c.args.self.now.pocket (search rules) (omega arith)

pub returns-clause-ok : goal.returns-clause-ok
returns-clause-ok c =
    let released = c.in_ok-released.ensures.ok in
    let From = λ (p : DeskSite). Arrives p.lanes.flows.links (hand c.release_all.new.self) (hand_of c.receive_all-2.new.self) [] c.receive_all-2.new.into.items in
    dequeues_released c.args.self.now.implicit (links c.args.self.now) (length (hand c.args.self.now).holding) (hand c.args.self.now) (hand c.release_all.new.self) (hand_of c.receive_all-2.new.self)
    c.receive_all-2.new.into.items (search rules) released.0 (subst From c.release_all.ensures.site c.receive_all-2.ensures.arrived)

pub returns-clause-own_first : goal.returns-clause-own_first
returns-clause-own_first c ne =
    c.receive_all-2.ensures.own_first (λ e. ne (e ∙ ap (λ (ds : List Delivery). length ds + length c.receive_all-2.new.into.items) (c.in_ok-released.ensures.ok.0.got Own)))

pub returns-then-not-self-clause-claims : goal.returns-then-not-self-clause-claims
returns-then-not-self-clause-claims c = c.receive_all.ensures.claims

pub returns-in_err-released-clause-claims : goal.returns-in_err-released-clause-claims
returns-in_err-released-clause-claims c = claims_none _ _ _ c.release_all.ensures.asks

pub returns-clause-claims : goal.returns-clause-claims
returns-clause-claims c =
    let Of = λ (p : DeskSite). ClaimsEach p.lanes.flows.links (claim_seating c.release_all.new.self) (seating_of c.receive_all-2.new.self) in
    claims_after (links c.args.self.now) (claim_seating c.args.self.now) (claim_seating c.release_all.new.self) (seating_of c.receive_all-2.new.self) c.release_all.ensures.asks
    (subst Of c.release_all.ensures.site c.receive_all-2.ensures.claims)
