-- Once all entries are free, the seat holds no lane.
use Rattle.std.proofs.Common.{rules, ◌≡◌, ◌≤◌, ◌∙◌, true, get_or, length, arith, ap, subst, refl}
use Rattle.lists.specs.Lists.{has}
use Rattle.flow_claims.specs.Claims.{IsSeatOf, lanes_of, seating}
use Rattle.event_ports.specs.Flows.{FlowSite, hands_of}
use Rattle.event_ports.proofs.Calls.{ends_kept, free_below, kept_more, kept_none}
use Rattle.event_ports.proofs.Turns.{holds_none, none_at_all}
use Rattle.event_ports.proofs.flows.FlowLanes.into_seat.Goals as goal

pub returns-clause-none_open : goal.returns-clause-none_open
returns-clause-none_open c =
    let end : length c.loop-lane.self.stints.items ≤ c.loop-lane.lane = search rules in
    holds_none _ c.loop-lane.self.seat c.loop-lane.self.stints.items _ c.loop-lane.self.are
    (none_at_all _ _ refl (λ j lt. c.loop-lane.invariant.2 j (omega (arith, end, lt))))

pub loop-lane-init : goal.loop-lane-init
loop-lane-init c = (refl, kept_none (hands_of c.args.self), (λ j lt. absurd (omega (arith, lt))))

pub surrender-requires : goal.surrender-requires
surrender-requires c =
    omega (arith, c.loop-lane-test.true, c.len-lane-end.ensures, c.args.self.are.entries, ap (λ (p : FlowSite). length (lanes_of p.claims)) c.loop-lane.invariant.0)

pub loop-lane-preserved : goal.loop-lane-preserved
loop-lane-preserved c =
    let was = c.loop-lane.invariant in
    let before = hands_of c.loop-lane.self in
    let after = hands_of c.surrender.new.self in (
      c.surrender.ensures.site ∙ was.0,
      kept_more (hands_of c.args.self) before after was.1 c.surrender.ensures.kept,
      free_below before after c.loop-lane.lane was.2 c.surrender.ensures.free c.surrender.ensures.elsewhere,
    )

pub returns-clause-seat : goal.returns-clause-seat
returns-clause-seat c =
    let site = c.loop-lane.invariant.0 in
    (subst (λ (p : FlowSite). IsSeatOf p.claims c.loop-lane.self.seat) site c.loop-lane.self.are.seat_of, ap (λ (p : FlowSite). p.port) site)

pub returns-clause-parts : goal.returns-clause-parts
returns-clause-parts c = ap (λ (p : FlowSite). p.parts) c.loop-lane.invariant.0

pub returns-clause-lists : goal.returns-clause-lists
returns-clause-lists c =
    let end : length c.loop-lane.self.stints.items ≤ c.loop-lane.lane = search rules in
    ends_kept (hands_of c.args.self) (hands_of c.loop-lane.self) c.loop-lane.invariant.1 (none_at_all _ _ refl (λ j lt. c.loop-lane.invariant.2 j (omega (arith, end, lt))))

pub returns-clause-linked : goal.returns-clause-linked
returns-clause-linked c k d lt =
    let site = c.loop-lane.invariant.0 in
    let are = c.loop-lane.self.are in
    (are.ports.finished k d lt ∙ ap (λ (p : FlowSite). p.port) site, subst (λ (p : FlowSite). has (get_or (seating c.loop-lane.self.seat).finished k d).lane p.links ≡ true) site (are.linked k d lt))
