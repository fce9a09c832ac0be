-- One port more is joined, and what is left of it is added.
use Rattle.std.proofs.Common.{rules, ◌≡◌, ◌≤◌, ◌∙◌, ◌∷◌, [], ℕ, ◌+◌, length, map, subst, ap, sym, List, arith, append_assoc, ◌++◌}
use Rattle.std.proofs.lemmas.List.{length-map, length-append}
use Rattle.lane_rings.specs.Ends.{received_by, answered, held_list}
use Rattle.lane_rings.specs.Identity.{far_id}
use Rattle.credit_pool.specs.Pool.{account}
use Rattle.credit_pool.specs.Pockets.{IsPocket}
use Rattle.flow_claims.specs.Claims.{seating}
use Rattle.event_ports.specs.declared.rest.Rest.{Rest}
use Rattle.event_ports.specs.declared.lane.Lane.TheVariants.{Own, Flow}
use Rattle.event_ports.specs.declared.port.Port.{Port}
use Rattle.event_ports.specs.Ports.{own_site, account_of, pocket_of, hand, mores_by, news_by, releases_by}
use Rattle.event_ports.specs.Lanes.{held_of, pair_in}
use Rattle.event_ports.specs.Stop.{LinksAgree, flows_in, IsPaid, IsCounted}
use Rattle.std.proofs.lemmas.List.Elements.{All-push}
use Rattle.lists.proofs.Lists.{All-last, All-front}
use Rattle.event_ports.proofs.Joining.{sum_one_more, counts_more, held_more, no_new_more, linked_more, one_more, stints_more}
use Rattle.event_ports.proofs.joined.join_ports.Goals as goal

pub push_reserved-requires : goal.push_reserved-requires
push_reserved-requires c =
    let rests = c.loop-port.invariant.1 in
    let same : length c.loop-port.into.items ≡ length c.loop-port.yielded =
    sym (length-map c.loop-port.into.items (λ (r : Rest). r.pocket)) ∙ ap length rests.pockets ∙ length-map c.loop-port.yielded pocket_of in
    let left : c.loop-port.port-iterator.rest.items ≡ c.in-Some.port ∷ c.next.new.self.rest.items = search rules in
    omega (arith, same, ap length left, c.loop-port.invariant.5)

pub loop-port-preserved : goal.loop-port-preserved
loop-port-preserved c =
    let was = c.loop-port.invariant.0 in
    let rests = c.loop-port.invariant.1 in
    let now = c.join_port-its_credit.ensures in
    let port : Port = c.in-Some.port in
    let rest : Rest = c.join_port-its_credit.result.2 in
    let ports : List Port = c.loop-port.yielded in
    let left : c.loop-port.port-iterator.rest.items ≡ port ∷ c.next.new.self.rest.items = search rules in
    let paid : IsPaid port = subst (λ (n : ℕ). IsPocket n ((account_of port).drawn + releases_by port) ((account_of port).returned + news_by port + mores_by port)) now.paid.0 now.paid.1 in
    let seat = account c.join_port-its_credit.result.0 in (
      record {
        credit_of = now.credit.0;
        claim_of = (now.claim.0, now.claim.1 ∙ was.claim_of.1);
        none_open = now.stints.none_open;
        drawn = sum_one_more (λ p. (account_of p).drawn) _ (account c.loop-port.credit).drawn seat.drawn ports port was.drawn (ap (λ v. v.drawn) now.credit.1);
        returned = sum_one_more (λ p. (account_of p).returned) _ (account c.loop-port.credit).returned seat.returned ports port was.returned (ap (λ v. v.returned) now.credit.1);
        parts = sum_one_more (λ p. (account_of p).parts) _ (account c.loop-port.credit).parts seat.parts ports port was.parts (ap (λ v. v.parts) now.credit.1);
        bit = now.bit ∙ was.bit;
        flow_parts = sum_one_more (λ p. (own_site p).lanes.flows.parts) _ (seating c.loop-port.claim).parts _ ports port was.flow_parts now.stints.parts;
        stints = was.stints ++ now.stints.stints;
        finished = now.stints.finished ∙ (ap (λ ps. ps ++ now.stints.stints) was.finished ∙ append_assoc _ was.stints now.stints.stints);
        ports_are = stints_more ports port was.stints now.stints.stints was.ports_are now.stints.lists now.stints.linked;
        counted_is = λ P n. sum_one_more (flows_in P n) _ _ _ ports port (was.counted_is P n) (counts_more P n port (seating c.loop-port.claim) (seating c.join_port-its_credit.result.1) now.stints);
        held = λ j. sum_one_more (λ p. length (held_of (Flow j) (hand p).holding)) _ _ _ ports port (was.held j) (held_more port (seating c.loop-port.claim) (seating c.join_port-its_credit.result.1) j now.stints);
        no_new = λ none. no_new_more port (seating c.loop-port.claim) (seating c.join_port-its_credit.result.1) now.stints now.no_new (was.no_new none);
        linked = λ linked all first.
            linked_more linked port (seating c.loop-port.claim) (seating c.join_port-its_credit.result.1) now.stints (All-last (LinksAgree linked) ports port all)
            (was.linked linked (All-front (LinksAgree linked) ports (port ∷ []) all) first);
      },
      record {
        numbers = one_more (λ (r : Rest). r.number) (λ (p : Port). (own_site p).number) c.loop-port.into.items _ rest ports port c.push_reserved.ensures.items rests.numbers now.number;
        lanes = one_more (λ (r : Rest). far_id r.own) (λ (p : Port). (own_site p).lanes.own) c.loop-port.into.items _ rest ports port c.push_reserved.ensures.items rests.lanes now.own.0;
        received = one_more (λ (r : Rest). received_by r.own) (λ (p : Port). (hand p).got Own) c.loop-port.into.items _ rest ports port c.push_reserved.ensures.items rests.received now.own.1;
        answered_is = one_more (λ (r : Rest). answered r.own) (λ (p : Port). (hand p).said Own) c.loop-port.into.items _ rest ports port c.push_reserved.ensures.items rests.answered_is now.own.2;
        held = one_more (λ (r : Rest). r.held.items) (λ (p : Port). (hand p).holding) c.loop-port.into.items _ rest ports port c.push_reserved.ensures.items rests.held now.held;
        ordered = one_more (λ (r : Rest). held_list r.own) (λ (p : Port). map pair_in (held_of Own (hand p).holding)) c.loop-port.into.items _ rest ports port c.push_reserved.ensures.items rests.ordered (sym now.ordered);
        pockets = one_more (λ (r : Rest). r.pocket) pocket_of c.loop-port.into.items _ rest ports port c.push_reserved.ensures.items rests.pockets now.paid.0;
        within = All-push (λ (p : Port). length (hand p).holding ≤ (own_site p).lanes.depth) ports port rests.within now.within;
      },
      All-push IsPaid ports port c.loop-port.invariant.2 paid,
      All-push IsCounted ports port c.loop-port.invariant.3 now.counted,
      c.push_reserved.ensures.capacity ∙ c.loop-port.invariant.4,
      omega (arith, ap length left, c.loop-port.invariant.5, c.push_reserved.ensures.capacity, length-append ports (port ∷ [])),
    )
