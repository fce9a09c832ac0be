use Rattle.std.proofs.Common.{◌≡◌, ◌∙◌, ℕ, Bool, true, false, ◌||◌, ◌++◌, length, map, All, refl, sym, ap, subst, arith}
use Rattle.std.specs.Prelude.{slice_get, Some}
use Rattle.lists.proofs.Lists.{slice_get-some}
use Rattle.lists.specs.Lists.{has}
use Rattle.credit_pool.specs.Pool.{account, limit_of}
use Rattle.credit_pool.specs.declared.account.Account.{Account}
use Rattle.evt_types.specs.Plan.{Plan, flow_lanes, flow_links}
use Rattle.flow_claims.specs.Claims as claims
use Rattle.flow_claims.specs.Ends.{IsEnd}
use Rattle.lane_rings.specs.Ends.{answered, held_list}
use Rattle.lane_rings.specs.Identity.{far_id}
use Rattle.lane_rings.specs.declared.far.Far.{Far}
use Rattle.event_ports.specs.Stop.{AreStintsOf, LinksAgree}
use Rattle.event_device.specs.Apart.{own_end}
use Rattle.event_device.specs.Device.{ControlSite, Device}
use Rattle.event_device.proofs.FlowEnds.{answered_by_ends, flow_ends, held_by_ends}
use Rattle.event_device.proofs.Members.{claim_parts, credit_parts, flow_lane_count, flows_counted, links_agree, seats_are, sorted_count}
use Rattle.event_device.proofs.Settings.{all_ends, ends_count, left_count, map_map}
use Rattle.event_device.proofs.apart.Apart.join_seats.Goals as goal

pub join_ports-credit-requires-clause-ports : goal.join_ports-credit-requires-clause-ports
join_ports-credit-requires-clause-ports c =
    let is = c.requires.apart in
    seats_are is.device c.args.self.ports.items c.deref.result.now c.deref-2.result.now is.ports_are (sym is.pool ∙ sym c.deref.ensures)
    (sym (ap (λ (x : ControlSite). x.claims) is.control_is) ∙ sym c.deref-2.ensures)

pub close-requires-clause-whole : goal.close-requires-clause-whole
close-requires-clause-whole c =
    let is = c.requires.apart in
    omega (
      arith,
      c.join_ports-credit.ensures.joined.flow_parts,
      claim_parts is.device c.args.self.ports.items is.ports_are,
      ap (λ (x : ControlSite). x.claim_parts) is.control_is,
      sorted_count (length is.device.plan.ports) c.args.self.ports.items is.numbers,
      is.within.port_count.1,
    )

pub close-requires-clause-room : goal.close-requires-clause-room
close-requires-clause-room c =
    let is = c.requires.apart in (
      c.requires.ends.0,
      omega (
        arith,
        ap (λ x. length (claims.lanes_of x)) (c.deref-3.ensures ∙ ap (λ (x : ControlSite). x.claims) is.control_is),
        flow_lane_count is.device is.fits,
        ap (λ (p : Plan). length (flow_lanes p)) is.plan,
        c.requires.ends.1,
      ),
    )

pub close-free-requires-clause-whole : goal.close-free-requires-clause-whole
close-free-requires-clause-whole c =
    let is = c.requires.apart in
    omega (
      arith,
      ap (λ (v : Account). v.parts) c.join-seat.ensures.account,
      is.one_part,
      c.join_ports-credit.ensures.joined.parts,
      credit_parts is.device c.args.self.ports.items is.ports_are,
      ap (λ (x : ControlSite). x.credit_parts) is.control_is,
      sorted_count (length is.device.plan.ports) c.args.self.ports.items is.numbers,
      is.within.port_count.1,
    )

or_second : (a b : Bool) → b ≡ true → (a || b) ≡ true
or_second true b is = refl
or_second false b is = is

or_first : (a b : Bool) → b ≡ false → (a || b) ≡ true → a ≡ true
or_first true b not is = refl
or_first false b not is = absurd (cc)

pub returns : goal.returns
returns c =
    let is = c.requires.apart in
    let d : Device = is.device in
    let sorted = c.args.self.ports.items in
    let all = is.ports_are in
    let rests = c.join_ports-credit.new.into.items in
    let left = c.join_ports-credit.ensures.left in
    let joined = c.join_ports-credit.ensures.joined in
    let ends = c.close.new.into.items in
    let pool = c.deref.result.now in
    let its_claims = c.deref-2.result.now in
    let control = c.args.self.control in
    let after = c.join_ports-credit.result in
    let seat = c.args.self.parts.seat in
    let Ended : _ → Type 0 = λ x. (j : ℕ) (far : Far) → slice_get ends j ≡ Some far → IsEnd (claims.lanes_of x) (claims.seating after.1).finished j far in
    let ended : Ended its_claims = subst Ended (c.deref-3.ensures ∙ sym c.deref-2.ensures) c.close.ensures.ends in
    let of_claims = sym (ap (λ (x : ControlSite). x.claims) is.control_is) ∙ sym c.deref-2.ensures in
    let closed : map far_id ends ≡ map far_id (claims.lanes_of d.claims) =
    c.close.ensures.order ∙ ap (λ x. map far_id (claims.lanes_of x)) (c.deref-3.ensures ∙ ap (λ (x : ControlSite). x.claims) is.control_is) in
    let ends_is : length ends ≡ length (flow_lanes d.plan) = ends_count d ends is.fits closed in
    let as_claims : length ends ≡ length (claims.lanes_of its_claims) =
    ends_is ∙ (sym (flow_lane_count d is.fits) ∙ ap (λ x. length (claims.lanes_of x)) of_claims) in
    let count = left_count sorted rests left ∙ sorted_count (length d.plan.ports) sorted is.numbers in
    let far : Far = (slice_get-some rests 0 (omega (arith, count, is.within.port_count.0))).0.own in
    let Linked : Plan → Type 0 = λ x. All (LinksAgree (λ port lane. has lane (flow_links x port))) sorted in
    let limit_is : limit_of c.deref-5.result.now ≡ d.plan.limit = ap limit_of (c.deref-5.ensures ∙ is.pool) ∙ is.fits.limit in
    let joined_account = c.join-seat.ensures.account in
    let fresh = control.no_stint.1 in
    record {
      core = refl;
      nears = refl;
      own = refl;
      left = left;
      lanes = is.lanes ∙ sym (all_ends d sorted rests ends is.fits all is.numbers left closed);
      flows = ends_is ∙ ap (λ (x : Plan). length (flow_lanes x)) (sym is.plan);
      finished = (claims.seating after.1).finished;
      stints = subst (AreStintsOf sorted) (sym (joined.finished ∙ ap (λ ps. ps ++ joined.stints) fresh)) joined.ports_are;
      shared = flow_ends pool its_claims control.credit control.claim sorted after.0 after.1 ends joined fresh ended as_claims (λ port lane. has lane (flow_links c.args.self.parts.core.shape port))
          (subst Linked (sym is.plan) (links_agree d sorted all));
      ends_are = record {
        answered_is = map_map answered own_end rests ∙ left.answered_is;
        held = map_map held_list own_end rests ∙ left.ordered;
        holding = held_by_ends pool its_claims control.credit control.claim sorted after.0 after.1 ends joined fresh ended as_claims far c.join_ports-credit.ensures.counted
            (seats_are d sorted pool its_claims all (sym is.pool ∙ sym c.deref.ensures) of_claims);
        flows = answered_by_ends pool its_claims control.credit control.claim sorted after.0 after.1 ends joined fresh ended as_claims far;
        counts = flows_counted d sorted (length ends) all (flow_lane_count d is.fits ∙ sym ends_is);
      };
      paid = c.join_ports-credit.ensures.paid;
      free = omega (
        arith,
        c.close-free.ensures.free,
        limit_is,
        ap (λ (x : Plan). x.limit) is.plan,
        ap (λ (v : Account). v.drawn) joined_account,
        ap (λ (v : Account). v.returned) joined_account,
        is.undrawn,
        joined.drawn,
        joined.returned,
        control.unused.0,
        control.unused.1,
      );
      shut = λ (seen : (account seat).saw_shut ≡ true).
          let saw : (account c.join-seat.result).saw_shut ≡ true = ap (λ (v : Account). v.saw_shut) joined_account ∙ or_second (account after.0).saw_shut (account seat).saw_shut seen in
          sym joined.bit ∙ or_first (account after.0).set_shut (account seat).set_shut is.unset (sym (ap (λ (v : Account). v.set_shut) joined_account) ∙ c.close-free.ensures.shut saw);
    }
