-- What the flow lanes' ends have at stop: the ports' stints, no NEW, and all that the ports answered to them and held of them.
use Rattle.std.proofs.Common.{◌≡◌, ℕ, ◌+◌, ◌-◌, ◌<◌, ◌≤◌, Bool, true, false, cond, List, [], ◌∷◌, ◌++◌, length, map, get_or, All, refl, sym, ap, subst, ◌∙◌, arith}
use Rattle.std.specs.Prelude.{slice_get, Some, count_by, sum_by}
use Rattle.std.specs.List.{range_with_len}
use Rattle.std.proofs.lemmas.List.Elements.{All-cons, All-nil}
use Rattle.std.proofs.lemmas.Option.{get_or_from_slice_get, slice_get-get_or, slice_get_within}
use Rattle.lists.proofs.Lists.{slice_get-some}
use Rattle.lists.proofs.Parts.{count_by-cons}
use Rattle.lists.proofs.Sums.{sum_by_place}
use Rattle.lists.specs.Lists.{has}
use Rattle.evt_types.specs.Event.{pair_of}
use Rattle.evt_types.specs.Operation.{is_new_reply}
use Rattle.evt_types.specs.Plan.{Plan, flow_links}
use Rattle.evt_types.specs.declared.event.Reply.{Reply}
use Rattle.credit_pool.specs.declared.pool.CreditSeat.{CreditSeat}
use Rattle.credit_pool.specs.declared.pool.Credits.{Credits}
use Rattle.flow_claims.specs.Claims.{lanes_of, seating}
use Rattle.flow_claims.specs.Ends.{IsEnd}
use Rattle.flow_claims.specs.declared.claims.ClaimSeat.{ClaimSeat}
use Rattle.flow_claims.specs.declared.claims.Claims.{Claims}
use Rattle.lane_rings.specs.Ends.{answered, unanswered}
use Rattle.lane_rings.specs.declared.far.Far.{Far}
use Rattle.lane_rings.specs.declared.near.Near.{Near}
use Rattle.event_ports.proofs.AtStop as at_stop
use Rattle.event_ports.proofs.Stops.{shared}
use Rattle.event_ports.specs.Lanes.{held_of}
use Rattle.event_ports.specs.Ports.{hand}
use Rattle.event_ports.specs.Stop.{AreEnds, AreLinkedBy, IsCounted, IsJoined, IsPortOf, LinksAgree, flows_in}
use Rattle.event_ports.specs.declared.rest.Rest as left
use Rattle.event_ports.specs.declared.lane.Lane.TheVariants.{Own}
use Rattle.event_ports.specs.declared.port.Port.{Port}
use Rattle.flow_claims.specs.declared.seating.Past.{Past}
use Rattle.event_device.specs.Apart.{IsFlowEnd, own_end}
use Rattle.event_device.specs.Between.{rest_at, rest_between}
use Rattle.event_device.specs.Stop.{AreStints}
use Rattle.event_device.proofs.Found.{flow_end, past_own, rest_is}

-- items of which none is counted
none_counted : {X : Type 0} (p : X → Bool) (xs : List X) → count_by p xs ≡ 0 → All (λ x. p x ≡ false) xs
none_counted p [] none = All-nil (λ x. p x ≡ false)
none_counted p (x ∷ xs) none = All-cons (λ y. p y ≡ false) x xs (here (p x) refl) (none_counted p xs (omega (arith, none, count_by-cons p x xs)))
  where
    here : (b : Bool) → p x ≡ b → b ≡ false
    here true e =
        let weight : Bool → ℕ = λ c. cond c 1 0 in
        let counted : weight (p x) ≡ weight true = ap weight e in
        absurd (omega (arith, none, count_by-cons p x xs, counted))
    here false e = refl

module _ (pool : Credits) (claims : Claims) (credit : CreditSeat) (claim : ClaimSeat) (sorted : List Port) (credits_after : CreditSeat) (claims_after : ClaimSeat) (ends : List Far)
    (is : IsJoined pool claims credit claim sorted credits_after claims_after) (fresh : (seating claim).finished ≡ [])
    (ended : (j : ℕ) (far : Far) → slice_get ends j ≡ Some far → IsEnd (lanes_of claims) (seating claims_after).finished j far) (as_many : length ends ≡ length (lanes_of claims)) where
  are_ends : (far : Far) → AreEnds (lanes_of claims) (seating claims_after).finished (length (lanes_of claims)) (λ j. get_or ends j far)
  are_ends far j lt = ended j (get_or ends j far) (slice_get-get_or ends j far (omega (arith, lt, as_many)))

  -- each flow lane's end has what its stints had, whose ports are linked to it, and no NEW
  pub flow_ends : (linked : ℕ → ℕ → Bool) → All (LinksAgree linked) sorted → (j : ℕ) (far : Far) → slice_get ends j ≡ Some far → IsFlowEnd linked (seating claims_after).finished j far
  flow_ends linked agree j far at =
      let low : j < length (lanes_of claims) = omega (arith, slice_get_within ends j far at, as_many) in
      let none : AreLinkedBy linked (seating claim).finished = subst (AreLinkedBy linked) (sym fresh) (λ k x lt. absurd (omega (arith, lt))) in (
        shared linked (lanes_of claims) (seating claims_after).finished j far (is.linked linked agree none) (ended j far at),
        ap (λ (x : Far). count_by is_new_reply (answered x)) (sym (get_or_from_slice_get ends j far far at))
            ∙ at_stop.no_new pool claims credit claim sorted credits_after claims_after (λ k. get_or ends k far) is fresh (are_ends far) j low,
      )

  -- all that the ports held, and all that they answered to flow lanes
  pub held_by_ends : (far : Far) → All IsCounted sorted → All (IsPortOf pool claims) sorted
      → sum_by (λ (q : Port). length (hand q).holding) sorted ≡ sum_by (λ (q : Port). length (held_of Own (hand q).holding)) sorted + sum_by (λ (x : Far). length (unanswered x)) ends
  held_by_ends far counted of_these =
      let own : ℕ = sum_by (λ (q : Port). length (held_of Own (hand q).holding)) sorted in
      let f : Far → ℕ = λ x. length (unanswered x) in
      at_stop.all_held pool claims credit claim sorted credits_after claims_after (λ j. get_or ends j far) is fresh (are_ends far) counted of_these
      ∙ ap (λ m. own + m) (ap (λ k. sum_by (λ j. f (get_or ends j far)) (range_with_len 0 k)) (sym as_many) ∙ sum_by_place f ends far)

  pub answered_by_ends : (far : Far) (P : Reply → Bool) → sum_by (λ (x : Far). count_by P (answered x)) ends ≡ sum_by (flows_in P (length ends)) sorted
  answered_by_ends far P =
      let f : Far → ℕ = λ x. count_by P (answered x) in
      sym (sum_by_place f ends far)
      ∙ (ap (λ k. sum_by (λ j. f (get_or ends j far)) (range_with_len 0 k)) as_many
      ∙ (at_stop.all_counted pool claims credit claim sorted credits_after claims_after (λ j. get_or ends j far) is fresh (are_ends far) P ∙ ap (λ k. sum_by (flows_in P k) sorted) (sym as_many)))

-- ---- the lanes, of which the flow lanes' ends stand after the ports'

module _ (fars ends : List Far) (rests : List left.Rest) (n : ℕ) (are : fars ≡ map own_end rests ++ ends) (count : length rests ≡ n) (linked : ℕ → ℕ → Bool) (finished : List Past)
    (shared : (j : ℕ) (far : Far) → slice_get ends j ≡ Some far → IsFlowEnd linked finished j far) where
  -- no NEW came on a flow lane
  pub no_new_past : (l : ℕ) (far : Far) → n ≤ l → slice_get fars l ≡ Some far → count_by is_new_reply (answered far) ≡ 0
  no_new_past l far past at = (shared (l - n) far (past_own fars ends rests n l far are count past at)).1

  -- each flow lane's lists are those of its stints
  pub stints_are : (p : Plan) (nears : List Near) (j : ℕ) → length fars ≡ length nears → ((port lane : ℕ) → linked port lane ≡ has lane (flow_links p port)) → j < length ends
      → AreStints p j finished (rest_at nears fars (n + j))
  stints_are p nears j same by_plan low =
      let at = slice_get-some ends j low in
      let far : Far = at.0 in
      let at_far : slice_get fars (n + j) ≡ Some far = flow_end fars ends rests n j far are count at.1 in
      let near = slice_get-some nears (n + j) (omega (arith, slice_get_within fars (n + j) far at_far, same)) in
      let rest : rest_at nears fars (n + j) ≡ rest_between near.0 far = rest_is nears fars (n + j) near.0 far near.1 at_far in
      let has_shared = (shared j far at.1).0 in
      subst (AreStints p j finished) (sym rest)
      (record {
        past = has_shared.past;
        recorded = has_shared.recorded;
        linked = λ k x lt. sym (by_plan (get_or has_shared.past k x).port j) ∙ has_shared.linked_ports k x lt;
        received = has_shared.received;
        answered_is = has_shared.answered_is;
        no_news = none_counted is_new_reply (answered far) (shared j far at.1).1;
        in_record = has_shared.in_record;
        among = has_shared.among;
        once = has_shared.once;
        held = ap (map pair_of) (sym has_shared.left);
        done = has_shared.done;
        final = has_shared.final;
        last = ap (map pair_of) has_shared.last;
      })
