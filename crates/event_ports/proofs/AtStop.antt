-- What the ports held of flow lanes and answered to them, and what the lanes' ends have once all seats are one.
use Rattle.std.proofs.Common.{◌≡◌, ℕ, ◌+◌, ◌<◌, Bool, cond, List, [], length, get_or, All, refl, sym, ap, ◌∙◌, arith, count_by, sum_by}
use Rattle.std.specs.List.{range_with_len}
use Rattle.lists.proofs.Sums.{sum_of_none}
use Rattle.evt_types.specs.Operation.{is_new_reply}
use Rattle.evt_types.specs.declared.event.Reply.{Reply}
use Rattle.lane_rings.specs.Ends.{answered, unanswered}
use Rattle.lane_rings.specs.declared.far.Far.{Far}
use Rattle.credit_pool.specs.declared.pool.Credits.{Credits}
use Rattle.credit_pool.specs.declared.pool.CreditSeat.{CreditSeat}
use Rattle.flow_claims.specs.declared.claims.Claims.{Claims}
use Rattle.flow_claims.specs.declared.claims.ClaimSeat.{ClaimSeat}
use Rattle.flow_claims.specs.Claims.{seating, lanes_of}
use Rattle.event_ports.specs.declared.port.Port.{Port}
use Rattle.event_ports.specs.declared.lane.Lane.TheVariants.{Own, Flow}
use Rattle.event_ports.specs.Holds.{left_past, answered_past}
use Rattle.event_ports.specs.Lanes.{held_of}
use Rattle.event_ports.specs.Ports.{hand}
use Rattle.event_ports.specs.Stop.{AreEnds, IsCounted, IsPortOf, IsJoined, counted_past, flows_in}
use Rattle.event_ports.proofs.Endings.{held}
use Rattle.event_ports.proofs.Stops.{at_one, counted}
use Rattle.event_ports.proofs.Totals.{sum_within, sum_of_two, sum_of_sums}

-- ---- all lanes and all ports

module _ (pool : Credits) (claims : Claims) (credit : CreditSeat) (claim : ClaimSeat) (ports : List Port) (credits_after : CreditSeat) (claims_after : ClaimSeat) (ends : ℕ → Far)
    (is : IsJoined pool claims credit claim ports credits_after claims_after) (fresh : (seating claim).finished ≡ [])
    (are : AreEnds (lanes_of claims) (seating claims_after).finished (length (lanes_of claims)) ends) where
  lane_held : (j : ℕ) → j < length (lanes_of claims) → sum_by (λ p. length (held_of (Flow j) (hand p).holding)) ports ≡ length (unanswered (ends j))
  lane_held j lt =
      omega (
        arith,
        is.held j,
        ap (λ ps. length (left_past j ps)) fresh,
        held (lanes_of claims) (seating claims_after).finished j (ends j) (are j lt),
      )

  pub all_held : All IsCounted ports → All (IsPortOf pool claims) ports
      → sum_by (λ p. length (hand p).holding) ports ≡ sum_by (λ p. length (held_of Own (hand p).holding)) ports + sum_by (λ j. length (unanswered (ends j))) (range_with_len 0 (length (lanes_of claims)))
  all_held counted of_these =
      let n : ℕ = length (lanes_of claims) in
      let own : Port → ℕ = λ p. length (held_of Own (hand p).holding) in
      let flow : Port → ℕ → ℕ = λ p j. length (held_of (Flow j) (hand p).holding) in
      sum_of_two (λ p. length (hand p).holding) own (λ p. sum_by (flow p) (range_with_len 0 n)) ports
      (λ k d lt.
      let p : Port = get_or ports k d in
      counted k d lt ∙ ap (λ (c : Claims). own p + sum_by (flow p) (range_with_len 0 (length (lanes_of c)))) (of_these k d lt).claims_are)
      ∙ ap (λ m. sum_by own ports + m) (sum_of_sums flow n ports ∙ sum_within (λ j. sum_by (λ p. flow p j) ports) (λ j. length (unanswered (ends j))) 0 n n (omega arith) lane_held)

  pub all_counted : (P : Reply → Bool) → sum_by (λ j. count_by P (answered (ends j))) (range_with_len 0 (length (lanes_of claims))) ≡ sum_by (flows_in P (length (lanes_of claims))) ports
  all_counted P =
      let n : ℕ = length (lanes_of claims) in
      let before : counted_past P n (seating claim).finished ≡ 0 = ap (counted_past P n) fresh ∙ sum_of_none (λ (j : ℕ). 0) (range_with_len 0 n) (λ k d lt. refl) in
      omega (arith, counted P n (lanes_of claims) (seating claims_after).finished ends are, is.counted_is P n, before)

  pub no_new : (j : ℕ) → j < length (lanes_of claims) → count_by is_new_reply (answered (ends j)) ≡ 0
  no_new j lt =
      let none : count_by is_new_reply (answered_past j (seating claims_after).finished) ≡ 0 = is.no_new (λ i. ap (λ ps. count_by is_new_reply (answered_past i ps)) fresh) j in
      sym (at_one is_new_reply j (seating claims_after).finished ∙ (are j lt).answered (λ r. cond (is_new_reply r) 1 0)) ∙ none
