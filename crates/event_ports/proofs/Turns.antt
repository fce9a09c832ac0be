-- What a call on one flow lane makes of what a port has of all of them.
use Rattle.std.proofs.Common.{◌≡◌, ◌≢◌, ℕ, suc, ◌<◌, Bool, true, false, List, [], ◌∷◌, ◌++◌, length, drop, set, Option, Some, None, Result, Ok, Err, All, MatchResult, refl, sym, ap, ◌∙◌, subst, arith, append-nil, append_assoc}
use Rattle.std.proofs.lemmas.List.{length-set, get_or-set_other}
use Rattle.std.proofs.lemmas.Option.{none-some}
use Rattle.std.proofs.lemmas.List.Elements.{All-push}
use mathlib.Core.Logic.{dite}
use native.Mathlib.Decide.{ℕ_discrete, dec_le}
use Rattle.lists.specs.Lists.{has}
use Rattle.evt_types.specs.declared.event.Delivery.{Delivery}
use Rattle.evt_types.specs.declared.event.Reply.{Reply}
use Rattle.lane_rings.specs.Ends.{answered, answers_among, unanswered, Comes}
use Rattle.evt_types.specs.Additions.{extras_of, more_after}
use Rattle.flow_claims.specs.declared.claim.Stint.{Stint}
use Rattle.flow_claims.specs.declared.claims.Claims.{Claims}
use Rattle.flow_claims.specs.declared.claims.ClaimSeat.{ClaimSeat}
use Rattle.flow_claims.specs.declared.seating.Past.{Past}
use Rattle.flow_claims.specs.declared.seating.Seating.{Seating}
use Rattle.flow_claims.specs.Answers.{KeepsPort, EndsStint}
use Rattle.flow_claims.specs.Claims.{seating, port_of, lanes_of, IsSeatOf}
use Rattle.flow_claims.specs.Open.{IsOpen, received_so_far, answered_so_far}
use Rattle.flow_claims.specs.Seats.{stint_at, find_lane, IsPorts}
use Rattle.flow_claims.specs.Stints.{left_in, received_in, answered_in}
use Rattle.flow_claims.proofs.Held.{nothing_held}
use Rattle.lane_rings.specs.declared.hints.LaneSet.{LaneSet}
use Rattle.event_ports.specs.Looks.{HasHeld}
use Rattle.event_ports.specs.Holds.{entry_at, IsHeldAt, AreFlows, stints_at, received_past, answered_past, left_past, surrendered_past, left_on, LeavesFree, received_now, answered_now, extras_now, held_now, Hands, received_on, answered_on, extras_on, Kept, Same, SameBut, Gets, Brings, Says}
use Rattle.event_ports.proofs.Extras.{extras_push, none_extra}
use Rattle.event_ports.proofs.Unanswered.{left_here, left_other, surrendered, none_surrendered, others_surrendered}
use Rattle.event_ports.proofs.Entries.{Stints, hands, each_entry, moved, free_entry, held_at_entry, past_entries, past_more, other_stints, same_but, received_here, answered_here, extras_here, held_here, all_same}

module _ (claims : Claims) (links : List ℕ) where
  ports_stay : (seat after : ClaimSeat) → KeepsPort seat after → IsPorts (port_of seat) (seating seat) → IsPorts (port_of after) (seating after)
  ports_stay seat after keeps is = let P : ℕ → Type 0 = λ p. IsPorts p (seating after) in subst P (sym keeps.port) (keeps.all is)

  port_stays : (seat after : ClaimSeat) → KeepsPort seat after → port_of seat < 254 → port_of after < 254
  port_stays seat after keeps lt = omega (arith, keeps.port, lt)

  linked_stay : (v w : Seating) → w.finished ≡ v.finished → All (λ p. has p.lane links ≡ true) v.finished → All (λ p. has p.lane links ≡ true) w.finished
  linked_stay v w e all = let P : List Past → Type 0 = λ ps. All (λ p. has p.lane links ≡ true) ps in subst P (sym e) all

  -- a claim that was refused
  pub refused : (seat after : ClaimSeat) (ss : Stints) → AreFlows claims seat ss links → IsSeatOf claims after → KeepsPort seat after
      → (seating after).held ≡ (seating seat).held → (seating after).finished ≡ (seating seat).finished → AreFlows claims after ss links
  refused seat after ss are seat_of keeps held finished = record {
    seat_of = seat_of;
    port = port_stays seat after keeps are.port;
    entries = are.entries;
    links_exist = are.links_exist;
    each = λ j. moved links (seating seat) (seating after) j (entry_at ss j) (ap (find_lane j) held) (seat_of.1 ∙ sym are.seat_of.1) (are.each j);
    ports = ports_stay seat after keeps are.ports;
    linked = linked_stay (seating seat) (seating after) finished are.linked;
  }

  -- a claim that was granted
  pub claimed : (seat after : ClaimSeat) (ss : Stints) (lane : ℕ) (stint : Stint) → AreFlows claims seat ss links → IsSeatOf claims after → KeepsPort seat after
      → (seating after).finished ≡ (seating seat).finished → ((j : ℕ) → j ≢ lane → stint_at (seating after) j ≡ stint_at (seating seat) j)
      → lane < length (lanes_of claims) → has lane links ≡ true → stint.lane ≡ lane → IsOpen (seating after) stint → AreFlows claims after (set ss lane (Some stint)) links
  claimed seat after ss lane stint are seat_of keeps finished others lt linked same open_is = record {
    seat_of = seat_of;
    port = port_stays seat after keeps are.port;
    entries = length-set ss lane (Some stint) ∙ are.entries;
    links_exist = are.links_exist;
    each = each_entry links (seating seat) (seating after) ss lane (Some stint) (omega (arith, are.entries, lt)) (seat_of.1 ∙ sym are.seat_of.1) others are.each
        (held_at_entry links (seating after) lane stint (record { lane_is = same; open_is = open_is; linked = linked }));
    ports = ports_stay seat after keeps are.ports;
    linked = linked_stay (seating seat) (seating after) finished are.linked;
  }

  -- the end of a stint
  pub ended : (seat after : ClaimSeat) (ss : Stints) (lane : ℕ) (stint : Stint) (gone : Bool) → AreFlows claims seat ss links → EndsStint claims gone stint seat after
      → entry_at ss lane ≡ Some stint → lane < length (lanes_of claims) → AreFlows claims after (set ss lane None) links
  ended seat after ss lane stint gone are ends at lt =
      let held : IsHeldAt links (seating seat) lane stint = (are.each lane).held stint at in
      let Linked : List Past → Type 0 = λ ps. All (λ p. has p.lane links ≡ true) ps in
      let its_lane : ends.piece.0.lane ≡ lane = ends.piece.2.lane ∙ held.lane_is in
      record {
        seat_of = ends.seat;
        port = port_stays seat after ends.port are.port;
        entries = length-set ss lane None ∙ are.entries;
        links_exist = are.links_exist;
        each = each_entry links (seating seat) (seating after) ss lane None (omega (arith, are.entries, lt)) (ends.seat.1 ∙ sym are.seat_of.1)
            (λ j ne. ends.others j (λ e. ne (e ∙ held.lane_is))) are.each (free_entry links (seating after) lane (ap (stint_at (seating after)) (sym held.lane_is) ∙ ends.closed));
        ports = ports_stay seat after ends.port are.ports;
        linked = subst Linked (sym ends.piece.1)
            (All-push (λ p. has p.lane links ≡ true) (seating seat).finished ends.piece.0 are.linked (ap (λ n. has n links) its_lane ∙ held.linked));
      }

  -- a call through the stint's end
  pub turned : (seat : ClaimSeat) (ss : Stints) (lane : ℕ) (stint new : Stint) → AreFlows claims seat ss links → entry_at ss lane ≡ Some stint → lane < length (lanes_of claims)
      → new.lane ≡ stint.lane → (IsOpen (seating seat) stint → IsOpen (seating seat) new) → AreFlows claims seat (set ss lane (Some new)) links
  turned seat ss lane stint new are at lt same open_is =
      let held : IsHeldAt links (seating seat) lane stint = (are.each lane).held stint at in
      record {
        seat_of = are.seat_of;
        port = are.port;
        entries = length-set ss lane (Some new) ∙ are.entries;
        links_exist = are.links_exist;
        each = each_entry links (seating seat) (seating seat) ss lane (Some new) (omega (arith, are.entries, lt)) refl (λ j ne. refl) are.each
            (held_at_entry links (seating seat) lane new (record { lane_is = same ∙ held.lane_is; open_is = open_is held.open_is; linked = held.linked }));
        ports = are.ports;
        linked = are.linked;
      }

  -- the lists after a claim
  pub claim_same : (seat after : ClaimSeat) (ss : Stints) (lane : ℕ) (stint : Stint) → AreFlows claims seat ss links → (seating after).finished ≡ (seating seat).finished
      → ((j : ℕ) → j ≢ lane → stint_at (seating after) j ≡ stint_at (seating seat) j) → lane < length (lanes_of claims) → entry_at ss lane ≡ None
      → received_so_far (seating after) stint ≡ [] → answered_so_far (seating after) stint ≡ [] → unanswered stint.far ≡ []
      → Same (hands (seating seat) ss) (hands (seating after) (set ss lane (Some stint)))
  claim_same seat after ss lane stint are finished others lt free received answered held =
      let v : Seating = seating seat in
      let w : Seating = seating after in
      let new : Option Stint = Some stint in
      let within : lane < length ss = omega (arith, are.entries, lt) in
      all_same lane (hands v ss) (hands w (set ss lane new)) (same_but links v w ss lane new others (λ j ne. ap (stints_at j) finished) are.each)
      (received_here links v w ss lane new within ∙ (λ i. received_past lane (finished i) ++ received i) ∙ sym (ap (λ o. received_past lane v.finished ++ received_now v o) free))
      (answered_here links v w ss lane new within ∙ (λ i. answered_past lane (finished i) ++ answered i) ∙ sym (ap (λ o. answered_past lane v.finished ++ answered_now v o) free))
      (held_here links v w ss lane new within ∙ held ∙ sym (ap held_now free)) (extras_here links v w ss lane new within ∙ none_extra stint.far held ∙ sym (ap extras_now free))
      (λ j. ap (surrendered_past j) finished)

  -- after the end of a stint, but for what is held
  module _ (seat after : ClaimSeat) (ss : Stints) (lane : ℕ) (stint : Stint) (gone : Bool) (are : AreFlows claims seat ss links) (ends : EndsStint claims gone stint seat after) (at : entry_at ss lane ≡ Some stint) (lt : lane < length (lanes_of claims)) where
    held : IsHeldAt links (seating seat) lane stint
    held = (are.each lane).held stint at

    within : lane < length ss
    within = omega (arith, are.entries, lt)

    its_lane : ends.piece.0.lane ≡ lane
    its_lane = ends.piece.2.lane ∙ held.lane_is

    pub ended_but : SameBut lane (hands (seating seat) ss) (hands (seating after) (set ss lane None))
    ended_but = same_but links (seating seat) (seating after) ss lane None (λ j ne. ends.others j (λ e. ne (e ∙ held.lane_is)))
        (λ j ne. ap (stints_at j) ends.piece.1 ∙ other_stints (seating seat).finished ends.piece.0 lane j its_lane ne) are.each

    pub ended_received : received_on (hands (seating after) (set ss lane None)) lane ≡ received_on (hands (seating seat) ss) lane
    ended_received =
        received_here links (seating seat) (seating after) ss lane None within ∙ append-nil (received_past lane (seating after).finished)
        ∙ ap (received_past lane) ends.piece.1 ∙ past_more received_in lane (seating seat).finished ends.piece.0 its_lane
        ∙ ap (λ r. received_past lane (seating seat).finished ++ r) ends.piece.2.received
        ∙ sym (ap (λ o. received_past lane (seating seat).finished ++ received_now (seating seat) o) at)

    pub ended_answered : answered_on (hands (seating after) (set ss lane None)) lane ≡ answered_on (hands (seating seat) ss) lane
    ended_answered =
        answered_here links (seating seat) (seating after) ss lane None within ∙ append-nil (answered_past lane (seating after).finished)
        ∙ ap (answered_past lane) ends.piece.1 ∙ past_more answered_in lane (seating seat).finished ends.piece.0 its_lane
        ∙ ap (λ r. answered_past lane (seating seat).finished ++ r) ends.piece.2.answered
        ∙ sym (ap (λ o. answered_past lane (seating seat).finished ++ answered_now (seating seat) o) at)

    pub ended_left : gone ≡ true → (j : ℕ) → left_on (hands (seating after) (set ss lane None)) j ≡ left_on (hands (seating seat) ss) j
    ended_left surrenders j =
        let p : Past = ends.piece.0 in
        let At : ℕ → Type 0 = λ i. left_on (hands (seating after) (set ss lane None)) i ≡ left_on (hands (seating seat) ss) i in
        let here : left_past lane (seating after).finished ≡ left_past lane (seating seat).finished ++ unanswered stint.far =
        left_here (seating seat).finished (seating after).finished p lane ends.piece.1 its_lane
        ∙ ap (λ r. left_past lane (seating seat).finished ++ r) (surrendered p (ends.piece.2.surrendered_is ∙ surrenders) ∙ ap left_in ends.piece.2.lists) in
        dite (ℕ_discrete j lane)
        (λ e.
        subst At (sym e)
        (ap (λ r. left_past lane (seating after).finished ++ r) (held_here links (seating seat) (seating after) ss lane None within) ∙ append-nil (left_past lane (seating after).finished) ∙ here
        ∙ sym (ap (λ o. left_past lane (seating seat).finished ++ held_now o) at)))
        (λ ne. (λ i. left_other (seating seat).finished (seating after).finished p lane ends.piece.1 its_lane j ne i ++ ended_but.held j ne i))

    pub ended_free : LeavesFree (hands (seating seat) ss) (hands (seating after) (set ss lane None))
    ended_free j none =
        let ne : j ≢ lane = λ e. none-some stint (sym none ∙ ap (entry_at ss) e ∙ at) in
        (get_or-set_other ss lane j None None ne ∙ none, others_surrendered (seating seat).finished (seating after).finished ends.piece.0 lane ends.piece.1 its_lane j ne)

    pub left_same : gone ≡ false → unanswered stint.far ≡ [] → Same (hands (seating seat) ss) (hands (seating after) (set ss lane None))
    left_same gives none =
        all_same lane (hands (seating seat) ss) (hands (seating after) (set ss lane None)) ended_but ended_received ended_answered
        (held_here links (seating seat) (seating after) ss lane None within ∙ sym none ∙ sym (ap held_now at))
        (extras_here links (seating seat) (seating after) ss lane None within ∙ sym (none_extra stint.far none) ∙ sym (ap extras_now at))
        (none_surrendered (seating seat).finished (seating after).finished ends.piece.0 lane ends.piece.1 its_lane (ends.piece.2.surrendered_is ∙ gives))

  -- after a call through the stint's end
  module _ (seat : ClaimSeat) (ss : Stints) (lane : ℕ) (stint new : Stint) (are : AreFlows claims seat ss links) (at : entry_at ss lane ≡ Some stint) (lt : lane < length (lanes_of claims)) where
    inside : lane < length ss
    inside = omega (arith, are.entries, lt)

    but : SameBut lane (hands (seating seat) ss) (hands (seating seat) (set ss lane (Some new)))
    but = same_but links (seating seat) (seating seat) ss lane (Some new) (λ j ne. refl) (λ j ne. refl) are.each

    received_is : (more : List Delivery) → received_so_far (seating seat) new ≡ received_so_far (seating seat) stint ++ more
        → received_on (hands (seating seat) (set ss lane (Some new))) lane ≡ received_on (hands (seating seat) ss) lane ++ more
    received_is more e =
        let past : List Delivery = received_past lane (seating seat).finished in
        received_here links (seating seat) (seating seat) ss lane (Some new) inside ∙ ap (λ r. past ++ r) e ∙ sym (append_assoc past (received_so_far (seating seat) stint) more)
        ∙ sym (ap (λ o. (past ++ received_now (seating seat) o) ++ more) at)

    answered_is : (more : List Reply) → answered_so_far (seating seat) new ≡ answered_so_far (seating seat) stint ++ more
        → answered_on (hands (seating seat) (set ss lane (Some new))) lane ≡ answered_on (hands (seating seat) ss) lane ++ more
    answered_is more e =
        let past : List Reply = answered_past lane (seating seat).finished in
        answered_here links (seating seat) (seating seat) ss lane (Some new) inside ∙ ap (λ r. past ++ r) e ∙ sym (append_assoc past (answered_so_far (seating seat) stint) more)
        ∙ sym (ap (λ o. (past ++ answered_now (seating seat) o) ++ more) at)

    same_received : received_so_far (seating seat) new ≡ received_so_far (seating seat) stint → received_on (hands (seating seat) (set ss lane (Some new))) lane ≡ received_on (hands (seating seat) ss) lane
    same_received e = received_is [] (e ∙ sym (append-nil (received_so_far (seating seat) stint))) ∙ append-nil (received_on (hands (seating seat) ss) lane)

    same_answered : answered_so_far (seating seat) new ≡ answered_so_far (seating seat) stint → answered_on (hands (seating seat) (set ss lane (Some new))) lane ≡ answered_on (hands (seating seat) ss) lane
    same_answered e = answered_is [] (e ∙ sym (append-nil (answered_so_far (seating seat) stint))) ∙ append-nil (answered_on (hands (seating seat) ss) lane)

    same_extras : answered new.far ≡ answered stint.far → extras_on (hands (seating seat) (set ss lane (Some new))) lane ≡ extras_on (hands (seating seat) ss) lane
    same_extras e = extras_here links (seating seat) (seating seat) ss lane (Some new) inside ∙ ap extras_of e ∙ sym (ap extras_now at)

    turn_same : received_so_far (seating seat) new ≡ received_so_far (seating seat) stint → answered_so_far (seating seat) new ≡ answered_so_far (seating seat) stint
        → unanswered new.far ≡ unanswered stint.far → answered new.far ≡ answered stint.far → Same (hands (seating seat) ss) (hands (seating seat) (set ss lane (Some new)))
    turn_same r a u all =
        all_same lane (hands (seating seat) ss) (hands (seating seat) (set ss lane (Some new))) but (same_received r) (same_answered a)
        (held_here links (seating seat) (seating seat) ss lane (Some new) inside ∙ u ∙ sym (ap held_now at)) (same_extras all) (λ j. refl)

    pub turn_gets : (ds : List Delivery) → received_so_far (seating seat) new ≡ received_so_far (seating seat) stint ++ ds → answered_so_far (seating seat) new ≡ answered_so_far (seating seat) stint
        → unanswered new.far ≡ unanswered stint.far ++ ds → answered new.far ≡ answered stint.far → Gets lane ds (hands (seating seat) ss) (hands (seating seat) (set ss lane (Some new)))
    turn_gets ds r a u all = record {
      others = but;
      received = received_is ds r;
      answered_is = same_answered a;
      held = held_here links (seating seat) (seating seat) ss lane (Some new) inside ∙ u ∙ sym (ap (λ o. held_now o ++ ds) at);
      extras = same_extras all;
      given_back = λ j. refl;
    }

    pub turn_says : (reply : Reply) → received_so_far (seating seat) new ≡ received_so_far (seating seat) stint → answered_so_far (seating seat) new ≡ answered_so_far (seating seat) stint ++ reply ∷ []
        → unanswered new.far ≡ drop (answers_among (reply ∷ [])) (unanswered stint.far) → answered new.far ≡ answered stint.far ++ reply ∷ []
        → Says lane reply (hands (seating seat) ss) (hands (seating seat) (set ss lane (Some new)))
    turn_says reply r a u all = record {
      others = but;
      received = same_received r;
      answered_is = answered_is (reply ∷ []) a;
      held = held_here links (seating seat) (seating seat) ss lane (Some new) inside ∙ u ∙ sym (ap (λ o. drop (answers_among (reply ∷ [])) (held_now o)) at);
      extras = extras_here links (seating seat) (seating seat) ss lane (Some new) inside ∙ ap extras_of all ∙ extras_push (answered stint.far) reply
          ∙ sym (ap (λ o. more_after (extras_now o) reply) at);
      given_back = λ j. refl;
    }

    -- receipts: `Stint::receive_some` in its own words
    pub brought : (old into : List Delivery) → IsOpen (seating seat) stint → Comes stint.far old new.far into
        → ((v : Seating) → IsOpen v stint → (c : Comes stint.far old new.far into) → received_so_far v new ≡ received_so_far v stint ++ c.came)
        → ((v : Seating) → answered_so_far v new ≡ answered_so_far v stint) → answered new.far ≡ answered stint.far
        → Brings lane (hands (seating seat) ss) old (hands (seating seat) (set ss lane (Some new))) into
    brought old into is c received so_far all = record { came = c.came; array = c.array; gets = turn_gets c.came (received (seating seat) is c) (so_far (seating seat)) c.held all }

    -- an answer: `Stint::submit` in its own words
    pub answered_lists : {E : Type 0} (reply : Reply) (result : Result (Unit {0}) E) → IsOpen (seating seat) stint
        → MatchResult result (λ _. unanswered new.far ≡ drop (answers_among (reply ∷ [])) (unanswered stint.far)) (λ _. unanswered new.far ≡ unanswered stint.far)
        → ((v : Seating) → IsOpen v stint → MatchResult result (λ _. answered_so_far v new ≡ answered_so_far v stint ++ reply ∷ []) (λ _. answered_so_far v new ≡ answered_so_far v stint))
        → ((v : Seating) → received_so_far v new ≡ received_so_far v stint)
        → MatchResult result (λ _. answered new.far ≡ answered stint.far ++ reply ∷ []) (λ _. answered new.far ≡ answered stint.far)
        → MatchResult result (λ _. Says lane reply (hands (seating seat) ss) (hands (seating seat) (set ss lane (Some new)))) (λ _. Same (hands (seating seat) ss) (hands (seating seat) (set ss lane (Some new))))
    answered_lists reply (Ok _) is held so_far received all = turn_says reply (received (seating seat)) (so_far (seating seat) is) held all
    answered_lists reply (Err _) is held so_far received all = turn_same (received (seating seat)) (so_far (seating seat) is) held all

-- where the entry that was borrowed is written back as it was, nothing changes
pub entries_back : (claims : Claims) (seat : ClaimSeat) (links : List ℕ) (lanes : LaneSet) (ss ts : Stints) → ts ≡ ss
    → AreFlows claims seat ss links → HasHeld lanes ss → AreFlows claims seat ts links × HasHeld lanes ts
entries_back claims seat links lanes ss ts back are has_held = (
  subst (λ (xs : Stints). AreFlows claims seat xs links) (sym back) are,
  subst (HasHeld lanes) (sym back) has_held,
)

pub same_back : (v : Seating) (ss ts : Stints) → ts ≡ ss → Same (hands v ss) (hands v ts)
same_back v ss ts back =
    let same : Same (hands v ss) (hands v ss) = record { received = λ j. refl; answered_is = λ j. refl; held = λ j. refl; extras = λ j. refl; given_back = λ j. refl } in
    subst (λ (xs : Stints). Same (hands v ss) (hands v xs)) (sym back) same

pub all_kept : (lane : ℕ) (h k : Hands) → SameBut lane h k → received_on k lane ≡ received_on h lane → answered_on k lane ≡ answered_on h lane → ((j : ℕ) → left_on k j ≡ left_on h j) → LeavesFree h k → Kept h k
all_kept lane h k others received answered left free =
    let Received : ℕ → Type 0 = λ j. received_on k j ≡ received_on h j in
    let Answered : ℕ → Type 0 = λ j. answered_on k j ≡ answered_on h j in
    record {
      received = λ j. dite (ℕ_discrete j lane) (λ e. subst Received (sym e) received) (λ ne. others.received j ne);
      answered_is = λ j. dite (ℕ_discrete j lane) (λ e. subst Answered (sym e) answered) (λ ne. others.answered_is j ne);
      left = left;
      free = free;
    }

-- once there is nothing at any entry, the seat holds no lane, and has what the port had
pub none_at_all : (ss : Stints) (n : ℕ) → length ss ≡ n → ((j : ℕ) → j < n → entry_at ss j ≡ None) → (j : ℕ) → entry_at ss j ≡ None
none_at_all ss n e none j = dite (dec_le (suc j) n) (λ lt. none j lt) (λ le. past_entries ss j (omega (arith, le, e)))

pub holds_none : (claims : Claims) (seat : ClaimSeat) (ss : Stints) (links : List ℕ) → AreFlows claims seat ss links → ((j : ℕ) → entry_at ss j ≡ None) → (seating seat).held ≡ []
holds_none claims seat ss links are none = nothing_held (seating seat).held (λ lane. (are.each lane).free (none lane))

-- a lane of which something is unanswered is there
pub lane_there : (claims : Claims) (seat : ClaimSeat) (ss : Stints) (links : List ℕ) (lane : ℕ) → AreFlows claims seat ss links → held_now (entry_at ss lane) ≢ [] → lane < length (lanes_of claims)
lane_there claims seat ss links lane are some =
    dite (dec_le (suc lane) (length (lanes_of claims))) (λ lt. lt) (λ le. absurd (some (ap held_now (past_entries ss lane (omega (arith, le, are.entries))))))
