-- One entry of a port's flow lanes changes, and with it what the seat has of the lane; what the port has of the other lanes stays.
use Rattle.std.proofs.Common.{◌≡◌, ◌≢◌, ℕ, zero, suc, ◌<◌, ◌≤◌, ◌==◌, get_or, false, List, [], ◌∷◌, ◌++◌, length, drop, set, replicate, Option, Some, None, refl, sym, ap, ◌∙◌, subst, arith, append-nil}
use Rattle.std.specs.Option.{is_some}
use Rattle.std.specs.List.{flat_map}
use Rattle.std.proofs.lemmas.List.{get_or-set_same, get_or-set_other, set-get_or}
use Rattle.std.proofs.lemmas.Grind.{flat_map-append}
use Rattle.std.proofs.lemmas.Option.{none-some, same_Some}
use mathlib.Core.Logic.{dite}
use native.Mathlib.Decide.{ℕ_discrete}
use Rattle.lists.proofs.Lists.{eqb_same, eqb_other, filter-push_true, filter-push_false}
use Rattle.lane_rings.specs.Ends.{received_by, answered}
use Rattle.flow_claims.specs.Claims.{lanes_of}
use Rattle.flow_claims.specs.declared.claim.Stint.{Stint}
use Rattle.flow_claims.specs.declared.claims.ClaimSeat.{ClaimSeat}
use Rattle.flow_claims.specs.declared.claims.Claims.{Claims}
use Rattle.flow_claims.specs.declared.seating.Past.{Past}
use Rattle.flow_claims.specs.declared.seating.Seating.{Seating}
use Rattle.flow_claims.specs.Open.{start_in}
use Rattle.flow_claims.specs.Seats.{stint_at}
use Rattle.flow_claims.specs.Stints.{received_in_all, answered_in_all}
use Rattle.flow_claims.proofs.Opened.{stays_open}
use Rattle.event_ports.specs.Holds.{entry_at, AreFlows, IsHeldAt, IsEntry, stints_at, received_past, answered_past, received_now, answered_now, extras_now, held_now, Hands, received_on, answered_on, extras_on, held_on, Same, SameBut, NoneSurrendered}

abbrev pub Stints : Type 0
Stints = List (Option Stint)

abbrev pub hands : Seating → Stints → Hands
hands v ss = record { view = v; stints = ss }

-- what is written at a entry that has it already changes nothing
pub same_list : (ss : Stints) (lane : ℕ) (o : Option Stint) → entry_at ss lane ≡ o → set ss lane o ≡ ss
same_list ss lane o e = ap (set ss lane) (sym e) ∙ set-get_or ss lane None

pub none_left : {A : Type 0} (xs : List A) → length xs ≡ 0 → xs ≡ []
none_left [] e = refl
none_left (x ∷ xs) e = absurd (omega (arith, e))

-- the default of a entry that is there doesn't matter
any_default : {A : Type 0} (xs : List A) (i : ℕ) (d e : A) → i < length xs → get_or xs i d ≡ get_or xs i e
any_default [] i d e lt = absurd (omega (arith, lt))
any_default (x ∷ xs) zero d e lt = refl
any_default (x ∷ xs) (suc i) d e lt = any_default xs i d e (omega (arith, lt))

-- what was read at the entry of a lane stands there
pub place_read : (ss : Stints) (lane : ℕ) (o p : Option Stint) → o ≡ get_or ss lane o → o ≡ p → lane < length ss → entry_at ss lane ≡ p
place_read ss lane o p read is lt = any_default ss lane None o lt ∙ sym read ∙ is

-- the same of a lane that is there
pub place_there : (claims : Claims) (seat : ClaimSeat) (ss : Stints) (links : List ℕ) (lane : ℕ) (o p : Option Stint) → AreFlows claims seat ss links
    → lane < length (lanes_of claims) → o ≡ get_or ss lane o → o ≡ p → entry_at ss lane ≡ p
place_there claims seat ss links lane o p are exists read is = place_read ss lane o p read is (omega (arith, are.entries, exists))

-- the seat has the same of the lane
pub moved : (links : List ℕ) (v w : Seating) (j : ℕ) (entry : Option Stint) → stint_at w j ≡ stint_at v j → w.lanes ≡ v.lanes → IsEntry links v j entry → IsEntry links w j entry
moved links v w j entry e lanes is = record {
  free = λ none. e ∙ is.free none;
  held = λ s some.
      let at : IsHeldAt links v j s = is.held s some in
      record { lane_is = at.lane_is; open_is = stays_open v w s (ap (stint_at w) at.lane_is ∙ e ∙ sym (ap (stint_at v) at.lane_is)) lanes at.open_is; linked = at.linked };
}

pub each_entry : (links : List ℕ) (v w : Seating) (ss : Stints) (lane : ℕ) (new : Option Stint) → lane < length ss → w.lanes ≡ v.lanes
    → ((j : ℕ) → j ≢ lane → stint_at w j ≡ stint_at v j) → ((j : ℕ) → IsEntry links v j (entry_at ss j)) → IsEntry links w lane new
    → (j : ℕ) → IsEntry links w j (entry_at (set ss lane new) j)
each_entry links v w ss lane new lt lanes others each is j =
    let At : ℕ → Type 0 = λ i. IsEntry links w i (entry_at (set ss lane new) i) in
    dite (ℕ_discrete j lane) (λ e. subst At (sym e) (subst (IsEntry links w lane) (sym (get_or-set_same ss lane new None lt)) is))
    (λ ne. subst (IsEntry links w j) (sym (get_or-set_other ss lane j new None ne)) (moved links v w j (entry_at ss j) (others j ne) lanes (each j)))

pub free_entry : (links : List ℕ) (v : Seating) (lane : ℕ) → stint_at v lane ≡ None → IsEntry links v lane None
free_entry links v lane e = record { free = λ none. e; held = λ s some. absurd (none-some s some) }

pub held_at_entry : (links : List ℕ) (v : Seating) (lane : ℕ) (s : Stint) → IsHeldAt links v lane s → IsEntry links v lane (Some s)
held_at_entry links v lane s is = record { free = λ none. absurd (none-some s (sym none)); held = λ t some. subst (IsHeldAt links v lane) (same_Some s t some) is }

-- where the seat has the same of a lane, what was received and answered in the stint so far is the same
pub same_now : (links : List ℕ) (v w : Seating) (j : ℕ) (entry : Option Stint) → IsEntry links v j entry → stint_at w j ≡ stint_at v j
    → (received_now w entry ≡ received_now v entry) × (answered_now w entry ≡ answered_now v entry)
same_now links v w j None is e = (refl, refl)
same_now links v w j (Some s) is e =
    let lane = (is.held s refl).lane_is in
    let at : stint_at w s.lane ≡ stint_at v s.lane = ap (stint_at w) lane ∙ e ∙ sym (ap (stint_at v) lane) in (
      ap (λ o. drop (length (start_in o).received) (received_by s.far)) at,
      ap (λ o. drop (length (start_in o).answered) (answered s.far)) at,
    )

-- the finished stints of other lanes
pub other_stints : (ps : List Past) (p : Past) (lane j : ℕ) → p.lane ≡ lane → j ≢ lane → stints_at j (ps ++ p ∷ []) ≡ stints_at j ps
other_stints ps p lane j e ne = filter-push_false (λ (x : Past). x.lane == j) ps p (eqb_other p.lane j (λ h. ne (sym h ∙ e)))

pub more_stints : (ps : List Past) (p : Past) (lane : ℕ) → p.lane ≡ lane → stints_at lane (ps ++ p ∷ []) ≡ stints_at lane ps ++ p ∷ []
more_stints ps p lane e = filter-push_true (λ (x : Past). x.lane == lane) ps p (ap (λ n. n == lane) e ∙ eqb_same lane)

pub past_more : {A : Type 0} (f : Past → List A) (lane : ℕ) (ps : List Past) (p : Past) → p.lane ≡ lane
    → flat_map f (stints_at lane (ps ++ p ∷ [])) ≡ flat_map f (stints_at lane ps) ++ f p
past_more f lane ps p e =
    ap (flat_map f) (more_stints ps p lane e) ∙ flat_map-append f (stints_at lane ps) (p ∷ [])
    ∙ ap (λ r. flat_map f (stints_at lane ps) ++ r) (append-nil (f p))

module _ (links : List ℕ) (v w : Seating) (ss : Stints) (lane : ℕ) (new : Option Stint) where
  -- the other lanes' lists
  pub same_but : ((j : ℕ) → j ≢ lane → stint_at w j ≡ stint_at v j) → ((j : ℕ) → j ≢ lane → stints_at j w.finished ≡ stints_at j v.finished)
      → ((j : ℕ) → IsEntry links v j (entry_at ss j)) → SameBut lane (hands v ss) (hands w (set ss lane new))
  same_but others past each =
      let at : (j : ℕ) → j ≢ lane → entry_at (set ss lane new) j ≡ entry_at ss j = λ j ne. get_or-set_other ss lane j new None ne in
      let now : (j : ℕ) → j ≢ lane → (received_now w (entry_at ss j) ≡ received_now v (entry_at ss j)) × (answered_now w (entry_at ss j) ≡ answered_now v (entry_at ss j)) =
      λ j ne. same_now links v w j (entry_at ss j) (each j) (others j ne) in
      record {
        received = λ j ne. ap (λ o. received_past j w.finished ++ received_now w o) (at j ne) ∙ (λ i. received_in_all (past j ne i) ++ (now j ne).0 i);
        answered_is = λ j ne. ap (λ o. answered_past j w.finished ++ answered_now w o) (at j ne) ∙ (λ i. answered_in_all (past j ne i) ++ (now j ne).1 i);
        held = λ j ne. ap held_now (at j ne);
        extras = λ j ne. ap extras_now (at j ne);
      }

  -- the lane's own lists
  pub received_here : lane < length ss → received_on (hands w (set ss lane new)) lane ≡ received_past lane w.finished ++ received_now w new
  received_here lt = ap (λ o. received_past lane w.finished ++ received_now w o) (get_or-set_same ss lane new None lt)

  pub answered_here : lane < length ss → answered_on (hands w (set ss lane new)) lane ≡ answered_past lane w.finished ++ answered_now w new
  answered_here lt = ap (λ o. answered_past lane w.finished ++ answered_now w o) (get_or-set_same ss lane new None lt)

  pub held_here : lane < length ss → held_on (hands w (set ss lane new)) lane ≡ held_now new
  held_here lt = ap held_now (get_or-set_same ss lane new None lt)

  pub extras_here : lane < length ss → extras_on (hands w (set ss lane new)) lane ≡ extras_now new
  extras_here lt = ap extras_now (get_or-set_same ss lane new None lt)

-- the lane's lists, and those of the others
pub all_same : (lane : ℕ) (h k : Hands) → SameBut lane h k → received_on k lane ≡ received_on h lane → answered_on k lane ≡ answered_on h lane → held_on k lane ≡ held_on h lane
    → extras_on k lane ≡ extras_on h lane → NoneSurrendered h k → Same h k
all_same lane h k others received answered held extras given_back =
    let Received : ℕ → Type 0 = λ j. received_on k j ≡ received_on h j in
    let Answered : ℕ → Type 0 = λ j. answered_on k j ≡ answered_on h j in
    let Held : ℕ → Type 0 = λ j. held_on k j ≡ held_on h j in
    let Extras : ℕ → Type 0 = λ j. extras_on k j ≡ extras_on h j in
    record {
      received = λ j. dite (ℕ_discrete j lane) (λ e. subst Received (sym e) received) (λ ne. others.received j ne);
      answered_is = λ j. dite (ℕ_discrete j lane) (λ e. subst Answered (sym e) answered) (λ ne. others.answered_is j ne);
      held = λ j. dite (ℕ_discrete j lane) (λ e. subst Held (sym e) held) (λ ne. others.held j ne);
      extras = λ j. dite (ℕ_discrete j lane) (λ e. subst Extras (sym e) extras) (λ ne. others.extras j ne);
      given_back = given_back;
    }

-- what holds of the entry that changes, and of each that stays, holds of all
pub at_each : (Q : Option Stint → Option Stint → Type 0) (ss : Stints) (lane : ℕ) (o : Option Stint) → lane < length ss → Q (entry_at ss lane) o → ((p : Option Stint) → Q p p)
    → (j : ℕ) → Q (entry_at ss j) (entry_at (set ss lane o) j)
at_each Q ss lane o lt here same j =
    let At : ℕ → Type 0 = λ i. Q (entry_at ss i) (entry_at (set ss lane o) i) in
    dite (ℕ_discrete j lane)
    (λ e. subst At (sym e) (subst (Q (entry_at ss lane)) (sym (get_or-set_same ss lane o None lt)) here))
    (λ ne. subst (Q (entry_at ss j)) (sym (get_or-set_other ss lane j o None ne)) (same (entry_at ss j)))

-- where no port holds a lane, there is nothing at its entry
pub nothing_there : (o : Option Stint) → is_some o ≡ false → o ≡ None
nothing_there None e = refl
nothing_there (Some s) e = absurd (cc)

pub past_entries : (ss : Stints) (lane : ℕ) → length ss ≤ lane → entry_at ss lane ≡ None
past_entries [] lane le = refl
past_entries (s ∷ ss) zero le = absurd (omega (arith, le))
past_entries (s ∷ ss) (suc lane) le = past_entries ss lane (omega (arith, le))

pub free_entries : (n lane : ℕ) → entry_at (replicate n None) lane ≡ None
free_entries zero lane = refl
free_entries (suc n) zero = refl
free_entries (suc n) (suc lane) = free_entries n lane
