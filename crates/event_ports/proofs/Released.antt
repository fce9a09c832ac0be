-- Releases of what is held, one after the other.
use Rattle.std.proofs.Common.{◌≡◌, ◌≢◌, ℕ, zero, suc, ◌+◌, ◌<◌, Bool, true, false, cond, ◌%◌, ◌^◌, List, [], ◌∷◌, ◌++◌, length, map, take, drop, refl, sym, ap, ◌∙◌, subst, arith, append-nil, append_assoc}
use Rattle.std.proofs.lemmas.List.{map-append, length-drop}
use Rattle.lists.proofs.Lists.{filter-push_true, filter-push_false}
use Rattle.evt_types.specs.declared.event.Delivery.{Delivery}
use Rattle.event_ports.specs.declared.lane.Lane.{Lane}
use Rattle.event_ports.specs.declared.lane.Holding.{Holding}
use Rattle.event_ports.specs.Desks.{DeskSite}
use Rattle.event_ports.specs.Handed.{LanesSite}
use Rattle.event_ports.specs.Lanes.{Hand, Rests, SubmitsTo, Releases, Arrives, Dequeues, first_lane, held_of, same_lane, release_reply, releases_for}
use Rattle.event_ports.proofs.Orders.{by_lane}

module _ {A : Type 0} where
  pub take_next : (n : ℕ) (ys : List A) (x : A) (xs : List A) → drop n ys ≡ x ∷ xs → take (suc n) ys ≡ take n ys ++ x ∷ []
  take_next zero ys x xs e = ap (take 1) e
  take_next (suc n) [] x xs e = absurd (omega (arith, ap length e))
  take_next (suc n) (y ∷ ys) x xs e = ap (λ r. y ∷ r) (take_next n ys x xs e)

  drop_next : (n : ℕ) (ys : List A) (x : A) (xs : List A) → drop n ys ≡ x ∷ xs → drop (suc n) ys ≡ xs
  drop_next zero ys x xs e = ap (drop 1) e
  drop_next (suc n) [] x xs e = absurd (omega (arith, ap length e))
  drop_next (suc n) (y ∷ ys) x xs e = drop_next n ys x xs e

more_for : (l : Lane) (x : Holding) (xs : List Holding) → x.lane ≡ l → releases_for l (xs ++ x ∷ []) ≡ releases_for l xs ++ release_reply ∷ []
more_for l x xs e =
    ap (map (λ (y : Holding). release_reply)) (filter-push_true (λ (y : Holding). same_lane y.lane l) xs x (by_lane x.lane l (λ b. b ≡ true) (λ h. refl) (λ ne. absurd (ne e))))
    ∙ map-append (λ (y : Holding). release_reply) (held_of l xs) (x ∷ [])

other_for : (l : Lane) (x : Holding) (xs : List Holding) → x.lane ≢ l → releases_for l (xs ++ x ∷ []) ≡ releases_for l xs
other_for l x xs ne =
    ap (map (λ (y : Holding). release_reply)) (filter-push_false (λ (y : Holding). same_lane y.lane l) xs x (by_lane x.lane l (λ b. b ≡ false) (λ e. absurd (ne e)) (λ h. refl)))

pub releases_none : (h : Hand) → Releases 0 h h
releases_none h = record { said = λ l. sym (append-nil (h.said l)); got = λ l. refl; holding = refl }

-- one more is released
pub releases_more : (n : ℕ) (h k m : Hand) → Releases n h k → SubmitsTo (first_lane k.holding) release_reply k m → Releases (n + 1) h m
releases_more n h k m r s = by k.holding refl s
  where
    by : (ys : List Holding) → k.holding ≡ ys → SubmitsTo (first_lane ys) release_reply k m → Releases (n + 1) h m
    by [] e s = absurd s
    by (x ∷ xs) e s =
        let left : drop n h.holding ≡ x ∷ xs = sym r.holding ∙ e in
        let one : n + 1 ≡ suc n = omega arith in
        let taken : take (n + 1) h.holding ≡ take n h.holding ++ x ∷ [] = ap (λ i. take i h.holding) one ∙ take_next n h.holding x xs left in
        record {
          said = λ l. by_lane x.lane l (λ b. x.lane ≡ x.lane → m.said l ≡ h.said l ++ releases_for l (take (n + 1) h.holding))
              (λ is _.
              let Here : Lane → Type 0 = λ y. m.said y ≡ k.said y ++ release_reply ∷ [] in
              subst Here is s.said_here ∙ ap (λ ys. ys ++ release_reply ∷ []) (r.said l) ∙ append_assoc (h.said l) (releases_for l (take n h.holding)) (release_reply ∷ [])
              ∙ ap (λ ys. h.said l ++ ys) (sym (ap (releases_for l) taken ∙ more_for l x (take n h.holding) is)))
              (λ ne _. s.said l (λ is. ne (sym is)) ∙ r.said l ∙ ap (λ ys. h.said l ++ ys) (sym (ap (releases_for l) taken ∙ other_for l x (take n h.holding) ne))) refl;
          got = λ l. s.got l ∙ r.got l;
          holding = s.holding ∙ ap (drop 1) e ∙ sym (ap (λ i. drop i h.holding) one ∙ drop_next n h.holding x xs left);
        }

-- nothing more is
pub releases_still : (n : ℕ) (h k m : Hand) → Releases n h k → Rests k m → Releases n h m
releases_still n h k m r rests = record { said = λ l. rests.said l ∙ r.said l; got = λ l. rests.got l ∙ r.got l; holding = rests.holding ∙ r.holding }

-- what never changes of a desk, with that of its lanes
abbrev pub at_lanes : DeskSite → LanesSite → DeskSite
at_lanes d lanes = record d { lanes = lanes }

-- nothing is released first, or all that is held
pub dequeues_plain : (links : List ℕ) (h k : Hand) (ds : List Delivery) → Arrives links h k [] ds → Dequeues links 0 h k ds
dequeues_plain links h k ds a = record { between = h; released = releases_none h; arrived = a }

pub dequeues_after : (links : List ℕ) (n : ℕ) (h k m : Hand) (ds : List Delivery) → Releases n h k → Arrives links k m [] ds → Dequeues links n h m ds
dequeues_after links n h k m ds r a = record { between = k; released = r; arrived = a }

-- while not all were released, something is held
pub some_left : (n : ℕ) (h k : Hand) → Releases n h k → n < length h.holding → k.holding ≢ []
some_left n h k r lt none = absurd (omega (arith, ap length (sym r.holding ∙ none), length-drop n h.holding, lt))

-- one credit more in a pocket
pub one_more_credit : (a n p q : ℕ) → p ≡ (a + n) % 2 ^ 64 → q ≡ (p + 1) % 2 ^ 64 → q ≡ (a + (n + 1)) % 2 ^ 64
one_more_credit a n p q e f = omega (arith, e, f)

-- and no credit comes of that
pub same_credit : (implicit : Bool) (n a : ℕ) → implicit ≡ false → a < 2 ^ 64 → a ≡ (a + cond implicit n 0) % 2 ^ 64
same_credit implicit n a e fits = let Of : Bool → Type 0 = λ b. a ≡ (a + cond b n 0) % 2 ^ 64 in subst Of (sym e) (omega (arith, fits))

pub dequeues_where : (implicit : Bool) (links : List ℕ) (n : ℕ) (h k : Hand) (ds : List Delivery) → implicit ≡ false → Arrives links h k [] ds → Dequeues links (cond implicit n 0) h k ds
dequeues_where implicit links n h k ds e a = let Of : Bool → Type 0 = λ b. Dequeues links (cond b n 0) h k ds in subst Of (sym e) (dequeues_plain links h k ds a)

pub dequeues_released : (implicit : Bool) (links : List ℕ) (n : ℕ) (h k m : Hand) (ds : List Delivery) → implicit ≡ true → Releases n h k → Arrives links k m [] ds
    → Dequeues links (cond implicit n 0) h m ds
dequeues_released implicit links n h k m ds e r a = let Of : Bool → Type 0 = λ b. Dequeues links (cond b n 0) h m ds in subst Of (sym e) (dequeues_after links n h k m ds r a)
