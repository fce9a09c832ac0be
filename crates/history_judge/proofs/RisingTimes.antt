-- Times that rise: how many are past, and whether that of a number is still to come.
use Rattle.std.specs.Prelude.{ℕ, ◌≡◌, ◌+◌, ◌<◌, ◌≤◌, Bool, true, false, cond, ◌&&◌, ◌||◌, List, [], ◌∷◌, ◌==◌, nat_le, map, filter, All, AllPairs, count_by, Some, slice_get}
use Rattle.std.proofs.Common.{zero, suc, refl, sym, ap, ◌∙◌, arith, subst, inl, inr, ⊎_elim, get_or}
use Rattle.std.proofs.lemmas.Bool.{and_parts, cases_Bool, cases_lt, cond-true, cond-false, le-leb, leb-true, lt-leb, lt-ltb, ltb-true}
use Rattle.std.proofs.lemmas.List.{get_or-map, length-map}
use Rattle.std.proofs.lemmas.List.Elements.{All-cons, All-head, All-tail, All-weaker, filter_passes}
use Rattle.std.proofs.lemmas.List.Kept.{AllPairs-filter}
use Rattle.std.proofs.lemmas.Option.{slice_get-get_or, slice_get_past}
use Rattle.lists.proofs.Lists.{AllPairs-drop, AllPairs-weaker_all, eqb_is}
use Rattle.lists.proofs.Parts.{count_by-cons}
use Rattle.history_judge.specs.Entries.{IsOutOfOrder, follows}
use Rattle.history_judge.specs.Histories.{answers, answers_begun, is_answer_begun, is_answered}
use Rattle.history_judge.specs.Holds.{answer_times, ends_after}
use Rattle.history_judge.specs.declared.seen.Seen.{Seen}

-- ---- lists that rise

abbrev pub Rises : List ℕ → Type 0
Rises xs = AllPairs (λ x y. x ≤ y) xs

abbrev pub is_past : ℕ → ℕ → Bool
is_past t x = nat_le x t

first_least : (x : ℕ) (xs : List ℕ) → Rises (x ∷ xs) → All (λ y. x ≤ y) xs
first_least x xs rises k d lt = rises zero (suc k) d (omega arith) (omega (arith, lt))

rest_rises : (x : ℕ) (xs : List ℕ) → Rises (x ∷ xs) → Rises xs
rest_rises x xs rises = AllPairs-drop (λ a b. a ≤ b) 1 (x ∷ xs) rises

none_past : (t : ℕ) (xs : List ℕ) → All (λ y. t < y) xs → count_by (is_past t) xs ≡ 0
none_past t [] all = refl
none_past t (x ∷ xs) all =
    omega (
      arith,
      count_by-cons (is_past t) x xs,
      cond-false {A = ℕ} (is_past t x) 1 0 (lt-leb x t (All-head (λ y. t < y) x xs all)),
      none_past t xs (All-tail (λ y. t < y) x xs all),
    )

-- where the first is to come, all are
none_past_first : (t x : ℕ) (xs : List ℕ) → Rises (x ∷ xs) → t < x → count_by (is_past t) (x ∷ xs) ≡ 0
none_past_first t x xs rises lt =
    none_past t (x ∷ xs) (All-cons (λ y. t < y) x xs lt (All-weaker (λ y. x ≤ y) (λ y. t < y) (λ y le. omega (arith, lt, le)) xs (first_least x xs rises)))

past_first : (t x : ℕ) (xs : List ℕ) → x ≤ t → count_by (is_past t) (x ∷ xs) ≡ count_by (is_past t) xs + 1
past_first t x xs le = omega (arith, count_by-cons (is_past t) x xs, cond-true {A = ℕ} (is_past t x) 1 0 (le-leb x t le))

-- where no more than g are past, that of number g is to come
pub to_come : (t g : ℕ) (xs : List ℕ) → Rises xs → count_by (is_past t) xs ≤ g → ends_after t (slice_get xs g) ≡ true
to_come t g [] rises few = ap (ends_after t) (slice_get_past [] g (omega arith))
to_come t zero (x ∷ xs) rises few =
    ⊎_elim (λ lt. lt-ltb t x lt) (λ le. absurd (omega (arith, few, past_first t x xs le))) (cases_lt t x)
to_come t (suc g) (x ∷ xs) rises few =
    to_come t g xs (rest_rises x xs rises)
    (⊎_elim
    (λ lt. omega (arith, none_past_first t x xs rises lt, count_by-cons (is_past t) x xs))
    (λ le. omega (arith, few, past_first t x xs le))
    (cases_lt t x))

-- and where it is to come, no more than g are past
pub not_past : (t g : ℕ) (xs : List ℕ) → Rises xs → ends_after t (slice_get xs g) ≡ true → count_by (is_past t) xs ≤ g
not_past t g [] rises ends = omega arith
not_past t zero (x ∷ xs) rises ends = omega (arith, none_past_first t x xs rises (ltb-true t x ends))
not_past t (suc g) (x ∷ xs) rises ends =
    ⊎_elim
    (λ lt. omega (arith, none_past_first t x xs rises lt))
    (λ le. omega (arith, past_first t x xs le, not_past t g xs (rest_rises x xs rises) ends))
    (cases_lt t x)

-- ---- the times of a port's answers

zero_and : (n : ℕ) → 0 + n ≡ n
zero_and n = omega arith

-- those that are past are the answers that began
pub begun_are_past : (hs : List Seen) (l t : ℕ) → answers_begun hs l t ≡ count_by (is_past t) (answer_times hs l)
begun_are_past [] l t = refl
begun_are_past (s ∷ hs) l t =
    count_by-cons (is_answer_begun l t) s hs ∙ (ap (λ n. cond (is_answer_begun l t s) 1 0 + n) (begun_are_past hs l t) ∙ by_case (is_answered l s) refl)
  where
    by_case : (b : Bool) → is_answered l s ≡ b
        → cond {A = ℕ} (is_answered l s && nat_le s.began t) 1 0 + count_by (is_past t) (answer_times hs l) ≡ count_by (is_past t) (map (λ (u : Seen). u.began) (cond (is_answered l s) (s ∷ filter (is_answered l) hs) (filter (is_answered l) hs)))
    by_case true is =
        ap (λ b. cond {A = ℕ} (b && nat_le s.began t) 1 0 + count_by (is_past t) (answer_times hs l)) is
        ∙ (sym (count_by-cons (is_past t) s.began (answer_times hs l))
        ∙ ap (λ b. count_by (is_past t) (map (λ (u : Seen). u.began) (cond b (s ∷ filter (is_answered l) hs) (filter (is_answered l) hs)))) (sym is))
    by_case false is =
        ap (λ b. cond {A = ℕ} (b && nat_le s.began t) 1 0 + count_by (is_past t) (answer_times hs l)) is
        ∙ (zero_and (count_by (is_past t) (answer_times hs l))
        ∙ ap (λ b. count_by (is_past t) (map (λ (u : Seen). u.began) (cond b (s ∷ filter (is_answered l) hs) (filter (is_answered l) hs)))) (sym is))

-- ---- entries in order

-- of one port, the second begins no earlier
abbrev pub BeginsAfter : Seen → Seen → Type 0
BeginsAfter s u = s.port ≡ u.port → s.began ≤ u.began

-- an entry that is in order didn't end before it began
pub ends_late : (hs : List Seen) (i : ℕ) (s : Seen) → ¬ IsOutOfOrder hs i → slice_get hs i ≡ Some s → s.began ≤ s.ended
ends_late hs i s ordered at =
    ⊎_elim (λ lt. absurd (ordered (record { seen = s; entry = at; refused = inl lt }))) (λ le. le) (cases_lt s.ended s.began)

pub begins_by_follows : (s u : Seen) → s.began ≤ s.ended → follows s u ≡ true → s.began ≤ u.began
begins_by_follows s u ends after = by_case (nat_le s.ended u.began) refl
  where
    by_case : (b : Bool) → nat_le s.ended u.began ≡ b → s.began ≤ u.began
    by_case true later = omega (arith, ends, leb-true s.ended u.began later)
    by_case false later =
        let same : ((s.began == u.began) && (s.ended == u.ended)) ≡ true = ap (λ b. b || ((s.began == u.began) && (s.ended == u.ended))) (sym later) ∙ after in
        omega (arith, eqb_is s.began u.began (and_parts (s.began == u.began) (s.ended == u.ended) same).0)

pub follows_before : (hs : List Seen) (i j : ℕ) (s u : Seen) → ¬ IsOutOfOrder hs j → i < j → slice_get hs i ≡ Some s → slice_get hs j ≡ Some u → s.port ≡ u.port → follows s u ≡ true
follows_before hs i j s u ordered lt there at port =
    ⊎_elim (λ is. is)
    (λ fails. absurd (ordered (record { seen = u; entry = at; refused = inr (record { place = i; earlier = lt; before = s; there = there; port = port; refused = fails }) })))
    (cases_Bool (follows s u))

begin_in_order : (hs : List Seen) → ((i : ℕ) → ¬ IsOutOfOrder hs i) → AllPairs BeginsAfter hs
begin_in_order hs ordered i j d lt within port =
    let there : slice_get hs i ≡ Some (get_or hs i d) = slice_get-get_or hs i d (omega (arith, lt, within)) in
    let at : slice_get hs j ≡ Some (get_or hs j d) = slice_get-get_or hs j d within in
    begins_by_follows (get_or hs i d) (get_or hs j d) (ends_late hs i (get_or hs i d) (ordered i) there)
    (follows_before hs i j (get_or hs i d) (get_or hs j d) (ordered j) lt there at port)

AllPairs-map : {X Y : Type 0} (R : Y → Y → Type 0) (f : X → Y) (xs : List X) → AllPairs (λ x y. R (f x) (f y)) xs → AllPairs R (map f xs)
AllPairs-map R f [] all i j d lt within = absurd (omega (arith, within))
AllPairs-map R f (x ∷ xs) all i j d lt within =
    subst (λ y. R y (get_or (map f (x ∷ xs)) j d)) (sym (get_or-map f (x ∷ xs) i x d (omega (arith, lt, length-map (x ∷ xs) f, within))))
    (subst (R (f (get_or (x ∷ xs) i x))) (sym (get_or-map f (x ∷ xs) j x d (omega (arith, length-map (x ∷ xs) f, within))))
    (all i j x lt (omega (arith, length-map (x ∷ xs) f, within))))

-- the times at which a port's answers began rise
pub times_rise : (hs : List Seen) (l : ℕ) → ((i : ℕ) → ¬ IsOutOfOrder hs i) → Rises (answer_times hs l)
times_rise hs l ordered =
    AllPairs-map (λ x y. x ≤ y) (λ (s : Seen). s.began) (filter (is_answered l) hs)
    (AllPairs-weaker_all (λ (s : Seen). is_answered l s ≡ true) BeginsAfter (λ (s u : Seen). s.began ≤ u.began) (filter (is_answered l) hs)
    (filter_passes (is_answered l) hs)
    (λ s u one other after. after (port_is s one ∙ sym (port_is u other)))
    (AllPairs-filter BeginsAfter (is_answered l) hs (begin_in_order hs ordered)))
  where
    port_is : (s : Seen) → is_answered l s ≡ true → s.port ≡ l
    port_is s is = eqb_is s.port l (and_parts (s.port == l) (answers s.deed) is).0
