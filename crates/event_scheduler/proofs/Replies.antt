-- Replies that are taken in turn: some, and then more.
use Rattle.std.proofs.Common.{◌≡◌, ◌≢◌, ℕ, suc, ◌+◌, ◌<◌, ◌≤◌, ◌==◌, Bool, true, false, cond, nat_lt, List, [], ◌∷◌, ◌++◌, map, All, AllPairs, Some, None, ◌⊎◌, inl, inr, refl, sym, ap, ◌∙◌, subst, append_assoc, append-nil, arith}
use Rattle.std.specs.List.{cons_option}
use Rattle.std.proofs.lemmas.Bool.{cases_eq, cases_lt, cond-true, cond-false, lt-ltb, le-ltb}
use Rattle.std.proofs.lemmas.List.Elements.{All-append, All-cons, All-head, All-nil, All-tail, All-weaker}
use Rattle.std.proofs.lemmas.List.Kept.{AllPairs-cons}
use Rattle.std.proofs.lemmas.List.Sums.{fold-append, sum_by-cons}
use Rattle.event_scheduler.specs.Taking.{GoByLane, count_from, of_first, only, replies_from}
use Rattle.evt_types.specs.declared.event.Event.{Event}
use Rattle.evt_types.specs.declared.step.Step.{Step}
use Rattle.lists.proofs.Lists.{eqb_comm, eqb_is, eqb_other, eqb_same}
use Rattle.transcripts.proofs.Replies.{steps_of-replies}
use Rattle.transcripts.specs.Replies.{replies_in, said, said_by}
use Rattle.transcripts.specs.Standing.{View, after, after_step, steps_of}
use Rattle.transcripts.specs.Sweep.{MayBeTaken, replies_steps}

-- ---- steps

pub after-append : (v : View) (xs ys : List Step) → after v (xs ++ ys) ≡ after (after v xs) ys
after-append v xs ys = fold-append after_step v xs ys

pub steps-append : (v : View) (xs ys : List (ℕ × Event)) → replies_steps v (xs ++ ys) ≡ replies_steps v xs ++ replies_steps (after v (replies_steps v xs)) ys
steps-append v [] ys = refl
steps-append v (x ∷ xs) ys =
    ap (λ zs. steps_of v x.0 x.1 ++ zs) (steps-append (after v (steps_of v x.0 x.1)) xs ys)
    ∙ (ap (λ w. steps_of v x.0 x.1 ++ (replies_steps (after v (steps_of v x.0 x.1)) xs ++ replies_steps w ys)) (sym (after-append v (steps_of v x.0 x.1) (replies_steps (after v (steps_of v x.0 x.1)) xs)))
    ∙ sym (append_assoc (steps_of v x.0 x.1) (replies_steps (after v (steps_of v x.0 x.1)) xs) (replies_steps (after v (replies_steps v (x ∷ xs))) ys)))

pub may-append : (v : View) (xs ys : List (ℕ × Event)) → MayBeTaken v xs → MayBeTaken (after v (replies_steps v xs)) ys → MayBeTaken v (xs ++ ys)
may-append v [] ys h k = k
may-append v (x ∷ xs) ys h k =
    (h.0, h.1, may-append (after v (steps_of v x.0 x.1)) xs ys h.2 (subst (λ w. MayBeTaken w ys) (after-append v (steps_of v x.0 x.1) (replies_steps (after v (steps_of v x.0 x.1)) xs)) k))

pub one_steps : (v : View) (l : ℕ) (e : Event) → replies_steps v ((l, e) ∷ []) ≡ steps_of v l e
one_steps v l e = append-nil (steps_of v l e)

-- what a lane says by the reply of one lane
one_said_by : (b : Bool) (e : Event) → map said (cons_option (cond b (Some (record { event = e })) None) []) ≡ cond b (said_by e.op e ∷ []) []
one_said_by true e = refl
one_said_by false e = refl

pub one_said : (v : View) (l : ℕ) (e : Event) (m : ℕ) → map said (replies_from m ((l, e) ∷ [])) ≡ replies_in (steps_of v l e) m
one_said v l e m = one_said_by (l == m) e ∙ (ap (λ b. cond b (said_by e.op e ∷ []) []) (eqb_comm l m) ∙ sym (steps_of-replies v l e m))

pub one_here : (l : ℕ) (e : Event) → replies_from l ((l, e) ∷ []) ≡ record { event = e } ∷ []
one_here l e = ap (λ o. cons_option o []) (cond-true (l == l) (Some (record { event = e })) None (eqb_same l))

pub one_elsewhere : (l m : ℕ) (e : Event) → m ≢ l → replies_from m ((l, e) ∷ []) ≡ []
one_elsewhere l m e other = ap (λ o. cons_option o []) (cond-false (l == m) (Some (record { event = e })) None (eqb_other l m (λ same. other (sym same))))

-- ---- how many of which lane

pub one_count : (l m : ℕ) (e : Event) → count_from m ((l, e) ∷ []) ≤ only l 1 m
one_count l m e = omega (arith, sum_by-cons (λ (r : ℕ × Event). cond (r.0 == m) 1 0) (l, e) [], ap {B = ℕ} (λ b. cond b 1 0) (eqb_comm l m))

-- a lane of which there is a reply counts one
pub counts_one : (xs : List (ℕ × Event)) → All (λ (r : ℕ × Event). 1 ≤ count_from r.0 xs) xs
counts_one [] = All-nil (λ (r : ℕ × Event). 1 ≤ count_from r.0 [])
counts_one (x ∷ xs) =
    All-cons (λ (r : ℕ × Event). 1 ≤ count_from r.0 (x ∷ xs)) x xs
    (omega (arith, sum_by-cons (λ (r : ℕ × Event). cond (r.0 == x.0) 1 0) x xs, ap {B = ℕ} (λ b. cond b 1 0) (eqb_same x.0)))
    (All-weaker (λ (r : ℕ × Event). 1 ≤ count_from r.0 xs) (λ (r : ℕ × Event). 1 ≤ count_from r.0 (x ∷ xs))
    (λ r some. omega (arith, some, sum_by-cons (λ (s : ℕ × Event). cond (s.0 == r.0) 1 0) x xs)) xs (counts_one xs))

-- so each is of a lane that may have some
pub each_within : (most : ℕ → ℕ) (xs : List (ℕ × Event)) → ((m : ℕ) → count_from m xs ≤ most m) → All (λ (r : ℕ × Event). 1 ≤ most r.0) xs
each_within most xs few =
    All-weaker (λ (r : ℕ × Event). 1 ≤ count_from r.0 xs) (λ (r : ℕ × Event). 1 ≤ most r.0) (λ r some. omega (arith, some, few r.0)) xs (counts_one xs)

-- what bounds of the lanes say of a lane that may have some
only_by : (b : Bool) (n : ℕ) → 1 ≤ cond b n 0 → b ≡ true
only_by true n some = refl
only_by false n some = absurd (omega (arith, some))

pub only_is : (l n m : ℕ) → 1 ≤ only l n m → m ≡ l
only_is l n m some = eqb_is m l (only_by (m == l) n some)

pub of_first_is : (i n m : ℕ) → 1 ≤ of_first i n m → m < i
of_first_is i n m some = by_place (cases_lt m i)
  where
    by_place : (m < i) ⊎ (i ≤ m) → m < i
    by_place (inl before) = before
    by_place (inr past) = absurd (omega (arith, some, cond-false (nat_lt m i) n 0 (le-ltb m i past)))

only_sum : (b : Bool) (n k : ℕ) → cond b n 0 + cond b k 0 ≤ cond b (n + k) 0
only_sum true n k = omega arith
only_sum false n k = omega arith

pub only_more : (l n k m : ℕ) → only l n m + only l k m ≤ only l (n + k) m
only_more l n k m = only_sum (m == l) n k

only_below : (b : Bool) (n k : ℕ) → n ≤ k → cond b n 0 ≤ cond b k 0
only_below true n k le = le
only_below false n k le = omega arith

cond_within : (b : Bool) (n : ℕ) → cond b n 0 ≤ n
cond_within true n = omega arith
cond_within false n = omega arith

pub first_within : (i n m : ℕ) → of_first i n m ≤ n
first_within i n m = cond_within (nat_lt m i) n

-- one lane more
pub first_more : (i n m : ℕ) → of_first i n m + only i n m ≤ of_first (i + 1) n m
first_more i n m = by_place (cases_eq m i) (cases_lt m i)
  where
    by_place : (m ≡ i) ⊎ (m ≢ i) → (m < i) ⊎ (i ≤ m) → of_first i n m + only i n m ≤ of_first (i + 1) n m
    by_place (inl same) (inl before) = absurd (omega (arith, same, before))
    by_place (inl same) (inr past) =
        omega (
          arith,
          cond-false (nat_lt m i) n 0 (le-ltb m i past),
          cond_within (m == i) n,
          cond-true (nat_lt m (i + 1)) n 0 (lt-ltb m (i + 1) (omega (arith, same))),
        )
    by_place (inr other) (inl before) =
        omega (
          arith,
          cond_within (nat_lt m i) n,
          cond-false (m == i) n 0 (eqb_other m i other),
          cond-true (nat_lt m (i + 1)) n 0 (lt-ltb m (i + 1) (omega (arith, before))),
        )
    by_place (inr other) (inr past) = omega (arith, cond-false (nat_lt m i) n 0 (le-ltb m i past), cond-false (m == i) n 0 (eqb_other m i other))

-- ---- by rising lane

pairs-append : {X : Type 0} (R : X → X → Type 0) (xs ys : List X) → AllPairs R xs → AllPairs R ys → All (λ x. All (R x) ys) xs → AllPairs R (xs ++ ys)
pairs-append R [] ys first second across = second
pairs-append R (x ∷ xs) ys first second across =
    AllPairs-cons R x (xs ++ ys)
    (All-append (R x) xs ys (λ k d lt. first 0 (suc k) d (omega arith) (omega arith)) (All-head (λ z. All (R z) ys) x xs across))
    (pairs-append R xs ys (λ i j d lt within. first (suc i) (suc j) d (omega arith) (omega arith)) second (All-tail (λ z. All (R z) ys) x xs across))

pub by_lane-append : (f g : ℕ → ℕ) (xs ys : List (ℕ × Event)) → GoByLane xs → GoByLane ys → ((m : ℕ) → count_from m xs ≤ f m) → ((m : ℕ) → count_from m ys ≤ g m)
    → ((i j : ℕ) → 1 ≤ f i → 1 ≤ g j → i ≤ j) → GoByLane (xs ++ ys)
by_lane-append f g xs ys h k few_h few_k rise =
    pairs-append (λ (x y : ℕ × Event). x.0 ≤ y.0) xs ys h k
    (All-weaker (λ (x : ℕ × Event). 1 ≤ f x.0) (λ (x : ℕ × Event). All (λ (y : ℕ × Event). x.0 ≤ y.0) ys)
    (λ x some. All-weaker (λ (y : ℕ × Event). 1 ≤ g y.0) (λ (y : ℕ × Event). x.0 ≤ y.0) (λ y more. rise x.0 y.0 some more) ys (each_within g ys few_k)) xs (each_within f xs few_h))
