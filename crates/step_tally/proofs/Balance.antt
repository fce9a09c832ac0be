-- What is counted balances: what was accepted, given and answered.
use Rattle.std.proofs.Common.{◌≡◌, ◌≢◌, ℕ, zero, suc, ◌+◌, ◌<◌, ◌≤◌, Bool, true, false, not, ◌==◌, ◌&&◌, List, [], ◌∷◌, ◌++◌, length, count_by, filter, filter_map, All, AllPairs, Contains, Option, Some, None, cond, refl, sym, sum_by, ap, ◌∙◌, subst, arith, ⊎_elim}
use Rattle.std.specs.List.{cons_option}
use Rattle.std.proofs.lemmas.Bool.{cases_eq, not_from_true, not_from_false, eq-eqb, cond-true, cond-false}
use Rattle.std.proofs.lemmas.List.{length_push, take_all}
use Rattle.std.proofs.lemmas.List.Elements.{All-head, All-tail, All-weaker}
use Rattle.std.proofs.lemmas.List.Sums.{sum_by-cons}
use Rattle.lists.proofs.Lists.{eqb_other, filter-all}
use Rattle.lists.proofs.Sums.{sum_changed, sum_same}
use Rattle.transcripts.proofs.ByLane.{sum_zero}
use Rattle.transcripts.proofs.Facts.{Facts, Facts-none, Facts-push, AllowedAfter_keeps}
use Rattle.transcripts.proofs.Pushes.{accepted_in-other, accepted_in-same, accepted-some, accepted-none, given_of-other, hand-some, hand-none, length-unanswered}
use Rattle.transcripts.proofs.Waits.{waiting-none, waiting-gives, waiting-accepts, waiting-rises}
use Rattle.transcripts.proofs.Whole.{steps-Lawful}
use Rattle.transcripts.specs.Allowed.{Allowed}
use Rattle.transcripts.specs.Lawful.{IsFormed, Lawful}
use Rattle.evt_types.specs.Plan.{Plan, lanes, lanes_of}
use Rattle.transcripts.specs.Transcript.{accepted_in, accepted, out, answers, unanswered, given_of, hand, waiting}
use Rattle.evt_types.specs.declared.event.Event.{Event}
use Rattle.evt_types.specs.declared.event.Numbered.{Numbered}
use Rattle.evt_types.specs.declared.step.Outcome.{Outcome}
use Rattle.evt_types.specs.declared.step.Outcome.TheVariants.{Forwarded, Released}
use Rattle.evt_types.specs.declared.step.Source.{Source}
use Rattle.evt_types.specs.declared.step.Source.TheVariants.{New, Of}
use Rattle.evt_types.specs.declared.step.Step.{Step}
use Rattle.evt_types.specs.declared.step.Step.TheVariants.{Accept, Give}
use Rattle.step_tally.specs.Counts.{is_new_to, is_passed_to, is_given_to, new_to, passed_to, given_to, is_released, is_forwarded, released_by, forwarded_by}

-- ---- for every transcript

-- two tests of which each item passes one count what is found
counts_found : {X Y : Type 0} (p q : X → Bool) (f : X → Option Y) → ((x : X) → cond (p x) 1 0 + cond (q x) 1 0 ≡ length (cons_option (f x) []))
    → (xs : List X) → count_by p xs + count_by q xs ≡ length (filter_map f xs)
counts_found p q f one [] = refl
counts_found p q f one (x ∷ xs) =
    omega (arith, sum_by-cons (λ y. cond (p y) 1 0) x xs, sum_by-cons (λ y. cond (q y) 1 0) x xs, one x, counts_found p q f one xs, more (f x) (filter_map f xs))
  where
    more : {Z : Type 0} (o : Option Z) (zs : List Z) → length (cons_option o zs) ≡ length (cons_option o []) + length zs
    more None zs = omega arith
    more (Some z) zs = omega arith

-- an accepted event was a NEW or was passed on
new_or_passed : (q : ℕ) (s : Step) → cond (is_new_to q s) 1 0 + cond (is_passed_to q s) 1 0 ≡ length (cons_option (accepted_in q s) [])
new_or_passed q (Accept r e (New l)) = by_queue (r == q) e
  where
    by_queue : (b : Bool) (e : Event) → cond b 1 0 + 0 ≡ length (cons_option (cond b (Some e) None) [])
    by_queue true e = refl
    by_queue false e = refl
new_or_passed q (Accept r e (Of m n)) = by_queue (r == q) e
  where
    by_queue : (b : Bool) (e : Event) → 0 + cond b 1 0 ≡ length (cons_option (cond b (Some e) None) [])
    by_queue true e = refl
    by_queue false e = refl
new_or_passed q step = refl

pub accepted_by_source : (T : List Step) (q : ℕ) → new_to T q + passed_to T q ≡ length (accepted T q)
unfolding new_to passed_to accepted
accepted_by_source T q = counts_found (is_new_to q) (is_passed_to q) (accepted_in q) (new_or_passed q) T

outcomes_counted : (os : List Outcome) → count_by is_released os + count_by is_forwarded os ≡ length os
outcomes_counted [] = refl
outcomes_counted (Released ∷ os) =
    omega (arith, sum_by-cons (λ o. cond (is_released o) 1 0) Released os, sum_by-cons (λ o. cond (is_forwarded o) 1 0) Released os, outcomes_counted os)
outcomes_counted (Forwarded e ∷ os) =
    omega (
      arith,
      sum_by-cons (λ o. cond (is_released o) 1 0) (Forwarded e) os,
      sum_by-cons (λ o. cond (is_forwarded o) 1 0) (Forwarded e) os,
      outcomes_counted os,
    )

pub answers_by_outcome : (T : List Step) (l : ℕ) → released_by T l + forwarded_by T l ≡ length (answers T l)
unfolding released_by forwarded_by
answers_by_outcome T l = outcomes_counted (answers T l)

-- ---- for lawful ones

pub out_by_answer : (p : Plan) (T : List Step) (l : ℕ) → Lawful p T → length (out T l) ≡ length (answers T l) + length (unanswered T l)
out_by_answer p T l h =
    let whole = take_all (length T) T (omega arith) in
    let fewer : length (answers T l) ≤ length (out T l) =
    subst (λ P. length (answers P l) ≤ length (out P l)) whole (h.answers (length T) (omega arith) l)
    in
    omega (arith, length-unanswered T l)

-- a rising list without one of its numbers is one shorter
shorter_by_one : (xs : List Numbered) (w : Numbered) → AllPairs (λ (u v : Numbered). u.number < v.number) xs → Contains xs w
    → length xs ≡ length (filter (λ (v : Numbered). not (v.number == w.number)) xs) + 1
shorter_by_one [] w rises (k, within, is) = absurd (omega arith)
shorter_by_one (x ∷ xs) w rises (zero, within, is) =
    let test = λ (v : Numbered). not (v.number == w.number) in
    let same : x.number ≡ w.number = ap (λ (v : Numbered). v.number) is in
    let later : All (λ (v : Numbered). x.number < v.number) xs = λ k d l. rises 0 (suc k) d (omega arith) (omega arith) in
    let all = All-weaker (λ (v : Numbered). x.number < v.number) (λ v. test v ≡ true) (λ v lt. not_from_false (v.number == w.number) (eqb_other v.number w.number (λ e. omega arith))) xs later in
    let first = cond-false (test x) (x ∷ filter test xs) (filter test xs) (not_from_true (x.number == w.number) (eq-eqb x.number w.number same)) in
    omega (arith, ap length (first ∙ filter-all test xs all))
shorter_by_one (x ∷ xs) w rises (suc k, within, is) =
    let test = λ (v : Numbered). not (v.number == w.number) in
    let before : x.number < w.number = subst (λ (v : Numbered). x.number < v.number) is (rises 0 (suc k) w (omega arith) within) in
    let rest = shorter_by_one xs w (λ i j d lt in'. rises (suc i) (suc j) d (omega arith) (omega arith)) (k, omega arith, is) in
    let first = cond-true (test x) (x ∷ filter test xs) (filter test xs) (not_from_false (x.number == w.number) (eqb_other x.number w.number (λ e. omega arith))) in
    omega (arith, ap length first)

abbrev Waits : List Step → ℕ → Type 0
Waits T q = length (accepted T q) ≡ length (hand T q) + length (waiting T q)

waits_none : (q : ℕ) → Waits [] q
unfolding accepted hand waiting
waits_none q = refl

-- a step that neither accepts nor gives an event of the queue
waits_still : (P : List Step) (s : Step) (q : ℕ) → accepted_in q s ≡ None → given_of q s ≡ None → Waits P q → Waits (P ++ s ∷ []) q
waits_still P s q h k waits = omega (arith, ap length (accepted-none P q s h), ap length (hand-none P q s k), ap length (waiting-none P q s h k))

accept_waits : (p : Plan) (P : List Step) (q : ℕ) (e : Event) (c : Source) → Facts p P → Waits P q → Waits (P ++ Accept q e c ∷ []) q
accept_waits p P q e c f waits =
    omega (
      arith,
      ap length (accepted-some P q (Accept q e c) e (accepted_in-same q e c)),
      length_push (accepted P q) e,
      ap length (hand-none P q (Accept q e c) refl),
      ap length (waiting-accepts P q (Accept q e c) e (f.given q) (accepted_in-same q e c) refl),
      length_push (waiting P q) (record { number = length (accepted P q); event = e }),
    )

waits_accept : (p : Plan) (P : List Step) (r : ℕ) (e : Event) (c : Source) (q : ℕ) → Facts p P → Waits P q → Waits (P ++ Accept r e c ∷ []) q
waits_accept p P r e c q f waits =
    ⊎_elim (λ same. subst (λ k. Waits (P ++ Accept k e c ∷ []) q) (sym same) (accept_waits p P q e c f waits))
    (λ other. waits_still P (Accept r e c) q (accepted_in-other q r e c other) refl waits) (cases_eq r q)

waits_give : (p : Plan) (P : List Step) (l r n q : ℕ) → Allowed p P (Give l r n) → Waits P q → Waits (P ++ Give l r n ∷ []) q
waits_give p P l r n q a waits = ⊎_elim here (λ other. waits_still P s q refl (given_of-other l q r n other) waits) (cases_eq r q)
  where
    s : Step
    s = Give l r n

    here : r ≡ q → Waits (P ++ s ∷ []) q
    here same =
        let is = cond-true (r == q) (Some n) None (eq-eqb r q same) in
        let w = a.needs.0 in
        let there : Contains (waiting P q) w = subst (λ k. Contains (waiting P k) w) same a.needs.2.once in
        let less = subst (λ m. length (waiting P q) ≡ length (filter (λ (v : Numbered). not (v.number == m)) (waiting P q)) + 1) a.needs.1 (shorter_by_one (waiting P q) w (waiting-rises P q) there) in
        omega (
          arith,
          ap length (accepted-none P q s refl),
          ap length (hand-some P q s n is),
          length_push (hand P q) n,
          ap length (waiting-gives P q s n refl is),
          less,
        )

record Balanced (p : Plan) (T : List Step) : Type 0 where
  facts : Facts p T
  waits : (q : ℕ) → Waits T q

waits_push : (p : Plan) (P : List Step) (s : Step) (q : ℕ) → Facts p P → Allowed p P s → Waits P q → Waits (P ++ s ∷ []) q
waits_push p P (Accept r e c) q f a h = waits_accept p P r e c q f h
waits_push p P (Give l r n) q f a h = waits_give p P l r n q a h
waits_push p P step q f a h = waits_still P step q refl refl h

pub accepted_by_give : (p : Plan) (T : List Step) (q : ℕ) → Lawful p T → length (accepted T q) ≡ length (hand T q) + length (waiting T q)
accepted_by_give p T q h =
    (AllowedAfter_keeps p (Balanced p) (λ P s b a. record { facts = Facts-push p P s b.facts a; waits = λ r. waits_push p P s r b.facts a (b.waits r) }) []
    T (record { facts = Facts-none p; waits = waits_none }) (steps-Lawful p T h).steps).waits q

-- ---- by lane

abbrev GivenByLane : Plan → List Step → ℕ → Type 0
GivenByLane p T q = length (hand T q) ≡ sum_by (given_to T q) (lanes p)

given_to-cons : (s : Step) (T : List Step) (q l : ℕ) → given_to (s ∷ T) q l ≡ cond (is_given_to q l s) 1 0 + given_to T q l
unfolding given_to
given_to-cons s T q l = sum_by-cons (λ t. cond (is_given_to q l t) 1 0) s T

-- a step that is no Give of the queue
elsewhere : (p : Plan) (s : Step) (T : List Step) (q : ℕ) → given_of q s ≡ None → ((l : ℕ) → is_given_to q l s ≡ false)
    → GivenByLane p T q → GivenByLane p (s ∷ T) q
unfolding hand
elsewhere p s T q none still h =
    ap (λ o. length (cons_option o (hand T q))) none ∙ (h ∙ sum_same (given_to T q) (given_to (s ∷ T) q) (lanes_of p) (λ l.
    omega (arith, given_to-cons s T q l, cond-false {A = ℕ} (is_given_to q l s) 1 0 (still l))))

-- a Give of the queue
here : (p : Plan) (l r n : ℕ) (T : List Step) (q : ℕ) → l < lanes_of p → r ≡ q
    → GivenByLane p T q → GivenByLane p (Give l r n ∷ T) q
unfolding hand
here p l r n T q there same h =
    let s = Give l r n in
    let one = ap (λ o. length (cons_option o (hand T q))) (cond-true (r == q) (Some n) None (eq-eqb r q same)) in
    let of_queue : (k : ℕ) (b : Bool) → (l == k) ≡ b → is_given_to q k s ≡ b = λ k b e. ap (λ c. c && (l == k)) (eq-eqb r q same) ∙ e in
    let more : given_to T q l + 1 ≡ given_to (s ∷ T) q l + 0 = omega (arith, given_to-cons s T q l, cond-true {A = ℕ} (is_given_to q l s) 1 0 (of_queue l true (eq-eqb l l refl))) in
    let still : (k : ℕ) → k ≢ l → given_to T q k ≡ given_to (s ∷ T) q k = λ k other. omega (arith, given_to-cons s T q k, cond-false {A = ℕ} (is_given_to q k s) 1 0 (of_queue k false (eqb_other l k (λ e. other (sym e))))) in
    omega (arith, one, h, sum_changed (given_to T q) (given_to (s ∷ T) q) (lanes_of p) l 1 0 there more still)

given_step : (p : Plan) (s : Step) (T : List Step) (q : ℕ) → IsFormed p s
    → GivenByLane p T q → GivenByLane p (s ∷ T) q
given_step p (Give l r n) T q formed h =
    ⊎_elim (λ same. here p l r n T q formed.lane same h)
    (λ other. elsewhere p (Give l r n) T q (given_of-other l q r n other) (λ k. ap (λ b. b && (l == k)) (eqb_other r q other)) h)
    (cases_eq r q)
given_step p step T q formed h = elsewhere p step T q refl (λ l. refl) h

given_none : (p : Plan) (q : ℕ) → GivenByLane p [] q
unfolding hand given_to
given_none p q = sym (sum_zero (given_to [] q) (lanes p) (λ k d l. refl))

given_formed : (p : Plan) (T : List Step) (q : ℕ) → All (IsFormed p) T → GivenByLane p T q
given_formed p [] q formed = given_none p q
given_formed p (s ∷ T) q formed =
    given_step p s T q (All-head (IsFormed p) s T formed) (given_formed p T q (All-tail (IsFormed p) s T formed))

pub given_by_lane : (p : Plan) (T : List Step) (q : ℕ) → Lawful p T → length (hand T q) ≡ sum_by (given_to T q) (lanes p)
given_by_lane p T q lawful = given_formed p T q lawful.formed
