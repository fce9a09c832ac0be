-- (flow), step by step. Of the events that pass a key that keeps them in order, the given ones and then the waiting ones are the accepted ones.
use Rattle.std.proofs.Common.{◌≡◌, ℕ, zero, suc, ◌<◌, ◌≤◌, Bool, true, false, cond, not, ◌&&◌, ◌==◌, List, [], ◌∷◌, ◌++◌, length, get_or, filter, All, AllPairs, Contains, Option, Some, None, filter_map, ⊎_elim, refl, sym, eq-eqb, ap, ◌∙◌, subst, arith, append_assoc}
use Rattle.std.specs.List.{cons_option}
use Rattle.std.proofs.lemmas.Bool.{cases_Bool, false≢true, and_from, and_left, and_parts, cond-true, cond-false, cond_both, false_from_ne_true, not_from_true, not_from_false}
use Rattle.std.proofs.lemmas.List.{append_cancel_left}
use Rattle.std.proofs.lemmas.List.Elements.{All-head, All-tail, All-weaker, All-contains_itself, Contains-get_or, filter-append}
use Rattle.std.proofs.lemmas.List.Kept.{AllPairs-filter}
use Rattle.std.proofs.lemmas.Option.{same_Some}
use Rattle.evt_types.specs.Plan.{Plan, queue_of, level_of, is_atomic, is_ordered}
use Rattle.transcripts.specs.Transcript.{accepted_in, accepted, numbered, entered, event_at, given_of, hand, waiting, named, named_at, given}
use Rattle.transcripts.specs.Lawful.{is_of_flow, is_of_level, AreGivenInOrder, keeps_order}
use Rattle.transcripts.specs.Allowed.{Needs, MayGive, MayGiveNumber}
use Rattle.evt_types.specs.declared.event.Event.{Event}
use Rattle.evt_types.specs.declared.event.Numbered.{Numbered}
use Rattle.evt_types.specs.declared.step.Source.{Source}
use Rattle.evt_types.specs.declared.step.Step.{Step}
use Rattle.evt_types.specs.declared.step.Step.TheVariants.{Accept, Give}
use Rattle.lists.proofs.Lists.{and-true, eqb_other, eqb_is, filter_twice, filter_agree_all, filter-all, filter-push_true, filter-push_false, Contains-filter, filter_map-agree, more_some}
use Rattle.transcripts.proofs.Pushes.{accepted_in_is, given_of-same, given_of_is, hand-some, hand-none, entered-none, event_at-none, event_at-more}
use Rattle.transcripts.proofs.Waits.{entered-push, waiting-rises, waiting_at, waiting-none, waiting-accepts, waiting-give}
use Rattle.transcripts.proofs.Facts.{Facts}

-- those of the queue that pass keep their order with one another
pub record IsKey (p : Plan) (q : ℕ) (key : Numbered → Bool) : Type 0 where
  pub keeps : (v w : Numbered) → key v ≡ true → key w ≡ true → keeps_order p q v.event w.event ≡ true

-- of those that pass, the given ones and then the waiting ones are the accepted ones
abbrev pub InOrder : (Numbered → Bool) → List Step → ℕ → Type 0
InOrder key T q = filter key (given T q) ++ filter key (waiting T q) ≡ filter key (entered T q)

-- ---- keys

keeps_atomic : (p : Plan) (q : ℕ) (d e : Event) → is_atomic (queue_of p q).kind ≡ true → level_of d ≡ level_of e → d.flow ≡ e.flow
    → keeps_order p q d e ≡ true
keeps_atomic p q d e atomic level flow =
    cond-true (level_of d == level_of e) (cond (is_ordered (queue_of p q).kind) true (is_atomic (queue_of p q).kind && (d.flow == e.flow))) false
    (eq-eqb (level_of d) (level_of e) level) ∙ cond_both (is_ordered (queue_of p q).kind) true
    (is_atomic (queue_of p q).kind && (d.flow == e.flow)) (λ b. b ≡ true) (λ _. refl)
    (λ _. and_from (is_atomic (queue_of p q).kind) (d.flow == e.flow) atomic (eq-eqb d.flow e.flow flow))

keeps_ordered : (p : Plan) (q : ℕ) (d e : Event) → is_ordered (queue_of p q).kind ≡ true → level_of d ≡ level_of e → keeps_order p q d e ≡ true
keeps_ordered p q d e ordered level =
    cond-true (level_of d == level_of e) (cond (is_ordered (queue_of p q).kind) true (is_atomic (queue_of p q).kind && (d.flow == e.flow))) false
    (eq-eqb (level_of d) (level_of e) level) ∙ cond-true (is_ordered (queue_of p q).kind) true
    (is_atomic (queue_of p q).kind && (d.flow == e.flow)) ordered

pub key-flow : (p : Plan) (q f c : ℕ) → is_atomic (queue_of p q).kind ≡ true → IsKey p q (is_of_flow f c)
key-flow p q f c atomic = record {
  keeps = λ v w hv hw. let v_is = and_parts (v.event.flow == f) (level_of v.event == c) hv in
      let w_is = and_parts (w.event.flow == f) (level_of w.event == c) hw in
      keeps_atomic p q v.event w.event atomic (eqb_is (level_of v.event) c v_is.1 ∙ sym (eqb_is (level_of w.event) c w_is.1))
      (eqb_is v.event.flow f v_is.0 ∙ sym (eqb_is w.event.flow f w_is.0));
}

pub key-level : (p : Plan) (q c : ℕ) → is_ordered (queue_of p q).kind ≡ true → IsKey p q (is_of_level c)
key-level p q c ordered =
    record { keeps = λ v w hv hw. keeps_ordered p q v.event w.event ordered (eqb_is (level_of v.event) c hv ∙ sym (eqb_is (level_of w.event) c hw)) }

-- ---- what is given

given_stays : (p : Plan) (P : List Step) (q : ℕ) (s : Step) → Facts p P → filter_map (named_at (P ++ s ∷ []) q) (hand P q) ≡ given P q
given_stays p P q s f =
    filter_map-agree (named_at (P ++ s ∷ []) q) (named_at P q) (hand P q)
    (All-weaker (λ n. n < length (accepted P q)) (λ n. named_at (P ++ s ∷ []) q n ≡ named_at P q n)
    (λ n h. ap (named n) (event_at-more P q n s h)) (hand P q) (f.given q))

pub given-none : (p : Plan) (P : List Step) (q : ℕ) (s : Step) → Facts p P → given_of q s ≡ None → given (P ++ s ∷ []) q ≡ given P q
given-none p P q s f h = ap (filter_map (named_at (P ++ s ∷ []) q)) (hand-none P q s h) ∙ given_stays p P q s f

pub given-gives : (p : Plan) (P : List Step) (l q n : ℕ) (w : Numbered) → Facts p P → Contains (waiting P q) w → w.number ≡ n
    → given (P ++ Give l q n ∷ []) q ≡ given P q ++ w ∷ []
given-gives p P l q n w f c e =
    let T = P ++ Give l q n ∷ [] in
    let is : named_at T q n ≡ Some w = ap (named n) (event_at-none P q n (Give l q n) refl ∙ (ap (event_at P q) (sym e) ∙ waiting_at P q w c))
    ∙ ap (λ k. Some (record { number = k; event = w.event })) (sym e) in
    ap (filter_map (named_at T q)) (hand-some P q (Give l q n) n (given_of-same l q n))
    ∙ (more_some (named_at T q) (hand P q) n w is ∙ ap (λ ws. ws ++ w ∷ []) (given_stays p P q (Give l q n) f))

-- ---- one more step

same_numbered : (v w : Numbered) → v.number ≡ w.number → v.event ≡ w.event → v ≡ w
same_numbered v w e f = ap (λ n. record { number = n; event = v.event }) e ∙ ap (λ d. record { number = w.number; event = d }) f

-- two waiting events of one number are one
waiting_same : (P : List Step) (q : ℕ) (v w : Numbered) → Contains (waiting P q) v → Contains (waiting P q) w → v.number ≡ w.number → v ≡ w
waiting_same P q v w c d e = same_numbered v w e (same_Some v.event w.event (sym (waiting_at P q v c) ∙ (ap (event_at P q) e ∙ waiting_at P q w d)))

-- what waits, without the number of one that doesn't pass
others_stay : (key : Numbered → Bool) (P : List Step) (q : ℕ) (w : Numbered) → Contains (waiting P q) w → key w ≡ false
    → filter key (filter (λ (v : Numbered). not (v.number == w.number)) (waiting P q)) ≡ filter key (waiting P q)
others_stay key P q w c h =
    filter_twice key (λ (v : Numbered). not (v.number == w.number)) (waiting P q)
    ∙ filter_agree_all (λ (v : Numbered). key v && not (v.number == w.number)) key (waiting P q)
    (All-weaker (Contains (waiting P q)) (λ v. (key v && not (v.number == w.number)) ≡ key v) agrees (waiting P q)
    (All-contains_itself (waiting P q)))
  where
    agrees : (v : Numbered) → Contains (waiting P q) v → (key v && not (v.number == w.number)) ≡ key v
    agrees v d =
        ⊎_elim
        (λ same. let fails : key v ≡ false = ap key (waiting_same P q v w d c (eqb_is v.number w.number same))
        ∙ h in and_left (key v) (not (v.number == w.number)) fails ∙ sym fails)
        (λ other. ap (λ b. key v && not b) other ∙ and-true (key v))
        (cases_Bool (v.number == w.number))

-- the events of other numbers
abbrev other_than : ℕ → Numbered → Bool
other_than n v = not (v.number == n)

-- the first that passes of a rising list, and the others
first_passes : (key : Numbered → Bool) (ws : List Numbered) (w : Numbered) → AllPairs (λ (v u : Numbered). v.number < u.number) ws → Contains ws w
    → key w ≡ true → All (λ (v : Numbered). v.number < w.number → key v ≡ false) ws
    → filter key ws ≡ w ∷ filter key (filter (λ (v : Numbered). not (v.number == w.number)) ws)
first_passes key [] w rises c h low = absurd (omega arith)
first_passes key (v ∷ vs) w rises c h low =
    by_place c.0 c.1 c.2 (λ d. first_passes key vs w (λ i j e lt within. rises (suc i) (suc j) e (omega arith) (omega arith)) d h
    (All-tail (λ (u : Numbered). u.number < w.number → key u ≡ false) v vs low))
  where
    here : v ≡ w → cond (key v) (v ∷ filter key vs) (filter key vs) ≡ w ∷ filter key
        (cond (other_than w.number v) (v ∷ filter (other_than w.number) vs) (filter (other_than w.number) vs))
    here e =
        let rest : filter (other_than w.number) vs ≡ vs =
        filter-all (other_than w.number) vs (λ i d lt. not_from_false ((get_or vs i d).number == w.number)
        (eqb_other (get_or vs i d).number w.number (λ same. above i d lt same e))) in
        cond-true (key v) (v ∷ filter key vs) (filter key vs) (ap key e ∙ h)
        ∙ (ap (λ u. u ∷ filter key vs) e ∙ ap (λ us. w ∷ filter key us)
        (sym (cond-false (other_than w.number v) (v ∷ filter (other_than w.number) vs) (filter (other_than w.number) vs)
        (not_from_true (v.number == w.number) (eq-eqb v.number w.number (ap (λ (u : Numbered). u.number) e))) ∙ rest)))
      where
        above : (i : ℕ) (d : Numbered) → i < length vs → (get_or vs i d).number ≡ w.number → v ≡ w → ⊥
        above i d lt same e = let less = rises 0 (suc i) d (omega arith) (omega arith) in omega (arith, less, same, ap (λ (u : Numbered). u.number) e)

    by_place : (k : ℕ) → k < length (v ∷ vs) → get_or (v ∷ vs) k w ≡ w
        → (Contains vs w → filter key vs ≡ w ∷ filter key (filter (other_than w.number) vs))
        → cond (key v) (v ∷ filter key vs) (filter key vs) ≡ w ∷ filter key
        (cond (other_than w.number v) (v ∷ filter (other_than w.number) vs) (filter (other_than w.number) vs))
    by_place zero lt e more = here e
    by_place (suc k) lt e more =
        let rest = filter (other_than w.number) vs in
        let next = rises 0 (suc k) w (omega arith) lt in
        let less : v.number < w.number = omega (arith, next, ap (λ (u : Numbered). u.number) e) in
        let fails : key v ≡ false = All-head (λ (u : Numbered). u.number < w.number → key u ≡ false) v vs low less in
        let other : other_than w.number v ≡ true =
        not_from_false (v.number == w.number) (eqb_other v.number w.number (λ same. omega (arith, less, same))) in
        cond-false (key v) (v ∷ filter key vs) (filter key vs) fails
        ∙ (more (k, omega arith, e) ∙ ap (λ us. w ∷ us) (sym (ap (filter key) (cond-true (other_than w.number v) (v ∷ rest) rest other)
        ∙ cond-false (key v) (v ∷ filter key rest) (filter key rest) fails)))

-- one that is accepted waits last
accept_in_order : (key : Numbered → Bool) (P : List Step) (s : Step) (q : ℕ) (e : Event) → All (λ n. n < length (accepted P q)) (hand P q)
    → given (P ++ s ∷ []) q ≡ given P q → accepted_in q s ≡ Some e → given_of q s ≡ None → InOrder key P q → InOrder key (P ++ s ∷ []) q
accept_in_order key P s q e all same h k before =
    let w : Numbered = record { number = length (accepted P q); event = e } in
    let more : entered (P ++ s ∷ []) q ≡ entered P q ++ w ∷ [] =
    entered-push P q s ∙ ap (λ o. entered P q ++ numbered (length (accepted P q)) (cons_option o [])) h in
    rw (same, waiting-accepts P q s e all h k, more, filter-append key (waiting P q) (w ∷ []), filter-append key (entered P q) (w ∷ []))
    (sym (append_assoc (filter key (given P q)) (filter key (waiting P q)) (filter key (w ∷ []))) ∙ ap (λ ws. ws ++ filter key (w ∷ [])) before)

-- one that is given was the first that waits of those that pass, or doesn't pass
give_in_order : (p : Plan) (key : Numbered → Bool) (P : List Step) (l q : ℕ) (w : Numbered) → Facts p P → IsKey p q key → MayGive p P l q w
    → InOrder key P q → InOrder key (P ++ Give l q w.number ∷ []) q
give_in_order p key P l q w f is may before =
    rw (given-gives p P l q w.number w f may.once refl, waiting-give P l q w.number, entered-none P q (Give l q w.number) refl)
    (⊎_elim passes fails (cases_Bool (key w)))
  where
    low : key w ≡ true → All (λ (v : Numbered). v.number < w.number → key v ≡ false) (waiting P q)
    low h k d lt less =
        false_from_ne_true (key (get_or (waiting P q) k d)) (λ passes. false≢true
        (sym (may.flow k d lt less) ∙ is.keeps (get_or (waiting P q) k d) w passes h))

    passes : key w ≡ true → filter key (given P q ++ w ∷ []) ++ filter key (filter (other_than w.number) (waiting P q)) ≡ filter key (entered P q)
    passes h =
        ap (λ ws. ws ++ filter key (filter (other_than w.number) (waiting P q))) (filter-push_true key (given P q) w h)
        ∙ (append_assoc (filter key (given P q)) (w ∷ []) (filter key (filter (other_than w.number) (waiting P q)))
        ∙ (ap (λ ws. filter key (given P q) ++ ws) (sym (first_passes key (waiting P q) w (waiting-rises P q) may.once h (low h))) ∙ before))

    fails : key w ≡ false → filter key (given P q ++ w ∷ []) ++ filter key (filter (other_than w.number) (waiting P q)) ≡ filter key (entered P q)
    fails h =
        ap (λ ws. ws ++ filter key (filter (other_than w.number) (waiting P q))) (filter-push_false key (given P q) w h)
        ∙ (ap (λ ws. filter key (given P q) ++ ws) (others_stay key P q w may.once h) ∙ before)

pub flow_more : (p : Plan) (P : List Step) (s : Step) (q : ℕ) (key : Numbered → Bool) → Facts p P → IsKey p q key → InOrder key P q → Needs p P s
    → InOrder key (P ++ s ∷ []) q
flow_more p P s q key f is before needs = by_case (accepted_in q s) (given_of q s) refl refl
  where
    not_both : (c : Source) (l n : ℕ) (e : Event) → Accept q e c ≡ Give l q n → ⊥
    not_both c l n e h = cc

    by_case : (o : Option Event) (u : Option ℕ) → accepted_in q s ≡ o → given_of q s ≡ u → InOrder key (P ++ s ∷ []) q
    by_case (Some e) (Some n) h k =
        let accept = accepted_in_is q s e h in let give = given_of_is q s n k in absurd (not_both accept.0 give.0 n e (sym accept.1 ∙ give.1))
    by_case (Some e) None h k = accept_in_order key P s q e (f.given q) (given-none p P q s f k) h k before
    by_case None (Some n) h k =
        let give = given_of_is q s n k in
        let may : MayGiveNumber p P give.0 q n = subst (Needs p P) give.1 needs in
        subst (λ t. InOrder key (P ++ t ∷ []) q) (ap (Give give.0 q) may.1 ∙ sym give.1) (give_in_order p key P give.0 q may.0 f is may.2 before)
    by_case None None h k = rw (given-none p P q s f k, waiting-none P q s h k, entered-none P q s h) before

-- an item of a rising list is its first or above it
first_lowest : (ws zs : List Numbered) (w v : Numbered) → AllPairs (λ (u x : Numbered). u.number < x.number) ws → ws ≡ w ∷ zs → Contains ws v
    → w.number ≤ v.number
first_lowest ws zs w v rises e c = of_cons (subst (AllPairs (λ (u x : Numbered). u.number < x.number)) e rises) (subst (λ us. Contains us v) e c)
  where
    of_cons : AllPairs (λ (u x : Numbered). u.number < x.number) (w ∷ zs) → Contains (w ∷ zs) v → w.number ≤ v.number
    of_cons r d = at d.0 d.1 d.2
      where
        at : (k : ℕ) → k < length (w ∷ zs) → get_or (w ∷ zs) k v ≡ v → w.number ≤ v.number
        at zero lt is = omega (arith, ap (λ (u : Numbered). u.number) is)
        at (suc k) lt is = omega (arith, r 0 (suc k) v (omega arith) lt, ap (λ (u : Numbered). u.number) is)

-- the events of a lower number don't pass
pub flow_needs : (p : Plan) (P : List Step) (l q n : ℕ) (w : Numbered) (key : Numbered → Bool) → Facts p P → InOrder key P q
    → AreGivenInOrder key (P ++ Give l q n ∷ []) q → Contains (waiting P q) w → w.number ≡ n → key w ≡ true
    → All (λ (v : Numbered). v.number < w.number → key v ≡ false) (waiting P q)
flow_needs p P l q n w key f before after c e passes k d lt less =
    false_from_ne_true (key (get_or (waiting P q) k d)) (λ h. absurd (too_low h))
  where
    is : filter key (given (P ++ Give l q n ∷ []) q) ++ after.0 ≡ filter key (entered (P ++ Give l q n ∷ []) q)
    is = after.1

    first : filter key (waiting P q) ≡ w ∷ after.0
    first =
        append_cancel_left (filter key (given P q)) (filter key (waiting P q)) (w ∷ after.0)
        (before ∙ (sym (ap (filter key) (entered-none P q (Give l q n) refl))
        ∙ (sym is ∙ (ap (λ ws. filter key ws ++ after.0) (given-gives p P l q n w f c e)
        ∙ (ap (λ ws. ws ++ after.0) (filter-push_true key (given P q) w passes) ∙ append_assoc (filter key (given P q)) (w ∷ []) after.0)))))

    too_low : key (get_or (waiting P q) k d) ≡ true → ⊥
    too_low h =
        let v = get_or (waiting P q) k d in
        omega (
          arith,
          less,
          first_lowest (filter key (waiting P q)) after.0 w v
              (AllPairs-filter (λ (u x : Numbered). u.number < x.number) key (waiting P q) (waiting-rises P q)) first
              (Contains-filter key (waiting P q) v (Contains-get_or (waiting P q) k d lt) h),
        )
