-- Where events were accepted from. As long as no event was added beside another each number has one Accept at most from it, so an
-- ordered queue's numbers with an Accept follow its hand-out, and an atomic queue's of one flow and level rise.
use Rattle.std.proofs.Common.{◌≡◌, ◌≢◌, ℕ, suc, ◌<◌, ◌≤◌, Bool, true, false, cond, ◌||◌, ◌==◌, List, [], ◌∷◌, ◌++◌, length, get_or, filter, All, AllPairs, Option, Some, None, ◌⊎◌, inl, inr, ⊎_elim, refl, sym, eq-eqb, ap, ◌∙◌, subst, arith}
use Rattle.std.specs.List.{cons_option}
use Rattle.std.proofs.lemmas.Bool.{cases_Bool, cases_lt, cases_eq, false≢true, or_left, or_right, cond-true, cond-false, cond_both, false_from_ne_true}
use Rattle.std.proofs.lemmas.List.{take_all, length-append}
use Rattle.std.proofs.lemmas.List.Elements.{All-cons, All-head, All-weaker}
use Rattle.std.proofs.lemmas.Option.{slice_get_within}
use Rattle.evt_types.specs.Plan.{Plan, queue_of, is_atomic, is_ordered}
use Rattle.lists.specs.Lists.{has}
use Rattle.transcripts.specs.Transcript.{is_pair, sends, sent, sent_for, forwards, add_more, extras, hand, taken, source_in, sources, is_more}
use Rattle.lists.specs.Lists.{upto}
use Rattle.transcripts.specs.Lawful.{KeepsOrder, HasOrigin, Lawful}
use Rattle.transcripts.specs.Allowed.{Allowed, AllowedAfter, MayAcceptOf}
use Rattle.evt_types.specs.declared.event.Event.{Event}
use Rattle.evt_types.specs.declared.event.TheConstants.{MAX_FORWARDS}
use Rattle.evt_types.specs.declared.step.Step.{Step}
use Rattle.evt_types.specs.declared.step.Step.TheVariants.{Accept, Give, Done, More, Turned, Bounced, Shut}
use Rattle.lists.proofs.Lists.{eqb_other, eqb_is, has_none, All-front, All-last, AllPairs-option, All-differs, filter_agree_all, filter-none, option_length}
use Rattle.transcripts.proofs.Pushes.{Sends, source_in_is, sources-push, forwards-none, forwards-other, forwards-sends, sends_is, extras-push}
use Rattle.transcripts.proofs.Facts.{AllowedAfter_keeps}
use Rattle.transcripts.proofs.Once.{Single, Single-none, Single-push, Single-allowed, pair_is}
use Rattle.transcripts.proofs.Origins.{origin_fewer}
use Rattle.transcripts.proofs.Whole.{steps-Lawful}
use Rattle.transcripts.specs.Laws.{AddsNone, IsSublist, IsAcceptedOnce, IsStrictlyRising}

-- ---- a list whose items stand in the order of another

-- what stands before n
abbrev before : ℕ → List ℕ → List ℕ
before n [] = []
before n (m ∷ ms) = cond (m == n) [] (m ∷ before n ms)

-- m stands before n where it stands no later and is another
before-upto : (m n : ℕ) (xs : List ℕ) → m ≢ n → has m (upto n xs) ≡ true → has m (before n xs) ≡ true
before-upto m n [] apart h = h
before-upto m n (x ∷ xs) apart h = by_case (x == n) (x == m) refl refl h (before-upto m n xs apart)
  where
    by_case : (b c : Bool) → (x == n) ≡ b → (x == m) ≡ c → (c || has m (cond b [] (upto n xs))) ≡ true
        → (has m (upto n xs) ≡ true → has m (before n xs) ≡ true) → has m (cond b [] (x ∷ before n xs)) ≡ true
    by_case true true d e k more = absurd (apart (sym (eqb_is x m e) ∙ eqb_is x n d))
    by_case true false d e k more = k
    by_case false true d e k more = or_left (x == m) (has m (before n xs)) e
    by_case false false d e k more = or_right (x == m) (has m (before n xs)) (more k)

-- nothing stands before the head
not_head : (m n x : ℕ) (xs : List ℕ) → has m (before n (x ∷ xs)) ≡ true → x ≢ n
not_head m n x xs h e = false≢true (sym (ap (has m) (cond-true (x == n) [] (x ∷ before n xs) (eq-eqb x n e))) ∙ h)

-- a number that isn't the head
has_tail : (m x : ℕ) (xs : List ℕ) → x ≢ m → has m (x ∷ xs) ≡ true → has m xs ≡ true
has_tail m x xs apart h = subst (λ b. (b || has m xs) ≡ true) (eqb_other x m apart) h

before_tail : (m n x : ℕ) (xs : List ℕ) → x ≢ m → has m (before n (x ∷ xs)) ≡ true → has m (before n xs) ≡ true
before_tail m n x xs apart h =
    has_tail m x (before n xs) apart (subst (λ ks. has m ks ≡ true) (cond-false (x == n) [] (x ∷ before n xs) (eqb_other x n (not_head m n x xs h)))
    h)

abbrev AllIn : List ℕ → List ℕ → Type 0
AllIn xs ns = All (λ n. has n xs ≡ true) ns

abbrev StandsBefore : List ℕ → ℕ → ℕ → Type 0
StandsBefore xs m n = has m (before n xs) ≡ true

-- ns has the items of xs that are in it, in their order
in_order : (xs ns : List ℕ) → AllPairs (λ m n. m ≢ n) xs → AllIn xs ns → AllPairs (StandsBefore xs) ns → ns ≡ filter (λ n. has n ns) xs
in_order [] [] apart there order = refl
in_order [] (n ∷ ns) apart there order = absurd (false≢true (All-head (λ k. has k [] ≡ true) n ns there))
in_order (x ∷ xs) [] apart there order = sym (filter-none (λ n. has n []) (x ∷ xs) (λ k d lt. refl))
in_order (x ∷ xs) (n ∷ ns) apart there order =
    ⊎_elim
    (λ same. taken_first same (in_order xs ns rest later (λ i j d lt within. before_tail (get_or ns i d) (get_or ns j d) x xs
    (others i d (omega arith)) (order (suc i) (suc j) d (omega arith) (omega arith)))))
    (λ other. left_out other (in_order xs (n ∷ ns) rest (All-cons (λ k. has k xs ≡ true) n ns
    (has_tail n x xs other (All-head (λ k. has k (x ∷ xs) ≡ true) n ns there)) later)
    (λ i j d lt within. before_tail (get_or (n ∷ ns) i d) (get_or (n ∷ ns) j d) x xs (each other i d (omega arith)) (order i j d lt within))))
    (cases_eq x n)
  where
    rest : AllPairs (λ m k. m ≢ k) xs
    rest i j d lt within = apart (suc i) (suc j) d (omega arith) (omega arith)

    others : All (λ m. x ≢ m) ns
    others k d lt = not_head n (get_or ns k d) x xs (order 0 (suc k) d (omega arith) (omega arith))

    each : x ≢ n → All (λ m. x ≢ m) (n ∷ ns)
    each other = All-cons (λ m. x ≢ m) n ns other others

    later : AllIn xs ns
    later k d lt = has_tail (get_or ns k d) x xs (others k d lt) (there (suc k) d (omega arith))

    taken_first : x ≡ n → ns ≡ filter (λ k. has k ns) xs → n ∷ ns ≡ filter (λ k. has k (n ∷ ns)) (x ∷ xs)
    taken_first same is =
        let agree = filter_agree_all (λ k. has k (n ∷ ns)) (λ k. has k ns) xs
        (λ k d lt. ap (λ b. b || has (get_or xs k d) ns) (eqb_other n (get_or xs k d)
        (λ e. apart 0 (suc k) d (omega arith) (omega arith) (same ∙ e)))) in
        sym (cond-true (has x (n ∷ ns)) (x ∷ filter (λ k. has k (n ∷ ns)) xs) (filter (λ k. has k (n ∷ ns)) xs)
        (or_left (n == x) (has x ns) (eq-eqb n x (sym same))) ∙ (ap (λ k. k ∷ filter (λ j. has j (n ∷ ns)) xs) same
        ∙ ap (λ ks. n ∷ ks) (agree ∙ sym is)))

    left_out : x ≢ n → n ∷ ns ≡ filter (λ k. has k (n ∷ ns)) xs → n ∷ ns ≡ filter (λ k. has k (n ∷ ns)) (x ∷ xs)
    left_out other is =
        is ∙ sym (cond-false (has x (n ∷ ns)) (x ∷ filter (λ k. has k (n ∷ ns)) xs) (filter (λ k. has k (n ∷ ns)) xs)
        (has_none x (n ∷ ns) (All-weaker (λ m. x ≢ m) (λ m. m ≢ x) (λ m differs e. differs (sym e)) (n ∷ ns) (each other))))

-- ---- where no event was added: one Accept from each number

pub record Plain (p : Plan) (T : List Step) : Type 0 where
  pub bare : (l : ℕ) → extras T l ≡ []
  pub one : (q n : ℕ) → length (forwards T q n) ≤ 1
  pub distinct : (q : ℕ) → AllPairs (λ m n. m ≢ n) (sources T q)

Plain-none : (p : Plan) → Plain p []
unfolding extras forwards sent sources
Plain-none p = record { bare = λ l. refl; one = λ q n. omega arith; distinct = λ q i j d lt within. absurd (omega arith) }

Plain-push : (p : Plan) (P : List Step) (s : Step) → Single p P → Plain p P → Allowed p P s → is_more s ≡ false → Plain p (P ++ s ∷ [])
Plain-push p P s known h a no_more = record {
  bare = λ l. extras-push P l s ∙ (ap (λ es. add_more l es s) (h.bare l) ∙ adds_none s no_more l);
  one = λ q n. by_case q n (sends P s) refl;
  distinct =
      λ q. rw (sources-push P q s) (AllPairs-option (λ m n. m ≢ n) (sources P q) (source_in q s) (h.distinct q)
      (λ n e. All-differs n (sources P q) (new q n e)));
}
  where
    adds_none : (t : Step) → is_more t ≡ false → (l : ℕ) → add_more l [] t ≡ []
    adds_none (Done m o) k l = cond_both (m == l) [] [] (λ es. es ≡ []) (λ _. refl) (λ _. refl)
    adds_none (More m e) k l = absurd (false≢true (sym k))
    adds_none s k l = refl

    by_case : (q n : ℕ) (u : Option ((ℕ × ℕ) × Event)) → sends P s ≡ u → length (forwards (P ++ s ∷ []) q n) ≤ 1
    by_case q n None e = omega (arith, ap length (forwards-none P q n s e), h.one q n)
    by_case q n (Some y) e = of_pair (cases_Bool (is_pair q n y.0))
      where
        sending : Sends P s y.0 y.1
        sending = sends_is P s y.0 y.1 e

        of_pair : (is_pair q n y.0 ≡ true) ⊎ (is_pair q n y.0 ≡ false) → length (forwards (P ++ s ∷ []) q n) ≤ 1
        of_pair (inl is) =
            let none : forwards P q n ≡ [] =
            subst (λ (z : ℕ × ℕ). forwards P z.0 z.1 ≡ []) (pair_is q n y.0 is)
            (known.once.first sending.lane y.0 sending.next ∙ h.bare sending.lane) in
            omega (
              arith,
              ap length (forwards-sends P q n s y e),
              length-append (forwards P q n) (cons_option (sent_for q n y) []),
              ap length none,
              option_length (sent_for q n y),
            )
        of_pair (inr other) = omega (arith, ap length (forwards-other P q n s y.0 y.1 e other), h.one q n)

    new : (q n : ℕ) → source_in q s ≡ Some n → has n (sources P q) ≡ false
    new q n e =
        let accept = source_in_is q s n e in
        let may : MayAcceptOf p P accept.1 q n = (subst (Allowed p P) accept.2 a).needs in
        let within = slice_get_within (forwards P q n) (length (taken P q n)) accept.1 may.origin in
        false_from_ne_true (has n (sources P q)) (λ old. absurd (omega (arith, within, h.one q n, known.once.source q n old)))

-- as long as no event is added
record Both (p : Plan) (T : List Step) : Type 0 where
  pub single : Single p T
  pub plain : AddsNone T → Plain p T

Both-push : (p : Plan) (P : List Step) (s : Step) → Both p P → Allowed p P s → Both p (P ++ s ∷ [])
Both-push p P s h a = record {
  single = Single-push p P s h.single a;
  plain = λ adds. Plain-push p P s h.single (h.plain (All-front (λ t. is_more t ≡ false) P (s ∷ []) adds)) a (All-last (λ t. is_more t ≡ false) P s adds);
}

pub Plain-allowed : (p : Plan) (T : List Step) → AddsNone T → AllowedAfter p [] T → Plain p T
Plain-allowed p T adds all =
    (AllowedAfter_keeps p (Both p) (Both-push p) [] T (record { single = Single-none p; plain = λ none. Plain-none p }) all).plain adds

-- ---- the laws

single : (p : Plan) (T : List Step) → Lawful p T → Single p T
single p T h = Single-allowed p T (steps-Lawful p T h).steps

plain : (p : Plan) (T : List Step) → AddsNone T → Lawful p T → Plain p T
plain p T adds h = Plain-allowed p T adds (steps-Lawful p T h).steps

keeps_order_of : (p : Plan) (T : List Step) → Lawful p T → KeepsOrder p T
keeps_order_of p T h = subst (KeepsOrder p) (take_all (length T) T (omega arith)) (h.order (length T) (omega arith))

taken_fewer : (p : Plan) (T : List Step) (q n : ℕ) → Lawful p T → length (taken T q n) ≤ length (forwards T q n)
taken_fewer p T q n h = origin_fewer T (subst HasOrigin (take_all (length T) T (omega arith)) (h.origin (length T) (omega arith))) q n

pub taken_few : (p : Plan) (T : List Step) (q n : ℕ) → Lawful p T → length (taken T q n) ≤ MAX_FORWARDS
taken_few p T q n h = omega (arith, (single p T h).once.few q n, taken_fewer p T q n h)

pub accepted_once : (p : Plan) (T : List Step) (q : ℕ) → AddsNone T → Lawful p T → IsAcceptedOnce T q
accepted_once p T q adds h = (plain p T adds h).distinct q

pub taken_once : (p : Plan) (T : List Step) (q n : ℕ) → AddsNone T → Lawful p T → length (taken T q n) ≤ 1
taken_once p T q n adds h = omega (arith, (plain p T adds h).one q n, taken_fewer p T q n h)

pub sources_follow : (p : Plan) (T : List Step) (q : ℕ) → is_ordered (queue_of p q).kind ≡ true → AddsNone T → Lawful p T
    → IsSublist (sources T q) (hand T q)
sources_follow p T q ordered adds h =
    let facts = (single p T h).facts in
    let distinct = (plain p T adds h).distinct q in
    let order = ((keeps_order_of p T h).ordered q ordered).order in (
      (λ n. has n (sources T q)),
      in_order (hand T q) (sources T q) (facts.once q) (facts.sources q)
          (λ i j d lt within. before-upto (get_or (sources T q) i d) (get_or (sources T q) j d) (hand T q) (distinct i j d lt within)
          (order i j d lt within)),
    )

pub sources_rise : (p : Plan) (T : List Step) (q : ℕ) → is_atomic (queue_of p q).kind ≡ true → AddsNone T → Lawful p T → IsStrictlyRising p T q
sources_rise p T q atomic adds h i j d lt within keeps =
    let apart = (plain p T adds h).distinct q i j d lt within in
    let low = (keeps_order_of p T h).atomic q atomic i j d lt within keeps in
    ⊎_elim (λ same. absurd (apart same)) (λ less. less) (eq_or_lt (get_or (sources T q) i d) (get_or (sources T q) j d) low)
  where
    eq_or_lt : (m n : ℕ) → m ≤ n → (m ≡ n) ⊎ (m < n)
    eq_or_lt m n le = ⊎_elim (λ less. inr less) (λ past. inl (omega arith)) (cases_lt m n)
