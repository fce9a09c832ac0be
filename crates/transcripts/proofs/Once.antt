-- No number is answered twice, so what was added on a lane between two of its answers belongs to the later one: a number is passed on
-- as what was added beside it, and then its forward.
use Rattle.std.proofs.Common.{◌≡◌, ◌≢◌, ℕ, suc, ◌+◌, ◌<◌, ◌≤◌, true, false, ◌&&◌, ◌==◌, List, [], ◌∷◌, ◌++◌, length, drop, get_or, All, AllPairs, Option, Some, None, ◌⊎◌, inl, inr, ⊎_elim, refl, sym, ap, ◌∙◌, subst, arith, append-nil}
use Rattle.std.specs.List.{cons_option}
use Rattle.std.proofs.lemmas.Bool.{cases_Bool, cases_eq, false≢true, or_cases, false_from_ne_true}
use Rattle.std.proofs.lemmas.List.{length_push, length-append}
use Rattle.std.proofs.lemmas.List.Elements.{All-head, All-weaker, All-drop}
use Rattle.std.proofs.lemmas.Option.{none-some, same_Some}
use Rattle.evt_types.specs.Plan.{Plan}
use Rattle.lists.specs.Lists.{has}
use Rattle.transcripts.specs.Transcript.{given_to, out, answer_of, answers, unanswered, next_pair, ends, is_pair, is_answered, sends, sent, forwards, add_more, extras, hand, taken_in, taken, source_in, sources}
use Rattle.transcripts.specs.Lawful.{AddsFew}
use Rattle.transcripts.specs.Allowed.{Allowed, AllowedAfter}
use Rattle.transcripts.specs.Standing.{events_of}
use Rattle.evt_types.specs.declared.event.Event.{Event}
use Rattle.evt_types.specs.declared.event.TheConstants.{MAX_EXTRAS, MAX_FORWARDS}
use Rattle.evt_types.specs.declared.step.Outcome.{Outcome}
use Rattle.evt_types.specs.declared.step.Source.TheVariants.{Of}
use Rattle.evt_types.specs.declared.step.Step.{Step}
use Rattle.evt_types.specs.declared.step.Step.TheVariants.{Accept, Give, Done, More, Turned, Bounced, Shut}
use Rattle.lists.proofs.Lists.{eqb_is, eqb_comm, has-push, All-option, AllPairs-option, All-weaker_all, AllPairs-drop}
use Rattle.transcripts.proofs.Pushes.{given_to_is, answer_of-same, answer_of-other, source_in_is, taken_in-same, taken-push, taken-some, sources-some, sources-none, forwards-none, done_forwards, done_forwards_other, more_forwards, more_forwards_other, events_few, extras-push, extras-more, extras-more_other, extras-done, extras-done_other, is_answered-other, is_answered-same, is_pair_is, is_pair-same, unanswered-next, unanswered-none, next_pair-some, next_pair-stays, next_pair-was, is_answered-none, done_count, unanswered-push}
use Rattle.transcripts.proofs.Facts.{IsGiven, Facts, Facts-none, Facts-push, AllowedAfter_keeps, other_pair, no_forwards, not_answered, gives_accepted}
use Rattle.transcripts.proofs.Extras.{extras_none, extras_more}

-- ---- unanswered pairs differ, and none of them was answered

abbrev Differ : ℕ × ℕ → ℕ × ℕ → Type 0
Differ x y = is_pair y.0 y.1 x ≡ false

pub record Once (T : List Step) : Type 0 where
  pub lane : (l : ℕ) → AllPairs Differ (unanswered T l)
  pub lanes : (l m : ℕ) → l ≢ m → All (λ (x : ℕ × ℕ). All (Differ x) (unanswered T m)) (unanswered T l)
  pub unended : (l : ℕ) → All (λ (x : ℕ × ℕ). is_answered T x.0 x.1 ≡ false) (unanswered T l)
  pub first : (l : ℕ) (x : ℕ × ℕ) → next_pair T l ≡ Some x → forwards T x.0 x.1 ≡ extras T l
  pub unsent : (q n : ℕ) → is_answered T q n ≡ false → (forwards T q n ≡ []) ⊎ ((l : ℕ) × (next_pair T l ≡ Some (q, n)))
  pub few : (q n : ℕ) → length (forwards T q n) ≤ MAX_FORWARDS
  pub source : (q n : ℕ) → has n (sources T q) ≡ true → 0 < length (taken T q n)

Once-none : Once []
unfolding unanswered out answers forwards sent sources extras
Once-none = record {
  lane = λ l i j d lt within. absurd (omega arith);
  lanes = λ l m apart k d lt. absurd (omega arith);
  unended = λ l k d lt. absurd (omega arith);
  first = λ l x next. refl;
  unsent = λ q n h. inl refl;
  few = λ q n. omega arith;
  source = λ q n h. absurd (false≢true h);
}

is_pair-comm : (x y : ℕ × ℕ) → is_pair x.0 x.1 y ≡ is_pair y.0 y.1 x
is_pair-comm x y = ap (λ b. b && (y.1 == x.1)) (eqb_comm y.0 x.0) ∙ ap (λ b. (x.0 == y.0) && b) (eqb_comm y.1 x.1)

-- a source has an Accept from it
source_more : (P : List Step) (s : Step) → ((q n : ℕ) → has n (sources P q) ≡ true → 0 < length (taken P q n)) → (q n : ℕ)
    → has n (sources (P ++ s ∷ []) q) ≡ true → 0 < length (taken (P ++ s ∷ []) q n)
source_more P s before q n h = by_case (source_in q s) refl
  where
    long : length (taken (P ++ s ∷ []) q n) ≡ length (taken P q n) + length (cons_option (taken_in q n s) [])
    long = ap length (taken-push P q n s) ∙ length-append (taken P q n) (cons_option (taken_in q n s) [])

    by_case : (o : Option ℕ) → source_in q s ≡ o → 0 < length (taken (P ++ s ∷ []) q n)
    by_case None e = omega (arith, long, before q n (subst (λ ns. has n ns ≡ true) (sources-none P q s e) h))
    by_case (Some m) e =
        ⊎_elim
        (λ old. omega (arith, long, before q n old))
        (λ new. let accept = source_in_is q s m e in
        let taken_now : taken_in q n s ≡ Some accept.1 =
        ap (taken_in q n) (accept.2 ∙ ap (λ k. Accept accept.0 accept.1 (Of q k)) (eqb_is m n new)) ∙ taken_in-same accept.0 q n accept.1 in
        omega (arith, ap length (taken-some P q n s accept.1 taken_now), length_push (taken P q n) accept.1))
        (or_cases (has n (sources P q)) (m == n) (sym (has-push n (sources P q) m) ∙ subst (λ ns. has n ns ≡ true) (sources-some P q s m e) h))

-- unanswered pairs are in hand
pub unanswered_is_given : (p : Plan) (T : List Step) (l : ℕ) → Facts p T → All (IsGiven T) (unanswered T l)
unfolding unanswered
unanswered_is_given p T l f = All-drop (IsGiven T) (length (answers T l)) (out T l) (f.out l)

-- a pair that is given is not in hand before
given_is_fresh : (p : Plan) (P : List Step) (s : Step) (l : ℕ) (x : ℕ × ℕ) → Allowed p P s → given_to l s ≡ Some x → has x.1 (hand P x.0) ≡ false
given_is_fresh p P s l x a e = (gives_accepted p P l x.0 x.1 (subst (Allowed p P) (given_to_is l s x e) a).needs).1

one_lane : (s : Step) (l m : ℕ) (x y : ℕ × ℕ) → given_to l s ≡ Some x → given_to m s ≡ Some y → l ≡ m
one_lane s l m x y e k = lane_is l m x y (sym (given_to_is l s x e) ∙ given_to_is m s y k)
  where
    lane_is : (i j : ℕ) (x y : ℕ × ℕ) → Give i x.0 x.1 ≡ Give j y.0 y.1 → i ≡ j
    lane_is i j x y e = cc

-- a pair that is answered next stands first
first_next : (R : ℕ × ℕ → Type 0) (P : List Step) (l : ℕ) (x : ℕ × ℕ) → next_pair P l ≡ Some x → All R (unanswered P l) → R x
first_next R P l x next all = All-head R x (drop 1 (unanswered P l)) (subst (All R) (unanswered-next P l x next) all)

-- the pair is this one
pub pair_is : (q n : ℕ) (x : ℕ × ℕ) → is_pair q n x ≡ true → x ≡ (q, n)
pair_is q n x same = let parts = is_pair_is q n x same in ap (λ a. (a, x.1)) parts.0 ∙ ap (λ b. (q, b)) parts.1

-- a pair is no other than itself
not_itself : (x : ℕ × ℕ) → Differ x x → ⊥
not_itself x differs = false≢true (sym differs ∙ is_pair-same x.0 x.1)

-- a step that neither answers nor passes on
Once-quiet : (p : Plan) (P : List Step) (s : Step) → Facts p P → AddsFew P → Once P → Allowed p P s → ends P s ≡ None → sends P s ≡ None
    → ((l : ℕ) → answer_of l s ≡ None) → ((l : ℕ) → add_more l (extras P l) s ≡ extras P l) → Once (P ++ s ∷ [])
Once-quiet p P s f few h a no_end no_send quiet leaves = record {
  lane = λ l. rw (more l) (AllPairs-option Differ (unanswered P l) (given_to l s) (h.lane l) (λ x e. new_last l l x e));
  lanes =
      λ l m apart. rw (more l, more m) (All-option (λ (x : ℕ × ℕ). All (Differ x) (unanswered P m ++ cons_option (given_to m s) [])) (unanswered P l)
      (given_to l s) (λ k d lt. All-option (Differ (get_or (unanswered P l) k d)) (unanswered P m) (given_to m s) (h.lanes l m apart k d lt)
      (λ y e. new_last l m y e k d lt)) (λ x e. All-option (Differ x) (unanswered P m) (given_to m s) (new_first l m x e)
      (λ y k. absurd (apart (one_lane s l m x y e k)))));
  unended =
      λ l. rw (more l) (All-option (λ (x : ℕ × ℕ). is_answered (P ++ s ∷ []) x.0 x.1 ≡ false) (unanswered P l) (given_to l s)
      (All-weaker (λ (x : ℕ × ℕ). is_answered P x.0 x.1 ≡ false) (λ x. is_answered (P ++ s ∷ []) x.0 x.1 ≡ false)
      (λ x k. is_answered-none P x.0 x.1 s no_end ∙ k) (unanswered P l) (h.unended l))
      (λ x e. is_answered-none P x.0 x.1 s no_end ∙ not_answered p P x.0 x.1 f (given_is_fresh p P s l x a e)));
  first = λ l x next. forwards-none P x.0 x.1 s no_send
      ∙ (⊎_elim (λ old. h.first l x old) (λ new. fresh l x new.0 new.1) (next_pair-was P l s x (f.answers l) (quiet l) next) ∙ sym (same_extras l));
  unsent = λ q n k. ⊎_elim
      (λ none. inl (forwards-none P q n s no_send ∙ none))
      (λ held. inr (held.0, next_pair-stays P held.0 s (q, n) (quiet held.0) held.1))
      (h.unsent q n (sym (is_answered-none P q n s no_end) ∙ k));
  few = λ q n. omega (arith, ap length (forwards-none P q n s no_send), h.few q n);
  source = source_more P s h.source;
}
  where
    same_extras : (l : ℕ) → extras (P ++ s ∷ []) l ≡ extras P l
    same_extras l = extras-push P l s ∙ leaves l

    -- the pair that the step gives, where nothing was unanswered
    fresh : (l : ℕ) (x : ℕ × ℕ) → unanswered P l ≡ [] → given_to l s ≡ Some x → forwards P x.0 x.1 ≡ extras P l
    fresh l x empty gives = no_forwards p P x.0 x.1 f (given_is_fresh p P s l x a gives) ∙ sym (few.beside l empty)

    more : (l : ℕ) → unanswered (P ++ s ∷ []) l ≡ unanswered P l ++ cons_option (given_to l s) []
    more l =
        unanswered-push P l s (f.answers l) ∙ ap (λ o. drop (length (cons_option o [])) (unanswered P l ++ cons_option (given_to l s) [])) (quiet l)

    -- each of the lane l and what the lane m is given
    new_last : (l m : ℕ) (x : ℕ × ℕ) → given_to m s ≡ Some x → All (λ (y : ℕ × ℕ). Differ y x) (unanswered P l)
    new_last l m x e =
        All-weaker (IsGiven P) (λ y. Differ y x) (λ y k. other_pair P x.0 x.1 y (given_is_fresh p P s m x a e) k) (unanswered P l)
        (unanswered_is_given p P l f)

    -- what the lane l is given and each of the lane m
    new_first : (l m : ℕ) (x : ℕ × ℕ) → given_to l s ≡ Some x → All (Differ x) (unanswered P m)
    new_first l m x e = All-weaker (λ (y : ℕ × ℕ). Differ y x) (Differ x) (λ y k. is_pair-comm y x ∙ k) (unanswered P m) (new_last m l x e)

-- the lane's oldest pair is answered
Once-done : (p : Plan) (P : List Step) (l : ℕ) (o : Outcome) (x : ℕ × ℕ) → Facts p P → AddsFew P → Once P → next_pair P l ≡ Some x
    → Once (P ++ Done l o ∷ [])
Once-done p P l o x f few h next = record {
  lane = λ m. rw (fewer m) (AllPairs-drop Differ (done_count m s) (unanswered P m) (h.lane m));
  lanes =
      λ m k apart. rw (fewer m, fewer k) (All-drop (λ (y : ℕ × ℕ). All (Differ y) (drop (done_count k s) (unanswered P k))) (done_count m s)
      (unanswered P m) (λ i d lt. All-drop (Differ (get_or (unanswered P m) i d)) (done_count k s) (unanswered P k) (h.lanes m k apart i d lt)));
  unended =
      λ m. rw (fewer m) (All-weaker_all (Differ x) (λ (y : ℕ × ℕ). is_answered P y.0 y.1 ≡ false) (λ y. is_answered (P ++ s ∷ []) y.0 y.1 ≡ false)
      (drop (done_count m s) (unanswered P m)) (others m (cases_eq m l)) (λ y differs k. is_answered-other P y.0 y.1 s x next differs ∙ k) (left_open m));
  first = λ m y after. now_first m y after (cases_eq m l);
  unsent =
      λ q n k. let other = not_this q n k in still_unsent q n other (h.unsent q n (sym (is_answered-other P q n s x next other) ∙ k));
  few = λ q n. at_most q n (cases_Bool (is_pair q n x));
  source = source_more P s h.source;
}
  where
    s : Step
    s = Done l o

    first : unanswered P l ≡ x ∷ drop 1 (unanswered P l)
    first = unanswered-next P l x next

    fewer : (m : ℕ) → unanswered (P ++ s ∷ []) m ≡ drop (done_count m s) (unanswered P m)
    fewer m = unanswered-push P m s (f.answers m) ∙ ap (drop (done_count m s)) (append-nil (unanswered P m))

    left_open : (m : ℕ) → All (λ (y : ℕ × ℕ). is_answered P y.0 y.1 ≡ false) (drop (done_count m s) (unanswered P m))
    left_open m = All-drop (λ (y : ℕ × ℕ). is_answered P y.0 y.1 ≡ false) (done_count m s) (unanswered P m) (h.unended m)

    others : (m : ℕ) → (m ≡ l) ⊎ (m ≡ l → ⊥) → All (Differ x) (drop (done_count m s) (unanswered P m))
    others m (inl same) =
        let pairs : AllPairs Differ (x ∷ drop 1 (unanswered P l)) = subst (AllPairs Differ) first (h.lane l) in
        let one : done_count l s ≡ 1 = ap (λ u. length (cons_option u [])) (answer_of-same l o) in
        subst (λ i. All (Differ x) (drop (done_count i s) (unanswered P i))) (sym same)
        (subst (λ c. All (Differ x) (drop c (unanswered P l))) (sym one) (λ k d lt. pairs 0 (suc k) d (omega arith) (omega arith)))
    others m (inr other) =
        All-drop (Differ x) (done_count m s) (unanswered P m) (All-head (λ (y : ℕ × ℕ). All (Differ y) (unanswered P m)) x (drop 1 (unanswered P l))
        (subst (All (λ (y : ℕ × ℕ). All (Differ y) (unanswered P m))) first (h.lanes l m (λ e. other (sym e)))))

    not_this : (q n : ℕ) → is_answered (P ++ s ∷ []) q n ≡ false → is_pair q n x ≡ false
    not_this q n k = false_from_ne_true (is_pair q n x) (λ yes. false≢true (sym k ∙ is_answered-same P q n s (next ∙ ap Some (pair_is q n x yes))))

    same_forwards : (q n : ℕ) → is_pair q n x ≡ false → forwards (P ++ s ∷ []) q n ≡ forwards P q n
    same_forwards q n other = done_forwards_other P l o x q n next other

    -- a lane's next pair is another, and so it was before
    next_differs : (m : ℕ) (y : ℕ × ℕ) → next_pair (P ++ s ∷ []) m ≡ Some y → Differ x y
    next_differs m y after =
        first_next (Differ x) (P ++ s ∷ []) m y after (subst (All (Differ x)) (sym (fewer m)) (others m (cases_eq m l)))

    next_open : (m : ℕ) (y : ℕ × ℕ) → next_pair (P ++ s ∷ []) m ≡ Some y → is_answered P y.0 y.1 ≡ false
    next_open m y after =
        first_next (λ (z : ℕ × ℕ). is_answered P z.0 z.1 ≡ false) (P ++ s ∷ []) m y after
        (subst (All (λ (z : ℕ × ℕ). is_answered P z.0 z.1 ≡ false)) (sym (fewer m)) (left_open m))

    quiet : (m : ℕ) → m ≢ l → answer_of m s ≡ None
    quiet m other = answer_of-other m l o (λ e. other (sym e))

    -- nothing was added beside the second pair of the lane
    second : (y : ℕ × ℕ) → next_pair (P ++ s ∷ []) l ≡ Some y → forwards P y.0 y.1 ≡ []
    second y after = ⊎_elim (λ none. none) (λ held. absurd (nowhere held.0 held.1 (cases_eq held.0 l))) (h.unsent y.0 y.1 (next_open l y after))
      where
        behind : All (λ (z : ℕ × ℕ). (k : ℕ) → k ≢ l → All (Differ z) (unanswered P k)) (drop (done_count l s) (unanswered P l))
        behind i d lt k apart =
            All-drop (λ (z : ℕ × ℕ). All (Differ z) (unanswered P k)) (done_count l s) (unanswered P l) (h.lanes l k (λ e. apart (sym e))) i d lt

        nowhere : (k : ℕ) → next_pair P k ≡ Some y → (k ≡ l) ⊎ (k ≢ l) → ⊥
        nowhere k at_k (inl same) =
            not_itself x (subst (Differ x) (same_Some y x (sym at_k ∙ (ap (next_pair P) same ∙ next))) (next_differs l y after))
        nowhere k at_k (inr apart) =
            not_itself y (first_next (Differ y) P k y at_k
            (first_next (λ (z : ℕ × ℕ). (j : ℕ) → j ≢ l → All (Differ z) (unanswered P j)) (P ++ s ∷ []) l y after
            (subst (All (λ (z : ℕ × ℕ). (j : ℕ) → j ≢ l → All (Differ z) (unanswered P j))) (sym (fewer l)) behind) k apart))

    was_next : (m : ℕ) (y : ℕ × ℕ) → m ≢ l → next_pair (P ++ s ∷ []) m ≡ Some y → next_pair P m ≡ Some y
    was_next m y other after =
        ⊎_elim (λ old. old) (λ new. absurd (none-some y new.1)) (next_pair-was P m s y (f.answers m) (quiet m other) after)

    now_first : (m : ℕ) (y : ℕ × ℕ) → next_pair (P ++ s ∷ []) m ≡ Some y → (m ≡ l) ⊎ (m ≢ l)
        → forwards (P ++ s ∷ []) y.0 y.1 ≡ extras (P ++ s ∷ []) m
    now_first m y after (inl same) =
        same_forwards y.0 y.1 (next_differs m y after)
        ∙ (second y (ap (next_pair (P ++ s ∷ [])) (sym same) ∙ after) ∙ sym (ap (extras (P ++ s ∷ [])) same ∙ extras-done P l o))
    now_first m y after (inr other) =
        same_forwards y.0 y.1 (next_differs m y after)
        ∙ (h.first m y (was_next m y other after) ∙ sym (extras-done_other P m l o (λ e. other (sym e))))

    still_unsent : (q n : ℕ) → is_pair q n x ≡ false → (forwards P q n ≡ []) ⊎ ((k : ℕ) × (next_pair P k ≡ Some (q, n)))
        → (forwards (P ++ s ∷ []) q n ≡ []) ⊎ ((k : ℕ) × (next_pair (P ++ s ∷ []) k ≡ Some (q, n)))
    still_unsent q n other (inl none) = inl (same_forwards q n other ∙ none)
    still_unsent q n other (inr held) = inr (held.0, next_pair-stays P held.0 s (q, n) (quiet held.0 elsewhere) held.1)
      where
        elsewhere : held.0 ≢ l
        elsewhere same =
            false≢true (sym other ∙ (ap (is_pair q n) (same_Some x (q, n) (sym next ∙ (ap (next_pair P) (sym same) ∙ held.1))) ∙ is_pair-same q n))

    here : length (forwards (P ++ s ∷ []) x.0 x.1) ≤ MAX_FORWARDS
    here =
        omega (
          arith,
          ap length (done_forwards P l o x next),
          length-append (forwards P x.0 x.1) (events_of o),
          events_few o,
          ap length (h.first l x next),
          few.few l,
        )

    at_most : (q n : ℕ) → (is_pair q n x ≡ true) ⊎ (is_pair q n x ≡ false) → length (forwards (P ++ s ∷ []) q n) ≤ MAX_FORWARDS
    at_most q n (inl same) = subst (λ (y : ℕ × ℕ). length (forwards (P ++ s ∷ []) y.0 y.1) ≤ MAX_FORWARDS) (pair_is q n x same) here
    at_most q n (inr other) = omega (arith, ap length (same_forwards q n other), h.few q n)

-- an event is added beside the lane's oldest pair
Once-more : (p : Plan) (P : List Step) (l : ℕ) (e : Event) (x : ℕ × ℕ) → Facts p P → Once P → length (extras P l) < MAX_EXTRAS → next_pair P l ≡ Some x
    → Once (P ++ More l e ∷ [])
Once-more p P l e x f h room next = record {
  lane = λ m. rw (same m) (h.lane m);
  lanes = λ m k apart. rw (same m, same k) (h.lanes m k apart);
  unended =
      λ m. rw (same m) (All-weaker (λ (y : ℕ × ℕ). is_answered P y.0 y.1 ≡ false) (λ y. is_answered (P ++ s ∷ []) y.0 y.1 ≡ false)
      (λ y k. is_answered-none P y.0 y.1 s refl ∙ k) (unanswered P m) (h.unended m));
  first = λ m y after. now_first m y (was_next m y after) (cases_eq m l);
  unsent = λ q n k. still_unsent q n (cases_Bool (is_pair q n x)) (h.unsent q n (sym (is_answered-none P q n s refl) ∙ k));
  few = λ q n. at_most q n (cases_Bool (is_pair q n x));
  source = source_more P s h.source;
}
  where
    s : Step
    s = More l e

    same : (m : ℕ) → unanswered (P ++ s ∷ []) m ≡ unanswered P m
    same m = unanswered-none P m s refl refl

    was_next : (m : ℕ) (y : ℕ × ℕ) → next_pair (P ++ s ∷ []) m ≡ Some y → next_pair P m ≡ Some y
    was_next m y after = ⊎_elim (λ old. old) (λ new. absurd (none-some y new.1)) (next_pair-was P m s y (f.answers m) refl after)

    same_forwards : (q n : ℕ) → is_pair q n x ≡ false → forwards (P ++ s ∷ []) q n ≡ forwards P q n
    same_forwards q n other = more_forwards_other P l e x q n next other

    here : forwards (P ++ s ∷ []) x.0 x.1 ≡ extras (P ++ s ∷ []) l
    here = more_forwards P l e x next ∙ (ap (λ es. es ++ e ∷ []) (h.first l x next) ∙ sym (extras-more P l e))

    now_first : (m : ℕ) (y : ℕ × ℕ) → next_pair P m ≡ Some y → (m ≡ l) ⊎ (m ≢ l) → forwards (P ++ s ∷ []) y.0 y.1 ≡ extras (P ++ s ∷ []) m
    now_first m y at_m (inl is) =
        subst (λ (z : ℕ × ℕ). forwards (P ++ s ∷ []) z.0 z.1 ≡ extras (P ++ s ∷ []) m)
        (same_Some x y (sym next ∙ (ap (next_pair P) (sym is) ∙ at_m))) (here ∙ ap (extras (P ++ s ∷ [])) (sym is))
    now_first m y at_m (inr other) =
        let differs : Differ x y = first_next (Differ x) P m y at_m
        (first_next (λ (z : ℕ × ℕ). All (Differ z) (unanswered P m)) P l x next (h.lanes l m (λ k. other (sym k)))) in
        same_forwards y.0 y.1 differs ∙ (h.first m y at_m ∙ sym (extras-more_other P m l e (λ k. other (sym k))))

    still_unsent : (q n : ℕ) → (is_pair q n x ≡ true) ⊎ (is_pair q n x ≡ false) → (forwards P q n ≡ []) ⊎ ((k : ℕ) × (next_pair P k ≡ Some (q, n)))
        → (forwards (P ++ s ∷ []) q n ≡ []) ⊎ ((k : ℕ) × (next_pair (P ++ s ∷ []) k ≡ Some (q, n)))
    still_unsent q n c (inr held) = inr (held.0, next_pair-stays P held.0 s (q, n) refl held.1)
    still_unsent q n (inl is) (inl none) = inr (l, next_pair-stays P l s (q, n) refl (next ∙ ap Some (pair_is q n x is)))
    still_unsent q n (inr other) (inl none) = inl (same_forwards q n other ∙ none)

    at_most : (q n : ℕ) → (is_pair q n x ≡ true) ⊎ (is_pair q n x ≡ false) → length (forwards (P ++ s ∷ []) q n) ≤ MAX_FORWARDS
    at_most q n (inl is) =
        subst (λ (y : ℕ × ℕ). length (forwards (P ++ s ∷ []) y.0 y.1) ≤ MAX_FORWARDS) (pair_is q n x is)
        (omega (arith, ap length here, ap length (extras-more P l e), length_push (extras P l) e, room))
    at_most q n (inr other) = omega (arith, ap length (same_forwards q n other), h.few q n)

Once-push : (p : Plan) (P : List Step) (s : Step) → Facts p P → AddsFew P → Once P → Allowed p P s → Once (P ++ s ∷ [])
Once-push p P (Accept q e c) f few h a = Once-quiet p P (Accept q e c) f few h a refl refl (λ l. refl) (λ l. refl)
Once-push p P (Give l q n) f few h a = Once-quiet p P (Give l q n) f few h a refl refl (λ m. refl) (λ m. refl)
Once-push p P (Done l o) f few h a = let next = next_pair-some P l a.needs in Once-done p P l o next.0 f few h next.1
Once-push p P (More l e) f few h a = let next = next_pair-some P l a.needs.beside in Once-more p P l e next.0 f h a.needs.few next.1
Once-push p P (Turned l e) f few h a = Once-quiet p P (Turned l e) f few h a refl refl (λ m. refl) (λ m. refl)
Once-push p P (Bounced l) f few h a = Once-quiet p P (Bounced l) f few h a refl refl (λ m. refl) (λ m. refl)
Once-push p P Shut f few h a = Once-quiet p P Shut f few h a refl refl (λ m. refl) (λ m. refl)

-- ---- what every transcript of allowed steps has

pub record Single (p : Plan) (T : List Step) : Type 0 where
  pub facts : Facts p T
  pub extras : AddsFew T
  pub once : Once T

pub Single-none : (p : Plan) → Single p []
Single-none p = record { facts = Facts-none p; extras = extras_none; once = Once-none }

pub Single-push : (p : Plan) (P : List Step) (s : Step) → Single p P → Allowed p P s → Single p (P ++ s ∷ [])
Single-push p P s h a = record {
  facts = Facts-push p P s h.facts a;
  extras = extras_more p P s h.facts h.extras a.needs;
  once = Once-push p P s h.facts h.extras h.once a;
}

pub Single-allowed : (p : Plan) (T : List Step) → AllowedAfter p [] T → Single p T
Single-allowed p T all = AllowedAfter_keeps p (Single p) (Single-push p) [] T (Single-none p) all
