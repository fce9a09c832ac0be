-- The kept events that no unanswered number holds back: a transcript is settled where there are none. And what each step that
-- answers nothing makes of them.
use Rattle.std.proofs.Common.{◌≡◌, ◌≢◌, ℕ, ◌+◌, Bool, true, false, cond, ◌==◌, List, [], ◌∷◌, ◌++◌, length, drop, take_while, filter_map, get_or, All, AllPairs, Contains, Option, Some, None, ◌⊎◌, inl, inr, refl, sym, ap, ◌∙◌, subst, arith, append-nil}
use Rattle.std.specs.List.{cons_option}
use Rattle.std.proofs.lemmas.Bool.{cases_Bool, cases_eq, false≢true, or_parts, or_left, cond-true, cond-false, false_from_ne_true}
use Rattle.std.proofs.lemmas.List.{length-append, get_or_append_left, length_push, drop-drop}
use Rattle.std.proofs.lemmas.List.Elements.{All-nil, All-head, All-weaker, All-contains}
use Rattle.evt_types.specs.Plan.{Plan, queue_of, is_ordered}
use Rattle.lists.specs.Lists.{has}
use Rattle.transcripts.specs.Transcript.{ends, is_answered, sends, forwards, given_of, hand, taken_in, taken, source_in, sources, kept_of, kept, open_of}
use Rattle.lists.specs.Lists.{upto, from_first}
use Rattle.transcripts.specs.Lawful.{IsSettled, IsInHandOrder}
use Rattle.evt_types.specs.declared.event.Event.{Event}
use Rattle.evt_types.specs.declared.step.Source.TheVariants.{Of}
use Rattle.evt_types.specs.declared.step.Step.{Step}
use Rattle.evt_types.specs.declared.step.Step.TheVariants.{Accept, Give}
use Rattle.transcripts.proofs.Facts.{Facts, no_forwards, not_answered}
use Rattle.lists.proofs.Lists.{eqb_same, All-front, All-has, All-weaker_all}
use Rattle.lists.proofs.Fronts.{tag, tagged, First, front_and_rest, front_agree, front-push, has_each, upto_front, upto_rest, tagged-append, tagged_agree, All-tagged}
use Rattle.transcripts.proofs.Pushes.{given_of-same, given_of-other, source_in-same, is_pair-queue, is_pair-number, taken_in_is, taken_in-same, taken_in-other, taken-some, hand-none, hand-some, forwards-none, kept_of-none, kept_of-nil, is_answered-none}

-- ---- the overdue events

-- the numbers of the queue whose kept events wait for none: those before the first unanswered one, or all where no order is restored
abbrev pub late_of : Plan → List Step → ℕ → List ℕ
late_of p T q = cond (is_ordered (queue_of p q).kind) (take_while (is_answered T q) (hand T q)) (hand T q)

abbrev pub overdue : Plan → List Step → ℕ → List (ℕ × Event)
overdue p T q = tagged (kept_of T q) (late_of p T q)

pub late_ordered : (p : Plan) (T : List Step) (q : ℕ) → is_ordered (queue_of p q).kind ≡ true
    → late_of p T q ≡ take_while (is_answered T q) (hand T q)
late_ordered p T q h = cond-true (is_ordered (queue_of p q).kind) (take_while (is_answered T q) (hand T q)) (hand T q) h

pub late_plain : (p : Plan) (T : List Step) (q : ℕ) → is_ordered (queue_of p q).kind ≡ false → late_of p T q ≡ hand T q
late_plain p T q h = cond-false (is_ordered (queue_of p q).kind) (take_while (is_answered T q) (hand T q)) (hand T q) h

AllPairs-front : {X : Type 0} (R : X → X → Type 0) (xs ys : List X) → AllPairs R (xs ++ ys) → AllPairs R xs
AllPairs-front R xs ys all i j d lt within =
    subst (λ x. R x (get_or xs j d)) (get_or_append_left xs ys d i (omega arith))
    (subst (R (get_or (xs ++ ys) i d)) (get_or_append_left xs ys d j within) (all i j d lt (rw length-append (omega arith))))

pub late_once : (p : Plan) (T : List Step) (q : ℕ) → AllPairs (λ m n. m ≢ n) (hand T q) → AllPairs (λ m n. m ≢ n) (late_of p T q)
late_once p T q once = by_kind (is_ordered (queue_of p q).kind)
  where
    front_once : AllPairs (λ m n. m ≢ n) (take_while (is_answered T q) (hand T q))
    front_once = AllPairs-front (λ m n. m ≢ n) (take_while (is_answered T q) (hand T q)) (from_first (is_answered T q) (hand T q))
        (subst (AllPairs (λ m n. m ≢ n)) (sym (front_and_rest (is_answered T q) (hand T q))) once)

    by_kind : (b : Bool) → AllPairs (λ m n. m ≢ n) (cond b (take_while (is_answered T q) (hand T q)) (hand T q))
    by_kind true = front_once
    by_kind false = once

-- ---- settled

nothing : {X : Type 0} (xs : List X) → All (λ x. ⊥) xs → xs ≡ []
nothing [] all = refl
nothing (x ∷ xs) all = absurd (All-head (λ y. ⊥) x xs all)

-- a kept event that waits for an answer
abbrev Waits : Plan → List Step → ℕ → ℕ × Event → Type 0
Waits p T q x = (is_ordered (queue_of p q).kind ≡ true) × ((m : ℕ) × Contains (upto x.0 (hand T q)) m × (is_answered T q m ≡ false))

kept_parts : (T : List Step) (q : ℕ) → kept T q ≡ tagged (kept_of T q) (take_while (is_answered T q) (hand T q)) ++ tagged (kept_of T q) (open_of T q)
unfolding kept open_of
kept_parts T q =
    ap (tagged (kept_of T q)) (sym (front_and_rest (is_answered T q) (hand T q)))
    ∙ tagged-append (kept_of T q) (take_while (is_answered T q) (hand T q)) (from_first (is_answered T q) (hand T q))

pub kept_plain : (p : Plan) (T : List Step) (q : ℕ) → is_ordered (queue_of p q).kind ≡ false → kept T q ≡ overdue p T q
unfolding kept
kept_plain p T q plain = ap (tagged (kept_of T q)) (sym (late_plain p T q plain))

-- nothing is overdue in a settled transcript
pub settled_overdue : (p : Plan) (T : List Step) → IsSettled p T → (q : ℕ) → overdue p T q ≡ []
settled_overdue p T settled q = by_kind (cases_Bool (is_ordered (queue_of p q).kind))
  where
    front : List ℕ
    front = take_while (is_answered T q) (hand T q)

    none_waits : (x : ℕ × Event) → has x.0 front ≡ true → Waits p T q x → ⊥
    none_waits x in' waits =
        false≢true (sym (waits.1).2 ∙ All-contains (λ m. is_answered T q m ≡ true) (upto x.0 (hand T q)) (waits.1).0
        (upto_front (is_answered T q) x.0 (hand T q) in') (waits.1).1)

    by_kind : (is_ordered (queue_of p q).kind ≡ true) ⊎ (is_ordered (queue_of p q).kind ≡ false) → overdue p T q ≡ []
    by_kind (inl ordered) =
        ap (tagged (kept_of T q)) (late_ordered p T q ordered)
        ∙ nothing (tagged (kept_of T q) front)
        (All-weaker_all (λ (x : ℕ × Event). has x.0 front ≡ true) (Waits p T q) (λ x. ⊥) (tagged (kept_of T q) front)
        (All-tagged (λ n. has n front ≡ true) (kept_of T q) front (has_each front)) none_waits
        (All-front (Waits p T q) (tagged (kept_of T q) front) (tagged (kept_of T q) (open_of T q))
        (subst (All (Waits p T q)) (kept_parts T q) (settled q))))
    by_kind (inr plain) =
        sym (kept_plain p T q plain) ∙ nothing (kept T q) (All-weaker (Waits p T q) (λ x. ⊥) (λ x waits. false≢true (sym plain ∙ waits.0)) (kept T q)
        (settled q))

-- a transcript where nothing is overdue is settled
pub overdue_settled : (p : Plan) (T : List Step) → ((q : ℕ) → AllPairs (λ m n. m ≢ n) (hand T q)) → ((q : ℕ) → overdue p T q ≡ []) → IsSettled p T
unfolding open_of
overdue_settled p T once none q = by_kind (cases_Bool (is_ordered (queue_of p q).kind))
  where
    left : List ℕ
    left = from_first (is_answered T q) (hand T q)

    by_kind : (is_ordered (queue_of p q).kind ≡ true) ⊎ (is_ordered (queue_of p q).kind ≡ false) → All (Waits p T q) (kept T q)
    by_kind (inl ordered) =
        let same : kept T q ≡ tagged (kept_of T q) left =
        kept_parts T q ∙ ap (λ xs. xs ++ tagged (kept_of T q) left) (ap (tagged (kept_of T q)) (sym (late_ordered p T q ordered)) ∙ none q) in
        subst (All (Waits p T q)) (sym same)
        (All-weaker (λ (x : ℕ × Event). has x.0 left ≡ true) (Waits p T q)
        (λ x in'. (ordered, upto_rest (is_answered T q) x.0 (hand T q) (once q) in'))
        (tagged (kept_of T q) left) (All-tagged (λ n. has n left ≡ true) (kept_of T q) left (has_each left)))
    by_kind (inr plain) = subst (All (Waits p T q)) (sym (kept_plain p T q plain ∙ none q)) (All-nil (Waits p T q))

-- ---- one more step

cond_same : {X : Type 0} (b : Bool) (x y u v : X) → x ≡ u → y ≡ v → cond b x y ≡ cond b u v
cond_same b x y u v e f = ap (λ z. cond b z y) e ∙ ap (cond b u) f

-- the step neither gives nor answers
pub late_stays : (p : Plan) (P : List Step) (q : ℕ) (s : Step) → given_of q s ≡ None → ((n : ℕ) → is_answered (P ++ s ∷ []) q n ≡ is_answered P q n)
    → late_of p (P ++ s ∷ []) q ≡ late_of p P q
late_stays p P q s none same =
    cond_same (is_ordered (queue_of p q).kind) (take_while (is_answered (P ++ s ∷ []) q) (hand (P ++ s ∷ []) q)) (hand (P ++ s ∷ []) q)
    (take_while (is_answered P q) (hand P q)) (hand P q)
    (ap (take_while (is_answered (P ++ s ∷ []) q)) (hand-none P q s none) ∙ front_agree (is_answered (P ++ s ∷ []) q) (is_answered P q)
    (hand P q) same)
    (hand-none P q s none)

-- what is kept of each number stays
pub overdue_stays : (p : Plan) (P : List Step) (q : ℕ) (s : Step) → given_of q s ≡ None
    → ((n : ℕ) → is_answered (P ++ s ∷ []) q n ≡ is_answered P q n)
    → ((n : ℕ) → kept_of (P ++ s ∷ []) q n ≡ kept_of P q n) → overdue p (P ++ s ∷ []) q ≡ overdue p P q
overdue_stays p P q s none same kept_same =
    ap (tagged (kept_of (P ++ s ∷ []) q)) (late_stays p P q s none same)
    ∙ tagged_agree (kept_of (P ++ s ∷ []) q) (kept_of P q) (late_of p P q) (λ k d lt. kept_same (get_or (late_of p P q) k d))

-- the step brings nothing
pub overdue-none : (p : Plan) (P : List Step) (q : ℕ) (s : Step) → given_of q s ≡ None → ends P s ≡ None → sends P s ≡ None
    → ((n : ℕ) → taken_in q n s ≡ None)
    → overdue p (P ++ s ∷ []) q ≡ overdue p P q
overdue-none p P q s none no_end no_send no_take =
    overdue_stays p P q s none (λ n. is_answered-none P q n s no_end) (λ n. kept_of-none P q n s no_send (no_take n))

pub settled_stays : (p : Plan) (P : List Step) (s : Step) → Facts p P → ((q : ℕ) → given_of q s ≡ None) → ends P s ≡ None → sends P s ≡ None
    → ((q n : ℕ) → taken_in q n s ≡ None)
    → IsSettled p P → IsSettled p (P ++ s ∷ [])
settled_stays p P s f none no_end no_send no_take settled =
    overdue_settled p (P ++ s ∷ []) (λ q. subst (AllPairs (λ m n. m ≢ n)) (sym (hand-none P q s (none q))) (f.once q))
    (λ q. overdue-none p P q s (none q) no_end no_send (no_take q) ∙ settled_overdue p P settled q)

-- an event that is given: its number wasn't passed on
pub settled_give : (p : Plan) (P : List Step) (l q n : ℕ) → Facts p P → has n (hand P q) ≡ false → IsSettled p P → Facts p (P ++ Give l q n ∷ [])
    → IsSettled p (P ++ Give l q n ∷ [])
settled_give p P l q n f fresh settled after = overdue_settled p T after.once (λ r. by_queue r (cases_eq q r))
  where
    s : Step
    s = Give l q n

    T : List Step
    T = P ++ s ∷ []

    same_kept : (r m : ℕ) → kept_of T r m ≡ kept_of P r m
    same_kept r m = kept_of-none P r m s refl refl

    same_front : take_while (is_answered T q) (hand T q) ≡ take_while (is_answered P q) (hand P q)
    same_front =
        ap (take_while (is_answered T q)) (hand-some P q s n (given_of-same l q n))
        ∙ (front-push (is_answered T q) (hand P q) n (is_answered-none P q n s refl ∙ not_answered p P q n f fresh)
        ∙ front_agree (is_answered T q) (is_answered P q) (hand P q) (λ m. is_answered-none P q m s refl))

    in_queue : (is_ordered (queue_of p q).kind ≡ true) ⊎ (is_ordered (queue_of p q).kind ≡ false) → overdue p T q ≡ overdue p P q
    in_queue (inl ordered) =
        ap (tagged (kept_of T q)) (late_ordered p T q ordered ∙ (same_front ∙ sym (late_ordered p P q ordered)))
        ∙ tagged_agree (kept_of T q) (kept_of P q) (late_of p P q) (λ k d lt. same_kept q (get_or (late_of p P q) k d))
    in_queue (inr plain) =
        ap (tagged (kept_of T q)) (late_plain p T q plain ∙ hand-some P q s n (given_of-same l q n))
        ∙ (tagged-append (kept_of T q) (hand P q) (n ∷ [])
        ∙ (ap (λ xs. tagged (kept_of T q) (hand P q) ++ (tag n xs ++ [])) (same_kept q n ∙ kept_of-nil P q n (no_forwards p P q n f fresh))
        ∙ (append-nil (tagged (kept_of T q) (hand P q)) ∙ (tagged_agree (kept_of T q) (kept_of P q) (hand P q)
        (λ k d lt. same_kept q (get_or (hand P q) k d))
        ∙ ap (tagged (kept_of P q)) (sym (late_plain p P q plain))))))

    by_queue : (r : ℕ) → (q ≡ r) ⊎ (q ≢ r) → overdue p T r ≡ []
    by_queue r (inl same) = subst (λ k. overdue p T k ≡ []) same
        (in_queue (cases_Bool (is_ordered (queue_of p q).kind)) ∙ settled_overdue p P settled q)
    by_queue r (inr differs) =
        overdue_stays p P r s (given_of-other l r q n differs) (λ m. is_answered-none P r m s refl) (same_kept r) ∙ settled_overdue p P settled r

-- an Accept from the first overdue event's number leaves the others
pub overdue_accept : (p : Plan) (P : List Step) (q r : ℕ) (x : ℕ × Event) (rest : List (ℕ × Event)) → First (kept_of P q) (late_of p P q) x rest
    → overdue p (P ++ Accept r x.1 (Of q x.0) ∷ []) q ≡ rest
overdue_accept p P q r x rest first =
    ap (tagged (kept_of T q)) (late_stays p P q s refl (λ n. is_answered-none P q n s refl))
    ∙ first.less (kept_of T q) here (λ m differs. kept_of-none P q m s refl
    (taken_in-other r q x.0 q m x.1 (is_pair-number q m (q, x.0) (λ e. differs (sym e)))))
  where
    s : Step
    s = Accept r x.1 (Of q x.0)

    T : List Step
    T = P ++ s ∷ []

    here : kept_of T q x.0 ≡ first.later
    here =
        ap (λ es. drop (length (taken T q x.0)) es) (forwards-none P q x.0 s refl)
        ∙ (ap (λ es. drop (length es) (forwards P q x.0)) (taken-some P q x.0 s x.1 (taken_in-same r q x.0 x.1))
        ∙ (ap (λ k. drop k (forwards P q x.0)) (length_push (taken P q x.0) x.1)
        ∙ one_more (forwards P q x.0) (length (taken P q x.0)) x.1 first.later first.first))
      where
        one_more : (es : List Event) (k : ℕ) (e : Event) (later : List Event) → drop k es ≡ e ∷ later → drop (k + 1) es ≡ later
        one_more es k e later is = sym (drop-drop 1 k es) ∙ ap (drop 1) is

pub overdue_accept_other : (p : Plan) (P : List Step) (q r k : ℕ) (n : ℕ) (e : Event) → k ≢ q
    → overdue p (P ++ Accept r e (Of q n) ∷ []) k ≡ overdue p P k
overdue_accept_other p P q r k n e differs =
    overdue-none p P k (Accept r e (Of q n)) refl refl refl (λ m. taken_in-other r q n k m e (is_pair-queue k m (q, n) (λ same. differs (sym same))))

-- ---- numbers from which nothing was accepted

pub untaken : (T : List Step) (q n : ℕ) → has n (sources T q) ≡ false → taken T q n ≡ []
unfolding sources taken
untaken [] q n h = refl
untaken (s ∷ T) q n h = by_case (untaken T q n (has_later (source_in q s) (filter_map (source_in q) T) h)) (taken_in q n s) refl
  where
    has_later : (o : Option ℕ) (ns : List ℕ) → has n (cons_option o ns) ≡ false → has n ns ≡ false
    has_later None ns k = k
    has_later (Some m) ns k = (or_parts (m == n) (has n ns) k).1

    by_case : filter_map (taken_in q n) T ≡ [] → (o : Option Event) → taken_in q n s ≡ o → filter_map (taken_in q n) (s ∷ T) ≡ []
    by_case none None e = ap (λ o. cons_option o (filter_map (taken_in q n) T)) e ∙ none
    by_case none (Some d) e =
        let accept = taken_in_is q n s d e in
        let from : source_in q s ≡ Some n = ap (source_in q) accept.1 ∙ source_in-same accept.0 q n d in
        absurd (false≢true (sym h ∙ (ap (λ o. has n (cons_option o (filter_map (source_in q) T))) from ∙ or_left (n == n)
        (has n (filter_map (source_in q) T)) (eqb_same n))))

-- nothing was accepted from an open number of an ordered queue
pub open_untaken : (T : List Step) (q n : ℕ) → AllPairs (λ j k. j ≢ k) (hand T q) → IsInHandOrder T q → has n (open_of T q) ≡ true
    → has n (sources T q) ≡ false
unfolding open_of
open_untaken T q n once order h =
    false_from_ne_true (has n (sources T q))
    (λ source. let first = upto_rest (is_answered T q) n (hand T q) once h in
    let all : All (λ m. is_answered T q m ≡ true) (upto n (hand T q)) = All-has (λ k. All (λ m. is_answered T q m ≡ true) (upto k (hand T q))) n
    (sources T q) order.answered source in
    false≢true (sym first.2 ∙ All-contains (λ m. is_answered T q m ≡ true) (upto n (hand T q)) first.0 all first.1))

-- a settled ordered queue keeps what its open numbers were passed on as
pub kept_is_open : (p : Plan) (T : List Step) (q : ℕ) → is_ordered (queue_of p q).kind ≡ true → Facts p T → IsInHandOrder T q → IsSettled p T
    → kept T q ≡ tagged (forwards T q) (open_of T q)
kept_is_open p T q ordered f order settled =
    kept_parts T q
    ∙ (ap (λ xs. xs ++ tagged (kept_of T q) (open_of T q)) (ap (tagged (kept_of T q)) (sym (late_ordered p T q ordered))
    ∙ settled_overdue p T settled q)
    ∙ tagged_agree (kept_of T q) (forwards T q) (open_of T q)
    (All-weaker (λ n. has n (open_of T q) ≡ true) (λ n. kept_of T q n ≡ forwards T q n)
    (λ n in'. ap (λ es. drop (length es) (forwards T q n)) (untaken T q n (open_untaken T q n (f.once q) order in'))) (open_of T q)
    (has_each (open_of T q))))
