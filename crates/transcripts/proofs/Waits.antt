-- The waiting list: it rises by number, each event in it is the accepted one of its number and isn't given, and what one more
-- step makes of it.
use Rattle.std.proofs.Common.{◌≡◌, ◌≢◌, ℕ, zero, suc, ◌+◌, ◌<◌, ◌≤◌, Bool, true, false, not, ◌&&◌, ◌||◌, ◌==◌, List, [], ◌∷◌, ◌++◌, length, filter, All, AllPairs, Contains, Some, None, slice_get, refl, sym, ap, ◌∙◌, subst, arith, append_assoc, add-zero, zero-add}
use Rattle.std.specs.List.{cons_option}
use Rattle.std.proofs.lemmas.Bool.{not-true, not_from_false}
use Rattle.std.proofs.lemmas.List.{length_push}
use Rattle.std.proofs.lemmas.List.Elements.{All-nil, All-cons, All-weaker, All-contains, All-filter, filter_passes, filter_agree, Contains-append_right}
use Rattle.std.proofs.lemmas.List.Kept.{AllPairs-cons, AllPairs-filter}
use Rattle.std.proofs.lemmas.Option.{slice_get_within, none-some, same_Some}
use Rattle.lists.specs.Lists.{has}
use Rattle.transcripts.specs.Transcript.{accepted_in, accepted, numbered, entered, event_at, given_of, hand, waiting}
use Rattle.evt_types.specs.declared.event.Event.{Event}
use Rattle.evt_types.specs.declared.event.Numbered.{Numbered}
use Rattle.evt_types.specs.declared.step.Step.{Step}
use Rattle.evt_types.specs.declared.step.Step.TheVariants.{Give}
use Rattle.lists.proofs.Lists.{eqb_comm, or-false, has-append, Contains-filter, filter_twice, filter-push_true, has_none, slice_get-at}
use Rattle.transcripts.proofs.Pushes.{accepted-push, hand-some, hand-none, entered-none, given_of-same}

-- ---- numbered

pub numbered-append : (k : ℕ) (es ds : List Event) → numbered k (es ++ ds) ≡ numbered k es ++ numbered (k + length es) ds
numbered-append k [] ds = ap (λ n. numbered n ds) (sym (add-zero k))
numbered-append k (e ∷ es) ds =
    let same : k + 1 + length es ≡ k + length (e ∷ es) = omega arith in
    ap (λ ws. record { number = k; event = e } ∷ ws) (numbered-append (k + 1) es ds ∙ ap (λ n. numbered (k + 1) es ++ numbered n ds) same)

pub numbered-from : (k : ℕ) (es : List Event) → All (λ (w : Numbered). k ≤ w.number) (numbered k es)
numbered-from k [] = All-nil (λ (w : Numbered). k ≤ w.number)
numbered-from k (e ∷ es) =
    All-cons (λ (w : Numbered). k ≤ w.number) (record { number = k; event = e }) (numbered (k + 1) es) (omega arith)
    (All-weaker (λ (w : Numbered). k + 1 ≤ w.number) (λ (w : Numbered). k ≤ w.number) (λ w h. omega arith) (numbered (k + 1) es)
    (numbered-from (k + 1) es))

pub numbered-rises : (k : ℕ) (es : List Event) → AllPairs (λ (v w : Numbered). v.number < w.number) (numbered k es)
numbered-rises k [] = λ i j d lt within. absurd (omega arith)
numbered-rises k (e ∷ es) =
    AllPairs-cons (λ (v w : Numbered). v.number < w.number) (record { number = k; event = e }) (numbered (k + 1) es)
    (All-weaker (λ (w : Numbered). k + 1 ≤ w.number) (λ (w : Numbered). k < w.number) (λ w h. omega arith) (numbered (k + 1) es)
    (numbered-from (k + 1) es)) (numbered-rises (k + 1) es)

-- each stands at its number
pub numbered-at : (front es : List Event) → All (λ (w : Numbered). slice_get (front ++ es) w.number ≡ Some w.event) (numbered (length front) es)
numbered-at front [] = All-nil (λ (w : Numbered). slice_get (front ++ []) w.number ≡ Some w.event)
numbered-at front (e ∷ es) =
    All-cons (λ (w : Numbered). slice_get (front ++ e ∷ es) w.number ≡ Some w.event) (record { number = length front; event = e })
    (numbered (length front + 1) es) (slice_get-at front (e ∷ es))
    (subst (λ n. All (λ (w : Numbered). slice_get (front ++ e ∷ es) w.number ≡ Some w.event) (numbered n es)) (length_push front e)
    (subst (λ ds. All (λ (w : Numbered). slice_get ds w.number ≡ Some w.event) (numbered (length (front ++ e ∷ [])) es))
    (append_assoc front (e ∷ []) es) (numbered-at (front ++ e ∷ []) es)))

pub Contains-numbered : (k : ℕ) (es : List Event) (n : ℕ) (e : Event) → slice_get es n ≡ Some e
    → Contains (numbered k es) (record { number = k + n; event = e })
Contains-numbered k [] n e h = absurd (none-some e h)
Contains-numbered k (d ∷ es) zero e h =
    (zero, omega arith, ap (λ c. record { number = k; event = c }) (same_Some d e h) ∙ ap (λ j. record { number = j; event = e }) (sym (add-zero k)))
Contains-numbered k (d ∷ es) (suc n) e h =
    let same : k + 1 + n ≡ k + suc n = omega arith in
    Contains-append_right (record { number = k; event = d } ∷ []) (numbered (k + 1) es) (record { number = k + suc n; event = e })
    (subst (λ j. Contains (numbered (k + 1) es) (record { number = j; event = e })) same (Contains-numbered (k + 1) es n e h))

pub entered-push : (P : List Step) (q : ℕ) (s : Step) → entered (P ++ s ∷ []) q ≡ entered P q ++ numbered (length (accepted P q))
    (cons_option (accepted_in q s) [])
entered-push P q s =
    ap (numbered 0) (accepted-push P q s) ∙ (numbered-append 0 (accepted P q) (cons_option (accepted_in q s) [])
    ∙ ap (λ n. entered P q ++ numbered n (cons_option (accepted_in q s) [])) (zero-add (length (accepted P q))))

-- ---- what waits

pub entered-accepted : (T : List Step) (q : ℕ) → All (λ (w : Numbered). event_at T q w.number ≡ Some w.event) (entered T q)
entered-accepted T q = numbered-at [] (accepted T q)

pub waiting-accepted : (T : List Step) (q : ℕ) → All (λ (w : Numbered). event_at T q w.number ≡ Some w.event) (waiting T q)
unfolding waiting
waiting-accepted T q =
    All-filter (λ (w : Numbered). not (has w.number (hand T q))) (λ (w : Numbered). event_at T q w.number ≡ Some w.event) (entered T q)
    (entered-accepted T q)

pub waiting-not_given : (T : List Step) (q : ℕ) → All (λ (w : Numbered). has w.number (hand T q) ≡ false) (waiting T q)
unfolding waiting
waiting-not_given T q =
    All-weaker (λ (w : Numbered). not (has w.number (hand T q)) ≡ true) (λ (w : Numbered). has w.number (hand T q) ≡ false)
    (λ w h. not-true (has w.number (hand T q)) h) (waiting T q) (filter_passes (λ (w : Numbered). not (has w.number (hand T q))) (entered T q))

pub waiting-rises : (T : List Step) (q : ℕ) → AllPairs (λ (v w : Numbered). v.number < w.number) (waiting T q)
unfolding waiting
waiting-rises T q =
    AllPairs-filter (λ (v w : Numbered). v.number < w.number) (λ (w : Numbered). not (has w.number (hand T q))) (entered T q)
    (numbered-rises 0 (accepted T q))

pub entered-rises : (T : List Step) (q : ℕ) → AllPairs (λ (v w : Numbered). v.number < w.number) (entered T q)
entered-rises T q = numbered-rises 0 (accepted T q)

-- what was accepted and isn't given waits
pub waits_if : (T : List Step) (q n : ℕ) (e : Event) → event_at T q n ≡ Some e → has n (hand T q) ≡ false
    → Contains (waiting T q) (record { number = n; event = e })
unfolding waiting
waits_if T q n e h k =
    Contains-filter (λ (w : Numbered). not (has w.number (hand T q))) (entered T q) (record { number = n; event = e })
    (subst (λ m. Contains (entered T q) (record { number = m; event = e })) (zero-add n) (Contains-numbered 0 (accepted T q) n e h))
    (not_from_false (has n (hand T q)) k)

pub waiting_at : (T : List Step) (q : ℕ) (w : Numbered) → Contains (waiting T q) w → event_at T q w.number ≡ Some w.event
waiting_at T q w c = All-contains (λ (v : Numbered). event_at T q v.number ≡ Some v.event) (waiting T q) w (waiting-accepted T q) c

pub waiting_is_accepted : (T : List Step) (q : ℕ) (w : Numbered) → Contains (waiting T q) w → w.number < length (accepted T q)
waiting_is_accepted T q w c = slice_get_within (accepted T q) w.number w.event (waiting_at T q w c)

pub waiting_is_not_given : (T : List Step) (q : ℕ) (w : Numbered) → Contains (waiting T q) w → has w.number (hand T q) ≡ false
waiting_is_not_given T q w c = All-contains (λ (v : Numbered). has v.number (hand T q) ≡ false) (waiting T q) w (waiting-not_given T q) c

-- ---- one more step

pub waiting-none : (P : List Step) (q : ℕ) (s : Step) → accepted_in q s ≡ None → given_of q s ≡ None → waiting (P ++ s ∷ []) q ≡ waiting P q
unfolding waiting
waiting-none P q s h k =
    ap (λ ns. filter (λ (w : Numbered). not (has w.number ns)) (entered (P ++ s ∷ []) q)) (hand-none P q s k)
    ∙ ap (filter (λ (w : Numbered). not (has w.number (hand P q)))) (entered-none P q s h)

-- a Give takes out just its number
pub waiting-gives : (P : List Step) (q : ℕ) (s : Step) (n : ℕ) → accepted_in q s ≡ None → given_of q s ≡ Some n
    → waiting (P ++ s ∷ []) q ≡ filter (λ (w : Numbered). not (w.number == n)) (waiting P q)
unfolding waiting
waiting-gives P q s n h k =
    ap (λ ns. filter (λ (w : Numbered). not (has w.number ns)) (entered (P ++ s ∷ []) q)) (hand-some P q s n k)
    ∙ (ap (filter (λ (w : Numbered). not (has w.number (hand P q ++ n ∷ [])))) (entered-none P q s h)
    ∙ (filter_agree (λ (w : Numbered). not (has w.number (hand P q ++ n ∷ [])))
    (λ (w : Numbered). not (w.number == n) && not (has w.number (hand P q))) (λ w. one_more w.number) (entered P q)
    ∙ sym (filter_twice (λ (w : Numbered). not (w.number == n)) (λ (w : Numbered). not (has w.number (hand P q))) (entered P q))))
  where
    not_or : (a b : Bool) → not (a || b) ≡ (not b && not a)
    not_or true true = refl
    not_or true false = refl
    not_or false true = refl
    not_or false false = refl

    one_more : (m : ℕ) → not (has m (hand P q ++ n ∷ [])) ≡ (not (m == n) && not (has m (hand P q)))
    one_more m =
        ap not (has-append m (hand P q) (n ∷ [])) ∙ (ap (λ b. not (has m (hand P q) || b)) (or-false (n == m) ∙ eqb_comm n m)
        ∙ not_or (has m (hand P q)) (m == n))

-- an accepted event waits last, where each given number was accepted before it
pub waiting-accepts : (P : List Step) (q : ℕ) (s : Step) (e : Event) → All (λ n. n < length (accepted P q)) (hand P q) → accepted_in q s ≡ Some e
    → given_of q s ≡ None → waiting (P ++ s ∷ []) q ≡ waiting P q ++ record { number = length (accepted P q); event = e } ∷ []
unfolding waiting
waiting-accepts P q s e all h k =
    let test = λ (w : Numbered). not (has w.number (hand P q)) in
    let new : Numbered = record { number = length (accepted P q); event = e } in
    ap (λ ns. filter (λ (w : Numbered). not (has w.number ns)) (entered (P ++ s ∷ []) q)) (hand-none P q s k)
    ∙ (ap (filter test) (entered-push P q s) ∙ (ap (λ o. filter test (entered P q ++ numbered (length (accepted P q)) (cons_option o []))) h
    ∙ filter-push_true test (entered P q) new (not_from_false (has (length (accepted P q)) (hand P q))
    (fresh (hand P q) (length (accepted P q)) all))))
  where
    fresh : (ns : List ℕ) (k : ℕ) → All (λ n. n < k) ns → has k ns ≡ false
    fresh ns k all = has_none k ns (All-weaker (λ n. n < k) (λ n. n ≢ k) (λ n lt e. omega arith) ns all)

pub waiting-give : (P : List Step) (l q n : ℕ) → waiting (P ++ Give l q n ∷ []) q ≡ filter (λ (w : Numbered). not (w.number == n)) (waiting P q)
waiting-give P l q n = waiting-gives P q (Give l q n) n refl (given_of-same l q n)
