-- How many events are inside: what each kind of step makes of the number.
use Rattle.std.specs.Prelude.{ℕ, ◌≡◌, ◌<◌, ◌≤◌, ◌+◌, ◌-◌, true, false, not, List, [], ◌∷◌, ◌++◌, ◌==◌, length, drop, filter, sum_by, All, AllPairs, Contains, Some, None, slice_get}
use Rattle.std.proofs.Common.{refl, sym, ap, ◌∙◌, subst, arith, ⊎_elim, zero, suc, get_or}
use Rattle.std.proofs.lemmas.Bool.{cases_eq, not_from_true, not_from_false, eq-eqb, cond-false, cond-true}
use Rattle.std.proofs.lemmas.List.Elements.{All-weaker}
use Rattle.std.proofs.lemmas.List.{length_push, length-drop}
use Rattle.std.proofs.lemmas.Option.{slice_get_within}
use Rattle.lists.proofs.Lists.{eqb_other, filter-all}
use Rattle.transcripts.proofs.Facts.{Facts, no_forwards, forwarded_is_given, next_pair_is_given, next_pair-queue, gives_accepted}
use Rattle.transcripts.proofs.Pushes.{accepted_in-same, accepted_in-other, given_to-same, given_to-other, answer_of-other, given_of-same, given_of-other, is_pair-queue, is_pair-number, taken_in-same, taken_in-other, taken-some, taken-none, hand-none, forwards-none, forwards-some, forwards-other, sending_done, sending_more, sends_as, sends_gives, sends_takes, Sends, kept_of-none, kept-none, kept-gives, length-kept, unanswered-none, unanswered-gives, unanswered-done, next_pair-some}
use Rattle.lists.proofs.Sums.{sum_agree, sum_same, sum_changed, sum_changed_in}
use Rattle.transcripts.proofs.Waits.{waiting-none, waiting-gives, waiting-accepts, waiting-rises}
use Rattle.transcripts.specs.Allowed.{Allowed, MayAcceptOf, MayGiveNumber}
use Rattle.transcripts.specs.Lawful.{IsForwardEntry, IsHandOver}
use Rattle.evt_types.specs.Plan.{Plan, lanes, queues, lanes_of, bound_of}
use Rattle.lists.specs.Lists.{has}
use Rattle.transcripts.specs.Transcript.{accepted, accepted_in, given_to, answers, answer_of, unanswered, sends, forwards, given_of, hand, waiting, taken, taken_in, is_pair, kept_of, kept, inside}
use Rattle.evt_types.specs.declared.event.Event.{Event}
use Rattle.evt_types.specs.declared.event.Numbered.{Numbered}
use Rattle.evt_types.specs.declared.step.Outcome.{Outcome}
use Rattle.evt_types.specs.declared.step.Outcome.TheVariants.{Forwarded, Released}
use Rattle.evt_types.specs.declared.step.Source.{Source}
use Rattle.evt_types.specs.declared.step.Source.TheVariants.{New, Of}
use Rattle.evt_types.specs.declared.step.Step.{Step}
use Rattle.evt_types.specs.declared.step.Step.TheVariants.{Accept, Give, Done, More, Turned, Bounced, Shut}

-- ---- the three sums

waiting_sum : Plan → List Step → ℕ
waiting_sum p T = sum_by (λ q. length (waiting T q)) (queues p)

unfoldable pub kept_sum : Plan → List Step → ℕ
kept_sum p T = sum_by (λ q. length (kept T q)) (queues p)

unanswered_sum : Plan → List Step → ℕ
unanswered_sum p T = sum_by (λ l. length (unanswered T l)) (lanes p)

inside_is : (p : Plan) (T : List Step) → inside p T ≡ waiting_sum p T + kept_sum p T + unanswered_sum p T
unfolding inside waiting_sum kept_sum unanswered_sum
inside_is p T = refl

-- ---- waiting

waiting_same : (p : Plan) (P : List Step) (s : Step) → ((q : ℕ) → accepted_in q s ≡ None) → ((q : ℕ) → given_of q s ≡ None) → waiting_sum p P ≡ waiting_sum p (P ++ s ∷ [])
unfolding waiting_sum
waiting_same p P s h k =
    sum_same (λ q. length (waiting P q)) (λ q. length (waiting (P ++ s ∷ []) q)) (length p.queues) (λ q. sym (ap length (waiting-none P q s (h q) (k q))))

waiting_one_more : (p : Plan) (P : List Step) (q : ℕ) (e : Event) (c : Source) → All (λ n. n < length (accepted P q)) (hand P q) → q < length p.queues → waiting_sum p P + 1 ≡ waiting_sum p (P ++ Accept q e c ∷ []) + 0
unfolding waiting_sum
waiting_one_more p P q e c given there =
    let s = Accept q e c in
    let here : length (waiting P q) + 1 ≡ length (waiting (P ++ s ∷ []) q) + 0 =
    omega (arith, ap length (waiting-accepts P q s e given (accepted_in-same q e c) refl), length_push (waiting P q) (record { number = length (accepted P q); event = e }))
    in
    sum_changed (λ r. length (waiting P r)) (λ r. length (waiting (P ++ s ∷ []) r)) (length p.queues) q 1 0 there here (λ r other. sym (ap length (waiting-none P r s (accepted_in-other r q e c (λ same. other (sym same))) refl)))

-- a rising list without one of its numbers
without : (xs : List Numbered) (w : Numbered) → AllPairs (λ (u v : Numbered). u.number < v.number) xs → Contains xs w → length xs ≡ length (filter (λ (v : Numbered). not (v.number == w.number)) xs) + 1
without [] w rises (k, within, is) = absurd (omega arith)
without (x ∷ xs) w rises (zero, within, is) =
    let test = λ (v : Numbered). not (v.number == w.number) in
    let same : x.number ≡ w.number = ap (λ (v : Numbered). v.number) is in
    let later : All (λ (v : Numbered). x.number < v.number) xs = λ k d l. rises 0 (suc k) d (omega arith) (omega arith) in
    let all = All-weaker (λ (v : Numbered). x.number < v.number) (λ v. test v ≡ true) (λ v lt. not_from_false (v.number == w.number) (eqb_other v.number w.number (λ e. omega arith))) xs later in
    let first = cond-false (test x) (x ∷ filter test xs) (filter test xs) (not_from_true (x.number == w.number) (eq-eqb x.number w.number same)) in
    omega (arith, ap length (first ∙ filter-all test xs all))
without (x ∷ xs) w rises (suc k, within, is) =
    let test = λ (v : Numbered). not (v.number == w.number) in
    let before : x.number < w.number = subst (λ (v : Numbered). x.number < v.number) is (rises 0 (suc k) w (omega arith) within) in
    let rest = without xs w (λ i j d lt in'. rises (suc i) (suc j) d (omega arith) (omega arith)) (k, omega arith, is) in
    let first = cond-true (test x) (x ∷ filter test xs) (filter test xs) (not_from_false (x.number == w.number) (eqb_other x.number w.number (λ e. omega arith))) in
    omega (arith, ap length first)

waiting_one_less : (p : Plan) (P : List Step) (l q : ℕ) (w : Numbered) → Contains (waiting P q) w → q < length p.queues → waiting_sum p P + 0 ≡ waiting_sum p (P ++ Give l q w.number ∷ []) + 1
unfolding waiting_sum
waiting_one_less p P l q w waits there =
    let s = Give l q w.number in
    let here : length (waiting P q) + 0 ≡ length (waiting (P ++ s ∷ []) q) + 1 =
    omega (arith, ap length (waiting-gives P q s w.number refl (given_of-same l q w.number)), without (waiting P q) w (waiting-rises P q) waits)
    in
    sum_changed (λ r. length (waiting P r)) (λ r. length (waiting (P ++ s ∷ []) r)) (length p.queues) q 0 1 there here (λ r other. sym (ap length (waiting-none P r s refl (given_of-other l r q w.number (λ same. other (sym same))))))

-- ---- kept

pub kept_same : (p : Plan) (P : List Step) (s : Step) → ((q : ℕ) → given_of q s ≡ None) → sends P s ≡ None → ((q n : ℕ) → taken_in q n s ≡ None) → kept_sum p P ≡ kept_sum p (P ++ s ∷ [])
unfolding kept_sum
kept_same p P s h j k = sum_same (λ q. length (kept P q)) (λ q. length (kept (P ++ s ∷ []) q)) (length p.queues) (λ q. sym (ap length (kept-none P q s (h q) j (k q))))

pub kept_given : (p : Plan) (P : List Step) (l q n : ℕ) → Facts p P → has n (hand P q) ≡ false → kept_sum p P ≡ kept_sum p (P ++ Give l q n ∷ [])
unfolding kept_sum
kept_given p P l q n f new =
    let s = Give l q n in
    sum_same (λ r. length (kept P r)) (λ r. length (kept (P ++ s ∷ []) r)) (length p.queues) (λ r. sym (ap length (⊎_elim (λ same. kept-gives P r s n (cond-true (q == r) (Some n) None (eq-eqb q r same)) refl (λ m. refl) (no_forwards p P r n f (subst (λ k. has n (hand P k) ≡ false) same new))) (λ other. kept-none P r s (given_of-other l r q n other) refl (λ m. refl)) (cases_eq q r))))

-- the number of kept events of a queue, where the same are kept of each number
kept_length_same : (P : List Step) (q : ℕ) (s : Step) → given_of q s ≡ None → ((m : ℕ) → kept_of (P ++ s ∷ []) q m ≡ kept_of P q m) → length (kept (P ++ s ∷ []) q) ≡ length (kept P q)
kept_length_same P q s none same =
    let sums = sum_agree (λ m. length (kept_of (P ++ s ∷ []) q m)) (λ m. length (kept_of P q m)) (hand P q) (λ k d l. ap length (same (get_or (hand P q) k d))) in
    omega (arith, length-kept P q, length-kept (P ++ s ∷ []) q ∙ ap (sum_by (λ m. length (kept_of (P ++ s ∷ []) q m))) (hand-none P q s none))

-- One pair (q, n) was given, and more or fewer events are kept of it than before.
kept_changed : (p : Plan) (P : List Step) (s : Step) (q n x y : ℕ) → Facts p P → has n (hand P q) ≡ true → q < length p.queues → ((r : ℕ) → given_of r s ≡ None) → length (kept_of P q n) + x ≡ length (kept_of (P ++ s ∷ []) q n) + y → ((r m : ℕ) → is_pair r m (q, n) ≡ false → kept_of (P ++ s ∷ []) r m ≡ kept_of P r m) → kept_sum p P + x ≡ kept_sum p (P ++ s ∷ []) + y
unfolding kept_sum
kept_changed p P s q n x y f given there none here same =
    let in_queue : length (kept P q) + x ≡ length (kept (P ++ s ∷ []) q) + y =
    let sums = sum_changed_in (λ m. length (kept_of P q m)) (λ m. length (kept_of (P ++ s ∷ []) q m)) (hand P q) n x y (f.once q) given here (λ m other. sym (ap length (same q m (is_pair-number q m (q, n) (λ e. other (sym e)))))) in
    omega (arith, length-kept P q, length-kept (P ++ s ∷ []) q ∙ ap (sum_by (λ m. length (kept_of (P ++ s ∷ []) q m))) (hand-none P q s (none q)))
    in
    sum_changed (λ r. length (kept P r)) (λ r. length (kept (P ++ s ∷ []) r)) (length p.queues) q x y there in_queue
    (λ r other. sym (kept_length_same P r s (none r) (λ m. same r m (is_pair-queue r m (q, n) (λ e. other (sym e))))))

-- what was passed on is accepted
pub kept_one_less : (p : Plan) (P : List Step) (r n q : ℕ) (e : Event) → Facts p P → slice_get (forwards P q n) (length (taken P q n)) ≡ Some e → q < length p.queues → kept_sum p P + 0 ≡ kept_sum p (P ++ Accept r e (Of q n) ∷ []) + 1
kept_one_less p P r n q e f next there =
    let s = Accept r e (Of q n) in
    let within = slice_get_within (forwards P q n) (length (taken P q n)) e next in
    let here : length (kept_of P q n) + 0 ≡ length (kept_of (P ++ s ∷ []) q n) + 1 =
    omega (arith, length-drop (length (taken P q n)) (forwards P q n), length-drop (length (taken (P ++ s ∷ []) q n)) (forwards (P ++ s ∷ []) q n), ap length (forwards-none P q n s refl), ap length (taken-some P q n s e (taken_in-same r q n e)), length_push (taken P q n) e)
    in
    kept_changed p P s q n 0 1 f (forwarded_is_given p P q n (length (taken P q n)) e f next) there (λ k. refl) here
    (λ k m other. kept_of-none P k m s refl (taken_in-other r q n k m e other))

-- A pair is passed on: y is 0 where no more were taken than passed on, else it may be 1.
kept_passed : (p : Plan) (P : List Step) (s : Step) (y : ℕ) (x : ℕ × ℕ) (e : Event) → Facts p P → Sends P s x e → length (kept_of P x.0 x.1) + 1 ≡ length (kept_of (P ++ s ∷ []) x.0 x.1) + y → kept_sum p P + 1 ≡ kept_sum p (P ++ s ∷ []) + y
kept_passed p P s y x e f sending here =
    kept_changed p P s x.0 x.1 1 y f (next_pair_is_given p P sending.lane x f sending.next) (next_pair-queue p P sending.lane x f sending.next)
    (sends_gives P s x e sending) here
    (λ k m other. ap (λ es. drop (length es) (forwards (P ++ s ∷ []) k m)) (taken-none P k m s (sends_takes P s x e sending k m))
    ∙ ap (drop (length (taken P k m))) (forwards-other P k m s x e (sends_as P s x e sending) other))

passed_length : (P : List Step) (s : Step) (x : ℕ × ℕ) (e : Event) → Sends P s x e → length (kept_of (P ++ s ∷ []) x.0 x.1) ≡ length (forwards P x.0 x.1) + 1 - length (taken P x.0 x.1)
passed_length P s x e sending =
    length-drop (length (taken (P ++ s ∷ []) x.0 x.1)) (forwards (P ++ s ∷ []) x.0 x.1)
    ∙ (ap (λ k. k - length (taken (P ++ s ∷ []) x.0 x.1)) (ap length (forwards-some P x.0 x.1 s e (sends_as P s x e sending)) ∙ length_push (forwards P x.0 x.1) e)
    ∙ ap (λ k. length (forwards P x.0 x.1) + 1 - k) (ap length (taken-none P x.0 x.1 s (sends_takes P s x e sending x.0 x.1))))

kept_one_more : (p : Plan) (P : List Step) (s : Step) (x : ℕ × ℕ) (e : Event) → Facts p P → length (taken P x.0 x.1) ≤ length (forwards P x.0 x.1) → Sends P s x e → kept_sum p P + 1 ≡ kept_sum p (P ++ s ∷ []) + 0
kept_one_more p P s x e f fewer sending =
    kept_passed p P s 0 x e f sending (omega (arith, length-drop (length (taken P x.0 x.1)) (forwards P x.0 x.1), passed_length P s x e sending, fewer))

pub kept_more_le : (p : Plan) (P : List Step) (s : Step) (x : ℕ × ℕ) (e : Event) → Facts p P → Sends P s x e → kept_sum p (P ++ s ∷ []) ≤ kept_sum p P + 1
kept_more_le p P s x e f sending =
    let most : length (kept_of (P ++ s ∷ []) x.0 x.1) ≤ length (kept_of P x.0 x.1) + 1 =
    omega (arith, length-drop (length (taken P x.0 x.1)) (forwards P x.0 x.1), passed_length P s x e sending)
    in
    omega (arith, kept_passed p P s (length (kept_of P x.0 x.1) + 1 - length (kept_of (P ++ s ∷ []) x.0 x.1)) x e f sending (omega arith))

-- ---- unanswered

unanswered_same : (p : Plan) (P : List Step) (s : Step) → ((l : ℕ) → answer_of l s ≡ None) → ((l : ℕ) → given_to l s ≡ None) → unanswered_sum p P ≡ unanswered_sum p (P ++ s ∷ [])
unfolding unanswered_sum
unanswered_same p P s h k =
    sum_same (λ l. length (unanswered P l)) (λ l. length (unanswered (P ++ s ∷ []) l)) (lanes_of p) (λ l. sym (ap length (unanswered-none P l s (h l) (k l))))

unanswered_one_more : (p : Plan) (P : List Step) (l q n : ℕ) → Facts p P → l < lanes_of p → unanswered_sum p P + 1 ≡ unanswered_sum p (P ++ Give l q n ∷ []) + 0
unfolding unanswered_sum
unanswered_one_more p P l q n f there =
    let s = Give l q n in
    let here : length (unanswered P l) + 1 ≡ length (unanswered (P ++ s ∷ []) l) + 0 =
    omega (arith, ap length (unanswered-gives P l s (q, n) (f.answers l) refl (given_to-same l q n)), length_push (unanswered P l) (q, n))
    in
    sum_changed (λ m. length (unanswered P m)) (λ m. length (unanswered (P ++ s ∷ []) m)) (lanes_of p) l 1 0 there here (λ m other. sym (ap length (unanswered-none P m s refl (given_to-other m l q n (λ same. other (sym same))))))

unanswered_one_less : (p : Plan) (P : List Step) (l : ℕ) (o : Outcome) → Facts p P → 0 < length (unanswered P l) → l < lanes_of p → unanswered_sum p P + 0 ≡ unanswered_sum p (P ++ Done l o ∷ []) + 1
unfolding unanswered_sum
unanswered_one_less p P l o f some there =
    let s = Done l o in
    let here : length (unanswered P l) + 0 ≡ length (unanswered (P ++ s ∷ []) l) + 1 =
    omega (arith, ap length (unanswered-done P l o (f.answers l)), length-drop 1 (unanswered P l))
    in
    sum_changed (λ m. length (unanswered P m)) (λ m. length (unanswered (P ++ s ∷ []) m)) (lanes_of p) l 0 1 there here (λ m other. sym (ap length (unanswered-none P m s (answer_of-other m l o (λ same. other (sym same))) refl)))

-- ---- inside

-- a NEW that is accepted adds one
pub inside_new : (p : Plan) (P : List Step) (q : ℕ) (e : Event) (l : ℕ) → Facts p P → q < length p.queues → inside p (P ++ Accept q e (New l) ∷ []) ≡ inside p P + 1
inside_new p P q e l f there =
    let s = Accept q e (New l) in
    omega (arith, inside_is p P, inside_is p (P ++ s ∷ []), waiting_one_more p P q e (New l) (f.given q) there, kept_same p P s (λ r. refl) refl (λ r n. refl), unanswered_same p P s (λ m. refl) (λ m. refl))

-- an event that was passed on and is accepted was kept and waits
pub inside_of : (p : Plan) (P : List Step) (q : ℕ) (e : Event) (r n : ℕ) → Facts p P → IsForwardEntry p q e r → MayAcceptOf p P e r n → inside p (P ++ Accept q e (Of r n) ∷ []) ≡ inside p P
inside_of p P q e r n f form may =
    let s = Accept q e (Of r n) in
    omega (arith, inside_is p P, inside_is p (P ++ s ∷ []), waiting_one_more p P q e (Of r n) (f.given q) form.entry.queue, kept_one_less p P q n r e f may.origin form.source, unanswered_same p P s (λ m. refl) (λ m. refl))

-- an event that is given was waiting and is unanswered
pub inside_give : (p : Plan) (P : List Step) (l q n : ℕ) → Facts p P → IsHandOver p l q → MayGiveNumber p P l q n → inside p (P ++ Give l q n ∷ []) ≡ inside p P
inside_give p P l q n f form may =
    let s = Give l q n in
    let waits : waiting_sum p P + 0 ≡ waiting_sum p (P ++ s ∷ []) + 1 =
    subst (λ m. waiting_sum p P + 0 ≡ waiting_sum p (P ++ Give l q m ∷ []) + 1) may.1 (waiting_one_less p P l q may.0 may.2.once form.queue)
    in
    omega (arith, inside_is p P, inside_is p (P ++ s ∷ []), kept_given p P l q n f (gives_accepted p P l q n may).1, unanswered_one_more p P l q n f form.lane)

-- a release takes one away
pub inside_release : (p : Plan) (P : List Step) (l : ℕ) → Facts p P → l < lanes_of p → 0 < length (unanswered P l) → inside p (P ++ Done l Released ∷ []) + 1 ≡ inside p P
inside_release p P l f there some =
    let s = Done l Released in
    omega (arith, inside_is p P, inside_is p (P ++ s ∷ []), waiting_same p P s (λ q. refl) (λ q. refl), kept_same p P s (λ q. refl) refl (λ q n. refl), unanswered_one_less p P l Released f some there)

-- a forward was unanswered and is kept
pub inside_forward : (p : Plan) (P : List Step) (l : ℕ) (e : Event) → Facts p P → ((q n : ℕ) → length (taken P q n) ≤ length (forwards P q n)) → l < lanes_of p → 0 < length (unanswered P l) → inside p (P ++ Done l (Forwarded e) ∷ []) ≡ inside p P
inside_forward p P l e f fewer there some =
    let s = Done l (Forwarded e) in
    let next = next_pair-some P l some in
    omega (arith, inside_is p P, inside_is p (P ++ s ∷ []), waiting_same p P s (λ q. refl) (λ q. refl), kept_one_more p P s next.0 e f (fewer next.0.0 next.0.1) (sending_done P l next.0 e next.1), unanswered_one_less p P l (Forwarded e) f some there)

-- the same as far as it needs no other fact: it adds nothing
pub inside_forward_le : (p : Plan) (P : List Step) (l : ℕ) (e : Event) → Facts p P → l < lanes_of p → 0 < length (unanswered P l) → inside p (P ++ Done l (Forwarded e) ∷ []) ≤ inside p P
inside_forward_le p P l e f there some =
    let s = Done l (Forwarded e) in
    let next = next_pair-some P l some in
    omega (arith, inside_is p P, inside_is p (P ++ s ∷ []), waiting_same p P s (λ q. refl) (λ q. refl), kept_more_le p P s next.0 e f (sending_done P l next.0 e next.1), unanswered_one_less p P l (Forwarded e) f some there)

-- an event that is added is kept beside the unanswered one
pub inside_added : (p : Plan) (P : List Step) (l : ℕ) (e : Event) → Facts p P → ((q n : ℕ) → length (taken P q n) ≤ length (forwards P q n)) → 0 < length (unanswered P l) → inside p (P ++ More l e ∷ []) ≡ inside p P + 1
inside_added p P l e f fewer some =
    let s = More l e in
    let next = next_pair-some P l some in
    omega (arith, inside_is p P, inside_is p (P ++ s ∷ []), waiting_same p P s (λ q. refl) (λ q. refl), kept_one_more p P s next.0 e f (fewer next.0.0 next.0.1) (sending_more P l next.0 e next.1), unanswered_same p P s (λ m. refl) (λ m. refl))

pub inside_added_le : (p : Plan) (P : List Step) (l : ℕ) (e : Event) → Facts p P → 0 < length (unanswered P l) → inside p (P ++ More l e ∷ []) ≤ inside p P + 1
inside_added_le p P l e f some =
    let s = More l e in
    let next = next_pair-some P l some in
    omega (arith, inside_is p P, inside_is p (P ++ s ∷ []), waiting_same p P s (λ q. refl) (λ q. refl), kept_more_le p P s next.0 e f (sending_more P l next.0 e next.1), unanswered_same p P s (λ m. refl) (λ m. refl))

-- a step that brings nothing to any list
inside_still : (p : Plan) (P : List Step) (s : Step) → ((q : ℕ) → accepted_in q s ≡ None) → ((q : ℕ) → given_of q s ≡ None) → sends P s ≡ None → ((q n : ℕ) → taken_in q n s ≡ None) → ((l : ℕ) → answer_of l s ≡ None) → ((l : ℕ) → given_to l s ≡ None) → inside p (P ++ s ∷ []) ≡ inside p P
inside_still p P s accepts gives forwards takes answers outs =
    omega (arith, inside_is p P, inside_is p (P ++ s ∷ []), waiting_same p P s accepts gives, kept_same p P s gives forwards takes, unanswered_same p P s answers outs)

pub inside_turned : (p : Plan) (P : List Step) (l : ℕ) (e : Event) → inside p (P ++ Turned l e ∷ []) ≡ inside p P
inside_turned p P l e = inside_still p P (Turned l e) (λ q. refl) (λ q. refl) refl (λ q n. refl) (λ m. refl) (λ m. refl)

pub inside_bounced : (p : Plan) (P : List Step) (l : ℕ) → inside p (P ++ Bounced l ∷ []) ≡ inside p P
inside_bounced p P l = inside_still p P (Bounced l) (λ q. refl) (λ q. refl) refl (λ q n. refl) (λ m. refl) (λ m. refl)

pub inside_shut : (p : Plan) (P : List Step) → inside p (P ++ Shut ∷ []) ≡ inside p P
inside_shut p P = inside_still p P Shut (λ q. refl) (λ q. refl) refl (λ q n. refl) (λ m. refl) (λ m. refl)

-- ---- the bound

-- an allowed step keeps within the bound
pub inside_more : (p : Plan) (P : List Step) (s : Step) → Facts p P → inside p P ≤ bound_of p → Allowed p P s → inside p (P ++ s ∷ []) ≤ bound_of p
inside_more p P (Accept q e (New l)) f h a = omega (arith, a.needs.room, inside_new p P q e l f a.formed.entry.queue)
inside_more p P (Accept q e (Of r n)) f h a = omega (arith, inside_of p P q e r n f a.formed a.needs)
inside_more p P (Give l q n) f h a = omega (arith, inside_give p P l q n f a.formed a.needs)
inside_more p P (Done l (Forwarded e)) f h a = omega (arith, inside_forward_le p P l e f a.formed.0 a.needs)
inside_more p P (Done l Released) f h a = omega (arith, inside_release p P l f a.formed.0 a.needs)
inside_more p P (More l e) f h a = omega (arith, a.needs.room, inside_added_le p P l e f a.needs.beside)
inside_more p P (Turned l e) f h a = omega (arith, inside_turned p P l e)
inside_more p P (Bounced l) f h a = omega (arith, inside_bounced p P l)
inside_more p P Shut f h a = omega (arith, inside_shut p P)

-- a NEW within the bound, or an event that was added within it, had room before
pub inside_needs : (p : Plan) (P : List Step) (q : ℕ) (e : Event) (l : ℕ) → Facts p P → q < length p.queues → inside p (P ++ Accept q e (New l) ∷ []) ≤ bound_of p → inside p P < bound_of p
inside_needs p P q e l f there h = omega (arith, inside_new p P q e l f there)

pub added_needs : (p : Plan) (P : List Step) (l : ℕ) (e : Event) → Facts p P → ((q n : ℕ) → length (taken P q n) ≤ length (forwards P q n)) → 0 < length (unanswered P l) → inside p (P ++ More l e ∷ []) ≤ bound_of p → inside p P < bound_of p
added_needs p P l e f fewer some h = omega (arith, inside_added p P l e f fewer some)
