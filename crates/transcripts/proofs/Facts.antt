-- What every transcript whose steps were allowed has, and how it is shown: a fact that each allowed step keeps.
--
-- Facts p T says of each queue q and lane l:
--     given        the numbers in hand T q are below the number of accepted events
--     once         no number stands twice in hand T q
--     answers      the lane has at most as many answers as it was given pairs
--     queues       the queue of each pair that the lane was given is there
--     out          and its number is in that queue's hand
--     ended, sent  each pair that was answered, or passed on, is in its queue's hand
--     sources      each number from which an event was accepted is in hand T q
use Rattle.std.proofs.Common.{◌≡◌, ◌≢◌, ℕ, zero, suc, ◌<◌, ◌≤◌, true, false, List, [], ◌∷◌, ◌++◌, length, take, All, AllPairs, Option, Some, None, slice_get, ◌⊎◌, inl, inr, ⊎_elim, refl, sym, ap, ◌∙◌, subst, arith, append_assoc, append-nil, get_or}
use Rattle.std.specs.List.{cons_option}
use Rattle.std.proofs.lemmas.Bool.{cases_Bool, false≢true}
use Rattle.std.proofs.lemmas.List.{length-append}
use Rattle.std.proofs.lemmas.List.Elements.{All-nil, All-weaker, All-drop}
use Rattle.std.proofs.lemmas.Option.{none-some}
use Rattle.evt_types.specs.Plan.{Plan}
use Rattle.lists.specs.Lists.{has}
use Rattle.transcripts.specs.Allowed.{Allowed, AllowedAfter, MayGiveNumber, MayAcceptOf}
use Rattle.transcripts.specs.Transcript.{accepted, given_to, out, answer_of, answers, unanswered, next_pair, ends, ended, is_pair, is_answered, sends, sent, sent_for, forwards, given_of, hand, taken, source_in, sources}
use Rattle.evt_types.specs.declared.step.Outcome.{Outcome}
use Rattle.evt_types.specs.declared.event.Event.{Event}
use Rattle.evt_types.specs.declared.step.Step.{Step}
use Rattle.lists.proofs.Lists.{filter_map-none, list_any-none, has-more, has-last, All-has, All-slice_get, All-option, AllPairs-option, All-differs, option_length}
use Rattle.transcripts.proofs.Pushes.{HasEvent, given_to_is, answer_of_is, given_of_is, source_in_is, ends_is, sends_is, given_of-same, sent_for-other, is_pair_is, accepted-length_more, out-push, answers-push, answers-none, hand-push, hand-some, sources-push, ended-push, sent-push, length-unanswered}
use Rattle.transcripts.proofs.Waits.{waiting_is_accepted, waiting_is_not_given}

-- ---- steps that are allowed one after another

pub AllowedAfter-push : (p : Plan) (past T : List Step) (s : Step) → AllowedAfter p past T → Allowed p (past ++ T) s
    → AllowedAfter p past (T ++ s ∷ [])
AllowedAfter-push p past [] s all one = (subst (λ P. Allowed p P s) (append-nil past) one, tt)
AllowedAfter-push p past (t ∷ T) s all one =
    (all.0, AllowedAfter-push p (past ++ t ∷ []) T s all.1 (subst (λ P. Allowed p P s) (sym (append_assoc past (t ∷ []) T)) one))

pub AllowedAfter-take : (p : Plan) (past T : List Step) (k : ℕ) → AllowedAfter p past T → AllowedAfter p past (take k T)
AllowedAfter-take p past T zero all = tt
AllowedAfter-take p past [] (suc k) all = tt
AllowedAfter-take p past (s ∷ T) (suc k) all = (all.0, AllowedAfter-take p (past ++ s ∷ []) T k all.1)

-- what each allowed step keeps holds of each transcript of allowed steps
pub AllowedAfter_keeps : (p : Plan) (I : List Step → Type 0) → ((P : List Step) (s : Step) → I P → Allowed p P s → I (P ++ s ∷ []))
    → (past T : List Step) → I past → AllowedAfter p past T → I (past ++ T)
AllowedAfter_keeps p I step past [] start all = subst I (sym (append-nil past)) start
AllowedAfter_keeps p I step past (s ∷ T) start all =
    subst I (append_assoc past (s ∷ []) T) (AllowedAfter_keeps p I step (past ++ s ∷ []) T (step past s start all.0) all.1)

-- the step that stands at k was allowed after those before it
pub AllowedAfter-at : (p : Plan) (past T : List Step) (k : ℕ) (d : Step) → k < length T → AllowedAfter p past T
    → Allowed p (past ++ take k T) (get_or T k d)
AllowedAfter-at p past [] k d h all = absurd (omega arith)
AllowedAfter-at p past (s ∷ T) zero d h all = subst (λ P. Allowed p P s) (sym (append-nil past)) all.0
AllowedAfter-at p past (s ∷ T) (suc k) d h all =
    subst (λ P. Allowed p P (get_or T k d)) (append_assoc past (s ∷ []) (take k T)) (AllowedAfter-at p (past ++ s ∷ []) T k d (omega arith) all.1)

-- ---- the facts

-- the pair was given
abbrev pub IsGiven : List Step → ℕ × ℕ → Type 0
IsGiven T x = has x.1 (hand T x.0) ≡ true

pub record Facts (p : Plan) (T : List Step) : Type 0 where
  pub given : (q : ℕ) → All (λ n. n < length (accepted T q)) (hand T q)
  pub once : (q : ℕ) → AllPairs (λ m n. m ≢ n) (hand T q)
  pub answers : (l : ℕ) → length (answers T l) ≤ length (out T l)
  pub queues : (l : ℕ) → All (λ (x : ℕ × ℕ). x.0 < length p.queues) (out T l)
  pub out : (l : ℕ) → All (IsGiven T) (out T l)
  pub ended : All (IsGiven T) (ended T)
  pub sent : All (λ (y : (ℕ × ℕ) × Event). has y.0.1 (hand T y.0.0) ≡ true) (sent T)
  pub sources : (q : ℕ) → All (λ n. has n (hand T q) ≡ true) (sources T q)

-- ---- what follows from them

-- a number in hand is accepted
pub given_is_accepted : (p : Plan) (T : List Step) (q n : ℕ) → Facts p T → has n (hand T q) ≡ true → n < length (accepted T q)
given_is_accepted p T q n f h = All-has (λ m. m < length (accepted T q)) n (hand T q) (f.given q) h

pub out_is_accepted : (p : Plan) (T : List Step) (l : ℕ) → Facts p T → All (HasEvent T) (out T l)
out_is_accepted p T l f = All-weaker (IsGiven T) (HasEvent T) (λ x h. given_is_accepted p T x.0 x.1 f h) (out T l) (f.out l)

pub unanswered_is_accepted : (p : Plan) (T : List Step) (l : ℕ) → Facts p T → All (HasEvent T) (unanswered T l)
unfolding unanswered
unanswered_is_accepted p T l f = All-drop (HasEvent T) (length (answers T l)) (out T l) (out_is_accepted p T l f)

-- the pair that the lane answers next is in hand, and its queue is there
pub next_pair_is_given : (p : Plan) (T : List Step) (l : ℕ) (x : ℕ × ℕ) → Facts p T → next_pair T l ≡ Some x → has x.1 (hand T x.0) ≡ true
next_pair_is_given p T l x f h = All-slice_get (IsGiven T) (out T l) (length (answers T l)) x (f.out l) h

pub next_pair-queue : (p : Plan) (T : List Step) (l : ℕ) (x : ℕ × ℕ) → Facts p T → next_pair T l ≡ Some x → x.0 < length p.queues
next_pair-queue p T l x f h = All-slice_get (λ (y : ℕ × ℕ). y.0 < length p.queues) (out T l) (length (answers T l)) x (f.queues l) h

pub other_pair : (T : List Step) (q n : ℕ) (x : ℕ × ℕ) → has n (hand T q) ≡ false → has x.1 (hand T x.0) ≡ true → is_pair q n x ≡ false
other_pair T q n x h k =
    ⊎_elim (λ same. let parts = is_pair_is q n x same in absurd
    (false≢true (sym h ∙ (ap (λ m. has m (hand T q)) (sym parts.1) ∙ (ap (λ r. has x.1 (hand T r)) (sym parts.0) ∙ k))))) (λ other. other)
    (cases_Bool (is_pair q n x))

-- a number that isn't in hand was neither answered nor passed on
pub not_answered : (p : Plan) (T : List Step) (q n : ℕ) → Facts p T → has n (hand T q) ≡ false → is_answered T q n ≡ false
not_answered p T q n f h =
    list_any-none (is_pair q n) (ended T) (All-weaker (IsGiven T) (λ x. is_pair q n x ≡ false) (λ x k. other_pair T q n x h k) (ended T) f.ended)

pub no_forwards : (p : Plan) (T : List Step) (q n : ℕ) → Facts p T → has n (hand T q) ≡ false → forwards T q n ≡ []
unfolding forwards
no_forwards p T q n f h =
    filter_map-none (sent_for q n) (sent T) (All-weaker (λ (y : (ℕ × ℕ) × Event). has y.0.1 (hand T y.0.0) ≡ true) (λ y. sent_for q n y ≡ None)
    (λ y k. sent_for-other q n y.0 y.1 (other_pair T q n y.0 h k)) (sent T) f.sent)

-- what was passed on from a number has it in hand
pub forwarded_is_given : (p : Plan) (T : List Step) (q n k : ℕ) (e : Event) → Facts p T → slice_get (forwards T q n) k ≡ Some e
    → has n (hand T q) ≡ true
forwarded_is_given p T q n k e f h =
    ⊎_elim (λ yes. yes) (λ no. absurd (none-some e (ap (λ es. slice_get es k) (sym (no_forwards p T q n f no)) ∙ h))) (cases_Bool (has n (hand T q)))

-- ---- that allowed steps keep them

-- a Give's number is accepted and not given before
pub gives_accepted : (p : Plan) (P : List Step) (l q n : ℕ) → MayGiveNumber p P l q n → (n < length (accepted P q)) × (has n (hand P q) ≡ false)
gives_accepted p P l q n may = (
  subst (λ m. m < length (accepted P q)) may.1 (waiting_is_accepted P q may.0 may.2.once),
  subst (λ m. has m (hand P q) ≡ false) may.1
      (waiting_is_not_given P q may.0 may.2.once),
)

pub hand_more : (P : List Step) (q n : ℕ) (s : Step) → has n (hand P q) ≡ true → has n (hand (P ++ s ∷ []) q) ≡ true
hand_more P q n s h = rw (hand-push P q s) (has-more n (hand P q) (cons_option (given_of q s) []) h)

-- the lane may answer
pub answers_more : (P : List Step) (m : ℕ) (s : Step) → length (answers P m) ≤ length (out P m)
    → (answer_of m s ≡ None) ⊎ (0 < length (unanswered P m)) → length (answers (P ++ s ∷ []) m) ≤ length (out (P ++ s ∷ []) m)
answers_more P m s h may =
    let outs = ap length (out-push P m s) ∙ length-append (out P m) (cons_option (given_to m s) []) in
    ⊎_elim
    (λ none. omega (arith, outs, ap length (answers-none P m s none)))
    (λ some. omega (
      arith,
      outs,
      ap length (answers-push P m s)
          ∙ length-append (answers P m) (cons_option (answer_of m s) []),
      option_length (answer_of m s),
      length-unanswered P m,
    ))
    may

pub Facts-none : (p : Plan) → Facts p []
unfolding accepted hand answers out ended sent sources
Facts-none p = record {
  given = λ q. All-nil (λ n. n < 0);
  once = λ q i j d lt within. absurd (omega arith);
  answers = λ l. omega arith;
  out = λ l. All-nil (IsGiven []);
  queues = λ l. All-nil (λ (x : ℕ × ℕ). x.0 < length p.queues);
  ended = All-nil (IsGiven []);
  sent = All-nil (λ (y : (ℕ × ℕ) × Event). has y.0.1 (hand [] y.0.0) ≡ true);
  sources = λ q. All-nil (λ n. has n (hand [] q) ≡ true);
}

pub Facts-push : (p : Plan) (P : List Step) (s : Step) → Facts p P → Allowed p P s → Facts p (P ++ s ∷ [])
Facts-push p P s f a = record {
  given =
      λ q. rw (hand-push P q s) (All-option (λ n. n < length (accepted (P ++ s ∷ []) q)) (hand P q) (given_of q s)
      (All-weaker (λ n. n < length (accepted P q)) (λ n. n < length (accepted (P ++ s ∷ []) q)) (λ n h. omega (arith, accepted-length_more P q s))
      (hand P q) (f.given q)) (λ n e. omega (arith, (new_given q n e).0, accepted-length_more P q s)));
  once =
      λ q. rw (hand-push P q s) (AllPairs-option (λ m n. m ≢ n) (hand P q) (given_of q s) (f.once q)
      (λ n e. All-differs n (hand P q) (new_given q n e).1));
  answers = λ l. answers_more P l s (f.answers l) (may_answer l (answer_of l s) refl);
  out =
      λ l. rw (out-push P l s) (All-option (IsGiven (P ++ s ∷ [])) (out P l) (given_to l s)
      (All-weaker (IsGiven P) (IsGiven (P ++ s ∷ [])) (λ x h. hand_more P x.0 x.1 s h) (out P l) (f.out l)) (new_out l));
  queues = λ l. rw (out-push P l s) (All-option (λ (x : ℕ × ℕ). x.0 < length p.queues) (out P l) (given_to l s) (f.queues l) (new_queue l));
  ended =
      rw (ended-push P s) (All-option (IsGiven (P ++ s ∷ [])) (ended P) (ends P s)
      (All-weaker (IsGiven P) (IsGiven (P ++ s ∷ [])) (λ x h. hand_more P x.0 x.1 s h) (ended P) f.ended) new_ended);
  sent =
      rw (sent-push P s) (All-option (λ (y : (ℕ × ℕ) × Event). has y.0.1 (hand (P ++ s ∷ []) y.0.0) ≡ true) (sent P) (sends P s)
      (All-weaker (λ (y : (ℕ × ℕ) × Event). has y.0.1 (hand P y.0.0) ≡ true) (λ y. has y.0.1 (hand (P ++ s ∷ []) y.0.0) ≡ true)
      (λ y h. hand_more P y.0.0 y.0.1 s h) (sent P) f.sent) new_sent);
  sources =
      λ q. rw (sources-push P q s) (All-option (λ n. has n (hand (P ++ s ∷ []) q) ≡ true) (sources P q) (source_in q s)
      (All-weaker (λ n. has n (hand P q) ≡ true) (λ n. has n (hand (P ++ s ∷ []) q) ≡ true) (λ n h. hand_more P q n s h) (sources P q) (f.sources q))
      (new_source q));
}
  where
    new_given : (q n : ℕ) → given_of q s ≡ Some n → (n < length (accepted P q)) × (has n (hand P q) ≡ false)
    new_given q n e = let give = given_of_is q s n e in gives_accepted p P give.0 q n (subst (Allowed p P) give.1 a).needs

    may_answer : (l : ℕ) (o : Option Outcome) → answer_of l s ≡ o → (answer_of l s ≡ None) ⊎ (0 < length (unanswered P l))
    may_answer l None e = inl e
    may_answer l (Some o) e = inr (subst (Allowed p P) (answer_of_is l s o e) a).needs

    new_out : (l : ℕ) (x : ℕ × ℕ) → given_to l s ≡ Some x → has x.1 (hand (P ++ s ∷ []) x.0) ≡ true
    new_out l x e =
        subst (λ ns. has x.1 ns ≡ true) (sym (hand-some P x.0 s x.1 (ap (given_of x.0) (given_to_is l s x e) ∙ given_of-same l x.0 x.1)))
        (has-last (hand P x.0) x.1)

    new_queue : (l : ℕ) (x : ℕ × ℕ) → given_to l s ≡ Some x → x.0 < length p.queues
    new_queue l x e = (subst (Allowed p P) (given_to_is l s x e) a).formed.queue

    new_ended : (x : ℕ × ℕ) → ends P s ≡ Some x → has x.1 (hand (P ++ s ∷ []) x.0) ≡ true
    new_ended x e = let done = ends_is P s x e in hand_more P x.0 x.1 s (next_pair_is_given p P done.0 x f done.3)

    new_sent : (y : (ℕ × ℕ) × Event) → sends P s ≡ Some y → has y.0.1 (hand (P ++ s ∷ []) y.0.0) ≡ true
    new_sent y e =
        let sending = sends_is P s y.0 y.1 e in hand_more P y.0.0 y.0.1 s (next_pair_is_given p P sending.lane y.0 f sending.next)

    new_source : (q n : ℕ) → source_in q s ≡ Some n → has n (hand (P ++ s ∷ []) q) ≡ true
    new_source q n e =
        let accept = source_in_is q s n e in
        let may : MayAcceptOf p P accept.1 q n = (subst (Allowed p P) accept.2 a).needs in
        hand_more P q n s (forwarded_is_given p P q n (length (taken P q n)) accept.1 f may.origin)

pub Facts-allowed : (p : Plan) (T : List Step) → AllowedAfter p [] T → Facts p T
Facts-allowed p T all = AllowedAfter_keeps p (Facts p) (Facts-push p) [] T (Facts-none p) all
