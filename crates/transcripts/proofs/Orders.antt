-- (order), step by step: an Accept from a number comes where no source before it stands after it, and all as far as it are answered.
use Rattle.std.proofs.Common.{◌≡◌, ℕ, ◌≤◌, true, List, [], ◌∷◌, ◌++◌, length, All, AllPairs, Some, slice_get, refl, sym, ap, ◌∙◌, subst}
use Rattle.std.specs.List.{cons_option}
use Rattle.std.proofs.lemmas.List.Elements.{All-weaker}
use Rattle.evt_types.specs.Plan.{Plan, queue_of, is_atomic, is_ordered}
use Rattle.lists.specs.Lists.{has}
use Rattle.transcripts.specs.Transcript.{event_at, is_answered, forwards, given_of, hand, taken, source_in, sources}
use Rattle.lists.specs.Lists.{upto}
use Rattle.transcripts.specs.Lawful.{IsInHandOrder, keeps_some, keeps_with, IsRising, KeepsOrder}
use Rattle.transcripts.specs.Allowed.{Needs, MayAcceptOf}
use Rattle.evt_types.specs.declared.event.Event.{Event}
use Rattle.evt_types.specs.declared.step.Source.TheVariants.{Of}
use Rattle.evt_types.specs.declared.step.Step.{Step}
use Rattle.evt_types.specs.declared.step.Step.TheVariants.{Accept}
use Rattle.lists.proofs.Lists.{All-option, AllPairs-option, AllPairs-last, AllPairs-weaker_all, All-weaker_all, All-last, upto-more}
use Rattle.transcripts.proofs.Pushes.{source_in-same, source_in_is, hand-push, hand-none, sources-push, sources-some, is_answered-more, is_answered-none, event_at-more}
use Rattle.transcripts.proofs.Facts.{Facts, given_is_accepted, forwarded_is_given}

-- ---- what stays

-- the hand-out as far as a number that is given
upto_stays : (P : List Step) (q n : ℕ) (s : Step) → has n (hand P q) ≡ true → upto n (hand (P ++ s ∷ []) q) ≡ upto n (hand P q)
upto_stays P q n s h = ap (upto n) (hand-push P q s) ∙ upto-more n (hand P q) (cons_option (given_of q s) []) h

-- which of two given numbers keep their order
pub keeps_stays : (p : Plan) (P : List Step) (q m n : ℕ) (s : Step) → Facts p P → has m (hand P q) ≡ true → has n (hand P q) ≡ true
    → keeps_with p (P ++ s ∷ []) q m n ≡ keeps_with p P q m n
keeps_stays p P q m n s f h k =
    ap (λ o. keeps_some p q o (event_at (P ++ s ∷ []) q n)) (event_at-more P q m s (given_is_accepted p P q m f h))
    ∙ ap (keeps_some p q (event_at P q m)) (event_at-more P q n s (given_is_accepted p P q n f k))

-- an Accept's source is given
pub source_is_given : (p : Plan) (P : List Step) (e : Event) (r n : ℕ) → Facts p P → slice_get (forwards P r n) (length (taken P r n)) ≡ Some e
    → has n (hand P r) ≡ true
source_is_given p P e r n f origin = forwarded_is_given p P r n (length (taken P r n)) e f origin

-- ---- ordered queues

abbrev InOrderOf : List Step → ℕ → ℕ → ℕ → Type 0
InOrderOf T q m n = has m (upto n (hand T q)) ≡ true

abbrev AnsweredUpto : List Step → ℕ → ℕ → Type 0
AnsweredUpto T q n = All (λ m. is_answered T q m ≡ true) (upto n (hand T q))

hand_order_more : (p : Plan) (P : List Step) (s : Step) (q : ℕ) → Facts p P → is_ordered (queue_of p q).kind ≡ true → IsInHandOrder P q → Needs p P s
    → IsInHandOrder (P ++ s ∷ []) q
hand_order_more p P s q f ordered h needs = record {
  order =
      rw (sources-push P q s) (AllPairs-option (InOrderOf (P ++ s ∷ []) q) (sources P q) (source_in q s)
      (AllPairs-weaker_all (λ n. has n (hand P q) ≡ true) (InOrderOf P q) (InOrderOf (P ++ s ∷ []) q) (sources P q) (f.sources q)
      (λ m n hm hn k. rw (upto_stays P q n s hn) k) h.order) new_order);
  answered =
      rw (sources-push P q s) (All-option (AnsweredUpto (P ++ s ∷ []) q) (sources P q) (source_in q s)
      (All-weaker_all (λ n. has n (hand P q) ≡ true) (AnsweredUpto P q) (AnsweredUpto (P ++ s ∷ []) q) (sources P q) (f.sources q)
      (λ n hn k. still n hn k) h.answered) new_answered);
}
  where
    still : (n : ℕ) → has n (hand P q) ≡ true → AnsweredUpto P q n → AnsweredUpto (P ++ s ∷ []) q n
    still n hn k =
        rw (upto_stays P q n s hn) (All-weaker (λ m. is_answered P q m ≡ true) (λ m. is_answered (P ++ s ∷ []) q m ≡ true)
        (λ m a. is_answered-more P q m s a) (upto n (hand P q)) k)

    new : (n : ℕ) → source_in q s ≡ Some n → (e : Event) × MayAcceptOf p P e q n
    new n e = let accept = source_in_is q s n e in (accept.1, subst (Needs p P) accept.2 needs)

    new_order : (n : ℕ) → source_in q s ≡ Some n → All (λ m. InOrderOf (P ++ s ∷ []) q m n) (sources P q)
    new_order n e = let may = new n e in rw (upto_stays P q n s (source_is_given p P may.0 q n f may.1.origin)) (may.1.order ordered)

    new_answered : (n : ℕ) → source_in q s ≡ Some n → AnsweredUpto (P ++ s ∷ []) q n
    new_answered n e = let may = new n e in still n (source_is_given p P may.0 q n f may.1.origin) (may.1.answered ordered)

-- ---- atomic queues

abbrev Rises : Plan → List Step → ℕ → ℕ → ℕ → Type 0
Rises p T q m n = keeps_with p T q m n ≡ true → m ≤ n

rising_more : (p : Plan) (P : List Step) (s : Step) (q : ℕ) → Facts p P → is_atomic (queue_of p q).kind ≡ true → IsRising p P q → Needs p P s
    → IsRising p (P ++ s ∷ []) q
rising_more p P s q f atomic h needs =
    rw (sources-push P q s) (AllPairs-option (Rises p (P ++ s ∷ []) q) (sources P q) (source_in q s)
    (AllPairs-weaker_all (λ n. has n (hand P q) ≡ true) (Rises p P q) (Rises p (P ++ s ∷ []) q) (sources P q) (f.sources q) still h) new)
  where
    still : (m n : ℕ) → has m (hand P q) ≡ true → has n (hand P q) ≡ true → Rises p P q m n → Rises p (P ++ s ∷ []) q m n
    still m n hm hn r k = r (sym (keeps_stays p P q m n s f hm hn) ∙ k)

    new : (n : ℕ) → source_in q s ≡ Some n → All (λ m. Rises p (P ++ s ∷ []) q m n) (sources P q)
    new n e =
        let accept = source_in_is q s n e in
        let may : MayAcceptOf p P accept.1 q n = subst (Needs p P) accept.2 needs in
        All-weaker_all (λ m. has m (hand P q) ≡ true) (λ m. Rises p P q m n) (λ m. Rises p (P ++ s ∷ []) q m n) (sources P q) (f.sources q)
        (λ m hm r. still m n hm (source_is_given p P accept.1 q n f may.origin) r) (may.rises atomic)

-- ---- the clause

pub order_more : (p : Plan) (P : List Step) (s : Step) → Facts p P → KeepsOrder p P → Needs p P s → KeepsOrder p (P ++ s ∷ [])
order_more p P s f h needs =
    record {
      ordered = λ q ordered. hand_order_more p P s q f ordered (h.ordered q ordered) needs;
      atomic = λ q atomic. rising_more p P s q f atomic
          (h.atomic q atomic) needs;
    }

-- what the clause after an Accept from a number says of the steps before it
pub order_needs : (P : List Step) (q r n : ℕ) (e : Event) → IsInHandOrder (P ++ Accept q e (Of r n) ∷ []) r
    → All (λ m. has m (upto n (hand P r)) ≡ true) (sources P r)
order_needs P q r n e h =
    let T = P ++ Accept q e (Of r n) ∷ [] in
    AllPairs-last (InOrderOf P r) (sources P r) n (same_hand T (hand-none P r (Accept q e (Of r n)) refl)
    (rw (sources-some P r (Accept q e (Of r n)) n (source_in-same q r n e)) at h.order))
  where
    same_hand : (T : List Step) → hand T r ≡ hand P r → AllPairs (λ m k. has m (upto k (hand T r)) ≡ true) (sources P r ++ n ∷ [])
        → AllPairs (InOrderOf P r) (sources P r ++ n ∷ [])
    same_hand T is all = subst (λ ns. AllPairs (λ m k. has m (upto k ns) ≡ true) (sources P r ++ n ∷ [])) is all

pub answered_needs : (P : List Step) (q r n : ℕ) (e : Event) → IsInHandOrder (P ++ Accept q e (Of r n) ∷ []) r
    → All (λ m. is_answered P r m ≡ true) (upto n (hand P r))
answered_needs P q r n e h =
    let s = Accept q e (Of r n) in
    let last : AnsweredUpto (P ++ s ∷ []) r n =
    All-last (AnsweredUpto (P ++ s ∷ []) r) (sources P r) n (subst (All (AnsweredUpto (P ++ s ∷ []) r))
    (sources-some P r s n (source_in-same q r n e)) h.answered) in
    All-weaker (λ m. is_answered (P ++ s ∷ []) r m ≡ true) (λ m. is_answered P r m ≡ true) (λ m k. sym (is_answered-none P r m s refl) ∙ k)
    (upto n (hand P r)) (subst (λ ns. All (λ m. is_answered (P ++ s ∷ []) r m ≡ true) (upto n ns)) (hand-none P r s refl) last)

pub rises_needs : (p : Plan) (P : List Step) (q r n : ℕ) (e : Event) → Facts p P → has n (hand P r) ≡ true
    → IsRising p (P ++ Accept q e (Of r n) ∷ []) r → All (λ m. keeps_with p P r m n ≡ true → m ≤ n) (sources P r)
rises_needs p P q r n e f hn h =
    let s = Accept q e (Of r n) in
    let last = AllPairs-last (Rises p (P ++ s ∷ []) r) (sources P r) n
    (subst (AllPairs (Rises p (P ++ s ∷ []) r)) (sources-some P r s n (source_in-same q r n e)) h) in
    All-weaker_all (λ m. has m (hand P r) ≡ true) (λ m. Rises p (P ++ s ∷ []) r m n) (λ m. Rises p P r m n) (sources P r) (f.sources r)
    (λ m hm rise k. rise (keeps_stays p P r m n s f hm hn ∙ k)) last
