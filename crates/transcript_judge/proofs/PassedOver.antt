-- What was passed over stays kept: no step that is allowed accepts it, and so the transcript is never settled again.
use Rattle.std.proofs.Common.{◌≡◌, ℕ, zero, suc, ◌<◌, Bool, true, false, cond, ◌||◌, ◌==◌, List, [], ◌∷◌, ◌++◌, length, drop, All, Option, Some, None, ⊎_elim, refl, sym, ap, ◌∙◌, subst, arith, append_assoc, append-nil}
use Rattle.std.proofs.lemmas.Bool.{false≢true}
use Rattle.std.proofs.lemmas.List.Elements.{All-cons, All-contains, All-head, All-nil, All-tail}
use Rattle.evt_types.specs.Plan.{Plan, is_ordered, queue_of}
use Rattle.evt_types.specs.declared.event.Event.{Event}
use Rattle.evt_types.specs.declared.step.Step.{Step}
use Rattle.lists.proofs.Fronts.{All-tagged_at, front_or_rest, upto_apart, upto_rest}
use Rattle.lists.proofs.Lists.{All-has, has-more, upto-more, slice_get-drop}
use Rattle.lists.specs.Lists.{has, upto}
use Rattle.transcripts.proofs.Facts.{Facts, Facts-allowed, forwarded_is_given}
use Rattle.transcripts.proofs.Overdue.{late_of, late_ordered, settled_overdue}
use Rattle.transcripts.proofs.Pushes.{forwards-push, hand-push, sources-push, taken_in_is, taken-none}
use Rattle.transcripts.proofs.Whole.{Known-allowed, steps-Lawful}
use Rattle.transcripts.specs.Allowed.{Allowed, AllowedAfter, MayAcceptOf}
use Rattle.transcripts.specs.Lawful.{IsSettled}
use Rattle.transcripts.specs.Transcript.{forwards, hand, is_answered, kept_of, sources, taken, taken_in}
use Rattle.transcript_judge.specs.Fronts.{IsFront, PassesOver}

-- what is left of a list that grows
more_left : {X : Type 0} (k : ℕ) (xs ys zs : List X) (x : X) → drop k xs ≡ x ∷ ys → drop k (xs ++ zs) ≡ x ∷ (ys ++ zs)
more_left zero xs ys zs x is = ap (λ us. us ++ zs) is
more_left (suc k) [] ys zs x is = absurd (nothing is)
  where
    nothing : [] ≡ x ∷ ys → ⊥
    nothing e = cc
more_left (suc k) (u ∷ us) ys zs x is = more_left k us ys zs x is

-- the first of what is left
first_of : {X : Type 0} (xs : List X) → 0 < length xs → (x : X) × (ys : List X) × (xs ≡ x ∷ ys)
first_of [] h = absurd (omega arith)
first_of (x ∷ xs) h = (x, xs, refl)

or_left_false : (a b : Bool) → (a || b) ≡ true → a ≡ false → b ≡ true
or_left_false true b h is = absurd (false≢true (sym is))
or_left_false false b h is = h

-- what holds as far as n holds as far as a number before it
within_rest : (P : ℕ → Type 0) (m n : ℕ) (xs : List ℕ) (b : Bool) → (All P (upto n xs) → has m (upto n xs) ≡ true → All P (upto m xs))
    → All P (cond b [] (upto n xs)) → has m (cond b [] (upto n xs)) ≡ true → All P (upto m xs)
within_rest P m n xs true rest all h = absurd (false≢true h)
within_rest P m n xs false rest all h = rest all h

within_cond : (P : ℕ → Type 0) (xs : List ℕ) (b : Bool) → (b ≡ false → All P xs) → All P (cond b [] xs)
within_cond P xs true h = All-nil P
within_cond P xs false h = h refl

upto_within : (P : ℕ → Type 0) (m n : ℕ) (xs : List ℕ) → All P (upto n xs) → has m (upto n xs) ≡ true → All P (upto m xs)
upto_within P m n [] all h = all
upto_within P m n (x ∷ xs) all h =
    All-cons P x (cond (x == m) [] (upto m xs)) (All-head P x (cond (x == n) [] (upto n xs)) all)
    (within_cond P (upto m xs) (x == m)
    (λ other. within_rest P m n xs (x == n) (upto_within P m n xs) (All-tail P x (cond (x == n) [] (upto n xs)) all)
    (or_left_false (x == m) (has m (cond (x == n) [] (upto n xs))) h other)))

-- an event was accepted from n, which doesn't stand before m, and of m's something is kept
record Stuck (P : List Step) (q m n : ℕ) : Type 0 where
  pub source : has n (sources P q) ≡ true
  pub past : has n (upto m (hand P q)) ≡ false
  pub before : has m (upto n (hand P q)) ≡ true
  pub given_m : has m (hand P q) ≡ true
  pub given_n : has n (hand P q) ≡ true
  pub event : Event
  pub later : List Event
  pub kept : kept_of P q m ≡ event ∷ later

stuck_step : (p : Plan) (P : List Step) (s : Step) (q m n : ℕ) → is_ordered (queue_of p q).kind ≡ true → Allowed p P s → Stuck P q m n
    → Stuck (P ++ s ∷ []) q m n
stuck_step p P s q m n ordered may h = record {
  source = subst (λ ns. has n ns ≡ true) (sym (sources-push P q s)) (has-more n (sources P q) _ h.source);
  past = subst (λ ns. has n ns ≡ false) (sym (same_upto m h.given_m)) h.past;
  before = subst (λ ns. has m ns ≡ true) (sym (same_upto n h.given_n)) h.before;
  given_m = still m h.given_m;
  given_n = still n h.given_n;
  event = h.event;
  later = h.later ++ _;
  kept = ap (λ k. drop k (forwards (P ++ s ∷ []) q m)) (ap length (taken-none P q m s (untouched (taken_in q m s) refl))) ∙ (ap (drop (length (taken P q m))) (forwards-push P q m s) ∙ more_left (length (taken P q m)) (forwards P q m) h.later _ h.event h.kept);
}
  where
    same_upto : (k : ℕ) → has k (hand P q) ≡ true → upto k (hand (P ++ s ∷ []) q) ≡ upto k (hand P q)
    same_upto k given = ap (upto k) (hand-push P q s) ∙ upto-more k (hand P q) _ given

    still : (k : ℕ) → has k (hand P q) ≡ true → has k (hand (P ++ s ∷ []) q) ≡ true
    still k given = subst (λ ns. has k ns ≡ true) (sym (hand-push P q s)) (has-more k (hand P q) _ given)

    untouched : (o : Option Event) → taken_in q m s ≡ o → taken_in q m s ≡ None
    untouched None is = is
    untouched (Some e) is =
        let accept = taken_in_is q m s e is in
        let needs : MayAcceptOf p P e q m = (subst (Allowed p P) accept.1 may).needs in
        absurd (false≢true (sym h.past ∙ All-has (λ i. has i (upto m (hand P q)) ≡ true) n (sources P q) (needs.order ordered) h.source))

stuck_stays : (p : Plan) (U P : List Step) (q m n : ℕ) → is_ordered (queue_of p q).kind ≡ true → AllowedAfter p P U → Stuck P q m n
    → Stuck (P ++ U) q m n
stuck_stays p [] P q m n ordered all h = subst (λ T. Stuck T q m n) (sym (append-nil P)) h
stuck_stays p (s ∷ U) P q m n ordered all h =
    subst (λ T. Stuck T q m n) (append_assoc P (s ∷ []) U)
    (stuck_stays p U (P ++ s ∷ []) q m n ordered all.1 (stuck_step p P s q m n ordered all.0 h))

-- steps that are allowed one after another, in two parts
pub two_parts : (p : Plan) (past S T : List Step) → AllowedAfter p past (S ++ T) → AllowedAfter p past S × AllowedAfter p (past ++ S) T
two_parts p past [] T all = (tt, subst (λ P. AllowedAfter p P T) (sym (append-nil past)) all)
two_parts p past (s ∷ S) T all =
    let rest = two_parts p (past ++ s ∷ []) S T all.1 in
    ((all.0, rest.0), subst (λ P. AllowedAfter p P T) (append_assoc past (s ∷ []) S) rest.1)

-- and where it is settled, nothing is stuck
stuck_unsettled : (p : Plan) (T : List Step) (q m n : ℕ) → is_ordered (queue_of p q).kind ≡ true → AllowedAfter p [] T → IsSettled p T → ¬ Stuck T q m n
stuck_unsettled p T q m n ordered all settled h =
    let order = (Known-allowed p T all).order.ordered q ordered in
    let answered : All (λ k. is_answered T q k ≡ true) (upto n (hand T q)) =
    All-has (λ k. All (λ j. is_answered T q j ≡ true) (upto k (hand T q))) n (sources T q) order.answered h.source in
    let here : All (λ k. is_answered T q k ≡ true) (upto m (hand T q)) = upto_within (λ k. is_answered T q k ≡ true) m n (hand T q) answered h.before in
    let late : has m (late_of p T q) ≡ true =
    subst (λ ns. has m ns ≡ true) (sym (late_ordered p T q ordered))
    (⊎_elim (λ front. front)
    (λ rest. let waits = upto_rest (is_answered T q) m (hand T q) ((Facts-allowed p T all).once q) rest in
    absurd (false≢true (sym waits.2 ∙ All-contains (λ k. is_answered T q k ≡ true) (upto m (hand T q)) waits.0 here waits.1)))
    (front_or_rest (is_answered T q) m (hand T q) h.given_m)) in
    All-tagged_at (λ x. ⊥) (kept_of T q) (late_of p T q) m h.event h.later
    (subst (All (λ x. ⊥)) (sym (settled_overdue p T settled q)) (All-nil (λ x. ⊥))) late h.kept

pub passed_over_ends : (p : Plan) (T : List Step) → PassesOver p T → ¬ IsFront p T
passed_over_ends p T over f =
    let steps = steps-Lawful p (T ++ f.0) f.1 in
    let parts = two_parts p [] T f.0 steps.steps in
    let facts : Facts p T = Facts-allowed p T parts.0 in
    let first = first_of (kept_of T over.queue over.m) over.kept in
    let stuck : Stuck T over.queue over.m over.n = record {
      source = over.accepted;
      past = upto_apart over.m over.n (hand T over.queue) over.apart over.before;
      before = over.before;
      given_m = forwarded_is_given p T over.queue over.m (length (taken T over.queue over.m)) first.0 facts
          (slice_get-drop (forwards T over.queue over.m) (length (taken T over.queue over.m)) first.0 first.1 first.2);
      given_n = All-has (λ k. has k (hand T over.queue) ≡ true) over.n (sources T over.queue) (facts.sources over.queue) over.accepted;
      event = first.0;
      later = first.1;
      kept = first.2;
    } in
    stuck_unsettled p (T ++ f.0) over.queue over.m over.n over.ordered steps.steps steps.end (stuck_stays p f.0 T over.queue over.m over.n over.ordered parts.1 stuck)
