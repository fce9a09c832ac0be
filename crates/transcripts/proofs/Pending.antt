-- The events that an answer or an addition leaves to accept: each may be accepted after those before it, and then nothing is overdue.
use Rattle.std.proofs.Common.{◌≡◌, ◌≢◌, ℕ, ◌<◌, ◌≤◌, true, false, List, [], ◌∷◌, ◌++◌, length, map, take_while, get_or, All, Some, None, ⊎_elim, refl, sym, ap, ◌∙◌, subst, arith, append_assoc, append-nil}
use Rattle.std.proofs.lemmas.Bool.{cases_eq, false≢true}
use Rattle.std.proofs.lemmas.List.Elements.{All-nil, All-head, All-tail, All-push, All-weaker, All-drop}
use Rattle.evt_types.specs.Plan.{Plan, queue_of, is_atomic, is_ordered}
use Rattle.lists.specs.Lists.{has}
use Rattle.transcripts.specs.Transcript.{accepted_in, event_at, source_in, next_pair, is_answered, forwards, hand, taken, sources, kept_of, open_of}
use Rattle.lists.specs.Lists.{upto, from_first}
use Rattle.transcripts.specs.Lawful.{IsSettled, keeps_some, keeps_with}
use Rattle.transcripts.specs.Allowed.{Allowed, AllowedAfter}
use Rattle.transcripts.specs.Standing.{view_of, after, events_of}
use Rattle.evt_types.specs.declared.event.Event.{Event}
use Rattle.evt_types.specs.declared.step.Outcome.{Outcome}
use Rattle.evt_types.specs.declared.step.Outcome.TheVariants.{Forwarded, Released}
use Rattle.evt_types.specs.declared.step.Source.TheVariants.{Of}
use Rattle.evt_types.specs.declared.step.Step.{Step}
use Rattle.evt_types.specs.declared.step.Step.TheVariants.{Done, More}
use Rattle.transcripts.proofs.AddedPlaces.{more_overdue_other, more_overdue_plain, more_overdue_ordered}
use Rattle.transcripts.proofs.AnsweredPlaces.{IsForward, forwards_formed, accept_from, done_overdue_other, done_overdue_plain, done_overdue_ordered}
use Rattle.transcripts.proofs.Facts.{Facts, Facts-allowed, AllowedAfter-push, next_pair-queue}
use Rattle.lists.proofs.Lists.{slice_get-drop, upto-more}
use Rattle.lists.proofs.Fronts.{tag, First, front_and_rest, front_or_rest, front_upto, has_each, has_front, upto_front, tagged_first, All-tag, All-tagged, All-tagged_items}
use Rattle.transcripts.proofs.Overdue.{late_of, overdue, late_ordered, late_once, overdue_settled, overdue_accept, overdue_accept_other, open_untaken}
use Rattle.transcripts.proofs.Pushes.{source_in-same, hand-none, sources-some, sources-none, event_at-none}
use Rattle.transcripts.proofs.Rising.{kind_is_one, next_rises}
use Rattle.transcripts.proofs.Whole.{Known-allowed}
use Rattle.transcripts.proofs.WholeViews.{view_accept}

-- what the number is passed on as comes after what was accepted
abbrev Follows : List Step → ℕ → ℕ → Type 0
Follows P q n = All (λ m. has m (upto n (hand P q)) ≡ true) (sources P q)

abbrev RisesTo : Plan → List Step → ℕ → ℕ → Type 0
RisesTo p P q n = All (λ m. keeps_with p P q m n ≡ true → m ≤ n) (sources P q)

-- The queue's overdue events, and no others, are left to accept.
pub record Pending (p : Plan) (P : List Step) (q : ℕ) : Type 0 where
  pub allowed : AllowedAfter p [] P
  pub there : q < length p.queues
  pub others : (r : ℕ) → r ≢ q → overdue p P r ≡ []
  pub forms : All (λ (y : ℕ × Event). IsForward p y.1) (overdue p P q)
  pub follows : is_ordered (queue_of p q).kind ≡ true
      → All (λ (y : ℕ × Event). All (λ m. has m (upto y.0 (hand P q)) ≡ true) (sources P q)) (overdue p P q)
  pub rises : is_atomic (queue_of p q).kind ≡ true
      → All (λ (y : ℕ × Event). All (λ m. keeps_with p P q m y.0 ≡ true → m ≤ y.0) (sources P q)) (overdue p P q)
  pub one : is_ordered (queue_of p q).kind ≡ false → length (overdue p P q) ≤ 1

facts_at : (p : Plan) (P : List Step) → AllowedAfter p [] P → Facts p P
facts_at p P all = Facts-allowed p P all

pub first_of_overdue : (p : Plan) (P : List Step) (q : ℕ) (x : ℕ × Event) (rest : List (ℕ × Event)) → AllowedAfter p [] P → overdue p P q ≡ x ∷ rest
    → First (kept_of P q) (late_of p P q) x rest
first_of_overdue p P q x rest all e = tagged_first (kept_of P q) (late_of p P q) x rest (late_once p P q ((facts_at p P all).once q)) e

-- the first may be accepted
pub pending_first : (p : Plan) (P : List Step) (q : ℕ) (x : ℕ × Event) (rest : List (ℕ × Event)) → Pending p P q → overdue p P q ≡ x ∷ rest
    → Allowed p P (accept_from q x)
pending_first p P q x rest h e = record {
  formed = record { entry = record { queue = form.0; named = refl }; operation = form.1; source = h.there };
  prompt = λ k. absurd (false≢true (sym k));
  needs = record {
    origin = slice_get-drop (forwards P q x.0) (length (taken P q x.0)) x.1 first.later first.first;
    order = λ ordered. All-head (λ (y : ℕ × Event). Follows P q y.0) x rest (subst (All (λ (y : ℕ × Event). Follows P q y.0)) e (h.follows ordered));
    answered =
        λ ordered. upto_front (is_answered P q) x.0 (hand P q) (subst (λ ns. has x.0 ns ≡ true) (late_ordered p P q ordered) first.in_list);
    rises = λ atomic. All-head (λ (y : ℕ × Event). RisesTo p P q y.0) x rest (subst (All (λ (y : ℕ × Event). RisesTo p P q y.0)) e (h.rises atomic));
  };
}
  where
    first : First (kept_of P q) (late_of p P q) x rest
    first = first_of_overdue p P q x rest h.allowed e

    form : IsForward p x.1
    form = All-head (λ (y : ℕ × Event). IsForward p y.1) x rest (subst (All (λ (y : ℕ × Event). IsForward p y.1)) e h.forms)

no_more : {X : Type 0} (xs : List X) → length xs ≤ 0 → xs ≡ []
no_more [] le = refl
no_more (x ∷ xs) le = absurd (omega arith)

-- and leaves the others
pub pending_next : (p : Plan) (P : List Step) (q : ℕ) (x : ℕ × Event) (rest : List (ℕ × Event)) → Pending p P q → overdue p P q ≡ x ∷ rest
    → Pending p (P ++ accept_from q x ∷ []) q × (overdue p (P ++ accept_from q x ∷ []) q ≡ rest)
pending_next p P q x rest h e = (
  record {
    allowed = AllowedAfter-push p [] P s h.allowed (pending_first p P q x rest h e);
    there = h.there;
    others = λ r differs. overdue_accept_other p P q (x.1).queue r x.0 x.1 differs ∙ h.others r differs;
    forms = subst (All (λ (y : ℕ × Event). IsForward p y.1)) (sym left)
        (All-tail (λ (y : ℕ × Event). IsForward p y.1) x rest (subst (All (λ (y : ℕ × Event). IsForward p y.1)) e h.forms));
    follows = λ ordered. subst (All (λ (y : ℕ × Event). Follows T q y.0)) (sym left)
        (λ k d lt. item ordered (get_or rest k d) (in_late k d lt) (first.follow k d lt)
        (All-tail (λ (y : ℕ × Event). Follows P q y.0) x rest (subst (All (λ (y : ℕ × Event). Follows P q y.0)) e (h.follows ordered)) k d lt));
    rises = λ atomic. subst (All (λ (y : ℕ × Event). RisesTo p T q y.0)) (sym (left ∙ none_left (kind_is_one (queue_of p q).kind atomic)))
        (All-nil (λ (y : ℕ × Event). RisesTo p T q y.0));
    one = λ plain. subst (λ (ys : List (ℕ × Event)). length ys ≤ 1) (sym left) (omega (arith, few plain));
  },
  left,
)
  where
    s : Step
    s = accept_from q x

    T : List Step
    T = P ++ s ∷ []

    first : First (kept_of P q) (late_of p P q) x rest
    first = first_of_overdue p P q x rest h.allowed e

    left : overdue p T q ≡ rest
    left = overdue_accept p P q (x.1).queue x rest first

    few : is_ordered (queue_of p q).kind ≡ false → length (x ∷ rest) ≤ 1
    few plain = subst (λ (ys : List (ℕ × Event)). length ys ≤ 1) e (h.one plain)

    none_left : is_ordered (queue_of p q).kind ≡ false → rest ≡ []
    none_left plain = no_more rest (omega (arith, few plain))

    in_late : All (λ (y : ℕ × Event). has y.0 (late_of p P q) ≡ true) rest
    in_late =
        All-tail (λ (y : ℕ × Event). has y.0 (late_of p P q) ≡ true) x rest
        (subst (All (λ (y : ℕ × Event). has y.0 (late_of p P q) ≡ true)) e
        (All-tagged (λ n. has n (late_of p P q) ≡ true) (kept_of P q) (late_of p P q) (has_each (late_of p P q))))

    front : List ℕ
    front = take_while (is_answered P q) (hand P q)

    same_upto : (n : ℕ) → has n front ≡ true → upto n front ≡ upto n (hand P q)
    same_upto n in' = sym (upto-more n front (from_first (is_answered P q) (hand P q)) in') ∙ ap (upto n)
        (front_and_rest (is_answered P q) (hand P q))

    item : is_ordered (queue_of p q).kind ≡ true → (y : ℕ × Event) → has y.0 (late_of p P q) ≡ true → has x.0 (upto y.0 (late_of p P q)) ≡ true
        → Follows P q y.0 → Follows T q y.0
    item ordered y in' before old =
        let late = late_ordered p P q ordered in
        let last : has x.0 (upto y.0 (hand P q)) ≡ true =
        subst (λ ns. has x.0 ns ≡ true) (ap (upto y.0) late ∙ same_upto y.0 (subst (λ ns. has y.0 ns ≡ true) late in')) before in
        subst (λ hs. All (λ m. has m (upto y.0 hs) ≡ true) (sources T q)) (sym (hand-none P q s refl))
        (subst (All (λ m. has m (upto y.0 (hand P q)) ≡ true)) (sym (sources-some P q s x.0 (source_in-same (x.1).queue q x.0 x.1)))
        (All-push (λ m. has m (upto y.0 (hand P q)) ≡ true) (sources P q) x.0 old last))

-- ---- all of them

-- the steps are allowed one after another, they leave the transcript settled, and the view goes along
pub record Settles (p : Plan) (P S : List Step) : Type 0 where
  pub allowed : AllowedAfter p [] (P ++ S)
  pub settled : IsSettled p (P ++ S)
  pub view : after (view_of p P) S ≡ view_of p (P ++ S)

pub pending_all : (p : Plan) (q : ℕ) (xs : List (ℕ × Event)) (P : List Step) → Pending p P q → overdue p P q ≡ xs
    → Settles p P (map (accept_from q) xs)
pending_all p q [] P h e = record {
  allowed = subst (AllowedAfter p []) (sym (append-nil P)) h.allowed;
  settled = subst (IsSettled p) (sym (append-nil P)) (overdue_settled p P (facts_at p P h.allowed).once
      (λ r. ⊎_elim (λ same. ap (overdue p P) same ∙ e) (λ differs. h.others r differs) (cases_eq r q)));
  view = ap (view_of p) (sym (append-nil P));
}
pending_all p q (x ∷ rest) P h e =
    let s : Step = accept_from q x in
    let next = pending_next p P q x rest h e in
    let more : Settles p (P ++ s ∷ []) (map (accept_from q) rest) = pending_all p q rest (P ++ s ∷ []) next.0 next.1 in
    let form : IsForward p x.1 = All-head (λ (y : ℕ × Event). IsForward p y.1) x rest (subst (All (λ (y : ℕ × Event). IsForward p y.1)) e h.forms) in
    let same : (P ++ s ∷ []) ++ map (accept_from q) rest ≡ P ++ map (accept_from q) (x ∷ rest) = append_assoc P (s ∷ []) (map (accept_from q) rest) in
    record {
      allowed = subst (AllowedAfter p []) same more.allowed;
      settled = subst (IsSettled p) same more.settled;
      view = ap (λ u. after u (map (accept_from q) rest)) (sym (view_accept p P (x.1).queue x.1 (Of q x.0) (facts_at p P h.allowed) form.0)) ∙
          (more.view ∙ ap (view_of p) same);
    }

-- a step that accepts nothing leaves what was accepted in its order
rises_stays : (p : Plan) (P : List Step) (s : Step) (q n : ℕ) → source_in q s ≡ None → accepted_in q s ≡ None → RisesTo p P q n
    → RisesTo p (P ++ s ∷ []) q n
rises_stays p P s q n no_source no_accept rises =
    subst (All (λ m. keeps_with p (P ++ s ∷ []) q m n ≡ true → m ≤ n)) (sym (sources-none P q s no_source))
    (All-weaker (λ m. keeps_with p P q m n ≡ true → m ≤ n) (λ m. keeps_with p (P ++ s ∷ []) q m n ≡ true → m ≤ n)
    (λ m low keeps. low (sym (same_keeps m) ∙ keeps)) (sources P q) rises)
  where
    same_keeps : (m : ℕ) → keeps_with p (P ++ s ∷ []) q m n ≡ keeps_with p P q m n
    same_keeps m =
        ap (λ a. keeps_some p q a (event_at (P ++ s ∷ []) q n)) (event_at-none P q m s no_accept)
        ∙ ap (keeps_some p q (event_at P q m)) (event_at-none P q n s no_accept)

-- ---- after an answer

length_events : (n : ℕ) (o : Outcome) → length (tag n (events_of o)) ≤ 1
length_events n (Forwarded e) = omega arith
length_events n Released = omega arith

pub answered_pending : (p : Plan) (P : List Step) (l : ℕ) (o : Outcome) (x : ℕ × ℕ) → AllowedAfter p [] P → IsSettled p P → next_pair P l ≡ Some x
    → Allowed p P (Done l o)
    → Pending p (P ++ Done l o ∷ []) x.0
unfolding open_of
answered_pending p P l o x all settled next may = record {
  allowed = after_it;
  there = next_pair-queue p P l x f next;
  others = λ r differs. done_overdue_other p P l o x r settled next (λ e. differs (sym e));
  forms = All-tagged_items (IsForward p) (kept_of T q) (late_of p T q)
      (λ n. All-drop (IsForward p) (length (taken T q n)) (forwards T q n) (forwards_formed p T after_it q n));
  follows = λ ordered. subst (All (λ (y : ℕ × Event). Follows T q y.0)) (sym (done_overdue_ordered p P l o x all settled next ordered))
      (All-tagged (Follows T q) (forwards T q) leaves (each_follows ordered));
  rises = λ atomic. subst (All (λ (y : ℕ × Event). RisesTo p T q y.0))
      (sym (done_overdue_plain p P l o x all settled next (kind_is_one (queue_of p q).kind atomic)))
      (All-tag (RisesTo p T q) x.1 (events_of o) (rises_now atomic));
  one = λ plain. subst (λ (ys : List (ℕ × Event)). length ys ≤ 1) (sym (done_overdue_plain p P l o x all settled next plain)) (length_events x.1 o);
}
  where
    q : ℕ
    q = x.0

    s : Step
    s = Done l o

    T : List Step
    T = P ++ s ∷ []

    f : Facts p P
    f = facts_at p P all

    after_it : AllowedAfter p [] T
    after_it = AllowedAfter-push p [] P s all may

    left : List ℕ
    left = from_first (is_answered P q) (hand P q)

    leaves : List ℕ
    leaves = take_while (is_answered T q) left

    -- a number from which an event was accepted stands before the open ones
    before_open : is_ordered (queue_of p q).kind ≡ true → (m n : ℕ) → has m (sources P q) ≡ true → has n left ≡ true → has m (hand P q) ≡ true
        → has m (upto n (hand P q)) ≡ true
    before_open ordered m n source in' m_in =
        ⊎_elim (λ front. front_upto (is_answered P q) m n (hand P q) (f.once q) front in')
        (λ rest. absurd (false≢true (sym (open_untaken P q m (f.once q) ((Known-allowed p P all).order.ordered q ordered) rest) ∙ source)))
        (front_or_rest (is_answered P q) m (hand P q) m_in)

    follows_now : is_ordered (queue_of p q).kind ≡ true → (n : ℕ) → has n leaves ≡ true → Follows T q n
    follows_now ordered n in' =
        subst (λ hs. All (λ m. has m (upto n hs) ≡ true) (sources T q)) (sym (hand-none P q s refl))
        (subst (All (λ m. has m (upto n (hand P q)) ≡ true)) (sym (sources-none P q s refl))
        (λ k d lt. before_open ordered (get_or (sources P q) k d) n (has_each (sources P q) k d lt) (has_front (is_answered T q) n left in')
        (f.sources q k d lt)))

    each_follows : is_ordered (queue_of p q).kind ≡ true → All (Follows T q) leaves
    each_follows ordered = All-weaker (λ n. has n leaves ≡ true) (Follows T q) (λ n in'. follows_now ordered n in') leaves (has_each leaves)

    rises_now : is_atomic (queue_of p q).kind ≡ true → RisesTo p T q x.1
    rises_now atomic = rises_stays p P s q x.1 refl refl (next_rises p P l x all next atomic)

-- ---- after an addition

pub added_pending : (p : Plan) (P : List Step) (l : ℕ) (e : Event) (x : ℕ × ℕ) → AllowedAfter p [] P → IsSettled p P → next_pair P l ≡ Some x
    → Allowed p P (More l e) → Pending p (P ++ More l e ∷ []) x.0
added_pending p P l e x all settled next may = record {
  allowed = after_it;
  there = next_pair-queue p P l x (facts_at p P all) next;
  others = λ r differs. more_overdue_other p P l e x r settled next (λ same. differs (sym same));
  forms = All-tagged_items (IsForward p) (kept_of T q) (late_of p T q)
      (λ n. All-drop (IsForward p) (length (taken T q n)) (forwards T q n) (forwards_formed p T after_it q n));
  follows = λ ordered. subst (All (λ (y : ℕ × Event). Follows T q y.0)) (sym (more_overdue_ordered p P l e x all settled next ordered))
      (All-nil (λ (y : ℕ × Event). Follows T q y.0));
  rises = λ atomic. subst (All (λ (y : ℕ × Event). RisesTo p T q y.0))
      (sym (more_overdue_plain p P l e x all settled next (kind_is_one (queue_of p q).kind atomic)))
      (All-tag (RisesTo p T q) x.1 (e ∷ []) (rises_now atomic));
  one = λ plain. subst (λ (ys : List (ℕ × Event)). length ys ≤ 1) (sym (more_overdue_plain p P l e x all settled next plain)) (omega arith);
}
  where
    q : ℕ
    q = x.0

    s : Step
    s = More l e

    T : List Step
    T = P ++ s ∷ []

    after_it : AllowedAfter p [] T
    after_it = AllowedAfter-push p [] P s all may

    rises_now : is_atomic (queue_of p q).kind ≡ true → RisesTo p T q x.1
    rises_now atomic = rises_stays p P s q x.1 refl refl (next_rises p P l x all next atomic)
