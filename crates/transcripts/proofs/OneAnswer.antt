-- The steps of a reply are one list alone: after an answer or an addition what is overdue is accepted, in its order, and nothing else.
use Rattle.std.proofs.Common.{◌≡◌, ◌≢◌, ℕ, ◌≤◌, true, false, List, [], ◌∷◌, ◌++◌, length, map, take_while, All, Some, ◌⊎◌, inl, inr, ⊎_elim, refl, sym, ap, ◌∙◌, subst, arith, append_assoc, append-nil}
use Rattle.std.proofs.lemmas.Bool.{cases_Bool, cases_eq, false≢true, false_from_ne_true}
use Rattle.std.proofs.lemmas.List.Elements.{All-nil, All-cons, All-head, All-tail, All-weaker, All-contains}
use Rattle.std.proofs.lemmas.Option.{same_Some}
use Rattle.evt_types.specs.Plan.{Plan, queue_of, is_ordered}
use Rattle.evt_types.specs.declared.event.Event.{Event}
use Rattle.evt_types.specs.declared.event.Op.{Op}
use Rattle.evt_types.specs.declared.event.Op.TheVariants as ops
use Rattle.evt_types.specs.declared.step.Outcome.{Outcome}
use Rattle.evt_types.specs.declared.step.Outcome.TheVariants.{Forwarded, Released}
use Rattle.evt_types.specs.declared.step.Source.TheVariants.{New, Of}
use Rattle.evt_types.specs.declared.step.Step.{Step}
use Rattle.evt_types.specs.declared.step.Step.TheVariants.{Accept, Give, Done, More, Turned, Bounced, Shut}
use Rattle.lists.specs.Lists.{has, upto, from_first}
use Rattle.lists.proofs.Fronts.{First, front_and_rest, front_or_rest, upto_apart, upto_rest, All-tagged_at}
use Rattle.lists.proofs.Lists.{All-has, drop-slice_get, has-last, has-more, upto-more}
use Rattle.transcripts.specs.Allowed.{Allowed, AllowedAfter, MayAcceptOf}
use Rattle.transcripts.specs.Lawful.{Lawful, IsSettled}
use Rattle.transcripts.specs.Standing.{AreLed, AreStepsBy, AreStepsOf}
use Rattle.transcripts.specs.Transcript.{forwards, hand, is_answered, is_from_of, is_pair, kept_of, next_pair, source_in, sources, taken}
use Rattle.transcripts.proofs.AnsweredPlaces.{accept_from}
use Rattle.transcripts.proofs.Facts.{Facts, Facts-allowed, forwarded_is_given}
use Rattle.transcripts.proofs.Overdue.{late_of, overdue, late_ordered, late_plain, late_stays, settled_overdue}
use Rattle.transcripts.proofs.Pending.{Pending, pending_next, answered_pending, added_pending, first_of_overdue}
use Rattle.transcripts.proofs.Pushes.{hand-none, is_answered-none, is_pair_is, is_pair-number, kept_of-none, next_pair-some, source_in-same, sources-push, sources-some, taken_in-other}
use Rattle.transcripts.proofs.Whole.{steps-Lawful}

nil_cons : {X : Type 0} (x : X) (xs : List X) → [] ≡ x ∷ xs → ⊥
nil_cons x xs e = cc

heads : {X : Type 0} (x y : X) (xs ys : List X) → x ∷ xs ≡ y ∷ ys → x ≡ y
heads x y xs ys e = cc

-- steps that are allowed one after another, in two parts
AllowedAfter-split : (p : Plan) (past S T : List Step) → AllowedAfter p past (S ++ T) → AllowedAfter p past S × AllowedAfter p (past ++ S) T
AllowedAfter-split p past [] T all = (tt, subst (λ P. AllowedAfter p P T) (sym (append-nil past)) all)
AllowedAfter-split p past (s ∷ S) T all =
    let rest = AllowedAfter-split p (past ++ s ∷ []) S T all.1 in
    ((all.0, rest.0), subst (λ P. AllowedAfter p P T) (append_assoc past (s ∷ []) S) rest.1)

-- ---- what is due

-- The number's next kept event waits for no answer.
record Due (p : Plan) (P : List Step) (q n : ℕ) (e : Event) : Type 0 where
  pub late : has n (late_of p P q) ≡ true
  pub later : List Event
  pub kept : kept_of P q n ≡ e ∷ later

-- it is among the overdue events
All-due : (p : Plan) (P : List Step) (q n : ℕ) (e : Event) (A : ℕ × Event → Type 0) → Due p P q n e → All A (overdue p P q) → A (n, e)
All-due p P q n e A due all = All-tagged_at A (kept_of P q) (late_of p P q) n e due.later all due.late due.kept

none_due : (p : Plan) (P : List Step) (q n : ℕ) (e : Event) → overdue p P q ≡ [] → Due p P q n e → ⊥
none_due p P q n e none due = All-due p P q n e (λ x. ⊥) due (subst (All (λ x. ⊥)) (sym none) (All-nil (λ x. ⊥)))

-- What may be accepted is due.
may_is_due : (p : Plan) (P : List Step) (q n : ℕ) (e : Event) → Facts p P → MayAcceptOf p P e q n → Due p P q n e
may_is_due p P q n e f may = record {
  late = by_kind (cases_Bool (is_ordered (queue_of p q).kind));
  later = _;
  kept = drop-slice_get (forwards P q n) (length (taken P q n)) e may.origin;
}
  where
    given : has n (hand P q) ≡ true
    given = forwarded_is_given p P q n (length (taken P q n)) e f may.origin

    not_open : is_ordered (queue_of p q).kind ≡ true → has n (from_first (is_answered P q) (hand P q)) ≡ true → ⊥
    not_open ordered rest =
        let waits = upto_rest (is_answered P q) n (hand P q) (f.once q) rest in
        false≢true (sym waits.2 ∙ All-contains (λ m. is_answered P q m ≡ true) (upto n (hand P q)) waits.0 (may.answered ordered) waits.1)

    by_kind : (is_ordered (queue_of p q).kind ≡ true) ⊎ (is_ordered (queue_of p q).kind ≡ false) → has n (late_of p P q) ≡ true
    by_kind (inl ordered) =
        subst (λ ns. has n ns ≡ true) (sym (late_ordered p P q ordered))
        (⊎_elim (λ front. front) (λ rest. absurd (not_open ordered rest)) (front_or_rest (is_answered P q) n (hand P q) given))
    by_kind (inr plain) = subst (λ ns. has n ns ≡ true) (sym (late_plain p P q plain)) given

-- ---- an Accept of what was passed on

record FromOf (s : Step) : Type 0 where
  pub into : ℕ
  pub event : Event
  pub queue : ℕ
  pub number : ℕ
  pub is : s ≡ Accept into event (Of queue number)

from_of_is : (s : Step) → is_from_of s ≡ true → FromOf s
from_of_is (Accept r e (Of q n)) h = record { into = r; event = e; queue = q; number = n; is = refl }
from_of_is s h = absurd (false≢true h)

-- ---- a number that was passed over

-- An Accept from another number leaves what is due.
due_stays : (p : Plan) (P : List Step) (q n r k j : ℕ) (e d : Event) → is_pair q n (k, j) ≡ false → Due p P q n e
    → Due p (P ++ Accept r d (Of k j) ∷ []) q n e
due_stays p P q n r k j e d other due = record {
  late = subst (λ ns. has n ns ≡ true) (sym (late_stays p P q s refl (λ m. is_answered-none P q m s refl))) due.late;
  later = due.later;
  kept = kept_of-none P q n s refl (taken_in-other r k j q n d other) ∙ due.kept;
}
  where
    s : Step
    s = Accept r d (Of k j)

-- An event was accepted from m, which the hand-out as far as n doesn't have.
record Passed (P : List Step) (q n m : ℕ) : Type 0 where
  pub source : has m (sources P q) ≡ true
  pub past : has m (upto n (hand P q)) ≡ false

-- So none is accepted from n any more.
passed_step : (p : Plan) (P : List Step) (s : Step) (q n m : ℕ) (e : Event) → is_ordered (queue_of p q).kind ≡ true → FromOf s → Allowed p P s
    → Passed P q n m → Due p P q n e → Passed (P ++ s ∷ []) q n m × Due p (P ++ s ∷ []) q n e
passed_step p P s q n m e ordered from may passed due =
    subst (λ t. Passed (P ++ t ∷ []) q n m × Due p (P ++ t ∷ []) q n e) (sym from.is) (
      record {
        source = subst (λ ns. has m ns ≡ true) (sym (sources-push P q t)) (has-more m (sources P q) _ passed.source);
        past = subst (λ ns. has m (upto n ns) ≡ false) (sym (hand-none P q t refl)) passed.past;
      },
      due_stays p P q n from.into from.queue from.number e from.event (false_from_ne_true (is_pair q n (from.queue, from.number)) same_pair) due,
    )
  where
    t : Step
    t = Accept from.into from.event (Of from.queue from.number)

    needs : MayAcceptOf p P from.event from.queue from.number
    needs = (subst (Allowed p P) from.is may).needs

    same_pair : is_pair q n (from.queue, from.number) ≡ true → ⊥
    same_pair same =
        let parts = is_pair_is q n (from.queue, from.number) same in
        let order : All (λ i. has i (upto n (hand P q)) ≡ true) (sources P q) =
        subst (λ a. All (λ i. has i (upto a (hand P q)) ≡ true) (sources P q)) parts.1
        (subst (λ a. is_ordered (queue_of p a).kind ≡ true → All (λ i. has i (upto from.number (hand P a)) ≡ true) (sources P a)) parts.0
        needs.order ordered) in
        false≢true (sym passed.past ∙ All-has (λ i. has i (upto n (hand P q)) ≡ true) m (sources P q) order passed.source)

passed_stays : (p : Plan) (S P : List Step) (q n m : ℕ) (e : Event) → is_ordered (queue_of p q).kind ≡ true → All (λ s. is_from_of s ≡ true) S
    → AllowedAfter p P S → Passed P q n m → Due p P q n e → Due p (P ++ S) q n e
passed_stays p [] P q n m e ordered from all passed due = subst (λ T. Due p T q n e) (sym (append-nil P)) due
passed_stays p (s ∷ S) P q n m e ordered from all passed due =
    let next = passed_step p P s q n m e ordered (from_of_is s (All-head (λ t. is_from_of t ≡ true) s S from)) all.0 passed due in
    subst (λ T. Due p T q n e) (append_assoc P (s ∷ []) S)
    (passed_stays p S (P ++ s ∷ []) q n m e ordered (All-tail (λ t. is_from_of t ≡ true) s S from) all.1 next.0 next.1)

-- ---- the one list

-- Where the steps to come leave nothing due, the first overdue event is accepted first.
first_is_taken : (p : Plan) (P S : List Step) (q r n k : ℕ) (d : Event) (x : ℕ × Event) (rest : List (ℕ × Event)) → Pending p P q
    → overdue p P q ≡ x ∷ rest → Allowed p P (Accept r d (Of k n)) → All (λ s. is_from_of s ≡ true) S
    → AllowedAfter p (P ++ Accept r d (Of k n) ∷ []) S → IsSettled p ((P ++ Accept r d (Of k n) ∷ []) ++ S)
    → Accept r d (Of k n) ≡ accept_from q x
first_is_taken p P S q r n k d x rest h e may from all end =
    ⊎_elim of_queue (λ differs. absurd (none_due p P k n d (h.others k differs) due)) (cases_eq k q)
  where
    s : Step
    s = Accept r d (Of k n)

    f : Facts p P
    f = Facts-allowed p P h.allowed

    due : Due p P k n d
    due = may_is_due p P k n d f may.needs

    first : First (kept_of P q) (late_of p P q) x rest
    first = first_of_overdue p P q x rest h.allowed e

    front : List ℕ
    front = take_while (is_answered P q) (hand P q)

    -- what holds of the first overdue event and of those that follow holds of this one
    All-first : (A : ℕ × Event → Type 0) → k ≡ q → A x → All A rest → A (n, d)
    All-first A same here later =
        All-due p P q n d A (subst (λ a. Due p P a n d) same due) (subst (All A) (sym e) (All-cons A x rest here later))

    -- of an ordered queue: past another number the first could not be accepted any more
    in_order : k ≡ q → n ≢ x.0 → is_ordered (queue_of p q).kind ≡ true → ⊥
    in_order same differs ordered =
        let late = late_ordered p P q ordered in
        let follows : (n ≡ x.0) ⊎ (has x.0 (upto n (late_of p P q)) ≡ true) =
        All-first (λ y. (y.0 ≡ x.0) ⊎ (has x.0 (upto y.0 (late_of p P q)) ≡ true)) same (inl refl)
        (All-weaker (λ (y : ℕ × Event). has x.0 (upto y.0 (late_of p P q)) ≡ true) (λ y. (y.0 ≡ x.0) ⊎ (has x.0 (upto y.0 (late_of p P q)) ≡ true))
        (λ y b. inr b) rest first.follow) in
        let before : has x.0 (upto n (late_of p P q)) ≡ true = ⊎_elim (λ is. absurd (differs is)) (λ b. b) follows in
        let in_front : has n front ≡ true = subst (λ ns. has n ns ≡ true) (ap (late_of p P) same ∙ late) due.late in
        let same_upto : upto n front ≡ upto n (hand P q) =
        sym (upto-more n front (from_first (is_answered P q) (hand P q)) in_front) ∙ ap (upto n) (front_and_rest (is_answered P q) (hand P q)) in
        let past : has n (upto x.0 (hand P q)) ≡ false =
        upto_apart x.0 n (hand P q) (λ is. differs (sym is)) (subst (λ ns. has x.0 ns ≡ true) (ap (upto n) late ∙ same_upto) before) in
        let passed : Passed (P ++ s ∷ []) q x.0 n = record {
          source = subst (λ ns. has n ns ≡ true) (sym (sources-some P q s n (ap (λ a. source_in q (Accept r d (Of a n))) same ∙ source_in-same r q n d)))
              (has-last (sources P q) n);
          past = subst (λ ns. has n (upto x.0 ns) ≡ false) (sym (hand-none P q s refl)) past;
        } in
        let left : Due p (P ++ s ∷ []) q x.0 x.1 =
        due_stays p P q x.0 r k n x.1 d (is_pair-number q x.0 (k, n) differs)
        (record { late = first.in_list; later = first.later; kept = first.first }) in
        none_due p ((P ++ s ∷ []) ++ S) q x.0 x.1 (settled_overdue p ((P ++ s ∷ []) ++ S) end q)
        (passed_stays p S (P ++ s ∷ []) q x.0 n x.1 ordered from all passed left)

    -- of another queue one event alone is overdue
    alone : k ≡ q → is_ordered (queue_of p q).kind ≡ false → n ≡ x.0
    alone same plain =
        let few : length (x ∷ rest) ≤ 1 = subst (λ (ys : List (ℕ × Event)). length ys ≤ 1) e (h.one plain) in
        All-first (λ y. y.0 ≡ x.0) same refl (λ i z lt. absurd (omega arith))

    number_is : k ≡ q → n ≡ x.0
    number_is same =
        ⊎_elim (λ ordered. ⊎_elim (λ is. is) (λ differs. absurd (in_order same differs ordered)) (cases_eq n x.0)) (alone same)
        (cases_Bool (is_ordered (queue_of p q).kind))

    of_queue : k ≡ q → s ≡ accept_from q x
    of_queue same =
        let is : n ≡ x.0 = number_is same in
        let event : d ≡ x.1 = heads d x.1 due.later first.later
        (sym due.kept ∙ (ap (λ a. kept_of P a n) same ∙ (ap (kept_of P q) is ∙ first.first))) in
        ap (λ a. Accept a d (Of k n)) (sym may.formed.entry.named)
        ∙ (ap (λ (c : Event). Accept c.queue c (Of k n)) event ∙ (ap (λ a. Accept (x.1).queue x.1 (Of a n)) same
        ∙ ap (λ a. Accept (x.1).queue x.1 (Of q a)) is))

-- Where only what was passed on is accepted and the end is settled, what is overdue is accepted, in its order.
pending_only : (p : Plan) (q : ℕ) (xs : List (ℕ × Event)) (P S : List Step) → Pending p P q → overdue p P q ≡ xs
    → All (λ s. is_from_of s ≡ true) S → AllowedAfter p P S → IsSettled p (P ++ S) → S ≡ map (accept_from q) xs
pending_only p q [] P [] h e from all end = refl
pending_only p q [] P (s ∷ S) h e from all end =
    let accept = from_of_is s (All-head (λ t. is_from_of t ≡ true) s S from) in
    let may : Allowed p P (Accept accept.into accept.event (Of accept.queue accept.number)) = subst (Allowed p P) accept.is all.0 in
    let none : overdue p P accept.queue ≡ [] =
    ⊎_elim (λ same. ap (overdue p P) same ∙ e) (λ differs. h.others accept.queue differs) (cases_eq accept.queue q) in
    absurd (none_due p P accept.queue accept.number accept.event none
    (may_is_due p P accept.queue accept.number accept.event (Facts-allowed p P h.allowed) may.needs))
pending_only p q (x ∷ rest) P [] h e from all end =
    absurd (nil_cons x rest (sym (settled_overdue p P (subst (IsSettled p) (append-nil P) end) q) ∙ e))
pending_only p q (x ∷ rest) P (s ∷ S) h e from all end =
    let later : All (λ t. is_from_of t ≡ true) S = All-tail (λ t. is_from_of t ≡ true) s S from in
    let settled : IsSettled p ((P ++ s ∷ []) ++ S) = subst (IsSettled p) (sym (append_assoc P (s ∷ []) S)) end in
    let accept = from_of_is s (All-head (λ t. is_from_of t ≡ true) s S from) in
    let first : s ≡ accept_from q x =
    accept.is ∙ first_is_taken p P S q accept.into accept.number accept.queue accept.event x rest h e (subst (Allowed p P) accept.is all.0) later
    (subst (λ t. AllowedAfter p (P ++ t ∷ []) S) accept.is all.1) (subst (λ t. IsSettled p ((P ++ t ∷ []) ++ S)) accept.is settled) in
    let next = pending_next p P q x rest h e in
    ap (λ t. t ∷ S) first
    ∙ ap (λ T. accept_from q x ∷ T) (pending_only p q rest (P ++ accept_from q x ∷ []) S next.0 next.1 later
    (subst (λ t. AllowedAfter p (P ++ t ∷ []) S) first all.1) (subst (λ t. IsSettled p ((P ++ t ∷ []) ++ S)) first settled))

-- ---- the steps of a reply

-- led by the step s, and then what is overdue in the queue
abbrev led_list : Plan → List Step → Step → ℕ → List Step
led_list p T s q = s ∷ map (accept_from q) (overdue p (T ++ s ∷ []) q)

-- where the step s is allowed, the lane has a pair to answer, and what is then overdue is of that pair's queue
abbrev Leads : Plan → List Step → ℕ → Step → Type 0
Leads p T l s = AllowedAfter p [] T → Allowed p T s → (x : ℕ × ℕ) × (next_pair T l ≡ Some x) × Pending p (T ++ s ∷ []) x.0

done_leads : (p : Plan) (T : List Step) (l : ℕ) (o : Outcome) → Leads p T l (Done l o)
done_leads p T l o all may =
    let next = next_pair-some T l may.needs in (next.0, next.1, answered_pending p T l o next.0 all (may.prompt refl) next.1 may)

more_leads : (p : Plan) (T : List Step) (l : ℕ) (e : Event) → Leads p T l (More l e)
more_leads p T l e all may =
    let next = next_pair-some T l may.needs.beside in (next.0, next.1, added_pending p T l e next.0 all (may.prompt refl) next.1 may)

-- the pair, and the steps by it
led_is : (p : Plan) (T : List Step) (l : ℕ) (s : Step) (steps : List Step) → Leads p T l s → AreLed s steps → Lawful p (T ++ steps)
    → (x : ℕ × ℕ) × (next_pair T l ≡ Some x) × (steps ≡ led_list p T s x.0)
led_is p T l s steps leads form lawful =
    let all = steps-Lawful p (T ++ s ∷ form.0) (subst (λ S. Lawful p (T ++ S)) form.1 lawful) in
    let parts = AllowedAfter-split p [] T (s ∷ form.0) all.steps in
    let here = leads parts.0 parts.1.0 in (
      here.0,
      here.1,
      form.1 ∙ ap (λ S. s ∷ S) (pending_only p here.0.0 (overdue p (T ++ s ∷ []) here.0.0) (T ++ s ∷ []) form.0 here.2 refl
          form.2 parts.1.1 (subst (IsSettled p) (sym (append_assoc T (s ∷ []) form.0)) all.end)),
    )

led_are_one : (p : Plan) (T : List Step) (l : ℕ) (s : Step) (xs ys : List Step) → Leads p T l s → AreLed s xs → Lawful p (T ++ xs) → AreLed s ys
    → Lawful p (T ++ ys) → xs ≡ ys
led_are_one p T l s xs ys leads form_x lawful_x form_y lawful_y =
    let by_x = led_is p T l s xs leads form_x lawful_x in
    let by_y = led_is p T l s ys leads form_y lawful_y in
    by_x.2 ∙ (ap (λ (x : ℕ × ℕ). led_list p T s x.0) (same_Some by_x.0 by_y.0 (sym by_x.1 ∙ by_y.1)) ∙ sym by_y.2)

steps_by_one : (o : Op) (p : Plan) (T : List Step) (l : ℕ) (e : Event) (xs ys : List Step) → AreStepsBy o T l e xs → Lawful p (T ++ xs)
    → AreStepsBy o T l e ys → Lawful p (T ++ ys) → xs ≡ ys
steps_by_one ops.New p T l e xs ys form_x lawful_x form_y lawful_y = form_x ∙ sym form_y
steps_by_one ops.Forward p T l e xs ys form_x lawful_x form_y lawful_y =
    led_are_one p T l (Done l (Forwarded e)) xs ys (done_leads p T l (Forwarded e)) form_x lawful_x form_y lawful_y
steps_by_one ops.Release p T l e xs ys form_x lawful_x form_y lawful_y =
    led_are_one p T l (Done l Released) xs ys (done_leads p T l Released) form_x lawful_x form_y lawful_y
steps_by_one ops.ForwardMore p T l e xs ys form_x lawful_x form_y lawful_y =
    led_are_one p T l (More l e) xs ys (more_leads p T l e) form_x lawful_x form_y lawful_y

pub steps_are_one : (p : Plan) (T : List Step) (l : ℕ) (e : Event) (xs ys : List Step) → Lawful p T → AreStepsOf p T l e xs → AreStepsOf p T l e ys
    → xs ≡ ys
steps_are_one p T l e xs ys lawful by_x by_y = steps_by_one e.op p T l e xs ys by_x.form by_x.lawful by_y.form by_y.lawful
