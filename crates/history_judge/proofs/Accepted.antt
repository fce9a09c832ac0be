-- Of each class of events no more are given than were accepted, and no more are accepted than were said.
use Rattle.std.specs.Prelude.{ℕ, ◌≡◌, ◌+◌, ◌≤◌, Bool, true, false, cond, ◌&&◌, List, [], ◌∷◌, ◌++◌, ◌==◌, length, count_by, Option, Some, None, slice_get, ◌⊎◌}
use Rattle.std.specs.List.{cons_option}
use Rattle.std.proofs.Common.{zero, suc, refl, sym, ap, ◌∙◌, subst, arith, inl, inr, ⊎_elim}
use Rattle.std.proofs.lemmas.Bool.{and_from, and_left, and_parts, and_right, cases_Bool, cond-true, false≢true}
use Rattle.std.proofs.lemmas.List.{take_all}
use Rattle.evt_types.specs.Operation.{is_new_op}
use Rattle.evt_types.specs.Plan.{Plan}
use Rattle.evt_types.specs.declared.event.Event.{Event}
use Rattle.evt_types.specs.declared.event.Numbered.{Numbered}
use Rattle.evt_types.specs.declared.step.Outcome.TheVariants.{Forwarded, Released}
use Rattle.evt_types.specs.declared.step.Source.TheVariants.{New, Of}
use Rattle.evt_types.specs.declared.step.Step.{Step}
use Rattle.evt_types.specs.declared.step.Step.TheVariants.{Accept, Give, Done, More, Turned, Bounced, Shut}
use Rattle.lists.proofs.Lists.{eqb_is, eqb_same}
use Rattle.lists.proofs.Parts.{count_by-append, count_by-cons, count_by-front}
use Rattle.lists.specs.Lists.{with_past}
use Rattle.transcripts.specs.Lawful.{GivesOnce, HasOrigin, Lawful}
use Rattle.transcripts.specs.Replies.{Said, replies_in, said_in}
use Rattle.transcripts.specs.Transcript.{accepted, accepted_in, entered, event_at, forwards, given_of, given_to, hand, is_pair, next_pair, numbered, out, sends, sent, sent_for, taken, taken_in, with_event}
use Rattle.history_judge.proofs.ByKeys.{count_agree, count_by_keys, count_filter_map, count_le, count_none, counts_join, counts_split, once_few, some_if, some_is}

-- ---- what was given, of the queue

-- whether the event of the number is of the class
abbrev pub is_of : (Event → Bool) → List Step → ℕ → ℕ → Bool
is_of c T q n = some_is c (event_at T q n)

-- an accepted event of the class stands among them with its number
stands : (c : Event → Bool) (k n : ℕ) (es : List Event) → some_is c (slice_get es n) ≡ true → 1 ≤ count_by (λ (w : Numbered). (w.number == k + n) && c w.event) (numbered k es)
stands c k n [] is = cc
stands c k zero (e ∷ es) is =
    omega (
      arith,
      count_by-cons (λ (w : Numbered). (w.number == k + 0) && c w.event) (record { number = k; event = e }) (numbered (k + 1) es),
      cond-true {A = ℕ} ((k == k + 0) && c e) 1 0 (and_from (k == k + 0) (c e) (subst (λ m. (k == m) ≡ true) none (eqb_same k)) is),
    )
  where
    none : k ≡ k + 0
    none = omega arith
stands c k (suc n) (e ∷ es) is =
    omega (
      arith,
      count_by-cons (λ (w : Numbered). (w.number == k + suc n) && c w.event) (record { number = k; event = e }) (numbered (k + 1) es),
      subst (λ m. 1 ≤ count_by (λ (w : Numbered). (w.number == m) && c w.event) (numbered (k + 1) es)) place (stands c (k + 1) n es is),
    )
  where
    place : k + 1 + n ≡ k + suc n
    place = omega arith

events_counted : (c : Event → Bool) (k : ℕ) (es : List Event) → count_by (λ (w : Numbered). c w.event) (numbered k es) ≡ count_by c es
events_counted c k [] = refl
events_counted c k (e ∷ es) =
    omega (
      arith,
      count_by-cons (λ (w : Numbered). c w.event) (record { number = k; event = e }) (numbered (k + 1) es),
      count_by-cons c e es,
      events_counted c (k + 1) es,
    )

-- each number is handed out once at most
hand_few : (c : Event → Bool) (T : List Step) (q : ℕ) → GivesOnce T → count_by (is_of c T q) (hand T q) ≤ count_by c (accepted T q)
hand_few c T q once =
    omega (
      arith,
      count_by_keys (λ m n. m == n) eqb_is eqb_same (λ m. m) (λ (w : Numbered). w.number) (is_of c T q) (λ (w : Numbered). c w.event) (hand T q) (entered T q)
          (λ n. each n (cases_Bool (is_of c T q n))),
      events_counted c 0 (accepted T q),
    )
  where
    each : (n : ℕ) → (is_of c T q n ≡ true) ⊎ (is_of c T q n ≡ false)
        → count_by (λ m. (m == n) && is_of c T q m) (hand T q) ≤ count_by (λ (w : Numbered). (w.number == n) && c w.event) (entered T q)
    each n (inl is) =
        omega (
          arith,
          count_le (λ m. (m == n) && is_of c T q m) (λ m. m == n) (hand T q) (λ m both. (and_parts (m == n) (is_of c T q m) both).0),
          once_few n (hand T q) (once.once q),
          subst (λ m. 1 ≤ count_by (λ (w : Numbered). (w.number == m) && c w.event) (entered T q)) place (stands c 0 n (accepted T q) is),
        )
      where
        place : 0 + n ≡ n
        place = omega arith
    each n (inr fails) =
        omega (
          arith,
          count_none (λ m. (m == n) && is_of c T q m) (hand T q)
              (λ m. ⊎_elim (λ same. and_right (m == n) (is_of c T q m) (ap (is_of c T q) (eqb_is m n same) ∙ fails)) (λ other. and_left (m == n) (is_of c T q m) other) (cases_Bool (m == n))),
        )

-- ---- what was given, and what was accepted

-- a Give of an event of the class, by the whole transcript
abbrev pub gives : (Event → Bool) → List Step → Step → Bool
gives c T (Give l q n) = is_of c T q n
gives c T s = false

abbrev pub accepts : (Event → Bool) → Step → Bool
accepts c (Accept q e s) = c e
accepts c s = false

abbrev queue_given : Step → ℕ
queue_given (Give l q n) = q
queue_given s = 0

abbrev queue_entered : Step → ℕ
queue_entered (Accept q e s) = q
queue_entered s = 0

gives_here : (c : Event → Bool) (T : List Step) (q : ℕ) (s : Step) → ((queue_given s == q) && gives c T s) ≡ some_is (is_of c T q) (given_of q s)
gives_here c T q (Give l r n) =
    by_case (cases_Bool (r == q)) ∙ sym (some_if (is_of c T q) (r == q) n)
  where
    by_case : ((r == q) ≡ true) ⊎ ((r == q) ≡ false) → ((r == q) && is_of c T r n) ≡ ((r == q) && is_of c T q n)
    by_case (inl same) = ap (λ k. (r == q) && is_of c T k n) (eqb_is r q same)
    by_case (inr other) = and_left (r == q) (is_of c T r n) other ∙ sym (and_left (r == q) (is_of c T q n) other)
gives_here c T q (Accept r e s) = and_right (0 == q) false refl
gives_here c T q (Done l o) = and_right (0 == q) false refl
gives_here c T q (More l e) = and_right (0 == q) false refl
gives_here c T q (Turned l e) = and_right (0 == q) false refl
gives_here c T q (Bounced l) = and_right (0 == q) false refl
gives_here c T q Shut = and_right (0 == q) false refl

accepts_here : (c : Event → Bool) (q : ℕ) (s : Step) → ((queue_entered s == q) && accepts c s) ≡ some_is c (accepted_in q s)
accepts_here c q (Accept r e s) = sym (some_if c (r == q) e)
accepts_here c q (Give l r n) = and_right (0 == q) false refl
accepts_here c q (Done l o) = and_right (0 == q) false refl
accepts_here c q (More l e) = and_right (0 == q) false refl
accepts_here c q (Turned l e) = and_right (0 == q) false refl
accepts_here c q (Bounced l) = and_right (0 == q) false refl
accepts_here c q Shut = and_right (0 == q) false refl

pub gives_few : (p : Plan) (c : Event → Bool) (T : List Step) → Lawful p T → count_by (gives c T) T ≤ count_by (accepts c) T
unfolding hand accepted
gives_few p c T lawful = count_by_keys (λ m n. m == n) eqb_is eqb_same queue_given queue_entered (gives c T) (accepts c) T T each
  where
    once : GivesOnce T
    once = subst GivesOnce (take_all (length T) T (omega arith)) (lawful.once (length T) (omega arith))

    each : (q : ℕ) → count_by (λ s. (queue_given s == q) && gives c T s) T ≤ count_by (λ s. (queue_entered s == q) && accepts c s) T
    each q =
        omega (
          arith,
          hand_few c T q once,
          count_filter_map (is_of c T q) (given_of q) T,
          count_agree (λ s. (queue_given s == q) && gives c T s) (λ s. some_is (is_of c T q) (given_of q s)) T (gives_here c T q),
          count_filter_map c (accepted_in q) T,
          count_agree (λ s. (queue_entered s == q) && accepts c s) (λ s. some_is c (accepted_in q s)) T (accepts_here c q),
        )

-- a queue's events are among all that were accepted
pub queue_few : (c : Event → Bool) (T : List Step) (q : ℕ) → count_by c (accepted T q) ≤ count_by (accepts c) T
unfolding accepted
queue_few c T q =
    omega (
      arith,
      count_filter_map c (accepted_in q) T,
      count_le (λ s. some_is c (accepted_in q s)) (accepts c) T (λ s is. (and_parts (queue_entered s == q) (accepts c s) (accepts_here c q s ∙ is)).1),
    )

-- ---- what was accepted of what was passed on

abbrev enters_new : (Event → Bool) → Step → Bool
enters_new c (Accept q e (New l)) = c e
enters_new c s = false

abbrev enters_of : (Event → Bool) → Step → Bool
enters_of c (Accept q e (Of r n)) = c e
enters_of c s = false

-- an event is passed on
abbrev passes : (Event → Bool) → Step → Bool
passes c (Done l (Forwarded e)) = c e
passes c (More l e) = c e
passes c s = false

abbrev source_of : Step → ℕ × ℕ
source_of (Accept q e (Of r n)) = (r, n)
source_of s = (0, 0)

abbrev same_pair : ℕ × ℕ → ℕ × ℕ → Bool
same_pair x y = is_pair y.0 y.1 x

same_pair_is : (x y : ℕ × ℕ) → same_pair x y ≡ true → x ≡ y
same_pair_is x y same =
    let parts = and_parts (x.0 == y.0) (x.1 == y.1) same in λ i. (eqb_is x.0 y.0 parts.0 i, eqb_is x.1 y.1 parts.1 i)

same_pair_self : (x : ℕ × ℕ) → same_pair x x ≡ true
same_pair_self x = and_from (x.0 == x.0) (x.1 == x.1) (eqb_same x.0) (eqb_same x.1)

enters_here : (c : Event → Bool) (x : ℕ × ℕ) (s : Step) → (same_pair (source_of s) x && enters_of c s) ≡ some_is c (taken_in x.0 x.1 s)
enters_here c x (Accept q e (Of r n)) = sym (some_if c (is_pair x.0 x.1 (r, n)) e)
enters_here c x (Accept q e (New l)) = and_right (same_pair (0, 0) x) false refl
enters_here c x (Give l r n) = and_right (same_pair (0, 0) x) false refl
enters_here c x (Done l o) = and_right (same_pair (0, 0) x) false refl
enters_here c x (More l e) = and_right (same_pair (0, 0) x) false refl
enters_here c x (Turned l e) = and_right (same_pair (0, 0) x) false refl
enters_here c x (Bounced l) = and_right (same_pair (0, 0) x) false refl
enters_here c x Shut = and_right (same_pair (0, 0) x) false refl

-- with whatever steps before them
sent_few : (c : Event → Bool) (past T : List Step) → count_by (λ (y : (ℕ × ℕ) × Event). c y.1) (with_past sends past T) ≤ count_by (passes c) T
sent_few c past [] = omega arith
sent_few c past (s ∷ T) =
    omega (arith, sends_one (sends past s) (with_past sends (past ++ s ∷ []) T), one s, count_by-cons (passes c) s T, sent_few c (past ++ s ∷ []) T)
  where
    ones : Option ((ℕ × ℕ) × Event) → ℕ
    ones o = cond (some_is (λ (y : (ℕ × ℕ) × Event). c y.1) o) 1 0

    sends_one : (o : Option ((ℕ × ℕ) × Event)) (ys : List ((ℕ × ℕ) × Event)) → count_by (λ (y : (ℕ × ℕ) × Event). c y.1) (cons_option o ys) ≡ ones o + count_by (λ (y : (ℕ × ℕ) × Event). c y.1) ys
    sends_one None ys = omega arith
    sends_one (Some y) ys = count_by-cons (λ (z : (ℕ × ℕ) × Event). c z.1) y ys

    of_pair : (e : Event) (o : Option (ℕ × ℕ)) → ones (with_event e o) ≤ cond (c e) 1 0
    of_pair e None = omega arith
    of_pair e (Some x) = omega arith

    one : (t : Step) → ones (sends past t) ≤ cond {A = ℕ} (passes c t) 1 0
    one (Done l (Forwarded e)) = of_pair e (next_pair past l)
    one (Done l Released) = omega arith
    one (More l e) = of_pair e (next_pair past l)
    one (Accept q e o) = omega arith
    one (Give l q n) = omega arith
    one (Turned l e) = omega arith
    one (Bounced l) = omega arith
    one Shut = omega arith

passed_few : (c : Event → Bool) (T : List Step) → HasOrigin T → count_by (enters_of c) T ≤ count_by (passes c) T
unfolding taken forwards sent
passed_few c T origin =
    omega (
      arith,
      count_by_keys same_pair same_pair_is same_pair_self source_of (λ (y : (ℕ × ℕ) × Event). y.0) (enters_of c) (λ (y : (ℕ × ℕ) × Event). c y.1) T (sent T) each,
      sent_few c [] T,
    )
  where
    each : (x : ℕ × ℕ) → count_by (λ s. same_pair (source_of s) x && enters_of c s) T ≤ count_by (λ (y : (ℕ × ℕ) × Event). same_pair y.0 x && c y.1) (sent T)
    each x =
        omega (
          arith,
          count_agree (λ s. same_pair (source_of s) x && enters_of c s) (λ s. some_is c (taken_in x.0 x.1 s)) T (enters_here c x),
          count_filter_map c (taken_in x.0 x.1) T,
          count_by-front c (taken T x.0 x.1) (origin x.0 x.1).0 (forwards T x.0 x.1) (origin x.0 x.1).1,
          count_filter_map c (sent_for x.0 x.1) (sent T),
          count_agree (λ (y : (ℕ × ℕ) × Event). some_is c (sent_for x.0 x.1 y)) (λ y. same_pair y.0 x && c y.1) (sent T) (λ y. some_if c (is_pair x.0 x.1 y.0) y.1),
        )

-- ---- what was accepted, and what was said

-- a reply with an event of the class is taken
abbrev pub says : (Event → Bool) → Step → Bool
says c (Accept q e (New l)) = c e
says c (Done l (Forwarded e)) = c e
says c (More l e) = c e
says c (Turned l e) = c e
says c s = false

enters_by : (c : Event → Bool) (s : Step) → cond {A = ℕ} (accepts c s) 1 0 ≤ cond {A = ℕ} (enters_new c s) 1 0 + cond {A = ℕ} (enters_of c s) 1 0
enters_by c (Accept q e (New l)) = omega arith
enters_by c (Accept q e (Of r n)) = omega arith
enters_by c (Give l q n) = omega arith
enters_by c (Done l o) = omega arith
enters_by c (More l e) = omega arith
enters_by c (Turned l e) = omega arith
enters_by c (Bounced l) = omega arith
enters_by c Shut = omega arith

says_by : (c : Event → Bool) (s : Step) → cond {A = ℕ} (enters_new c s) 1 0 + cond {A = ℕ} (passes c s) 1 0 ≤ cond {A = ℕ} (says c s) 1 0
says_by c (Accept q e (New l)) = omega arith
says_by c (Accept q e (Of r n)) = omega arith
says_by c (Give l q n) = omega arith
says_by c (Done l (Forwarded e)) = omega arith
says_by c (Done l Released) = omega arith
says_by c (More l e) = omega arith
says_by c (Turned l e) = omega arith
says_by c (Bounced l) = omega arith
says_by c Shut = omega arith

pub has_origin : (p : Plan) (T : List Step) → Lawful p T → HasOrigin T
has_origin p T lawful = subst HasOrigin (take_all (length T) T (omega arith)) (lawful.origin (length T) (omega arith))

pub accepts_few : (c : Event → Bool) (T : List Step) → HasOrigin T → count_by (accepts c) T ≤ count_by (says c) T
accepts_few c T origin =
    omega (
      arith,
      counts_split (enters_new c) (enters_of c) (accepts c) T (enters_by c),
      passed_few c T origin,
      counts_join (enters_new c) (passes c) (says c) T (says_by c),
    )

-- a NEW with an event of the class is taken
abbrev pub says_new : (Event → Bool) → Step → Bool
says_new c (Accept q e (New l)) = c e
says_new c (Turned l e) = c e
says_new c s = false

says_as_new : (c : Event → Bool) (s : Step) → cond {A = ℕ} (says_new c s) 1 0 + cond {A = ℕ} (passes c s) 1 0 ≤ cond {A = ℕ} (says c s) 1 0
says_as_new c (Accept q e (New l)) = omega arith
says_as_new c (Accept q e (Of r n)) = omega arith
says_as_new c (Give l q n) = omega arith
says_as_new c (Done l (Forwarded e)) = omega arith
says_as_new c (Done l Released) = omega arith
says_as_new c (More l e) = omega arith
says_as_new c (Turned l e) = omega arith
says_as_new c (Bounced l) = omega arith
says_as_new c Shut = omega arith

enters_said : (c : Event → Bool) (s : Step) → enters_new c s ≡ true → says_new c s ≡ true
enters_said c (Accept q e (New l)) is = is
enters_said c (Accept q e (Of r n)) is = cc
enters_said c (Give l q n) is = cc
enters_said c (Done l o) is = cc
enters_said c (More l e) is = cc
enters_said c (Turned l e) is = cc
enters_said c (Bounced l) is = cc
enters_said c Shut is = cc

-- what is accepted later isn't what was said as new before
pub accepted_later : (c : Event → Bool) (P R : List Step) → HasOrigin (P ++ R) → count_by (says_new c) P + count_by (accepts c) R ≤ count_by (says c) (P ++ R)
accepted_later c P R origin =
    omega (
      arith,
      counts_split (enters_new c) (enters_of c) (accepts c) R (enters_by c),
      passed_few c (P ++ R) origin,
      count_by-append (enters_of c) P R,
      count_le (enters_new c) (says_new c) R (enters_said c),
      count_by-append (says_new c) P R,
      counts_join (says_new c) (passes c) (says c) (P ++ R) (says_as_new c),
    )

-- ---- lane by lane

abbrev pub lane_given : Step → ℕ
lane_given (Give l q n) = l
lane_given s = 0

pub given_here : (c : Event → Bool) (T : List Step) (l : ℕ) (s : Step) → ((lane_given s == l) && gives c T s) ≡ some_is (λ (x : ℕ × ℕ). is_of c T x.0 x.1) (given_to l s)
given_here c T l (Give m q n) = sym (some_if (λ (x : ℕ × ℕ). is_of c T x.0 x.1) (m == l) (q, n))
given_here c T l (Accept r e s) = and_right (0 == l) false refl
given_here c T l (Done m o) = and_right (0 == l) false refl
given_here c T l (More m e) = and_right (0 == l) false refl
given_here c T l (Turned m e) = and_right (0 == l) false refl
given_here c T l (Bounced m) = and_right (0 == l) false refl
given_here c T l Shut = and_right (0 == l) false refl

abbrev pub lane_saying : Step → ℕ
lane_saying (Accept q e (New l)) = l
lane_saying (Done l o) = l
lane_saying (More l e) = l
lane_saying (Turned l e) = l
lane_saying s = 0

-- whether an event of the class is said
abbrev pub is_said : (Event → Bool) → Said → Bool
is_said c x = some_is c x.event

pub said_here : (c : Event → Bool) (l : ℕ) (s : Step) → ((lane_saying s == l) && says c s) ≡ some_is (is_said c) (said_in l s)
said_here c l (Accept q e (New m)) = sym (some_if (is_said c) (m == l) _)
said_here c l (Accept q e (Of r n)) = and_right (0 == l) false refl
said_here c l (Give m q n) = and_right (0 == l) false refl
said_here c l (Done m (Forwarded e)) = sym (some_if (is_said c) (m == l) _)
said_here c l (Done m Released) = sym (some_if (is_said c) (m == l) _)
said_here c l (More m e) = sym (some_if (is_said c) (m == l) _)
said_here c l (Turned m e) = sym (some_if (is_said c) (m == l) _)
said_here c l (Bounced m) = and_right (0 == l) false refl
said_here c l Shut = and_right (0 == l) false refl

-- what the lane was given of the class, and what it said
pub out_counted : (c : Event → Bool) (T : List Step) (l : ℕ) → count_by (λ s. (lane_given s == l) && gives c T s) T ≡ count_by (λ (x : ℕ × ℕ). is_of c T x.0 x.1) (out T l)
unfolding out
out_counted c T l =
    count_agree (λ s. (lane_given s == l) && gives c T s) (λ s. some_is (λ (x : ℕ × ℕ). is_of c T x.0 x.1) (given_to l s)) T (given_here c T l)
    ∙ sym (count_filter_map (λ (x : ℕ × ℕ). is_of c T x.0 x.1) (given_to l) T)

pub replies_counted : (c : Event → Bool) (T : List Step) (l : ℕ) → count_by (λ s. (lane_saying s == l) && says c s) T ≡ count_by (is_said c) (replies_in T l)
unfolding replies_in
replies_counted c T l =
    count_agree (λ s. (lane_saying s == l) && says c s) (λ s. some_is (is_said c) (said_in l s)) T (said_here c l)
    ∙ sym (count_filter_map (is_said c) (said_in l) T)

-- whether a NEW with an event of the class is said
abbrev pub is_said_new : (Event → Bool) → Said → Bool
is_said_new c x = is_new_op x.op && some_is c x.event

said_new_here : (c : Event → Bool) (l : ℕ) (s : Step) → some_is (is_said_new c) (said_in l s) ≡ true → says_new c s ≡ true
said_new_here c l (Accept q e (New m)) is = (and_parts (m == l) (c e) (sym (some_if (is_said_new c) (m == l) _) ∙ is)).1
said_new_here c l (Accept q e (Of r n)) is = cc
said_new_here c l (Give m q n) is = cc
said_new_here c l (Done m (Forwarded e)) is = absurd (false≢true (sym (and_right (m == l) false refl) ∙ (sym (some_if (is_said_new c) (m == l) _) ∙ is)))
said_new_here c l (Done m Released) is = absurd (false≢true (sym (and_right (m == l) false refl) ∙ (sym (some_if (is_said_new c) (m == l) _) ∙ is)))
said_new_here c l (More m e) is = absurd (false≢true (sym (and_right (m == l) false refl) ∙ (sym (some_if (is_said_new c) (m == l) _) ∙ is)))
said_new_here c l (Turned m e) is = (and_parts (m == l) (c e) (sym (some_if (is_said_new c) (m == l) _) ∙ is)).1
said_new_here c l (Bounced m) is = cc
said_new_here c l Shut is = cc

pub new_counted : (c : Event → Bool) (T : List Step) (l : ℕ) → count_by (is_said_new c) (replies_in T l) ≤ count_by (says_new c) T
unfolding replies_in
new_counted c T l =
    omega (
      arith,
      count_filter_map (is_said_new c) (said_in l) T,
      count_le (λ s. some_is (is_said_new c) (said_in l s)) (says_new c) T (said_new_here c l),
    )
