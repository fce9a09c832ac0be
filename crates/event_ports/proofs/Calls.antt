-- What several calls on flow lanes, one after the other, make of what a port has of them.
use Rattle.std.proofs.Common.{◌≡◌, ◌≢◌, ℕ, ◌+◌, ◌<◌, ◌||◌, true, false, None, List, [], ◌++◌, drop, refl, sym, ap, ◌∙◌, subst, arith, append-nil, count_by}
use Rattle.std.specs.Option.{is_some}
use mathlib.Core.Logic.{dite}
use native.Mathlib.Decide.{ℕ_discrete}
use Rattle.evt_types.specs.Additions.{extras_of}
use Rattle.evt_types.specs.declared.event.Delivery.{Delivery}
use Rattle.evt_types.specs.declared.event.Op.{Op}
use Rattle.evt_types.specs.declared.event.Op.TheVariants as ops
use Rattle.evt_types.specs.declared.event.Reply.{Reply}
use Rattle.evt_types.specs.Operation.{is_answer_op, is_more_op, is_more_reply, is_new_op, is_new_reply, needs_held}
use Rattle.lists.specs.Counts.{count}
use Rattle.event_ports.specs.Holds.{AddedAll, AreIdle, Hands, stint_in, received_on, answered_on, extras_on, held_on, received_past, answered_past, left_past, received_now, answered_now, held_now, Same, SameBut, Gets, Brings, Says, Kept, Ends, HaveNoNew, GaveBack, NoneSurrendered}
use Rattle.event_ports.proofs.Submitted.{count_more}
use Rattle.event_ports.proofs.Refusals.{no_answer}

-- a lane is held, something is received from it, and it is left
pub idle_received : (h j k m : Hands) (lane : ℕ) (ds : List Delivery) → Same h j → ((i : ℕ) → i ≢ lane → is_some (stint_in j i) ≡ is_some (stint_in h i)) → Gets lane ds j k
    → ((i : ℕ) → is_some (stint_in k i) ≡ is_some (stint_in j i)) → Same k m
    → (held_on k lane ≡ [] → is_some (stint_in m lane) ≡ false) → ((i : ℕ) → i ≢ lane → is_some (stint_in m i) ≡ is_some (stint_in k i)) → AreIdle h → AreIdle m
idle_received h j k m lane ds held elsewhere gets entries same left others idle i none =
    let At : ℕ → Type 0 = λ x. is_some (stint_in m x) ≡ false in
    dite (ℕ_discrete i lane)
    (λ e. subst At (sym e) (left (sym (same.held lane) ∙ ap (held_on m) (sym e) ∙ none)))
    (λ ne. others i ne ∙ entries i ∙ elsewhere i ne ∙ idle i (sym (held.held i) ∙ sym (gets.others.held i ne) ∙ sym (same.held i) ∙ none))

-- a lane couldn't be held
pub idle_refused : (h k : Hands) (lane : ℕ) → Same h k → is_some (stint_in k lane) ≡ false → ((i : ℕ) → i ≢ lane → is_some (stint_in k i) ≡ is_some (stint_in h i)) → AreIdle h → AreIdle k
idle_refused h k lane same refused elsewhere idle i none =
    let At : ℕ → Type 0 = λ x. is_some (stint_in k x) ≡ false in
    dite (ℕ_discrete i lane)
    (λ e. subst At (sym e) refused)
    (λ ne. elsewhere i ne ∙ idle i (sym (same.held i) ∙ none))

-- an event is added beside a held one, and nothing that is held changes
pub held_added : (h k : Hands) (lane : ℕ) (r : Reply) → is_more_reply r ≡ true → Says lane r h k → (j : ℕ) → held_on k j ≡ held_on h j
held_added h k lane r more says j =
    let At : ℕ → Type 0 = λ i. held_on k i ≡ held_on h i in
    dite (ℕ_discrete j lane)
    (λ e. subst At (sym e) (says.held ∙ ap (λ n. drop n (held_on h lane)) (no_answer r more)))
    (λ ne. says.others.held j ne)

pub same_more : (h k m : Hands) → Same h k → Same k m → Same h m
same_more h k m a b = record { received = λ j. b.received j ∙ a.received j; answered_is = λ j. b.answered_is j ∙ a.answered_is j; held = λ j. b.held j ∙ a.held j; extras = λ j. b.extras j ∙ a.extras j; given_back = λ j. b.given_back j ∙ a.given_back j }

-- the other lanes, with a call before that changed none, and with one after
but_after : (h k m : Hands) (lane : ℕ) → Same h k → SameBut lane k m → SameBut lane h m
but_after h k m lane a b = record { received = λ j ne. b.received j ne ∙ a.received j; answered_is = λ j ne. b.answered_is j ne ∙ a.answered_is j; held = λ j ne. b.held j ne ∙ a.held j; extras = λ j ne. b.extras j ne ∙ a.extras j }

but_before : (h k m : Hands) (lane : ℕ) → SameBut lane h k → Same k m → SameBut lane h m
but_before h k m lane a b = record { received = λ j ne. b.received j ∙ a.received j ne; answered_is = λ j ne. b.answered_is j ∙ a.answered_is j ne; held = λ j ne. b.held j ∙ a.held j ne; extras = λ j ne. b.extras j ∙ a.extras j ne }

pub says_before : (h k m : Hands) (lane : ℕ) (r : Reply) → Says lane r h k → Same k m → Says lane r h m
says_before h k m lane r says same = record {
  others = but_before h k m lane says.others same;
  received = same.received lane ∙ says.received;
  answered_is = same.answered_is lane ∙ says.answered_is;
  held = same.held lane ∙ says.held;
  extras = same.extras lane ∙ says.extras;
  given_back = λ j. same.given_back j ∙ says.given_back j;
}

-- a lane is answered, and given back where nothing more of it is held
pub idle_answered : (h k m : Hands) (lane : ℕ) (r : Reply) → Says lane r h k → ((i : ℕ) → is_some (stint_in k i) ≡ is_some (stint_in h i)) → Same k m
    → (held_on k lane ≡ [] → is_some (stint_in m lane) ≡ false)
    → ((i : ℕ) → i ≢ lane → is_some (stint_in m i) ≡ is_some (stint_in k i)) → AreIdle h → AreIdle m
idle_answered h k m lane r says entries same left others idle i none =
    let At : ℕ → Type 0 = λ x. is_some (stint_in m x) ≡ false in
    dite (ℕ_discrete i lane)
    (λ e. subst At (sym e) (left (sym (same.held lane) ∙ ap (held_on m) (sym e) ∙ none)))
    (λ ne. others i ne ∙ entries i ∙ idle i (sym (says.others.held i ne) ∙ sym (same.held i) ∙ none))

-- ---- surrenders

pub kept_none : (h : Hands) → Kept h h
kept_none h = record { received = λ j. refl; answered_is = λ j. refl; left = λ j. refl; free = λ j none. (none, refl) }

pub kept_more : (h k m : Hands) → Kept h k → Kept k m → Kept h m
kept_more h k m a b = record {
  received = λ j. b.received j ∙ a.received j;
  answered_is = λ j. b.answered_is j ∙ a.answered_is j;
  left = λ j. b.left j ∙ a.left j;
  free = λ j none. let once = a.free j none in let twice = b.free j once.0 in (twice.0, twice.1 ∙ once.1);
}

-- the lanes below are free, and then this one
pub free_below : (h k : Hands) (lane : ℕ) → ((j : ℕ) → j < lane → stint_in h j ≡ None) → stint_in k lane ≡ None → ((j : ℕ) → j ≢ lane → stint_in k j ≡ stint_in h j)
    → (j : ℕ) → j < lane + 1 → stint_in k j ≡ None
free_below h k lane below free elsewhere j lt =
    let At : ℕ → Type 0 = λ i. stint_in k i ≡ None in
    dite (ℕ_discrete j lane) (λ e. subst At (sym e) free) (λ ne. elsewhere j ne ∙ below j (omega (arith, lt, ne)))

-- once all lanes are free
pub ends_kept : (h k : Hands) → Kept h k → ((j : ℕ) → stint_in k j ≡ None) → Ends h k.view
ends_kept h k kept none = record {
  received = λ j. sym (ap (λ o. received_past j k.view.finished ++ received_now k.view o) (none j) ∙ append-nil (received_past j k.view.finished)) ∙ kept.received j;
  answered_is = λ j. sym (ap (λ o. answered_past j k.view.finished ++ answered_now k.view o) (none j) ∙ append-nil (answered_past j k.view.finished)) ∙ kept.answered_is j;
  left = λ j. sym (ap (λ o. left_past j k.view.finished ++ held_now o) (none j) ∙ append-nil (left_past j k.view.finished)) ∙ kept.left j;
  free = λ j is. (kept.free j is).1;
}

pub gets_after : (h k m : Hands) (lane : ℕ) (ds : List Delivery) → Same h k → Gets lane ds k m → Gets lane ds h m
gets_after h k m lane ds same gets = record {
  others = but_after h k m lane same gets.others;
  received = gets.received ∙ ap (λ r. r ++ ds) (same.received lane);
  answered_is = gets.answered_is ∙ same.answered_is lane;
  held = gets.held ∙ ap (λ r. r ++ ds) (same.held lane);
  extras = gets.extras ∙ same.extras lane;
  given_back = λ j. gets.given_back j ∙ same.given_back j;
}

pub gets_before : (h k m : Hands) (lane : ℕ) (ds : List Delivery) → Gets lane ds h k → Same k m → Gets lane ds h m
gets_before h k m lane ds gets same = record {
  others = but_before h k m lane gets.others same;
  received = same.received lane ∙ gets.received;
  answered_is = same.answered_is lane ∙ gets.answered_is;
  held = same.held lane ∙ gets.held;
  extras = same.extras lane ∙ gets.extras;
  given_back = λ j. same.given_back j ∙ gets.given_back j;
}

-- a lane is held, deliveries come from it, and it is left
pub gets_between : (h j k m : Hands) (lane : ℕ) (ds : List Delivery) → Same h j → Gets lane ds j k → Same k m → Gets lane ds h m
gets_between h j k m lane ds held gets same = gets_before h k m lane ds (gets_after h j k lane ds held gets) same

-- nothing came
pub brings_none : (lane : ℕ) (h : Hands) (ds : List Delivery) → Brings lane h ds h ds
brings_none lane h ds = record {
  came = [];
  array = sym (append-nil ds);
  gets = record {
    others = record { received = λ j ne. refl; answered_is = λ j ne. refl; held = λ j ne. refl; extras = λ j ne. refl };
    received = sym (append-nil (received_on h lane));
    answered_is = refl;
    held = sym (append-nil (held_on h lane));
    extras = refl;
    given_back = λ j. refl;
  };
}

-- a receipt answers nothing
pub gets_no_answer : (h k : Hands) (lane : ℕ) (ds : List Delivery) → Gets lane ds h k → (j : ℕ) → answered_on k j ≡ answered_on h j
gets_no_answer h k lane ds gets j =
    let At : ℕ → Type 0 = λ i. answered_on k i ≡ answered_on h i in
    dite (ℕ_discrete j lane) (λ e. subst At (sym e) gets.answered_is) (λ ne. gets.others.answered_is j ne)

pub added_received : (h k : Hands) (lane : ℕ) (ds : List Delivery) → Gets lane ds h k → AddedAll h → AddedAll k
added_received h k lane ds gets added = record {
  each = λ j.
      let At : ℕ → Type 0 = λ i. extras_on k i ≡ extras_on h i in
      dite (ℕ_discrete j lane) (λ e. subst At (sym e) gets.extras) (λ ne. gets.others.extras j ne) ∙ added.each j ∙ sym (ap extras_of (gets_no_answer h k lane ds gets j));
}

-- and an answer receives nothing
pub says_received : (h k : Hands) (lane : ℕ) (r : Reply) → Says lane r h k → (j : ℕ) → received_on k j ≡ received_on h j
says_received h k lane r says j =
    let At : ℕ → Type 0 = λ i. received_on k i ≡ received_on h i in
    dite (ℕ_discrete j lane) (λ e. subst At (sym e) says.received) (λ ne. says.others.received j ne)

-- the lanes that were held before were given back
pub gave_back : (h k : Hands) → NoneSurrendered h k → GaveBack h → GaveBack k
gave_back h k none before j = none j ∙ before j

pub same_no_new : (h k : Hands) → ((j : ℕ) → answered_on k j ≡ answered_on h j) → HaveNoNew h → HaveNoNew k
same_no_new h k same none j = ap (count_by is_new_reply) (same j) ∙ none j

is_no_new : (o : Op) → (is_answer_op o || is_more_op o) ≡ true → count (is_new_op o) ≡ 0
is_no_new ops.New e = absurd (cc)
is_no_new ops.Forward e = omega arith
is_no_new ops.Release e = omega arith
is_no_new ops.ForwardMore e = omega arith

pub more_needs : (o : Op) → is_more_op o ≡ true → (is_answer_op o || is_more_op o) ≡ true
more_needs ops.New e = absurd (cc)
more_needs ops.Forward e = refl
more_needs ops.Release e = refl
more_needs ops.ForwardMore e = refl

pub says_no_new : (h k : Hands) (lane : ℕ) (r : Reply) → needs_held r ≡ true → Says lane r h k → HaveNoNew h → HaveNoNew k
says_no_new h k lane r needs says none j =
    let At : ℕ → Type 0 = λ i. count_by is_new_reply (answered_on k i) ≡ 0 in
    dite (ℕ_discrete j lane)
    (λ e. subst At (sym e) (omega (arith, count_more is_new_reply (answered_on h lane) (answered_on k lane) r says.answered_is, none lane, is_no_new r.event.op needs)))
    (λ ne. ap (count_by is_new_reply) (says.others.answered_is j ne) ∙ none j)
