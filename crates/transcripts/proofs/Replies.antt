-- What a lane said and was given: one more step, several, and the steps of one reply.
use Rattle.std.specs.Prelude.{ℕ, ◌≡◌, ◌≢◌, Bool, true, false, List, [], ◌∷◌, ◌++◌, ◌==◌, flat_map, All, Option, Some, None, filter_map, if◌then◌else◌}
use Rattle.std.specs.List.{cons_option}
use Rattle.std.proofs.Common.{refl, sym, ap, ◌∙◌, subst}
use Rattle.std.proofs.lemmas.Bool.{false≢true, cond-true, cond-false, cond_both}
use Rattle.std.proofs.lemmas.List.Elements.{All-nil, All-cons, All-append, All-weaker, filter_map-append}
use Rattle.lists.proofs.Lists.{eqb_same, eqb_other, eqb_comm, filter_map-none, more_none}
use Rattle.evt_types.specs.Plan.{is_ordered, queue_of}
use Rattle.transcripts.specs.Replies.{Said, said_by, said_in, replies_in}
use Rattle.transcripts.specs.Standing.{View, AreLed, AreAnswer, AreStepsBy, events_of, accepts_from, accepts_of, added_of, answered_places, leaving, oldest_at, answer_steps, more_steps, steps_by, steps_of}
use Rattle.evt_types.specs.Place.{Place}
use Rattle.transcripts.specs.Transcript.{is_give, Held, out, given_to, has_shut, is_from_of}
use Rattle.evt_types.specs.declared.event.Event.{Event}
use Rattle.evt_types.specs.declared.event.Op.{Op}
use Rattle.evt_types.specs.declared.event.Op.TheVariants as ops
use Rattle.evt_types.specs.declared.step.Outcome.{Outcome}
use Rattle.evt_types.specs.declared.step.Outcome.TheVariants.{Forwarded, Released}
use Rattle.evt_types.specs.declared.step.Source.TheVariants.{New, Of}
use Rattle.evt_types.specs.declared.step.Step.{Step}
use Rattle.evt_types.specs.declared.step.Step.TheVariants.{Accept, Give, Done, More, Turned, Bounced, Shut}

-- ---- one more step, and several

pub replies_in-none : (P : List Step) (l : ℕ) (s : Step) → said_in l s ≡ None → replies_in (P ++ s ∷ []) l ≡ replies_in P l
unfolding replies_in
replies_in-none P l s h = more_none (said_in l) P s h

pub replies_in-append : (P S : List Step) (l : ℕ) → replies_in (P ++ S) l ≡ replies_in P l ++ replies_in S l
unfolding replies_in
replies_in-append P S l = filter_map-append (said_in l) P S

pub out-append : (P S : List Step) (l : ℕ) → out (P ++ S) l ≡ out P l ++ out S l
unfolding out
out-append P S l = filter_map-append (given_to l) P S

-- ---- what each kind of step says, and that another lane's says nothing (The other kinds say nothing at all.)

pub said_in-new : (l q : ℕ) (e : Event) → said_in l (Accept q e (New l)) ≡ Some (said_by ops.New e)
said_in-new l q e = cond-true (l == l) (Some (said_by ops.New e)) None (eqb_same l)

pub said_in-new_other : (l m q : ℕ) (e : Event) → m ≢ l → said_in l (Accept q e (New m)) ≡ None
said_in-new_other l m q e h = cond-false (m == l) (Some (said_by ops.New e)) None (eqb_other m l h)

pub said_in-turned : (l : ℕ) (e : Event) → said_in l (Turned l e) ≡ Some (said_by ops.New e)
said_in-turned l e = cond-true (l == l) (Some (said_by ops.New e)) None (eqb_same l)

pub said_in-turned_other : (l m : ℕ) (e : Event) → m ≢ l → said_in l (Turned m e) ≡ None
said_in-turned_other l m e h = cond-false (m == l) (Some (said_by ops.New e)) None (eqb_other m l h)

-- what an answer says
abbrev pub said_of : Outcome → Said
said_of (Forwarded e) = said_by ops.Forward e
said_of Released = record { op = ops.Release; event = None }

pub said_in-done : (l : ℕ) (o : Outcome) → said_in l (Done l o) ≡ Some (said_of o)
said_in-done l (Forwarded e) = cond-true (l == l) (Some (said_of (Forwarded e))) None (eqb_same l)
said_in-done l Released = cond-true (l == l) (Some (said_of Released)) None (eqb_same l)

pub said_in-done_other : (l m : ℕ) (o : Outcome) → m ≢ l → said_in l (Done m o) ≡ None
said_in-done_other l m (Forwarded e) h = cond-false (m == l) (Some (said_of (Forwarded e))) None (eqb_other m l h)
said_in-done_other l m Released h = cond-false (m == l) (Some (said_of Released)) None (eqb_other m l h)

pub said_in-more : (l : ℕ) (e : Event) → said_in l (More l e) ≡ Some (said_by ops.ForwardMore e)
said_in-more l e = cond-true (l == l) (Some (said_by ops.ForwardMore e)) None (eqb_same l)

pub said_in-more_other : (l m : ℕ) (e : Event) → m ≢ l → said_in l (More m e) ≡ None
said_in-more_other l m e h = cond-false (m == l) (Some (said_by ops.ForwardMore e)) None (eqb_other m l h)

-- ---- what was passed on and is accepted gives nothing and says nothing

from_of_gives : (m : ℕ) (s : Step) → is_from_of s ≡ true → given_to m s ≡ None
from_of_gives m (Give l q n) h = absurd (false≢true h)
from_of_gives m s h = refl

from_of_says : (m : ℕ) (s : Step) → is_from_of s ≡ true → said_in m s ≡ None
from_of_says m (Accept q e (New l)) h = absurd (false≢true h)
from_of_says m (Done l o) h = absurd (false≢true h)
from_of_says m (More l e) h = absurd (false≢true h)
from_of_says m (Turned l e) h = absurd (false≢true h)
from_of_says m s h = refl

from_of_is_no_give : (s : Step) → is_from_of s ≡ true → is_give s ≡ false
from_of_is_no_give (Give l q n) h = absurd (false≢true h)
from_of_is_no_give s h = refl

pub out-from_of : (S : List Step) → All (λ s. is_from_of s ≡ true) S → (m : ℕ) → out S m ≡ []
unfolding out
out-from_of S all m = filter_map-none (given_to m) S (All-weaker (λ s. is_from_of s ≡ true) (λ s. given_to m s ≡ None) (from_of_gives m) S all)

pub replies_in-from_of : (S : List Step) → All (λ s. is_from_of s ≡ true) S → (m : ℕ) → replies_in S m ≡ []
unfolding replies_in
replies_in-from_of S all m = filter_map-none (said_in m) S (All-weaker (λ s. is_from_of s ≡ true) (λ s. said_in m s ≡ None) (from_of_says m) S all)

-- ---- the steps of one reply

-- what one lane says alone
says_alone : (l m : ℕ) (x : Said) (xs : List Said) → xs ≡ [] → cons_option (if l == m then Some x else None) xs ≡ (if m == l then x ∷ [] else [])
says_alone l m x xs none = rw (none, eqb_comm l m) (by_test (m == l))
  where
    by_test : (b : Bool) → cons_option (if b then Some x else None) [] ≡ (if b then x ∷ [] else [])
    by_test true = refl
    by_test false = refl

said_in-done_is : (l m : ℕ) (o : Outcome) → said_in m (Done l o) ≡ (if l == m then Some (said_of o) else None)
said_in-done_is l m (Forwarded e) = refl
said_in-done_is l m Released = refl

led_out : (s : Step) (S : List Step) → AreLed s S → (m : ℕ) → given_to m s ≡ None → out S m ≡ []
unfolding out
led_out s S are m none =
    ap (filter_map (given_to m)) are.1 ∙ (ap (λ x. cons_option x (filter_map (given_to m) are.0)) none ∙ out-from_of are.0 are.2 m)

led_replies : (l m : ℕ) (x : Said) (s : Step) (S : List Step) → AreLed s S → said_in m s ≡ (if l == m then Some x else None)
    → replies_in S m ≡ (if m == l then x ∷ [] else [])
unfolding replies_in
led_replies l m x s S are says =
    ap (filter_map (said_in m)) are.1
    ∙ (ap (λ y. cons_option y (filter_map (said_in m) are.0)) says ∙ says_alone l m x (filter_map (said_in m) are.0) (replies_in-from_of are.0 are.2 m))

pub answer_out : (l : ℕ) (o : Outcome) (S : List Step) → AreAnswer l o S → (m : ℕ) → out S m ≡ []
answer_out l o S are m = led_out (Done l o) S are m refl

pub answer_replies : (l : ℕ) (o : Outcome) (S : List Step) → AreAnswer l o S → (m : ℕ) → replies_in S m ≡ (if m == l then said_of o ∷ [] else [])
answer_replies l o S are m = led_replies l m (said_of o) (Done l o) S are (said_in-done_is l m o)

more_out : (l : ℕ) (e : Event) (S : List Step) → AreLed (More l e) S → (m : ℕ) → out S m ≡ []
more_out l e S are m = led_out (More l e) S are m refl

more_replies : (l : ℕ) (e : Event) (S : List Step) → AreLed (More l e) S → (m : ℕ)
    → replies_in S m ≡ (if m == l then said_by ops.ForwardMore e ∷ [] else [])
more_replies l e S are m = led_replies l m (said_by ops.ForwardMore e) (More l e) S are refl

-- a NEW, whether the device is shut or not
new_steps : Bool → ℕ → Event → List Step
new_steps shut l e = if shut then Turned l e ∷ [] else Accept e.queue e (New l) ∷ []

new_out : (shut : Bool) (l : ℕ) (e : Event) (m : ℕ) → out (new_steps shut l e) m ≡ []
unfolding out new_steps
new_out true l e m = refl
new_out false l e m = refl

new_replies : (shut : Bool) (l : ℕ) (e : Event) (m : ℕ) → replies_in (new_steps shut l e) m ≡ (if m == l then said_by ops.New e ∷ [] else [])
unfolding replies_in new_steps
new_replies true l e m = says_alone l m (said_by ops.New e) [] refl
new_replies false l e m = says_alone l m (said_by ops.New e) [] refl

-- steps of this form, whatever a core holds
pub form_out : (o : Op) (T : List Step) (l : ℕ) (e : Event) (S : List Step) → AreStepsBy o T l e S → (m : ℕ) → out S m ≡ []
unfolding new_steps
form_out ops.New T l e S are m = ap (λ U. out U m) are ∙ new_out (has_shut T) l e m
form_out ops.Forward T l e S are m = answer_out l (Forwarded e) S are m
form_out ops.Release T l e S are m = answer_out l Released S are m
form_out ops.ForwardMore T l e S are m = more_out l e S are m

pub form_replies : (o : Op) (T : List Step) (l : ℕ) (e : Event) (S : List Step) → AreStepsBy o T l e S → (m : ℕ) → replies_in S m ≡ (if m == l then said_by o e ∷ [] else [])
unfolding new_steps
form_replies ops.New T l e S are m = ap (λ U. replies_in U m) are ∙ new_replies (has_shut T) l e m
form_replies ops.Forward T l e S are m = answer_replies l (Forwarded e) S are m
form_replies ops.Release T l e S are m = answer_replies l Released S are m
form_replies ops.ForwardMore T l e S are m = more_replies l e S are m

-- ---- the steps by what a core holds

accepts_from-of : (q n : ℕ) (es : List Event) → All (λ s. is_from_of s ≡ true) (accepts_from q n es)
accepts_from-of q n [] = All-nil (λ s. is_from_of s ≡ true)
accepts_from-of q n (e ∷ es) = All-cons (λ s. is_from_of s ≡ true) (Accept e.queue e (Of q n)) (accepts_from q n es) refl (accepts_from-of q n es)

leaving-of : (q : ℕ) (xs : List Place) → All (λ s. is_from_of s ≡ true) (flat_map (λ (x : Place). accepts_from q x.number x.forwards) xs)
leaving-of q [] = All-nil (λ s. is_from_of s ≡ true)
leaving-of q (x ∷ xs) =
    All-append (λ s. is_from_of s ≡ true) (accepts_from q x.number x.forwards) (flat_map (λ (y : Place). accepts_from q y.number y.forwards) xs) (accepts_from-of q x.number x.forwards) (leaving-of q xs)

-- after the answer events that were passed on are accepted, and nothing else
pub accepts_of-of : (v : View) (h : Option Held) (o : Outcome) → All (λ s. is_from_of s ≡ true) (accepts_of v h o)
accepts_of-of v None o = All-nil (λ s. is_from_of s ≡ true)
accepts_of-of v (Some h) o =
    cond_both (is_ordered (queue_of v.shape h.queue).kind) (flat_map (λ (x : Place). accepts_from h.queue x.number x.forwards) (leaving (answered_places v h.queue h.number o))) (accepts_from h.queue h.number (events_of o)) (All (λ s. is_from_of s ≡ true))
    (λ _. leaving-of h.queue (leaving (answered_places v h.queue h.number o)))
    (λ _. accepts_from-of h.queue h.number (events_of o))

pub answer_steps-form : (v : View) (l : ℕ) (o : Outcome) → AreAnswer l o (answer_steps v l o)
answer_steps-form v l o = (accepts_of v (oldest_at v l) o, refl, accepts_of-of v (oldest_at v l) o)

pub added_of-of : (v : View) (h : Option Held) (e : Event) → All (λ s. is_from_of s ≡ true) (added_of v h e)
added_of-of v None e = All-nil (λ s. is_from_of s ≡ true)
added_of-of v (Some h) e =
    cond_both (is_ordered (queue_of v.shape h.queue).kind) [] (accepts_from h.queue h.number (e ∷ [])) (All (λ s. is_from_of s ≡ true))
    (λ _. All-nil (λ s. is_from_of s ≡ true)) (λ _. accepts_from-of h.queue h.number (e ∷ []))

pub more_steps-form : (v : View) (l : ℕ) (e : Event) → AreLed (More l e) (more_steps v l e)
more_steps-form v l e = (added_of v (oldest_at v l) e, refl, added_of-of v (oldest_at v l) e)

-- a core's steps have the form of the reply, where core and transcript agree on shut
pub steps_by-form : (o : Op) (v : View) (T : List Step) (l : ℕ) (e : Event) → v.shut ≡ has_shut T → AreStepsBy o T l e (steps_by o v l e)
unfolding new_steps
steps_by-form ops.New v T l e same = ap (λ b. new_steps b l e) same
steps_by-form ops.Forward v T l e same = answer_steps-form v l (Forwarded e)
steps_by-form ops.Release v T l e same = answer_steps-form v l Released
steps_by-form ops.ForwardMore v T l e same = more_steps-form v l e

steps_by-out : (o : Op) (v : View) (l : ℕ) (e : Event) (m : ℕ) → out (steps_by o v l e) m ≡ []
unfolding new_steps
steps_by-out ops.New v l e m = new_out v.shut l e m
steps_by-out ops.Forward v l e m = answer_out l (Forwarded e) (answer_steps v l (Forwarded e)) (answer_steps-form v l (Forwarded e)) m
steps_by-out ops.Release v l e m = answer_out l Released (answer_steps v l Released) (answer_steps-form v l Released) m
steps_by-out ops.ForwardMore v l e m = more_out l e (more_steps v l e) (more_steps-form v l e) m

steps_by-replies : (o : Op) (v : View) (l : ℕ) (e : Event) (m : ℕ) → replies_in (steps_by o v l e) m ≡ (if m == l then said_by o e ∷ [] else [])
unfolding new_steps
steps_by-replies ops.New v l e m = new_replies v.shut l e m
steps_by-replies ops.Forward v l e m = answer_replies l (Forwarded e) (answer_steps v l (Forwarded e)) (answer_steps-form v l (Forwarded e)) m
steps_by-replies ops.Release v l e m = answer_replies l Released (answer_steps v l Released) (answer_steps-form v l Released) m
steps_by-replies ops.ForwardMore v l e m = more_replies l e (more_steps v l e) (more_steps-form v l e) m

-- no lane is given anything by the steps of a reply, and its lane alone says something: the reply
pub steps_of-out : (v : View) (l : ℕ) (e : Event) (m : ℕ) → out (steps_of v l e) m ≡ []
steps_of-out v l e m = steps_by-out e.op v l e m

pub steps_of-replies : (v : View) (l : ℕ) (e : Event) (m : ℕ) → replies_in (steps_of v l e) m ≡ (if m == l then said_by e.op e ∷ [] else [])
steps_of-replies v l e m = steps_by-replies e.op v l e m

-- none of the steps of a reply is a Give
led_gives_none : (s : Step) (S : List Step) → AreLed s S → is_give s ≡ false → All (λ t. is_give t ≡ false) S
led_gives_none s S are none =
    subst (All (λ t. is_give t ≡ false)) (sym are.1)
    (All-cons (λ t. is_give t ≡ false) s are.0 none
    (All-weaker (λ t. is_from_of t ≡ true) (λ t. is_give t ≡ false) from_of_is_no_give are.0 are.2))

steps_by_give_none : (o : Op) (v : View) (l : ℕ) (e : Event) → All (λ s. is_give s ≡ false) (steps_by o v l e)
steps_by_give_none ops.New v l e =
    cond_both v.shut (Turned l e ∷ []) (Accept e.queue e (New l) ∷ []) (All (λ s. is_give s ≡ false))
    (λ _. All-cons (λ s. is_give s ≡ false) (Turned l e) [] refl (All-nil (λ s. is_give s ≡ false)))
    (λ _. All-cons (λ s. is_give s ≡ false) (Accept e.queue e (New l)) [] refl (All-nil (λ s. is_give s ≡ false)))
steps_by_give_none ops.Forward v l e = led_gives_none (Done l (Forwarded e)) (answer_steps v l (Forwarded e)) (answer_steps-form v l (Forwarded e)) refl
steps_by_give_none ops.Release v l e = led_gives_none (Done l Released) (answer_steps v l Released) (answer_steps-form v l Released) refl
steps_by_give_none ops.ForwardMore v l e = led_gives_none (More l e) (more_steps v l e) (more_steps-form v l e) refl

pub steps_of_give_none : (v : View) (l : ℕ) (e : Event) → All (λ s. is_give s ≡ false) (steps_of v l e)
steps_of_give_none v l e = steps_by_give_none e.op v l e
