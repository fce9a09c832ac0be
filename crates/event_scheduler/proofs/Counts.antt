-- What the steps of a reply count: how many events are turned away or accepted as new, and that what was accepted as new is no more
-- than what was accepted or is kept.
use Rattle.std.proofs.Common.{◌≡◌, ℕ, ◌+◌, ◌≤◌, Bool, true, false, cond, List, [], ◌∷◌, ◌++◌, length, Option, Some, None, All, count_by, sum_by, refl, sym, ap, ◌∙◌, arith}
use Rattle.std.specs.List.{cons_option}
use Rattle.std.proofs.lemmas.Bool.{false≢true}
use Rattle.std.proofs.lemmas.List.Elements.{All-head, All-tail, All-weaker}
use Rattle.std.proofs.lemmas.List.Sums.{sum_by-append, sum_by-cons}
use Rattle.evt_types.specs.Plan.{Plan, queues}
use Rattle.evt_types.specs.declared.event.Event.{Event}
use Rattle.evt_types.specs.declared.event.Op.{Op}
use Rattle.evt_types.specs.declared.event.Op.TheVariants as ops
use Rattle.evt_types.specs.declared.step.Outcome.{Outcome}
use Rattle.evt_types.specs.declared.step.Outcome.TheVariants.{Forwarded, Released}
use Rattle.evt_types.specs.declared.step.Source.TheVariants.{New, Of}
use Rattle.evt_types.specs.declared.step.Step.{Step}
use Rattle.evt_types.specs.declared.step.Step.TheVariants.{Accept, Give, Done, More, Turned, Bounced, Shut}
use Rattle.event_scheduler.specs.Taking.{entered_as, entered_by, turned_by}
use Rattle.lists.proofs.Lists.{list_any-none}
use Rattle.lists.proofs.Sums.{sum_agree, sum_of_none}
use Rattle.sched_core.specs.Taken.{is_passed_on, took_by, took_of}
use Rattle.sched_core.specs.declared.take.Took.TheVariants as tooks
use Rattle.transcripts.proofs.ByLane.{sum_plus, sum_hit}
use Rattle.transcripts.proofs.Pushes.{accepted_in-same, accepted_in-other}
use Rattle.transcripts.proofs.Replies.{accepts_of-of, added_of-of}
use Rattle.transcripts.proofs.ViewTells.{entries_is}
use Rattle.transcripts.specs.Lawful.{IsFormed}
use Rattle.transcripts.specs.Replies.{new_count, turned_count}
use Rattle.transcripts.specs.Standing.{View, Stands, accepts_of, added_of, answer_steps, more_steps, entries_of, oldest_at, steps_by, steps_of}
use Rattle.transcripts.specs.Transcript.{accepted, accepted_in, entries, has_shut, is_from_of, is_new, is_shut, is_turned}

-- ---- counts of a list

pub count-append : {X : Type 0} (p : X → Bool) (xs ys : List X) → count_by p (xs ++ ys) ≡ count_by p xs + count_by p ys
count-append p xs ys = sum_by-append (λ y. cond (p y) 1 0) xs ys

pub count-none : {X : Type 0} (p : X → Bool) (xs : List X) → All (λ x. p x ≡ false) xs → count_by p xs ≡ 0
count-none p xs none = sum_of_none (λ x. cond (p x) 1 0) xs (λ k d h. ap (λ b. cond b 1 0) (none k d h))

-- ---- the steps of an answer

of_is_not_turned : (s : Step) → is_from_of s ≡ true → is_turned s ≡ false
of_is_not_turned (Accept q e c) h = refl
of_is_not_turned (Give l q n) h = refl
of_is_not_turned (Done l o) h = refl
of_is_not_turned (More l e) h = refl
of_is_not_turned (Turned l e) h = absurd (false≢true h)
of_is_not_turned (Bounced l) h = refl
of_is_not_turned Shut h = refl

of_is_not_new : (s : Step) → is_from_of s ≡ true → is_new s ≡ false
of_is_not_new (Accept q e (Of r n)) h = refl
of_is_not_new (Accept q e (New l)) h = absurd (false≢true h)
of_is_not_new (Give l q n) h = refl
of_is_not_new (Done l o) h = refl
of_is_not_new (More l e) h = refl
of_is_not_new (Turned l e) h = refl
of_is_not_new (Bounced l) h = refl
of_is_not_new Shut h = refl

of_is_not_shut : (s : Step) → is_from_of s ≡ true → is_shut s ≡ false
of_is_not_shut (Accept q e c) h = refl
of_is_not_shut (Give l q n) h = refl
of_is_not_shut (Done l o) h = refl
of_is_not_shut (More l e) h = refl
of_is_not_shut (Turned l e) h = refl
of_is_not_shut (Bounced l) h = refl
of_is_not_shut Shut h = absurd (false≢true h)

abbrev accepts : View → ℕ → Outcome → List Step
accepts v l o = accepts_of v (oldest_at v l) o

answer_turns_none : (v : View) (l : ℕ) (o : Outcome) → turned_count (answer_steps v l o) ≡ 0
answer_turns_none v l o =
    omega (arith, count-append is_turned (Done l o ∷ []) (accepts v l o), count-none is_turned (accepts v l o) (All-weaker (λ s. is_from_of s ≡ true) (λ s. is_turned s ≡ false) of_is_not_turned (accepts v l o) (accepts_of-of v (oldest_at v l) o)))

abbrev added : View → ℕ → Event → List Step
added v l e = added_of v (oldest_at v l) e

more_turns_none : (v : View) (l : ℕ) (e : Event) → turned_count (more_steps v l e) ≡ 0
more_turns_none v l e =
    omega (arith, count-append is_turned (More l e ∷ []) (added v l e), count-none is_turned (added v l e) (All-weaker (λ s. is_from_of s ≡ true) (λ s. is_turned s ≡ false) of_is_not_turned (added v l e) (added_of-of v (oldest_at v l) e)))

more_enters_none : (v : View) (l : ℕ) (e : Event) → new_count (more_steps v l e) ≡ 0
more_enters_none v l e =
    omega (arith, count-append is_new (More l e ∷ []) (added v l e), count-none is_new (added v l e) (All-weaker (λ s. is_from_of s ≡ true) (λ s. is_new s ≡ false) of_is_not_new (added v l e) (added_of-of v (oldest_at v l) e)))

more_shuts_none : (v : View) (l : ℕ) (e : Event) → has_shut (more_steps v l e) ≡ false
more_shuts_none v l e =
    list_any-none is_shut (added v l e) (All-weaker (λ s. is_from_of s ≡ true) (λ s. is_shut s ≡ false) of_is_not_shut (added v l e) (added_of-of v (oldest_at v l) e))

answer_enters_none : (v : View) (l : ℕ) (o : Outcome) → new_count (answer_steps v l o) ≡ 0
answer_enters_none v l o =
    omega (arith, count-append is_new (Done l o ∷ []) (accepts v l o), count-none is_new (accepts v l o) (All-weaker (λ s. is_from_of s ≡ true) (λ s. is_new s ≡ false) of_is_not_new (accepts v l o) (accepts_of-of v (oldest_at v l) o)))

answer_shuts_none : (v : View) (l : ℕ) (o : Outcome) → has_shut (answer_steps v l o) ≡ false
answer_shuts_none v l o =
    list_any-none is_shut (accepts v l o) (All-weaker (λ s. is_from_of s ≡ true) (λ s. is_shut s ≡ false) of_is_not_shut (accepts v l o) (accepts_of-of v (oldest_at v l) o))

-- ---- the steps of a reply

new_turns : (b : Bool) (l : ℕ) (e : Event) → turned_count (cond b (Turned l e ∷ []) (Accept e.queue e (New l) ∷ [])) ≡ turned_by (cond b tooks.Turned tooks.Accepted)
new_turns true l e = refl
new_turns false l e = refl

pub passed_turns_none : (b : Bool) → turned_by (cond b tooks.Accepted tooks.Kept) ≡ 0
passed_turns_none true = refl
passed_turns_none false = refl

turns_by : (o : Op) (v : View) (l : ℕ) (e : Event) → turned_count (steps_by o v l e) ≡ turned_by (took_by o v l e)
turns_by ops.New v l e = new_turns v.shut l e
turns_by ops.Forward v l e = answer_turns_none v l (Forwarded e) ∙ sym (passed_turns_none (is_passed_on (oldest_at v l) (steps_of v l e)))
turns_by ops.Release v l e = answer_turns_none v l Released
turns_by ops.ForwardMore v l e = more_turns_none v l e ∙ sym (passed_turns_none (is_passed_on (oldest_at v l) (steps_of v l e)))

-- the credit of what a reply's steps turn away
pub reply_turns : (v : View) (l : ℕ) (e : Event) → turned_count (steps_of v l e) ≡ turned_by (took_of v l e)
reply_turns v l e = turns_by e.op v l e

new_enters : (b : Bool) (l : ℕ) (e : Event) → new_count (cond b (Turned l e ∷ []) (Accept e.queue e (New l) ∷ [])) ≡ entered_as (cond b tooks.Turned tooks.Accepted)
new_enters true l e = refl
new_enters false l e = refl

enters_by : (o : Op) (v : View) (l : ℕ) (e : Event) → new_count (steps_by o v l e) ≡ entered_by o (took_by o v l e)
enters_by ops.New v l e = new_enters v.shut l e
enters_by ops.Forward v l e = answer_enters_none v l (Forwarded e)
enters_by ops.Release v l e = answer_enters_none v l Released
enters_by ops.ForwardMore v l e = more_enters_none v l e

-- how many events a reply's steps accept as new
pub reply_enters : (v : View) (l : ℕ) (e : Event) → new_count (steps_of v l e) ≡ entered_by e.op (took_of v l e)
reply_enters v l e = enters_by e.op v l e

new_shuts_none : (b : Bool) (l : ℕ) (e : Event) → has_shut (cond b (Turned l e ∷ []) (Accept e.queue e (New l) ∷ [])) ≡ false
new_shuts_none true l e = refl
new_shuts_none false l e = refl

shuts_none_by : (o : Op) (v : View) (l : ℕ) (e : Event) → has_shut (steps_by o v l e) ≡ false
shuts_none_by ops.New v l e = new_shuts_none v.shut l e
shuts_none_by ops.Forward v l e = answer_shuts_none v l (Forwarded e)
shuts_none_by ops.Release v l e = answer_shuts_none v l Released
shuts_none_by ops.ForwardMore v l e = more_shuts_none v l e

-- no reply shuts the device
pub reply_shuts_none : (v : View) (l : ℕ) (e : Event) → has_shut (steps_of v l e) ≡ false
reply_shuts_none v l e = shuts_none_by e.op v l e

-- ---- what was accepted as new

length_option : {X : Type 0} (o : Option X) (xs : List X) → length (cons_option o xs) ≡ length (cons_option o []) + length xs
length_option None xs = omega arith
length_option (Some x) xs = omega arith

-- of one step, over all queues
abbrev entries_by : Step → ℕ → ℕ
entries_by s q = length (cons_option (accepted_in q s) [])

new_entry : (p : Plan) (s : Step) → IsFormed p s → cond (is_new s) 1 0 ≤ sum_by (entries_by s) (queues p)
new_entry p (Accept q e (New l)) formed =
    omega (arith, sum_hit (entries_by (Accept q e (New l))) (length p.queues) q 1 formed.entry.queue (ap (λ o. length (cons_option o [])) (accepted_in-same q e (New l))) (λ r other. ap (λ o. length (cons_option o [])) (accepted_in-other r q e (New l) (λ same. other (sym same)))))
new_entry p (Accept q e (Of r n)) formed = omega arith
new_entry p (Give l q n) formed = omega arith
new_entry p (Done l o) formed = omega arith
new_entry p (More l e) formed = omega arith
new_entry p (Turned l e) formed = omega arith
new_entry p (Bounced l) formed = omega arith
new_entry p Shut formed = omega arith

news_fit : (p : Plan) (T : List Step) → All (IsFormed p) T → new_count T ≤ sum_by (λ q. length (accepted T q)) (queues p)
unfolding accepted
news_fit p [] formed = omega arith
news_fit p (s ∷ T) formed =
    let split = sum_agree (λ q. length (accepted (s ∷ T) q)) (λ q. entries_by s q + length (accepted T q)) (queues p) (λ k d h. length_option (accepted_in _ s) (accepted T _)) in
    omega (
      arith,
      sum_by-cons (λ x. cond (is_new x) 1 0) s T,
      split,
      sum_plus (entries_by s) (λ q. length (accepted T q)) (queues p),
      new_entry p s (All-head (IsFormed p) s T formed),
      news_fit p T (All-tail (IsFormed p) s T formed),
    )

entries_hold : (p : Plan) (T : List Step) → sum_by (λ q. length (accepted T q)) (queues p) ≤ entries p T
unfolding entries
entries_hold p T = omega arith

pub new_fits : (v : View) (T : List Step) → Stands T v → new_count T ≤ entries_of v
new_fits v T stands = omega (arith, news_fit v.shape T stands.lawful.formed, entries_hold v.shape T, entries_is v T stands)
