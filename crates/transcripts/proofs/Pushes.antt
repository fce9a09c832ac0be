-- What one more step makes of each word of a transcript: its new value at the steps that change it, and that it stays at the
-- others. (Where a step is a constructor's, the premise that it brings nothing to a word is proved by `refl`.)
use Rattle.std.proofs.Common.{◌≡◌, ◌≢◌, ℕ, ◌+◌, ◌-◌, ◌<◌, ◌≤◌, true, false, ◌||◌, ◌==◌, List, [], ◌∷◌, ◌++◌, length, map, drop, get_or, All, Option, Some, None, slice_get, filter_map, flat_map, sum_by, ◌⊎◌, inl, inr, ⊎_elim, refl, sym, ap, ◌∙◌, arith, append-nil}
use Rattle.std.specs.List.{list_any, cons_option}
use Rattle.std.proofs.lemmas.Bool.{cases_lt, or_left, or_right, and_from, and_left, and_right, and_parts, cond-true, cond-false}
use Rattle.std.proofs.lemmas.List.{length-append, length-drop, map-append, drop-map, drop_all, length-map}
use Rattle.std.proofs.lemmas.List.Concat.{flat_map-append, length-flat_map}
use Rattle.std.proofs.lemmas.List.Elements.{filter_map-append, All-weaker}
use Rattle.std.proofs.lemmas.List.Sums.{fold-append}
use Rattle.std.proofs.lemmas.Option.{none-some, same_Some, cond_some, slice_get_within}
use Rattle.evt_types.specs.Plan.{Plan}
use Rattle.transcripts.specs.Transcript.{accepted_in, accepted, numbered, entered, event_at, slot_if, slot_at, given_to, out, answer_of, answers, unanswered, Held, held_at, unanswered_slots, next_pair, ends, ended, is_pair, is_answered, with_event, sends, sent, sent_for, forwards, add_more, extras, given_of, hand, taken_in, taken, source_in, sources, kept_of, kept, open_of, is_shut, has_shut}
use Rattle.lists.specs.Lists.{from_first}
use Rattle.transcripts.specs.Standing.{events_of}
use Rattle.evt_types.specs.declared.event.Event.{Event}
use Rattle.evt_types.specs.declared.step.Outcome.{Outcome}
use Rattle.evt_types.specs.declared.step.Outcome.TheVariants.{Forwarded, Released}
use Rattle.evt_types.specs.declared.step.Source.{Source}
use Rattle.evt_types.specs.declared.step.Source.TheVariants.{New, Of}
use Rattle.evt_types.specs.declared.step.Step.{Step}
use Rattle.evt_types.specs.declared.step.Step.TheVariants.{Accept, Give, Done, More, Turned, Bounced, Shut}
use Rattle.lists.proofs.Lists.{eqb_same, eqb_other, eqb_is, filter_map-push, more_some, more_none, map_agree, with_past-push, list_any-append, list_any-push, or-false, slice_get-append_left, drop-slice_get, slice_get-some, drop_more_items, flat_map-agree, from_first-agree, from_first_le, from_first-push}

-- ---- what a step brings to a word

pub accepted_in-same : (q : ℕ) (e : Event) (s : Source) → accepted_in q (Accept q e s) ≡ Some e
accepted_in-same q e s = cond-true (q == q) (Some e) None (eqb_same q)

pub accepted_in-other : (q r : ℕ) (e : Event) (s : Source) → r ≢ q → accepted_in q (Accept r e s) ≡ None
accepted_in-other q r e s h = cond-false (r == q) (Some e) None (eqb_other r q h)

pub given_to-same : (l q n : ℕ) → given_to l (Give l q n) ≡ Some (q, n)
given_to-same l q n = cond-true (l == l) (Some (q, n)) None (eqb_same l)

pub given_to-other : (l m q n : ℕ) → m ≢ l → given_to l (Give m q n) ≡ None
given_to-other l m q n h = cond-false (m == l) (Some (q, n)) None (eqb_other m l h)

pub answer_of-same : (l : ℕ) (o : Outcome) → answer_of l (Done l o) ≡ Some o
answer_of-same l o = cond-true (l == l) (Some o) None (eqb_same l)

pub answer_of-other : (l m : ℕ) (o : Outcome) → m ≢ l → answer_of l (Done m o) ≡ None
answer_of-other l m o h = cond-false (m == l) (Some o) None (eqb_other m l h)

pub given_of-same : (l q n : ℕ) → given_of q (Give l q n) ≡ Some n
given_of-same l q n = cond-true (q == q) (Some n) None (eqb_same q)

pub given_of-other : (l q r n : ℕ) → r ≢ q → given_of q (Give l r n) ≡ None
given_of-other l q r n h = cond-false (r == q) (Some n) None (eqb_other r q h)

pub source_in-same : (q r n : ℕ) (e : Event) → source_in r (Accept q e (Of r n)) ≡ Some n
source_in-same q r n e = cond-true (r == r) (Some n) None (eqb_same r)

pub is_pair-same : (q n : ℕ) → is_pair q n (q, n) ≡ true
is_pair-same q n = and_from (q == q) (n == n) (eqb_same q) (eqb_same n)

pub is_pair_is : (q n : ℕ) (x : ℕ × ℕ) → is_pair q n x ≡ true → (x.0 ≡ q) × (x.1 ≡ n)
is_pair_is q n x h = let parts = and_parts (x.0 == q) (x.1 == n) h in (eqb_is x.0 q parts.0, eqb_is x.1 n parts.1)

pub is_pair-queue : (q n : ℕ) (x : ℕ × ℕ) → x.0 ≢ q → is_pair q n x ≡ false
is_pair-queue q n x h = and_left (x.0 == q) (x.1 == n) (eqb_other x.0 q h)

pub is_pair-number : (q n : ℕ) (x : ℕ × ℕ) → x.1 ≢ n → is_pair q n x ≡ false
is_pair-number q n x h = and_right (x.0 == q) (x.1 == n) (eqb_other x.1 n h)

pub taken_in-same : (q r n : ℕ) (e : Event) → taken_in r n (Accept q e (Of r n)) ≡ Some e
taken_in-same q r n e = cond-true (is_pair r n (r, n)) (Some e) None (is_pair-same r n)

pub taken_in-other : (q r n s m : ℕ) (e : Event) → is_pair s m (r, n) ≡ false → taken_in s m (Accept q e (Of r n)) ≡ None
taken_in-other q r n s m e h = cond-false (is_pair s m (r, n)) (Some e) None h

pub sent_for-same : (q n : ℕ) (e : Event) → sent_for q n ((q, n), e) ≡ Some e
sent_for-same q n e = cond-true (is_pair q n (q, n)) (Some e) None (is_pair-same q n)

pub sent_for-other : (q n : ℕ) (x : ℕ × ℕ) (e : Event) → is_pair q n x ≡ false → sent_for q n (x, e) ≡ None
sent_for-other q n x e h = cond-false (is_pair q n x) (Some e) None h

-- ---- which steps bring something

pub accepted_in_is : (q : ℕ) (s : Step) (e : Event) → accepted_in q s ≡ Some e → (c : Source) × (s ≡ Accept q e c)
accepted_in_is q (Accept r d c) e h =
    let parts = cond_some (r == q) d e h in (c, ap (λ k. Accept k d c) (eqb_is r q parts.0) ∙ ap (λ f. Accept q f c) parts.1)
accepted_in_is q (Give l r n) e h = absurd (none-some e h)
accepted_in_is q (Done l o) e h = absurd (none-some e h)
accepted_in_is q (More l d) e h = absurd (none-some e h)
accepted_in_is q (Turned l d) e h = absurd (none-some e h)
accepted_in_is q (Bounced l) e h = absurd (none-some e h)
accepted_in_is q Shut e h = absurd (none-some e h)

pub given_to_is : (l : ℕ) (s : Step) (x : ℕ × ℕ) → given_to l s ≡ Some x → s ≡ Give l x.0 x.1
given_to_is l (Give m q n) x h =
    let parts = cond_some {A = ℕ × ℕ} (m == l) (q, n) x h in ap (λ k. Give k q n) (eqb_is m l parts.0) ∙ ap (λ (y : ℕ × ℕ). Give l y.0 y.1) parts.1
given_to_is l (Accept q e c) x h = absurd (none-some x h)
given_to_is l (Done m o) x h = absurd (none-some x h)
given_to_is l (More m d) x h = absurd (none-some x h)
given_to_is l (Turned m d) x h = absurd (none-some x h)
given_to_is l (Bounced m) x h = absurd (none-some x h)
given_to_is l Shut x h = absurd (none-some x h)

pub answer_of_is : (l : ℕ) (s : Step) (o : Outcome) → answer_of l s ≡ Some o → s ≡ Done l o
answer_of_is l (Done m d) o h = let parts = cond_some (m == l) d o h in ap (λ k. Done k d) (eqb_is m l parts.0) ∙ ap (Done l) parts.1
answer_of_is l s o h = absurd (none-some o h)

pub given_of_is : (q : ℕ) (s : Step) (n : ℕ) → given_of q s ≡ Some n → (l : ℕ) × (s ≡ Give l q n)
given_of_is q (Give l r m) n h = let parts = cond_some (r == q) m n h in (l, ap (λ k. Give l k m) (eqb_is r q parts.0) ∙ ap (Give l q) parts.1)
given_of_is q s n h = absurd (none-some n h)

pub source_in_is : (q : ℕ) (s : Step) (n : ℕ) → source_in q s ≡ Some n → (r : ℕ) × (e : Event) × (s ≡ Accept r e (Of q n))
source_in_is q (Accept r e (Of k m)) n h =
    let parts = cond_some (k == q) m n h in (r, e, ap (λ j. Accept r e (Of j m)) (eqb_is k q parts.0) ∙ ap (λ j. Accept r e (Of q j)) parts.1)
source_in_is q (Accept r e (New l)) n h = absurd (none-some n h)
source_in_is q (Give l r m) n h = absurd (none-some n h)
source_in_is q (Done l o) n h = absurd (none-some n h)
source_in_is q (More l d) n h = absurd (none-some n h)
source_in_is q (Turned l d) n h = absurd (none-some n h)
source_in_is q (Bounced l) n h = absurd (none-some n h)
source_in_is q Shut n h = absurd (none-some n h)

pub taken_in_is : (q n : ℕ) (s : Step) (e : Event) → taken_in q n s ≡ Some e → (r : ℕ) × (s ≡ Accept r e (Of q n))
taken_in_is q n (Accept r d (Of k m)) e h =
    let parts = cond_some (is_pair q n (k, m)) d e h in
    let pair = is_pair_is q n (k, m) parts.0 in
    (r, ap (λ j. Accept r d (Of j m)) pair.0 ∙ (ap (λ j. Accept r d (Of q j)) pair.1 ∙ ap (λ f. Accept r f (Of q n)) parts.1))
taken_in_is q n (Accept r d (New l)) e h = absurd (none-some e h)
taken_in_is q n (Give l r m) e h = absurd (none-some e h)
taken_in_is q n (Done l o) e h = absurd (none-some e h)
taken_in_is q n (More l d) e h = absurd (none-some e h)
taken_in_is q n (Turned l d) e h = absurd (none-some e h)
taken_in_is q n (Bounced l) e h = absurd (none-some e h)
taken_in_is q n Shut e h = absurd (none-some e h)

pub ends_is : (P : List Step) (s : Step) (x : ℕ × ℕ) → ends P s ≡ Some x → (l : ℕ) × (o : Outcome) × (s ≡ Done l o) × (next_pair P l ≡ Some x)
ends_is P (Done l o) x h = (l, o, refl, h)
ends_is P (Accept q e c) x h = absurd (none-some x h)
ends_is P (Give l q n) x h = absurd (none-some x h)
ends_is P (More l d) x h = absurd (none-some x h)
ends_is P (Turned l d) x h = absurd (none-some x h)
ends_is P (Bounced l) x h = absurd (none-some x h)
ends_is P Shut x h = absurd (none-some x h)

-- A step that passes the event e on, from the pair that the lane answers next: the lane's FORWARD, or an addition.
pub record Sends (P : List Step) (s : Step) (x : ℕ × ℕ) (e : Event) : Type 0 where
  pub lane : ℕ
  pub next : next_pair P lane ≡ Some x
  pub is : (s ≡ Done lane (Forwarded e)) ⊎ (s ≡ More lane e)

with_event_is : (d : Event) (o : Option (ℕ × ℕ)) (x : ℕ × ℕ) (e : Event) → with_event d o ≡ Some (x, e) → (o ≡ Some x) × (d ≡ e)
with_event_is d None x e h = absurd (none-some (x, e) h)
with_event_is d (Some y) x e h =
    let same : ◌≡◌ {A = (ℕ × ℕ) × Event} (y, d) (x, e) = same_Some (y, d) (x, e) h in
    (ap (λ (z : (ℕ × ℕ) × Event). Some z.0) same, ap (λ (z : (ℕ × ℕ) × Event). z.1) same)

pub sends_is : (P : List Step) (s : Step) (x : ℕ × ℕ) (e : Event) → sends P s ≡ Some (x, e) → Sends P s x e
sends_is P (Done l (Forwarded d)) x e h =
    let parts = with_event_is d (next_pair P l) x e h in record { lane = l; next = parts.0; is = inl (ap (λ c. Done l (Forwarded c)) parts.1) }
sends_is P (More l d) x e h = let parts = with_event_is d (next_pair P l) x e h in record { lane = l; next = parts.0; is = inr (ap (More l) parts.1) }
sends_is P (Done l Released) x e h = absurd (none-some (x, e) h)
sends_is P (Accept q d s) x e h = absurd (none-some (x, e) h)
sends_is P (Give l q n) x e h = absurd (none-some (x, e) h)
sends_is P (Turned l d) x e h = absurd (none-some (x, e) h)
sends_is P (Bounced l) x e h = absurd (none-some (x, e) h)
sends_is P Shut x e h = absurd (none-some (x, e) h)

pub sending_done : (P : List Step) (l : ℕ) (x : ℕ × ℕ) (e : Event) → next_pair P l ≡ Some x → Sends P (Done l (Forwarded e)) x e
sending_done P l x e next = record { lane = l; next = next; is = inl refl }

pub sending_more : (P : List Step) (l : ℕ) (x : ℕ × ℕ) (e : Event) → next_pair P l ≡ Some x → Sends P (More l e) x e
sending_more P l x e next = record { lane = l; next = next; is = inr refl }

pub sends_as : (P : List Step) (s : Step) (x : ℕ × ℕ) (e : Event) → Sends P s x e → sends P s ≡ Some (x, e)
sends_as P s x e h = ⊎_elim (λ is. ap (sends P) is ∙ ap (with_event e) h.next) (λ is. ap (sends P) is ∙ ap (with_event e) h.next) h.is

-- it neither gives nor accepts
pub sends_gives : (P : List Step) (s : Step) (x : ℕ × ℕ) (e : Event) → Sends P s x e → (q : ℕ) → given_of q s ≡ None
sends_gives P s x e h q = ⊎_elim (λ is. ap (given_of q) is) (λ is. ap (given_of q) is) h.is

pub sends_takes : (P : List Step) (s : Step) (x : ℕ × ℕ) (e : Event) → Sends P s x e → (q n : ℕ) → taken_in q n s ≡ None
sends_takes P s x e h q n = ⊎_elim (λ is. ap (taken_in q n) is) (λ is. ap (taken_in q n) is) h.is

-- ---- accepted, out, answers, hand, taken, sources

pub accepted-push : (P : List Step) (q : ℕ) (s : Step) → accepted (P ++ s ∷ []) q ≡ accepted P q ++ cons_option (accepted_in q s) []
unfolding accepted
accepted-push P q s = filter_map-push (accepted_in q) P s

pub accepted-some : (P : List Step) (q : ℕ) (s : Step) (e : Event) → accepted_in q s ≡ Some e → accepted (P ++ s ∷ []) q ≡ accepted P q ++ e ∷ []
unfolding accepted
accepted-some P q s e h = more_some (accepted_in q) P s e h

pub accepted-none : (P : List Step) (q : ℕ) (s : Step) → accepted_in q s ≡ None → accepted (P ++ s ∷ []) q ≡ accepted P q
unfolding accepted
accepted-none P q s h = more_none (accepted_in q) P s h

pub out-push : (P : List Step) (l : ℕ) (s : Step) → out (P ++ s ∷ []) l ≡ out P l ++ cons_option (given_to l s) []
unfolding out
out-push P l s = filter_map-push (given_to l) P s

pub out-some : (P : List Step) (l : ℕ) (s : Step) (x : ℕ × ℕ) → given_to l s ≡ Some x → out (P ++ s ∷ []) l ≡ out P l ++ x ∷ []
unfolding out
out-some P l s x h = more_some (given_to l) P s x h

pub out-none : (P : List Step) (l : ℕ) (s : Step) → given_to l s ≡ None → out (P ++ s ∷ []) l ≡ out P l
unfolding out
out-none P l s h = more_none (given_to l) P s h

pub answers-push : (P : List Step) (l : ℕ) (s : Step) → answers (P ++ s ∷ []) l ≡ answers P l ++ cons_option (answer_of l s) []
unfolding answers
answers-push P l s = filter_map-push (answer_of l) P s

pub answers-some : (P : List Step) (l : ℕ) (s : Step) (o : Outcome) → answer_of l s ≡ Some o → answers (P ++ s ∷ []) l ≡ answers P l ++ o ∷ []
unfolding answers
answers-some P l s o h = more_some (answer_of l) P s o h

pub answers-none : (P : List Step) (l : ℕ) (s : Step) → answer_of l s ≡ None → answers (P ++ s ∷ []) l ≡ answers P l
unfolding answers
answers-none P l s h = more_none (answer_of l) P s h

pub hand-push : (P : List Step) (q : ℕ) (s : Step) → hand (P ++ s ∷ []) q ≡ hand P q ++ cons_option (given_of q s) []
unfolding hand
hand-push P q s = filter_map-push (given_of q) P s

pub hand-some : (P : List Step) (q : ℕ) (s : Step) (n : ℕ) → given_of q s ≡ Some n → hand (P ++ s ∷ []) q ≡ hand P q ++ n ∷ []
unfolding hand
hand-some P q s n h = more_some (given_of q) P s n h

pub hand-none : (P : List Step) (q : ℕ) (s : Step) → given_of q s ≡ None → hand (P ++ s ∷ []) q ≡ hand P q
unfolding hand
hand-none P q s h = more_none (given_of q) P s h

pub taken-push : (P : List Step) (q n : ℕ) (s : Step) → taken (P ++ s ∷ []) q n ≡ taken P q n ++ cons_option (taken_in q n s) []
unfolding taken
taken-push P q n s = filter_map-push (taken_in q n) P s

pub taken-some : (P : List Step) (q n : ℕ) (s : Step) (e : Event) → taken_in q n s ≡ Some e → taken (P ++ s ∷ []) q n ≡ taken P q n ++ e ∷ []
unfolding taken
taken-some P q n s e h = more_some (taken_in q n) P s e h

pub taken-none : (P : List Step) (q n : ℕ) (s : Step) → taken_in q n s ≡ None → taken (P ++ s ∷ []) q n ≡ taken P q n
unfolding taken
taken-none P q n s h = more_none (taken_in q n) P s h

pub sources-push : (P : List Step) (q : ℕ) (s : Step) → sources (P ++ s ∷ []) q ≡ sources P q ++ cons_option (source_in q s) []
unfolding sources
sources-push P q s = filter_map-push (source_in q) P s

pub sources-some : (P : List Step) (q : ℕ) (s : Step) (n : ℕ) → source_in q s ≡ Some n → sources (P ++ s ∷ []) q ≡ sources P q ++ n ∷ []
unfolding sources
sources-some P q s n h = more_some (source_in q) P s n h

pub sources-none : (P : List Step) (q : ℕ) (s : Step) → source_in q s ≡ None → sources (P ++ s ∷ []) q ≡ sources P q
unfolding sources
sources-none P q s h = more_none (source_in q) P s h

-- ---- ended, sent, forwards

pub ended-push : (P : List Step) (s : Step) → ended (P ++ s ∷ []) ≡ ended P ++ cons_option (ends P s) []
unfolding ended
ended-push P s = with_past-push ends [] P s

pub ended-some : (P : List Step) (s : Step) (x : ℕ × ℕ) → ends P s ≡ Some x → ended (P ++ s ∷ []) ≡ ended P ++ x ∷ []
ended-some P s x h = ended-push P s ∙ ap (λ o. ended P ++ cons_option o []) h

pub ended-none : (P : List Step) (s : Step) → ends P s ≡ None → ended (P ++ s ∷ []) ≡ ended P
ended-none P s h = ended-push P s ∙ (ap (λ o. ended P ++ cons_option o []) h ∙ append-nil (ended P))

pub sent-push : (P : List Step) (s : Step) → sent (P ++ s ∷ []) ≡ sent P ++ cons_option (sends P s) []
unfolding sent
sent-push P s = with_past-push sends [] P s

pub sent-some : (P : List Step) (s : Step) (y : (ℕ × ℕ) × Event) → sends P s ≡ Some y → sent (P ++ s ∷ []) ≡ sent P ++ y ∷ []
sent-some P s y h = sent-push P s ∙ ap (λ o. sent P ++ cons_option o []) h

pub sent-none : (P : List Step) (s : Step) → sends P s ≡ None → sent (P ++ s ∷ []) ≡ sent P
sent-none P s h = sent-push P s ∙ (ap (λ o. sent P ++ cons_option o []) h ∙ append-nil (sent P))

pub forwards-none : (P : List Step) (q n : ℕ) (s : Step) → sends P s ≡ None → forwards (P ++ s ∷ []) q n ≡ forwards P q n
unfolding forwards
forwards-none P q n s h = ap (filter_map (sent_for q n)) (sent-none P s h)

-- at a step that passes an event on
pub forwards-sends : (P : List Step) (q n : ℕ) (s : Step) (y : (ℕ × ℕ) × Event) → sends P s ≡ Some y
    → forwards (P ++ s ∷ []) q n ≡ forwards P q n ++ cons_option (sent_for q n y) []
unfolding forwards
forwards-sends P q n s y h = ap (filter_map (sent_for q n)) (sent-some P s y h) ∙ filter_map-push (sent_for q n) (sent P) y

pub forwards-some : (P : List Step) (q n : ℕ) (s : Step) (e : Event) → sends P s ≡ Some ((q, n), e)
    → forwards (P ++ s ∷ []) q n ≡ forwards P q n ++ e ∷ []
forwards-some P q n s e h = forwards-sends P q n s ((q, n), e) h ∙ ap (λ o. forwards P q n ++ cons_option o []) (sent_for-same q n e)

pub forwards-other : (P : List Step) (q n : ℕ) (s : Step) (x : ℕ × ℕ) (e : Event) → sends P s ≡ Some (x, e) → is_pair q n x ≡ false
    → forwards (P ++ s ∷ []) q n ≡ forwards P q n
forwards-other P q n s x e h k =
    forwards-sends P q n s (x, e) h ∙ (ap (λ o. forwards P q n ++ cons_option o []) (sent_for-other q n x e k) ∙ append-nil (forwards P q n))

-- whatever the step: the forwards only grow
pub forwards-push : (P : List Step) (q n : ℕ) (s : Step) → forwards (P ++ s ∷ []) q n ≡ forwards P q n ++ filter_map (sent_for q n)
    (cons_option (sends P s) [])
unfolding forwards
forwards-push P q n s = ap (filter_map (sent_for q n)) (sent-push P s) ∙ filter_map-append (sent_for q n) (sent P) (cons_option (sends P s) [])

-- at an answer, and at an addition
pub done_forwards : (P : List Step) (l : ℕ) (o : Outcome) (x : ℕ × ℕ) → next_pair P l ≡ Some x
    → forwards (P ++ Done l o ∷ []) x.0 x.1 ≡ forwards P x.0 x.1 ++ events_of o
done_forwards P l (Forwarded e) x next = forwards-some P x.0 x.1 (Done l (Forwarded e)) e (ap (with_event e) next)
done_forwards P l Released x next = forwards-none P x.0 x.1 (Done l Released) refl ∙ sym (append-nil (forwards P x.0 x.1))

pub done_forwards_other : (P : List Step) (l : ℕ) (o : Outcome) (x : ℕ × ℕ) (q n : ℕ) → next_pair P l ≡ Some x → is_pair q n x ≡ false
    → forwards (P ++ Done l o ∷ []) q n ≡ forwards P q n
done_forwards_other P l (Forwarded e) x q n next other = forwards-other P q n (Done l (Forwarded e)) x e (ap (with_event e) next) other
done_forwards_other P l Released x q n next other = forwards-none P q n (Done l Released) refl

pub more_forwards : (P : List Step) (l : ℕ) (e : Event) (x : ℕ × ℕ) → next_pair P l ≡ Some x
    → forwards (P ++ More l e ∷ []) x.0 x.1 ≡ forwards P x.0 x.1 ++ e ∷ []
more_forwards P l e x next = forwards-some P x.0 x.1 (More l e) e (ap (with_event e) next)

pub more_forwards_other : (P : List Step) (l : ℕ) (e : Event) (x : ℕ × ℕ) (q n : ℕ) → next_pair P l ≡ Some x → is_pair q n x ≡ false
    → forwards (P ++ More l e ∷ []) q n ≡ forwards P q n
more_forwards_other P l e x q n next other = forwards-other P q n (More l e) x e (ap (with_event e) next) other

-- an answer passes on one event at most
pub events_few : (o : Outcome) → length (events_of o) ≤ 1
events_few (Forwarded e) = omega arith
events_few Released = omega arith

-- ---- extras

pub extras-push : (P : List Step) (l : ℕ) (s : Step) → extras (P ++ s ∷ []) l ≡ add_more l (extras P l) s
unfolding extras
extras-push P l s = fold-append (add_more l) [] P (s ∷ [])

pub extras-more : (P : List Step) (l : ℕ) (e : Event) → extras (P ++ More l e ∷ []) l ≡ extras P l ++ e ∷ []
extras-more P l e = extras-push P l (More l e) ∙ cond-true (l == l) (extras P l ++ e ∷ []) (extras P l) (eqb_same l)

pub extras-more_other : (P : List Step) (l m : ℕ) (e : Event) → m ≢ l → extras (P ++ More m e ∷ []) l ≡ extras P l
extras-more_other P l m e h = extras-push P l (More m e) ∙ cond-false (m == l) (extras P l ++ e ∷ []) (extras P l) (eqb_other m l h)

pub extras-done : (P : List Step) (l : ℕ) (o : Outcome) → extras (P ++ Done l o ∷ []) l ≡ []
extras-done P l o = extras-push P l (Done l o) ∙ cond-true (l == l) [] (extras P l) (eqb_same l)

pub extras-done_other : (P : List Step) (l m : ℕ) (o : Outcome) → m ≢ l → extras (P ++ Done m o ∷ []) l ≡ extras P l
extras-done_other P l m o h = extras-push P l (Done m o) ∙ cond-false (m == l) [] (extras P l) (eqb_other m l h)

-- ---- is_answered

pub is_answered-push : (P : List Step) (q n : ℕ) (s : Step) → is_answered (P ++ s ∷ []) q
    n ≡ (is_answered P q n || list_any (is_pair q n) (cons_option (ends P s) []))
is_answered-push P q n s = ap (list_any (is_pair q n)) (ended-push P s) ∙ list_any-append (is_pair q n) (ended P) (cons_option (ends P s) [])

pub is_answered-more : (P : List Step) (q n : ℕ) (s : Step) → is_answered P q n ≡ true → is_answered (P ++ s ∷ []) q n ≡ true
is_answered-more P q n s h = is_answered-push P q n s ∙ or_left (is_answered P q n) (list_any (is_pair q n) (cons_option (ends P s) [])) h

pub is_answered-none : (P : List Step) (q n : ℕ) (s : Step) → ends P s ≡ None → is_answered (P ++ s ∷ []) q n ≡ is_answered P q n
is_answered-none P q n s h = ap (list_any (is_pair q n)) (ended-none P s h)

pub is_answered-same : (P : List Step) (q n : ℕ) (s : Step) → ends P s ≡ Some (q, n) → is_answered (P ++ s ∷ []) q n ≡ true
is_answered-same P q n s h =
    ap (list_any (is_pair q n)) (ended-some P s (q, n) h) ∙ (list_any-push (is_pair q n) (ended P) (q, n)
    ∙ or_right (is_answered P q n) (is_pair q n (q, n)) (is_pair-same q n))

pub is_answered-other : (P : List Step) (q n : ℕ) (s : Step) (x : ℕ × ℕ) → ends P s ≡ Some x → is_pair q n x ≡ false
    → is_answered (P ++ s ∷ []) q n ≡ is_answered P q n
is_answered-other P q n s x h k =
    ap (list_any (is_pair q n)) (ended-some P s x h) ∙ (list_any-push (is_pair q n) (ended P) x
    ∙ (ap (λ b. is_answered P q n || b) k ∙ or-false (is_answered P q n)))

-- ---- unanswered

-- how many pairs the step answers of those of the lane
abbrev pub done_count : ℕ → Step → ℕ
done_count l s = length (cons_option (answer_of l s) [])

pub unanswered-push : (P : List Step) (l : ℕ) (s : Step) → length (answers P l) ≤ length (out P l)
    → unanswered (P ++ s ∷ []) l ≡ drop (done_count l s) (unanswered P l ++ cons_option (given_to l s) [])
unfolding unanswered
unanswered-push P l s h =
    ap (λ xs. drop (length xs) (out (P ++ s ∷ []) l)) (answers-push P l s)
    ∙ (ap (λ n. drop n (out (P ++ s ∷ []) l)) (length-append (answers P l) (cons_option (answer_of l s) []))
    ∙ (ap (drop (length (answers P l) + done_count l s)) (out-push P l s)
    ∙ drop_more_items (length (answers P l)) (done_count l s) (out P l) (cons_option (given_to l s) []) h))

pub unanswered-none : (P : List Step) (l : ℕ) (s : Step) → answer_of l s ≡ None → given_to l s ≡ None → unanswered (P ++ s ∷ []) l ≡ unanswered P l
unfolding unanswered
unanswered-none P l s h k =
    ap (λ xs. drop (length xs) (out (P ++ s ∷ []) l)) (answers-none P l s h) ∙ ap (drop (length (answers P l))) (out-none P l s k)

pub unanswered-gives : (P : List Step) (l : ℕ) (s : Step) (x : ℕ × ℕ) → length (answers P l) ≤ length (out P l) → answer_of l s ≡ None
    → given_to l s ≡ Some x → unanswered (P ++ s ∷ []) l ≡ unanswered P l ++ x ∷ []
unanswered-gives P l s x h j k =
    unanswered-push P l s h ∙ (ap (λ o. drop (length (cons_option o [])) (unanswered P l ++ cons_option (given_to l s) [])) j
    ∙ ap (λ o. unanswered P l ++ cons_option o []) k)

pub unanswered-done : (P : List Step) (l : ℕ) (o : Outcome) → length (answers P l) ≤ length (out P l)
    → unanswered (P ++ Done l o ∷ []) l ≡ drop 1 (unanswered P l)
unanswered-done P l o h =
    unanswered-push P l (Done l o) h ∙ (ap (λ a. drop (length (cons_option a [])) (unanswered P l ++ [])) (answer_of-same l o)
    ∙ ap (drop 1) (append-nil (unanswered P l)))

-- a lane that answered all that it was given
all_answered : (P : List Step) (l : ℕ) → length (out P l) ≤ length (answers P l) → unanswered P l ≡ []
unfolding unanswered
all_answered P l past = drop_all (length (answers P l)) (out P l) past

-- ---- next_pair

pub length-unanswered : (P : List Step) (l : ℕ) → length (unanswered P l) ≡ length (out P l) - length (answers P l)
unfolding unanswered
length-unanswered P l = length-drop (length (answers P l)) (out P l)

pub next_pair-some : (P : List Step) (l : ℕ) → 0 < length (unanswered P l) → (x : ℕ × ℕ) × (next_pair P l ≡ Some x)
next_pair-some P l h = slice_get-some (out P l) (length (answers P l)) (omega (arith, length-unanswered P l))

-- it is the first unanswered one
pub unanswered-next : (P : List Step) (l : ℕ) (x : ℕ × ℕ) → next_pair P l ≡ Some x → unanswered P l ≡ x ∷ drop 1 (unanswered P l)
unfolding unanswered
unanswered-next P l x h =
    first (drop (length (answers P l)) (out P l)) (drop (length (answers P l) + 1) (out P l)) (drop-slice_get (out P l) (length (answers P l)) x h)
  where
    first : (xs ys : List (ℕ × ℕ)) → xs ≡ x ∷ ys → xs ≡ x ∷ drop 1 xs
    first xs ys e = rw e

-- it stays the next where the step answers none of the lane's
pub next_pair-stays : (P : List Step) (l : ℕ) (s : Step) (x : ℕ × ℕ) → answer_of l s ≡ None → next_pair P l ≡ Some x → next_pair (P ++ s ∷ []) l ≡ Some x
next_pair-stays P l s x none next =
    ap (λ es. slice_get (out (P ++ s ∷ []) l) (length es)) (answers-none P l s none)
    ∙ (ap (λ xs. slice_get xs (length (answers P l))) (out-push P l s)
    ∙ (slice_get-append_left (out P l) (cons_option (given_to l s) []) (length (answers P l))
    (slice_get_within (out P l) (length (answers P l)) x next) ∙ next))

-- and it was the next before, or nothing was unanswered and the step gives it
pub next_pair-was : (P : List Step) (l : ℕ) (s : Step) (x : ℕ × ℕ) → length (answers P l) ≤ length (out P l) → answer_of l s ≡ None
    → next_pair (P ++ s ∷ []) l ≡ Some x → (next_pair P l ≡ Some x) ⊎ ((unanswered P l ≡ []) × (given_to l s ≡ Some x))
next_pair-was P l s x fewer none next = ⊎_elim old new (cases_lt (length (answers P l)) (length (out P l)))
  where
    old : length (answers P l) < length (out P l) → (next_pair P l ≡ Some x) ⊎ ((unanswered P l ≡ []) × (given_to l s ≡ Some x))
    old some =
        let was = slice_get-some (out P l) (length (answers P l)) some in
        inl (was.1 ∙ (sym (next_pair-stays P l s was.0 none was.1) ∙ next))

    given_is : (o : Option (ℕ × ℕ)) (ys : List (ℕ × ℕ)) → cons_option o [] ≡ x ∷ ys → o ≡ Some x
    given_is None ys e = cc
    given_is (Some y) ys e = cc

    new : length (out P l) ≤ length (answers P l) → (next_pair P l ≡ Some x) ⊎ ((unanswered P l ≡ []) × (given_to l s ≡ Some x))
    new past =
        let empty : unanswered P l ≡ [] = all_answered P l past in
        let left : unanswered (P ++ s ∷ []) l ≡ cons_option (given_to l s) [] =
        unanswered-push P l s fewer ∙ (ap (λ o. drop (length (cons_option o [])) (unanswered P l ++ cons_option (given_to l s) [])) none
        ∙ ap (λ xs. xs ++ cons_option (given_to l s) []) empty) in
        inr (empty, given_is (given_to l s) (drop 1 (unanswered (P ++ s ∷ []) l)) (sym left ∙ unanswered-next (P ++ s ∷ []) l x next))

-- ---- numbers, events and slots of accepted events

pub entered-none : (P : List Step) (q : ℕ) (s : Step) → accepted_in q s ≡ None → entered (P ++ s ∷ []) q ≡ entered P q
entered-none P q s h = ap (numbered 0) (accepted-none P q s h)

pub event_at-none : (P : List Step) (q n : ℕ) (s : Step) → accepted_in q s ≡ None → event_at (P ++ s ∷ []) q n ≡ event_at P q n
event_at-none P q n s h = ap (λ es. slice_get es n) (accepted-none P q s h)

-- an accepted event keeps its number and its slot
pub event_at-more : (P : List Step) (q n : ℕ) (s : Step) → n < length (accepted P q) → event_at (P ++ s ∷ []) q n ≡ event_at P q n
event_at-more P q n s h =
    ap (λ es. slice_get es n) (accepted-push P q s) ∙ slice_get-append_left (accepted P q) (cons_option (accepted_in q s) []) n h

pub slot_at-none : (p : Plan) (P : List Step) (q n : ℕ) (s : Step) → accepted_in q s ≡ None → slot_at p (P ++ s ∷ []) q n ≡ slot_at p P q n
slot_at-none p P q n s h = ap (slot_if p q) (event_at-none P q n s h)

pub slot_at-more : (p : Plan) (P : List Step) (q n : ℕ) (s : Step) → n < length (accepted P q) → slot_at p (P ++ s ∷ []) q n ≡ slot_at p P q n
slot_at-more p P q n s h = ap (slot_if p q) (event_at-more P q n s h)

pub held_at-more : (p : Plan) (P : List Step) (x : ℕ × ℕ) (s : Step) → x.1 < length (accepted P x.0) → held_at p (P ++ s ∷ []) x ≡ held_at p P x
held_at-more p P x s h = ap (λ k. record { queue = x.0; number = x.1; slot = k }) (slot_at-more p P x.0 x.1 s h)

pub accepted-length_more : (P : List Step) (q : ℕ) (s : Step) → length (accepted P q) ≤ length (accepted (P ++ s ∷ []) q)
accepted-length_more P q s = omega (arith, ap length (accepted-push P q s), length-append (accepted P q) (cons_option (accepted_in q s) []))

-- ---- unanswered_slots

-- the pair's number is an accepted event's
abbrev pub HasEvent : List Step → ℕ × ℕ → Type 0
HasEvent T x = x.1 < length (accepted T x.0)

-- what the step brings to the lane, with its slot
abbrev pub brings : Plan → List Step → ℕ → Step → List Held
brings p P l s = map (held_at p (P ++ s ∷ [])) (cons_option (given_to l s) [])

pub unanswered_slots-push : (p : Plan) (P : List Step) (l : ℕ) (s : Step) → length (answers P l) ≤ length (out P l)
    → All (HasEvent P) (unanswered P l) → unanswered_slots p (P ++ s ∷ []) l ≡ drop (done_count l s) (unanswered_slots p P l ++ brings p P l s)
unanswered_slots-push p P l s h all =
    ap (map (held_at p (P ++ s ∷ []))) (unanswered-push P l s h)
    ∙ (sym (drop-map (held_at p (P ++ s ∷ [])) (done_count l s) (unanswered P l ++ cons_option (given_to l s) []))
    ∙ ap (drop (done_count l s)) (map-append (held_at p (P ++ s ∷ [])) (unanswered P l) (cons_option (given_to l s) [])
    ∙ ap (λ xs. xs ++ brings p P l s) (map_agree (held_at p (P ++ s ∷ [])) (held_at p P) (unanswered P l)
    (All-weaker (HasEvent P) (λ x. held_at p (P ++ s ∷ []) x ≡ held_at p P x) (λ x k. held_at-more p P x s k) (unanswered P l) all))))

-- ---- kept

pub kept_of-none : (P : List Step) (q n : ℕ) (s : Step) → sends P s ≡ None → taken_in q n s ≡ None → kept_of (P ++ s ∷ []) q n ≡ kept_of P q n
kept_of-none P q n s h k =
    ap (λ es. drop (length es) (forwards (P ++ s ∷ []) q n)) (taken-none P q n s k) ∙ ap (drop (length (taken P q n))) (forwards-none P q n s h)

-- no event is kept of a number that wasn't passed on
pub kept_of-nil : (P : List Step) (q n : ℕ) → forwards P q n ≡ [] → kept_of P q n ≡ []
kept_of-nil P q n h = ap (drop (length (taken P q n))) h ∙ drop_all (length (taken P q n)) [] (omega arith)

pub kept-none : (P : List Step) (q : ℕ) (s : Step) → given_of q s ≡ None → sends P s ≡ None → ((n : ℕ) → taken_in q n s ≡ None)
    → kept (P ++ s ∷ []) q ≡ kept P q
unfolding kept
kept-none P q s h j k =
    ap (flat_map (λ n. map (λ e. (n, e)) (kept_of (P ++ s ∷ []) q n))) (hand-none P q s h)
    ∙ flat_map-agree (λ n. map (λ e. (n, e)) (kept_of (P ++ s ∷ []) q n)) (λ n. map (λ e. (n, e)) (kept_of P q n)) (hand P q)
    (λ i d _. ap (map (λ e. (get_or (hand P q) i d, e))) (kept_of-none P q (get_or (hand P q) i d) s j (k (get_or (hand P q) i d))))

-- a number that is given, and that wasn't passed on
pub kept-gives : (P : List Step) (q : ℕ) (s : Step) (n : ℕ) → given_of q s ≡ Some n → sends P s ≡ None → ((m : ℕ) → taken_in q m s ≡ None)
    → forwards P q n ≡ [] → kept (P ++ s ∷ []) q ≡ kept P q
unfolding kept
kept-gives P q s n h j k none =
    let f = λ (m : ℕ). map (λ (e : Event). (m, e)) (kept_of P q m) in
    ap (flat_map (λ m. map (λ e. (m, e)) (kept_of (P ++ s ∷ []) q m))) (hand-some P q s n h)
    ∙ (flat_map-agree (λ m. map (λ e. (m, e)) (kept_of (P ++ s ∷ []) q m)) f (hand P q ++ n ∷ [])
    (λ i d _. let m = get_or (hand P q ++ n ∷ []) i d in ap (map (λ e. (m, e))) (kept_of-none P q m s j (k m)))
    ∙ (flat_map-append f (hand P q) (n ∷ []) ∙ (ap (λ es. flat_map f (hand P q) ++ (map (λ e. (n, e)) es ++ [])) (kept_of-nil P q n none)
    ∙ append-nil (flat_map f (hand P q)))))

pub length-kept : (P : List Step) (q : ℕ) → length (kept P q) ≡ sum_by (λ n. length (kept_of P q n)) (hand P q)
unfolding kept
length-kept P q =
    length-flat_map (λ n. map (λ e. (n, e)) (kept_of P q n)) (hand P q) ∙ simp length-map

-- ---- open_of

-- no answer opens a place
pub open_of-le : (P : List Step) (q : ℕ) (s : Step) → given_of q s ≡ None → length (open_of (P ++ s ∷ []) q) ≤ length (open_of P q)
unfolding open_of
open_of-le P q s h = rw (hand-none P q s h) (from_first_le (is_answered P q) (is_answered (P ++ s ∷ []) q) (hand P q) (λ n. is_answered-more P q n s))

-- a number that is given and hasn't been answered
pub open_of-some : (P : List Step) (q : ℕ) (s : Step) (n : ℕ) → given_of q s ≡ Some n → ends P s ≡ None → is_answered P q n ≡ false
    → open_of (P ++ s ∷ []) q ≡ open_of P q ++ n ∷ []
unfolding open_of
open_of-some P q s n h j k =
    ap (from_first (is_answered (P ++ s ∷ []) q)) (hand-some P q s n h)
    ∙ (from_first-agree (is_answered (P ++ s ∷ []) q) (is_answered P q) (hand P q ++ n ∷ []) (λ m. is_answered-none P q m s j)
    ∙ from_first-push (is_answered P q) (hand P q) n k)

-- ---- has_shut

pub has_shut-push : (P : List Step) (s : Step) → has_shut (P ++ s ∷ []) ≡ (has_shut P || is_shut s)
has_shut-push P s = list_any-push is_shut P s

pub has_shut-none : (P : List Step) (s : Step) → is_shut s ≡ false → has_shut (P ++ s ∷ []) ≡ has_shut P
has_shut-none P s h = has_shut-push P s ∙ (ap (λ b. has_shut P || b) h ∙ or-false (has_shut P))
