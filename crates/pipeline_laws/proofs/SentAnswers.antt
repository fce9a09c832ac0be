-- Where no event was added beside another, what was sent is what the lanes answered: a forwarded event stands among some lane's answers,
-- at the place at which its pair was given.
use Rattle.std.proofs.Common.{◌≡◌, ℕ, ◌<◌, ◌≤◌, true, false, List, [], ◌∷◌, ◌++◌, length, All, Contains, Option, Some, None, slice_get, ◌⊎◌, inl, inr, ⊎_elim, refl, sym, ap, ◌∙◌, subst, arith, append-nil}
use Rattle.std.specs.List.{cons_option}
use Rattle.std.proofs.lemmas.Bool.{cases_lt, false≢true}
use Rattle.std.proofs.lemmas.List.{length_push}
use Rattle.std.proofs.lemmas.List.Elements.{All-nil, All-weaker, Contains-append_left, Contains-push}
use Rattle.std.proofs.lemmas.Option.{none-some, same_Some, slice_get_within, slice_get_past}
use Rattle.evt_types.specs.Plan.{Plan}
use Rattle.evt_types.specs.declared.event.Event.{Event}
use Rattle.evt_types.specs.declared.step.Outcome.{Outcome}
use Rattle.evt_types.specs.declared.step.Outcome.TheVariants.{Forwarded}
use Rattle.evt_types.specs.declared.step.Step.{Step}
use Rattle.evt_types.specs.declared.step.Step.TheVariants.{Done}
use Rattle.lists.specs.Lists.{has}
use Rattle.lists.proofs.Lists.{All-front, All-last, All-option, has-Contains, slice_get-append_left, slice_get-last}
use Rattle.pipeline_laws.proofs.Members.{from_filter_map, into_filter_map, slice_get-Contains}
use Rattle.transcripts.proofs.Facts.{Facts, Facts-none, Facts-push, AllowedAfter_keeps}
use Rattle.transcripts.proofs.Pushes.{answer_of_is, answer_of-same, answers-push, answers-some, given_of_is, given_to-same, out-push, out-none, sends_is, sent-push, sent-some}
use Rattle.transcripts.specs.Allowed.{Allowed, AllowedAfter}
use Rattle.transcripts.specs.Laws.{AddsNone}
use Rattle.transcripts.specs.Transcript.{answer_of, answers, given_of, given_to, hand, is_more, next_pair, out, sends, sent, with_event}

-- the event was the answer of a lane at the place where it was given the pair
abbrev pub IsAnswered : List Step → ℕ × ℕ → Event → Type 0
IsAnswered T x e = (l i : ℕ) × (slice_get (out T l) i ≡ Some x) × (slice_get (answers T l) i ≡ Some (Forwarded e))

pub record Sent (p : Plan) (T : List Step) : Type 0 where
  pub facts : Facts p T
  pub from : All (λ (y : (ℕ × ℕ) × Event). IsAnswered T y.0 y.1) (sent T)
  pub to : (l i : ℕ) (x : ℕ × ℕ) (e : Event) → slice_get (out T l) i ≡ Some x → slice_get (answers T l) i ≡ Some (Forwarded e) → Contains (sent T) (x, e)

-- ---- what a step sends that adds no event

answer_sent : (P : List Step) (s : Step) (x : ℕ × ℕ) (e : Event) → is_more s ≡ false → sends P s ≡ Some (x, e)
    → (l : ℕ) × (s ≡ Done l (Forwarded e)) × (next_pair P l ≡ Some x)
answer_sent P s x e adds h =
    let sending = sends_is P s x e h in
    ⊎_elim (λ is. (sending.lane, is, sending.next)) (λ is. absurd (false≢true (sym adds ∙ ap is_more is))) sending.is

-- ---- one step more

out_stays : (P : List Step) (s : Step) (l i : ℕ) (x : ℕ × ℕ) → slice_get (out P l) i ≡ Some x → slice_get (out (P ++ s ∷ []) l) i ≡ Some x
out_stays P s l i x e =
    ap (λ ys. slice_get ys i) (out-push P l s)
    ∙ (slice_get-append_left (out P l) (cons_option (given_to l s) []) i (slice_get_within (out P l) i x e) ∙ e)

answers_stay : (P : List Step) (s : Step) (l i : ℕ) (o : Outcome) → slice_get (answers P l) i ≡ Some o → slice_get (answers (P ++ s ∷ []) l) i ≡ Some o
answers_stay P s l i o e =
    ap (λ ys. slice_get ys i) (answers-push P l s)
    ∙ (slice_get-append_left (answers P l) (cons_option (answer_of l s) []) i (slice_get_within (answers P l) i o e) ∙ e)

-- an answer of the longer transcript was one before, or is the step's
answer_was : (P : List Step) (s : Step) (l i : ℕ) (o : Outcome) → slice_get (answers (P ++ s ∷ []) l) i ≡ Some o
    → (slice_get (answers P l) i ≡ Some o) ⊎ ((i ≡ length (answers P l)) × (s ≡ Done l o))
answer_was P s l i o e = ⊎_elim (λ lt. inl (before lt)) (λ le. inr (last le (answer_of l s) refl)) (cases_lt i (length (answers P l)))
  where
    before : i < length (answers P l) → slice_get (answers P l) i ≡ Some o
    before lt =
        sym (slice_get-append_left (answers P l) (cons_option (answer_of l s) []) i lt)
        ∙ (ap (λ ys. slice_get ys i) (sym (answers-push P l s)) ∙ e)

    last : length (answers P l) ≤ i → (a : Option Outcome) → answer_of l s ≡ a → (i ≡ length (answers P l)) × (s ≡ Done l o)
    last le None is =
        let same : answers (P ++ s ∷ []) l ≡ answers P l = answers-push P l s ∙ (ap (λ a. answers P l ++ cons_option a []) is ∙ append-nil (answers P l)) in
        absurd (none-some o (sym (slice_get_past (answers P l) i le) ∙ (ap (λ ys. slice_get ys i) (sym same) ∙ e)))
    last le (Some a) is =
        let longer : answers (P ++ s ∷ []) l ≡ answers P l ++ a ∷ [] = answers-some P l s a is in
        let within = slice_get_within (answers (P ++ s ∷ []) l) i o e in
        let place : i ≡ length (answers P l) = omega (arith, ap length longer, length_push (answers P l) a) in
        let there : slice_get (answers P l ++ a ∷ []) (length (answers P l)) ≡ Some o =
        ap (slice_get (answers P l ++ a ∷ [])) (sym place) ∙ (ap (λ ys. slice_get ys i) (sym longer) ∙ e) in
        let same : a ≡ o = same_Some a o (sym (slice_get-last (answers P l) a) ∙ there) in
        (place, answer_of_is l s a is ∙ ap (Done l) same)

Sent-none : (p : Plan) → Sent p []
unfolding sent out answers
Sent-none p = record {
  facts = Facts-none p;
  from = All-nil (λ (y : (ℕ × ℕ) × Event). IsAnswered [] y.0 y.1);
  to = λ l i x e given answered. absurd (none-some x given);
}

Sent-push : (p : Plan) (P : List Step) (s : Step) → is_more s ≡ false → Sent p P → Allowed p P s → Sent p (P ++ s ∷ [])
Sent-push p P s adds h a = record {
  facts = Facts-push p P s h.facts a;
  from =
      rw (sent-push P s) (All-option (λ (y : (ℕ × ℕ) × Event). IsAnswered (P ++ s ∷ []) y.0 y.1) (sent P) (sends P s)
      (All-weaker (λ (y : (ℕ × ℕ) × Event). IsAnswered P y.0 y.1) (λ (y : (ℕ × ℕ) × Event). IsAnswered (P ++ s ∷ []) y.0 y.1)
      (λ y k. (k.0, k.1, out_stays P s k.0 k.1 y.0 k.2, answers_stay P s k.0 k.1 (Forwarded y.1) k.3)) (sent P) h.from) new);
  to = grown;
}
  where
    new : (y : (ℕ × ℕ) × Event) → sends P s ≡ Some y → IsAnswered (P ++ s ∷ []) y.0 y.1
    new y e =
        let done = answer_sent P s y.0 y.1 adds e in
        let answered : answer_of done.0 s ≡ Some (Forwarded y.1) = ap (answer_of done.0) done.1 ∙ answer_of-same done.0 (Forwarded y.1) in (
          done.0,
          length (answers P done.0),
          out_stays P s done.0 (length (answers P done.0)) y.0 done.2,
          ap (λ os. slice_get os (length (answers P done.0))) (answers-some P done.0 s (Forwarded y.1) answered)
              ∙ slice_get-last (answers P done.0) (Forwarded y.1),
        )

    grown : (l i : ℕ) (x : ℕ × ℕ) (e : Event) → slice_get (out (P ++ s ∷ []) l) i ≡ Some x → slice_get (answers (P ++ s ∷ []) l) i ≡ Some (Forwarded e)
        → Contains (sent (P ++ s ∷ [])) (x, e)
    grown l i x e given answered = ⊎_elim old last (answer_was P s l i (Forwarded e) answered)
      where
        was_given : i < length (out P l) → slice_get (out P l) i ≡ Some x
        was_given lt =
            sym (slice_get-append_left (out P l) (cons_option (given_to l s) []) i lt) ∙ (ap (λ ys. slice_get ys i) (sym (out-push P l s)) ∙ given)

        old : slice_get (answers P l) i ≡ Some (Forwarded e) → Contains (sent (P ++ s ∷ [])) (x, e)
        old before =
            let within = slice_get_within (answers P l) i (Forwarded e) before in
            subst (λ ys. Contains ys (x, e)) (sym (sent-push P s))
            (Contains-append_left (sent P) (cons_option (sends P s) []) (x, e) (h.to l i x e (was_given (omega (arith, h.facts.answers l))) before))

        last : (i ≡ length (answers P l)) × (s ≡ Done l (Forwarded e)) → Contains (sent (P ++ s ∷ [])) (x, e)
        last k =
            let same : out (P ++ s ∷ []) l ≡ out P l = out-none P l s (ap (given_to l) k.1) in
            let next : next_pair P l ≡ Some x = ap (slice_get (out P l)) (sym k.0) ∙ (ap (λ ys. slice_get ys i) (sym same) ∙ given) in
            let sending : sends P s ≡ Some (x, e) = ap (sends P) k.1 ∙ ap (with_event e) next in
            subst (λ ys. Contains ys (x, e)) (sym (sent-some P s (x, e) sending)) (Contains-push (sent P) (x, e))

pub Sent-allowed : (p : Plan) (T : List Step) → AddsNone T → AllowedAfter p [] T → Sent p T
Sent-allowed p T adds_none all = AllowedAfter_keeps p (λ P. AddsNone P → Sent p P) push [] T (λ none. Sent-none p) all adds_none
  where
    push : (P : List Step) (s : Step) → (AddsNone P → Sent p P) → Allowed p P s → AddsNone (P ++ s ∷ []) → Sent p (P ++ s ∷ [])
    push P s h a none =
        Sent-push p P s (All-last (λ t. is_more t ≡ false) P s none)
        (h (All-front (λ t. is_more t ≡ false) P (s ∷ []) none)) a

-- ---- a number that was handed out was given to a lane

pub given_has_lane : (T : List Step) (q n : ℕ) → has n (hand T q) ≡ true → (l i : ℕ) × (slice_get (out T l) i ≡ Some (q, n))
unfolding hand out
given_has_lane T q n h =
    let step = from_filter_map (given_of q) T n (has-Contains (hand T q) n h) in
    let give = given_of_is q step.0 n step.2 in
    let there = into_filter_map (given_to give.0) T step.0 (q, n) step.1 (ap (given_to give.0) give.1 ∙ given_to-same give.0 q n) in
    (give.0, there.0, slice_get-Contains (out T give.0) (q, n) there)
