-- (answers), (once), (linked), and the lanes and places of (room), step by step.
use Rattle.std.proofs.Common.{◌≡◌, ◌≢◌, ℕ, ◌+◌, ◌-◌, ◌<◌, ◌≤◌, true, false, List, [], ◌∷◌, ◌++◌, length, All, AllPairs, Contains, Option, Some, None, refl, sym, ap, ◌∙◌, subst, arith}
use Rattle.std.specs.List.{cons_option}
use Rattle.std.proofs.lemmas.List.{length_push, length-append, length-drop}
use Rattle.evt_types.specs.Plan.{Plan, queue_of, slot_of, serves, depth_of, is_ordered}
use Rattle.lists.specs.Lists.{has}
use Rattle.transcripts.specs.Transcript.{accepted, slot_at, given_to, out, answers, unanswered, ends, given_of, hand, waiting, open_of}
use Rattle.transcripts.specs.Lawful.{AnswersWhatItHas, GivesOnce, IsLinked}
use Rattle.transcripts.specs.Allowed.{Needs, MayGiveNumber}
use Rattle.evt_types.specs.declared.event.Numbered.{Numbered}
use Rattle.evt_types.specs.declared.step.Outcome.{Outcome}
use Rattle.evt_types.specs.declared.step.Step.{Step}
use Rattle.evt_types.specs.declared.step.Step.TheVariants.{Give, Done}
use Rattle.lists.proofs.Lists.{has_none, All-option, AllPairs-last, All-weaker_all, All-last, slice_get-some}
use Rattle.transcripts.proofs.Pushes.{HasEvent, given_to-same, given_to_is, answer_of-same, given_of-same, given_of_is, accepted-none, out-push, out-some, out-none, answers-some, hand-some, done_count, unanswered-push, unanswered-gives, length-unanswered, slot_at-more, open_of-le, open_of-some}
use Rattle.transcripts.proofs.Waits.{waits_if}
use Rattle.transcripts.proofs.Facts.{Facts, out_is_accepted, not_answered, gives_accepted}
use Rattle.transcripts.proofs.Alones.{waiting_slot}

-- ---- (answers)

pub done_needs : (P : List Step) (l : ℕ) (o : Outcome) → AnswersWhatItHas (P ++ Done l o ∷ []) → 0 < length (unanswered P l)
done_needs P l o h =
    omega (
      arith,
      h l,
      ap length (answers-some P l (Done l o) o (answer_of-same l o)),
      length_push (answers P l) o,
      ap length
          (out-none P l (Done l o) refl),
      length-unanswered P l,
    )

-- ---- (once)

pub once_more : (p : Plan) (T : List Step) → Facts p T → GivesOnce T
once_more p T f = record { accepted = f.given; once = f.once }

-- what is given then waits before
pub once_needs : (P : List Step) (l q n : ℕ) → GivesOnce (P ++ Give l q n ∷ []) → (w : Numbered) × (w.number ≡ n) × Contains (waiting P q) w
once_needs P l q n h =
    let s = Give l q n in
    let more = hand-some P q s n (given_of-same l q n) in
    let within : n < length (accepted (P ++ s ∷ []) q) =
    All-last (λ m. m < length (accepted (P ++ s ∷ []) q)) (hand P q) n
    (subst (All (λ m. m < length (accepted (P ++ s ∷ []) q))) more (h.accepted q)) in
    let there = slice_get-some (accepted P q) n (omega (arith, within, ap length (accepted-none P q s refl))) in
    let fresh : has n (hand P q) ≡ false =
    has_none n (hand P q) (AllPairs-last (λ j k. j ≢ k) (hand P q) n (subst (AllPairs (λ j k. j ≢ k)) more (h.once q))) in
    (record { number = n; event = there.0 }, refl, waits_if P q n there.0 there.1 fresh)

-- ---- (linked)

abbrev Serves : Plan → List Step → ℕ → ℕ × ℕ → Type 0
Serves p T l x = serves p l x.0 (slot_at p T x.0 x.1) ≡ true

pub linked_more : (p : Plan) (P : List Step) (s : Step) → Facts p P → IsLinked p P → Needs p P s → IsLinked p (P ++ s ∷ [])
linked_more p P s f h needs l =
    rw (out-push P l s) (All-option (Serves p (P ++ s ∷ []) l) (out P l) (given_to l s)
    (All-weaker_all (HasEvent P) (Serves p P l) (Serves p (P ++ s ∷ []) l) (out P l) (out_is_accepted p P l f)
    (λ x a k. ap (serves p l x.0) (slot_at-more p P x.0 x.1 s a) ∙ k) (h l)) new)
  where
    new : (x : ℕ × ℕ) → given_to l s ≡ Some x → Serves p (P ++ s ∷ []) l x
    new x e =
        let give = given_to_is l s x e in
        let may : MayGiveNumber p P l x.0 x.1 = subst (Needs p P) give needs in
        ap (serves p l x.0) (ap (λ t. slot_at p (P ++ t ∷ []) x.0 x.1) give ∙ waiting_slot p P l x.0 x.1 may.0 may.2.once may.1) ∙ may.2.linked

pub linked_needs : (p : Plan) (P : List Step) (l q n : ℕ) (w : Numbered) → IsLinked p (P ++ Give l q n ∷ []) → Contains (waiting P q) w → w.number ≡ n
    → serves p l q (slot_of p q w.event.flow) ≡ true
linked_needs p P l q n w h c e =
    let s = Give l q n in
    let last : Serves p (P ++ s ∷ []) l (q, n) =
    All-last (Serves p (P ++ s ∷ []) l) (out P l) (q, n) (subst (All (Serves p (P ++ s ∷ []) l)) (out-some P l s (q, n) (given_to-same l q n))
    (h l)) in
    ap (serves p l q) (sym (waiting_slot p P l q n w c e)) ∙ last

-- ---- (room): lanes

pub lanes_more : (p : Plan) (P : List Step) (s : Step) → Facts p P → ((l : ℕ) → length (unanswered P l) ≤ depth_of p l) → Needs p P s → (l : ℕ)
    → length (unanswered (P ++ s ∷ []) l) ≤ depth_of p l
lanes_more p P s f h needs l = by_case (given_to l s) refl
  where
    long : length (unanswered (P ++ s ∷ []) l) ≡ length (unanswered P l) + length (cons_option (given_to l s) []) - done_count l s
    long =
        ap length (unanswered-push P l s (f.answers l)) ∙ (length-drop (done_count l s) (unanswered P l ++ cons_option (given_to l s) [])
        ∙ ap (λ n. n - done_count l s) (length-append (unanswered P l) (cons_option (given_to l s) [])))

    by_case : (o : Option (ℕ × ℕ)) → given_to l s ≡ o → length (unanswered (P ++ s ∷ []) l) ≤ depth_of p l
    by_case None e = omega (arith, long, ap (λ u. length (cons_option u [])) e, h l)
    by_case (Some x) e =
        let may : MayGiveNumber p P l x.0 x.1 = subst (Needs p P) (given_to_is l s x e) needs in
        omega (arith, long, ap (λ u. length (cons_option u [])) e, may.2.room)

pub lanes_needs : (p : Plan) (P : List Step) (l q n : ℕ) → Facts p P → length (unanswered (P ++ Give l q n ∷ []) l) ≤ depth_of p l
    → length (unanswered P l) < depth_of p l
lanes_needs p P l q n f h =
    omega (
      arith,
      h,
      ap length (unanswered-gives P l (Give l q n) (q, n) (f.answers l) refl (given_to-same l q n)),
      length_push (unanswered P l)
          (q, n),
    )

-- ---- (room): places

pub places_more : (p : Plan) (P : List Step) (s : Step) (q : ℕ) → Facts p P → is_ordered (queue_of p q).kind ≡ true
    → length (open_of P q) ≤ (queue_of p q).order → Needs p P s → length (open_of (P ++ s ∷ []) q) ≤ (queue_of p q).order
places_more p P s q f ordered h needs = by_case (given_of q s) refl
  where
    by_case : (o : Option ℕ) → given_of q s ≡ o → length (open_of (P ++ s ∷ []) q) ≤ (queue_of p q).order
    by_case None e = omega (arith, open_of-le P q s e)
    by_case (Some n) e =
        let give = given_of_is q s n e in
        let may : MayGiveNumber p P give.0 q n = subst (Needs p P) give.1 needs in
        let fresh = (gives_accepted p P give.0 q n may).1 in
        let more : open_of (P ++ s ∷ []) q ≡ open_of P q ++ n ∷ [] = open_of-some P q s n e (ap (ends P) give.1) (not_answered p P q n f fresh) in
        omega (arith, ap length more, length_push (open_of P q) n, may.2.places ordered)

pub places_needs : (p : Plan) (P : List Step) (l q n : ℕ) → Facts p P → has n (hand P q) ≡ false
    → length (open_of (P ++ Give l q n ∷ []) q) ≤ (queue_of p q).order → length (open_of P q) < (queue_of p q).order
places_needs p P l q n f fresh h =
    omega (
      arith,
      h,
      ap length (open_of-some P q (Give l q n) n (given_of-same l q n) refl (not_answered p P q n f fresh)),
      length_push (open_of P q)
          n,
    )
