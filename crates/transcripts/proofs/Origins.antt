-- (origin), step by step: what was accepted from a number stays a prefix of what it was passed on as.
use Rattle.std.proofs.Common.{◌≡◌, ℕ, ◌≤◌, List, [], ◌∷◌, ◌++◌, length, Option, Some, None, slice_get, filter_map, refl, sym, ap, ◌∙◌, subst, arith, append_assoc}
use Rattle.std.specs.List.{cons_option}
use Rattle.std.proofs.lemmas.List.{length-append}
use Rattle.std.proofs.lemmas.Option.{none-some, same_Some}
use Rattle.evt_types.specs.Plan.{Plan}
use Rattle.transcripts.specs.Transcript.{sends, sent_for, forwards, taken_in, taken}
use Rattle.transcripts.specs.Lawful.{IsPrefix, HasOrigin}
use Rattle.transcripts.specs.Allowed.{Needs, MayAcceptOf}
use Rattle.evt_types.specs.declared.event.Event.{Event}
use Rattle.evt_types.specs.declared.step.Source.TheVariants.{Of}
use Rattle.evt_types.specs.declared.step.Step.{Step}
use Rattle.evt_types.specs.declared.step.Step.TheVariants.{Accept}
use Rattle.lists.proofs.Lists.{slice_get-at}
use Rattle.transcripts.proofs.Pushes.{taken_in-same, taken_in_is, taken-some, taken-none, forwards-push, forwards-none}

-- ---- prefixes

pub prefix_grows : {X : Type 0} (xs ys zs : List X) → IsPrefix xs ys → IsPrefix xs (ys ++ zs)
prefix_grows xs ys zs h = (h.0 ++ zs, sym (append_assoc xs h.0 zs) ∙ ap (λ us. us ++ zs) h.1)

-- the item after it
pub prefix_next : {X : Type 0} (xs ys : List X) (x : X) → IsPrefix xs ys → slice_get ys (length xs) ≡ Some x → IsPrefix (xs ++ x ∷ []) ys
prefix_next {X} xs ys x h e = by_rest h.0 h.1
  where
    by_rest : (zs : List X) → xs ++ zs ≡ ys → IsPrefix (xs ++ x ∷ []) ys
    by_rest [] k = absurd (none-some x (sym (slice_get-at xs []) ∙ (ap (λ us. slice_get us (length xs)) k ∙ e)))
    by_rest (z ∷ zs) k =
        let same : z ≡ x = same_Some z x (sym (slice_get-at xs (z ∷ zs)) ∙ (ap (λ us. slice_get us (length xs)) k ∙ e)) in
        (zs, append_assoc xs (x ∷ []) zs ∙ (ap (λ u. xs ++ u ∷ zs) (sym same) ∙ k))

pub prefix_at : {X : Type 0} (xs ys : List X) (x : X) → IsPrefix (xs ++ x ∷ []) ys → slice_get ys (length xs) ≡ Some x
prefix_at xs ys x h = subst (λ us. slice_get us (length xs) ≡ Some x) (sym (append_assoc xs (x ∷ []) h.0) ∙ h.1) (slice_get-at xs (x ∷ h.0))

-- ---- the clause

-- the step's own premise, for a step from any number
pub origin_more : (p : Plan) (P : List Step) (s : Step) → HasOrigin P → Needs p P s → HasOrigin (P ++ s ∷ [])
origin_more p P s h needs q n = by_case (taken_in q n s) refl
  where
    by_case : (o : Option Event) → taken_in q n s ≡ o → IsPrefix (taken (P ++ s ∷ []) q n) (forwards (P ++ s ∷ []) q n)
    by_case None e =
        rw (taken-none P q n s e, forwards-push P q n s) (prefix_grows (taken P q n) (forwards P q n)
        (filter_map (sent_for q n) (cons_option (sends P s) [])) (h q n))
    by_case (Some d) e =
        let accept = taken_in_is q n s d e in
        let may : MayAcceptOf p P d q n = subst (Needs p P) accept.1 needs in
        rw (taken-some P q n s d e, forwards-none P q n s (ap (sends P) accept.1)) (prefix_next (taken P q n) (forwards P q n) d (h q n) may.origin)

pub origin_needs : (P : List Step) (q r n : ℕ) (e : Event) → HasOrigin (P ++ Accept q e (Of r n) ∷ [])
    → slice_get (forwards P r n) (length (taken P r n)) ≡ Some e
origin_needs P q r n e h =
    prefix_at (taken P r n) (forwards P r n) e (rw (
      taken-some P r n (Accept q e (Of r n)) e (taken_in-same q r n e),
      forwards-none P r n
          (Accept q e (Of r n)) refl,
    ) at (h r n))

-- no more was accepted from a number than it was passed on as
pub origin_fewer : (T : List Step) → HasOrigin T → (q n : ℕ) → length (taken T q n) ≤ length (forwards T q n)
origin_fewer T h q n = let front = h q n in omega (arith, ap length front.1, length-append (taken T q n) front.0)
