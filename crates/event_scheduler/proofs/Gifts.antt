-- What a run of gifts to one lane does: what its steps give and count, and what they make of the core and of what is passed over.
use Rattle.std.proofs.Common.{◌≡◌, ◌≢◌, ℕ, Bool, false, cond, List, [], ◌∷◌, ◌++◌, length, map, count_by, fold, All, slice_get, refl, sym, ap, ◌∙◌, subst, append_assoc, append-nil, arith}
use Rattle.std.specs.List.{cons_option}
use Rattle.std.proofs.lemmas.List.Elements.{All-cons, All-nil, All-weaker, filter_map-append}
use Rattle.std.proofs.lemmas.List.Sums.{fold-append, sum_by-cons}
use Rattle.event_scheduler.proofs.Replies.{after-append}
use Rattle.event_scheduler.specs.Giving.{AreGifts, passed_by, passed_step}
use Rattle.event_scheduler.specs.Scheduler.{IsAccepted, Sight}
use Rattle.evt_types.specs.Event.{pair_of}
use Rattle.evt_types.specs.declared.event.Delivery.{Delivery}
use Rattle.evt_types.specs.declared.step.Step.{Step}
use Rattle.evt_types.specs.declared.step.Step.TheVariants.{Give}
use Rattle.sched_core.proofs.Offers.{choice_is_offer}
use Rattle.sched_core.specs.Offered.{numbered_in}
use Rattle.sched_core.specs.Runs.{AreChoices, gift_of, gifts_of, given_once}
use Rattle.sched_core.specs.Skipped.{nothing_passed}
use Rattle.transcripts.proofs.Pushes.{given_to-other, given_to-same}
use Rattle.transcripts.proofs.WholeStands.{offer_is_accepted, stands_give}
use Rattle.transcripts.specs.Choice.{IsChoice, IsOffer, Passed}
use Rattle.transcripts.specs.Replies.{replies_in}
use Rattle.transcripts.specs.Standing.{View, Stands, after}
use Rattle.transcripts.specs.Transcript.{accepted, accepted_in, has_shut, is_give, out}

-- ---- what the steps give, say and count

pub gifts_here : (l : ℕ) (ds : List Delivery) → out (gifts_of l ds) l ≡ map pair_of ds
unfolding out
gifts_here l [] = refl
gifts_here l (d ∷ ds) = ap (λ o. cons_option o (out (gifts_of l ds) l)) (given_to-same l d.queue d.number) ∙ ap (λ xs. pair_of d ∷ xs) (gifts_here l ds)

pub gifts_elsewhere : (l m : ℕ) (ds : List Delivery) → m ≢ l → out (gifts_of l ds) m ≡ []
unfolding out
gifts_elsewhere l m [] other = refl
gifts_elsewhere l m (d ∷ ds) other =
    ap (λ o. cons_option o (out (gifts_of l ds) m)) (given_to-other m l d.queue d.number (λ same. other (sym same))) ∙ gifts_elsewhere l m ds other

pub gifts_say_none : (l m : ℕ) (ds : List Delivery) → replies_in (gifts_of l ds) m ≡ []
unfolding replies_in
gifts_say_none l m [] = refl
gifts_say_none l m (d ∷ ds) = gifts_say_none l m ds

pub gifts_shut_none : (l : ℕ) (ds : List Delivery) → has_shut (gifts_of l ds) ≡ false
gifts_shut_none l [] = refl
gifts_shut_none l (d ∷ ds) = gifts_shut_none l ds

pub gifts_count : (l : ℕ) (ds : List Delivery) → count_by is_give (gifts_of l ds) ≡ length ds
gifts_count l [] = refl
gifts_count l (d ∷ ds) = omega (arith, sum_by-cons (λ x. cond (is_give x) 1 0) (gift_of l d) (gifts_of l ds), gifts_count l ds)

pub gifts_are_no : (p : Step → Bool) (l : ℕ) (ds : List Delivery) → ((d : Delivery) → p (gift_of l d) ≡ false) → count_by p (gifts_of l ds) ≡ 0
gifts_are_no p l [] none = refl
gifts_are_no p l (d ∷ ds) none =
    omega (arith, sum_by-cons (λ x. cond (p x) 1 0) (gift_of l d) (gifts_of l ds), ap {B = ℕ} (λ b. cond b 1 0) (none d), gifts_are_no p l ds none)

-- ---- what they make of the core, and of what is passed over

pub passed-push : (steps : List Step) (x : Step) → passed_by (steps ++ x ∷ []) ≡ passed_step (passed_by steps) x
passed-push steps x = fold-append passed_step nothing_passed steps (x ∷ [])

pub choices_end : (l : ℕ) (v : View) (s : Passed) (ds : List Delivery) (w : View) (t : Passed) → AreChoices l v s ds w t → (w ≡ after v (gifts_of l ds)) × (t ≡ fold passed_step s (gifts_of l ds))
choices_end l v s [] w t h = h
choices_end l v s (d ∷ ds) w t h = choices_end l (after v (gift_of l d ∷ [])) (given_once s d.queue) ds w t h.1

-- each is what a sweep may give, after the steps before it
pub choices_are : (s : Sight) (past : List Step) (l : ℕ) (v : View) (p : Passed) (ds : List Delivery) (w : View) (t : Passed) → v ≡ after s.core past → p ≡ passed_by past → AreChoices l v p ds w t
    → AreGifts s past (gifts_of l ds)
choices_are s past l v p [] w t core passed h = tt
choices_are s past l v p (d ∷ ds) w t core passed h = (
  (
    numbered_in d,
    refl,
    subst (λ x. IsChoice (after s.core past) x l d.queue (numbered_in d)) passed
        (subst (λ x. IsChoice x p l d.queue (numbered_in d)) core h.0),
  ),
  choices_are s (past ++ gift_of l d ∷ []) l (after v (gift_of l d ∷ [])) (given_once p d.queue) ds w t
      (ap (λ x. after x (gift_of l d ∷ [])) core ∙ sym (after-append s.core past (gift_of l d ∷ [])))
      (ap (λ x. passed_step x (gift_of l d)) passed ∙ sym (passed-push past (gift_of l d))) h.1,
)

pub gifts-append : (s : Sight) (past xs ys : List Step) → AreGifts s past xs → AreGifts s (past ++ xs) ys → AreGifts s past (xs ++ ys)
gifts-append s past [] ys h k = subst (λ P. AreGifts s P ys) (append-nil past) k
gifts-append s past (x ∷ xs) ys h k = (h.0, gifts-append s (past ++ x ∷ []) xs ys h.1 (subst (λ P. AreGifts s P ys) (sym (append_assoc past (x ∷ []) xs)) k))

-- ---- the events are those that were accepted

gift_accepts_none : (T : List Step) (l q n r : ℕ) → accepted (T ++ Give l q n ∷ []) r ≡ accepted T r
unfolding accepted
gift_accepts_none T l q n r = filter_map-append (accepted_in r) T (Give l q n ∷ []) ∙ append-nil (accepted T r)

pub choices_accepted : (l : ℕ) (v : View) (s : Passed) (ds : List Delivery) (w : View) (t : Passed) (T : List Step) → Stands T v → AreChoices l v s ds w t → All (IsAccepted T) ds
choices_accepted l v s [] w t T stands h = All-nil (IsAccepted T)
choices_accepted l v s (d ∷ ds) w t T stands h =
    All-cons (IsAccepted T) d ds (offer_is_accepted v T l d.queue (numbered_in d) stands offer)
    (All-weaker (IsAccepted (T ++ gift_of l d ∷ [])) (IsAccepted T) (λ x is. ap (λ es. slice_get es x.number) (sym (gift_accepts_none T l d.queue d.number x.queue)) ∙ is) ds
    (choices_accepted l (after v (gift_of l d ∷ [])) (given_once s d.queue) ds w t (T ++ gift_of l d ∷ []) (stands_give v T l d.queue (numbered_in d) stands offer) h.1))
  where
    offer : IsOffer v l d.queue (numbered_in d)
    offer = choice_is_offer v s l d.queue (numbered_in d) h.0
