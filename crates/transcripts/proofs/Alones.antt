-- (alone), step by step: a step brings an event of a slot to a lane only where no other lane has one of that slot.
use Rattle.std.proofs.Common.{◌≡◌, ◌≢◌, ℕ, ◌<◌, true, List, [], ◌∷◌, ◌++◌, length, map, drop, get_or, All, Contains, Option, Some, None, refl, sym, ap, ◌∙◌, subst, arith, append-nil}
use Rattle.std.specs.List.{cons_option}
use Rattle.std.proofs.lemmas.List.Elements.{All-nil, All-cons, All-drop, All-append}
use Rattle.evt_types.specs.Plan.{Plan, queue_of, slot_of, is_atomic}
use Rattle.transcripts.specs.Transcript.{event_at, slot_if, slot_at, given_to, Held, held_at, unanswered_slots, waiting}
use Rattle.transcripts.specs.Lawful.{AreApart, IsAlone}
use Rattle.transcripts.specs.Allowed.{Allowed, MayGiveNumber}
use Rattle.evt_types.specs.declared.event.Numbered.{Numbered}
use Rattle.evt_types.specs.declared.step.Step.{Step}
use Rattle.evt_types.specs.declared.step.Step.TheVariants.{Give}
use Rattle.lists.proofs.Lists.{All-last}
use Rattle.transcripts.proofs.Pushes.{given_to-same, given_to-other, given_to_is, done_count, slot_at-none, brings, unanswered_slots-push}
use Rattle.transcripts.proofs.Waits.{waiting_at}
use Rattle.transcripts.proofs.Facts.{Facts, unanswered_is_accepted}

-- the slot of an event that waits
pub waiting_slot : (p : Plan) (P : List Step) (l q n : ℕ) (w : Numbered) → Contains (waiting P q) w → w.number ≡ n
    → slot_at p (P ++ Give l q n ∷ []) q n ≡ slot_of p q w.event.flow
waiting_slot p P l q n w c e =
    slot_at-none p P q n (Give l q n) refl ∙ ap (slot_if p q) (ap (event_at P q) (sym e) ∙ waiting_at P q w c)

-- the slots that one more step leaves
pub slots_more : (p : Plan) (P : List Step) (l : ℕ) (s : Step) → Facts p P
    → unanswered_slots p (P ++ s ∷ []) l ≡ drop (done_count l s) (unanswered_slots p P l ++ brings p P l s)
slots_more p P l s f = unanswered_slots-push p P l s (f.answers l) (unanswered_is_accepted p P l f)

-- what a lane is brought is apart from what another lane has
brings_apart : (p : Plan) (P : List Step) (s : Step) (q l m : ℕ) → Allowed p P s → is_atomic (queue_of p q).kind ≡ true → l ≢ m
    → All (λ (x : Held). All (λ (y : Held). y.queue ≡ q → x.queue ≡ q → y.slot ≢ x.slot) (unanswered_slots p P m)) (brings p P l s)
brings_apart p P s q l m a atomic apart = by_case (given_to l s) refl
  where
    by_case : (o : Option (ℕ × ℕ)) → given_to l s ≡ o → All (λ (x : Held). All (λ (y : Held). y.queue ≡ q → x.queue ≡ q → y.slot ≢ x.slot)
        (unanswered_slots p P m)) (map (held_at p (P ++ s ∷ [])) (cons_option o []))
    by_case None e = All-nil (λ (x : Held). All (λ (y : Held). y.queue ≡ q → x.queue ≡ q → y.slot ≢ x.slot) (unanswered_slots p P m))
    by_case (Some x) e = one x.0 x.1 (given_to_is l s x e)
      where
        one : (r n : ℕ) → s ≡ Give l r n → All (λ (x : Held). All (λ (y : Held). y.queue ≡ q → x.queue ≡ q → y.slot ≢ x.slot)
            (unanswered_slots p P m)) (held_at p (P ++ s ∷ []) (r, n) ∷ [])
        one r n is =
            let may : MayGiveNumber p P l r n = (subst (Allowed p P) is a).needs in
            let slot : slot_at p (P ++ s ∷ []) r n ≡ slot_of p r may.0.event.flow =
            ap (λ t. slot_at p (P ++ t ∷ []) r n) is ∙ waiting_slot p P l r n may.0 may.2.once may.1 in
            All-cons (λ (x : Held). All (λ (y : Held). y.queue ≡ q → x.queue ≡ q → y.slot ≢ x.slot) (unanswered_slots p P m))
            (held_at p (P ++ s ∷ []) (r, n)) []
            (λ k d lt yq rq same. may.2.alone (subst (λ t. is_atomic (queue_of p t).kind ≡ true) (sym rq) atomic) m (λ e. apart (sym e)) k d lt
            (yq ∙ sym rq) (same ∙ slot))
            (All-nil (λ (x : Held). All (λ (y : Held). y.queue ≡ q → x.queue ≡ q → y.slot ≢ x.slot) (unanswered_slots p P m)))

-- a step brings something to one lane alone
brings_once : (p : Plan) (P : List Step) (s : Step) (l m : ℕ) → l ≢ m → 0 < length (brings p P l s) → brings p P m s ≡ []
brings_once p P s l m apart some = by_case (given_to l s) (given_to m s) refl refl some
  where
    by_case : (o u : Option (ℕ × ℕ)) → given_to l s ≡ o → given_to m s ≡ u → 0 < length (map (held_at p (P ++ s ∷ [])) (cons_option o []))
        → map (held_at p (P ++ s ∷ [])) (cons_option u []) ≡ []
    by_case None u e k h = absurd (omega arith)
    by_case (Some x) None e k h = refl
    by_case (Some x) (Some y) e k h = absurd (apart (lane_is l m x y (sym (given_to_is l s x e) ∙ given_to_is m s y k)))
      where
        lane_is : (i j : ℕ) (x y : ℕ × ℕ) → Give i x.0 x.1 ≡ Give j y.0 y.1 → i ≡ j
        lane_is i j x y e = cc

-- apart from what the other lane then has
abbrev stays_apart : Plan → List Step → Step → ℕ → ℕ → Held → Type 0
stays_apart p P s q m x = All (AreApart q x) (drop (done_count m s) (unanswered_slots p P m ++ brings p P m s))

pub alone_more : (p : Plan) (P : List Step) (s : Step) → Facts p P → IsAlone p P → Allowed p P s → IsAlone p (P ++ s ∷ [])
alone_more p P s f h a q atomic l m apart =
    rw (slots_more p P l s f, slots_more p P m s f) (All-drop (stays_apart p P s q m) (done_count l s) (unanswered_slots p P l ++ brings p P l s)
    (All-append (stays_apart p P s q m) (unanswered_slots p P l) (brings p P l s) old new))
  where
    back : m ≡ l → ⊥
    back e = apart (sym e)

    other : (x : Held) → All (AreApart q x) (unanswered_slots p P m) → All (AreApart q x) (brings p P m s)
        → All (AreApart q x) (drop (done_count m s) (unanswered_slots p P m ++ brings p P m s))
    other x here more =
        All-drop (AreApart q x) (done_count m s) (unanswered_slots p P m ++ brings p P m s)
        (All-append (AreApart q x) (unanswered_slots p P m) (brings p P m s) here more)

    none : (j : ℕ) → j < length (brings p P m s) → brings p P m s ≡ [] → ⊥
    none j lt e = omega (arith, ap length e)

    old : All (stays_apart p P s q m) (unanswered_slots p P l)
    old k d lt =
        other (get_or (unanswered_slots p P l) k d) (h q atomic l m apart k d lt) (λ j c jt. brings_apart p P s q m l a atomic back j c jt k d lt)

    new : All (stays_apart p P s q m) (brings p P l s)
    new k d lt =
        other (get_or (brings p P l s) k d) (λ j c jt xq yq same. brings_apart p P s q l m a atomic apart k d lt j c jt yq xq (sym same))
        (λ j c jt. absurd (none j jt (brings_once p P s l m apart (omega arith))))

pub alone_needs : (p : Plan) (P : List Step) (l q n : ℕ) (w : Numbered) → Facts p P → IsAlone p (P ++ Give l q n ∷ []) → Contains (waiting P q) w
    → w.number ≡ n → is_atomic (queue_of p q).kind ≡ true → (m : ℕ) → m ≢ l
    → All (λ (y : Held). y.queue ≡ q → y.slot ≢ slot_of p q w.event.flow) (unanswered_slots p P m)
alone_needs p P l q n w f h c e atomic m apart k d lt yq same =
    last (h q atomic l m (λ i. apart (sym i))) k d lt refl yq (waiting_slot p P l q n w c e ∙ sym same)
  where
    here : unanswered_slots p (P ++ Give l q n ∷ []) l ≡ unanswered_slots p P l ++ held_at p (P ++ Give l q n ∷ []) (q, n) ∷ []
    here =
        slots_more p P l (Give l q n) f ∙ ap (λ o. unanswered_slots p P l ++ map (held_at p (P ++ Give l q n ∷ [])) (cons_option o []))
        (given_to-same l q n)

    there : unanswered_slots p (P ++ Give l q n ∷ []) m ≡ unanswered_slots p P m
    there =
        slots_more p P m (Give l q n) f ∙ (ap (λ o. unanswered_slots p P m ++ map (held_at p (P ++ Give l q n ∷ [])) (cons_option o []))
        (given_to-other m l q n (λ i. apart (sym i))) ∙ append-nil (unanswered_slots p P m))

    last : All (λ (x : Held). All (AreApart q x) (unanswered_slots p (P ++ Give l q n ∷ []) m)) (unanswered_slots p (P ++ Give l q n ∷ []) l)
        → All (AreApart q (held_at p (P ++ Give l q n ∷ []) (q, n))) (unanswered_slots p P m)
    last all =
        All-last (λ (x : Held). All (AreApart q x) (unanswered_slots p P m)) (unanswered_slots p P l) (held_at p (P ++ Give l q n ∷ []) (q, n))
        (rw (here, there) at all)
