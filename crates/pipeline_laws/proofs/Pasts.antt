-- What is known of the steps read follows them: lists in a list, and one step more.
use Rattle.std.proofs.Common.{◌≡◌, ◌≢◌, ℕ, zero, suc, ◌+◌, ◌<◌, ◌^◌, List, [], ◌∷◌, ◌++◌, length, set, get_or, replicate, None, ⊎_elim, refl, sym, ap, ◌∙◌, subst, arith, ◌↔◌, slice_index}
use Rattle.std.proofs.lemmas.Bool.{cases_eq}
use Rattle.std.proofs.lemmas.List.{length_push, length-map, map-append, map-set, replicate_more, get_or-set_same, get_or-set_other}
use Rattle.evt_types.specs.declared.event.Event.{Event}
use Rattle.evt_types.specs.declared.step.Outcome.{Outcome}
use Rattle.evt_types.specs.declared.step.Outcome.TheVariants.{Forwarded}
use Rattle.evt_types.specs.declared.step.Source.{Source}
use Rattle.evt_types.specs.declared.step.Step.{Step}
use Rattle.evt_types.specs.declared.step.Step.TheVariants.{Accept, Give, Done, More, Turned, Bounced, Shut}
use Rattle.pipeline_laws.specs.Past.{Follows, row, rows}
use Rattle.pipeline_laws.specs.declared.past.Past.{Past}
use Rattle.std.specs.declared.alloc.Global.{Global}
use Rattle.std.specs.declared.vec.Vec.{Vec}
use Rattle.transcripts.proofs.Pushes.{accepted_in-same, accepted_in-other, accepted-some, accepted-none, given_to-same, given_to-other, out-some, out-none, answer_of-same, answer_of-other, answers-some, answers-none}
use Rattle.transcripts.specs.Transcript.{accepted, accepted_in, answer_of, answers, given_to, out}

-- ---- lists in a list

-- one list is written
pub rows_set : {X : Type 0} (lists : List (Vec X Global)) (n : ℕ) (list : Vec X Global) → rows (set lists n list) ≡ set (rows lists) n list.items
rows_set {X} lists n list = map-set (λ (v : Vec X Global). v.items) lists n list

pub length-rows : {X : Type 0} (lists : List (Vec X Global)) → length (rows lists) ≡ length lists
length-rows {X} lists = length-map lists (λ (v : Vec X Global). v.items)

-- an empty list more
pub rows_none_more : {X : Type 0} (old new : List (Vec X Global)) (list : Vec X Global) (n : ℕ) → new ≡ old ++ list ∷ [] → list.items ≡ [] → rows old ≡ replicate n []
    → rows new ≡ replicate (n + 1) []
rows_none_more {X} old new list n is none all =
    ap rows is ∙ (map-append (λ (v : Vec X Global). v.items) old (list ∷ []) ∙ (ap (λ (ls : List (List X)). ls ++ list.items ∷ []) all
    ∙ (ap (λ (xs : List X). replicate n [] ++ xs ∷ []) none ∙ replicate_more n [])))

-- another list than the one that is written
pub row-set_other : {X : Type 0} (lists : List (Vec X Global)) (n k : ℕ) (list : Vec X Global) → k ≢ n → row (rows (set lists n list)) k ≡ row (rows lists) k
row-set_other lists n k list other = ap (λ ls. row ls k) (rows_set lists n list) ∙ get_or-set_other (rows lists) n k list.items [] other

-- the list at a place that is there
pub row_is : {X : Type 0} (lists : List (Vec X Global)) (n : ℕ) (d : Vec X Global) → n < length lists → row (rows lists) n ≡ (get_or lists n d).items
row_is [] n d h = absurd (omega arith)
row_is (v ∷ vs) zero d h = refl
row_is (v ∷ vs) (suc n) d h = row_is vs n d (omega arith)

-- a Vec's items are fewer than 2^63
pub row_small : {X : Type 0} (lists : List (Vec X Global)) (n : ℕ) → length (row (rows lists) n) < 2 ^ 63
row_small [] n = omega arith
row_small (v ∷ vs) zero = omega (arith, v.ok, v.small)
row_small (v ∷ vs) (suc n) = row_small vs n

pub row_none : {X : Type 0} (count n : ℕ) → row {X = X} (replicate count []) n ≡ []
row_none zero n = refl
row_none (suc count) zero = refl
row_none (suc count) (suc n) = row_none count n

pub index_none : (count n : ℕ) → slice_index (replicate count 0) n ≡ 0
index_none zero n = refl
index_none (suc count) zero = refl
index_none (suc count) (suc n) = index_none count n

-- ---- one step more

-- of one list a row has one item more, as another list of rows says
pub row_more : {X : Type 0} (old new : List (List X)) (n : ℕ) (x : X) (f g : ℕ → List X) → n < length old → new ≡ set old n (row old n ++ x ∷ []) → g n ≡ f n ++ x ∷ []
    → ((k : ℕ) → k ≢ n → g k ≡ f k) → (k : ℕ) → row old k ≡ f k → row new k ≡ g k
row_more old new n x f g h is here others k was = ⊎_elim same other (cases_eq k n)
  where
    same : k ≡ n → row new k ≡ g k
    same e =
        ap (row new) e ∙ (ap (λ ls. row ls n) is ∙ (get_or-set_same old n (row old n ++ x ∷ []) [] h
        ∙ (ap (λ ys. ys ++ x ∷ []) (subst (λ m. row old m ≡ f m) e was) ∙ (sym here ∙ ap g (sym e)))))

    other : k ≢ n → row new k ≡ g k
    other d = ap (λ ls. row ls k) is ∙ (get_or-set_other old n k (row old n ++ x ∷ []) [] d ∙ (was ∙ sym (others k d)))

pub follows_accept : (T : List Step) (past new : Past) (q : ℕ) (e : Event) (s : Source) → Follows T past → q < length past.accepted.items
    → rows new.accepted.items ≡ set (rows past.accepted.items) q (row (rows past.accepted.items) q ++ e ∷ []) → new.given ≡ past.given → new.answered ≡ past.answered
    → Follows (T ++ Accept q e s ∷ []) new
follows_accept T past new q e s f h accepts given answered = record {
  accepted = λ k.
      row_more (rows past.accepted.items) (rows new.accepted.items) q e (accepted T) (accepted (T ++ Accept q e s ∷ [])) (omega (arith, length-map past.accepted.items (λ (v : Vec Event Global). v.items))) accepts
      (accepted-some T q (Accept q e s) e (accepted_in-same q e s))
      (λ j d. accepted-none T j (Accept q e s) (accepted_in-other j q e s (λ same. d (sym same)))) k (f.accepted k);
  given = λ l. ap (λ (v : Vec (Vec (ℕ × ℕ) Global) Global). row (rows v.items) l) given ∙ (f.given l ∙ sym (out-none T l (Accept q e s) refl));
  answered =
      λ l. ap (λ (v : Vec ℕ Global). slice_index v.items l) answered ∙ (f.answered l ∙ sym (ap length (answers-none T l (Accept q e s) refl)));
}

pub follows_give : (T : List Step) (past new : Past) (l q n : ℕ) → Follows T past → l < length past.given.items
    → rows new.given.items ≡ set (rows past.given.items) l (row (rows past.given.items) l ++ (q, n) ∷ []) → new.accepted ≡ past.accepted → new.answered ≡ past.answered
    → Follows (T ++ Give l q n ∷ []) new
follows_give T past new l q n f h gives accepts answered = record {
  accepted = λ k. ap (λ (v : Vec (Vec Event Global) Global). row (rows v.items) k) accepts ∙ (f.accepted k ∙ sym (accepted-none T k (Give l q n) refl));
  given = λ k.
      row_more (rows past.given.items) (rows new.given.items) l (q, n) (out T) (out (T ++ Give l q n ∷ [])) (omega (arith, length-map past.given.items (λ (v : Vec (ℕ × ℕ) Global). v.items))) gives
      (out-some T l (Give l q n) (q, n) (given_to-same l q n))
      (λ j d. out-none T j (Give l q n) (given_to-other j l q n (λ same. d (sym same)))) k (f.given k);
  answered =
      λ m. ap (λ (v : Vec ℕ Global). slice_index v.items m) answered ∙ (f.answered m ∙ sym (ap length (answers-none T m (Give l q n) refl)));
}

pub follows_done : (T : List Step) (past new : Past) (l : ℕ) (o : Outcome) → Follows T past → l < length past.answered.items
    → new.answered.items ≡ set past.answered.items l (slice_index past.answered.items l + 1) → new.accepted ≡ past.accepted → new.given ≡ past.given
    → Follows (T ++ Done l o ∷ []) new
follows_done T past new l o f h is accepts given = record {
  accepted = λ k. ap (λ (v : Vec (Vec Event Global) Global). row (rows v.items) k) accepts ∙ (f.accepted k ∙ sym (accepted-none T k (Done l o) refl));
  given = λ k. ap (λ (v : Vec (Vec (ℕ × ℕ) Global) Global). row (rows v.items) k) given ∙ (f.given k ∙ sym (out-none T k (Done l o) refl));
  answered = λ k. ⊎_elim (same k) (other k) (cases_eq k l);
}
  where
    same : (k : ℕ) → k ≡ l → slice_index new.answered.items k ≡ length (answers (T ++ Done l o ∷ []) k)
    same k e =
        let here : slice_index new.answered.items l ≡ slice_index past.answered.items l + 1 =
        ap (λ ns. slice_index ns l) is ∙ get_or-set_same past.answered.items l (slice_index past.answered.items l + 1) 0 h in
        let longer : length (answers (T ++ Done l o ∷ []) l) ≡ length (answers T l) + 1 =
        ap length (answers-some T l (Done l o) o (answer_of-same l o)) ∙ length_push (answers T l) o in
        ap (slice_index new.answered.items) e ∙ (here ∙ (ap (λ n. n + 1) (f.answered l) ∙ (sym longer ∙ ap (λ m. length (answers (T ++ Done l o ∷ []) m)) (sym e))))

    other : (k : ℕ) → k ≢ l → slice_index new.answered.items k ≡ length (answers (T ++ Done l o ∷ []) k)
    other k d =
        ap (λ ns. slice_index ns k) is ∙ (get_or-set_other past.answered.items l k (slice_index past.answered.items l + 1) 0 d
        ∙ (f.answered k ∙ sym (ap length (answers-none T k (Done l o) (answer_of-other k l o (λ e. d (sym e)))))))

-- a step by which nothing is accepted, given or answered
follows_quiet : (T : List Step) (past : Past) (s : Step) → Follows T past → ((q : ℕ) → accepted_in q s ≡ None) → ((l : ℕ) → given_to l s ≡ None)
    → ((l : ℕ) → answer_of l s ≡ None) → Follows (T ++ s ∷ []) past
follows_quiet T past s f accepts gives answers_none = record {
  accepted = λ q. f.accepted q ∙ sym (accepted-none T q s (accepts q));
  given = λ l. f.given l ∙ sym (out-none T l s (gives l));
  answered = λ l. f.answered l ∙ sym (ap length (answers-none T l s (answers_none l)));
}

pub follows_more : (T : List Step) (past : Past) (s : Step) (l : ℕ) (e : Event) → s ≡ More l e → Follows T past → Follows (T ++ s ∷ []) past
follows_more T past s l e is f =
    subst (λ t. Follows (T ++ t ∷ []) past) (sym is) (follows_quiet T past (More l e) f (λ q. refl) (λ m. refl) (λ m. refl))

pub follows_turned : (T : List Step) (past : Past) (s : Step) (l : ℕ) (e : Event) → s ≡ Turned l e → Follows T past → Follows (T ++ s ∷ []) past
follows_turned T past s l e is f =
    subst (λ t. Follows (T ++ t ∷ []) past) (sym is) (follows_quiet T past (Turned l e) f (λ q. refl) (λ m. refl) (λ m. refl))

pub follows_bounced : (T : List Step) (past : Past) (s : Step) (l : ℕ) → s ≡ Bounced l → Follows T past → Follows (T ++ s ∷ []) past
follows_bounced T past s l is f =
    subst (λ t. Follows (T ++ t ∷ []) past) (sym is) (follows_quiet T past (Bounced l) f (λ q. refl) (λ m. refl) (λ m. refl))

pub follows_shut : (T : List Step) (past : Past) (s : Step) → s ≡ Shut → Follows T past → Follows (T ++ s ∷ []) past
follows_shut T past s is f =
    subst (λ t. Follows (T ++ t ∷ []) past) (sym is) (follows_quiet T past Shut f (λ q. refl) (λ m. refl) (λ m. refl))

-- nothing read
pub follows_none : (past : Past) (queues lanes : ℕ) → rows past.accepted.items ≡ replicate queues [] → rows past.given.items ≡ replicate lanes []
    → past.answered.items ≡ replicate lanes 0 → Follows [] past
unfolding accepted out answers
follows_none past queues lanes accepts gives counts = record {
  accepted = λ q. ap (λ ls. row ls q) accepts ∙ row_none queues q;
  given = λ l. ap (λ ls. row ls l) gives ∙ row_none lanes l;
  answered = λ l. ap (λ ns. slice_index ns l) counts ∙ index_none lanes l;
}

-- ---- two answers

pub same_forwarded : (d e : Event) (o u : Outcome) (P : Type 0) → o ≡ Forwarded d → u ≡ Forwarded e → P ↔ (d ≡ e) → P ↔ (o ≡ u)
same_forwarded d e o u P is other tells =
    (λ h. is ∙ (ap Forwarded (tells.0 h) ∙ sym other), λ h. let same : Forwarded d ≡ Forwarded e = sym is ∙ (h ∙ other) in tells.1 (cc))
