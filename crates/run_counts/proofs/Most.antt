-- One step more: how many wait then, and how many waited at most.
use Rattle.std.proofs.Common.{◌≡◌, ◌≢◌, ℕ, zero, suc, ◌+◌, ◌-◌, ◌<◌, ◌≤◌, ◌⊎◌, List, [], ◌^◌, ◌==◌, ◌∷◌, ◌++◌, length, take, get_or, replicate, inl, inr, Option, Some, None, slice_index, slice_set, refl, sym, ap, subst, ◌∙◌, arith, ⊎_elim}
use Rattle.std.proofs.lemmas.Bool.{cases_eq, cases_lt, cond-true, eq-eqb}
use Rattle.std.proofs.lemmas.Grind.{get_or-set_at}
use Rattle.std.proofs.lemmas.List.Sums.{count_by-le-length}
use Rattle.std.proofs.lemmas.List.{get_or-replicate, get_or-set_other, length-set, length_push, length-replicate, take-append-le, take_all}
use Rattle.std.proofs.lemmas.Option.{none-some, same_Some}
use Rattle.evt_types.specs.declared.shape.TheConstants.{MAX_QUEUES}
use Rattle.evt_types.specs.declared.event.Event.{Event}
use Rattle.evt_types.specs.declared.step.Source.{Source}
use Rattle.evt_types.specs.declared.step.Step.{Step}
use Rattle.evt_types.specs.declared.step.Step.TheVariants.{Accept, Give, Done, More, Turned, Bounced, Shut}
use Rattle.run_counts.specs.Waiting.{AreMost, HaveMost, IsMost, accepts, waits, waits_with_one_more}
use Rattle.step_tally.proofs.Balance.{accepted_by_source}
use Rattle.step_tally.specs.Counts.{is_new_to, is_passed_to, new_to, passed_to}
use Rattle.transcripts.proofs.Pushes.{accepted-none, accepted-some, accepted_in-other, hand-none, hand-some}
use Rattle.transcripts.specs.Transcript.{accepted, accepted_in, given_of, hand}

-- a step that accepts no event of the queue lets no more of them wait
waits_fewer : (T : List Step) (s : Step) (q : ℕ) → accepted_in q s ≡ None → waits (T ++ s ∷ []) q ≤ waits T q
waits_fewer T s q none = given (given_of q s) refl
  where
    given : (o : Option ℕ) → given_of q s ≡ o → waits (T ++ s ∷ []) q ≤ waits T q
    given None h = omega (arith, ap length (accepted-none T q s none), ap length (hand-none T q s h))
    given (Some n) h = omega (arith, ap length (accepted-none T q s none), ap length (hand-some T q s n h), length_push (hand T q) n)

-- first parts of the steps and one more: the same ones, and the whole
module _ (T : List Step) (s : Step) (q : ℕ) where
  front : (k : ℕ) → k ≤ length T → waits (take k (T ++ s ∷ [])) q ≡ waits (take k T) q
  front k le = ap (λ P. waits P q) (take-append-le k T (s ∷ []) le)

  whole : (k : ℕ) → length T < k → waits (take k (T ++ s ∷ [])) q ≡ waits (T ++ s ∷ []) q
  whole k lt = ap (λ P. waits P q) (take_all k (T ++ s ∷ []) (omega (arith, lt, length_push T s)))

  -- the most that waited, of what did before and of what does then
  most_of : (n m : ℕ) → IsMost T q n → n ≤ m → waits (T ++ s ∷ []) q ≤ m → (waits (T ++ s ∷ []) q ≡ m) ⊎ (n ≡ m) → IsMost (T ++ s ∷ []) q m
  most_of n m was le now which = record { bound = bound; reached = ⊎_elim last before which }
    where
      bound : (k : ℕ) → waits (take k (T ++ s ∷ [])) q ≤ m
      bound k = ⊎_elim (λ lt. omega (arith, whole k lt, now)) (λ ge. omega (arith, front k ge, was.bound k, le)) (cases_lt (length T) k)

      last : waits (T ++ s ∷ []) q ≡ m → (k : ℕ) × (waits (take k (T ++ s ∷ [])) q ≡ m)
      last is = (length T + 1, whole (length T + 1) (omega arith) ∙ is)

      all : (k : ℕ) → length T < k → waits (take k T) q ≡ waits (take (length T) (T ++ s ∷ [])) q
      all k lt = ap (λ P. waits P q) (take_all k T (omega (arith, lt)) ∙ sym (take_all (length T) T (omega arith))) ∙ sym (front (length T) (omega arith))

      before : n ≡ m → (k : ℕ) × (waits (take k (T ++ s ∷ [])) q ≡ m)
      before is =
          ⊎_elim (λ lt. (length T, sym (all was.reached.0 lt) ∙ (was.reached.1 ∙ is))) (λ ge. (was.reached.0, front was.reached.0 ge ∙ (was.reached.1 ∙ is)))
          (cases_lt (length T) was.reached.0)

  -- where none of the queue is accepted
  pub most_still : (n : ℕ) → accepted_in q s ≡ None → IsMost T q n → IsMost (T ++ s ∷ []) q n
  most_still n none was =
      let end : waits T q ≤ n = subst (λ P. waits P q ≤ n) (take_all (length T) T (omega arith)) (was.bound (length T)) in
      most_of n n was (omega arith) (omega (arith, waits_fewer T s q none, end)) (inr refl)

  -- where more wait than ever, and where no more do
  pub most_rises : (n : ℕ) → n < waits (T ++ s ∷ []) q → IsMost T q n → IsMost (T ++ s ∷ []) q (waits (T ++ s ∷ []) q)
  most_rises n lt was = most_of n (waits (T ++ s ∷ []) q) was (omega (arith, lt)) (omega arith) (inl refl)

  pub most_stays : (n : ℕ) → waits (T ++ s ∷ []) q ≤ n → IsMost T q n → IsMost (T ++ s ∷ []) q n
  most_stays n le was = most_of n n was (omega arith) le (inr refl)

-- of no step
none_wait : (k q : ℕ) → waits (take k []) q ≡ 0
unfolding accepted hand
none_wait k q = ap (λ P. waits P q) (take_all k [] (omega arith))

pub most_none : (q : ℕ) → IsMost [] q 0
most_none q = record { bound = λ k. omega (arith, none_wait k q); reached = (0, none_wait 0 q) }

pub have_none : (table : List ℕ) → table ≡ replicate MAX_QUEUES 0 → HaveMost [] table
have_none table is =
    let count : length table ≡ MAX_QUEUES = ap length is ∙ length-replicate {A = ℕ} MAX_QUEUES 0 in
    record {
      all = count;
      most = λ q lt. subst (IsMost [] q) (sym (ap (λ xs. get_or xs q 0) is ∙ get_or-replicate MAX_QUEUES q 0 0 (omega (arith, lt, count)))) (most_none q);
    }

-- ---- the table

-- after a step that accepts for no queue of it
still : (T : List Step) (s : Step) (table : List ℕ) → AreMost T table → ((q : ℕ) → q < length table → accepted_in q s ≡ None) → AreMost (T ++ s ∷ []) table
still T s table was none q lt = most_still T s q (slice_index table q) (none q lt) (was q lt)

pub table_still : (T : List Step) (s : Step) (table : List ℕ) → accepts s ≡ None → AreMost T table → AreMost (T ++ s ∷ []) table
table_still T (Accept r e c) table none was = absurd (none-some r (sym none))
table_still T (Give l q n) table none was = still T (Give l q n) table was (λ k lt. refl)
table_still T (Done l o) table none was = still T (Done l o) table was (λ k lt. refl)
table_still T (More l e) table none was = still T (More l e) table was (λ k lt. refl)
table_still T (Turned l e) table none was = still T (Turned l e) table was (λ k lt. refl)
table_still T (Bounced l) table none was = still T (Bounced l) table was (λ k lt. refl)
table_still T Shut table none was = still T Shut table was (λ k lt. refl)

-- after one that accepts for a queue that it lacks
pub table_lacks : (T : List Step) (s : Step) (r : ℕ) (table : List ℕ) → accepts s ≡ Some r → AreMost T table → length table ≤ r → AreMost (T ++ s ∷ []) table
table_lacks T (Accept k e c) r table is was le = still T (Accept k e c) table was (λ q lt. accepted_in-other q k e c (λ same. omega (arith, same, same_Some k r is, lt, le)))
table_lacks T step r table is was le = absurd (none-some r is)

-- after one that accepts for a queue of it: so many wait then
now_is : (T : List Step) (r : ℕ) (e : Event) (c : Source) → waits (T ++ Accept r e c ∷ []) r ≡ waits_with_one_more T r
now_is T r e c =
    omega (
      arith,
      ap length (accepted-some T r (Accept r e c) e (cond-true (r == r) (Some e) None (eq-eqb r r refl))),
      length_push (accepted T r) e,
      ap length (hand-none T r (Accept r e c) refl),
    )

module _ (T : List Step) (r : ℕ) (e : Event) (c : Source) (table : List ℕ) (was : AreMost T table) (within : r < length table) where
  elsewhere : (q : ℕ) → q ≢ r → q < length table → IsMost (T ++ Accept r e c ∷ []) q (slice_index table q)
  elsewhere q other lt = most_still T (Accept r e c) q (slice_index table q) (accepted_in-other q r e c (λ same. other (sym same))) (was q lt)

  stays : waits_with_one_more T r ≤ slice_index table r → AreMost (T ++ Accept r e c ∷ []) table
  stays le q lt = ⊎_elim here (λ other. elsewhere q other lt) (cases_eq q r)
    where
      here : q ≡ r → IsMost (T ++ Accept r e c ∷ []) q (slice_index table q)
      here same =
          subst (λ k. IsMost (T ++ Accept r e c ∷ []) k (slice_index table k)) (sym same)
          (most_stays T (Accept r e c) r (slice_index table r) (omega (arith, now_is T r e c, le)) (was r within))

  rises : slice_index table r < waits_with_one_more T r → AreMost (T ++ Accept r e c ∷ []) (slice_set table r (waits_with_one_more T r))
  rises more q lt = ⊎_elim here there (cases_eq q r)
    where
      low : q < length table
      low = omega (arith, lt, length-set table r (waits_with_one_more T r))

      most : IsMost (T ++ Accept r e c ∷ []) r (waits_with_one_more T r)
      most =
          subst (IsMost (T ++ Accept r e c ∷ []) r) (now_is T r e c)
          (most_rises T (Accept r e c) r (slice_index table r) (omega (arith, now_is T r e c, more)) (was r within))

      here : q ≡ r → IsMost (T ++ Accept r e c ∷ []) q (slice_index (slice_set table r (waits_with_one_more T r)) q)
      here same =
          subst (IsMost (T ++ Accept r e c ∷ []) q) (sym (get_or-set_at table r q (waits_with_one_more T r) 0 same within))
          (subst (λ k. IsMost (T ++ Accept r e c ∷ []) k (waits_with_one_more T r)) (sym same) most)

      there : q ≢ r → IsMost (T ++ Accept r e c ∷ []) q (slice_index (slice_set table r (waits_with_one_more T r)) q)
      there other = subst (IsMost (T ++ Accept r e c ∷ []) q) (sym (get_or-set_other table r q (waits_with_one_more T r) 0 other)) (elsewhere q other low)

pub table_stays : (T : List Step) (s : Step) (r n : ℕ) (table : List ℕ) → accepts s ≡ Some r → AreMost T table → r < length table → n ≡ waits_with_one_more T r → n ≤ slice_index table r
    → AreMost (T ++ s ∷ []) table
table_stays T (Accept k e c) r n table is was within n_is le =
    subst (λ j. AreMost (T ++ Accept j e c ∷ []) table) (sym (same_Some k r is)) (stays T r e c table was within (omega (arith, n_is, le)))
table_stays T step r n table is was within n_is le = absurd (none-some r is)

pub table_rises : (T : List Step) (s : Step) (r n : ℕ) (table : List ℕ) → accepts s ≡ Some r → AreMost T table → r < length table → n ≡ waits_with_one_more T r → slice_index table r < n
    → AreMost (T ++ s ∷ []) (slice_set table r n)
table_rises T (Accept k e c) r n table is was within n_is more =
    subst (λ j. AreMost (T ++ Accept j e c ∷ []) (slice_set table r n)) (sym (same_Some k r is))
    (subst (λ m. AreMost (T ++ Accept r e c ∷ []) (slice_set table r m)) (sym n_is) (rises T r e c table was within (omega (arith, n_is, more))))
table_rises T step r n table is was within n_is more = absurd (none-some r is)

-- which default a place within a list is read with is no matter
pub any_default : (xs : List ℕ) (i d e : ℕ) → i < length xs → get_or xs i d ≡ get_or xs i e
any_default [] i d e lt = absurd (omega (arith, lt))
any_default (x ∷ xs) zero d e lt = refl
any_default (x ∷ xs) (suc i) d e lt = any_default xs i d e (omega (arith, lt))

-- ---- what came

pub came_is : (T : List Step) (q : ℕ) → new_to T q + passed_to T q ≡ length (accepted T q)
came_is T q = accepted_by_source T q

pub few_came : (T : List Step) (q : ℕ) → length T < 2 ^ 63 → new_to T q + passed_to T q < 2 ^ 64 - 1
unfolding new_to passed_to
few_came T q short = omega (arith, count_by-le-length (is_new_to q) T, count_by-le-length (is_passed_to q) T)
