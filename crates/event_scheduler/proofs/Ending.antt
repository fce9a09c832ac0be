-- Each lane's taking ended where it may.
use Rattle.std.proofs.Common.{add-zero, ◌≡◌, ◌≢◌, ℕ, ◌+◌, ◌<◌, ◌≤◌, ◌==◌, true, false, cond, nat_lt, ◌⊎◌, inl, inr, List, [], ◌∷◌, ◌++◌, length, All, refl, sym, ap, ◌∙◌, subst, append-nil, arith}
use Rattle.std.proofs.lemmas.Bool.{cases_eq, cases_lt, lt-ltb, le-ltb}
use Rattle.std.proofs.lemmas.List.Elements.{All-append, All-head, All-tail, All-weaker, filter-append}
use Rattle.std.proofs.lemmas.List.Sums.{sum_by-cons}
use Rattle.event_scheduler.proofs.Counts.{count-append, count-none}
use Rattle.event_scheduler.proofs.Replies.{each_within, of_first_is, only_is}
use Rattle.event_scheduler.proofs.Taking.{next_lane, takes_both, takes_none, takes_within}
use Rattle.event_scheduler.proofs.Replies.{first_within}
use Rattle.event_scheduler.specs.Scheduler.{Sight, seen_at}
use Rattle.event_scheduler.specs.Taking.{MayEnd, Takes, TakesAll, count_from, of_first, only, up_to}
use Rattle.evt_types.specs.Plan.{lanes_of}
use Rattle.evt_types.specs.declared.event.Event.{Event}
use Rattle.evt_types.specs.declared.event.Reply.{Reply}
use Rattle.evt_types.specs.declared.step.Step.{Step}
use Rattle.lists.proofs.Lists.{eqb_other, eqb_same, filter-all, filter-none}
use Rattle.transcripts.specs.Standing.{after}
use Rattle.transcripts.specs.Sweep.{replies_steps}

-- the lanes of some replies, by how many each may have
before : (i q : ℕ) (xs : List (ℕ × Event)) → ((m : ℕ) → count_from m xs ≤ of_first i q m) → All (λ (r : ℕ × Event). r.0 < i) xs
before i q xs few = All-weaker (λ (r : ℕ × Event). 1 ≤ of_first i q r.0) (λ (r : ℕ × Event). r.0 < i) (λ r some. of_first_is i q r.0 some) xs (each_within (of_first i q) xs few)

alone : (i q : ℕ) (xs : List (ℕ × Event)) → ((m : ℕ) → count_from m xs ≤ only i q m) → All (λ (r : ℕ × Event). r.0 ≡ i) xs
alone i q xs few = All-weaker (λ (r : ℕ × Event). 1 ≤ only i q r.0) (λ (r : ℕ × Event). r.0 ≡ i) (λ r some. only_is i q r.0 some) xs (each_within (only i q) xs few)

-- those of other lanes don't count
counts_none : (l : ℕ) (xs : List (ℕ × Event)) → All (λ (r : ℕ × Event). r.0 ≢ l) xs → count_from l xs ≡ 0
counts_none l xs other = count-none (λ (r : ℕ × Event). r.0 == l) xs (All-weaker (λ (r : ℕ × Event). r.0 ≢ l) (λ (r : ℕ × Event). (r.0 == l) ≡ false) (λ r ne. eqb_other r.0 l ne) xs other)

counts_all : (l : ℕ) (xs : List (ℕ × Event)) → All (λ (r : ℕ × Event). r.0 ≡ l) xs → count_from l xs ≡ length xs
counts_all l [] same = refl
counts_all l (x ∷ xs) same =
    omega (
      arith,
      sum_by-cons (λ (r : ℕ × Event). cond (r.0 == l) 1 0) x xs,
      ap {B = ℕ} (λ k. cond (k == l) 1 0) (All-head (λ (r : ℕ × Event). r.0 ≡ l) x xs same),
      ap {B = ℕ} (λ b. cond b 1 0) (eqb_same l),
      counts_all l xs (All-tail (λ (r : ℕ × Event). r.0 ≡ l) x xs same),
    )

-- the first replies, up to those of a lane
up_to_none : (l i : ℕ) (xs : List (ℕ × Event)) → l < i → All (λ (r : ℕ × Event). r.0 ≡ i) xs → up_to l xs ≡ []
up_to_none l i xs lt same =
    filter-none (λ (r : ℕ × Event). nat_lt r.0 (l + 1)) xs
    (All-weaker (λ (r : ℕ × Event). r.0 ≡ i) (λ (r : ℕ × Event). nat_lt r.0 (l + 1) ≡ false) (λ r is. le-ltb r.0 (l + 1) (omega (arith, is, lt))) xs same)

up_to_all : (l : ℕ) (xs : List (ℕ × Event)) → All (λ (r : ℕ × Event). r.0 ≤ l) xs → up_to l xs ≡ xs
up_to_all l xs within =
    filter-all (λ (r : ℕ × Event). nat_lt r.0 (l + 1)) xs
    (All-weaker (λ (r : ℕ × Event). r.0 ≤ l) (λ (r : ℕ × Event). nat_lt r.0 (l + 1) ≡ true) (λ r le. lt-ltb r.0 (l + 1) (omega (arith, le))) xs within)

-- the taking of the first lanes ended where it may, and what is seen of them stays
abbrev Ended : ℕ → ℕ → Sight → List (ℕ × Event) → Sight → Type 0
Ended i q s replies t = (l : ℕ) → l < i → MayEnd q (after s.core (replies_steps s.core (up_to l replies))) l (count_from l replies) (seen_at t l)

pub record TakesFirst (i q n : ℕ) (s : Sight) (log : List Step) (t : Sight) (longer : List Step) : Type 0 where
  pub takes : Takes (of_first i q) n s log t longer
  pub ends : Ended i q s takes.replies t

pub none_first : (q : ℕ) (s : Sight) (log : List Step) → TakesFirst 0 q 0 s log s log
none_first q s log = record { takes = takes_none (of_first 0 q) s log; ends = λ l lt. absurd (omega (arith, lt)) }

pub one_more : (i q same n k : ℕ) (s t u : Sight) (log mid longer : List Step) → same ≡ q → TakesFirst i q n s log t mid → Takes (only i same) k t mid u longer
    → MayEnd same u.core i k (seen_at u i) → ((l : ℕ) → l ≢ i → seen_at u l ≡ seen_at t l) → TakesFirst (i + 1) q (n + k) s log u longer
one_more i q same n k s t u log mid longer is h m here others = record { takes = both.0; ends = λ l lt. by_place l lt (cases_eq l i) }
  where
    both : (b : Takes (of_first (i + 1) q) (n + k) s log u longer) × (b.replies ≡ h.takes.replies ++ m.replies)
    both = next_lane i q same n k s t u log mid longer is h.takes m

    xs : List (ℕ × Event)
    xs = h.takes.replies

    ys : List (ℕ × Event)
    ys = m.replies

    first : All (λ (r : ℕ × Event). r.0 < i) xs
    first = before i q xs h.takes.few

    last : All (λ (r : ℕ × Event). r.0 ≡ i) ys
    last = alone i same ys m.few

    At : List (ℕ × Event) → ℕ → Type 0
    At zs l = MayEnd q (after s.core (replies_steps s.core (up_to l zs))) l (count_from l zs) (seen_at u l)

    whole : up_to i (xs ++ ys) ≡ xs ++ ys
    whole =
        up_to_all i (xs ++ ys)
        (All-append (λ (r : ℕ × Event). r.0 ≤ i) xs ys (All-weaker (λ (r : ℕ × Event). r.0 < i) (λ (r : ℕ × Event). r.0 ≤ i) (λ r lt. omega (arith, lt)) xs first)
        (All-weaker (λ (r : ℕ × Event). r.0 ≡ i) (λ (r : ℕ × Event). r.0 ≤ i) (λ r e. omega (arith, e)) ys last))

    count_is : count_from i (xs ++ ys) ≡ k
    count_is =
        omega (
          arith,
          count-append (λ (r : ℕ × Event). r.0 == i) xs ys,
          counts_none i xs (All-weaker (λ (r : ℕ × Event). r.0 < i) (λ (r : ℕ × Event). r.0 ≢ i) (λ r lt e. omega (arith, lt, e)) xs first),
          counts_all i ys last,
          m.count,
        )

    core_is : u.core ≡ after s.core (replies_steps s.core (up_to i (xs ++ ys)))
    core_is = both.0.core ∙ ap (λ zs. after s.core (replies_steps s.core zs)) (both.1 ∙ sym whole)

    part : (l : ℕ) → l < i → up_to l (xs ++ ys) ≡ up_to l xs
    part l lt = filter-append (λ (r : ℕ × Event). nat_lt r.0 (l + 1)) xs ys ∙ (ap (λ zs. up_to l xs ++ zs) (up_to_none l i ys lt last) ∙ append-nil (up_to l xs))

    count_part : (l : ℕ) → l < i → count_from l (xs ++ ys) ≡ count_from l xs
    count_part l lt =
        omega (
          arith,
          count-append (λ (r : ℕ × Event). r.0 == l) xs ys,
          counts_none l ys (All-weaker (λ (r : ℕ × Event). r.0 ≡ i) (λ (r : ℕ × Event). r.0 ≢ l) (λ r e f. omega (arith, e, f, lt)) ys last),
        )

    End : List (ℕ × Event) → ℕ → List Reply → ℕ → Type 0
    End zs c seen l = MayEnd q (after s.core (replies_steps s.core zs)) l c seen

    by_place : (l : ℕ) → l < i + 1 → (l ≡ i) ⊎ (l ≢ i) → MayEnd q (after s.core (replies_steps s.core (up_to l both.0.replies))) l (count_from l both.0.replies) (seen_at u l)
    by_place l lt (inl e) =
        subst (λ zs. At zs l) (sym both.1)
        (subst (At (xs ++ ys)) (sym e)
        (subst (λ c. MayEnd q (after s.core (replies_steps s.core (up_to i (xs ++ ys)))) i c (seen_at u i)) (sym count_is)
        (subst (λ v. MayEnd q v i k (seen_at u i)) core_is (subst (λ r. MayEnd r u.core i k (seen_at u i)) is here))))
    by_place l lt (inr ne) =
        let below : l < i = omega (arith, lt, ne) in
        subst (λ zs. At zs l) (sym both.1)
        (subst (λ zs. End zs (count_from l (xs ++ ys)) (seen_at u l) l) (sym (part l below))
        (subst (λ c. End (up_to l xs) c (seen_at u l) l) (sym (count_part l below))
        (subst (λ seen. End (up_to l xs) (count_from l xs) seen l) (sym (others l ne)) (h.ends l below))))

-- nothing is seen of the next lanes
none_of : (xs : List (ℕ × Event)) → length xs ≡ 0 → xs ≡ []
none_of [] none = refl
none_of (x ∷ xs) none = absurd (omega (arith, none))

wider : (i j q m : ℕ) → i ≤ j → of_first i q m ≤ of_first j q m
wider i j q m within = by_place (cases_lt m i)
  where
    by_place : (m < i) ⊎ (i ≤ m) → of_first i q m ≤ of_first j q m
    by_place (inl lt) = omega (arith, ap {B = ℕ} (λ t. cond t q 0) (lt-ltb m i lt), ap {B = ℕ} (λ t. cond t q 0) (lt-ltb m j (omega (arith, lt, within))))
    by_place (inr past) = omega (arith, ap {B = ℕ} (λ t. cond t q 0) (le-ltb m i past))

pub none_more : (i j q n : ℕ) (s t u : Sight) (log mid : List Step) → i ≤ j → TakesFirst i q n s log t mid → Takes (λ m. 0) 0 t mid u mid
    → ((l : ℕ) → l < i → seen_at u l ≡ seen_at t l) → ((l : ℕ) → i ≤ l → l < j → seen_at u l ≡ []) → TakesFirst j q n s log u mid
none_more i j q n s t u log mid within h m same none =
    subst (λ k. TakesFirst j q k s log u mid) (add-zero n) (record { takes = both.0; ends = λ l lt. by_place l lt (cases_lt l i) })
  where
    both : (b : Takes (of_first j q) (n + 0) s log u mid) × (b.replies ≡ h.takes.replies ++ m.replies)
    both =
        takes_both (of_first i q) (λ m. 0) (of_first j q) n 0 s t u log mid mid h.takes m (λ a b some more. absurd (omega (arith, more)))
        (λ a. omega (arith, wider i j q a within))

    replies_are : both.0.replies ≡ h.takes.replies
    replies_are = both.1 ∙ (ap (λ zs. h.takes.replies ++ zs) (none_of m.replies m.count) ∙ append-nil h.takes.replies)

    At : List (ℕ × Event) → ℕ → List Reply → Type 0
    At zs l seen = MayEnd q (after s.core (replies_steps s.core (up_to l zs))) l (count_from l zs) seen

    by_place : (l : ℕ) → l < j → (l < i) ⊎ (i ≤ l) → At both.0.replies l (seen_at u l)
    by_place l lt (inl below) = subst (λ zs. At zs l (seen_at u l)) (sym replies_are) (subst (At h.takes.replies l) (sym (same l below)) (h.ends l below))
    by_place l lt (inr past) = inr (inl (none l past lt))

-- all lanes
pub all_ended : (i q n : ℕ) (s t : Sight) (log longer : List Step) → i ≡ lanes_of s.core.shape → TakesFirst i q n s log t longer → TakesAll q n s log t longer
all_ended i q n s t log longer count h =
    let all = takes_within (of_first i q) (λ l. q) n s t log longer h.takes (λ m. first_within i q m) in
    let At : List (ℕ × Event) → ℕ → Type 0 = λ zs l. MayEnd q (after s.core (replies_steps s.core (up_to l zs))) l (count_from l zs) (seen_at t l) in
    record { takes = all.0; ends = λ l lt. subst (λ zs. At zs l) (sym all.1) (h.ends l (omega (arith, count, lt))) }
