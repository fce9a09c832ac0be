-- Counts of the items of lists, key by key.
use Rattle.std.specs.Prelude.{ℕ, ◌≡◌, ◌≢◌, ◌+◌, ◌<◌, ◌≤◌, Bool, true, false, cond, ◌&&◌, List, [], ◌∷◌, ◌++◌, ◌==◌, count_by, sum_by, filter_map, AllPairs, Option, Some, None, slice_get, if◌then◌else◌, ◌⊎◌}
use Rattle.std.specs.List.{cons_option}
use Rattle.std.proofs.Common.{zero, suc, refl, sym, ap, ◌∙◌, arith, inl, inr, ⊎_elim}
use Rattle.std.proofs.lemmas.Bool.{and_from, and_parts, cases_Bool, cond-true, cond-false}
use Rattle.std.proofs.lemmas.List.Elements.{All-weaker}
use Rattle.lists.proofs.Lists.{All-differs, eqb_other, eqb_same}
use Rattle.lists.proofs.Parts.{count_by-append, count_by-cons}
use Rattle.lists.proofs.Sums.{sum_changed_in, sum_of_none}
use Rattle.lists.specs.Lists.{has}

-- ---- counts by two tests

pub count_agree : {X : Type 0} (p q : X → Bool) (xs : List X) → ((x : X) → p x ≡ q x) → count_by p xs ≡ count_by q xs
count_agree {X} p q xs same = ap (λ (t : X → Bool). count_by t xs) (λ i x. same x i)

pub count_none : {X : Type 0} (p : X → Bool) (xs : List X) → ((x : X) → p x ≡ false) → count_by p xs ≡ 0
count_none p xs fails = sum_of_none (λ x. cond (p x) 1 0) xs (λ k d lt. cond-false {A = ℕ} _ 1 0 (fails _))

-- where what one test passes, so does the other
pub count_le : {X : Type 0} (p q : X → Bool) (xs : List X) → ((x : X) → p x ≡ true → q x ≡ true) → count_by p xs ≤ count_by q xs
count_le p q [] passes = omega arith
count_le {X} p q (x ∷ xs) passes =
    omega (arith, count_by-cons p x xs, count_by-cons q x xs, count_le p q xs passes, one (cases_Bool (p x)))
  where
    one : (p x ≡ true) ⊎ (p x ≡ false) → cond {A = ℕ} (p x) 1 0 ≤ cond {A = ℕ} (q x) 1 0
    one (inl is) = omega (arith, cond-true {A = ℕ} (p x) 1 0 is, cond-true {A = ℕ} (q x) 1 0 (passes x is))
    one (inr fails) = omega (arith, cond-false {A = ℕ} (p x) 1 0 fails)

-- an item of one list of tests is one of the other's
pub counts_join : {X : Type 0} (p q r : X → Bool) (xs : List X) → ((x : X) → cond {A = ℕ} (p x) 1 0 + cond {A = ℕ} (q x) 1 0 ≤ cond {A = ℕ} (r x) 1 0)
    → count_by p xs + count_by q xs ≤ count_by r xs
counts_join p q r [] each = omega arith
counts_join p q r (x ∷ xs) each =
    omega (arith, count_by-cons p x xs, count_by-cons q x xs, count_by-cons r x xs, each x, counts_join p q r xs each)

pub counts_split : {X : Type 0} (p q r : X → Bool) (xs : List X) → ((x : X) → cond {A = ℕ} (r x) 1 0 ≤ cond {A = ℕ} (p x) 1 0 + cond {A = ℕ} (q x) 1 0)
    → count_by r xs ≤ count_by p xs + count_by q xs
counts_split p q r [] each = omega arith
counts_split p q r (x ∷ xs) each =
    omega (arith, count_by-cons p x xs, count_by-cons q x xs, count_by-cons r x xs, each x, counts_split p q r xs each)

-- ---- what may be there

abbrev pub some_is : {X : Type 0} → (X → Bool) → Option X → Bool
some_is p None = false
some_is p (Some x) = p x

pub some_if : {X : Type 0} (p : X → Bool) (b : Bool) (x : X) → some_is p (if b then Some x else None) ≡ (b && p x)
some_if p true x = refl
some_if p false x = refl

count_option : {X : Type 0} (p : X → Bool) (o : Option X) (xs : List X) → count_by p (cons_option o xs) ≡ cond (some_is p o) 1 0 + count_by p xs
count_option p None xs = omega arith
count_option p (Some x) xs = count_by-cons p x xs

pub count_filter_map : {X Y : Type 0} (p : Y → Bool) (h : X → Option Y) (xs : List X) → count_by p (filter_map h xs) ≡ count_by (λ x. some_is p (h x)) xs
count_filter_map p h [] = refl
count_filter_map p h (x ∷ xs) =
    omega (arith, count_option p (h x) (filter_map h xs), count_by-cons (λ y. some_is p (h y)) x xs, count_filter_map p h xs)

-- one that stands there is counted
pub one_counted : {X : Type 0} (p : X → Bool) (xs : List X) (k : ℕ) → some_is p (slice_get xs k) ≡ true → 1 ≤ count_by p xs
one_counted p [] k is = cc
one_counted p (x ∷ xs) zero is = omega (arith, count_by-cons p x xs, cond-true {A = ℕ} (p x) 1 0 is)
one_counted p (x ∷ xs) (suc k) is = omega (arith, count_by-cons p x xs, one_counted p xs k is)

-- ---- an item that is counted

pub record Counted {X : Type 0} (p : X → Bool) (xs : List X) : Type 0 where
  pub before : List X
  pub item : X
  pub after : List X
  pub passes : p item ≡ true
  pub same : xs ≡ before ++ item ∷ after

pub counted : {X : Type 0} (p : X → Bool) (xs : List X) → 0 < count_by p xs → Counted p xs
counted p [] some = absurd (omega (arith, some))
counted {X} p (x ∷ xs) some = by_case (cases_Bool (p x)) (counted p xs)
  where
    by_case : (p x ≡ true) ⊎ (p x ≡ false) → (0 < count_by p xs → Counted p xs) → Counted p (x ∷ xs)
    by_case (inl is) rest = record { before = []; item = x; after = xs; passes = is; same = refl }
    by_case (inr fails) rest =
        let later : Counted p xs = rest (omega (arith, some, count_by-cons p x xs, cond-false {A = ℕ} (p x) 1 0 fails)) in
        record { before = x ∷ later.before; item = later.item; after = later.after; passes = later.passes; same = ap (λ ys. x ∷ ys) later.same }

-- ---- keys

-- where for each key no more items of one list are counted than of another, no more are in all
module _ {K X Y : Type 0} (same : K → K → Bool) (is : (a b : K) → same a b ≡ true → a ≡ b) (self : (a : K) → same a a ≡ true) (kx : X → K) (ky : Y → K) (px : X → Bool) (py : Y → Bool) where
  abbrev mine : K → X → Bool
  mine k x = same (kx x) k && px x

  abbrev other : K → Y → Bool
  other k y = same (ky y) k && py y

  -- without an item of the one's key
  fewer : (x : X) (xs : List X) (ys : List Y) → px x ≡ true → (c : Counted (other (kx x)) ys) → ((k : K) → count_by (mine k) (x ∷ xs) ≤ count_by (other k) ys)
      → (k : K) → count_by (mine k) xs ≤ count_by (other k) (c.before ++ c.after)
  fewer x xs ys passes c few k =
      omega (
        arith,
        few k,
        count_by-cons (mine k) x xs,
        ap (count_by (other k)) c.same,
        count_by-append (other k) c.before (c.item ∷ c.after),
        count_by-cons (other k) c.item c.after,
        count_by-append (other k) c.before c.after,
        ap (λ b. cond {A = ℕ} b 1 0) agree,
      )
    where
      parts : (same (ky c.item) (kx x) ≡ true) × (py c.item ≡ true)
      parts = and_parts (same (ky c.item) (kx x)) (py c.item) c.passes

      agree : mine k x ≡ other k c.item
      agree =
          ap (λ b. same (kx x) k && b) passes
          ∙ (ap (λ a. same a k && true) (sym (is (ky c.item) (kx x) parts.0)) ∙ ap (λ b. same (ky c.item) k && b) (sym parts.1))

  pub count_by_keys : (xs : List X) (ys : List Y) → ((k : K) → count_by (mine k) xs ≤ count_by (other k) ys) → count_by px xs ≤ count_by py ys
  count_by_keys [] ys few = omega arith
  count_by_keys (x ∷ xs) ys few = by_case (cases_Bool (px x)) (λ zs. count_by_keys xs zs)
    where
      by_case : (px x ≡ true) ⊎ (px x ≡ false) → ((zs : List Y) → ((k : K) → count_by (mine k) xs ≤ count_by (other k) zs) → count_by px xs ≤ count_by py zs)
          → count_by px (x ∷ xs) ≤ count_by py ys
      by_case (inr fails) rest =
          omega (arith, count_by-cons px x xs, cond-false {A = ℕ} (px x) 1 0 fails, rest ys (λ k. omega (arith, few k, count_by-cons (mine k) x xs)))
      by_case (inl passes) rest =
          let here : mine (kx x) x ≡ true = and_from (same (kx x) (kx x)) (px x) (self (kx x)) passes in
          let c : Counted (other (kx x)) ys =
          counted (other (kx x)) ys (omega (arith, few (kx x), count_by-cons (mine (kx x)) x xs, cond-true {A = ℕ} (mine (kx x) x) 1 0 here)) in
          let item : py c.item ≡ true = (and_parts (same (ky c.item) (kx x)) (py c.item) c.passes).1 in
          omega (
            arith,
            rest (c.before ++ c.after) (fewer x xs ys passes c few),
            count_by-cons px x xs,
            cond-true {A = ℕ} (px x) 1 0 passes,
            ap (count_by py) c.same,
            count_by-append py c.before (c.item ∷ c.after),
            count_by-cons py c.item c.after,
            cond-true {A = ℕ} (py c.item) 1 0 item,
            count_by-append py c.before c.after,
          )

-- ---- a number that stands in a list once at most

pub once_few : (n : ℕ) (ns : List ℕ) → AllPairs (λ i j. i ≢ j) ns → count_by (λ m. m == n) ns ≤ 1
once_few n ns once = ⊎_elim found missing (cases_Bool (has n ns))
  where
    found : has n ns ≡ true → count_by (λ m. m == n) ns ≤ 1
    found there =
        let one : cond (n == n) 1 0 + 0 ≡ 0 + 1 = omega (arith, cond-true {A = ℕ} (n == n) 1 0 (eqb_same n)) in
        let none : sum_by (λ (m : ℕ). 0) ns ≡ 0 = sum_of_none (λ (m : ℕ). 0) ns (λ k d lt. refl) in
        omega (arith, none, sum_changed_in (λ (m : ℕ). cond (m == n) 1 0) (λ (m : ℕ). 0) ns n 0 1 once there one (λ m differs. cond-false {A = ℕ} (m == n) 1 0 (eqb_other m n differs)))

    missing : has n ns ≡ false → count_by (λ m. m == n) ns ≤ 1
    missing gone =
        omega (
          arith,
          sum_of_none (λ (m : ℕ). cond {A = ℕ} (m == n) 1 0) ns
              (All-weaker (λ m. m ≢ n) (λ m. cond {A = ℕ} (m == n) 1 0 ≡ 0) (λ m differs. cond-false {A = ℕ} (m == n) 1 0 (eqb_other m n differs)) ns (All-differs n ns gone)),
        )
