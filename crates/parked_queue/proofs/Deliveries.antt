-- The deliveries of all lists, put in order by their numbers, are those of what waits.
use Rattle.std.proofs.Common.{◌≡◌, ℕ, zero, suc, ◌+◌, ◌-◌, ◌<◌, ◌≤◌, List, [], ◌∷◌, ◌++◌, length, map, take, drop, get_or, sum_by, All, AllPairs, ⊎_elim, refl, sym, ap, ◌∙◌, subst, arith, append_assoc}
use Rattle.std.specs.List.{flat_map, range_with_len}
use Rattle.std.specs.List.Sorted.{IsNonDecreasing, IsNonDecreasingBy, IsPermutation}
use Rattle.std.proofs.lemmas.Bool.{cases_eq, cases_lt}
use Rattle.std.proofs.lemmas.List.{ext_get_or, get_or-map, get_or_default, length-append, length-map, map-append, nil_from_length}
use Rattle.std.proofs.lemmas.List.Elements.{All-append, All-filter, All-map, All-nil}
use Rattle.std.proofs.lemmas.List.Sorted.{All-permutation, sum_by-IsPermutation, length_permutation}
use Rattle.std.proofs.lemmas.List.Sums.{sum_by-append, sum_by-cons}
use Rattle.lists.proofs.Ranges.{flat_map_range_more}
use Rattle.lists.proofs.Sorted.{sorted_same, tail_is, tail_sorted}
use Rattle.lists.proofs.Sums.{sum_of_map}
use Rattle.evt_types.specs.declared.event.Delivery.{Delivery}
use Rattle.evt_types.specs.declared.event.Numbered.{Numbered}
use Rattle.parked_queue.specs.Merge.{is_in}
use Rattle.parked_queue.specs.Parted.{Parted, list_in, list_of, list_count}
use Rattle.parked_queue.specs.Parts.{all_parts, parts_of}
use Rattle.parked_queue.specs.Waits.{AreWaits}
use Rattle.parked_queue.proofs.Holding.{back}
use Rattle.parked_queue.proofs.Merges.{by_number_length, by_number_sum}
use Rattle.parked_queue.specs.Lists.{named_delivery}
use borrow.Rule.Slice.PartMut.{mid_of, put_mid}

-- ---- one list after the other

joined_sum : (f : Numbered → ℕ) (g : ℕ → List Numbered) (ks : List ℕ) → sum_by f (flat_map g ks) ≡ sum_by (λ us. sum_by f us) (map g ks)
joined_sum f g [] = refl
joined_sum f g (k ∷ ks) =
    let rest = joined_sum f g ks in
    let more = sum_by-cons (λ us. sum_by f us) (g k) (map g ks) in
    sum_by-append f (g k) (flat_map g ks) ∙ omega arith

joined_length : (g : ℕ → List Numbered) (ks : List ℕ) → length (flat_map g ks) ≡ sum_by (λ us. length us) (map g ks)
joined_length g [] = refl
joined_length g (k ∷ ks) =
    let rest = joined_length g ks in
    let more = sum_by-cons (λ (us : List Numbered). length us) (g k) (map g ks) in
    length-append (g k) (flat_map g ks) ∙ omega arith

-- they have what waits
pub all_sum : (f : Numbered → ℕ) (v : Parted) → AreWaits v.waits → sum_by f (all_parts v) ≡ sum_by f v.waits.waiting
all_sum f v waits =
    joined_sum f (λ k. list_in v k) (range_with_len 0 (list_count v.waits.slots))
    ∙ (sym (by_number_sum f (map (λ k. list_in v k) (range_with_len 0 (list_count v.waits.slots)))) ∙ ap (sum_by f) (back v waits))

all_length : (v : Parted) → AreWaits v.waits → length (all_parts v) ≡ length v.waits.waiting
all_length v waits =
    joined_length (λ k. list_in v k) (range_with_len 0 (list_count v.waits.slots))
    ∙ (sym (by_number_length (map (λ k. list_in v k) (range_with_len 0 (list_count v.waits.slots)))) ∙ ap length (back v waits))

-- one list more
pub parts_more : (v : Parted) (n : ℕ) → parts_of v (n + 1) ≡ parts_of v n ++ list_in v n
parts_more v n = flat_map_range_more (λ k. list_in v k) n

more_lists : (v : Parted) (n m : ℕ) → length (parts_of v n) ≤ length (parts_of v (n + m))
more_lists v n zero = let e : n + 0 ≡ n = omega arith in subst (λ k. length (parts_of v n) ≤ length (parts_of v k)) (sym e) (omega arith)
more_lists v n (suc m) =
    let rest = more_lists v n m in
    let next : n + suc m ≡ n + m + 1 = omega arith in
    let longer = ap length (parts_more v (n + m)) ∙ length-append (parts_of v (n + m)) (list_in v (n + m)) in
    subst (λ k. length (parts_of v n) ≤ length (parts_of v k)) (sym next) (omega arith)

-- the first lists and the next one have no more than what waits
pub parts_fit : (v : Parted) (n : ℕ) → AreWaits v.waits → n < list_count v.waits.slots → length (parts_of v n) + length (list_in v n) ≤ length v.waits.waiting
parts_fit v n waits lt =
    let some = ap length (parts_more v n) ∙ length-append (parts_of v n) (list_in v n) in
    let all : length (parts_of v (n + 1)) ≤ length (all_parts v) = subst (λ k. length (parts_of v (n + 1)) ≤ length (parts_of v k)) (omega arith) (more_lists v (n + 1) (list_count v.waits.slots - (n + 1))) in
    let whole = all_length v waits in
    omega arith

pub deliveries_more : (v : Parted) (n : ℕ) (before xs ys : List Delivery) (us : List Numbered) → us ≡ list_in v n → xs ≡ before ++ map named_delivery (parts_of v n) → ys ≡ xs ++ map named_delivery us → ys ≡ before ++ map named_delivery (parts_of v (n + 1))
deliveries_more v n before xs ys us list is come =
    come
    ∙ (ap (λ zs. zs ++ map named_delivery us) is
    ∙ (append_assoc before (map named_delivery (parts_of v n)) (map named_delivery us)
    ∙ ap (λ zs. before ++ zs) (ap (λ zs. map named_delivery (parts_of v n) ++ map named_delivery zs) list ∙ (sym (map-append named_delivery (parts_of v n) (list_in v n)) ∙ ap (map named_delivery) (sym (parts_more v n))))))

pub deliveries_length : (before xs : List Delivery) (us : List Numbered) → xs ≡ before ++ map named_delivery us → length xs ≡ length before + length us
deliveries_length before xs us is = ap length is ∙ (length-append before (map named_delivery us) ∙ ap (λ n. length before + n) (length-map us named_delivery))

-- ---- in the order of keys

pairs_mapped : {X Y : Type 0} (R : Y → Y → Type 0) (f : X → Y) (xs : List X) → AllPairs (λ x y. R (f x) (f y)) xs → AllPairs R (map f xs)
pairs_mapped R f [] all i j d lt within = absurd (omega arith)
pairs_mapped R f (x ∷ xs) all i j d lt within =
    let h : j < length (x ∷ xs) = subst (λ n. j < n) (length-map (x ∷ xs) f) within in
    let a : get_or (map f (x ∷ xs)) i d ≡ f (get_or (x ∷ xs) i x) = get_or-map f (x ∷ xs) i x d (omega arith) in
    let b : get_or (map f (x ∷ xs)) j d ≡ f (get_or (x ∷ xs) j x) = get_or-map f (x ∷ xs) j x d h in
    subst (λ y. R y (get_or (map f (x ∷ xs)) j d)) (sym a) (subst (R (f (get_or (x ∷ xs) i x))) (sym b) (all i j x lt h))

module _ {X : Type 0} (key : X → ℕ) where
  keys_in_order : (xs : List X) → IsNonDecreasingBy key xs → IsNonDecreasing (map key xs)
  keys_in_order [] order i j d le within = absurd (omega arith)
  keys_in_order (x ∷ xs) order i j d le within =
      let h : j < length (x ∷ xs) = subst (λ n. j < n) (length-map (x ∷ xs) key) within in
      let a : get_or (map key (x ∷ xs)) i d ≡ key (get_or (x ∷ xs) i x) = get_or-map key (x ∷ xs) i x d (omega arith) in
      let b : get_or (map key (x ∷ xs)) j d ≡ key (get_or (x ∷ xs) j x) = get_or-map key (x ∷ xs) j x d h in
      let less : key (get_or (x ∷ xs) i x) ≤ key (get_or (x ∷ xs) j x) = order i j x le h in
      omega arith

  -- of its key the list has this element alone
  abbrev IsTheOne : List X → X → Type 0
  IsTheOne xs y = (i : ℕ) (d : X) → i < length xs → key (get_or xs i d) ≡ key y → get_or xs i d ≡ y

  the_ones : (xs : List X) → AllPairs (λ x y. key x < key y) xs → All (IsTheOne xs) xs
  the_ones xs rises k e within i d h same =
      ⊎_elim (λ is. get_or_default xs i d e h ∙ ap (λ n. get_or xs n e) is)
      (λ differs.
      let here : key (get_or xs i e) ≡ key (get_or xs k e) = ap key (get_or_default xs i e d h) ∙ same in
      ⊎_elim (λ lt. let less : key (get_or xs i e) < key (get_or xs k e) = rises i k e lt within in absurd (omega arith))
      (λ ge. let less : key (get_or xs k e) < key (get_or xs i e) = rises k i e (omega arith) h in absurd (omega arith))
      (cases_lt i k))
      (cases_eq i k)

  -- elements whose keys rise have one order by their keys
  sorted_by_key : (xs ys : List X) → AllPairs (λ x y. key x < key y) xs → IsNonDecreasingBy key ys → ((f : X → ℕ) → sum_by f xs ≡ sum_by f ys) → All (IsTheOne xs) ys → ys ≡ xs
  sorted_by_key xs ys rises order same ones = by_index ys count at
    where
      keys : map key ys ≡ map key xs
      keys =
          sorted_same (map key xs) (map key ys) (pairs_mapped (λ m n. m < n) key xs rises) (keys_in_order ys order)
          (λ f. sum_of_map f key xs ∙ (same (λ x. f (key x)) ∙ sym (sum_of_map f key ys)))

      count : length ys ≡ length xs
      count = sym (length-map ys key) ∙ (ap length keys ∙ length-map xs key)

      at : (k : ℕ) (d : X) → k < length ys → get_or ys k d ≡ get_or xs k d
      at k d h =
          let there : k < length xs = omega (arith, count) in
          sym (ones k d h k d there (sym (get_or-map key xs k d (key d) there) ∙ (ap (λ ns. get_or ns k (key d)) (sym keys) ∙ get_or-map key ys k d (key d) h)))

      by_index : (zs : List X) → length zs ≡ length xs → ((k : ℕ) (d : X) → k < length zs → get_or zs k d ≡ get_or xs k d) → zs ≡ xs
      by_index [] none each = sym (nil_from_length xs (sym none))
      by_index (z ∷ zs) some each = ext_get_or z (z ∷ zs) xs some (λ k h. each k z h)

-- ---- put in order

abbrev pub number_of : Delivery → ℕ
number_of d = d.number

joined_each : (P : Numbered → Type 0) (g : ℕ → List Numbered) (ks : List ℕ) → ((k : ℕ) → All P (g k)) → All P (flat_map g ks)
joined_each P g [] each = All-nil P
joined_each P g (k ∷ ks) each = All-append P (g k) (flat_map g ks) (each k) (joined_each P g ks each)

-- what holds of all that waits holds of what is in the lists
parts_each : (P : Numbered → Type 0) (v : Parted) → All P v.waits.waiting → All P (all_parts v)
parts_each P v all =
    joined_each P (λ k. list_in v k) (range_with_len 0 (list_count v.waits.slots)) (λ k. All-filter (is_in (list_of v.waits.slots v.below) k) P v.waits.waiting all)

delivered_sum : (f : Delivery → ℕ) (v : Parted) → AreWaits v.waits → sum_by f (map named_delivery (all_parts v)) ≡ sum_by f (map named_delivery v.waits.waiting)
delivered_sum f v waits =
    sum_of_map f named_delivery (all_parts v)
    ∙ (all_sum (λ u. f (named_delivery u)) v waits ∙ sym (sum_of_map f named_delivery v.waits.waiting))

sorted_deliveries : (v : Parted) (sorted : List Delivery) → AreWaits v.waits → IsPermutation (map named_delivery (all_parts v)) sorted → IsNonDecreasingBy number_of sorted → sorted ≡ map named_delivery v.waits.waiting
sorted_deliveries v sorted waits permutes order =
    sorted_by_key number_of wanted sorted rises order
    (λ f. sym (sum_by-IsPermutation f (map named_delivery (all_parts v)) sorted permutes ∙ delivered_sum f v waits))
    (All-permutation (IsTheOne number_of wanted) (map named_delivery (all_parts v)) sorted permutes
    (All-map (IsTheOne number_of wanted) named_delivery (all_parts v) (parts_each (λ u. IsTheOne number_of wanted (named_delivery u)) v ones)))
  where
    wanted : List Delivery
    wanted = map named_delivery v.waits.waiting

    rises : AllPairs (λ x y. number_of x < number_of y) wanted
    rises = pairs_mapped (λ x y. number_of x < number_of y) named_delivery v.waits.waiting waits.rising

    ones : All (λ u. IsTheOne number_of wanted (named_delivery u)) v.waits.waiting
    ones k d h =
        subst (IsTheOne number_of wanted) (get_or-map named_delivery v.waits.waiting k d (named_delivery d) h)
        (the_ones number_of wanted rises k (named_delivery d) (subst (λ n. k < n) (sym (length-map v.waits.waiting named_delivery)) h))

-- the deliveries after those that were there before
pub listed : (v : Parted) (now items before sorted : List Delivery) (n s : ℕ) → AreWaits v.waits
    → now ≡ items → items ≡ before ++ map named_delivery (all_parts v) → s ≡ length before → n ≡ length items
    → IsPermutation (mid_of s (length now - s) now) sorted → IsNonDecreasingBy number_of sorted
    → take n (put_mid s (length now - s) now sorted ++ drop (length (put_mid s (length now - s) now sorted)) items) ≡ before ++ map named_delivery v.waits.waiting
listed v now items before sorted n s waits same is start end permutes order =
    let xs : List Delivery = map named_delivery (all_parts v) in
    let here : IsPermutation (mid_of s (length items - s) items) sorted = subst (λ zs. IsPermutation (mid_of s (length zs - s) zs) sorted) same permutes in
    let moved : IsPermutation xs sorted = subst (λ zs. IsPermutation zs sorted) (tail_is items before xs s is start) here in
    subst (λ zs. take n (put_mid s (length zs - s) zs sorted ++ drop (length (put_mid s (length zs - s) zs sorted)) items) ≡ before ++ map named_delivery v.waits.waiting) (sym same)
    (tail_sorted items before xs sorted n s is start end (length_permutation xs sorted moved) ∙ ap (λ zs. before ++ zs) (sorted_deliveries v sorted waits moved order))
