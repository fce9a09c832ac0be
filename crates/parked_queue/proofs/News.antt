-- Queues in which nothing waits.
use Rattle.std.proofs.Common.{◌≡◌, ℕ, zero, suc, ◌+◌, ◌-◌, ◌*◌, ◌^◌, ◌<◌, ◌≤◌, List, [], ◌∷◌, ◌++◌, length, get_or, replicate, slice_get, refl, sym, ap, ◌∙◌, subst, arith, ⊎_elim}
use Rattle.std.proofs.lemmas.Bool.{cases_lt}
use Rattle.std.proofs.lemmas.List.{ext_get_or, get_or-append_right, get_or-map, get_or-replicate, get_or_append_left, length-map, length-replicate, length_push}
use Rattle.std.proofs.lemmas.List.Folds.{sum_by-replicate}
use Rattle.std.proofs.lemmas.List.FromFn.{fill_by_all}
use Rattle.std.proofs.lemmas.List.Sums.{sum_by-cons}
use Rattle.std.proofs.lemmas.Nat.Bits.{bit_at-zero}
use Rattle.lists.proofs.Ranges.{mapped_same}
use Rattle.evt_types.specs.declared.event.Numbered.{Numbered}
use Rattle.small_set.specs.SmallSets.{Has}
use Rattle.small_set.specs.declared.set.SmallSet.{SmallSet}
use Rattle.parked_queue.specs.Heads.{AreHeads, no_head, number_at, number_of, row_at}
use Rattle.parked_queue.specs.Lists.{Lists, list_at, total_of}
use Rattle.parked_queue.specs.Lists as lists
use Rattle.parked_queue.specs.Marks.{Kept, mask_of}
use Rattle.parked_queue.specs.Parkings.{AreApart, AreFirstParkings, AreNewParkings, AreParkings, IsNewParking, all_waits, kept, no_parking, parking_at, segment, waits_by}
use Rattle.parked_queue.specs.Parted.{Parted, no_parted, list_count, list_of_slot}
use Rattle.parked_queue.specs.Waits.{AreSlots, Waits, all_empty, all_waiting, count_of, no_waits, no_waits_of}
use Rattle.parked_queue.specs.declared.parking.Parking.{Parking}
use Rattle.parked_queue.proofs.Holding.{Holds, holds_held, nothing_held, view_held}

-- ---- one queue after the other

module _ (slots : List ℕ) (ps : List Parking) (n s : ℕ) (p : Parking) (first : AreFirstParkings slots ps n) (is : IsNewParking n s p) (here : get_or slots (length ps) 0 ≡ s) (few : s ≤ 64) where
  before : (q : ℕ) → q < length ps → parking_at (ps ++ p ∷ []) q ≡ parking_at ps q
  before q lt = get_or_append_left ps (p ∷ []) no_parking q lt

  last : (q : ℕ) → q ≡ length ps → parking_at (ps ++ p ∷ []) q ≡ p
  last q e =
      let none : length ps - length ps ≡ 0 = omega arith in
      ap (parking_at (ps ++ p ∷ [])) e
      ∙ (get_or-append_right ps (p ∷ []) (length ps) (length ps) no_parking refl (omega arith) ∙ ap (λ k. get_or (p ∷ []) k no_parking) none)

  longer : length (ps ++ p ∷ []) ≡ length ps + 1
  longer = length_push ps p

  each_more : (q : ℕ) → q < length ps + 1 → IsNewParking (parking_at (ps ++ p ∷ []) q).base (get_or slots q 0) (parking_at (ps ++ p ∷ []) q)
  each_more q lt =
      ⊎_elim
      (λ less. subst (λ x. IsNewParking x.base (get_or slots q 0) x) (sym (before q less)) (first.each q less))
      (λ le.
      let e : q ≡ length ps = omega arith in
      subst (λ x. IsNewParking x.base (get_or slots q 0) x) (sym (last q e))
      (subst (λ b. IsNewParking b (get_or slots q 0) p) (sym is.base) (subst (λ k. IsNewParking n k p) (sym (ap (λ k. get_or slots k 0) e ∙ here)) is)))
      (cases_lt q (length ps))

  within_more : (q : ℕ) → q < length ps + 1 → (parking_at (ps ++ p ∷ []) q).base + list_count (parking_at (ps ++ p ∷ []) q).slots ≤ n + list_count s
  within_more q lt =
      ⊎_elim
      (λ less. let w = first.apart.within q less in subst (λ (x : Parking). x.base + list_count x.slots ≤ n + list_count s) (sym (before q less)) (omega arith))
      (λ le. let b = is.base in let k = is.slots in subst (λ (x : Parking). x.base + list_count x.slots ≤ n + list_count s) (sym (last q (omega arith))) (omega arith))
      (cases_lt q (length ps))

  apart_more : (i q : ℕ) → i < q → q < length ps + 1 → (parking_at (ps ++ p ∷ []) i).base + list_count (parking_at (ps ++ p ∷ []) i).slots ≤ (parking_at (ps ++ p ∷ []) q).base
  apart_more i q lower lt =
      subst (λ (x : Parking). x.base + list_count x.slots ≤ (parking_at (ps ++ p ∷ []) q).base) (sym (before i (omega arith)))
      (⊎_elim
      (λ less. subst (λ (x : Parking). (parking_at ps i).base + list_count (parking_at ps i).slots ≤ x.base) (sym (before q less)) (first.apart.apart i q lower less))
      (λ le.
      let w = first.apart.within i (omega arith) in
      let b = is.base in
      subst (λ (x : Parking). (parking_at ps i).base + list_count (parking_at ps i).slots ≤ x.base) (sym (last q (omega arith))) (omega arith))
      (cases_lt q (length ps)))

  pub first_more : AreFirstParkings slots (ps ++ p ∷ []) (n + 4 * (s + 1))
  first_more =
      let long = longer in
      record {
        each = λ q lt. each_more q (omega arith);
        apart =
            record {
              within = λ q lt. within_more q (omega arith);
              apart = λ i q lower lt. apart_more i q lower (omega arith);
              few = let f = first.apart.few in omega arith;
            };
      }

pub first_none : (slots : List ℕ) → AreFirstParkings slots [] 0
first_none slots =
    record {
      each = λ q lt. absurd (omega arith);
      apart = record { within = λ q lt. absurd (omega arith); apart = λ i q lower lt. absurd (omega arith); few = omega arith };
    }

-- ---- nothing waits in them

none_there : (n j : ℕ) → get_or {A = List Numbered} (replicate n []) j [] ≡ []
none_there zero j = refl
none_there (suc n) zero = refl
none_there (suc n) (suc j) = none_there n j

none_at : (n room j : ℕ) → list_at (lists.all_empty n room) j ≡ []
none_at n room j = none_there n j

segment_none : (n room b k : ℕ) → segment (lists.all_empty n room) b k ≡ record { room = room; lists = replicate k [] }
segment_none n room b k =
    ap (λ ls. record { room = room; lists = ls })
    (mapped_same (λ j. []) (λ j. list_at (lists.all_empty n room) (b + j)) k (λ j lt. none_at n room (b + j))
    ∙ sym (fill_by_all (λ j. []) (replicate k []) k [] (length-replicate k []) (λ j h. get_or-replicate k j [] [] h)))

same_kept : (l m : Lists) (s t i j x y : ℕ) (b c : List ℕ) (p q : List SmallSet) (f g : List (List ℕ)) → l ≡ m → s ≡ t → i ≡ j → b ≡ c → p ≡ q → f ≡ g → x ≡ y
    → ◌≡◌ {A = Kept} (record { lists = l; slots = s; mask = i; below = b; parked = p; heads = f; next = x }) (record { lists = m; slots = t; mask = j; below = c; parked = q; heads = g; next = y })
same_kept l m s t i j x y b c p q f g e h k o r u z = cc

-- no slot has a number
abbrev no_rows : ℕ → List (List ℕ)
no_rows s = replicate s no_head ∷ replicate s no_head ∷ replicate s no_head ∷ replicate s no_head ∷ []

row_none : (s c : ℕ) → c < 4 → row_at (no_rows s) c ≡ replicate s no_head
row_none s zero lt = refl
row_none s (suc zero) lt = refl
row_none s (suc (suc zero)) lt = refl
row_none s (suc (suc (suc zero))) lt = refl
row_none s (suc (suc (suc (suc c)))) lt = absurd (omega arith)

none_number : (s slot : ℕ) → number_at (replicate s no_head) slot ≡ no_head
none_number zero slot = refl
none_number (suc s) zero = refl
none_number (suc s) (suc slot) = none_number s slot

heads_none : (room s : ℕ) → AreHeads (record { room = room; lists = replicate (list_count s) [] }) s (no_rows s)
heads_none room s =
    record {
      four = refl;
      long = λ c lt. ap length (row_none s c lt) ∙ length-replicate s no_head;
      first = λ c slot lt less. ap (λ r. number_at r slot) (row_none s c lt) ∙ (none_number s slot ∙ ap (λ us. number_of (slice_get us 0)) (sym (none_there (list_count s) (list_of_slot slot c))));
    }

zeros : (k : ℕ) → ¬ Has (record { bits = 0 }) k
zeros k h = let e = bit_at-zero k in omega arith

none_kept : (n room s : ℕ) (p : Parking) → 0 < s → s ≤ 64 → IsNewParking p.base s p → Holds (kept (lists.all_empty n room) p) (no_parted s room)
none_kept n room s p some few is =
    subst (λ x. Holds x (no_parted s room))
    (sym
    (same_kept _ (record { room = room; lists = replicate (list_count s) [] }) p.slots s p.mask (mask_of s) p.next 0 p.below (0 ∷ 0 ∷ 0 ∷ 0 ∷ []) p.parked _ p.heads (no_rows s)
    (segment_none n room p.base (list_count p.slots) ∙ ap (λ k. record { room = room; lists = replicate (list_count k) [] }) is.slots) is.slots is.mask is.below is.parked.1 is.heads is.next))
    (nothing_held (record { room = room; lists = replicate (list_count s) [] }) s room (mask_of s) is.parked.0 (no_rows s) (heads_none room s) some few refl refl is.parked.2 zeros)

module _ (slots : List ℕ) (ps : List Parking) (n room : ℕ) (are : AreNewParkings slots ps n) (each : AreSlots slots) where
  abbrev l : Lists
  l = lists.all_empty n room

  kept_at : (q : ℕ) → q < length ps → Holds (kept l (parking_at ps q)) (no_parted (get_or slots q 0) room)
  kept_at q lt =
      let count = are.count in
      let range = each q 0 (omega arith) in
      none_kept n room (get_or slots q 0) (parking_at ps q) range.0 range.1 (are.first.each q lt)

  waits_at_new : (q : ℕ) → q < length ps → waits_by l (parking_at ps q) ≡ no_waits (get_or slots q 0) room
  waits_at_new q lt = ap (λ (x : Parted). x.waits) (view_held (kept l (parking_at ps q)) (no_parted (get_or slots q 0) room) (kept_at q lt))

  -- nothing waits in any of them
  pub waits_new : all_waits l ps ≡ all_empty room slots
  waits_new =
      let count = are.count in
      let long = length-map ps (waits_by l) in
      let other = length-map slots (no_waits_of room) in
      ext_get_or (no_waits 1 0) (all_waits l ps) (all_empty room slots) (omega arith)
      (λ q lt. get_or-map (waits_by l) ps q no_parking (no_waits 1 0) (omega arith)
      ∙ (waits_at_new q (omega arith) ∙ sym (get_or-map (no_waits_of room) slots q 0 (no_waits 1 0) (omega arith))))

  none_waiting : (ss : List ℕ) → all_waiting (all_empty room ss) ≡ 0
  none_waiting [] = refl
  none_waiting (s ∷ ss) = let rest = none_waiting ss in let more = sum_by-cons count_of (no_waits s room) (all_empty room ss) in omega arith

  none_in_all : total_of l ≡ 0
  none_in_all = let e = sum_by-replicate (λ (us : List Numbered). length us) n [] in omega arith

  pub parkings_new : length slots ≤ 64 → room < 2 ^ 64 → AreParkings l ps
  parkings_new few small =
      let count = are.count in
      let zero_in = none_in_all in
      record {
        apart = subst (AreApart ps) (sym (length-replicate n [])) are.first.apart;
        queues = omega arith;
        each = λ q lt. holds_held (kept l (parking_at ps q)) (no_parted (get_or slots q 0) room) (kept_at q lt);
        counts = λ q lt. (are.first.each q lt).count ∙ sym (ap (λ (x : Waits). length x.waiting) (waits_at_new q lt));
        total = let e = ap all_waiting waits_new in let f = none_waiting slots in omega arith;
        within = omega arith;
        small = small;
      }
