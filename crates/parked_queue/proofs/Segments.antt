-- A queue's part of the lists, and what changes there alone.
use Rattle.std.proofs.Common.{◌≡◌, ℕ, ◌+◌, ◌<◌, ◌≤◌, ⊎_elim, List, [], ◌∷◌, ◌++◌, drop, length, refl, sym, ap, ◌∙◌, arith}
use Rattle.std.proofs.lemmas.List.{length-set, get_or-set_same, get_or-set_other}
use Rattle.std.proofs.lemmas.List.FromFn.{length-map-range_with_len}
use Rattle.std.proofs.lemmas.List.Sums.{sum_by-set}
use Rattle.lists.proofs.Ranges.{mapped_at, mapped_changed, mapped_same}
use Rattle.evt_types.specs.declared.event.Numbered.{Numbered}
use Rattle.parked_queue.specs.Lists.{Lists, list_at, total_of, with_last, with_list, without_first}
use Rattle.parked_queue.specs.Parkings.{IsBut, segment}

-- what stands in one of them
pub segment_at : (l : Lists) (b n k : ℕ) → k < n → list_at (segment l b n) k ≡ list_at l (b + k)
segment_at l b n k lt = mapped_at (λ j. list_at l (b + j)) n k [] lt

pub segment_length : (l : Lists) (b n : ℕ) → length (segment l b n).lists ≡ n
segment_length l b n = length-map-range_with_len (λ j. list_at l (b + j)) 0 n

same_lists : (r s : ℕ) (xs ys : List (List Numbered)) → r ≡ s → xs ≡ ys → ◌≡◌ {A = Lists} (record { room = r; lists = xs }) (record { room = s; lists = ys })
same_lists r s xs ys e f = cc

-- another list in it
pub segment_with : (l : Lists) (b n k : ℕ) (xs : List Numbered) → k < n → b + n ≤ length l.lists → segment (with_list l (b + k) xs) b n ≡ with_list (segment l b n) k xs
segment_with l b n k xs lt within =
    same_lists l.room l.room _ _ refl
    (mapped_changed (λ j. list_at l (b + j)) (λ j. list_at (with_list l (b + k) xs) (b + j)) n k xs lt
    (get_or-set_same l.lists (b + k) xs [] (omega arith))
    (λ j differs. get_or-set_other l.lists (b + k) (b + j) xs [] (λ e. differs (omega arith))))

pub segment_last : (l : Lists) (b n k : ℕ) (w : Numbered) → k < n → b + n ≤ length l.lists → segment (with_last l (b + k) w) b n ≡ with_last (segment l b n) k w
segment_last l b n k w lt within =
    segment_with l b n k (list_at l (b + k) ++ w ∷ []) lt within ∙ ap (λ us. with_list (segment l b n) k (us ++ w ∷ [])) (sym (segment_at l b n k lt))

pub segment_first : (l : Lists) (b n k : ℕ) → k < n → b + n ≤ length l.lists → segment (without_first l (b + k)) b n ≡ without_first (segment l b n) k
segment_first l b n k lt within = segment_with l b n k (drop 1 (list_at l (b + k))) lt within ∙ ap (λ us. with_list (segment l b n) k (drop 1 us)) (sym (segment_at l b n k lt))

-- lists that are the same there
pub segment_same : (l m : Lists) (b n : ℕ) → m.room ≡ l.room → ((j : ℕ) → b ≤ j → j < b + n → list_at m j ≡ list_at l j) → segment m b n ≡ segment l b n
segment_same l m b n room same =
    same_lists m.room l.room _ _ room
    (mapped_same (λ j. list_at l (b + j)) (λ j. list_at m (b + j)) n (λ j lt. same (b + j) (omega arith) (omega arith)))

-- ---- what changes in that part alone

pub but_none : (b n : ℕ) (l : Lists) → IsBut b n l l
but_none b n l = record { room = refl; count = refl; others = λ j out. refl; total = refl }

pub but_one : (l : Lists) (b n k : ℕ) (xs : List Numbered) → k < n → b + n ≤ length l.lists → IsBut b n l (with_list l (b + k) xs)
but_one l b n k xs lt within =
    let here : b + k < length l.lists = omega arith in
    let all = sum_by-set (λ (us : List Numbered). length us) l.lists (b + k) xs [] here in
    let long = segment_length l b n in
    let there : k < length (segment l b n).lists = omega arith in
    let part = sum_by-set (λ (us : List Numbered). length us) (segment l b n).lists k xs [] there in
    let same = ap (λ us. length us) (segment_at l b n k lt) in
    let moved = ap total_of (segment_with l b n k xs lt within) in
    record {
      room = refl;
      count = length-set l.lists (b + k) xs;
      others = λ j out. get_or-set_other l.lists (b + k) j xs [] (λ e. ⊎_elim (λ lower. omega arith) (λ higher. omega arith) out);
      total = omega arith;
    }

pub but_then : (b n : ℕ) (l m k : Lists) → IsBut b n l m → IsBut b n m k → IsBut b n l k
but_then b n l m k first then =
    let t = first.total in
    let u = then.total in
    record {
      room = then.room ∙ first.room;
      count = then.count ∙ first.count;
      others = λ j out. then.others j out ∙ first.others j out;
      total = omega arith;
    }
