-- How many events are in all lists, after one has come or gone.
use Rattle.std.proofs.Common.{◌≡◌, ℕ, zero, suc, ◌+◌, ◌<◌, ◌≤◌, List, [], ◌∷◌, ◌++◌, length, drop, replicate, Some, slice_get, refl, arith}
use Rattle.std.proofs.lemmas.List.{length-drop, length_push}
use Rattle.std.proofs.lemmas.List.Sums.{get_or-le-sum_by, sum_by-cons, sum_by-set}
use Rattle.std.proofs.lemmas.Option.{slice_get_within}
use Rattle.evt_types.specs.declared.event.Numbered.{Numbered}
use Rattle.parked_queue.specs.Lists.{Lists, all_empty, list_at, total_of, with_last, with_list, without_first}

pub total_with : (l : Lists) (k : ℕ) (us : List Numbered) → k < length l.lists → total_of (with_list l k us) + length (list_at l k) ≡ total_of l + length us
total_with l k us lt =
    let sums = sum_by-set (λ (ws : List Numbered). length ws) l.lists k us [] lt in
    omega arith

pub total_without : (l : Lists) (k : ℕ) (w : Numbered) → k < length l.lists → slice_get (list_at l k) 0 ≡ Some w → total_of (without_first l k) + 1 ≡ total_of l
total_without l k w lt e =
    let some = slice_get_within (list_at l k) 0 w e in
    let less = length-drop 1 (list_at l k) in
    let sums = total_with l k (drop 1 (list_at l k)) lt in
    omega arith

pub total_first : (l : Lists) (k : ℕ) → k < length l.lists → 0 < length (list_at l k) → total_of (without_first l k) + 1 ≡ total_of l
total_first l k lt some =
    let less = length-drop 1 (list_at l k) in
    let sums = total_with l k (drop 1 (list_at l k)) lt in
    omega arith

pub total_last : (l : Lists) (k : ℕ) (w : Numbered) → k < length l.lists → total_of (with_last l k w) ≡ total_of l + 1
total_last l k w lt =
    let more = length_push (list_at l k) w in
    let sums = total_with l k (list_at l k ++ w ∷ []) lt in
    omega arith

-- no list has more events than all have
pub list_within_total : (l : Lists) (k : ℕ) → k < length l.lists → length (list_at l k) ≤ total_of l
list_within_total l k lt = get_or-le-sum_by length l.lists k [] lt

pub total_none : (n room : ℕ) → total_of (all_empty n room) ≡ 0
total_none zero room = refl
total_none (suc n) room =
    let rest = total_none n room in
    let sums = sum_by-cons (λ (us : List Numbered). length us) [] (replicate n []) in
    omega arith
