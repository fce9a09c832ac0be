-- What a walk over lanes, or over steps, has found so far.
use Rattle.std.proofs.Common.{◌≡◌, ℕ, zero, suc, ◌+◌, ◌-◌, ◌<◌, ◌≤◌, ◌++◌, ◌∷◌, List, [], Option, Some, None, get_or, length, take, filter, not, ap, ◌∙◌, sym, arith, BTreeSet, nat_cmp}
use Rattle.std.specs.BTreeSet.{contains}
use Rattle.std.specs.List.{filter_map, cons_option, range_with_len}
use Rattle.std.specs.Prelude.{slice_get}
use Rattle.std.proofs.lemmas.List.{take_more}
use Rattle.std.proofs.lemmas.List.Elements.{filter_map-append}
use Rattle.evt_types.specs.declared.event.Numbered.{Numbered}
use Rattle.evt_types.specs.declared.step.Step.{Step}
use Rattle.lists.specs.Lists.{has}
use Rattle.lists.proofs.Lists.{filter_agree_all, more_none}
use Rattle.lists.proofs.Ranges.{range_more}
use Rattle.transcripts.specs.Transcript.{accepted, answer_of, answers, hand, numbered, waiting}

-- one step more
pub front_more : (T : List Step) (i : ℕ) (s : Step) → i < length T → s ≡ get_or T i s → take (i + 1) T ≡ take i T ++ s ∷ []
front_more T i s lt is = take_more T i s lt ∙ ap (λ x. take i T ++ x ∷ []) (sym is)

-- what waits, by the set of the numbers that were given
pub waits_by : (T : List Step) (q : ℕ) (s : BTreeSet ℕ) → ((n : ℕ) → contains nat_cmp s n ≡ has n (hand T q))
    → filter (λ (w : Numbered). not (contains nat_cmp s w.number)) (numbered 0 (accepted T q)) ≡ waiting T q
unfolding waiting
waits_by T q s same =
    filter_agree_all (λ (w : Numbered). not (contains nat_cmp s w.number)) (λ (w : Numbered). not (has w.number (hand T q))) (numbered 0 (accepted T q))
    (λ k d lt. ap not (same (get_or (numbered 0 (accepted T q)) k d).number))

-- the lanes from k on, k first
range_split : (a k n : ℕ) → range_with_len a (k + n) ≡ range_with_len a k ++ range_with_len (a + k) n
range_split a zero n =
    let all : 0 + n ≡ n = omega arith in
    let here : a ≡ a + 0 = omega arith in
    ap (range_with_len a) all ∙ ap (λ m. range_with_len m n) here
range_split a (suc k) n =
    let all : suc k + n ≡ suc (k + n) = omega arith in
    let next : a + 1 + k ≡ a + suc k = omega arith in
    ap (range_with_len a) all
    ∙ ap (λ ks. a ∷ ks) (range_split (a + 1) k n ∙ ap (λ m. range_with_len (a + 1) k ++ range_with_len m n) next)

-- the first lane of which something is found
pub found_first : {X : Type 0} (h : ℕ → Option X) (n k : ℕ) (x : X) → k < n → filter_map h (range_with_len 0 k) ≡ [] → h k ≡ Some x
    → slice_get (filter_map h (range_with_len 0 n)) 0 ≡ Some x
found_first h n k x lt none here =
    let parts : k + suc (n - (k + 1)) ≡ n = omega (arith, lt) in
    ap (λ m. slice_get (filter_map h (range_with_len 0 m)) 0) (sym parts)
    ∙ (ap (λ ks. slice_get (filter_map h ks) 0) (range_split 0 k (suc (n - (k + 1))))
    ∙ (ap (λ ys. slice_get ys 0) (filter_map-append h (range_with_len 0 k) (range_with_len (0 + k) (suc (n - (k + 1)))) ∙ ap (λ ys. ys ++ filter_map h (range_with_len (0 + k) (suc (n - (k + 1))))) none)
    ∙ found (0 + k) (n - (k + 1)) (omega arith)))
  where
    found : (j m : ℕ) → j ≡ k → slice_get (filter_map h (range_with_len j (suc m))) 0 ≡ Some x
    found j m same = ap (λ o. slice_get (cons_option o (filter_map h (range_with_len (j + 1) m))) 0) (ap h same ∙ here)

-- one lane more of which nothing is found
pub found_none : {X : Type 0} (h : ℕ → Option X) (k : ℕ) → filter_map h (range_with_len 0 k) ≡ [] → h k ≡ None → filter_map h (range_with_len 0 (k + 1)) ≡ []
found_none h k none here = ap (filter_map h) (range_more k) ∙ (more_none h (range_with_len 0 k) k here ∙ none)

option_few : {X : Type 0} (o : Option X) (xs : List X) (n : ℕ) → length xs ≤ n → length (cons_option o xs) ≤ n + 1
option_few None xs n few = omega (arith, few)
option_few (Some x) xs n few = omega (arith, few)

filter_map_few : {X Y : Type 0} (h : X → Option Y) (xs : List X) → length (filter_map h xs) ≤ length xs
filter_map_few h [] = omega arith
filter_map_few h (x ∷ xs) = omega (arith, option_few (h x) (filter_map h xs) (length xs) (filter_map_few h xs))

-- a lane gives no more answers than there are steps
pub answers_few : (T : List Step) (l : ℕ) → length (answers T l) ≤ length T
unfolding answers
answers_few T l = filter_map_few (answer_of l) T
