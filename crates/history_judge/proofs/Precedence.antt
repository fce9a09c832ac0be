-- One item of a list stands before another; and what all ports receive in a run stands in the order of the moves.
use Rattle.std.specs.Prelude.{ℕ, ◌≡◌, ◌+◌, ◌<◌, ◌≤◌, Bool, true, List, [], ◌∷◌, ◌++◌, length, take, drop, filter, filter_map, fold, AllPairs, Option, Some, None, slice_get}
use Rattle.std.specs.List.{cons_option}
use Rattle.std.proofs.Common.{refl, sym, ap, ◌∙◌, subst, arith, get_or, append_assoc, length-append}
use Rattle.std.proofs.lemmas.Bool.{cond-true}
use Rattle.std.proofs.lemmas.List.{take-append-drop, take-take}
use Rattle.std.proofs.lemmas.List.Elements.{filter-append, filter_map-append}
use Rattle.std.proofs.lemmas.Option.{get_or_from_slice_get, slice_get_within}
use Rattle.lists.proofs.Parts.{slice_get_after, take_next}
use Rattle.transcripts.specs.Lawful.{IsPrefix}
use Rattle.transcripts.specs.Transcript.{out}
use Rattle.world_laws.specs.World.{World, Move, Receives, after_moves, empty, moved, receipt, receipts, received_by_all}

-- ---- items in their order

pub record Precedes {X : Type 0} (xs : List X) (y x : X) : Type 0 where
  pub front : List X
  pub middle : List X
  pub rest : List X
  pub same : xs ≡ (front ++ y ∷ middle) ++ x ∷ rest

pub precedes_mapped : {X Y : Type 0} (h : X → Option Y) (xs : List X) (y x : X) (v w : Y) → Precedes xs y x → h y ≡ Some v → h x ≡ Some w → Precedes (filter_map h xs) v w
precedes_mapped h xs y x v w is first second =
    record {
      front = filter_map h is.front;
      middle = filter_map h is.middle;
      rest = filter_map h is.rest;
      same = ap (filter_map h) is.same
          ∙ (filter_map-append h (is.front ++ y ∷ is.middle) (x ∷ is.rest)
          ∙ (ap (λ zs. zs ++ filter_map h (x ∷ is.rest)) (filter_map-append h is.front (y ∷ is.middle))
          ∙ (ap (λ o. (filter_map h is.front ++ cons_option o (filter_map h is.middle)) ++ filter_map h (x ∷ is.rest)) first
          ∙ ap (λ o. (filter_map h is.front ++ v ∷ filter_map h is.middle) ++ cons_option o (filter_map h is.rest)) second)));
    }

pub precedes_kept : {X : Type 0} (p : X → Bool) (xs : List X) (y x : X) → Precedes xs y x → p y ≡ true → p x ≡ true → Precedes (filter p xs) y x
precedes_kept p xs y x is first second =
    record {
      front = filter p is.front;
      middle = filter p is.middle;
      rest = filter p is.rest;
      same = ap (filter p) is.same
          ∙ (filter-append p (is.front ++ y ∷ is.middle) (x ∷ is.rest)
          ∙ (ap (λ zs. zs ++ filter p (x ∷ is.rest)) (filter-append p is.front (y ∷ is.middle))
          ∙ (ap (λ zs. (filter p is.front ++ zs) ++ filter p (x ∷ is.rest)) (cond-true (p y) (y ∷ filter p is.middle) (filter p is.middle) first)
          ∙ ap (λ zs. (filter p is.front ++ y ∷ filter p is.middle) ++ zs) (cond-true (p x) (x ∷ filter p is.rest) (filter p is.rest) second))));
    }

pub precedes_on : {X : Type 0} (xs ys : List X) (y x : X) → Precedes xs y x → IsPrefix xs ys → Precedes ys y x
precedes_on xs ys y x is front =
    record {
      front = is.front;
      middle = is.middle;
      rest = is.rest ++ front.0;
      same = sym front.1 ∙ (ap (λ zs. zs ++ front.0) is.same ∙ append_assoc (is.front ++ y ∷ is.middle) (x ∷ is.rest) front.0);
    }

pub precedes_pair : {X : Type 0} (R : X → X → Type 0) (xs : List X) (y x : X) → Precedes xs y x → AllPairs R xs → R y x
precedes_pair R xs y x is all =
    subst (λ z. R z x) (get_or_from_slice_get xs (length is.front) y x first)
    (subst (R (get_or xs (length is.front) x)) (get_or_from_slice_get xs (length (is.front ++ y ∷ is.middle)) x x second)
    (all (length is.front) (length (is.front ++ y ∷ is.middle)) x (omega (arith, length-append is.front (y ∷ is.middle)))
    (slice_get_within xs (length (is.front ++ y ∷ is.middle)) x second)))
  where
    first : slice_get xs (length is.front) ≡ Some y
    first = slice_get_after is.front (is.middle ++ x ∷ is.rest) y xs (is.same ∙ append_assoc is.front (y ∷ is.middle) (x ∷ is.rest))

    second : slice_get xs (length (is.front ++ y ∷ is.middle)) ≡ Some x
    second = slice_get_after (is.front ++ y ∷ is.middle) is.rest x xs is.same

-- ---- what all ports receive

option_then : {X : Type 0} (o : Option X) (xs ys : List X) → cons_option o (xs ++ ys) ≡ cons_option o xs ++ ys
option_then None xs ys = refl
option_then (Some x) xs ys = refl

receipts-append : (asked : ℕ → Bool) (w : World) (ms ns : List Move) → receipts asked w (ms ++ ns) ≡ receipts asked w ms ++ receipts asked (fold moved w ms) ns
receipts-append asked w [] ns = refl
receipts-append asked w (m ∷ ms) ns =
    ap (cons_option (receipt asked w m)) (receipts-append asked (moved w m) ms ns)
    ∙ option_then (receipt asked w m) (receipts asked (moved w m) ms) (receipts asked (fold moved (moved w m) ms) ns)

-- the pair of a receipt stands behind those of the moves before it
received_next : (moves : List Move) (k l : ℕ) (x : ℕ × ℕ) → slice_get moves k ≡ Some (Receives l) → slice_get (out (after_moves moves k).log l) ((after_moves moves k).received l) ≡ Some x
    → received_by_all (take (k + 1) moves) ≡ received_by_all (take k moves) ++ x ∷ []
received_next moves k l x made is =
    ap received_by_all (take_next moves k (Receives l) made)
    ∙ (receipts-append (λ m. true) empty (take k moves) (Receives l ∷ []) ∙ ap (λ o. received_by_all (take k moves) ++ cons_option o []) is)

received_first : (moves : List Move) (j k : ℕ) → j ≤ k → IsPrefix (received_by_all (take j moves)) (received_by_all (take k moves))
received_first moves j k le = (
  receipts (λ m. true) (after_moves moves j) (drop j (take k moves)),
  sym (receipts-append (λ m. true) empty (take j moves) (drop j (take k moves)))
      ∙ ap received_by_all (ap (λ ms. ms ++ drop j (take k moves)) (sym (take-take j k moves le)) ∙ take-append-drop j (take k moves)),
)

received_of_all : (moves : List Move) (k : ℕ) → IsPrefix (received_by_all (take k moves)) (received_by_all moves)
received_of_all moves k = (
  receipts (λ m. true) (after_moves moves k) (drop k moves),
  sym (receipts-append (λ m. true) empty (take k moves) (drop k moves)) ∙ ap received_by_all (take-append-drop k moves),
)

-- the pair that a move receives
pub record IsReceipt (moves : List Move) (k : ℕ) (x : ℕ × ℕ) : Type 0 where
  pub lane : ℕ
  pub made : slice_get moves k ≡ Some (Receives lane)
  pub pair : slice_get (out (after_moves moves k).log lane) ((after_moves moves k).received lane) ≡ Some x

pub received_in_order : (moves : List Move) (j k : ℕ) (y x : ℕ × ℕ) → j < k → IsReceipt moves j y → IsReceipt moves k x → Precedes (received_by_all moves) y x
received_in_order moves j k y x lt first second =
    precedes_on (received_by_all (take (k + 1) moves)) (received_by_all moves) y x
    (record {
      front = received_by_all (take j moves);
      middle = between.0;
      rest = [];
      same = received_next moves k second.lane x second.made second.pair ∙ ap (λ xs. xs ++ x ∷ []) before;
    })
    (received_of_all moves (k + 1))
  where
    between : IsPrefix (received_by_all (take (j + 1) moves)) (received_by_all (take k moves))
    between = received_first moves (j + 1) k (omega (arith, lt))

    before : received_by_all (take k moves) ≡ received_by_all (take j moves) ++ y ∷ between.0
    before =
        sym between.1
        ∙ (ap (λ xs. xs ++ between.0) (received_next moves j first.lane y first.made first.pair) ∙ append_assoc (received_by_all (take j moves)) (y ∷ []) between.0)
