-- Reading the items of an array in turn, and the rows that a loop makes of the items of a list.
use Rattle.std.proofs.Common.{◌≡◌, ℕ, ◌+◌, ◌<◌, ◌≤◌, List, [], ◌∷◌, ◌++◌, length, get_or, take, drop, map, Option, Some, None, refl, sym, ap, ◌∙◌, append_assoc, append-nil}
use Rattle.std.specs.Prelude.{option_map}
use Rattle.std.proofs.lemmas.List.{at_drop_all, map_more, map_push}
use Rattle.toml.proofs.Views.{items_view-drop}
use Rattle.toml.specs.Data.{Data}
use Rattle.toml.specs.View.{view, items_view}
use Rattle.toml.specs.declared.value.Value.{Value}
use Rattle.play_documents.specs.Field.{items_by}

-- what was read before, and what is still read
abbrev pub with_front : {A : Type 0} → List A → Option (List A) → Option (List A)
with_front front read = option_map (λ xs. front ++ xs) read

module _ {A : Type 0} (read : Data → Option A) where
  -- one item more
  one_more : (front : List A) (x : A) (o : Option (List A)) → with_front front (option_map (λ xs. x ∷ xs) o) ≡ with_front (front ++ x ∷ []) o
  one_more front x None = refl
  one_more front x (Some xs) = ap Some (sym (append_assoc front (x ∷ []) xs))

  pub items-more : (vs : List Value) (i : ℕ) (d : Value) (front : List A) (x : A) (total : Option (List A)) → i < length vs → read (view (get_or vs i d)) ≡ Some x
      → with_front front (items_by read (items_view (drop i vs))) ≡ total → with_front (front ++ x ∷ []) (items_by read (items_view (drop (i + 1) vs))) ≡ total
  items-more vs i d front x total lt is so_far =
      let here : items_by read (items_view (drop i vs)) ≡ option_map (λ xs. x ∷ xs) (items_by read (items_view (drop (i + 1) vs))) = rw (items_view-drop vs i d lt, is) refl in
      sym (one_more front x (items_by read (items_view (drop (i + 1) vs)))) ∙ ap (with_front front) (sym here) ∙ so_far

  -- an item that is refused
  pub items-refused : (vs : List Value) (i : ℕ) (d : Value) (front : List A) (total : Option (List A)) → i < length vs → read (view (get_or vs i d)) ≡ None
      → with_front front (items_by read (items_view (drop i vs))) ≡ total → total ≡ None
  items-refused vs i d front total lt is so_far =
      let here : items_by read (items_view (drop i vs)) ≡ None = rw (items_view-drop vs i d lt, is) refl in
      sym so_far ∙ ap (with_front front) here

  -- no item is left
  pub items-all : (vs : List Value) (i : ℕ) (front : List A) (total : Option (List A)) → length vs ≤ i
      → with_front front (items_by read (items_view (drop i vs))) ≡ total → total ≡ Some front
  items-all vs i front total le so_far =
      let here : items_by read (items_view (drop i vs)) ≡ Some [] = at_drop_all (λ ws. items_by read (items_view ws)) vs i le in
      sym so_far ∙ ap (with_front front) here ∙ ap Some (append-nil front)

-- one row more
pub mapped-more : {X Y : Type 0} (row : X → Y) (xs : List X) (i : ℕ) (d : X) (front : List Y) (y : Y) → i < length xs
    → front ≡ map row (take i xs) → y ≡ row (get_or xs i d) → front ++ y ∷ [] ≡ map row (take (i + 1) xs)
mapped-more row xs i d front y lt are is = (λ k. are k ++ is k ∷ []) ∙ sym (map_more row xs i d lt)

-- one row more, where f shows the items
pub shown-more : {X Y Z : Type 0} (row : Y → Z) (f : X → Y) (xs : List X) (i : ℕ) (d : X) (front : List Z) (z : Z) → i < length xs
    → front ≡ map row (map f (take i xs)) → z ≡ row (f (get_or xs i d)) → front ++ z ∷ [] ≡ map row (map f (take (i + 1) xs))
shown-more row f xs i d front z lt are is =
    (λ k. are k ++ is k ∷ []) ∙ sym (map_push row (map f (take i xs)) (f (get_or xs i d))) ∙ ap (map row) (sym (map_more f xs i d lt))
