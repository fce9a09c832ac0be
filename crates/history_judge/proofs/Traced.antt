-- Where the items of a list that is made from another one come from.
use Rattle.std.specs.Prelude.{ℕ, ◌≡◌, ◌<◌, true, List, [], ◌∷◌, ◌++◌, length, filter_map, Option, Some, None, slice_get}
use Rattle.std.specs.List.{cons_option}
use Rattle.std.proofs.Common.{zero, suc, refl, sym, ap, ◌∙◌, arith, append_assoc, append-nil}
use Rattle.std.proofs.lemmas.List.Elements.{filter_map-append}
use Rattle.std.proofs.lemmas.Option.{none-some, same_Some, slice_get_read}
use Rattle.lists.proofs.Lists.{has-Contains, slice_get-append_left}
use Rattle.lists.proofs.Parts.{slice_get_after}
use Rattle.lists.specs.Lists.{has, with_past}
use Rattle.history_judge.proofs.Precedence.{Precedes}

-- ---- one item

-- the item that gives what stands at the place
pub record IsMappedAt {X Y : Type 0} (h : X → Option Y) (xs : List X) (n : ℕ) (y : Y) : Type 0 where
  pub front : List X
  pub item : X
  pub rest : List X
  pub whole : front ++ item ∷ rest ≡ xs
  pub is : h item ≡ Some y
  pub size : length (filter_map h front) ≡ n

pub mapped_at : {X Y : Type 0} (h : X → Option Y) (xs : List X) (n : ℕ) (y : Y) → slice_get (filter_map h xs) n ≡ Some y → IsMappedAt h xs n y
mapped_at h [] n y at = absurd (none-some y at)
mapped_at {X} {Y} h (x ∷ xs) n y at = by_case (h x) refl n at (λ m. mapped_at h xs m y)
  where
    by_case : (o : Option Y) → h x ≡ o → (k : ℕ) → slice_get (cons_option o (filter_map h xs)) k ≡ Some y → ((m : ℕ) → slice_get (filter_map h xs) m ≡ Some y → IsMappedAt h xs m y)
        → IsMappedAt h (x ∷ xs) k y
    by_case None is k there later =
        let c = later k there in
        record {
          front = x ∷ c.front;
          item = c.item;
          rest = c.rest;
          whole = ap (λ ys. x ∷ ys) c.whole;
          is = c.is;
          size = ap (λ o. length (cons_option o (filter_map h c.front))) is ∙ c.size;
        }
    by_case (Some z) is zero there later =
        record { front = []; item = x; rest = xs; whole = refl; is = is ∙ ap Some (same_Some z y there); size = refl }
    by_case (Some z) is (suc k) there later =
        let c = later k there in
        record {
          front = x ∷ c.front;
          item = c.item;
          rest = c.rest;
          whole = ap (λ ys. x ∷ ys) c.whole;
          is = c.is;
          size = ap (λ o. length (cons_option o (filter_map h c.front))) is ∙ ap suc c.size;
        }

-- and the place of what an item gives
pub stands_mapped : {X Y : Type 0} (h : X → Option Y) (front rest xs : List X) (x : X) (y : Y) → front ++ x ∷ rest ≡ xs → h x ≡ Some y
    → slice_get (filter_map h xs) (length (filter_map h front)) ≡ Some y
stands_mapped h front rest xs x y whole is =
    slice_get_after (filter_map h front) (filter_map h rest) y (filter_map h xs)
    (ap (filter_map h) (sym whole) ∙ (filter_map-append h front (x ∷ rest) ∙ ap (λ o. filter_map h front ++ cons_option o (filter_map h rest)) is))

-- the same with the items before it
pub record IsMadeAt {X Y : Type 0} (f : List X → X → Option Y) (past xs : List X) (y : Y) : Type 0 where
  pub front : List X
  pub item : X
  pub rest : List X
  pub whole : front ++ item ∷ rest ≡ xs
  pub is : f (past ++ front) item ≡ Some y

pub made_at : {X Y : Type 0} (f : List X → X → Option Y) (past xs : List X) (n : ℕ) (y : Y) → slice_get (with_past f past xs) n ≡ Some y → IsMadeAt f past xs y
made_at f past [] n y at = absurd (none-some y at)
made_at {X} {Y} f past (x ∷ xs) n y at = by_case (f past x) refl n at (λ m. made_at f (past ++ x ∷ []) xs m y)
  where
    later_part : IsMadeAt f (past ++ x ∷ []) xs y → IsMadeAt f past (x ∷ xs) y
    later_part c =
        record {
          front = x ∷ c.front;
          item = c.item;
          rest = c.rest;
          whole = ap (λ ys. x ∷ ys) c.whole;
          is = ap (λ ys. f ys c.item) (sym (append_assoc past (x ∷ []) c.front)) ∙ c.is;
        }

    by_case : (o : Option Y) → f past x ≡ o → (k : ℕ) → slice_get (cons_option o (with_past f (past ++ x ∷ []) xs)) k ≡ Some y
        → ((m : ℕ) → slice_get (with_past f (past ++ x ∷ []) xs) m ≡ Some y → IsMadeAt f (past ++ x ∷ []) xs y) → IsMadeAt f past (x ∷ xs) y
    by_case None is k there later = later_part (later k there)
    by_case (Some z) is zero there later =
        record {
          front = [];
          item = x;
          rest = xs;
          whole = refl;
          is = ap (λ ys. f ys x) (append-nil past) ∙ (is ∙ ap Some (same_Some z y there));
        }
    by_case (Some z) is (suc k) there later = later_part (later k there)

-- ---- two items

-- what gives the one stands before what gives the other
pub record AreMapped {X Y : Type 0} (h : X → Option Y) (xs : List X) (v w : Y) : Type 0 where
  pub first : X
  pub second : X
  pub order : Precedes xs first second
  pub one : h first ≡ Some v
  pub other : h second ≡ Some w

pub mapped_in_order : {X Y : Type 0} (h : X → Option Y) (xs : List X) (i j : ℕ) (v w : Y) → i < j → slice_get (filter_map h xs) i ≡ Some v → slice_get (filter_map h xs) j ≡ Some w
    → AreMapped h xs v w
mapped_in_order {X} {Y} h xs i j v w lt at there =
    record {
      first = one.item;
      second = other.item;
      order = record {
        front = one.front;
        middle = one.rest;
        rest = other.rest;
        same = sym other.whole ∙ ap (λ ys. ys ++ other.item ∷ other.rest) (sym one.whole);
      };
      one = one.is;
      other = other.is;
    }
  where
    other : IsMappedAt h xs j w
    other = mapped_at h xs j w there

    one : IsMappedAt h other.front i v
    one =
        mapped_at h other.front i v
        (sym (slice_get-append_left (filter_map h other.front) (filter_map h (other.item ∷ other.rest)) i (omega (arith, lt, other.size)))
        ∙ (ap (λ ys. slice_get ys i) (sym (filter_map-append h other.front (other.item ∷ other.rest)) ∙ ap (filter_map h) other.whole) ∙ at))

-- a number that is in a list has a place there
pub has_place : (n : ℕ) (ns : List ℕ) → has n ns ≡ true → (i : ℕ) × (slice_get ns i ≡ Some n)
has_place n ns there = let c = has-Contains ns n there in (c.0, slice_get_read ns (length ns) c.0 n refl c.1 (sym c.2))
