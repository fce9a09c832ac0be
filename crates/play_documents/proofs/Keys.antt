-- Rows and tests over lists that are seen through a view, and tests over the keys of a table.
use Rattle.std.proofs.Common.{◌≡◌, ℕ, Bool, ◌&&◌, ◌||◌, List, [], ◌∷◌, map, String, Global, Vec, string_bytes, refl, ap}
use Rattle.std.specs.List.{list_any, list_all}
use Rattle.std.specs.Map.{keys_of}
use Rattle.toml.specs.View.{members_view}
use Rattle.toml.specs.declared.value.Value.{Value}
use Rattle.play_documents.specs.Field.{field_map, is_known, knows, rows}
use Rattle.play_documents.specs.declared.field.Field.{Field}
use Rattle.play_documents.specs.declared.field.Field.TheVariants.{Absent, Bad, Good}

-- a test of what f gives
pub list_any-map : {X Y : Type 0} (p : Y → Bool) (f : X → Y) (xs : List X) → list_any (λ x. p (f x)) xs ≡ list_any p (map f xs)
list_any-map p f [] = refl
list_any-map p f (x ∷ xs) = ap (λ b. p (f x) || b) (list_any-map p f xs)

-- the rows, each seen through f
pub rows-map : {X Y : Type 0} (f : X → Y) (x : Field (Vec X Global)) → map f (rows (field_map (λ v. v.items) x)) ≡ rows (field_map (λ v. map f v.items) x)
rows-map f Absent = refl
rows-map f Bad = refl
rows-map f (Good v) = refl

-- a test of each key of a table
pub knows-keys : (known : List (List ℕ)) (es : List (String Global × Value)) → list_all (λ k. is_known known (string_bytes k)) (keys_of es) ≡ knows known (members_view es)
knows-keys known [] = refl
knows-keys known (e ∷ es) = ap (λ b. is_known known (string_bytes e.0) && b) (knows-keys known es)
