-- What a TOML table has at a key.
use Rattle.std.specs.Prelude.{ℕ, ◌-◌, ◌^◌, Bool, true, false, ◌&&◌, nat_eq, ℤ, pos, negsuc, List, [], ◌∷◌, nat_le, Option, Some, None, option_map, option_and_then, if◌then◌else◌}
use Rattle.std.specs.List.{list_any}
use Rattle.std.specs.Cmp.Lexicographic.{pointwise}
use Rattle.toml.specs.Data.{Data, Items, no_items, item, Members, no_members, member, get_member, as_str, as_bool, as_table, as_integer, as_array}
use Rattle.play_documents.specs.declared.field.Field.{Field}
use Rattle.play_documents.specs.declared.field.Field.TheVariants.{Absent, Bad, Good}

-- a value that is there
abbrev pub good_or_bad : {A : Type 0} → Option A → Field A
good_or_bad None = Bad
good_or_bad (Some x) = Good x

-- what is at a key, read by this test
abbrev pub field_of : {A : Type 0} → (Data → Option A) → Option Data → Field A
field_of read None = Absent
field_of read (Some d) = good_or_bad (read d)

-- the field, seen by f
abbrev pub field_map : {A B : Type 0} → (A → B) → Field A → Field B
field_map f Absent = Absent
field_map f Bad = Bad
field_map f (Good x) = Good (f x)

abbrev pub is_absent : {A : Type 0} → Field A → Bool
is_absent Absent = true
is_absent Bad = false
is_absent (Good x) = false

abbrev pub is_bad : {A : Type 0} → Field A → Bool
is_bad Absent = false
is_bad Bad = true
is_bad (Good x) = false

-- the good value, or this one
abbrev pub value_or : {A : Type 0} → A → Field A → A
value_or default Absent = default
value_or default Bad = default
value_or default (Good x) = x

-- the rows of an array of tables; of a field that is none, nothing is looked at
abbrev pub rows : {A : Type 0} → Field (List A) → List A
rows Absent = []
rows Bad = []
rows (Good xs) = xs

-- an integer from 0 to the most
abbrev pub number_in : ℕ → ℤ → Option ℕ
number_in most (pos n) = if nat_le n most then Some n else None
number_in most (negsuc n) = None

abbrev pub number_of : ℕ → Data → Option ℕ
number_of most d = option_and_then (number_in most) (as_integer d)

-- all items, each read by this test
abbrev pub items_by : {A : Type 0} → (Data → Option A) → Items → Option (List A)
items_by read no_items = Some []
items_by read (item d ds) = option_and_then (λ x. option_map (λ xs. x ∷ xs) (items_by read ds)) (read d)

abbrev pub numbers_of : Data → Option (List ℕ)
numbers_of d = option_and_then (items_by (number_of (2 ^ 32 - 1))) (as_array d)

abbrev pub tables_of : Data → Option (List Members)
tables_of d = option_and_then (items_by as_table) (as_array d)

-- a number, a flag, a text, numbers and tables at a key
abbrev pub number_at : ℕ → List ℕ → Members → Field ℕ
number_at most key ms = field_of (number_of most) (get_member key ms)

abbrev pub flag_at : List ℕ → Members → Field Bool
flag_at key ms = field_of as_bool (get_member key ms)

abbrev pub text_at : List ℕ → Members → Field (List ℕ)
text_at key ms = field_of as_str (get_member key ms)

abbrev pub numbers_at : List ℕ → Members → Field (List ℕ)
numbers_at key ms = field_of numbers_of (get_member key ms)

abbrev pub tables_at : List ℕ → Members → Field (List Members)
tables_at key ms = field_of tables_of (get_member key ms)

-- the two texts are the same
abbrev pub is_text : List ℕ → List ℕ → Bool
is_text = pointwise nat_eq

-- the key is one of these
abbrev pub is_known : List (List ℕ) → List ℕ → Bool
is_known keys key = list_any (λ k. is_text k key) keys

-- each key of the table is one of these
abbrev pub knows : List (List ℕ) → Members → Bool
knows keys no_members = true
knows keys (member k d ms) = is_known keys k && knows keys ms
