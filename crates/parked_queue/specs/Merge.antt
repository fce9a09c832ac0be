-- Lists of events as one list by rising number.
use Rattle.std.specs.Prelude.{ℕ, Bool, List, [], ◌∷◌, ◌==◌, filter, map, nat_lt, if◌then◌else◌}
use Rattle.std.specs.List.{range_with_len}
use Rattle.evt_types.specs.declared.event.Numbered.{Numbered}

-- the event among rising numbers, where its own belongs
abbrev pub inserted : Numbered → List Numbered → List Numbered
inserted u [] = u ∷ []
inserted u (w ∷ ws) = if nat_lt u.number w.number then u ∷ w ∷ ws else w ∷ inserted u ws

abbrev pub merged : List Numbered → List Numbered → List Numbered
merged [] ws = ws
merged (u ∷ us) ws = inserted u (merged us ws)

abbrev pub by_number : List (List Numbered) → List Numbered
by_number [] = []
by_number (us ∷ lists) = merged us (by_number lists)

-- the event is in the list of this number, where g says in which one it is
abbrev pub is_in : (Numbered → ℕ) → ℕ → Numbered → Bool
is_in g k w = g w == k

abbrev pub in_list : (Numbered → ℕ) → ℕ → List Numbered → List Numbered
in_list g k ws = filter (is_in g k) ws

-- the lists from a first one on, so many
abbrev pub lists_of : (Numbered → ℕ) → ℕ → ℕ → List Numbered → List (List Numbered)
lists_of g from n ws = map (λ k. in_list g k ws) (range_with_len from n)
