-- The numbers in a script's lines.
use Rattle.std.specs.Prelude.{ℕ, ◌-◌, ◌^◌, Bool, false, not, ◌&&◌, ◌==◌, nat_le, nat_lt, List, [], ◌∷◌, Option, Some, None, option_and_then, if◌then◌else◌}
use Rattle.std.specs.Str.{all_ascii_digits}
use Rattle.std.specs.Char.{is_ascii_digit}
use Rattle.std.specs.Str.Parse.{digits_value}

-- decimal digits without a leading zero, save 0 itself
abbrev pub is_numeral : List ℕ → Bool
is_numeral [] = false
is_numeral (c ∷ []) = is_ascii_digit c
is_numeral (c ∷ d ∷ ds) = not (c == 48) && all_ascii_digits (c ∷ d ∷ ds)

-- the number that a word writes, where it is at most this
unfoldable pub number : ℕ → List ℕ → Option ℕ
number most word = if is_numeral word && nat_le (digits_value 10 word) most then Some (digits_value 10 word) else None

abbrev pub below : ℕ → ℕ → Option ℕ
below limit n = if nat_lt n limit then Some n else None

-- the number of a port, of which there are so many
abbrev pub port_number : ℕ → List ℕ → Option ℕ
port_number ports word = option_and_then (below ports) (number (2 ^ 64 - 1) word)
