-- What the lines of a text say, each by itself, or the fault of the first bad one.
use Rattle.std.specs.Prelude.{ℕ, ◌+◌, ◌==◌, List, [], ◌∷◌, length, Option, Some, None, Result, Ok, Err, if◌then◌else◌}
use Rattle.std.specs.List.{slice_split}
use Rattle.std.specs.Str.Lines.{strip_carriage_return}
use Rattle.play_documents.specs.declared.fault.DocFault.{DocFault}

-- what a line says before those after it, or its fault
abbrev pub with_line : {A : Type 0} → DocFault → Option A → Result (List A) DocFault → Result (List A) DocFault
with_line bad None rest = Err bad
with_line bad (Some x) (Ok more) = Ok (x ∷ more)
with_line bad (Some x) (Err f) = Err f

-- what the lines from number n on say; an empty line is skipped, and a carriage return at its end is left out
unfoldable pub lines_from : {A : Type 0} → (List ℕ → Option A) → (ℕ → DocFault) → ℕ → List (List ℕ) → Result (List A) DocFault
lines_from read bad n [] = Ok []
lines_from read bad n (l ∷ ls) =
    let line = strip_carriage_return l in
    if length line == 0 then lines_from read bad (n + 1) ls else with_line (bad n) (read line) (lines_from read bad (n + 1) ls)

-- what a text says, whose lines are ended by line feeds and numbered from 1
unfoldable pub lines_of : {A : Type 0} → (List ℕ → Option A) → (ℕ → DocFault) → List ℕ → Result (List A) DocFault
lines_of read bad text = lines_from read bad 1 (slice_split (λ b. b == 10) text)
