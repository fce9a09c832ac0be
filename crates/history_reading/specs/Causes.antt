-- What the reading of a text answers.
use Rattle.std.specs.Prelude.{ℕ, ◌≡◌, ◌≢◌, ◌+◌, List, [], length, All, Option, Some, None, Result, Ok, Err}
use Rattle.std.specs.Borrow.{Bor}
use Rattle.history_judge.specs.declared.seen.Seen.{Seen}
use Rattle.history_reading.specs.Texts.{IsEntry, line_text, lines_text}
use Rattle.history_reading.specs.declared.fault.ReadFault.{ReadFault}
use Rattle.history_reading.specs.declared.fault.ReadFault.TheVariants as faults

-- the number, and the text behind it
abbrev pub Gives : Option (ℕ × Bor (List ℕ)) → ℕ → List ℕ → Type 0
Gives None n more = ⊥
Gives (Some (k, rest)) n more = (k ≡ n) × (rest.now ≡ more)

-- this was read, and the text behind it is left
abbrev pub Reads : {X E : Type 0} → Result (X × Bor (List ℕ)) E → X → List ℕ → Type 0
Reads (Ok (k, rest)) x more = (k ≡ x) × (rest.now ≡ more)
Reads (Err e) x more = ⊥

-- no entry's line begins there
abbrev pub NoLine : List ℕ → Type 0
NoLine text = (s : Seen) (more : List ℕ) → IsEntry s → text ≢ line_text s more

-- the text begins with the lines of some entries, and behind them, in the line of this number, stands no entry's line
pub record IsBadLine (text : List ℕ) (line : ℕ) : Type 0 where
  pub entries : List Seen
  pub rest : List ℕ
  pub whole : text ≡ lines_text entries rest
  pub there : All IsEntry entries
  pub place : line ≡ length entries + 1
  pub some : rest ≢ []
  pub none : NoLine rest

-- why a text isn't read
abbrev pub IsCause : List ℕ → ReadFault → Type 0
IsCause text (faults.Line line cause) = IsBadLine text line
IsCause text faults.Memory = Unit {0}

-- it was read, unless memory ran out
abbrev pub ReadsAll : {X : Type 0} → Result X ReadFault → (X → Type 0) → Type 0
ReadsAll (Ok x) P = P x
ReadsAll (Err faults.Memory) P = Unit {0}
ReadsAll (Err (faults.Line line cause)) P = ⊥
