-- What the reading of a document answers.
use Rattle.std.specs.Prelude.{ℕ, ◌≡◌, ◌+◌, ◌<◌, ◌≤◌, ◌⊎◌, List, length, Option, Result, IfOk, IfErr, IfSome}
use Rattle.std.specs.Io.KnownBytes.{Consumes, IsAtEnd}
use Rattle.command_line.specs.declared.fault.AppFault.{AppFault}
use Rattle.command_line.specs.declared.fault.AppFault.TheVariants.{Read, Write, Document, Memory, NoSeat, Strayed}
use Rattle.play_documents.specs.Numbers.{most_input}
use Rattle.play_documents.specs.declared.fault.DocFault.TheVariants.{TooLong}

-- Which faults the reading may answer: that the document is too long where what stood to be read is, a read's and that of memory.
abbrev pub IsInputFault : Option (List ℕ) → AppFault → Type 0
IsInputFault known Read = Unit {0}
IsInputFault known Write = ⊥
IsInputFault known (Document f) = (f ≡ TooLong) × IfSome known (λ input. most_input < length input)
IsInputFault known Memory = Unit {0}
IsInputFault known NoSeat = ⊥
IsInputFault known (Strayed log) = ⊥

-- All was read, or as much as shows that it is too long for a document: one byte more than one may have.
abbrev pub IsReadUp : Option (List ℕ) → ℕ → Type 0
IsReadUp new n = IsAtEnd new ⊎ (n ≡ most_input + 1)

-- before which faults that is: all but a read's and that of memory, which may come at any byte
abbrev pub EndsReading : Option (List ℕ) → ℕ → AppFault → Type 0
EndsReading new n Read = Unit {0}
EndsReading new n Write = IsReadUp new n
EndsReading new n (Document f) = IsReadUp new n
EndsReading new n Memory = Unit {0}
EndsReading new n NoSeat = IsReadUp new n
EndsReading new n (Strayed log) = IsReadUp new n

-- What a call took from its reader, by what the reader had before and has after: all of it, or as much as its fault allows, and
-- never more than one byte past the most that a document may have.
pub record HasRead {X : Type 0} (old new : Option (List ℕ)) (outcome : Result X AppFault) : Type 0 where
  pub bytes : List ℕ
  pub consumed : Consumes old new bytes
  pub few : length bytes ≤ most_input + 1
  pub ok : IfOk outcome (λ _. IsAtEnd new)
  pub err : IfErr outcome (EndsReading new (length bytes))
