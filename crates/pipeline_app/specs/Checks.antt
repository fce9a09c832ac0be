-- What the check of a document answers.
use Rattle.std.specs.Prelude.{ℕ, ◌≡◌, List, Option, Some, IfSome}
use Rattle.command_line.specs.declared.fault.AppFault.{AppFault}
use Rattle.command_line.specs.declared.fault.AppFault.TheVariants as app
use Rattle.document_checks.specs.Explanations.{fault_of_either}

-- which faults it ends with: a document's where it is its first
abbrev pub IsCheckFault : ℕ → Option (List ℕ) → AppFault → Type 0
IsCheckFault workers known app.Write = ⊥
IsCheckFault workers known app.Read = Unit {0}
IsCheckFault workers known (app.Document f) = IfSome known (λ input. fault_of_either workers input ≡ Some f)
IsCheckFault workers known app.Memory = Unit {0}
IsCheckFault workers known app.NoSeat = ⊥
IsCheckFault workers known (app.Strayed log) = ⊥
