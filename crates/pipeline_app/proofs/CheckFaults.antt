-- The faults of the reading are faults of the check.
use Rattle.std.proofs.Common.{◌≡◌, ℕ, ◌<◌, List, Option, Some, None, length, refl, sym, ap, ◌∙◌}
use Rattle.std.proofs.lemmas.Bool.{lt-ltb}
use Rattle.play_documents.specs.Document.{document_of}
use Rattle.play_documents.specs.Numbers.{most_input}
use Rattle.command_line.specs.Input.{IsInputFault}
use Rattle.command_line.specs.declared.fault.AppFault.{AppFault}
use Rattle.command_line.specs.declared.fault.AppFault.TheVariants.{Read, Write, Document, Memory, NoSeat, Strayed}
use Rattle.document_checks.specs.Explanations.{fault_of_either, is_pipeline}
use Rattle.play_documents.specs.declared.fault.DocFault.TheVariants.{TooLong}
use Rattle.pipeline_app.specs.Checks.{IsCheckFault}

too_long : (workers : ℕ) (input : List ℕ) → most_input < length input → fault_of_either workers input ≡ Some TooLong
unfolding is_pipeline document_of
too_long workers input h = rw (lt-ltb most_input (length input) h) refl

pub check_input : (workers : ℕ) (known : Option (List ℕ)) (e : AppFault) → IsInputFault known e → IsCheckFault workers known e
check_input workers known Read h = tt
check_input workers known Write h = absurd h
check_input workers None (Document f) h = tt
check_input workers (Some input) (Document f) h = too_long workers input h.1 ∙ ap Some (sym h.0)
check_input workers known Memory h = tt
check_input workers known NoSeat h = absurd h
check_input workers known (Strayed log) h = absurd h
