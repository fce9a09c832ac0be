-- The faults of the reading are faults of the play.
use Rattle.std.proofs.Common.{◌≡◌, ℕ, ◌<◌, List, Option, Some, None, Err, length, refl, sym, ap, subst, ◌∙◌}
use Rattle.std.proofs.lemmas.Bool.{lt-ltb}
use Rattle.play_documents.specs.Document.{IsNamedDoc, document_of}
use Rattle.play_documents.specs.Numbers.{most_input}
use Rattle.command_line.specs.Input.{IsInputFault}
use Rattle.pipeline_app.specs.Play.{IsEarlyFault}
use Rattle.command_line.specs.declared.fault.AppFault.{AppFault}
use Rattle.command_line.specs.declared.fault.AppFault.TheVariants.{Read, Write, Document, Memory, NoSeat, Strayed}
use Rattle.play_documents.specs.declared.fault.DocFault.{DocFault}
use Rattle.play_documents.specs.declared.fault.DocFault.TheVariants.{TooLong}

too_long : (input : List ℕ) → most_input < length input → document_of input ≡ Err TooLong
unfolding document_of
too_long input h = rw (lt-ltb most_input (length input) h) refl

long_named : (f : DocFault) → f ≡ TooLong → IsNamedDoc f
long_named f e = subst IsNamedDoc (sym e) tt

pub IsEarlyFault-input : (known : Option (List ℕ)) (e : AppFault) → IsInputFault known e → IsEarlyFault known e
IsEarlyFault-input known Read h = tt
IsEarlyFault-input known Write h = absurd h
IsEarlyFault-input None (Document f) h = (long_named f h.0, tt)
IsEarlyFault-input (Some input) (Document f) h = (long_named f h.0, too_long input h.1 ∙ ap Err (sym h.0))
IsEarlyFault-input known Memory h = tt
IsEarlyFault-input known NoSeat h = tt
IsEarlyFault-input known (Strayed log) h = absurd h
