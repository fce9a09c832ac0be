-- The faults of the reading and of the pipeline are faults of the run.
use Rattle.std.specs.Prelude.{IfErr, IfSome}
use Rattle.std.proofs.Common.{◌≡◌, ℕ, ◌<◌, List, Option, Some, None, Result, Err, Ok, length, refl, sym, ap, subst, ◌∙◌}
use Rattle.std.proofs.lemmas.Bool.{lt-ltb}
use Rattle.command_line.specs.Input.{IsInputFault}
use Rattle.command_line.specs.declared.fault.AppFault.{AppFault}
use Rattle.command_line.specs.declared.fault.AppFault.TheVariants.{Read, Write, Document, Memory, NoSeat, Strayed}
use Rattle.play_documents.specs.Document.{IsNamedDoc}
use Rattle.play_documents.specs.Numbers.{most_input}
use Rattle.play_documents.specs.declared.fault.DocFault.{DocFault}
use Rattle.play_documents.specs.declared.fault.DocFault.TheVariants.{TooLong}
use Rattle.pipeline_app.specs.Runs.{IsEarlyFault, IsRunFault}
use Rattle.run_documents.specs.Pipelines.{Planned, pipeline_of}

too_long : (workers : ℕ) (input : List ℕ) → most_input < length input → pipeline_of workers input ≡ Err TooLong
unfolding pipeline_of
too_long workers input h = rw (lt-ltb most_input (length input) h) refl

long_named : (f : DocFault) → f ≡ TooLong → IsNamedDoc f
long_named f e = subst IsNamedDoc (sym e) tt

pub early_input : (workers : ℕ) (known : Option (List ℕ)) (e : AppFault) → IsInputFault known e → IsEarlyFault workers known e
early_input workers known Read h = tt
early_input workers known Write h = absurd h
early_input workers None (Document f) h = (long_named f h.0, tt)
early_input workers (Some input) (Document f) h = (long_named f h.0, too_long workers input h.1 ∙ ap Err (sym h.0))
early_input workers known Memory h = tt
early_input workers known NoSeat h = absurd h
early_input workers known (Strayed log) h = absurd h

pub early_run : (workers : ℕ) (bytes : List ℕ) (said : Planned) (e : AppFault) → pipeline_of workers bytes ≡ Ok said → IsRunFault said e → IsEarlyFault workers (Some bytes) e
early_run workers bytes said Read is h = tt
early_run workers bytes said Write is h = absurd h
early_run workers bytes said (Document f) is h = absurd h
early_run workers bytes said Memory is h = tt
early_run workers bytes said NoSeat is h = tt
early_run workers bytes said (Strayed log) is h = record { said = said; strays = h; document = is }

-- a fault of bytes that no reader tells
early_untold : (workers : ℕ) (bytes : List ℕ) (e : AppFault) → IsEarlyFault workers (Some bytes) e → IsEarlyFault workers None e
early_untold workers bytes Read h = tt
early_untold workers bytes Write h = absurd h
early_untold workers bytes (Document f) h = (h.0, tt)
early_untold workers bytes Memory h = tt
early_untold workers bytes NoSeat h = tt
early_untold workers bytes (Strayed log) h = record { said = h.said; strays = h.strays; document = tt }

-- a fault of the bytes that were read is one of the reader's
pub early_read : {X : Type 0} (workers : ℕ) (known : Option (List ℕ)) (bytes read : List ℕ) (r : Result X AppFault) → read ≡ bytes → IfSome known (λ input. bytes ≡ input)
    → IfErr r (IsEarlyFault workers (Some read)) → IfErr r (IsEarlyFault workers known)
early_read workers (Some input) bytes read r same all h = subst (λ xs. IfErr r (IsEarlyFault workers (Some xs))) (same ∙ all) h
early_read workers None bytes read (Ok x) same all h = tt
early_read workers None bytes read (Err e) same all h = early_untold workers read e h
