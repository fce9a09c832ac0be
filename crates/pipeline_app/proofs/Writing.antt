-- What a play writes, of the text that it made.
use Rattle.std.proofs.Common.{◌≡◌, ℕ, List, Option, Some, None, Result, Ok, Err, sym, subst, ◌∙◌}
use Rattle.std.specs.Prelude.{IfOk, IfErr, IfSome, OnOk}
use Rattle.std.specs.Io.KnownBytes.{Appends}
use Rattle.command_line.specs.Output.{AppendsPrefix}
use Rattle.command_line.specs.declared.fault.AppFault.{AppFault}
use Rattle.command_line.specs.declared.fault.AppFault.TheVariants.{Write}
use Rattle.pipeline_app.specs.Play.{AfterFault, HasRun, Making, WritesPart, WritesRun}

-- after a write's fault a first part of the run's text was written
pub after_write : (form : Making) (known old new : Option (List ℕ)) (text written : List ℕ) (r : Result (Unit {0}) AppFault) → HasRun form known text → written ≡ text → IfErr r (λ e. (e ≡ Write) × AppendsPrefix old new written) → IfErr r (AfterFault form known old new)
after_write form known old new text written (Ok u) run is h = tt
after_write form known old new text written (Err e) run is h =
    let part : WritesPart form known old new = (text, run, subst (AppendsPrefix old new) is h.1) in
    subst (AfterFault form known old new) (sym h.0) part

-- after a whole write all of the run's text was written
pub after_whole : (form : Making) (known old new : Option (List ℕ)) (text written : List ℕ) (r : Result (Unit {0}) AppFault) → HasRun form known text → written ≡ text → OnOk r (Appends old new written) → OnOk r (WritesRun form known old new)
after_whole form known old new text written (Ok u) run is h = (text, run, subst (Appends old new) is h)
after_whole form known old new text written (Err e) run is h = tt

-- the run of the bytes that were read is one of the reader's
pub run_read : {X : Type 0} (form : Making) (of : X → List ℕ) (known : Option (List ℕ)) (bytes read : List ℕ) (r : Result X AppFault) → read ≡ bytes → IfSome known (λ input. bytes ≡ input)
    → IfOk r (λ x. HasRun form (Some read) (of x)) → IfOk r (λ x. HasRun form known (of x))
run_read form of known bytes read (Err e) same all h = tt
run_read form of (Some input) bytes read (Ok x) same all h = subst (λ xs. HasRun form (Some xs) (of x)) (same ∙ all) h
run_read form of None bytes read (Ok x) same all h = record { said = h.said; run = h.run; document = tt }
