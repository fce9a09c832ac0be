use Rattle.std.proofs.Common.{arith, ℕ, List, ◌++◌, take, length, length-append, length-take, Option, Result, Ok, Err, sym, subst, ◌≡◌}
use Rattle.std.specs.Prelude.{IfOk, IfErr, IsErrAnd}
use Rattle.std.specs.Io.KnownBytes.{IsAtEnd}
use Rattle.std.proofs.KnownBytes.{Consumes-trans}
use Rattle.command_line.specs.Input.{EndsReading}
use Rattle.command_line.specs.declared.fault.AppFault.{AppFault}
use Rattle.command_line.specs.declared.fault.AppFault.TheVariants.{Memory}
use Rattle.command_line.proofs.input.read_all.Goals as goal

-- want of memory may come at any byte
no_memory : {X : Type 0} (new : Option (List ℕ)) (n : ℕ) (r : Result X AppFault) → IsErrAnd r (λ f. f ≡ Memory) → IfOk r (λ _. IsAtEnd new) × IfErr r (EndsReading new n)
no_memory new n (Ok x) h = absurd h
no_memory new n (Err f) h = (tt, subst (EndsReading new n) (sym h) tt)

pub returns-in_err-extend_from_slice-clause-reads : goal.returns-in_err-extend_from_slice-clause-reads
returns-in_err-extend_from_slice-clause-reads g c =
    let came = take c.in-Ok.count c.read.new.buf in
    let ends = no_memory (g.R.Read.remaining c.read.new.self) (length (c.loop-count.bytes.items ++ came)) c.from_residual.result c.from_residual.ensures.1 in
    record {
      bytes = c.loop-count.bytes.items ++ came;
      consumed = Consumes-trans _ _ _ _ _ c.loop-count.invariant.1 c.in-Ok.ensures.bytes.0;
      few = omega (arith, length-append c.loop-count.bytes.items came, length-take c.min-room.result c.loop-count.buffer, c.read.auto.buf, c.min-room.ensures, c.len.ensures, c.loop-count.invariant.0, c.loop-count.bytes.ok, c.in-Ok.ensures.bound.0, c.in-Ok.ensures.bound.1);
      ok = ends.0;
      err = ends.1;
    }
