-- What was read from a reader, where a call's result is handed on.
use Rattle.std.proofs.Common.{◌≡◌, ℕ, Option, Result, Ok, Err, inl, length, sym, subst, List}
use Rattle.std.specs.Prelude.{IfOk, IfErr, IsErrAnd}
use Rattle.std.specs.Io.KnownBytes.{IsAtEnd}
use Rattle.command_line.specs.Input.{EndsReading, HasRead}
use Rattle.command_line.specs.declared.fault.AppFault.{AppFault}
use Rattle.command_line.specs.declared.fault.AppFault.TheVariants.{Read, Write, Document, Memory, NoSeat, Strayed}

ends_whole : (new : Option (List ℕ)) (n : ℕ) (f : AppFault) → IsAtEnd new → EndsReading new n f
ends_whole new n Read h = tt
ends_whole new n Write h = inl h
ends_whole new n (Document f) h = inl h
ends_whole new n Memory h = tt
ends_whole new n NoSeat h = inl h
ends_whole new n (Strayed log) h = inl h

whole_ok : {X : Type 0} (new : Option (List ℕ)) (r : Result X AppFault) → IsAtEnd new → IfOk r (λ _. IsAtEnd new)
whole_ok new (Ok x) h = h
whole_ok new (Err f) h = tt

whole_err : {X : Type 0} (new : Option (List ℕ)) (n : ℕ) (r : Result X AppFault) → IsAtEnd new → IfErr r (EndsReading new n)
whole_err new n (Ok x) h = tt
whole_err new n (Err f) h = ends_whole new n f h

-- a call that read all, followed by any result
pub reads_whole : {X Y : Type 0} {old new : Option (List ℕ)} {r : Result X AppFault} {s : Result Y AppFault} {x : X} → r ≡ Ok x → HasRead old new r → HasRead old new s
reads_whole {X} {Y} {old} {new} {r} {s} {x} is reads =
    let end : IsAtEnd new = subst (λ o. IfOk o (λ _. IsAtEnd new)) is reads.ok in
    record { bytes = reads.bytes; consumed = reads.consumed; few = reads.few; ok = whole_ok new s end; err = whole_err new (length reads.bytes) s end }

same_ok : {X : Type 0} (P : Type 0) (r : Result X AppFault) (f : AppFault) → IsErrAnd r (λ g. g ≡ f) → IfOk r (λ _. P)
same_ok P (Ok x) f h = absurd h
same_ok P (Err g) f h = tt

same_err : {X : Type 0} (P : AppFault → Type 0) (r : Result X AppFault) (f : AppFault) → IsErrAnd r (λ g. g ≡ f) → P f → IfErr r P
same_err P (Ok x) f h p = tt
same_err P (Err g) f h p = subst P (sym h) p

-- a call that answered a fault, which is handed on
pub reads_fault : {X Y : Type 0} {old new : Option (List ℕ)} {r : Result X AppFault} {s : Result Y AppFault} {f : AppFault} → r ≡ Err f → IsErrAnd s (λ g. g ≡ f) → HasRead old new r → HasRead old new s
reads_fault {X} {Y} {old} {new} {r} {s} {f} is same reads =
    let P = EndsReading new (length reads.bytes) in
    record { bytes = reads.bytes; consumed = reads.consumed; few = reads.few; ok = same_ok (IsAtEnd new) s f same; err = same_err P s f same (subst (λ o. IfErr o P) is reads.err) }
