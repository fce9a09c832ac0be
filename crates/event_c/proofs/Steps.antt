-- The words that the walks cite.
pub use Rattle.std.proofs.Common.{◌≡◌, ℕ, suc, subst, ℤ, List, [], ◌∷◌, ◌++◌, refl, sym, ap, ◌∙◌, w64}
pub use Rattle.std.proofs.raw_atomic.Walks.{proved, proved_at}
pub use seplogic.Ra.Ura.{Ura}
pub use base.Fraction.{full_share}
pub use base.Logic.{SProp, ent, via, mono_l, mono_r, fst∗, comm∗, emp∗, guard_i, assoc∗, ex_i, emp, ex, sep, id⊢}
pub use base.Fml.{Fml, Lft, Incl, Incl-refl, ftrue, fbor, feq, fres, fat, froom, flft, flent}
pub use mir.Syntax.{Ty, Mutability, Body as Code, Local, named, erased, mut, imm, ty_int, ty_ptr, ty_ref, ty_unit, local, value_local, Fn, Callee, place, deref, assign, seq, return, call, copy, opd_unit, rv_opd, addr_of, field, aggregate}
pub use mir.Val.{Val, vptr, vunit}
use mir.Val.{WT, has_ty}
use lib.Dec.{T}
pub use prog.Model.{Model}
pub use prog.Wp.{WpFn, Closed}
pub use contract.Monad.{fact, fact_i}
pub use contract.Running.{Running, MachineTables, tables}
pub use types.Logic.{Logic, sem}
pub use types.Kit.{‵, raw, ◌⊛◌, some, later, prop, ◌$◌, ◌∵◌, !, qed, done, move, keep, drop, show, use0, use1, use2, use3, split, join, fsplit, fjoin, feq_i, feq_l, pick, await, rewrite, regoal, suffices, frame, group, updating, now as at_once, by}
pub use types.Run.{enter, of_opd, unit_lit, load, look, init, assigns, addr, stop, fld, hop, from, no_more, and_then, returns}
pub use types.ByLocal.{alloc_all, pass_all, free_all, look_at, look_in_at, get, get_in, through, sets, lands_as}
pub use types.Part.{whole, sub, agg}
pub use types.SemTy.{Body}
pub use types.Tokens.{lft_new, lft_end, lent_back}
pub use denote.Builtin.{One, RefMutOf, RefOf, SliceRefMutOf, SliceRefOf, i64, usize, unit}
pub use denote.Exit.{Last, left, Seen, see, yes, rest}
pub use borrow.Table.OneValue.{part_in, part_out}
pub use denote.Laws.{Is, Are, Ises, Spells, Tellss, valss, shows}
use denote.Laws.{Typed}
pub use denote.Lend.{lends_ref, ref_back, lends_shr}
pub use denote.Memory.{lone, mem, part_at, pointee}
pub use denote.Param.Laws.{Laws}
pub use denote.RattleType.{RattleType, Denots, Valss, flat, owns}
pub use contract.Lifetimes.{Lfts, Shares, toks, AllOutlive}
pub use denote.Plain.{uint_vals, uint_Tells}
pub use denote.RawPtr.{Ptr, RawPtr, block_ptr, lies_at, room_at, in_a_block, rawptr_vals, rawptr_Tells}
pub use denote.Ref.{MutRef, ShrRef, shr_vals}
pub use denote.Signature.{Slot, plain, types_at}
pub use denote.Slice.{MutSlice, ShrSlice, slice_ty, mut_slice_vals, mut_slice_Tells, mut_slice_Lawful, shr_slice_vals, shr_slice_Tells, shr_slice_Lawful}
pub use denote.Signed.{sint_Lawful}
pub use denote.Steps.{nothing, heard, peeks, only}
pub use denote.Triple.Statement.{Triple}
pub use denote.Triple.Call.{calls_at, calls_from}
pub use denote.Triple.Clauses.{Ended, Clauses, closing, lasts, Lasts, AtExit, at_exit}
pub use denote.Triple.End.{Kepts, Fins, Outs, outs, lasts_of}
pub use denote.Triple.Entry.{Args, on_entry}
pub use denote.Triple.Spec.{triple_of, Meets}
pub use denote.Triple.Table.{framed, enters}
pub use denote.Triple.Walked.{AllGo, Stays, walk_of, says, stay_dropped, Goes-dropped, gave_slice, Goes-gave_slice, ends_at}

-- a type's machine value is of its one MIR type
pub is_typed : {M : Type 1} {𝓤 : Ura M} (𝓛 : Logic 𝓤) (R : RattleType) (laws : Laws R) (x : R.Denot) (v : Val) → Is R x (v ∷ []) → T (has_ty (lone R.mir) v) × WT v
is_typed 𝓛 R laws x v is = (subst (λ (τs : List Ty). Typed τs (v ∷ [])) laws.one ((laws.lawful 𝓛).typed x (v ∷ []) is)).0

-- a list of values of one type is one value
lone_value : (τ : Ty) (vs : List Val) → Typed (τ ∷ []) vs → (v : Val) × (vs ≡ v ∷ []) × (T (has_ty τ v) × WT v)
lone_value τ [] t = absurd t
lone_value τ (v ∷ []) t = (v, refl, t.0)
lone_value τ (v ∷ w ∷ vs) t = absurd t.1

-- where a type's value does not tell its machine values: there is one, of its one MIR type
pub one_value : {M : Type 1} {𝓤 : Ura M} (𝓛 : Logic 𝓤) (R : RattleType) (laws : Laws R) (x : R.Denot) (vs : List Val) → Is R x vs → (v : Val) × (vs ≡ v ∷ []) × (T (has_ty (lone R.mir) v) × WT v)
one_value 𝓛 R laws x vs is = lone_value (lone R.mir) vs (subst (λ (τs : List Ty). Typed τs vs) laws.one ((laws.lawful 𝓛).typed x vs is))
