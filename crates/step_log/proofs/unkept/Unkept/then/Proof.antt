-- The empty struct is made, and its steps are those of the one before and the step: what it owns says nothing of them. Assumes `Logic`.
use mathlib.Core.Path.{refl}
use mathlib.Core.List.{[], ◌∷◌, ◌++◌}
use seplogic.Ra.Ura.{Ura}
use mir.Syntax.{named}
use mir.Val.{Val, vptr, vstruct, vnil}
use base.Logic.{SProp, ent, emp, via, fst∗}
use prog.Memory.{Memory}
use prog.Routine.{Routine}
use prog.Wp.{Calls, Loops, WpFn, Tables}
use types.Logic.{Logic}
use contract.Lifetimes.{Lfts, Shares}
use contract.Monad.{Fun}
use contract.Running.{tables, tables_of}
use sound.WpLaws.{WpFn-mono}
use types.Kit.{‵, raw, ◌$◌, ◌∵◌, !, qed, move, suffices, done}
use types.Run.{no_more, returns, enter}
use types.Part.{agg}
use types.ByLocal.{alloc_all, pass_all, free_all, look_at, sets}
use denote.Exit.{yes}
use denote.RattleType.{owns}
use denote.Ref.{shr_vals, shr_Tells}
use denote.Shadow.{pure_i}
use denote.Signature.{plain, types_at}
use denote.Triple.Entry.{on_entry, alive, Args}
use denote.Triple.Spec.{Meets, triple_of}
use denote.Triple.Table.{entered}
use denote.Triple.Walked.{says, stay_none_ref, Stays, walk_of, ends_at, walked, Goes-none_ref, walk_Meets}
use Rattle.evt_types.specs.contracts.step.Step as step
use Rattle.step_log.specs.contracts.unkept.Unkept.then.Key.{name as key}
use Rattle.step_log.specs.contracts.unkept.Unkept.then as promised
use Rattle.step_log.specs.contracts.unkept.Unkept as unkept
use Rattle.step_log.proofs.unkept.Unkept.then.Statement.{statement}
use Rattle.step_log.proofs.unkept.Unkept.then.Code as code

abbrev kept : Stays (promised.ended).signature.params (promised.ended).kept
kept = (stay_none_ref (0 ∷ []) tt (plain (λ _. unkept.the_row)) yes, (stay_none_ref (1 ∷ []) tt (plain (λ _. step.the_row)) yes, tt))

module _ {M : Type 1} {𝓤 : Ura M} (𝓛 : Logic 𝓤) (mem : Memory → SProp 𝓤) (run : Routine → Fun 𝓤) where
  open 𝓛 use {H}

  module _ (κs : Lfts 2) (qs : Shares 2) (a : Args promised.signature κs) where
    abbrev before : Val
    before = vptr a.0.ref_ptr.0 a.0.ref_ptr.1

    abbrev last : Val
    last = vptr a.1.0.ref_ptr.0 a.1.0.ref_ptr.1

    abbrev given : (walk_of 𝓛 promised.ended kept (promised.clauses 𝓛 mem run)).Ghost
    given = ((κs, qs, tt, a, (before ∷ [], (last ∷ [], tt))), tt)

    steps : (C : Calls 𝓤 H) (Λ : Loops 𝓤 H) → ent 𝓤 (on_entry 𝓛 promised.signature κs qs a (before ∷ [], (last ∷ [], tt)))
        (WpFn 𝓤 H C Λ code.function (before ∷ last ∷ []) ((walk_of 𝓛 promised.ended kept (promised.clauses 𝓛 mem run)).post given))
    steps C Λ =
        qed 𝓛 (raw (alive 𝓛 promised.signature κs qs) ∷ ‵ (owns (types_at promised.signature.params κs) a (before ∷ [], (last ∷ [], tt))) ∷ []) ∵ enter ! C Λ code.function (before ∷ last ∷ []) _ $
        alloc_all ! (λ l. pass_all ! refl ((tt, tt), ((tt, tt), tt)) $ sets ! (agg ! (no_more !)) refl (tt, tt) $
        returns ! (look_at ! 0 refl) $ free_all ! refl $
        suffices ! _ (ends_at 𝓛 promised.ended kept (promised.clauses 𝓛 mem run) given (vstruct vnil) (record { seen = a.0.now.seen ++ a.1.0.now ∷ [] }) (tt, (tt, tt)) (tt, (tt, tt))) $
        says ! refl $ pure_i ! (unkept.the_row.own_val (record { seen = a.0.now.seen ++ a.1.0.now ∷ [] }) (vstruct vnil ∷ [])) ((λ vss. (tt, tt)), tt) ((tt, (refl, tt)), tt) $
        move ! (1 ∷ 2 ∷ 0 ∷ []) $ done !)

  meets : (𝓣 : Tables 𝓤 H) → Meets 𝓛 promised.signature (WpFn 𝓤 H 𝓣.C 𝓣.Λ code.function) (promised.spec 𝓛 mem run)
  meets 𝓣 =
      let wp = WpFn 𝓤 H 𝓣.C 𝓣.Λ code.function in
      walk_Meets 𝓛 promised.ended kept (Goes-none_ref 𝓛 2 (0 ∷ []) tt (plain (λ _. unkept.the_row)) yes, (Goes-none_ref 𝓛 2 (1 ∷ []) tt (plain (λ _. step.the_row)) yes, tt)) (promised.clauses 𝓛 mem run) wp
      (WpFn-mono 𝓤 H 𝓛.laws 𝓣 code.function)
      (walked 𝓛 promised.ended kept (promised.clauses 𝓛 mem run) wp (λ κs. (shr_vals, (shr_vals, tt)))
      (λ κs. (shr_Tells (named 0) κs.0 unkept.the_row, (shr_Tells (named 1) κs.1.0 step.the_row, tt)))
      (λ κs qs bounds a g are. via 𝓤 _ (fst∗ 𝓤 _ (emp 𝓤)) (steps κs qs a 𝓣.C 𝓣.Λ)))

pub then_spec : {M : Type 1} → statement M
unfolding tables_of
then_spec 𝓤 𝓛 𝓜 𝓡 wired =
    entered 𝓤 𝓛.H (triple_of 𝓛 promised.signature (promised.spec 𝓛 𝓜.mem 𝓡.returns))
    (tables 𝓤 𝓛.H 𝓜 𝓡 𝓡.env).C (tables 𝓤 𝓛.H 𝓜 𝓡 𝓡.env).Λ key code.function (code.unfolded 𝓤 𝓛.H 𝓜 𝓡 wired)
    (meets 𝓛 𝓜.mem 𝓡.returns (tables_of 𝓤 𝓛.H 𝓜 (tables 𝓤 𝓛.H 𝓜 𝓡 𝓡.env)))
