-- The empty struct is made, and its steps are none: what it owns says nothing of them. Assumes `Logic`.
use mathlib.Core.Path.{refl}
use mathlib.Core.List.{[], ◌∷◌}
use seplogic.Ra.Ura.{Ura}
use mir.Val.{vstruct, vnil}
use base.Logic.{SProp, ent, emp, via, fst∗}
use prog.Memory.{Memory}
use prog.Routine.{Routine}
use prog.Wp.{Calls, Loops, WpFn, Tables}
use types.Logic.{Logic}
use contract.Monad.{Fun}
use contract.Running.{tables, tables_of}
use sound.WpLaws.{WpFn-mono}
use types.Kit.{‵, raw, ◌$◌, ◌∵◌, !, qed, move, suffices, done}
use types.Run.{no_more, returns, enter}
use types.Part.{agg}
use types.ByLocal.{alloc_all, pass_all, free_all, look_at, sets}
use denote.RattleType.{owns}
use denote.Shadow.{pure_i}
use denote.Triple.Entry.{on_entry, alive}
use denote.Triple.Spec.{Meets, triple_of}
use denote.Triple.Table.{entered}
use denote.Triple.Walked.{says, Stays, walk_of, ends_at, walked, walk_Meets}
use Rattle.step_log.specs.contracts.unkept.Unkept.new.Key.{name as key}
use Rattle.step_log.specs.contracts.unkept.Unkept.new as promised
use Rattle.step_log.specs.contracts.unkept.Unkept as unkept
use Rattle.step_log.proofs.unkept.Unkept.new.Statement.{statement}
use Rattle.step_log.proofs.unkept.Unkept.new.Code as code

abbrev kept : Stays (promised.ended).signature.params (promised.ended).kept
kept = tt

module _ {M : Type 1} {𝓤 : Ura M} (𝓛 : Logic 𝓤) (mem : Memory → SProp 𝓤) (run : Routine → Fun 𝓤) where
  open 𝓛 use {H}

  abbrev none : (walk_of 𝓛 promised.ended kept (promised.clauses 𝓛 mem run)).Ghost
  none = ((tt, tt, tt, tt, tt), tt)

  steps : (C : Calls 𝓤 H) (Λ : Loops 𝓤 H) → ent 𝓤 (on_entry 𝓛 promised.signature tt tt tt tt) (WpFn 𝓤 H C Λ code.function [] ((walk_of 𝓛 promised.ended kept (promised.clauses 𝓛 mem run)).post none))
  steps C Λ =
      qed 𝓛 (raw (alive 𝓛 promised.signature tt tt) ∷ ‵ (owns [] tt tt) ∷ []) ∵ enter ! C Λ code.function [] _ $
      alloc_all ! (λ l. pass_all ! refl tt $ sets ! (agg ! (no_more !)) refl (tt, tt) $
      returns ! (look_at ! 0 refl) $ free_all ! refl $
      suffices ! _ (ends_at 𝓛 promised.ended kept (promised.clauses 𝓛 mem run) none (vstruct vnil) (record { seen = [] }) tt tt) $
      says ! refl $ pure_i ! (unkept.the_row.own_val (record { seen = [] }) (vstruct vnil ∷ [])) ((λ vss. (tt, tt)), tt) ((tt, (refl, tt)), tt) $
      move ! (1 ∷ 2 ∷ 0 ∷ []) $ done !)

  meets : (𝓣 : Tables 𝓤 H) → Meets 𝓛 promised.signature (WpFn 𝓤 H 𝓣.C 𝓣.Λ code.function) (promised.spec 𝓛 mem run)
  meets 𝓣 =
      let wp = WpFn 𝓤 H 𝓣.C 𝓣.Λ code.function in
      walk_Meets 𝓛 promised.ended kept tt (promised.clauses 𝓛 mem run) wp (WpFn-mono 𝓤 H 𝓛.laws 𝓣 code.function)
      (walked 𝓛 promised.ended kept (promised.clauses 𝓛 mem run) wp (λ κs. tt) (λ κs. tt) (λ κs qs bounds a g are. via 𝓤 _ (fst∗ 𝓤 _ (emp 𝓤)) (steps 𝓣.C 𝓣.Λ)))

pub new_spec : {M : Type 1} → statement M
unfolding tables_of
new_spec 𝓤 𝓛 𝓜 𝓡 wired =
    entered 𝓤 𝓛.H (triple_of 𝓛 promised.signature (promised.spec 𝓛 𝓜.mem 𝓡.returns))
    (tables 𝓤 𝓛.H 𝓜 𝓡 𝓡.env).C (tables 𝓤 𝓛.H 𝓜 𝓡 𝓡.env).Λ key code.function (code.unfolded 𝓤 𝓛.H 𝓜 𝓡 wired)
    (meets 𝓛 𝓜.mem 𝓡.returns (tables_of 𝓤 𝓛.H 𝓜 (tables 𝓤 𝓛.H 𝓜 𝓡 𝓡.env)))
