-- Exports of the form `(at)` that empty a room: what lies at the pointer is moved out and let go.
use Rattle.event_c.proofs.Steps.{[], ◌∷◌, refl, ap, Ura, full_share, SProp, emp, sep, id⊢, ftrue, fat, froom, ty_ptr, ty_unit, Fn, Callee, place, deref, assign, seq, return, call, copy, opd_unit, rv_opd, Val, vunit, Model, Running, tables, Logic, sem, ‵, raw, ◌⊛◌, some, later, ◌$◌, ◌∵◌, !, qed, done, move, drop, use1, use2, split, join, feq_i, feq_l, pick, await, suffices, group, enter, of_opd, unit_lit, load, look, stop, no_more, and_then, returns, alloc_all, pass_all, free_all, look_at, get, through, sets, lands_as, unit, yes, part_out, Is, shows, lone, part_at, Lfts, Args, AtExit, Laws, RattleType, block_ptr, room_at, plain, nothing, peeks, only, calls_at, Ended, Clauses, closing, lasts, Lasts, triple_of, framed, stay_dropped, ends_at, is_typed}
use Rattle.event_c.proofs.Points.{Export, Passes, exported, fn, bound, points}

-- R is the type of what lies there
module _ (R : RattleType) (laws : Laws R) where
  abbrev pub Called : Ended
  Called = record { signature = record { lifetimes = 0; outlives = []; params = plain (λ κs. R) ∷ []; result = plain (λ κs. unit) }; kept = (yes, tt) }

  abbrev pub body : Callee → Fn
  body k = fn 0 1 (ty_unit ∷ ty_ptr ∷ ty_unit ∷ ty_ptr ∷ lone R.mir ∷ [])
      (seq (assign (place 3 []) (rv_opd (copy (place 1 []))))
      (seq (assign (place 4 []) (rv_opd (copy (place 3 (deref (lone R.mir) ∷ [])))))
      (seq (call k (copy (place 4 []) ∷ []) (place 2 []))
      (seq (assign (place 0 []) (rv_opd opd_unit)) return))))

  module _ {M : Type 1} (𝓤 : Ura M) (𝓛 : Logic 𝓤) where
    abbrev Ensured : (κs : Lfts 0) → Args (Export {n = 0} [] tt unit).signature κs → R.Denot → Unit {0} → AtExit (Export {n = 0} [] tt unit) κs → SProp 𝓤
    Ensured κs a x r end = sem 𝓛 (room_at R a.0)

    abbrev pub called : Clauses 𝓤 Called
    called κs a = record { ghost = Unit {0}; requires = λ _. emp 𝓤; ensures = λ _ r end. emp 𝓤 }

    module _ (𝓜 : Model 𝓤 𝓛.H) (𝓡 : Running 𝓤 𝓛.H 𝓜) where
      pub clears : Passes 𝓛 𝓜 𝓡 body (Export {n = 0} [] tt unit) (exported 𝓛 R {n = 0} [] tt tt unit Ensured) Called called
      clears self k closed met =
          let 𝓣 = tables 𝓤 𝓛.H 𝓜 𝓡 𝓡.env in let G = triple_of 𝓛 Called.signature (closing 𝓛 Called called) in
          points 𝓛 R {n = 0} [] tt tt unit Ensured 𝓜 𝓡 (λ κs. tt) (body k) tt (λ κs. tt) self closed (λ κs qs bounds a n are b o.
          qed 𝓛 (‵ (part_at R full_share n b o) ∷ raw (sep 𝓤 (emp 𝓤) (emp 𝓤)) ∷ []) ∵ move ! (1 ∷ []) $ drop ! $
          use1 𝓛 (some (λ (v : Val). ‵ (fat full_share (lone R.mir) b o v) ⊛ ‵ (R.own_val n (v ∷ [])))) (part_out 𝓛 R laws.one full_share n b o) $ pick ! (λ w. split ! $
          move ! (1 ∷ []) $ peeks ! R (Is R) (shows 𝓛 R) n (w ∷ []) (λ is. let typed = is_typed 𝓛 R laws n w is in
          enter ! _ _ _ _ _ $ alloc_all ! (λ l. pass_all ! refl ((tt, tt), tt) $
          -- [the value; its cell]
          sets ! (of_opd ! (get ! refl)) refl (tt, tt) $
          sets ! (of_opd ! (load ! (through ! refl (stop !)) (look ! 1 refl))) refl typed $
          nothing ! $ move ! (1 ∷ 0 ∷ []) $ join ! $ nothing ! $ join ! $ nothing ! $ move ! (1 ∷ 0 ∷ []) $
          let z : G.Ghost = ((tt, tt, tt, (n, tt), (w ∷ [], tt)), tt) in
          use2 𝓛 (raw (G.pre z)) (id⊢ 𝓤 _) $
          calls_at ! (framed 𝓤 𝓛.H 𝓜 𝓣) G met z (and_then ! (get ! refl) (no_more !)) (λ v.
          use1 𝓛 (later (some (λ (r : Unit {0}). (‵ ftrue ⊛ ‵ (unit.own_val r (v ∷ []))) ⊛
          some (λ (ws : Lasts Called z.0.0 z.0.3). ‵ (lasts Called z.0.0 z.0.3 ws) ⊛ ‵ ftrue)))) (id⊢ 𝓤 _) $
          await ! tt $ pick ! (λ r. split ! $ split ! $ drop ! $ feq_l ! (λ is_unit. drop ! $
          lands_as ! (ap only is_unit) refl (tt, tt) $
          sets ! (of_opd ! (unit_lit !)) refl (tt, tt) $
          returns ! (look_at ! 0 refl) $ free_all ! refl $
          use1 𝓛 (‵ (froom (lone R.mir) b o)) (𝓛.laws.at_room (lone R.mir) b o w) $
          suffices ! _ (ends_at 𝓛 (Export {n = 0} [] tt unit) (stay_dropped _ yes, tt) (exported 𝓛 R {n = 0} [] tt tt unit Ensured)
          (bound 𝓛 R {n = 0} [] tt tt unit Ensured 𝓜 𝓡 (λ κs. tt) (body k) κs qs bounds a n (block_ptr b o)) vunit tt (tt, tt) (tt, tt)) $
          feq_i ! _ (vunit ∷ []) _ refl $ nothing ! $ nothing ! $ join ! $ nothing ! $ group ! 3 $ done !)))))))
