-- Exports of the form `(at) -> i64`: what lies at the pointer is lent for the call, and the call's number is the answer.
use Rattle.event_c.proofs.Steps.{ℤ, [], ◌∷◌, refl, w64, Ura, full_share, SProp, emp, ex, sep, Lft, Incl, ftrue, erased, ty_int, ty_ptr, ty_ref, Fn, Callee, place, deref, assign, seq, return, call, copy, rv_opd, addr_of, Val, vptr, Model, fact, Running, tables, Logic, sem, ‵, raw, ◌⊛◌, some, later, ◌$◌, ◌∵◌, !, qed, done, show, use1, split, join, pick, await, suffices, enter, of_opd, addr, stop, no_more, and_then, returns, alloc_all, pass_all, free_all, look_at, get, through, sets, lands_as, One, i64, Is, shows, lone, part_at, pointee, Laws, RattleType, sint_Lawful, nothing, peeks, calls_from, Clauses, framed, ends_at, group, keep, block_ptr, yes, stay_dropped}
use Rattle.event_c.proofs.Lent.{Way, mutability, Called, calling, stays_at, taken_out, beside, lent}
use Rattle.event_c.proofs.Points.{Export, Passes, exported, fn, bound, points}

-- R is the type of what lies there, and Promise what the call promises of it before, of it after and of the answer
module _ (R : RattleType) (laws : Laws R) (within : (κ : Lft) → Incl κ R.lives) (one : One R.mir) (w : Way) (Promise : R.Denot → R.Denot → ℤ → Type 0) where
  abbrev pub body : Callee → Fn
  body k = fn 0 1 (ty_int w64 ∷ ty_ptr ∷ ty_ptr ∷ ty_ref erased (mutability w) (pointee R.written) ∷ [])
      (seq (assign (place 2 []) (rv_opd (copy (place 1 []))))
      (seq (assign (place 3 []) (addr_of (place 2 (deref (lone R.mir) ∷ []))))
      (seq (call k (copy (place 3 []) ∷ []) (place 0 [])) return)))

  module _ {M : Type 1} (𝓤 : Ura M) (𝓛 : Logic 𝓤) where
    abbrev pub called : Clauses 𝓤 (Called R one 0 w [] tt i64)
    called = calling 𝓤 R one w 0 [] tt i64 (λ κs old a. emp 𝓤) (λ κs old a new end r. fact 𝓤 (Promise old new r))

    abbrev pub promised : Clauses 𝓤 (Export {n = 0} [] tt i64)
    promised = exported 𝓛 R {n = 0} [] tt tt i64 (λ κs a x r end. stays_at 𝓤 𝓛 R w a.0 x (λ new. fact 𝓤 (Promise x new r)))

    module _ (𝓜 : Model 𝓤 𝓛.H) (𝓡 : Running 𝓤 𝓛.H 𝓜) where
      pub answers : Passes 𝓛 𝓜 𝓡 body (Export {n = 0} [] tt i64) promised (Called R one 0 w [] tt i64) called
      answers self k closed met =
          let 𝓣 = tables 𝓤 𝓛.H 𝓜 𝓡 𝓡.env in
          points 𝓛 R {n = 0} [] tt tt i64 (λ κs a x r end. stays_at 𝓤 𝓛 R w a.0 x (λ new. fact 𝓤 (Promise x new r))) 𝓜 𝓡 (λ κs. tt) (body k) tt (λ κs. tt) self closed (λ κs qs bounds a x are b o.
          let nothing_else = sep 𝓤 (emp 𝓤) (emp 𝓤) in
          let Φ : R.Denot → Val → SProp 𝓤 = λ new v. ex 𝓤 (λ (r : ℤ). sep 𝓤 (sem 𝓛 (i64.own_val r (v ∷ []))) (fact 𝓤 (Promise x new r))) in
          qed 𝓛 ((‵ (part_at R full_share x b o) ⊛ raw nothing_else) ∷ []) ∵
          enter ! _ _ _ _ _ $ alloc_all ! (λ l. pass_all ! refl ((tt, tt), tt) $
          sets ! (of_opd ! (get ! refl)) refl (tt, tt) $
          sets ! (addr ! (through ! refl (stop !))) refl (tt, tt) $
          calls_from ! (framed 𝓤 𝓛.H 𝓜 𝓣) (‵ (part_at R full_share x b o) ⊛ raw nothing_else) (vptr b o ∷ []) (λ v. 𝓛.H.⇛ (stays_at 𝓤 𝓛 R w (block_ptr b o) x (λ new. Φ new v)))
          (lent 𝓛 𝓜 𝓣 k R laws within one 0 κs x b o (vptr b o ∷ []) nothing_else Φ w [] tt i64 qs (λ κs old a. emp 𝓤) (λ κs old a new end r. fact 𝓤 (Promise old new r)) (λ α. tt) (λ α. tt) met
          (λ α. refl) (λ α. beside 𝓤 nothing_else) (λ α r v new ws.
          qed 𝓛 ((‵ ftrue ⊛ ‵ (i64.own_val r (v ∷ []))) ∷ ‵ ftrue ∷ raw (fact 𝓤 (Promise x new r)) ∷ []) ∵ split ! $ keep ! (1 ∷ 3 ∷ []) $
          show ! (λ (answer : ℤ). sep 𝓤 (sem 𝓛 (i64.own_val answer (v ∷ []))) (fact 𝓤 (Promise x new answer))) r $ done !))
          (and_then ! (get ! refl) (no_more !)) (λ v.
          use1 𝓛 (later (some (λ (r : ℤ). ‵ (i64.own_val r (v ∷ [])) ⊛ raw (stays_at 𝓤 𝓛 R w (block_ptr b o) x (λ new. fact 𝓤 (Promise x new r))))))
          (taken_out 𝓛 R (λ (r : ℤ). sem 𝓛 (i64.own_val r (v ∷ []))) (λ new r. fact 𝓤 (Promise x new r)) w (block_ptr b o) x) $ await ! tt $ pick ! (λ r. split ! $
          peeks ! i64 (Is i64) (shows 𝓛 i64) r (v ∷ []) (λ is.
          lands_as ! refl refl ((sint_Lawful 𝓛 w64).typed r _ is).0 $ returns ! (look_at ! 0 refl) $ free_all ! refl $
          suffices ! _ (ends_at 𝓛 (Export {n = 0} [] tt i64) (stay_dropped _ yes, tt) promised (bound 𝓛 R {n = 0} [] tt tt i64 (λ κs a x r end. stays_at 𝓤 𝓛 R w a.0 x (λ new. fact 𝓤 (Promise x new r))) 𝓜 𝓡 (λ κs. tt) (body k) κs qs bounds a x (block_ptr b o)) v r (tt, tt) (tt, tt)) $
          nothing ! $ nothing ! $ join ! $ nothing ! $ group ! 3 $ done !)))))
