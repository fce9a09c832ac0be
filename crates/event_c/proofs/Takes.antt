-- Exports of the form `(at, &[E]) -> i64`: what lies at the pointer is lent for the call, the slice is passed on, and the call's number is the answer.
use Rattle.event_c.proofs.Steps.{ℤ, List, [], ◌∷◌, refl, w64, Ura, full_share, SProp, emp, ex, sep, Lft, Incl, flft, ftrue, named, erased, imm, ty_int, ty_ptr, ty_ref, Fn, Callee, place, deref, assign, seq, return, call, copy, rv_opd, addr_of, Val, vptr, Model, fact, Running, tables, Logic, sem, ‵, raw, ◌⊛◌, some, later, ◌$◌, ◌∵◌, !, qed, done, move, drop, show, use1, split, join, pick, await, suffices, enter, of_opd, addr, stop, no_more, and_then, returns, alloc_all, pass_all, free_all, look_at, get, through, sets, lands_as, One, SliceRefOf, i64, yes, Is, shows, lone, part_at, pointee, Laws, RattleType, owns, block_ptr, plain, Slot, Lfts, Denots, types_at, flat, toks, slice_ty, shr_slice_vals, shr_slice_Tells, shr_slice_Lawful, sint_Lawful, nothing, peeks, calls_from, Args, AtExit, Outs, lasts_of, framed, stay_dropped, Goes-dropped, ends_at}
use Rattle.event_c.proofs.Lent.{Way, mutability, Called, calling, stays_at, taken_out, beside, lent}
use Rattle.event_c.proofs.Points.{Export, Passes, exported, fn, bound, points}

-- R is the type of what lies there, and Promise what the call promises of it before and after, of the slice and of the answer
module _ (R : RattleType) (laws : Laws R) (within : (κ : Lft) → Incl κ R.lives) (one : One R.mir) (w : Way) (E : RattleType) (each : One E.mir)
    (Promise : R.Denot → R.Denot → List E.Denot → ℤ → Type 0) where
  abbrev pub body : Callee → Fn
  body k = fn 1 2 (ty_int w64 ∷ ty_ptr ∷ slice_ty (ty_ref (named 0) imm (pointee E.written)) ∷ ty_ptr ∷ ty_ref erased (mutability w) (pointee R.written) ∷ [])
      (seq (assign (place 3 []) (rv_opd (copy (place 1 []))))
      (seq (assign (place 4 []) (addr_of (place 3 (deref (lone R.mir) ∷ []))))
      (seq (call k (copy (place 4 []) ∷ copy (place 2 []) ∷ []) (place 0 [])) return)))

  abbrev Given : List (Slot 1)
  Given = SliceRefOf (0 ∷ []) tt (plain (λ κs. E)) (λ κs. each) ∷ []

  abbrev Passed : List (Slot 2)
  Passed = SliceRefOf (1 ∷ []) tt (plain (λ κs. E)) (λ κs. each) ∷ []

  module _ {M : Type 1} (𝓤 : Ura M) (𝓛 : Logic 𝓤) where
    abbrev Asked : (κs : Lfts 2) → R.Denot → Denots (types_at Passed κs) → SProp 𝓤
    Asked κs old a = emp 𝓤

    abbrev Said : (κs : Lfts 2) → R.Denot → Denots (types_at Passed κs) → R.Denot → Outs κs Passed (yes, tt) → ℤ → SProp 𝓤
    Said κs old a new end r = fact 𝓤 (Promise old new a.0.now r)

    abbrev Ensured : (κs : Lfts 1) → Args (Export Given (yes, tt) i64).signature κs → R.Denot → ℤ → AtExit (Export Given (yes, tt) i64) κs → SProp 𝓤
    Ensured κs a x r end = stays_at 𝓤 𝓛 R w a.0 x (λ new. fact 𝓤 (Promise x new a.1.0.now r))

    module _ (𝓜 : Model 𝓤 𝓛.H) (𝓡 : Running 𝓤 𝓛.H 𝓜) where
      pub takes : Passes 𝓛 𝓜 𝓡 body (Export Given (yes, tt) i64) (exported 𝓛 R Given (yes, tt) (stay_dropped _ yes, tt) i64 Ensured) (Called R one 1 w Passed (yes, tt) i64) (calling 𝓤 R one w 1 Passed (yes, tt) i64 Asked Said)
      takes self k closed met =
          let 𝓣 = tables 𝓤 𝓛.H 𝓜 𝓡 𝓡.env in
          points 𝓛 R Given (yes, tt) (stay_dropped _ yes, tt) i64 Ensured 𝓜 𝓡 (λ κs. (shr_slice_vals, tt)) (body k) (Goes-dropped 𝓛 1 (SliceRefOf (0 ∷ []) tt (plain (λ κs. E)) (λ κs. each)) yes (λ κs x w. refl), tt) (λ κs. (shr_slice_Tells (named 0) κs.0 E, tt)) self closed (λ κs qs bounds a x are b o.
          let rest = sep 𝓤 (toks 𝓛 1 κs qs) (sem 𝓛 (owns (types_at Given κs) a (shr_slice_vals a.0, tt))) in
          let given = λ (v : Val) (s : ℤ). sep 𝓤 (sep 𝓤 (toks 𝓛 1 κs qs) (sem 𝓛 (i64.own_val s (v ∷ [])))) (sem 𝓛 (lasts_of (κs.0, κs) Passed (yes, tt) (a.0, tt) (tt, tt))) in
          let says_of = λ (new : R.Denot) (s : ℤ). fact 𝓤 (Promise x new a.0.now s) in
          let vs = vptr b o ∷ flat (types_at Passed (κs.0, κs)) (shr_slice_vals a.0, tt) in
          qed 𝓛 ((‵ (part_at R full_share x b o) ⊛ raw rest) ∷ []) ∵
          enter ! _ _ _ _ _ $ alloc_all ! (λ l. pass_all ! refl ((tt, tt), (((shr_slice_Lawful 𝓛 (named 0) κs.0 E).typed a.0 _ are.0).0, tt)) $
          sets ! (of_opd ! (get ! refl)) refl (tt, tt) $
          sets ! (addr ! (through ! refl (stop !))) refl (tt, tt) $
          calls_from ! (framed 𝓤 𝓛.H 𝓜 𝓣) (‵ (part_at R full_share x b o) ⊛ raw rest) vs (λ v. 𝓛.H.⇛ (stays_at 𝓤 𝓛 R w (block_ptr b o) x (λ new. ex 𝓤 (λ (s : ℤ). sep 𝓤 (given v s) (says_of new s)))))
          (lent 𝓛 𝓜 𝓣 k R laws within one 1 κs x b o vs rest (λ new v. ex 𝓤 (λ (s : ℤ). sep 𝓤 (given v s) (says_of new s))) w Passed (yes, tt) i64 qs Asked Said (λ α. (a.0, tt)) (λ α. (shr_slice_vals a.0, tt)) met
          (λ α. refl) (λ α. beside 𝓤 rest) (λ α r v new ws.
          qed 𝓛 (raw (sep 𝓤 (toks 𝓛 1 κs qs) (sem 𝓛 (i64.own_val r (v ∷ [])))) ∷ ‵ (lasts_of (κs.0, κs) Passed (yes, tt) (a.0, tt) ws) ∷ raw (says_of new r) ∷ []) ∵
          join ! $ show ! (λ (s : ℤ). sep 𝓤 (given v s) (says_of new s)) r $ done !))
          (and_then ! (get ! refl) (and_then ! (get ! refl) (no_more !))) (λ v.
          use1 𝓛 (later (some (λ (s : ℤ). (((‵ (flft κs.0 qs.0) ⊛ ‵ ftrue) ⊛ ‵ (i64.own_val s (v ∷ []))) ⊛ ‵ (lasts_of (κs.0, κs) Passed (yes, tt) (a.0, tt) (tt, tt))) ⊛ raw (stays_at 𝓤 𝓛 R w (block_ptr b o) x (λ new. says_of new s)))))
          (taken_out 𝓛 R (given v) says_of w (block_ptr b o) x) $ await ! tt $ pick ! (λ s. split ! $ split ! $ split ! $
          -- [the token; the answer; what the slice leaves; what lies at the pointer]
          move ! (2 ∷ []) $ drop ! $
          move ! (1 ∷ []) $ peeks ! i64 (Is i64) (shows 𝓛 i64) s (v ∷ []) (λ is.
          lands_as ! refl refl ((sint_Lawful 𝓛 w64).typed s _ is).0 $ returns ! (look_at ! 0 refl) $ free_all ! refl $
          suffices ! _ (ends_at 𝓛 (Export Given (yes, tt) i64) (stay_dropped _ yes, (stay_dropped _ yes, tt)) (exported 𝓛 R Given (yes, tt) (stay_dropped _ yes, tt) i64 Ensured)
          (bound 𝓛 R Given (yes, tt) (stay_dropped _ yes, tt) i64 Ensured 𝓜 𝓡 (λ κs. (shr_slice_vals, tt)) (body k) κs qs bounds a x (block_ptr b o)) v s (tt, (tt, tt)) (tt, (tt, tt))) $
          nothing ! $ nothing ! $ join ! $ nothing ! $ join ! $ join ! $ move ! (1 ∷ 0 ∷ []) $ join ! $ done !)))))
