-- Exports of the form `(at, number, number, &mut [E]) -> i64`: what lies at the pointer is lent for the call, the numbers and the slice are passed on, and the call's number is the answer.
use Rattle.event_c.proofs.Steps.{ℕ, ℤ, List, [], ◌∷◌, refl, w64, Ura, full_share, SProp, emp, ex, sep, Lft, Incl, flft, ftrue, named, erased, mut, ty_int, ty_ptr, ty_ref, Fn, Callee, place, deref, assign, seq, return, call, copy, rv_opd, addr_of, field, aggregate, Val, vptr, Model, fact, Running, tables, Logic, sem, ‵, raw, ◌⊛◌, some, later, ◌$◌, ◌∵◌, !, qed, done, move, drop, show, use1, split, join, fsplit, fjoin, feq_l, pick, await, suffices, enter, of_opd, addr, stop, fld, hop, from, no_more, and_then, returns, alloc_all, pass_all, free_all, look_at, look_in_at, get, get_in, through, sets, lands_as, whole, sub, agg, One, SliceRefMutOf, i64, usize, yes, Is, shows, lone, part_at, pointee, Laws, RattleType, owns, block_ptr, plain, Slot, Lfts, Denots, types_at, flat, toks, slice_ty, mut_slice_vals, mut_slice_Tells, mut_slice_Lawful, sint_Lawful, uint_vals, uint_Tells, nothing, peeks, calls_from, Args, AtExit, Outs, lasts_of, framed, stay_dropped, Goes-dropped, gave_slice, Goes-gave_slice, ends_at}
use Rattle.event_c.proofs.Lent.{Way, mutability, Called, calling, stays_at, taken_out, beside, lent}
use Rattle.event_c.proofs.Points.{Export, Passes, exported, fn, bound, points}

-- R is the type of what lies there, and Promise what the call promises of it before and after, of the numbers, of the slice before and after, and of the answer
module _ (R : RattleType) (laws : Laws R) (within : (κ : Lft) → Incl κ R.lives) (one : One R.mir) (w : Way) (E : RattleType) (each : One E.mir)
    (Promise : R.Denot → R.Denot → ℕ → ℕ → List E.Denot → List E.Denot → ℤ → Type 0) where
  abbrev pub body : Callee → Fn
  body k = fn 1 4 (
      ty_int w64 ∷ ty_ptr ∷ ty_int w64 ∷ ty_int w64 ∷ slice_ty (ty_ref (named 0) mut (pointee E.written)) ∷ ty_ptr ∷ ty_ref erased (mutability w) (pointee R.written)
      ∷ ty_ref erased mut (pointee E.written) ∷ slice_ty (ty_ref erased mut (pointee E.written)) ∷ []
      )
      (seq (assign (place 5 []) (rv_opd (copy (place 1 []))))
      (seq (assign (place 6 []) (addr_of (place 5 (deref (lone R.mir) ∷ []))))
      (seq (assign (place 7 []) (addr_of (place 4 (field 0 ∷ deref (lone E.mir) ∷ []))))
      (seq (assign (place 8 []) (aggregate (copy (place 7 []) ∷ copy (place 4 (field 1 ∷ [])) ∷ [])))
      (seq (call k (copy (place 6 []) ∷ copy (place 2 []) ∷ copy (place 3 []) ∷ copy (place 8 []) ∷ []) (place 0 [])) return)))))

  abbrev Given : List (Slot 1)
  Given = plain (λ κs. usize) ∷ plain (λ κs. usize) ∷ SliceRefMutOf (0 ∷ []) tt (plain (λ κs. E)) (λ κs. each) ∷ []

  abbrev Passed : List (Slot 2)
  Passed = plain (λ κs. usize) ∷ plain (λ κs. usize) ∷ SliceRefMutOf (1 ∷ []) tt (plain (λ κs. E)) (λ κs. each) ∷ []

  module _ {M : Type 1} (𝓤 : Ura M) (𝓛 : Logic 𝓤) where
    abbrev Asked : (κs : Lfts 2) → R.Denot → Denots (types_at Passed κs) → SProp 𝓤
    Asked κs old a = emp 𝓤

    abbrev Said : (κs : Lfts 2) → R.Denot → Denots (types_at Passed κs) → R.Denot → Outs κs Passed (yes, (yes, (yes, tt))) → ℤ → SProp 𝓤
    Said κs old a new end r = fact 𝓤 (Promise old new a.0 a.1.0 a.1.1.0.now end.1.1.0.now r)

    abbrev Ensured : (κs : Lfts 1) → Args (Export Given (yes, (yes, (yes, tt))) i64).signature κs → R.Denot → ℤ → AtExit (Export Given (yes, (yes, (yes, tt))) i64) κs → SProp 𝓤
    Ensured κs a x r end = stays_at 𝓤 𝓛 R w a.0 x (λ new. fact 𝓤 (Promise x new a.1.0 a.1.1.0 a.1.1.1.0.now end.1.1.1.0.now r))

    module _ (𝓜 : Model 𝓤 𝓛.H) (𝓡 : Running 𝓤 𝓛.H 𝓜) where
      pub shares_for : Passes 𝓛 𝓜 𝓡 body (Export Given (yes, (yes, (yes, tt))) i64) (exported 𝓛 R Given (yes, (yes, (yes, tt))) (stay_dropped _ yes, (stay_dropped _ yes, (gave_slice (0 ∷ []) tt (plain (λ κs. E)), tt))) i64 Ensured) (Called R one 1 w Passed (yes, (yes, (yes, tt))) i64) (calling 𝓤 R one w 1 Passed (yes, (yes, (yes, tt))) i64 Asked Said)
      shares_for self k closed met =
          let 𝓣 = tables 𝓤 𝓛.H 𝓜 𝓡 𝓡.env in
          points 𝓛 R Given (yes, (yes, (yes, tt))) (stay_dropped _ yes, (stay_dropped _ yes, (gave_slice (0 ∷ []) tt (plain (λ κs. E)), tt))) i64 Ensured 𝓜 𝓡 (λ κs. (uint_vals w64, (uint_vals w64, (mut_slice_vals, tt)))) (body k) (Goes-dropped 𝓛 1 (plain (λ _. usize)) yes (λ κs x w. refl), (Goes-dropped 𝓛 1 (plain (λ _. usize)) yes (λ κs x w. refl), (Goes-gave_slice 𝓛 1 0 tt (plain (λ κs. E)), tt))) (λ κs. (uint_Tells w64, (uint_Tells w64, (mut_slice_Tells (named 0) κs.0 E, tt)))) self closed (λ κs qs bounds a x are b o.
          let rest = sep 𝓤 (toks 𝓛 1 κs qs) (sem 𝓛 (owns (types_at Given κs) a (uint_vals w64 a.0, (uint_vals w64 a.1.0, (mut_slice_vals a.1.1.0, tt))))) in
          let given = λ (v : Val) (s : ℤ × List E.Denot). sep 𝓤 (sep 𝓤 (toks 𝓛 1 κs qs) (sem 𝓛 (i64.own_val s.0 (v ∷ [])))) (sem 𝓛 (lasts_of (κs.0, κs) Passed (yes, (yes, (yes, tt))) a (tt, (tt, (s.1, tt))))) in
          let says_of = λ (new : R.Denot) (s : ℤ × List E.Denot). fact 𝓤 (Promise x new a.0 a.1.0 a.1.1.0.now s.1 s.0) in
          let vs = vptr b o ∷ flat (types_at Passed (κs.0, κs)) (uint_vals w64 a.0, (uint_vals w64 a.1.0, (mut_slice_vals a.1.1.0, tt))) in
          qed 𝓛 ((‵ (part_at R full_share x b o) ⊛ raw rest) ∷ []) ∵
          enter ! _ _ _ _ _ $ alloc_all ! (λ l. pass_all ! refl ((tt, tt), ((tt, record { fits = are.0.1 }), ((tt, record { fits = are.1.0.1 }), (((mut_slice_Lawful 𝓛 (named 0) κs.0 E).typed a.1.1.0 _ are.1.1.0).0, tt)))) $
          sets ! (of_opd ! (get ! refl)) refl (tt, tt) $
          sets ! (addr ! (through ! refl (stop !))) refl (tt, tt) $
          sets ! (addr ! (from ! (fld ! refl (hop ! (look_in_at ! 4 (sub ! 0 refl (whole !))) (stop !))))) refl (tt, tt) $
          sets ! (agg ! (and_then ! (get ! refl) (and_then ! (get_in ! (fld ! refl (stop !)) (sub ! 1 refl (whole !))) (no_more !)))) refl (tt, (tt, (record { fits = are.1.1.0.0.1.0 }, tt))) $
          calls_from ! (framed 𝓤 𝓛.H 𝓜 𝓣) (‵ (part_at R full_share x b o) ⊛ raw rest) vs (λ v. 𝓛.H.⇛ (stays_at 𝓤 𝓛 R w (block_ptr b o) x (λ new. ex 𝓤 (λ (s : ℤ × List E.Denot). sep 𝓤 (given v s) (says_of new s)))))
          (lent 𝓛 𝓜 𝓣 k R laws within one 1 κs x b o vs rest (λ new v. ex 𝓤 (λ (s : ℤ × List E.Denot). sep 𝓤 (given v s) (says_of new s))) w Passed (yes, (yes, (yes, tt))) i64 qs Asked Said (λ α. a) (λ α. (uint_vals w64 a.0, (uint_vals w64 a.1.0, (mut_slice_vals a.1.1.0, tt)))) met
          (λ α. refl) (λ α. beside 𝓤 rest) (λ α r v new ws.
          qed 𝓛 (raw (sep 𝓤 (toks 𝓛 1 κs qs) (sem 𝓛 (i64.own_val r (v ∷ [])))) ∷ ‵ (lasts_of (κs.0, κs) Passed (yes, (yes, (yes, tt))) a ws) ∷ raw (says_of new (r, ws.1.1.0)) ∷ []) ∵
          join ! $ show ! (λ (s : ℤ × List E.Denot). sep 𝓤 (given v s) (says_of new s)) (r, ws.1.1.0) $ done !))
          (and_then ! (get ! refl) (and_then ! (get ! refl) (and_then ! (get ! refl) (and_then ! (get ! refl) (no_more !))))) (λ v.
          use1 𝓛 (later (some (λ (s : ℤ × List E.Denot). (((‵ (flft κs.0 qs.0) ⊛ ‵ ftrue) ⊛ ‵ (i64.own_val s.0 (v ∷ []))) ⊛ ‵ (lasts_of (κs.0, κs) Passed (yes, (yes, (yes, tt))) a (tt, (tt, (s.1, tt))))) ⊛ raw (stays_at 𝓤 𝓛 R w (block_ptr b o) x (λ new. says_of new s)))))
          (taken_out 𝓛 R (given v) says_of w (block_ptr b o) x) $ await ! tt $ pick ! (λ s. split ! $ split ! $ split ! $
          -- [the token; the answer; what the slice leaves; what lies at the pointer]
          move ! (2 ∷ []) $ fsplit ! $ drop ! $ fsplit ! $ drop ! $ fsplit ! $ fsplit ! $ fsplit ! $ move ! (1 ∷ []) $ feq_l ! (λ as_many. fjoin ! $ fjoin ! $ nothing ! $ fjoin ! $ nothing ! $ fjoin ! $ nothing ! $ fjoin ! $
          move ! (2 ∷ []) $ peeks ! i64 (Is i64) (shows 𝓛 i64) s.0 (v ∷ []) (λ is.
          lands_as ! refl refl ((sint_Lawful 𝓛 w64).typed s.0 _ is).0 $ returns ! (look_at ! 0 refl) $ free_all ! refl $
          suffices ! _ (ends_at 𝓛 (Export Given (yes, (yes, (yes, tt))) i64) (stay_dropped _ yes, (stay_dropped _ yes, (stay_dropped _ yes, (gave_slice (0 ∷ []) tt (plain (λ κs. E)), tt)))) (exported 𝓛 R Given (yes, (yes, (yes, tt))) (stay_dropped _ yes, (stay_dropped _ yes, (gave_slice (0 ∷ []) tt (plain (λ κs. E)), tt))) i64 Ensured)
          (bound 𝓛 R Given (yes, (yes, (yes, tt))) (stay_dropped _ yes, (stay_dropped _ yes, (gave_slice (0 ∷ []) tt (plain (λ κs. E)), tt))) i64 Ensured 𝓜 𝓡 (λ κs. (uint_vals w64, (uint_vals w64, (mut_slice_vals, tt)))) (body k) κs qs bounds a x (block_ptr b o)) v s.0 (tt, (tt, (tt, (s.1, tt)))) (tt, (tt, (tt, (as_many, tt))))) $
          move ! (1 ∷ 0 ∷ []) $ join ! $ move ! (1 ∷ 0 ∷ []) $ join ! $ done !))))))
