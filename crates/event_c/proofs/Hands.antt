-- Exports of the form `(at, number, to)`: what lies at the first pointer is lent for the call, the number is passed on, and what the call gives is written to the second.
use Rattle.event_c.proofs.Steps.{ℕ, List, [], ◌∷◌, ◌++◌, refl, Ura, full_share, SProp, emp, ex, sep, id⊢, Lft, Incl, ftrue, erased, mut, ty_ptr, ty_ref, ty_unit, Fn, Callee, place, deref, assign, seq, return, call, copy, opd_unit, rv_opd, addr_of, Val, vptr, vunit, Model, WpFn, fact, Running, tables, Logic, sem, ‵, raw, ◌⊛◌, some, later, prop, ◌$◌, ◌∵◌, !, qed, done, move, keep, show, use1, use2, split, join, feq_i, pick, await, regoal, suffices, frame, group, enter, of_opd, unit_lit, init, assigns, addr, stop, no_more, and_then, returns, alloc_all, pass_all, free_all, look_at, get, through, sets, lands_as, One, unit, yes, part_in, Is, shows, lone, part_at, pointee, Laws, RattleType, Denots, Ptr, RawPtr, block_ptr, lies_at, room_at, in_a_block, rawptr_vals, rawptr_Tells, plain, Slot, Lfts, types_at, nothing, heard, peeks, calls_from, Args, AtExit, Outs, framed, walk_of, says, stay_dropped, Goes-dropped, ends_at, is_typed, w64, ty_int, usize, uint_vals, uint_Tells}
use Rattle.event_c.proofs.Lent.{by_mut, Called, calling, stays_at, beside, lent}
use Rattle.event_c.proofs.Points.{Export, Passes, asked, fn, binds, points_with}

-- R is the type of what lies there, Q the type of what is given, and Promise what the call promises of the first before, of the number, of the first after, and of what is given
module _ (R : RattleType) (laws : Laws R) (within : (κ : Lft) → Incl κ R.lives) (one : One R.mir) (Q : RattleType) (made_laws : Laws Q) (Promise : R.Denot → ℕ → R.Denot → Q.Denot → Type 0) where
  abbrev pub body : Callee → Fn
  body k = fn 0 3 (
      ty_unit ∷ ty_ptr ∷ ty_int w64 ∷ ty_ptr ∷ ty_ref erased mut (pointee R.written)
      ∷ ty_ptr ∷ ty_ptr ∷ lone Q.mir ∷ ty_ref erased mut (pointee R.written) ∷ []
      )
      (seq (assign (place 5 []) (rv_opd (copy (place 1 []))))
      (seq (assign (place 4 []) (addr_of (place 5 (deref (lone R.mir) ∷ []))))
      (seq (assign (place 6 []) (rv_opd (copy (place 3 []))))
      (seq (assign (place 8 []) (addr_of (place 4 (deref (lone R.mir) ∷ []))))
      (seq (call k (copy (place 8 []) ∷ copy (place 2 []) ∷ []) (place 7 []))
      (seq (assign (place 6 (deref (lone Q.mir) ∷ [])) (rv_opd (copy (place 7 []))))
      (seq (assign (place 0 []) (rv_opd opd_unit)) return)))))))

  abbrev Given : List (Slot 0)
  Given = plain (λ κs. usize) ∷ plain (λ κs. RawPtr) ∷ []

  abbrev Passed : List (Slot 1)
  Passed = plain (λ κs. usize) ∷ []

  module _ {M : Type 1} (𝓤 : Ura M) (𝓛 : Logic 𝓤) where
    abbrev Asked : (κs : Lfts 1) → R.Denot → Denots (types_at Passed κs) → SProp 𝓤
    Asked κs old a = emp 𝓤

    abbrev Said : (κs : Lfts 1) → R.Denot → Denots (types_at Passed κs) → R.Denot → Outs κs Passed (yes, tt) → Q.Denot → SProp 𝓤
    Said κs old a new end made = fact 𝓤 (Promise old a.0 new made)

    abbrev Needed : (κs : Lfts 0) → Args (Export Given (yes, (yes, tt)) unit).signature κs → R.Denot → SProp 𝓤
    Needed κs a x = sep 𝓤 (sem 𝓛 (lies_at R full_share a.0 x)) (sem 𝓛 (room_at Q a.1.1.0))

    abbrev Ensured : (κs : Lfts 0) → Args (Export Given (yes, (yes, tt)) unit).signature κs → R.Denot → Unit {0} → AtExit (Export Given (yes, (yes, tt)) unit) κs → SProp 𝓤
    Ensured κs a x r end = ex 𝓤 (λ (new : R.Denot). ex 𝓤 (λ (made : Q.Denot). sep 𝓤 (sep 𝓤 (sem 𝓛 (lies_at R full_share a.0 new)) (sem 𝓛 (lies_at Q full_share a.1.1.0 made))) (fact 𝓤 (Promise x a.1.0 new made))))

    module _ (𝓜 : Model 𝓤 𝓛.H) (𝓡 : Running 𝓤 𝓛.H 𝓜) where
      pub hands : Passes 𝓛 𝓜 𝓡 body (Export Given (yes, (yes, tt)) unit) (asked 𝓛 R Given (yes, (yes, tt)) (stay_dropped _ yes, (stay_dropped _ yes, tt)) unit R.Denot Needed Ensured) (Called R one 0 by_mut Passed (yes, tt) Q) (calling 𝓤 R one by_mut 0 Passed (yes, tt) Q Asked Said)
      hands self k closed met =
          let 𝓣 = tables 𝓤 𝓛.H 𝓜 𝓡 𝓡.env in let goes = Goes-dropped 𝓛 0 (plain (λ _. RawPtr)) yes (λ κs x w. refl) in
          points_with 𝓛 R Given (yes, (yes, tt)) (stay_dropped _ yes, (stay_dropped _ yes, tt)) unit R.Denot Needed Ensured 𝓜 𝓡 (λ κs. (uint_vals w64, (rawptr_vals, tt))) (body k) (λ x. x) (λ κs a x. sem 𝓛 (room_at Q a.1.0)) (λ κs a x. id⊢ 𝓤 _)
          (Goes-dropped 𝓛 0 (plain (λ _. usize)) yes (λ κs x w. refl), (goes, tt)) (λ κs. (uint_Tells w64, (rawptr_Tells, tt))) self closed (λ κs qs bounds a x are b o.
          let y = λ (p : Ptr). binds 𝓛 R Given (yes, (yes, tt)) (stay_dropped _ yes, (stay_dropped _ yes, tt)) unit R.Denot Needed Ensured 𝓜 𝓡 (λ κs. (uint_vals w64, (rawptr_vals, tt))) (body k) κs qs bounds (a.0, (p, tt)) x (block_ptr b o) in
          let rest = sep 𝓤 (emp 𝓤) (sep 𝓤 (sem 𝓛 (usize.own_val a.0 (uint_vals w64 a.0))) (emp 𝓤)) in
          let says_of = λ (made : Q.Denot) (new : R.Denot). fact 𝓤 (Promise x a.0 new made) in
          let given = λ (new : R.Denot) (v : Val). ex 𝓤 (λ (made : Q.Denot). sep 𝓤 (sem 𝓛 (Q.own_val made (v ∷ []))) (says_of made new)) in
          qed 𝓛 (‵ (part_at R full_share x b o) ∷ (‵ ftrue ⊛ ‵ (usize.own_val a.0 (uint_vals w64 a.0)) ⊛ ‵ (RawPtr.own_val a.1.0 (rawptr_vals a.1.0)) ⊛ ‵ ftrue) ∷ ‵ (room_at Q a.1.0) ∷ []) ∵ move ! (1 ∷ []) $ split ! $ move ! (1 ∷ []) $ split ! $ keep ! (4 ∷ 3 ∷ 0 ∷ []) $
          in_a_block ! a.1.0 (λ p. room_at Q p) (id⊢ 𝓤 _) (λ d i e.
          regoal ! (λ p. prop (WpFn 𝓤 𝓛.H 𝓣.C 𝓣.Λ (body k) (vptr b o ∷ (uint_vals w64 a.0 ++ (rawptr_vals p ++ []))) ((walk_of 𝓛 (Export Given (yes, (yes, tt)) unit) (stay_dropped _ yes, (stay_dropped _ yes, (stay_dropped _ yes, tt))) (asked 𝓛 R Given (yes, (yes, tt)) (stay_dropped _ yes, (stay_dropped _ yes, tt)) unit R.Denot Needed Ensured)).post (y p)))) e refl $
          enter ! _ _ _ _ _ $ alloc_all ! (λ l. pass_all ! refl ((tt, tt), ((tt, record { fits = are.0.1 }), ((tt, tt), tt))) $
          sets ! (of_opd ! (get ! refl)) refl (tt, tt) $
          sets ! (addr ! (through ! refl (stop !))) refl (tt, tt) $
          sets ! (of_opd ! (get ! refl)) refl (tt, tt) $
          sets ! (addr ! (through ! refl (stop !))) refl (tt, tt) $
          nothing ! $ move ! (3 ∷ 0 ∷ []) $ join ! $ nothing ! $ join ! $ move ! (2 ∷ 0 ∷ []) $ join ! $
          -- [what lies at the first pointer, with what else the call takes; the room]
          calls_from ! (framed 𝓤 𝓛.H 𝓜 𝓣) (‵ (part_at R full_share x b o) ⊛ (‵ ftrue ⊛ ‵ (usize.own_val a.0 (uint_vals w64 a.0)) ⊛ ‵ ftrue)) (vptr b o ∷ uint_vals w64 a.0) (λ v. 𝓛.H.⇛ (stays_at 𝓤 𝓛 R by_mut (block_ptr b o) x (λ new. given new v)))
          (lent 𝓛 𝓜 𝓣 k R laws within one 0 tt x b o (vptr b o ∷ uint_vals w64 a.0) rest given by_mut Passed (yes, tt) Q tt Asked Said (λ α. (a.0, tt)) (λ α. (uint_vals w64 a.0, tt)) met (λ α. refl) (λ α. beside 𝓤 rest) (λ α made v new ws.
          qed 𝓛 ((‵ ftrue ⊛ ‵ (Q.own_val made (v ∷ []))) ∷ (‵ ftrue ⊛ ‵ ftrue) ∷ raw (says_of made new) ∷ []) ∵ split ! $ keep ! (1 ∷ 3 ∷ []) $
          show ! (λ (m : Q.Denot). sep 𝓤 (sem 𝓛 (Q.own_val m (v ∷ []))) (says_of m new)) made $ done !))
          (and_then ! (get ! refl) (and_then ! (get ! refl) (no_more !))) (λ v.
          use1 𝓛 (later (some (λ (new : R.Denot). ‵ (part_at R full_share new b o) ⊛ some (λ (made : Q.Denot). ‵ (Q.own_val made (v ∷ [])) ⊛ raw (says_of made new))))) (id⊢ 𝓤 _) $
          await ! tt $ pick ! (λ new. split ! $ move ! (1 ∷ []) $ pick ! (λ made. split ! $ move ! (1 ∷ []) $ heard ! _ (λ promised.
          peeks ! Q (Is Q) (shows 𝓛 Q) made (v ∷ []) (λ is. let typed = is_typed 𝓛 Q made_laws made v is in
          -- [what is given; what lies at the first pointer; the room]
          lands_as ! refl refl typed $
          assigns ! (of_opd ! (get ! refl)) (through ! refl (stop !)) (init ! 2 refl typed) $
          sets ! (of_opd ! (unit_lit !)) refl (tt, tt) $ returns ! (look_at ! 0 refl) $ free_all ! refl $
          move ! (2 ∷ 0 ∷ []) $ use2 𝓛 (‵ (part_at Q full_share made d i)) (part_in 𝓛 Q made_laws.one full_share made d i v) $
          suffices ! _ (ends_at 𝓛 (Export Given (yes, (yes, tt)) unit) (stay_dropped _ yes, (stay_dropped _ yes, (stay_dropped _ yes, tt))) (asked 𝓛 R Given (yes, (yes, tt)) (stay_dropped _ yes, (stay_dropped _ yes, tt)) unit R.Denot Needed Ensured) (y (block_ptr d i)) vunit tt (tt, (tt, (tt, tt))) (tt, (tt, (tt, tt)))) $
          feq_i ! _ (vunit ∷ []) _ refl $ nothing ! $ nothing ! $ join ! $ nothing ! $ join ! $ nothing ! $ join ! $ nothing ! $ group ! 3 $ frame ! $ move ! (1 ∷ 0 ∷ []) $
          show ! (λ (last : R.Denot). ex 𝓤 (λ (m : Q.Denot). sep 𝓤 (sep 𝓤 (sem 𝓛 (part_at R full_share last b o)) (sem 𝓛 (part_at Q full_share m d i))) (says_of m last))) new $
          show ! (λ (m : Q.Denot). sep 𝓤 (sep 𝓤 (sem 𝓛 (part_at R full_share new b o)) (sem 𝓛 (part_at Q full_share m d i))) (says_of m new)) made $
          says ! promised $ done !))))))))
