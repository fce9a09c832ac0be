-- Exports of the form `(at, to)`: what lies at the first pointer is lent for the call, and what the call gives is written to the second.
use Rattle.event_c.proofs.Steps.{List, [], ◌∷◌, ◌++◌, refl, Ura, full_share, SProp, emp, ex, sep, id⊢, Lft, Incl, ftrue, erased, mut, ty_ptr, ty_ref, ty_unit, Fn, Callee, place, deref, assign, seq, return, call, copy, opd_unit, rv_opd, addr_of, Val, vptr, vunit, Model, WpFn, fact, Running, tables, Logic, sem, ‵, raw, ◌⊛◌, some, later, prop, ◌$◌, ◌∵◌, !, qed, done, move, keep, show, use1, use2, split, join, feq_i, pick, await, regoal, suffices, frame, group, enter, of_opd, unit_lit, init, assigns, addr, stop, no_more, and_then, returns, alloc_all, pass_all, free_all, look_at, get, through, sets, lands_as, One, unit, yes, part_in, Is, shows, lone, part_at, pointee, Laws, RattleType, Denots, Ptr, RawPtr, block_ptr, lies_at, room_at, in_a_block, rawptr_vals, rawptr_Tells, plain, Slot, Lfts, types_at, nothing, heard, peeks, calls_from, Args, AtExit, Outs, framed, walk_of, says, stay_dropped, Goes-dropped, ends_at, is_typed}
use Rattle.event_c.proofs.Lent.{by_mut, Called, calling, stays_at, beside, lent}
use Rattle.event_c.proofs.Points.{Export, Passes, asked, fn, binds, others, points_with}

-- R is the type of what lies there, Q the type of what is given, and Promise what the call promises of the first before and after, and of what is given
module _ (R : RattleType) (laws : Laws R) (within : (κ : Lft) → Incl κ R.lives) (one : One R.mir) (Q : RattleType) (made_laws : Laws Q) (Promise : R.Denot → R.Denot → Q.Denot → Type 0) where
  abbrev pub body : Callee → Fn
  body k = fn 0 2 (
      ty_unit ∷ ty_ptr ∷ ty_ptr ∷ ty_ref erased mut (pointee R.written) ∷ ty_ptr
      ∷ ty_ptr ∷ lone Q.mir ∷ ty_ref erased mut (pointee R.written) ∷ []
      )
      (seq (assign (place 4 []) (rv_opd (copy (place 1 []))))
      (seq (assign (place 3 []) (addr_of (place 4 (deref (lone R.mir) ∷ []))))
      (seq (assign (place 5 []) (rv_opd (copy (place 2 []))))
      (seq (assign (place 7 []) (addr_of (place 3 (deref (lone R.mir) ∷ []))))
      (seq (call k (copy (place 7 []) ∷ []) (place 6 []))
      (seq (assign (place 5 (deref (lone Q.mir) ∷ [])) (rv_opd (copy (place 6 []))))
      (seq (assign (place 0 []) (rv_opd opd_unit)) return)))))))

  abbrev Given : List (Slot 0)
  Given = plain (λ κs. RawPtr) ∷ []

  abbrev Passed : List (Slot 1)
  Passed = []

  module _ {M : Type 1} (𝓤 : Ura M) (𝓛 : Logic 𝓤) where
    abbrev Asked : (κs : Lfts 1) → R.Denot → Denots (types_at Passed κs) → SProp 𝓤
    Asked κs old a = emp 𝓤

    abbrev Said : (κs : Lfts 1) → R.Denot → Denots (types_at Passed κs) → R.Denot → Outs κs Passed tt → Q.Denot → SProp 𝓤
    Said κs old a new end made = fact 𝓤 (Promise old new made)

    abbrev Needed : (κs : Lfts 0) → Args (Export Given (yes, tt) unit).signature κs → R.Denot → SProp 𝓤
    Needed κs a x = sep 𝓤 (sem 𝓛 (lies_at R full_share a.0 x)) (sem 𝓛 (room_at Q a.1.0))

    abbrev Ensured : (κs : Lfts 0) → Args (Export Given (yes, tt) unit).signature κs → R.Denot → Unit {0} → AtExit (Export Given (yes, tt) unit) κs → SProp 𝓤
    Ensured κs a x r end = ex 𝓤 (λ (new : R.Denot). ex 𝓤 (λ (made : Q.Denot). sep 𝓤 (sep 𝓤 (sem 𝓛 (lies_at R full_share a.0 new)) (sem 𝓛 (lies_at Q full_share a.1.0 made))) (fact 𝓤 (Promise x new made))))

    module _ (𝓜 : Model 𝓤 𝓛.H) (𝓡 : Running 𝓤 𝓛.H 𝓜) where
      pub lends : Passes 𝓛 𝓜 𝓡 body (Export Given (yes, tt) unit) (asked 𝓛 R Given (yes, tt) (stay_dropped _ yes, tt) unit R.Denot Needed Ensured) (Called R one 0 by_mut Passed tt Q) (calling 𝓤 R one by_mut 0 Passed tt Q Asked Said)
      lends self k closed met =
          let 𝓣 = tables 𝓤 𝓛.H 𝓜 𝓡 𝓡.env in let goes = Goes-dropped 𝓛 0 (plain (λ _. RawPtr)) yes (λ κs x w. refl) in
          points_with 𝓛 R Given (yes, tt) (stay_dropped _ yes, tt) unit R.Denot Needed Ensured 𝓜 𝓡 (λ κs. (rawptr_vals, tt)) (body k) (λ x. x) (λ κs a x. sem 𝓛 (room_at Q a.0)) (λ κs a x. id⊢ 𝓤 _)
          (goes, tt) (λ κs. (rawptr_Tells, tt)) self closed (λ κs qs bounds a x are b o.
          let y = λ (p : Ptr). binds 𝓛 R Given (yes, tt) (stay_dropped _ yes, tt) unit R.Denot Needed Ensured 𝓜 𝓡 (λ κs. (rawptr_vals, tt)) (body k) κs qs bounds (p, tt) x (block_ptr b o) in
          let rest = sep 𝓤 (emp 𝓤) (emp 𝓤) in
          let says_of = λ (made : Q.Denot) (new : R.Denot). fact 𝓤 (Promise x new made) in
          let given = λ (new : R.Denot) (v : Val). ex 𝓤 (λ (made : Q.Denot). sep 𝓤 (sem 𝓛 (Q.own_val made (v ∷ []))) (says_of made new)) in
          qed 𝓛 (‵ (part_at R full_share x b o) ∷ raw (others 𝓛 R Given (yes, tt) (stay_dropped _ yes, tt) unit R.Denot Needed Ensured 𝓜 𝓡 (λ κs. (rawptr_vals, tt)) (body k) κs qs a) ∷ ‵ (room_at Q a.0) ∷ []) ∵ keep ! (2 ∷ 0 ∷ []) $
          in_a_block ! a.0 (λ p. room_at Q p) (id⊢ 𝓤 _) (λ d i e.
          regoal ! (λ p. prop (WpFn 𝓤 𝓛.H 𝓣.C 𝓣.Λ (body k) (vptr b o ∷ (rawptr_vals p ++ [])) ((walk_of 𝓛 (Export Given (yes, tt) unit) (stay_dropped _ yes, (stay_dropped _ yes, tt)) (asked 𝓛 R Given (yes, tt) (stay_dropped _ yes, tt) unit R.Denot Needed Ensured)).post (y p)))) e refl $
          enter ! _ _ _ _ _ $ alloc_all ! (λ l. pass_all ! refl ((tt, tt), ((tt, tt), tt)) $
          sets ! (of_opd ! (get ! refl)) refl (tt, tt) $
          sets ! (addr ! (through ! refl (stop !))) refl (tt, tt) $
          sets ! (of_opd ! (get ! refl)) refl (tt, tt) $
          sets ! (addr ! (through ! refl (stop !))) refl (tt, tt) $
          nothing ! $ nothing ! $ join ! $ move ! (2 ∷ 0 ∷ []) $ join ! $
          -- [what lies at the first pointer, with what else the call takes; the room]
          calls_from ! (framed 𝓤 𝓛.H 𝓜 𝓣) (‵ (part_at R full_share x b o) ⊛ (‵ ftrue ⊛ ‵ ftrue)) (vptr b o ∷ []) (λ v. 𝓛.H.⇛ (stays_at 𝓤 𝓛 R by_mut (block_ptr b o) x (λ new. given new v)))
          (lent 𝓛 𝓜 𝓣 k R laws within one 0 tt x b o (vptr b o ∷ []) rest given by_mut Passed tt Q tt Asked Said (λ α. tt) (λ α. tt) met (λ α. refl) (λ α. beside 𝓤 rest) (λ α made v new ws.
          qed 𝓛 ((‵ ftrue ⊛ ‵ (Q.own_val made (v ∷ []))) ∷ ‵ ftrue ∷ raw (says_of made new) ∷ []) ∵ split ! $ keep ! (1 ∷ 3 ∷ []) $
          show ! (λ (m : Q.Denot). sep 𝓤 (sem 𝓛 (Q.own_val m (v ∷ []))) (says_of m new)) made $ done !))
          (and_then ! (get ! refl) (no_more !)) (λ v.
          use1 𝓛 (later (some (λ (new : R.Denot). ‵ (part_at R full_share new b o) ⊛ some (λ (made : Q.Denot). ‵ (Q.own_val made (v ∷ [])) ⊛ raw (says_of made new))))) (id⊢ 𝓤 _) $
          await ! tt $ pick ! (λ new. split ! $ move ! (1 ∷ []) $ pick ! (λ made. split ! $ move ! (1 ∷ []) $ heard ! _ (λ promised.
          peeks ! Q (Is Q) (shows 𝓛 Q) made (v ∷ []) (λ is. let typed = is_typed 𝓛 Q made_laws made v is in
          -- [what is given; what lies at the first pointer; the room]
          lands_as ! refl refl typed $
          assigns ! (of_opd ! (get ! refl)) (through ! refl (stop !)) (init ! 2 refl typed) $
          sets ! (of_opd ! (unit_lit !)) refl (tt, tt) $ returns ! (look_at ! 0 refl) $ free_all ! refl $
          move ! (2 ∷ 0 ∷ []) $ use2 𝓛 (‵ (part_at Q full_share made d i)) (part_in 𝓛 Q made_laws.one full_share made d i v) $
          suffices ! _ (ends_at 𝓛 (Export Given (yes, tt) unit) (stay_dropped _ yes, (stay_dropped _ yes, tt)) (asked 𝓛 R Given (yes, tt) (stay_dropped _ yes, tt) unit R.Denot Needed Ensured) (y (block_ptr d i)) vunit tt (tt, (tt, tt)) (tt, (tt, tt))) $
          feq_i ! _ (vunit ∷ []) _ refl $ nothing ! $ nothing ! $ join ! $ nothing ! $ join ! $ nothing ! $ group ! 3 $ frame ! $ move ! (1 ∷ 0 ∷ []) $
          show ! (λ (last : R.Denot). ex 𝓤 (λ (m : Q.Denot). sep 𝓤 (sep 𝓤 (sem 𝓛 (part_at R full_share last b o)) (sem 𝓛 (part_at Q full_share m d i))) (says_of m last))) new $
          show ! (λ (m : Q.Denot). sep 𝓤 (sep 𝓤 (sem 𝓛 (part_at R full_share new b o)) (sem 𝓛 (part_at Q full_share m d i))) (says_of m new)) made $
          says ! promised $ done !))))))))
