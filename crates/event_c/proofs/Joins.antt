-- Exports of the form `(at, from) -> i64`: what lies at the first pointer is lent for the call, what lies at the second is moved into it, and the call's number is the answer.
use Rattle.event_c.proofs.Steps.{ℤ, List, [], ◌∷◌, ◌++◌, refl, w64, Ura, full_share, SProp, assoc∗, ex_i, emp, ex, sep, id⊢, Lft, Incl, ftrue, fat, froom, erased, mut, ty_int, ty_ptr, ty_ref, Fn, Callee, place, deref, assign, seq, return, call, copy, rv_opd, addr_of, Val, vptr, Model, WpFn, fact, Running, tables, Logic, sem, ‵, raw, ◌⊛◌, some, later, prop, ◌$◌, ◌∵◌, !, qed, done, move, keep, show, use1, split, join, pick, await, regoal, suffices, group, enter, of_opd, load, look, addr, stop, no_more, and_then, returns, alloc_all, pass_all, free_all, look_at, get, through, sets, lands_as, One, i64, yes, part_out, Is, shows, lone, part_at, pointee, Laws, RattleType, Denots, Ptr, RawPtr, block_ptr, lies_at, room_at, in_a_block, rawptr_vals, rawptr_Tells, plain, Slot, Lfts, types_at, sint_Lawful, nothing, peeks, calls_from, Args, AtExit, Outs, lasts_of, framed, walk_of, stay_dropped, Goes-dropped, ends_at, is_typed}
use Rattle.event_c.proofs.Lent.{by_mut, Called, calling, stays_at, lent}
use Rattle.event_c.proofs.Points.{Export, Passes, asked, fn, binds, others, points_with}

-- R and Q are the types of what lies there, Needs what the call requires of both, and Promise what it promises of the first before, of the second, of the first after, and of the answer
module _ (R : RattleType) (laws : Laws R) (within : (κ : Lft) → Incl κ R.lives) (one : One R.mir) (Q : RattleType) (moved_laws : Laws Q) (Needs : R.Denot → Q.Denot → Type 0) (Promise : R.Denot → Q.Denot → R.Denot → ℤ → Type 0) where
  abbrev pub body : Callee → Fn
  body k = fn 0 2 (
      ty_int w64 ∷ ty_ptr ∷ ty_ptr ∷ ty_ref erased mut (pointee R.written) ∷ ty_ptr
      ∷ ty_ref erased mut (pointee R.written) ∷ ty_ptr ∷ lone Q.mir ∷ []
      )
      (seq (assign (place 4 []) (rv_opd (copy (place 1 []))))
      (seq (assign (place 3 []) (addr_of (place 4 (deref (lone R.mir) ∷ []))))
      (seq (assign (place 5 []) (addr_of (place 3 (deref (lone R.mir) ∷ []))))
      (seq (assign (place 6 []) (rv_opd (copy (place 2 []))))
      (seq (assign (place 7 []) (rv_opd (copy (place 6 (deref (lone Q.mir) ∷ [])))))
      (seq (call k (copy (place 5 []) ∷ copy (place 7 []) ∷ []) (place 0 [])) return))))))

  abbrev Given : List (Slot 0)
  Given = plain (λ κs. RawPtr) ∷ []

  abbrev Passed : List (Slot 1)
  Passed = plain (λ κs. Q) ∷ []

  module _ {M : Type 1} (𝓤 : Ura M) (𝓛 : Logic 𝓤) where
    abbrev Asked : (κs : Lfts 1) → R.Denot → Denots (types_at Passed κs) → SProp 𝓤
    Asked κs old a = fact 𝓤 (Needs old a.0)

    abbrev Said : (κs : Lfts 1) → R.Denot → Denots (types_at Passed κs) → R.Denot → Outs κs Passed (yes, tt) → ℤ → SProp 𝓤
    Said κs old a new end r = fact 𝓤 (Promise old a.0 new r)

    abbrev Needed : (κs : Lfts 0) → Args (Export Given (yes, tt) i64).signature κs → R.Denot × Q.Denot → SProp 𝓤
    Needed κs a x = sep 𝓤 (sep 𝓤 (sem 𝓛 (lies_at R full_share a.0 x.0)) (sem 𝓛 (lies_at Q full_share a.1.0 x.1))) (fact 𝓤 (Needs x.0 x.1))

    abbrev Ensured : (κs : Lfts 0) → Args (Export Given (yes, tt) i64).signature κs → R.Denot × Q.Denot → ℤ → AtExit (Export Given (yes, tt) i64) κs → SProp 𝓤
    Ensured κs a x r end = sep 𝓤 (ex 𝓤 (λ (new : R.Denot). sep 𝓤 (sem 𝓛 (lies_at R full_share a.0 new)) (fact 𝓤 (Promise x.0 x.1 new r)))) (sem 𝓛 (room_at Q a.1.0))

    module _ (𝓜 : Model 𝓤 𝓛.H) (𝓡 : Running 𝓤 𝓛.H 𝓜) where
      pub joins : Passes 𝓛 𝓜 𝓡 body (Export Given (yes, tt) i64) (asked 𝓛 R Given (yes, tt) (stay_dropped _ yes, tt) i64 (R.Denot × Q.Denot) Needed Ensured) (Called R one 0 by_mut Passed (yes, tt) i64) (calling 𝓤 R one by_mut 0 Passed (yes, tt) i64 Asked Said)
      joins self k closed met =
          let 𝓣 = tables 𝓤 𝓛.H 𝓜 𝓡 𝓡.env in
          points_with 𝓛 R Given (yes, tt) (stay_dropped _ yes, tt) i64 (R.Denot × Q.Denot) Needed Ensured 𝓜 𝓡 (λ κs. (rawptr_vals, tt)) (body k) (λ x. x.0)
          (λ κs a x. sep 𝓤 (sem 𝓛 (lies_at Q full_share a.0 x.1)) (fact 𝓤 (Needs x.0 x.1))) (λ κs a x. assoc∗ 𝓤 (sem 𝓛 (lies_at R full_share a.0 x.0)) (sem 𝓛 (lies_at Q full_share a.1.0 x.1)) (fact 𝓤 (Needs x.0 x.1)))
          (Goes-dropped 𝓛 0 (plain (λ _. RawPtr)) yes (λ κs x w. refl), tt) (λ κs. (rawptr_Tells, tt)) self closed (λ κs qs bounds a x are b o.
          let y = λ (p : Ptr). binds 𝓛 R Given (yes, tt) (stay_dropped _ yes, tt) i64 (R.Denot × Q.Denot) Needed Ensured 𝓜 𝓡 (λ κs. (rawptr_vals, tt)) (body k) κs qs bounds (p, tt) x (block_ptr b o) in
          let says_of = λ (r : ℤ) (new : R.Denot). fact 𝓤 (Promise x.0 x.1 new r) in
          let given = λ (new : R.Denot) (v : Val). ex 𝓤 (λ (r : ℤ). sep 𝓤 (sem 𝓛 (i64.own_val r (v ∷ []))) (says_of r new)) in
          qed 𝓛 (‵ (part_at R full_share x.0 b o) ∷ raw (others 𝓛 R Given (yes, tt) (stay_dropped _ yes, tt) i64 (R.Denot × Q.Denot) Needed Ensured 𝓜 𝓡 (λ κs. (rawptr_vals, tt)) (body k) κs qs a)
          ∷ ‵ (lies_at Q full_share a.0 x.1) ∷ raw (fact 𝓤 (Needs x.0 x.1)) ∷ []) ∵ keep ! (2 ∷ 0 ∷ 3 ∷ []) $
          in_a_block ! a.0 (λ p. lies_at Q full_share p x.1) (id⊢ 𝓤 _) (λ d i e.
          regoal ! (λ p. prop (WpFn 𝓤 𝓛.H 𝓣.C 𝓣.Λ (body k) (vptr b o ∷ (rawptr_vals p ++ []))
          ((walk_of 𝓛 (Export Given (yes, tt) i64) (stay_dropped _ yes, (stay_dropped _ yes, tt)) (asked 𝓛 R Given (yes, tt) (stay_dropped _ yes, tt) i64 (R.Denot × Q.Denot) Needed Ensured)).post (y p)))) e refl $
          use1 𝓛 (some (λ (v : Val). ‵ (fat full_share (lone Q.mir) d i v) ⊛ ‵ (Q.own_val x.1 (v ∷ [])))) (part_out 𝓛 Q moved_laws.one full_share x.1 d i) $ pick ! (λ w. split ! $
          move ! (1 ∷ []) $ peeks ! Q (Is Q) (shows 𝓛 Q) x.1 (w ∷ []) (λ is. let typed = is_typed 𝓛 Q moved_laws x.1 w is in
          let rest = sep 𝓤 (sep 𝓤 (emp 𝓤) (sep 𝓤 (sem 𝓛 (Q.own_val x.1 (w ∷ []))) (emp 𝓤))) (fact 𝓤 (Needs x.0 x.1)) in
          enter ! _ _ _ _ _ $ alloc_all ! (λ l. pass_all ! refl ((tt, tt), ((tt, tt), tt)) $
          -- [the value that is moved; its cell; what lies at the first pointer; what the call requires]
          sets ! (of_opd ! (get ! refl)) refl (tt, tt) $
          sets ! (addr ! (through ! refl (stop !))) refl (tt, tt) $
          sets ! (addr ! (through ! refl (stop !))) refl (tt, tt) $
          sets ! (of_opd ! (get ! refl)) refl (tt, tt) $
          sets ! (of_opd ! (load ! (through ! refl (stop !)) (look ! 1 refl))) refl typed $
          nothing ! $ move ! (1 ∷ 0 ∷ []) $ join ! $ nothing ! $ join ! $ move ! (0 ∷ 3 ∷ []) $ join ! $ move ! (2 ∷ 0 ∷ []) $ join ! $
          calls_from ! (framed 𝓤 𝓛.H 𝓜 𝓣) (‵ (part_at R full_share x.0 b o) ⊛ (‵ ftrue ⊛ ‵ (Q.own_val x.1 (w ∷ [])) ⊛ ‵ ftrue) ⊛ raw (fact 𝓤 (Needs x.0 x.1))) (vptr b o ∷ w ∷ []) (λ v. 𝓛.H.⇛ (stays_at 𝓤 𝓛 R by_mut (block_ptr b o) x.0 (λ new. given new v)))
          (lent 𝓛 𝓜 𝓣 k R laws within one 0 tt x.0 b o (vptr b o ∷ w ∷ []) rest given by_mut Passed (yes, tt) i64 tt Asked Said (λ α. (x.1, tt)) (λ α. (w ∷ [], tt)) met (λ α. refl) (λ α. id⊢ 𝓤 rest) (λ α r v new ws.
          qed 𝓛 ((‵ ftrue ⊛ ‵ (i64.own_val r (v ∷ []))) ∷ ‵ (lasts_of (α ∷ [], tt) Passed (yes, tt) (x.1, tt) ws) ∷ raw (says_of r new) ∷ []) ∵ split ! $ keep ! (1 ∷ 3 ∷ []) $
          show ! (λ (s : ℤ). sep 𝓤 (sem 𝓛 (i64.own_val s (v ∷ []))) (says_of s new)) r $ done !))
          (and_then ! (get ! refl) (and_then ! (get ! refl) (no_more !))) (λ v.
          use1 𝓛 (later (some (λ (new : R.Denot). ‵ (part_at R full_share new b o) ⊛ some (λ (r : ℤ). ‵ (i64.own_val r (v ∷ [])) ⊛ raw (says_of r new))))) (id⊢ 𝓤 _) $
          await ! tt $ pick ! (λ new. split ! $ move ! (1 ∷ []) $ pick ! (λ r. split ! $ peeks ! i64 (Is i64) (shows 𝓛 i64) r (v ∷ []) (λ is_answer.
          lands_as ! refl refl ((sint_Lawful 𝓛 w64).typed r _ is_answer).0 $ returns ! (look_at ! 0 refl) $ free_all ! refl $
          -- [the answer; what is promised; what lies at the first pointer; the moved value's cell]
          move ! (3 ∷ []) $ use1 𝓛 (‵ (froom (lone Q.mir) d i)) (𝓛.laws.at_room (lone Q.mir) d i w) $ move ! (3 ∷ 2 ∷ []) $ join ! $
          let Ends : R.Denot → SProp 𝓤 = λ last. sep 𝓤 (sem 𝓛 (part_at R full_share last b o)) (says_of r last) in
          use1 𝓛 (raw (ex 𝓤 Ends)) (ex_i 𝓤 Ends new) $ move ! (2 ∷ 0 ∷ []) $
          suffices ! _ (ends_at 𝓛 (Export Given (yes, tt) i64) (stay_dropped _ yes, (stay_dropped _ yes, tt)) (asked 𝓛 R Given (yes, tt) (stay_dropped _ yes, tt) i64 (R.Denot × Q.Denot) Needed Ensured) (y (block_ptr d i)) v r (tt, (tt, tt)) (tt, (tt, tt))) $
          nothing ! $ nothing ! $ join ! $ nothing ! $ join ! $ nothing ! $ group ! 3 $ done !)))))))))
