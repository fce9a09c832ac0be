-- Exports of the form `(alloc, at, &config)`: what the call makes of the configuration is written to the pointer.
use Rattle.std.specs.contracts.alloc.Global.{the_row as Heap}
use Rattle.std.proofs.alloc.Global.TheLaws.{the_row_laws as heap_laws}
use Rattle.event_c.proofs.Steps.{List, [], ◌∷◌, ◌++◌, refl, sym, ap, ◌∙◌, proved_at, Ura, full_share, emp, ex, sep, id⊢, ftrue, flft, named, imm, ty_ptr, ty_ref, ty_unit, Fn, Callee, place, deref, assign, seq, return, call, copy, opd_unit, rv_opd, Val, vunit, Model, WpFn, fact, Running, tables, Logic, sem, ‵, raw, ◌⊛◌, some, later, prop, ◌$◌, ◌∵◌, !, qed, done, move, keep, drop, show, use1, use2, split, join, feq_i, pick, await, rewrite, regoal, suffices, frame, group, enter, of_opd, unit_lit, init, assigns, stop, no_more, and_then, returns, alloc_all, pass_all, free_all, look_at, get, through, sets, lands_as, One, RefOf, unit, yes, rest, part_in, Is, shows, lone, part_at, pointee, Laws, RattleType, Ptr, RawPtr, lies_at, room_at, in_a_block, rawptr_vals, ShrRef, shr_vals, plain, nothing, heard, peeks, calls_at, Ended, Clauses, closing, lasts, Lasts, triple_of, framed, Stays, walk_of, says, stay_dropped, Goes-dropped, ends_at, is_typed, one_value}
use Rattle.event_c.proofs.Points.{Passes, fn}

-- R is the type of what is made, C that of the configuration, and Promise what the call promises of both
module _ (R : RattleType) (laws : Laws R) (C : RattleType) (one : One C.mir) (Promise : R.Denot → C.Denot → Type 0) where
  abbrev pub Export : Ended
  Export = record { signature = record { lifetimes = 1; outlives = []; params = plain (λ κs. Heap) ∷ plain (λ κs. RawPtr) ∷ RefOf (0 ∷ []) tt (plain (λ κs. C)) (λ κs. one) ∷ []; result = plain (λ κs. unit) }; kept = (yes, (yes, (yes, tt))) }

  abbrev pub Called : Ended
  Called = record { signature = record { lifetimes = 1; outlives = []; params = plain (λ κs. Heap) ∷ RefOf (0 ∷ []) tt (plain (λ κs. C)) (λ κs. one) ∷ []; result = plain (λ κs. R) }; kept = (yes, (yes, tt)) }

  abbrev pub body : Callee → Fn
  body k = fn 1 3 (ty_unit ∷ lone Heap.mir ∷ ty_ptr ∷ ty_ref (named 0) imm (pointee C.written) ∷ ty_ptr ∷ lone R.mir ∷ [])
      (seq (assign (place 4 []) (rv_opd (copy (place 2 []))))
      (seq (call k (copy (place 1 []) ∷ copy (place 3 []) ∷ []) (place 5 []))
      (seq (assign (place 4 (deref (lone R.mir) ∷ [])) (rv_opd (copy (place 5 []))))
      (seq (assign (place 0 []) (rv_opd opd_unit)) return))))

  module _ {M : Type 1} (𝓤 : Ura M) (𝓛 : Logic 𝓤) where
    abbrev pub exported : Clauses 𝓤 Export
    exported κs a = record {
      ghost = Unit {0};
      requires = λ n. sem 𝓛 (room_at R a.1.0);
      ensures = λ n r end. ex 𝓤 (λ (new : R.Denot). sep 𝓤 (sem 𝓛 (lies_at R full_share a.1.0 new)) (fact 𝓤 (Promise new a.1.1.0.now)));
    }

    abbrev pub called : Clauses 𝓤 Called
    called κs a = record { ghost = Unit {0}; requires = λ _. emp 𝓤; ensures = λ _ made end. fact 𝓤 (Promise made a.1.0.now) }

    abbrev stayed : Stays Export.signature.params Export.kept
    stayed = (stay_dropped _ yes, (stay_dropped _ yes, (stay_dropped _ yes, tt)))

    module _ (𝓜 : Model 𝓤 𝓛.H) (𝓡 : Running 𝓤 𝓛.H 𝓜) where
      pub makes : Passes 𝓛 𝓜 𝓡 body Export exported Called called
      makes self k closed met =
          let 𝓣 = tables 𝓤 𝓛.H 𝓜 𝓡 𝓡.env in let W = walk_of 𝓛 Export stayed exported in
          let G = triple_of 𝓛 Called.signature (closing 𝓛 Called called) in
          proved_at 𝓛 Export stayed exported 𝓜 𝓡 (
            Goes-dropped 𝓛 1 (plain (λ _. Heap)) yes (λ κs x w. refl),
            (
              Goes-dropped 𝓛 1 (plain (λ _. RawPtr)) yes (λ κs x w. refl),
              (Goes-dropped 𝓛 1 (RefOf (0 ∷ []) tt (plain (λ κs. C)) (λ κs. one)) yes (λ κs x w. refl), tt),
            ),
          )
          self (body k) closed (λ y are.
          let κ = y.0.0.0 in let q = y.0.1.0 in let a = y.0.3 in let vss = y.0.4 in let alloc = a.0 in let config = a.1.1.0 in
          let got = one_value 𝓛 Heap heap_laws alloc vss.0 are.0 in let w = got.0 in
          qed 𝓛 (((‵ (flft κ q) ⊛ ‵ ftrue) ⊛ ‵ (Heap.own_val alloc vss.0) ⊛ ‵ (RawPtr.own_val a.1.0 vss.1.0) ⊛ ‵ ((ShrRef (named 0) κ C).own_val config vss.1.1.0) ⊛ ‵ ftrue) ∷ ‵ (room_at R a.1.0) ∷ []) ∵
          split ! $ split ! $ move ! (2 ∷ []) $ split ! $ move ! (1 ∷ []) $ split ! $ move ! (1 ∷ []) $ split ! $ keep ! (6 ∷ 0 ∷ 3 ∷ 4 ∷ []) $
          -- [the room; the configuration; the allocator; the configuration's token]
          in_a_block ! a.1.0 (λ p. room_at R p) (id⊢ 𝓤 _) (λ b o e.
          rewrite ! 2 (λ (us : List Val). ‵ (Heap.own_val alloc us)) got.1 refl $ rewrite ! 1 (λ (us : List Val). ‵ ((ShrRef (named 0) κ C).own_val config us)) are.1.1.0.0 refl $
          regoal ! (λ (us : List Val). prop (WpFn 𝓤 𝓛.H 𝓣.C 𝓣.Λ (body k) us (W.post y))) (λ i. got.1 i ++ ((are.1.0 ∙ ap rawptr_vals e) i ++ (are.1.1.0.0 i ++ []))) refl $
          enter ! _ _ _ _ _ $ alloc_all ! (λ l. pass_all ! refl (got.2, ((tt, tt), ((tt, tt), tt))) $
          sets ! (of_opd ! (get ! refl)) refl (tt, tt) $
          nothing ! $ move ! (2 ∷ 0 ∷ []) $ join ! $ move ! (2 ∷ 0 ∷ []) $ join ! $ nothing ! $ move ! (3 ∷ 0 ∷ []) $ join ! $ join ! $ nothing ! $ move ! (1 ∷ 0 ∷ []) $
          let z : G.Ghost = ((y.0.0, y.0.1, tt, (alloc, (config, tt)), (w ∷ [], (shr_vals config, tt))), tt) in
          use2 𝓛 (raw (G.pre z)) (id⊢ 𝓤 _) $
          calls_at ! (framed 𝓤 𝓛.H 𝓜 𝓣) G met z (and_then ! (get ! refl) (and_then ! (get ! refl) (no_more !))) (λ v.
          use1 𝓛 (later (some (λ (made : R.Denot). ((‵ (flft κ q) ⊛ ‵ ftrue) ⊛ ‵ (R.own_val made (v ∷ []))) ⊛
          some (λ (ws : Lasts Called z.0.0 z.0.3). ‵ (lasts Called z.0.0 z.0.3 ws) ⊛ raw (fact 𝓤 (Promise made config.now)))))) (id⊢ 𝓤 _) $
          await ! tt $ pick ! (λ made. split ! $ split ! $ move ! (2 ∷ []) $ pick ! (λ ws. split ! $ drop ! $ heard ! _ (λ promised.
          move ! (1 ∷ []) $ peeks ! R (Is R) (shows 𝓛 R) made (v ∷ []) (λ is. let typed = is_typed 𝓛 R laws made v is in
          -- [what is made; the token; the room]
          lands_as ! refl refl typed $
          assigns ! (of_opd ! (get ! refl)) (through ! refl (stop !)) (init ! 2 refl typed) $
          sets ! (of_opd ! (unit_lit !)) refl (tt, tt) $ returns ! (look_at ! 0 refl) $ free_all ! refl $
          move ! (2 ∷ 0 ∷ []) $ use2 𝓛 (‵ (part_at R full_share made b o)) (part_in 𝓛 R laws.one full_share made b o v) $
          rewrite ! 0 (λ (p : Ptr). ‵ (lies_at R full_share p made)) (sym e) refl $
          suffices ! _ (ends_at 𝓛 Export stayed exported y vunit tt (rest (Heap.exit yes) alloc, (tt, (tt, tt))) (tt, (tt, (tt, tt)))) $
          feq_i ! _ (vunit ∷ []) _ refl $ nothing ! $ nothing ! $ join ! $ nothing ! $ join ! $ nothing ! $ join ! $ move ! (3 ∷ 0 ∷ []) $ group ! 3 $ frame ! $
          show ! (λ (new : R.Denot). sep 𝓤 (sem 𝓛 (lies_at R full_share a.1.0 new)) (fact 𝓤 (Promise new config.now))) made $ says ! promised $ done !))))))))
