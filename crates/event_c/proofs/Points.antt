-- Exports of the form `(at, ..)`: a walk that begins at what lies at a pointer, with the other arguments, is one of the export.
use Rattle.event_c.proofs.Steps.{ℕ, List, [], ◌∷◌, ◌++◌, refl, proved, Ura, full_share, SProp, emp, ent, via, mono_r, fst∗, sep, id⊢, Fn, Callee, Code, Ty, Local, local, value_local, vptr, Model, WpFn, Closed, Running, tables, Logic, sem, ‵, raw, ◌⊛◌, prop, ◌$◌, ◌∵◌, !, qed, by, use1, join, move, drop, split, regoal, part_at, RattleType, Denots, flat, owns, Ptr, RawPtr, block_ptr, lies_at, in_a_block, rawptr_vals, rawptr_Tells, Slot, plain, types_at, Lfts, Shares, toks, AllOutlive, Are, Ises, Spells, Tellss, valss, Kepts, Ended, Clauses, closing, AtExit, Args, Triple, triple_of, Meets, AllGo, Stays, walk_of, stay_dropped, Goes-dropped, yes}
use Rattle.event_c.proofs.Lent.{beside}

-- a function's code, by its lifetimes, its parameters, the types of its locals and its body
abbrev values : List Ty → List Local
values [] = []
values (τ ∷ τs) = local τ value_local ∷ values τs

abbrev pub fn : ℕ → ℕ → List Ty → Code → Fn
fn lifetimes params τs code = record { lifetimes = lifetimes; outlives = []; ty_params = []; givens = 0; params = params; locals = values τs; body = code }

-- such a function meets its contract where the one that it calls does
abbrev pub Passes : {M : Type 1} {𝓤 : Ura M} (𝓛 : Logic 𝓤) (𝓜 : Model 𝓤 𝓛.H) → Running 𝓤 𝓛.H 𝓜 → (Callee → Fn) → (E : Ended) → Clauses 𝓤 E → (C : Ended) → Clauses 𝓤 C → Type 2
Passes {𝓤 = 𝓤} 𝓛 𝓜 𝓡 body E promised C called =
    (self k : Callee) → Closed 𝓤 𝓛.H (tables 𝓤 𝓛.H 𝓜 𝓡 𝓡.env).C (tables 𝓤 𝓛.H 𝓜 𝓡 𝓡.env).Λ self (body k)
    → Triple 𝓤 ((tables 𝓤 𝓛.H 𝓜 𝓡 𝓡.env).C k) (triple_of 𝓛 C.signature (closing 𝓛 C called)) → Meets 𝓛 E.signature ((tables 𝓤 𝓛.H 𝓜 𝓡 𝓡.env).C self) (closing 𝓛 E promised)

module _ {n : ℕ} (Ys : List (Slot n)) (ks : Kepts Ys) (Q : RattleType) where
  abbrev pub Export : Ended
  Export = record { signature = record { lifetimes = n; outlives = []; params = plain (λ κs. RawPtr) ∷ Ys; result = plain (λ κs. Q) }; kept = (yes, ks) }

module _ {M : Type 1} {𝓤 : Ura M} (𝓛 : Logic 𝓤) (R : RattleType) {n : ℕ} (Ys : List (Slot n)) (ks : Kepts Ys) (hs : Stays Ys ks) (Q : RattleType) (G : Type 0)
    (requires : (κs : Lfts n) → Args (Export Ys ks Q).signature κs → G → SProp 𝓤) (ensures : (κs : Lfts n) → Args (Export Ys ks Q).signature κs → G → Q.Denot → AtExit (Export Ys ks Q) κs → SProp 𝓤) where
  abbrev pub asked : Clauses 𝓤 (Export Ys ks Q)
  asked κs a = record { ghost = G; requires = requires κs a; ensures = ensures κs a }

  abbrev stayed : Stays (Export Ys ks Q).signature.params (Export Ys ks Q).kept
  stayed = (stay_dropped _ yes, hs)

  module _ (𝓜 : Model 𝓤 𝓛.H) (𝓡 : Running 𝓤 𝓛.H 𝓜) (sp : (κs : Lfts n) → Spells (types_at Ys κs)) (f : Fn) where
    -- what the export's triple binds, at the pointer p
    abbrev pub binds : (κs : Lfts n) → Shares n → AllOutlive n [] κs → (a : Denots (types_at Ys κs)) → G → Ptr → (walk_of 𝓛 (Export Ys ks Q) stayed asked).Ghost
    binds κs qs bounds a g p = ((κs, qs, bounds, (p, a), (rawptr_vals p, valss (types_at Ys κs) (sp κs) a)), g)

    -- what the other arguments own
    abbrev pub others : (κs : Lfts n) → Shares n → Denots (types_at Ys κs) → SProp 𝓤
    others κs qs a = sep 𝓤 (toks 𝓛 n κs qs) (sem 𝓛 (owns (types_at Ys κs) a (valss (types_at Ys κs) (sp κs) a)))

    -- where it asks, of what it binds, that a value lies at the pointer, and more
    module _ (at : G → R.Denot) (more : (κs : Lfts n) → Denots (types_at Ys κs) → G → SProp 𝓤)
        (opens : (κs : Lfts n) (a : Args (Export Ys ks Q).signature κs) (g : G) → ent 𝓤 (requires κs a g) (sep 𝓤 (sem 𝓛 (lies_at R full_share a.0 (at g))) (more κs a.1 g))) where
      pub points_with : AllGo 𝓛 n Ys ks hs → ((κs : Lfts n) → Tellss (types_at Ys κs) (Ises (types_at Ys κs)) (sp κs)) → (self : Callee)
          → Closed 𝓤 𝓛.H (tables 𝓤 𝓛.H 𝓜 𝓡 𝓡.env).C (tables 𝓤 𝓛.H 𝓜 𝓡 𝓡.env).Λ self f
          → ((κs : Lfts n) (qs : Shares n) (bounds : AllOutlive n [] κs) (a : Denots (types_at Ys κs)) (g : G) → Are (types_at Ys κs) (Ises (types_at Ys κs)) a (valss (types_at Ys κs) (sp κs) a) → (b o : ℕ)
          → ent 𝓤 (sep 𝓤 (sem 𝓛 (part_at R full_share (at g) b o)) (sep 𝓤 (others κs qs a) (more κs a g)))
          (WpFn 𝓤 𝓛.H (tables 𝓤 𝓛.H 𝓜 𝓡 𝓡.env).C (tables 𝓤 𝓛.H 𝓜 𝓡 𝓡.env).Λ f (vptr b o ∷ flat (types_at Ys κs) (valss (types_at Ys κs) (sp κs) a))
          ((walk_of 𝓛 (Export Ys ks Q) stayed asked).post (binds κs qs bounds a g (block_ptr b o)))))
          → Meets 𝓛 (Export Ys ks Q).signature ((tables 𝓤 𝓛.H 𝓜 𝓡 𝓡.env).C self) (closing 𝓛 (Export Ys ks Q) asked)
      points_with go tells self closed walk =
          let 𝓣 = tables 𝓤 𝓛.H 𝓜 𝓡 𝓡.env in let W = walk_of 𝓛 (Export Ys ks Q) stayed asked in
          proved 𝓛 (Export Ys ks Q) stayed asked 𝓜 𝓡 (Goes-dropped 𝓛 n (plain (λ _. RawPtr)) yes (λ κs x w. refl), go)
          self f closed (λ κs. (rawptr_vals, sp κs)) (λ κs. (rawptr_Tells, tells κs)) (λ κs qs bounds a g are.
          let us = valss (types_at Ys κs) (sp κs) a.1 in
          qed 𝓛 ((raw (toks 𝓛 n κs qs) ⊛ ‵ (RawPtr.own_val a.0 (rawptr_vals a.0)) ⊛ ‵ (owns (types_at Ys κs) a.1 us)) ∷ raw (requires κs a g) ∷ []) ∵
          split ! $ move ! (1 ∷ []) $ split ! $ drop ! $ move ! (1 ∷ 0 ∷ []) $ join ! $ move ! (1 ∷ []) $
          use1 𝓛 (‵ (lies_at R full_share a.0 (at g)) ⊛ raw (more κs a.1 g)) (opens κs a g) $ split ! $ move ! (0 ∷ 2 ∷ []) $
          in_a_block ! a.0 (λ p. lies_at R full_share p (at g)) (id⊢ 𝓤 _) (λ b o e.
          regoal ! (λ p. prop (WpFn 𝓤 𝓛.H 𝓣.C 𝓣.Λ f (rawptr_vals p ++ flat (types_at Ys κs) us) (W.post (binds κs qs bounds a.1 g p)))) e refl $
          by ! (walk κs qs bounds a.1 g are.1 b o)))

module _ {M : Type 1} {𝓤 : Ura M} (𝓛 : Logic 𝓤) (R : RattleType) {n : ℕ} (Ys : List (Slot n)) (ks : Kepts Ys) (hs : Stays Ys ks) (Q : RattleType)
    (ensures : (κs : Lfts n) → Args (Export Ys ks Q).signature κs → R.Denot → Q.Denot → AtExit (Export Ys ks Q) κs → SProp 𝓤) where
  -- that a value lies at the pointer is all that it asks
  abbrev lies : (κs : Lfts n) → Args (Export Ys ks Q).signature κs → R.Denot → SProp 𝓤
  lies κs a x = sem 𝓛 (lies_at R full_share a.0 x)

  abbrev pub exported : Clauses 𝓤 (Export Ys ks Q)
  exported = asked 𝓛 R Ys ks hs Q R.Denot lies ensures

  module _ (𝓜 : Model 𝓤 𝓛.H) (𝓡 : Running 𝓤 𝓛.H 𝓜) (sp : (κs : Lfts n) → Spells (types_at Ys κs)) (f : Fn) where
    abbrev pub bound : (κs : Lfts n) → Shares n → AllOutlive n [] κs → (a : Denots (types_at Ys κs)) → R.Denot → Ptr → (walk_of 𝓛 (Export Ys ks Q) (stay_dropped _ yes, hs) exported).Ghost
    bound κs qs bounds a x p = binds 𝓛 R Ys ks hs Q R.Denot lies ensures 𝓜 𝓡 sp f κs qs bounds a x p

    abbrev owned : (κs : Lfts n) → Shares n → Denots (types_at Ys κs) → SProp 𝓤
    owned κs qs a = others 𝓛 R Ys ks hs Q R.Denot lies ensures 𝓜 𝓡 sp f κs qs a

    pub points : AllGo 𝓛 n Ys ks hs → ((κs : Lfts n) → Tellss (types_at Ys κs) (Ises (types_at Ys κs)) (sp κs)) → (self : Callee) → Closed 𝓤 𝓛.H (tables 𝓤 𝓛.H 𝓜 𝓡 𝓡.env).C (tables 𝓤 𝓛.H 𝓜 𝓡 𝓡.env).Λ self f
        → ((κs : Lfts n) (qs : Shares n) (bounds : AllOutlive n [] κs) (a : Denots (types_at Ys κs)) (x : R.Denot) → Are (types_at Ys κs) (Ises (types_at Ys κs)) a (valss (types_at Ys κs) (sp κs) a) → (b o : ℕ)
        → ent 𝓤 (sep 𝓤 (sem 𝓛 (part_at R full_share x b o)) (owned κs qs a))
        (WpFn 𝓤 𝓛.H (tables 𝓤 𝓛.H 𝓜 𝓡 𝓡.env).C (tables 𝓤 𝓛.H 𝓜 𝓡 𝓡.env).Λ f (vptr b o ∷ flat (types_at Ys κs) (valss (types_at Ys κs) (sp κs) a))
        ((walk_of 𝓛 (Export Ys ks Q) (stay_dropped _ yes, hs) exported).post (bound κs qs bounds a x (block_ptr b o)))))
        → Meets 𝓛 (Export Ys ks Q).signature ((tables 𝓤 𝓛.H 𝓜 𝓡 𝓡.env).C self) (closing 𝓛 (Export Ys ks Q) exported)
    points go tells self closed walk =
        points_with 𝓛 R Ys ks hs Q R.Denot lies ensures 𝓜 𝓡 sp f (λ x. x) (λ κs a x. emp 𝓤) (λ κs a x. beside 𝓤 (lies κs a x)) go tells self closed (λ κs qs bounds a x are b o.
        via 𝓤 (sep 𝓤 (sem 𝓛 (part_at R full_share x b o)) (owned κs qs a)) (mono_r 𝓤 (sem 𝓛 (part_at R full_share x b o)) (fst∗ 𝓤 (owned κs qs a) (emp 𝓤))) (walk κs qs bounds a x are b o))
