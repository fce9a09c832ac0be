-- A call that is lent what lies at a pointer, for a lifetime that is made for it, does with what lies there what it says of the loan.
use Rattle.event_c.proofs.Steps.{◌≡◌, ℕ, suc, List, [], ◌∷◌, refl, sym, subst, Ura, full_share, SProp, ent, via, mono_l, mono_r, fst∗, comm∗, emp∗, guard_i, emp, ex, sep, Fml, Lft, Incl, Incl-refl, fbor, feq, fres, flft, flent, named, mut, imm, Mutability, Callee, Val, vptr, Model, MachineTables, Logic, sem, ‵, raw, ◌⊛◌, some, later, ◌$◌, ◌∵◌, !, qed, done, move, show, use1, use2, use3, split, join, feq_l, pick, await, rewrite, frame, group, updating, at_once, by, Body, lft_new, lft_end, lent_back, One, RefMutOf, RefOf, yes, lends_ref, ref_back, lends_shr, mem, part_at, Laws, RattleType, Ptr, lies_at, block_ptr, plain, Slot, Lfts, Shares, toks, types_at, Denots, Valss, flat, owns, Kepts, Fins, Outs, outs, lasts_of, Last, left, Seen, see, Triple, Args, Ended, Clauses, closing, Lasts, at_exit, triple_of, framed, enters}

-- how a call is lent a value
pub data Way : Type 0 where
  by_mut by_ref : Way

abbrev pub mutability : Way → Mutability
mutability by_mut = mut
mutability by_ref = imm

module _ (R : RattleType) (one : One R.mir) (n : ℕ) where
  -- the call's first parameter, whose lifetime is the first
  abbrev pub slot : Way → Slot (suc n)
  slot by_mut = RefMutOf (0 ∷ []) tt (plain (λ κs. R)) (λ κs. one)
  slot by_ref = RefOf (0 ∷ []) tt (plain (λ κs. R)) (λ κs. one)

  -- what it is lent there, and how that is seen before and after
  abbrev pub loan : (w : Way) (κs : Lfts (suc n)) → R.Denot → ℕ → ℕ → ℕ → ((slot w).row κs).Denot
  loan by_mut κs x b o γ = record { ref_ptr = (b, o); ghost_name = γ; now = x }
  loan by_ref κs x b o γ = record { ref_ptr = (b, o); now = x }

  abbrev pub before : (w : Way) (κs : Lfts (suc n)) → ((slot w).row κs).Denot → R.Denot
  before by_mut κs x = x.now
  before by_ref κs x = x.now

  abbrev pub after : (w : Way) (κs : Lfts (suc n)) → Seen (((slot w).row κs).exit yes) → R.Denot
  after by_mut κs x = x.now
  after by_ref κs x = x.now

  abbrev pub Called : Way → (Xs : List (Slot (suc n))) → Kepts Xs → RattleType → Ended
  Called w Xs ks Q = record { signature = record { lifetimes = suc n; outlives = []; params = slot w ∷ Xs; result = plain (λ κs. Q) }; kept = (yes, ks) }

module _ {M : Type 1} (𝓤 : Ura M) (R : RattleType) (one : One R.mir) (w : Way) (n : ℕ) (Xs : List (Slot (suc n))) (ks : Kepts Xs) (Q : RattleType)
    (N : (κs : Lfts (suc n)) → R.Denot → Denots (types_at Xs κs) → SProp 𝓤)
    (E : (κs : Lfts (suc n)) → R.Denot → Denots (types_at Xs κs) → R.Denot → Outs κs Xs ks → Q.Denot → SProp 𝓤) where
  -- the call asks N, and says E, of what it is lent as it is before and after
  abbrev pub calling : Clauses 𝓤 (Called R one n w Xs ks Q)
  calling κs a = record {
    ghost = Unit {0};
    requires = λ _. N κs (before R one n w κs a.0) a.1;
    ensures = λ _ r end. E κs (before R one n w κs a.0) a.1 (after R one n w κs end.0) end.1 r;
  }

module _ {M : Type 1} (𝓤 : Ura M) (𝓛 : Logic 𝓤) (R : RattleType) where
  -- what lies at the pointer after the call, of which Φ holds
  abbrev pub stays_at : Way → Ptr → R.Denot → (R.Denot → SProp 𝓤) → SProp 𝓤
  stays_at by_mut p x Φ = ex 𝓤 (λ (new : R.Denot). sep 𝓤 (sem 𝓛 (lies_at R full_share p new)) (Φ new))
  stays_at by_ref p x Φ = sep 𝓤 (sem 𝓛 (lies_at R full_share p x)) (Φ x)

module _ {M : Type 1} {𝓤 : Ura M} (𝓛 : Logic 𝓤) (R : RattleType) {X : Type 0} (A : X → SProp 𝓤) (F : R.Denot → X → SProp 𝓤) where
  out_of : (w : Way) (p : Ptr) (x : R.Denot) → ent 𝓤 (stays_at 𝓤 𝓛 R w p x (λ new. ex 𝓤 (λ (r : X). sep 𝓤 (A r) (F new r)))) (ex 𝓤 (λ (r : X). sep 𝓤 (A r) (stays_at 𝓤 𝓛 R w p x (λ new. F new r))))
  out_of by_mut p x =
      qed 𝓛 (some (λ (new : R.Denot). ‵ (lies_at R full_share p new) ⊛ some (λ (r : X). raw (A r) ⊛ raw (F new r))) ∷ []) ∵ pick ! (λ new. split ! $ move ! (1 ∷ []) $ pick ! (λ r. split ! $
      show ! (λ (s : X). sep 𝓤 (A s) (stays_at 𝓤 𝓛 R by_mut p x (λ last. F last s))) r $ frame ! $ move ! (1 ∷ []) $
      show ! (λ (last : R.Denot). sep 𝓤 (sem 𝓛 (lies_at R full_share p last)) (F last r)) new $ done !))
  out_of by_ref p x =
      qed 𝓛 (‵ (lies_at R full_share p x) ∷ some (λ (r : X). raw (A r) ⊛ raw (F x r)) ∷ []) ∵ move ! (1 ∷ []) $ pick ! (λ r. split ! $
      show ! (λ (s : X). sep 𝓤 (A s) (stays_at 𝓤 𝓛 R by_ref p x (λ last. F last s))) r $ frame ! $ move ! (1 ∷ []) $ done !)

  -- what is there whatever lies at the pointer
  pub taken_out : (w : Way) (p : Ptr) (x : R.Denot) → ent 𝓤 (𝓛.H.⇛ (stays_at 𝓤 𝓛 R w p x (λ new. ex 𝓤 (λ (r : X). sep 𝓤 (A r) (F new r))))) (𝓛.H.⇛ (ex 𝓤 (λ (r : X). sep 𝓤 (A r) (stays_at 𝓤 𝓛 R w p x (λ new. F new r)))))
  taken_out w p x = 𝓛.laws.⇛_mono _ _ (out_of w p x)

pub beside : {M : Type 1} (𝓤 : Ura M) (P : SProp 𝓤) → ent 𝓤 P (sep 𝓤 P (emp 𝓤))
beside 𝓤 P = via 𝓤 (sep 𝓤 (emp 𝓤) P) (emp∗ 𝓤 P) (comm∗ 𝓤 (emp 𝓤) P)

module _ {M : Type 1} {𝓤 : Ura M} (𝓛 : Logic 𝓤) (T K L O N : SProp 𝓤) where
  regrouped : ent 𝓤 (sep 𝓤 L (sep 𝓤 T (sep 𝓤 (sep 𝓤 K O) N))) (sep 𝓤 (sep 𝓤 (sep 𝓤 T K) (sep 𝓤 L O)) N)
  regrouped =
      qed 𝓛 (raw L ∷ raw T ∷ ((raw K ⊛ raw O) ⊛ raw N) ∷ []) ∵ move ! (2 ∷ []) $ split ! $ split ! $
      -- [K; O; N; L; T]
      move ! (3 ∷ 1 ∷ []) $ join ! $ move ! (3 ∷ 1 ∷ []) $ join ! $ join ! $ done !

module _ {M : Type 1} {𝓤 : Ura M} (𝓛 : Logic 𝓤) (𝓜 : Model 𝓤 𝓛.H) (𝓣 : MachineTables 𝓤 𝓛.H 𝓜) (k : Callee) (R : RattleType) (laws : Laws R) (within : (κ : Lft) → Incl κ R.lives) (one : One R.mir)
    (n : ℕ) (κs : Lfts n) (x : R.Denot) (b o : ℕ) (vs : List Val) (P : SProp 𝓤) (Φ : R.Denot → Val → SProp 𝓤) where
  -- what the call says of the loan's last value
  abbrev said : Way → ℕ → R.Denot → Fml
  said by_mut γ new = fres γ (R.coded.code new)
  said by_ref γ new = feq R.Denot x new

  abbrev lends : Way → ℕ → ℕ → Fml
  lends w α γ = ((slot R one n w).row (α ∷ [], κs)).own_val (loan R one n w (α ∷ [], κs) x b o γ) (vptr b o ∷ [])

  abbrev Within : Way → ℕ → ℕ → Val → SProp 𝓤
  Within w α γ v = 𝓛.H.⇛ (ex 𝓤 (λ (new : R.Denot). sep 𝓤 (sem 𝓛 (flft (α ∷ []) full_share)) (sep 𝓤 (sem 𝓛 (said w γ new)) (Φ new v))))

  abbrev After : Way → Val → SProp 𝓤
  After w v = 𝓛.H.⇛ (stays_at 𝓤 𝓛 R w (block_ptr b o) x (λ new. Φ new v))

  abbrev kept : Way → ℕ → ℕ → Fml
  kept by_mut α γ = flent (α ∷ []) (Body (mem R) b o γ)
  kept by_ref α γ = flent (α ∷ []) (part_at R full_share x b o)

  back : (w : Way) (α γ : ℕ) (v : Val) → ent 𝓤 (sep 𝓤 (Within w α γ v) (sem 𝓛 (kept w α γ))) (After w v)
  back by_mut α γ v =
      qed 𝓛 (later (some (λ (new : R.Denot). ‵ (flft (α ∷ []) full_share) ⊛ ‵ (fres γ (R.coded.code new)) ⊛ raw (Φ new v))) ∷ ‵ (flent (α ∷ []) (Body (mem R) b o γ)) ∷ []) ∵
      updating ! $ await ! tt $ pick ! (λ new. split ! $ lft_end ! tt $ move ! (1 ∷ []) $ split ! $ move ! (2 ∷ 3 ∷ 0 ∷ []) $
      use3 𝓛 (later (‵ (part_at R full_share new b o))) (ref_back 𝓛 R (α ∷ []) γ new b o) $ await ! tt $ at_once ! $
      show ! (λ (last : R.Denot). sep 𝓤 (sem 𝓛 (part_at R full_share last b o)) (Φ last v)) new $ done !)
  back by_ref α γ v =
      qed 𝓛 (later (some (λ (new : R.Denot). ‵ (flft (α ∷ []) full_share) ⊛ ‵ (feq R.Denot x new) ⊛ raw (Φ new v))) ∷ ‵ (flent (α ∷ []) (part_at R full_share x b o)) ∷ []) ∵
      updating ! $ await ! tt $ pick ! (λ new. split ! $ lft_end ! tt $ move ! (1 ∷ []) $ split ! $ feq_l ! (λ same. rewrite ! 0 (λ (z : R.Denot). raw (Φ z v)) (sym same) refl $
      move ! (1 ∷ 2 ∷ []) $ lent_back ! tt $ at_once ! $ done !))

  -- a call that meets what it says of the loan, at whatever lifetime and name
  abbrev Meeting : Way → Type 1
  Meeting w = (α γ : ℕ) → ent 𝓤 (sep 𝓤 (sem 𝓛 (lends w α γ)) (sep 𝓤 (sem 𝓛 (flft (α ∷ []) full_share)) P)) (𝓣.C k vs (Within w α γ))

  calls : (w : Way) → Meeting w → (α γ : ℕ) → ent 𝓤 (sep 𝓤 (sep 𝓤 (sem 𝓛 (lends w α γ)) (sep 𝓤 (sem 𝓛 (flft (α ∷ []) full_share)) P)) (sem 𝓛 (kept w α γ))) (𝓣.C k vs (After w))
  calls w call α γ =
      via 𝓤 (sep 𝓤 (𝓣.C k vs (Within w α γ)) (sem 𝓛 (kept w α γ))) (mono_l 𝓤 (sem 𝓛 (kept w α γ)) (call α γ))
      (framed 𝓤 𝓛.H 𝓜 𝓣 k vs (Within w α γ) (After w) (sem 𝓛 (kept w α γ)) (back w α γ))

  lent_out : (w : Way) → Meeting w → ent 𝓤 (sep 𝓤 (sem 𝓛 (part_at R full_share x b o)) P) (𝓛.H.⇛ (𝓣.C k vs (After w)))
  lent_out by_mut call =
      qed 𝓛 (‵ (part_at R full_share x b o) ∷ raw P ∷ []) ∵ updating ! $ lft_new ! tt (λ α. move ! (1 ∷ []) $
      use1 𝓛 (later (some (λ (γ : ℕ). ‵ (lends by_mut α γ) ⊛ ‵ (kept by_mut α γ)))) (lends_ref 𝓛 R (named 0) (α ∷ []) x b o) $ await ! tt $ pick ! (λ γ. split ! $
      -- [the loan; the lender's part; the loan's token; P]
      at_once ! $ move ! (0 ∷ 2 ∷ 3 ∷ []) $ group ! 3 $ by ! (calls by_mut call α γ)))
  lent_out by_ref call =
      qed 𝓛 (‵ (part_at R full_share x b o) ∷ raw P ∷ []) ∵ updating ! $ lft_new ! tt (λ α. move ! (1 ∷ 0 ∷ []) $
      use2 𝓛 (later ((‵ (lends by_ref α 0) ⊛ ‵ (kept by_ref α 0)) ⊛ ‵ (flft (α ∷ []) full_share)))
      (lends_shr 𝓛 R (named 0) (α ∷ []) full_share x b o R.lives (laws.shares 𝓛 x) ((α ∷ [], full_share) ∷ []) (within (α ∷ [])) (Incl-refl (α ∷ []))) $ await ! tt $ split ! $ split ! $
      at_once ! $ move ! (0 ∷ 2 ∷ 3 ∷ []) $ group ! 3 $ by ! (calls by_ref call α 0))

  shown : (w : Way) (α γ : ℕ) (last : Last (((slot R one n w).row (α ∷ [], κs)).exit yes) (loan R one n w (α ∷ [], κs) x b o γ))
      → ent 𝓤 (sem 𝓛 (left (((slot R one n w).row (α ∷ [], κs)).exit yes) (loan R one n w (α ∷ [], κs) x b o γ) last))
      (sem 𝓛 (said w γ (after R one n w (α ∷ [], κs) (see (((slot R one n w).row (α ∷ [], κs)).exit yes) (loan R one n w (α ∷ [], κs) x b o γ) last))))
  shown by_mut α γ last = fst∗ 𝓤 (sem 𝓛 (fres γ (R.coded.code last))) (sem 𝓛 (fbor (α ∷ []) (Body (mem R) b o γ)))
  shown by_ref α γ last = guard_i 𝓤 (x ≡ x) (emp 𝓤) refl

  same : (w : Way) (α γ : ℕ) → before R one n w (α ∷ [], κs) (loan R one n w (α ∷ [], κs) x b o γ) ≡ x
  same by_mut α γ = refl
  same by_ref α γ = refl

  module _ (w : Way) (Xs : List (Slot (suc n))) (ks : Kepts Xs) (Q : RattleType) (qs : Shares n)
      (N : (κs : Lfts (suc n)) → R.Denot → Denots (types_at Xs κs) → SProp 𝓤)
      (E : (κs : Lfts (suc n)) → R.Denot → Denots (types_at Xs κs) → R.Denot → Outs κs Xs ks → Q.Denot → SProp 𝓤)
      (xs : (α : ℕ) → Denots (types_at Xs (α ∷ [], κs))) (vss : (α : ℕ) → Valss (types_at Xs (α ∷ [], κs))) where
    abbrev T : Ended
    T = Called R one n w Xs ks Q

    abbrev args : (α γ : ℕ) → Args T.signature (α ∷ [], κs)
    args α γ = (loan R one n w (α ∷ [], κs) x b o γ, xs α)

    abbrev ended : (α γ : ℕ) → Lasts T (α ∷ [], κs) (args α γ) → R.Denot
    ended α γ ws = after R one n w (α ∷ [], κs) (at_exit T (α ∷ [], κs) (args α γ) ws).0

    pub lent : Triple 𝓤 (𝓣.C k) (triple_of 𝓛 T.signature (closing 𝓛 T (calling 𝓤 R one w n Xs ks Q N E)))
        → ((α : ℕ) → vptr b o ∷ flat (types_at Xs (α ∷ [], κs)) (vss α) ≡ vs)
        → ((α : ℕ) → ent 𝓤 P (sep 𝓤 (sep 𝓤 (toks 𝓛 n κs qs) (sem 𝓛 (owns (types_at Xs (α ∷ [], κs)) (xs α) (vss α)))) (N (α ∷ [], κs) x (xs α))))
        → ((α : ℕ) (r : Q.Denot) (v : Val) (new : R.Denot) (ws : Fins (α ∷ [], κs) Xs ks (xs α)) → ent 𝓤 (sep 𝓤 (sep 𝓤 (toks 𝓛 n κs qs) (sem 𝓛 (Q.own_val r (v ∷ []))))
        (sep 𝓤 (sem 𝓛 (lasts_of (α ∷ [], κs) Xs ks (xs α) ws)) (E (α ∷ [], κs) x (xs α) new (outs (α ∷ [], κs) Xs ks (xs α) ws) r))) (Φ new v))
        → ent 𝓤 (sep 𝓤 (sem 𝓛 (part_at R full_share x b o)) P) (𝓣.C k vs (After w))
    lent met are pre post =
        let G = triple_of 𝓛 T.signature (closing 𝓛 T (calling 𝓤 R one w n Xs ks Q N E)) in
        let z : ℕ → ℕ → G.Ghost = λ α γ. (((α ∷ [], κs), (full_share, qs), tt, args α γ, (vptr b o ∷ [], vss α)), tt) in
        let token : ℕ → SProp 𝓤 = λ α. sem 𝓛 (flft (α ∷ []) full_share) in
        let own : ℕ → SProp 𝓤 = λ α. sem 𝓛 (owns (types_at Xs (α ∷ [], κs)) (xs α) (vss α)) in
        let was : ℕ → ℕ → R.Denot = λ α γ. before R one n w (α ∷ [], κs) (loan R one n w (α ∷ [], κs) x b o γ) in
        let out : (α γ : ℕ) (v : Val) → ent 𝓤 (G.post (z α γ) v) (Within w α γ v) = λ α γ v.
        let Ens : R.Denot → Q.Denot → Lasts T (α ∷ [], κs) (args α γ) → SProp 𝓤 = λ y r ws. E (α ∷ [], κs) y (xs α) (ended α γ ws) (outs (α ∷ [], κs) Xs ks (xs α) ws.1) r in
        qed 𝓛 (later (some (λ (r : Q.Denot). ((‵ (flft (α ∷ []) full_share) ⊛ raw (toks 𝓛 n κs qs)) ⊛ ‵ (Q.own_val r (v ∷ [])))
        ⊛ some (λ (ws : Lasts T (α ∷ [], κs) (args α γ)).
        (‵ (left (((slot R one n w).row (α ∷ [], κs)).exit yes) (args α γ).0 ws.0) ⊛ ‵ (lasts_of (α ∷ [], κs) Xs ks (xs α) ws.1)) ⊛ raw (Ens (was α γ) r ws)))) ∷ []) ∵
        updating ! $ await ! tt $ pick ! (λ r. split ! $ split ! $ split ! $ move ! (3 ∷ []) $ pick ! (λ ws. split ! $ split ! $
        -- [what the loan leaves; what the others leave; the `ensures`; the loan's token; the others' tokens; the result]
        use1 𝓛 (‵ (said w γ (ended α γ ws))) (shown w α γ ws.0) $ rewrite ! 2 (λ (y : R.Denot). raw (Ens y r ws)) (same w α γ) refl $ at_once ! $
        show ! (λ (new : R.Denot). sep 𝓤 (token α) (sep 𝓤 (sem 𝓛 (said w γ new)) (Φ new v))) (ended α γ ws) $
        move ! (3 ∷ 0 ∷ []) $ frame ! $ frame ! $ move ! (2 ∷ 3 ∷ []) $ join ! $ by ! (post α r v (ended α γ ws) ws.1))) in
        via 𝓤 (𝓛.H.⇛ (𝓣.C k vs (After w))) (lent_out w (λ α γ.
        via 𝓤 (G.pre (z α γ)) (via 𝓤 (sep 𝓤 (sem 𝓛 (lends w α γ)) (sep 𝓤 (token α) (sep 𝓤 (sep 𝓤 (toks 𝓛 n κs qs) (own α)) (N (α ∷ [], κs) (was α γ) (xs α)))))
        (mono_r 𝓤 (sem 𝓛 (lends w α γ)) (mono_r 𝓤 (token α) (subst (λ (y : R.Denot). ent 𝓤 P (sep 𝓤 (sep 𝓤 (toks 𝓛 n κs qs) (own α)) (N (α ∷ [], κs) y (xs α)))) (sym (same w α γ)) (pre α))))
        (regrouped 𝓛 (token α) (toks 𝓛 n κs qs) (sem 𝓛 (lends w α γ)) (own α) (N (α ∷ [], κs) (was α γ) (xs α))))
        (via 𝓤 (𝓣.C k vs (G.post (z α γ))) (subst (λ (us : List Val). ent 𝓤 (G.pre (z α γ)) (𝓣.C k us (G.post (z α γ)))) (are α) (met (z α γ)))
        (via 𝓤 (sep 𝓤 (𝓣.C k vs (G.post (z α γ))) (emp 𝓤)) (beside 𝓤 (𝓣.C k vs (G.post (z α γ))))
        (framed 𝓤 𝓛.H 𝓜 𝓣 k vs (G.post (z α γ)) (Within w α γ) (emp 𝓤) (λ v. via 𝓤 (G.post (z α γ) v) (fst∗ 𝓤 (G.post (z α γ) v) (emp 𝓤)) (out α γ v)))))))
        (enters 𝓤 𝓛.H 𝓜 𝓣 k vs (After w))
