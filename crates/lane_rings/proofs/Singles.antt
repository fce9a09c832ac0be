-- A single item goes from a ring to the first of some places, or from a row into a ring.
use Rattle.std.proofs.Common.{◌≡◌, ◌≢◌, ◌<◌, List, [], ◌∷◌, ◌++◌, ◌∙◌, length, take, drop, set, get_or, arith, ap, refl, sym}

module _ {T : Type 0} where
  -- what was put into the first place
  pub one-put : (xs : List T) (x : T) → 0 < length xs → take 1 (set xs 0 x) ≡ x ∷ []
  one-put [] x some = absurd (omega (arith, some))
  one-put (y ∷ ys) x some = refl

  -- nothing is there
  pub none-there : (ks : List T) → length ks ≡ 0 → ks ≡ []
  none-there [] e = refl
  none-there (k ∷ ks) e = absurd (omega (arith, e))

  -- nothing is left behind the only one
  pub none-behind : (ks ls : List T) (x : T) → ks ≡ x ∷ ls → length ks ≡ 1 → ls ≡ []
  none-behind ks [] x e one = refl
  none-behind ks (l ∷ ls) x e one = absurd (omega (arith, ap length e, one))

  -- a row of one is its first
  pub one-row : (xs : List T) (x : T) → length xs ≡ 1 → x ≡ get_or xs 0 x → xs ≡ x ∷ []
  one-row [] x one is = absurd (omega (arith, one))
  one-row (y ∷ []) x one is = ap (λ (z : T). z ∷ []) (sym is)
  one-row (y ∷ z ∷ ys) x one is = absurd (omega (arith, one))

  -- the first of a ring goes to the first place: it is the last that came out of the ring
  pub one-moved : (ps ks rest ls hs rs : List T) (x y : T) → 0 < length ps → (x ∷ []) ++ rest ≡ ks → ks ≡ y ∷ ls → rs ≡ hs ++ y ∷ []
      → rs ≡ hs ++ take 1 (set ps 0 x)
  one-moved ps ks rest ls hs rs x y some e f came =
      let same : y ≡ x = sym (ap (λ zs. get_or zs 0 x) (e ∙ f)) in
      came ∙ (ap (λ z. hs ++ z ∷ []) same ∙ ap (λ zs. hs ++ zs) (sym (one-put ps x some)))

  -- and what was seen stands there and in the ring
  pub one-ahead : (ps ks rest ls : List T) (x y : T) → 0 < length ps → (x ∷ []) ++ rest ≡ ks → ks ≡ y ∷ ls → ks ≡ take 1 (set ps 0 x) ++ ls
  one-ahead ps ks rest ls x y some e f =
      f ∙ (ap (λ z. z ∷ ls) (sym (ap (λ zs. get_or zs 0 x) (e ∙ f))) ∙ ap (λ zs. zs ++ ls) (sym (one-put ps x some)))

  -- the first place isn't empty then
  pub one-there : (ps : List T) (x : T) → 0 < length ps → take 1 (set ps 0 x) ≢ []
  one-there ps x some none = absurd (omega (arith, ap length (sym (one-put ps x some) ∙ none)))

  -- where the only one that was seen left, nothing is seen
  pub none-seen : (ws ks js : List T) → ws ≡ [] → ks ≡ drop 1 js → length js ≡ 1 → ws ++ ks ≡ []
  none-seen ws ks [] e f one = absurd (omega (arith, one))
  none-seen ws ks (j ∷ []) e f one = ap (λ zs. zs ++ ks) e ∙ f
  none-seen ws ks (j ∷ i ∷ js) e f one = absurd (omega (arith, one))

pub ruleset of_singles = (one-put, none-there, none-behind, one-row)
