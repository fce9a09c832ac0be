-- What a batch is made of, and what is handed out as its first item leaves.
use Rattle.std.proofs.Common.{◌≡◌, ◌≢◌, ℕ, ◌+◌, ◌-◌, ◌<◌, ◌≤◌, List, [], ◌∷◌, ◌++◌, length, take, drop, get_or, arith, ap, Bor, IfNone, IfSome, MatchOption, None, Option, option_copied, Some, refl, subst, sym, ◌∙◌, append-nil, length-append}
use Rattle.std.specs.Prelude.{slice_get}
use Rattle.std.proofs.Math.Seq.{take-append_seam}
use Rattle.std.proofs.lemmas.List.{drop-take}
use Rattle.std.proofs.lemmas.Grind.{common_steps}
use Rattle.std.proofs.lemmas.List.{drop_more, drop-drop}
use Rattle.std.proofs.lemmas.Option.{none-some, same_Some}
use mathlib.Core.List.{IsPrefix}

module _ {T : Type 0} where
  -- a row between two places is empty where they are one
  pub row-empty : (at end : ℕ) (xs : List T) → at ≡ end → drop at (take end xs) ≡ []
  row-empty at end xs e = grind (arith, common_steps, e)

  -- and nowhere else
  pub row-filled : (at end : ℕ) (xs : List T) → at ≤ end → end ≤ length xs → drop at (take end xs) ≡ [] → at ≡ end
  row-filled at end xs a b e = grind (arith, common_steps, ap length e)

  -- no more than the places
  pub few_inside : (at end : ℕ) (xs : List T) → length (drop at (take end xs)) ≤ length xs
  few_inside at end xs = grind (arith, common_steps)

  -- the first leaves: it is handed out
  pub one-handed : (rs hs vs : List T) (x : T) → rs ≡ hs ++ x ∷ vs → take (length rs - length vs) rs ≡ hs ++ x ∷ []
  one-handed rs hs vs x e =
      let whole : rs ≡ (hs ++ x ∷ []) ++ vs = grind (arith, common_steps, e) in
      let long : length rs - length vs ≡ length (hs ++ x ∷ []) = omega (arith, ap length whole, length-append (hs ++ x ∷ []) vs) in
      ap (λ (n : ℕ). take n rs) long ∙ (ap (take (length (hs ++ x ∷ []))) whole ∙ take-append_seam (hs ++ x ∷ []) vs)

  -- what is left is the last of what came out of the ring
  pub still-last : (rs ws vs : List T) → rs ≡ take (length rs - length ws) rs ++ ws → vs ≡ drop 1 ws → rs ≡ take (length rs - length vs) rs ++ vs
  still-last rs [] vs e rest = subst (λ (zs : List T). rs ≡ take (length rs - length zs) rs ++ zs) (sym rest) e
  still-last rs (w ∷ ws) vs e rest =
      let from : rs ≡ take (length rs - length (w ∷ ws)) rs ++ w ∷ vs = e ∙ ap (λ (zs : List T). take (length rs - length (w ∷ ws)) rs ++ w ∷ zs) (sym rest) in
      let gone : take (length rs - length vs) rs ≡ take (length rs - length (w ∷ ws)) rs ++ w ∷ [] = one-handed rs _ vs w from in
      grind (arith, common_steps, from, gone)

  -- the first leaves, where there is one
  pub first-passed : (rs ws vs : List T) → rs ≡ take (length rs - length ws) rs ++ ws → vs ≡ drop 1 ws
      → take (length rs - length vs) rs ≡ take (length rs - length ws) rs ++ take 1 ws
  first-passed rs [] vs e rest = grind (arith, common_steps, rest)
  first-passed rs (w ∷ ws) vs e rest =
      one-handed rs _ vs w (e ∙ ap (λ (zs : List T). take (length rs - length (w ∷ ws)) rs ++ w ∷ zs) (sym rest))

  -- the last of a row leave from behind the rest
  pub behind-rest : (rs hs vs : List T) → rs ≡ hs ++ vs → take (length rs - length vs) rs ≡ hs
  behind-rest rs hs vs e =
      let long : length rs - length vs ≡ length hs = omega (arith, ap length e, length-append hs vs) in
      ap (λ (n : ℕ). take n rs) long ∙ (ap (take (length hs)) e ∙ take-append_seam hs vs)

  -- and are the last that came out of the ring
  pub row-last : (rs hs vs : List T) → rs ≡ hs ++ vs → rs ≡ take (length rs - length vs) rs ++ vs
  row-last rs hs vs e = e ∙ ap (λ zs. zs ++ vs) (sym (behind-rest rs hs vs e))

  -- nothing was handed out as they came, where nothing was left
  pub row-kept : (rs hs vs os us ws : List T) → rs ≡ hs ++ vs → hs ≡ os → os ≡ us ++ ws → ws ≡ [] → take (length rs - length vs) rs ≡ us
  row-kept rs hs vs os us ws e h o none = behind-rest rs hs vs e ∙ (h ∙ (o ∙ (ap (λ zs. us ++ zs) none ∙ append-nil us)))

  -- the last of a ring stay the last where as much came out of it
  pub last-kept : (rs qs ws : List T) → qs ≡ rs → rs ≡ take (length rs - length ws) rs ++ ws → qs ≡ take (length qs - length ws) qs ++ ws
  last-kept rs qs ws e last = subst (λ zs. zs ≡ take (length zs - length ws) zs ++ ws) (sym e) last

  -- some of what is last leave: they are handed out
  in-parts : (n : ℕ) (rs ws : List T) → rs ≡ take (length rs - length ws) rs ++ ws → rs ≡ (take (length rs - length ws) rs ++ take n ws) ++ drop n ws
  in-parts n rs ws e = grind (arith, common_steps, e)

  pub some-passed : (n : ℕ) (rs ws vs : List T) → rs ≡ take (length rs - length ws) rs ++ ws → vs ≡ drop n ws
      → take (length rs - length vs) rs ≡ take (length rs - length ws) rs ++ take n ws
  some-passed n rs ws vs e rest =
      behind-rest rs (take (length rs - length ws) rs ++ take n ws) vs (in-parts n rs ws e ∙ ap (λ zs. (take (length rs - length ws) rs ++ take n ws) ++ zs) (sym rest))

  pub some-last : (n : ℕ) (rs ws vs : List T) → rs ≡ take (length rs - length ws) rs ++ ws → vs ≡ drop n ws → rs ≡ take (length rs - length vs) rs ++ vs
  some-last n rs ws vs e rest =
      in-parts n rs ws e ∙ (ap (λ zs. zs ++ drop n ws) (sym (some-passed n rs ws vs e rest)) ∙ ap (λ zs. take (length rs - length vs) rs ++ zs) (sym rest))

  -- the first of a row between two places, and the rest
  pub row-first : (at end : ℕ) (xs : List T) (x : T) → at < end → end ≤ length xs → x ≡ get_or xs at x → drop at (take end xs) ≡ x ∷ drop 1 (drop at (take end xs))
  row-first at end xs x a b e = grind (arith, common_steps, e, drop_more (take end xs) at x)

  pub row-rest : (at end : ℕ) (xs : List T) → drop (at + 1) (take end xs) ≡ drop 1 (drop at (take end xs))
  row-rest at end xs = grind (arith, common_steps, drop-drop 1 at (take end xs))

  pub row-skips : (n at end : ℕ) (xs : List T) → drop (at + n) (take end xs) ≡ drop n (drop at (take end xs))
  row-skips n at end xs = grind (arith, common_steps, drop-drop n at (take end xs))

  pub row-between : (at end : ℕ) (xs : List T) → at ≤ end → take (end - at) (drop at xs) ≡ drop at (take end xs)
  row-between at end xs within = sym (drop-take at (end - at) xs) ∙ ap (λ n. drop at (take n xs)) (omega (arith, within))

  -- where there is no first there is nothing
  pub first-none : (xs : List T) → slice_get xs 0 ≡ None → xs ≡ []
  first-none [] e = refl
  first-none (x ∷ xs) e = absurd (none-some x (sym e))

  -- where both rows together are nothing the first is
  pub none-first : (xs ys : List T) → xs ++ ys ≡ [] → xs ≡ []
  none-first [] ys e = refl
  none-first (x ∷ xs) ys e = grind (arith, common_steps, ap length e)

  -- nor is there a last
  pub none-last : (xs ys : List T) → xs ++ ys ≡ [] → ys ≡ []
  none-last [] ys e = e
  none-last (x ∷ xs) ys e = absurd (omega (arith, ap length e))

  -- as many of the first of two rows as of both
  pub take-first : (n : ℕ) (xs ys : List T) → n ≤ length xs → take n (xs ++ ys) ≡ take n xs
  take-first n xs ys within = grind (arith, common_steps)

  -- nothing is nowhere the beginning of nothing
  pub prefix-none : (ws xs : List T) → IsPrefix ws xs → xs ≡ [] → ws ≡ []
  prefix-none [] xs p e = refl
  prefix-none (w ∷ ws) xs p e = grind (arith, common_steps, p.1, e)

  -- the first that was seen is the first of what is seen later
  pub prefix-first : (ws xs : List T) (y : T) → IsPrefix ws xs → slice_get ws 0 ≡ Some y → slice_get xs 0 ≡ Some y
  prefix-first [] xs y p e = absurd (none-some y e)
  prefix-first (w ∷ ws) xs y p e = ap (λ (zs : List T). slice_get zs 0) (sym p.1) ∙ e

  pub prefix-next : (ws xs ks : List T) (x y : T) → IsPrefix ws xs → xs ≡ x ∷ ks → slice_get ws 0 ≡ Some y → x ≡ y
  prefix-next ws xs ks x y p e s = same_Some x y (ap (λ (zs : List T). slice_get zs 0) (sym e) ∙ prefix-first ws xs y p s)

  -- the first of a row is handed out, or nothing where there is none
  pub handed-next : (result : Option T) (hs ks ls ws vs : List T) → hs ≡ ks ++ take 1 ws → ks ≡ ls → MatchOption result (ws ≡ []) (λ x. ws ≡ x ∷ vs)
      → MatchOption result (hs ≡ ls) (λ x. hs ≡ ls ++ x ∷ [])
  handed-next None hs ks ls ws vs e k v = e ∙ (ap (λ zs. ks ++ take 1 zs) v ∙ (append-nil ks ∙ k))
  handed-next (Some x) hs ks ls ws vs e k v = e ∙ (ap (λ zs. ks ++ take 1 zs) v ∙ ap (λ zs. zs ++ x ∷ []) k)

  -- and it is the first that was seen before
  pub first-comes : (result : Option T) (os ws ks vs : List T) (y : T) → IsPrefix os (ws ++ ks) → slice_get os 0 ≡ Some y
      → MatchOption result (ws ≡ []) (λ x. ws ≡ x ∷ vs) → (ws ≡ [] → ws ++ ks ≡ []) → result ≡ Some y
  first-comes None os ws ks vs y p s v none = absurd (none-some y (ap (λ zs. slice_get zs 0) (sym (none v)) ∙ prefix-first os (ws ++ ks) y p s))
  first-comes (Some x) os ws ks vs y p s v none = ap (λ zs. slice_get (zs ++ ks) 0) (sym v) ∙ prefix-first os (ws ++ ks) y p s

  pub first-copied : (result : Option (Bor T)) (os ws ks : List T) (y : T) → IsPrefix os (ws ++ ks) → slice_get os 0 ≡ Some y
      → IfNone result (ws ≡ []) → IfSome result (λ x. ws ≡ x.now ∷ drop 1 ws) → (ws ≡ [] → ws ++ ks ≡ []) → option_copied result ≡ Some y
  first-copied None os ws ks y p s none some all = first-comes None os ws ks [] y p s none all
  first-copied (Some x) os ws ks y p s none some all = first-comes (Some x.now) os ws ks (drop 1 ws) y p s some all

  -- where one row is empty at most one item comes into it, and none into another: then its first leaves
  pub one-passed : (os ws vs : List T) → vs ≡ drop 1 ws → (os ≡ [] → length ws ≤ 1) → (os ≢ [] → ws ≡ os) → vs ≡ drop 1 os
  one-passed [] [] vs e few stays = e
  one-passed [] (w ∷ []) vs e few stays = e
  one-passed [] (w ∷ u ∷ ws) vs e few stays = absurd (omega (arith, few refl))
  one-passed (o ∷ os) ws vs e few stays = e ∙ ap (drop 1) (stays (λ none. absurd (omega (arith, ap length none))))

pub ruleset of_rows = (row-empty, row-filled, row-first, row-rest, take-first)

pub ruleset of_looks = (prefix-first, first-none)

pub ruleset of_handing = (one-handed)
