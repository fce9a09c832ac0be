-- Paths of nodes in a store of nodes.
use Rattle.std.proofs.Common.{◌≡◌, ◌≢◌, ℕ, zero, suc, ◌≤◌, ◌==◌, Bool, true, cond, List, [], ◌∷◌, ◌++◌, length, Option, Some, None, IsSome, refl, sym, ap, subst, ◌∙◌, arith}
use Rattle.std.proofs.lemmas.Bool.{cond_both}
use Rattle.lists.proofs.Lists.{eqb_other, eqb_same}
use Rattle.evt_types.specs.declared.event.Numbered.{Numbered}
use Rattle.parked_queue.specs.Chains.{next_of, item_then, path, row, items, IsFresh, IsPath, AreNodes}
use Rattle.parked_queue.specs.declared.chain.Node.{Node}

-- ---- nodes that are not in a list

pub fresh_front : (j : ℕ) (is js : List ℕ) → IsFresh j (is ++ js) → IsFresh j is
fresh_front j [] js f = tt
fresh_front j (i ∷ is) js f = (f.0, fresh_front j is js f.1)

pub fresh_back : (j : ℕ) (is js : List ℕ) → IsFresh j (is ++ js) → IsFresh j js
fresh_back j [] js f = f
fresh_back j (i ∷ is) js f = fresh_back j is js f.1

pub fresh_both : (j : ℕ) (is js : List ℕ) → IsFresh j is → IsFresh j js → IsFresh j (is ++ js)
fresh_both j [] js f g = g
fresh_both j (i ∷ is) js f g = (f.0, fresh_both j is js f.1 g)

-- ---- nodes of one owner

module _ (at : ℕ → Option Node) (owner : ℕ → ℕ) where
  -- no node of another owner is among them
  pub fresh_other : (k j : ℕ) (is : List ℕ) → owner j ≢ k → AreNodes at owner k is → IsFresh j is
  fresh_other k j [] n p = tt
  fresh_other k j (i ∷ is) n p = (λ (e : i ≡ j). n (ap owner (sym e) ∙ p.1), fresh_other k j is n p.3)

  pub nodes_longer : (k j : ℕ) (is : List ℕ) → IsSome (at j) → owner j ≡ k → IsFresh j is → AreNodes at owner k is → AreNodes at owner k (is ++ j ∷ [])
  nodes_longer k j [] s o f p = (s, o, tt, tt)
  nodes_longer k j (i ∷ is) s o f p = (
    p.0,
    p.1,
    fresh_both i is (j ∷ []) p.2 ((λ (e : j ≡ i). f.0 (sym e)), tt),
    nodes_longer k j is s o f.1 p.3,
  )

  -- one of them, and the others
  pub nodes_without : (k j : ℕ) (is js : List ℕ) → AreNodes at owner k (is ++ j ∷ js) → IsSome (at j) × (owner j ≡ k) × IsFresh j (is ++ js) × AreNodes at owner k (is ++ js)
  nodes_without k j [] js p = p
  nodes_without k j (i ∷ is) js p =
      let rest = nodes_without k j is js p.3 in
      let behind : IsFresh i (j ∷ js) = fresh_back i is (j ∷ js) p.2 in (
        rest.0,
        rest.1,
        ((λ (e : i ≡ j). behind.0 (sym e)), rest.2),
        (p.0, p.1, fresh_both i is js (fresh_front i is (j ∷ js) p.2) behind.1, rest.3),
      )

  pub front_nodes : (k : ℕ) (is js : List ℕ) → AreNodes at owner k (is ++ js) → AreNodes at owner k is
  front_nodes k [] js p = tt
  front_nodes k (i ∷ is) js p = (p.0, p.1, fresh_front i is js p.2, front_nodes k is js p.3)

  -- they stay where the store changes, but loses none, and where the owner of another node changes
  pub nodes_kept : (new : ℕ → Option Node) (k : ℕ) (is : List ℕ) → ((i : ℕ) → IsSome (at i) → IsSome (new i)) → AreNodes at owner k is → AreNodes new owner k is
  nodes_kept new k [] some p = tt
  nodes_kept new k (i ∷ is) some p = (some i p.0, p.1, p.2, nodes_kept new k is some p.3)

  pub nodes_owned : (after : ℕ → ℕ) (k j : ℕ) (is : List ℕ) → ((i : ℕ) → i ≢ j → after i ≡ owner i) → IsFresh j is → AreNodes at owner k is → AreNodes at after k is
  nodes_owned after k j [] owned f p = tt
  nodes_owned after k j (i ∷ is) owned f p = (p.0, owned i f.0 ∙ p.1, p.2, nodes_owned after k j is owned f.1 p.3)

-- ---- paths

module _ (at : ℕ → Option Node) (last : ℕ) where
  pub path_is : (i n : ℕ) (is : List ℕ) → IsPath at last i is → length is ≤ n → path at last n i ≡ is
  path_is i zero [] p le = refl
  path_is i (suc n) [] p le =
      ap (λ (b : Bool). cond b [] (i ∷ path at last n (next_of (at i)))) (subst (λ (j : ℕ). (i == j) ≡ true) p (eqb_same i))
  path_is i zero (j ∷ is) p le = absurd (omega arith)
  path_is i (suc n) (j ∷ is) p le =
      ap (λ (b : Bool). cond b [] (i ∷ path at last n (next_of (at i)))) (eqb_other i last p.1)
      ∙ ap (λ (k : ℕ). k ∷ path at last n (next_of (at i))) (sym p.0)
      ∙ ap (λ (js : List ℕ). j ∷ js) (path_is (next_of (at i)) n is p.2 (omega arith))

  pub path_short : (i n : ℕ) → length (path at last n i) ≤ n
  path_short i zero = omega arith
  path_short i (suc n) =
      let behind = path_short (next_of (at i)) n in
      cond_both (i == last) [] (i ∷ path at last n (next_of (at i))) (λ (is : List ℕ). length is ≤ suc n) (λ _. omega arith) (λ _. omega (arith, behind))

  -- where no node stands before the last one, it is the first one
  pub path_none : (i n : ℕ) → i ≡ last → path at last n i ≡ []
  path_none i n e = path_is i n [] e (omega arith)

  -- else the first one is the first of them
  pub path_some : (i : ℕ) (is : List ℕ) → i ≢ last → IsPath at last i is → (js : List ℕ) × (is ≡ i ∷ js) × IsPath at last (next_of (at i)) js
  path_some i [] n p = absurd (n p)
  path_some i (j ∷ is) n p = (is, ap (λ (k : ℕ). k ∷ is) p.0, p.2)

  -- the last node leads to a further one
  pub path_longer : (more i : ℕ) (is : List ℕ) → last ≢ more → IsFresh more is → next_of (at last) ≡ more → IsPath at last i is → IsPath at more i (is ++ last ∷ [])
  path_longer more i [] n f e p = (sym p, (λ (s : i ≡ more). n (sym p ∙ s)), ap (λ (j : ℕ). next_of (at j)) p ∙ e)
  path_longer more i (j ∷ is) n f e p = (p.0, (λ (s : i ≡ more). f.0 (p.0 ∙ s)), path_longer more (next_of (at i)) is n f.1 e p.2)

-- ---- a change of the store at one node

module _ (at new : ℕ → Option Node) (j : ℕ) (kept : (i : ℕ) → i ≢ j → new i ≡ at i) where
  pub path_kept : (last i : ℕ) (is : List ℕ) → IsFresh j is → IsPath at last i is → IsPath new last i is
  path_kept last i [] f p = p
  path_kept last i (k ∷ is) f p = (
    p.0,
    p.1,
    subst (λ (o : Option Node). IsPath new last (next_of o) is) (sym (kept i (λ (e : i ≡ j). f.0 (p.0 ∙ e))))
        (path_kept last (next_of (at i)) is f.1 p.2),
  )

  -- the node is made to lead past the one behind it
  pub path_past : (last i m : ℕ) (is js : List ℕ) → next_of (new j) ≡ next_of (at m) → IsFresh j is → IsFresh j js → IsPath at last i (is ++ j ∷ m ∷ js) → IsPath new last i (is ++ j ∷ js)
  path_past last i m [] js e f g p =
      let leads : next_of (at (next_of (at i))) ≡ next_of (new i) =
      ap (λ (k : ℕ). next_of (at k)) (sym p.2.0)
      ∙ sym e ∙ ap (λ (k : ℕ). next_of (new k)) p.0 in (
        p.0,
        p.1,
        subst (λ (k : ℕ). IsPath new last k js) leads (path_kept last (next_of (at (next_of (at i)))) js g p.2.2),
      )
  path_past last i m (k ∷ is) js e f g p = (
    p.0,
    p.1,
    subst (λ (o : Option Node). IsPath new last (next_of o) (is ++ j ∷ js)) (sym (kept i (λ (s : i ≡ j). f.0 (p.0 ∙ s))))
        (path_past last (next_of (at i)) m is js e f.1 g p.2),
  )

  pub row_kept : (i n : ℕ) → IsFresh j (row at i n) → row new i n ≡ row at i n
  row_kept i zero f = refl
  row_kept i (suc n) f =
      ap (λ (o : Option Node). i ∷ row new (next_of o) n) (kept i f.0)
      ∙ ap (λ (is : List ℕ). i ∷ is) (row_kept (next_of (at i)) n f.1)

  pub items_kept : (is : List ℕ) → IsFresh j is → items new is ≡ items at is
  items_kept [] f = refl
  items_kept (i ∷ is) f = ap (λ (o : Option Node). item_then o (items new is)) (kept i f.0) ∙ ap (item_then (at i)) (items_kept is f.1)

-- ---- events

-- a change of no event
pub items_same : (at new : ℕ → Option Node) (is : List ℕ) → ((i : ℕ) (ws : List Numbered) → item_then (new i) ws ≡ item_then (at i) ws) → items new is ≡ items at is
items_same at new [] same = refl
items_same at new (i ∷ is) same = same i (items new is) ∙ ap (item_then (at i)) (items_same at new is same)

module _ (at : ℕ → Option Node) where
  length_then : (o : Option Node) (ws : List Numbered) → IsSome o → length (item_then o ws) ≡ suc (length ws)
  length_then None ws s = cc
  length_then (Some n) ws s = refl

  pub length_items : (owner : ℕ → ℕ) (k : ℕ) (is : List ℕ) → AreNodes at owner k is → length (items at is) ≡ length is
  length_items owner k [] p = refl
  length_items owner k (i ∷ is) p = length_then (at i) (items at is) p.0 ∙ ap suc (length_items owner k is p.3)

  then_append : (o : Option Node) (ws us : List Numbered) → item_then o (ws ++ us) ≡ item_then o ws ++ us
  then_append None ws us = refl
  then_append (Some n) ws us = refl

  pub items_append : (is js : List ℕ) → items at (is ++ js) ≡ items at is ++ items at js
  items_append [] js = refl
  items_append (i ∷ is) js = ap (item_then (at i)) (items_append is js) ∙ then_append (at i) (items at is) (items at js)
