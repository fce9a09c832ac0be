-- The store and its chains before any event has come.
use Rattle.std.proofs.Common.{◌≡◌, ℕ, zero, suc, ◌+◌, ◌<◌, ◌≤◌, nat_lt, cond, List, [], ◌∷◌, ◌++◌, length, Option, IsSome, Vec, refl, sym, ap, subst, ◌∙◌, arith, slice_get, vec_len, ⊎_elim}
use Rattle.std.proofs.lemmas.Bool.{cases_eq, cond-false, cond-true, le-ltb, lt-ltb}
use Rattle.std.proofs.lemmas.List.{length_push}
use Rattle.lists.proofs.Lists.{slice_get-append_left, slice_get-last}
use Rattle.std.specs.declared.alloc.Global.{Global}
use Rattle.parked_queue.specs.Chains.{AreInRow, AreNodes, AreNewChains, IsChain, IsFresh, chain_at, next_of, row}
use Rattle.parked_queue.specs.Lists.{all_empty}
use Rattle.parked_queue.specs.Store.{IsStore}
use Rattle.parked_queue.specs.declared.chain.Chain.{Chain}
use Rattle.parked_queue.specs.declared.chain.Node.{Node}
use Rattle.parked_queue.proofs.Changes.{store_seen}
use Rattle.parked_queue.proofs.Nodes.{list_there}
use Rattle.parked_queue.proofs.Stores.{chain_made}
use Rattle.parked_queue.proofs.Totals.{total_none}
use Rattle.parked_queue.proofs.Views.{view_none}

-- what holds of each number below one, and of that one
up_to : (n : ℕ) (P : ℕ → Type 0) → ((i : ℕ) → i < n → P i) → P n → (i : ℕ) → i < n + 1 → P i
up_to n P each last i lt = ⊎_elim (λ e. subst P (sym e) last) (λ ne. each i (omega (arith, lt, ne))) (cases_eq i n)

-- one node more
row_more : (ns : List Node) (n : ℕ) (x : Node) → AreInRow ns n → x.next ≡ n + 1 → AreInRow (ns ++ x ∷ []) (n + 1)
row_more ns n x is next =
    record {
      count = omega (arith, length_push ns x, is.count);
      each =
          up_to n (λ i. next_of (slice_get (ns ++ x ∷ []) i) ≡ i + 1)
          (λ i less. ap next_of (slice_get-append_left ns (x ∷ []) i (omega (arith, less, is.count))) ∙ is.each i less)
          (ap (λ (j : ℕ). next_of (slice_get (ns ++ x ∷ []) j)) (sym is.count) ∙ ap next_of (slice_get-last ns x) ∙ next);
    }

pub row_none : (ns : List Node) → ns ≡ [] → AreInRow ns 0
row_none ns none = record { count = ap length none; each = λ (i : ℕ) (lt : i < 0). absurd (omega arith) }

pub row_pushed : (ns ms : List Node) (n : ℕ) (x : Node) → AreInRow ns n → ms ≡ ns ++ x ∷ [] → x.next ≡ n + 1 → AreInRow ms (n + 1)
row_pushed ns ms n x is pushed next = subst (λ xs. AreInRow xs (n + 1)) (sym pushed) (row_more ns n x is next)

-- and one chain more
chain_last : (cs : List Chain) (c : Chain) → chain_at (cs ++ c ∷ []) (length cs) ≡ c
chain_last [] c = refl
chain_last (x ∷ cs) c = chain_last cs c

chain_before : (cs : List Chain) (c : Chain) (k : ℕ) → k < length cs → chain_at (cs ++ c ∷ []) k ≡ chain_at cs k
chain_before [] c k lt = absurd (omega arith)
chain_before (x ∷ cs) c zero lt = refl
chain_before (x ∷ cs) c (suc k) lt = chain_before cs c k (omega arith)

chains_more : (cs : List Chain) (n : ℕ) (c : Chain) → AreNewChains cs n → c ≡ record { first = n; spare = n } → AreNewChains (cs ++ c ∷ []) (n + 1)
chains_more cs n c is made =
    record {
      count = omega (arith, length_push cs c, is.count);
      each =
          up_to n (λ k. chain_at (cs ++ c ∷ []) k ≡ record { first = k; spare = k })
          (λ k less. chain_before cs c k (omega (arith, less, is.count)) ∙ is.each k less)
          (ap (chain_at (cs ++ c ∷ [])) (sym is.count) ∙ chain_last cs c ∙ made);
    }

pub chains_none : (cs : List Chain) → cs ≡ [] → AreNewChains cs 0
chains_none cs none = record { count = ap length none; each = λ (k : ℕ) (lt : k < 0). absurd (omega arith) }

pub chains_pushed : (cs ds : List Chain) (n : ℕ) → AreNewChains cs n → ds ≡ cs ++ record { first = n; spare = n } ∷ [] → AreNewChains ds (n + 1)
chains_pushed cs ds n is pushed = subst (λ xs. AreNewChains xs (n + 1)) (sym pushed) (chains_more cs n (record { first = n; spare = n }) is refl)

-- ---- the nodes of the lists, and the free ones behind them

abbrev owner_of : ℕ → ℕ → ℕ
owner_of lists i = cond (nat_lt i lists) (suc i) 0

module _ (nodes : Vec Node Global) (count : ℕ) (is : AreInRow nodes.items count) where
  abbrev at : ℕ → Option Node
  at = slice_get nodes.items

  there : (i : ℕ) → i < count → IsSome (at i)
  there i lt = list_there nodes i (omega (arith, lt, is.count, nodes.ok.0))

  row_above : (j i n : ℕ) → j < i → i + n ≤ count → IsFresh j (row at i n)
  row_above j i zero lt le = tt
  row_above j i (suc n) lt le =
      let next : i + 1 ≡ next_of (at i) = sym (is.each i (omega arith)) in (
        λ (e : i ≡ j). omega arith,
        subst (λ (m : ℕ). IsFresh j (row at m n)) next (row_above j (i + 1) n (omega arith) (omega arith)),
      )

  row_nodes : (lists i n : ℕ) → lists ≤ i → i + n ≤ count → AreNodes at (owner_of lists) 0 (row at i n)
  row_nodes lists i zero from le = tt
  row_nodes lists i (suc n) from le =
      let next : i + 1 ≡ next_of (at i) = sym (is.each i (omega arith)) in (
        there i (omega arith),
        cond-false (nat_lt i lists) (suc i) 0 (le-ltb i lists from),
        subst (λ (m : ℕ). IsFresh i (row at m n)) next (row_above i (i + 1) n (omega arith) (omega arith)),
        subst (λ (m : ℕ). AreNodes at (owner_of lists) 0 (row at m n)) next (row_nodes lists (i + 1) n (omega arith) (omega arith)),
      )

  module _ (cs : List Chain) (lists room : ℕ) (are : AreNewChains cs lists) (enough : count ≡ lists + room + 1) where
    chain_new : (k : ℕ) → k < length cs → IsChain at (owner_of lists) (suc k) (vec_len nodes) (chain_at cs k)
    chain_new k lt =
        let less : k < lists = omega (arith, lt, are.count) in
        subst (IsChain at (owner_of lists) (suc k) (vec_len nodes)) (sym (are.each k less))
        (chain_made at (vec_len nodes) (record { first = k; spare = k }) [] refl (omega arith) (owner_of lists) (suc k)
        (there k (omega arith), cond-true (nat_lt k lists) (suc k) 0 (lt-ltb k lists less), tt, tt))

    pub store_new : IsStore at (vec_len nodes) lists cs room
    store_new =
        store_seen at (vec_len nodes) lists cs room (suc room) (all_empty lists room) (view_none at (vec_len nodes) cs lists room are)
        (omega (arith, total_none lists room))
        (omega (arith, total_none lists room))
        (omega (arith, enough, is.count, nodes.ok.0))
        (record {
          owner = owner_of lists;
          each = chain_new;
          unused = row_nodes lists lists (suc room) (omega arith) (omega arith);
        })
