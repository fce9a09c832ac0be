-- The chains after the first nodes of one of them have become free, as a row. `at` is the store before it, and `new` the one after it.
use Rattle.std.proofs.Common.{◌≡◌, ◌≢◌, ℕ, zero, suc, ◌+◌, ◌<◌, ◌≤◌, List, [], ◌∷◌, ◌++◌, length, length-append, append_assoc, drop, Option, Some, IsSome, refl, sym, ap, subst, ◌∙◌, arith, slice_set}
use Rattle.std.proofs.Math.Seq.{drop-append_seam}
use Rattle.parked_queue.specs.Chains.{IsFresh, IsPath, AreNodes, IsChain, chain_at, events_of, items, next_of, nodes_of, path_of, row}
use Rattle.parked_queue.specs.Store.{AreChains}
use Rattle.parked_queue.specs.declared.chain.Chain.{Chain}
use Rattle.parked_queue.specs.declared.chain.Node.{Node}
use Rattle.parked_queue.proofs.Paths.{fresh_back, fresh_both, fresh_front, fresh_other, front_nodes, items_append, items_kept, length_items, nodes_kept, nodes_owned, nodes_without, path_kept, path_short, row_kept}
use Rattle.parked_queue.proofs.Stores.{chain_kept, chain_made, chains_with, events_kept, leads_next, linked_some, owned_new, owned_other, owner_with, path_made, some_kept}

-- ---- nodes get another owner

abbrev owners_with : (ℕ → ℕ) → List ℕ → ℕ → ℕ → ℕ
owners_with owner [] k = owner
owners_with owner (j ∷ js) k = owner_with (owners_with owner js k) j k

-- none of the nodes is among the others
abbrev AreFresh : List ℕ → List ℕ → Type 0
AreFresh [] is = Unit {0}
AreFresh (j ∷ js) is = IsFresh j is × AreFresh js is

module _ (at : ℕ → Option Node) (owner : ℕ → ℕ) where
  -- nodes of two owners
  fresh_others : (k o : ℕ) (js is : List ℕ) → k ≢ o → AreNodes at owner k js → AreNodes at owner o is → AreFresh js is
  fresh_others k o [] is ne p q = tt
  fresh_others k o (j ∷ js) is ne p q = (fresh_other at owner o j is (λ (e : owner j ≡ o). ne (sym p.1 ∙ e)) q, fresh_others k o js is ne p.3 q)

  -- nodes, and those behind them
  fresh_behind : (k : ℕ) (js is : List ℕ) → AreNodes at owner k (js ++ is) → AreFresh js is
  fresh_behind k [] is p = tt
  fresh_behind k (j ∷ js) is p = (fresh_back j js is p.2, fresh_behind k js is p.3)

  back_nodes : (k : ℕ) (js is : List ℕ) → AreNodes at owner k (js ++ is) → AreNodes at owner k is
  back_nodes k [] is p = p
  back_nodes k (j ∷ js) is p = back_nodes k js is p.3

  nodes_joined : (k : ℕ) (js is : List ℕ) → AreNodes at owner k js → AreNodes at owner k is → AreFresh js is → AreNodes at owner k (js ++ is)
  nodes_joined k [] is p q f = q
  nodes_joined k (j ∷ js) is p q f = (p.0, p.1, fresh_both j js is p.2 f.0, nodes_joined k js is p.3 q f.1)

  -- those that get it, and those that keep theirs
  nodes_given : (k o : ℕ) (js : List ℕ) → AreNodes at owner k js → AreNodes at (owners_with owner js o) o js
  nodes_given k o [] p = tt
  nodes_given k o (j ∷ js) p =
      let before = owners_with owner js o in
      (p.0, owned_new before j o, p.2, nodes_owned at before (owner_with before j o) o j js (owned_other before j o) p.2 (nodes_given k o js p.3))

  nodes_left : (k o : ℕ) (js is : List ℕ) → AreFresh js is → AreNodes at owner k is → AreNodes at (owners_with owner js o) k is
  nodes_left k o [] is f p = p
  nodes_left k o (j ∷ js) is f p =
      let before = owners_with owner js o in
      nodes_owned at before (owner_with before j o) k j is (owned_other before j o) f.0 (nodes_left k o js is f.1 p)

-- ---- a row of nodes

length_row : (at : ℕ → Option Node) (i n : ℕ) → length (row at i n) ≡ n
length_row at i zero = refl
length_row at i (suc n) = ap suc (length_row at (next_of (at i)) n)

module _ (at new : ℕ → Option Node) (j : ℕ) (kept : (i : ℕ) → i ≢ j → new i ≡ at i) (last : ℕ) where
  -- what leads on from behind a node of a path
  path_behind : (i : ℕ) (is js : List ℕ) → IsPath at last i (is ++ j ∷ js) → IsPath at last (next_of (at j)) js
  path_behind i [] js p = subst (λ (m : ℕ). IsPath at last (next_of (at m)) js) (sym p.0) p.2
  path_behind i (m ∷ is) js p = path_behind (next_of (at i)) is js p.2

  -- the node is made to lead to other nodes
  row_joined : (i : ℕ) (is js ks : List ℕ) → IsPath at last i (is ++ j ∷ js) → IsFresh j is → row new (next_of (new j)) (length ks) ≡ ks → row new i (length (is ++ j ∷ ks)) ≡ is ++ j ∷ ks
  row_joined i [] js ks p f e =
      ap (λ (m : ℕ). m ∷ row new (next_of (new m)) (length ks)) (sym p.0) ∙ ap (λ (ms : List ℕ). j ∷ ms) e
  row_joined i (m ∷ is) js ks p f e =
      ap (λ (o : Option Node). i ∷ row new (next_of o) (length (is ++ j ∷ ks))) (kept i (λ (s : i ≡ j). f.0 (p.0 ∙ s)))
      ∙ ap (λ (ms : List ℕ). i ∷ ms) (row_joined (next_of (at i)) is js ks p.2 f.1 e)
      ∙ ap (λ (x : ℕ). x ∷ (is ++ j ∷ ks)) (sym p.0)

-- ---- the last node of the row is made to lead to the free ones

module _ (at new : ℕ → Option Node) (size n free : ℕ) (cs : List Chain) (k j : ℕ) (front rest : List ℕ) (there : k < length cs) (d : AreChains at size n free cs) (whole : path_of at size (chain_at cs k) ≡ front ++ j ∷ rest) (linked : (m : Node) → at j ≡ Some m → new j ≡ Some (record m { next = free })) (kept : (i : ℕ) → i ≢ j → new i ≡ at i) where
  abbrev c : Chain
  c = chain_at cs k

  abbrev gone : List ℕ
  gone = front ++ j ∷ []

  abbrev behind : List ℕ
  behind = rest ++ c.spare ∷ []

  abbrev shorter : Chain
  shorter = record { first = next_of (at j); spare = c.spare }

  regroup : path_of at size c ++ c.spare ∷ [] ≡ front ++ j ∷ behind
  regroup = ap (λ (is : List ℕ). is ++ c.spare ∷ []) whole ∙ append_assoc front (j ∷ rest) (c.spare ∷ [])

  nodes : AreNodes at d.owner (suc k) (gone ++ behind)
  nodes = subst (AreNodes at d.owner (suc k)) (regroup ∙ sym (append_assoc front (j ∷ []) behind)) (d.each k there).nodes

  gone_nodes : AreNodes at d.owner (suc k) gone
  gone_nodes = front_nodes at d.owner (suc k) gone behind nodes

  at_j : IsSome (at j) × (d.owner j ≡ suc k) × IsFresh j (front ++ behind) × AreNodes at d.owner (suc k) (front ++ behind)
  at_j = nodes_without at d.owner (suc k) j front behind (subst (AreNodes at d.owner (suc k)) regroup (d.each k there).nodes)

  fresh_rest : IsFresh j rest
  fresh_rest = fresh_front j rest (c.spare ∷ []) (fresh_back j front behind at_j.2)

  some_still : (i : ℕ) → IsSome (at i) → IsSome (new i)
  some_still = some_kept at new j kept (linked_some at new j kept free linked at_j.0)

  leads_whole : IsPath at c.spare c.first (front ++ j ∷ rest)
  leads_whole = subst (IsPath at c.spare c.first) whole (d.each k there).leads

  leads : IsPath new c.spare (next_of (at j)) rest
  leads = path_kept at new j kept c.spare (next_of (at j)) rest fresh_rest (path_behind at new j kept c.spare c.first front rest leads_whole)

  short : length rest ≤ size
  short = omega (arith, path_short at c.spare c.first size, ap length whole, length-append front (j ∷ rest))

  fresh_at : (m : ℕ) → m ≢ k → (lt : m < length cs) → IsFresh j (nodes_of at size (chain_at cs m))
  fresh_at m ne lt = fresh_other at d.owner (suc m) j (nodes_of at size (chain_at cs m)) (λ (e : d.owner j ≡ suc m). ne (omega (arith, e, at_j.1))) (d.each m lt).nodes

  -- ---- owners

  after : ℕ → ℕ
  after = owners_with d.owner gone 0

  chain_after : (m : ℕ) → m ≢ k → (lt : m < length cs) → IsChain at after (suc m) size (chain_at cs m)
  unfolding after
  chain_after m ne lt =
      let is = d.each m lt in
      record {
        leads = is.leads;
        nodes = nodes_left at d.owner (suc m) 0 gone (nodes_of at size (chain_at cs m)) (fresh_others at d.owner (suc k) (suc m) gone (nodes_of at size (chain_at cs m)) (λ (e : suc k ≡ suc m). ne (omega (arith, e))) gone_nodes is.nodes) is.nodes;
      }

  behind_after : AreNodes at after (suc k) behind
  unfolding after
  behind_after = nodes_left at d.owner (suc k) 0 gone behind (fresh_behind at d.owner (suc k) gone behind nodes) (back_nodes at d.owner (suc k) gone behind nodes)

  fresh_unused : AreFresh gone (row at free n)
  fresh_unused = fresh_others at d.owner (suc k) 0 gone (row at free n) (λ (e : suc k ≡ 0). omega (arith, e)) gone_nodes d.unused

  unused_after : AreNodes at after 0 (gone ++ row at free n)
  unfolding after
  unused_after =
      nodes_joined at after 0 gone (row at free n) (nodes_given at d.owner (suc k) 0 gone gone_nodes) (nodes_left at d.owner 0 0 gone (row at free n) fresh_unused d.unused) fresh_unused

  -- ---- the free nodes

  free_kept : row new free n ≡ row at free n
  free_kept = row_kept at new j kept free n (fresh_other at d.owner 0 j (row at free n) (λ (e : d.owner j ≡ 0). omega (arith, e, at_j.1)) d.unused)

  free_behind : row new (next_of (new j)) (length (row at free n)) ≡ row at free n
  free_behind =
      ap (λ (i : ℕ). row new i (length (row at free n))) (leads_next at new j kept free linked at_j.0)
      ∙ ap (row new free) (length_row at free n) ∙ free_kept

  row_freed : row new c.first (length gone + n) ≡ gone ++ row at free n
  row_freed =
      ap (row new c.first) (omega (arith, length-append front (j ∷ []), length-append front (j ∷ row at free n), length_row at free n))
      ∙ row_joined at new j kept c.spare c.first front rest (row at free n) leads_whole (fresh_front j front behind at_j.2) free_behind
      ∙ sym (append_assoc front (j ∷ []) (row at free n))

  pub chains_joined : AreChains new size (length gone + n) c.first (slice_set cs k shorter)
  chains_joined =
      chains_with at new size (length gone + n) c.first k cs shorter after there
      (λ (m : ℕ) (ne : m ≢ k) (lt : m < length cs). chain_kept at new size j kept some_still after (suc m) (chain_at cs m) (chain_after m ne lt) (fresh_at m ne lt))
      (chain_made new size shorter rest leads short after (suc k) (nodes_kept at after new (suc k) behind some_still behind_after))
      (subst (AreNodes new after 0) (sym row_freed) (nodes_kept at after new 0 (gone ++ row at free n) some_still unused_after))

  -- ---- events

  pub joined_others : (m : ℕ) → m ≢ k → m < length cs → events_of new size (chain_at cs m) ≡ events_of at size (chain_at cs m)
  joined_others m ne lt = events_kept at new size j kept some_still d.owner (suc m) (chain_at cs m) (d.each m lt) (fresh_at m ne lt)

  events_whole : events_of at size c ≡ items at gone ++ items at rest
  events_whole = ap (items at) (whole ∙ sym (append_assoc front (j ∷ []) rest)) ∙ items_append at gone rest

  pub events_joined : events_of new size shorter ≡ drop (length gone) (events_of at size c)
  events_joined =
      ap (items new) (path_made new size shorter rest leads short)
      ∙ items_kept at new j kept rest fresh_rest
      ∙ sym
      (ap (drop (length gone)) events_whole
      ∙ ap (λ (m : ℕ). drop m (items at gone ++ items at rest)) (sym (length_items at d.owner (suc k) gone gone_nodes))
      ∙ drop-append_seam (items at gone) (items at rest))
