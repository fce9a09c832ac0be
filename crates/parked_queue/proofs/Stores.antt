-- The chains after an event has come into one of them, or left it. `at` is the store before it, and `new` the one after it.
use Rattle.std.proofs.Common.{◌≡◌, ◌≢◌, ℕ, suc, ◌<◌, ◌≤◌, List, [], ◌∷◌, ◌++◌, length, length-append, append_assoc, eqb, cond, Bool, Option, Some, IsSome, refl, sym, ap, subst, ◌∙◌, arith, slice_set, ⊎_elim}
use Rattle.std.proofs.lemmas.Bool.{cases_eq, eq-eqb, ne_eqb}
use Rattle.std.proofs.lemmas.List.{get_or-set_same, get_or-set_other, length-set}
use Rattle.evt_types.specs.declared.event.Numbered.{Numbered}
use Rattle.parked_queue.specs.Chains.{IsFresh, IsPath, AreNodes, IsChain, chain_at, events_of, item_then, items, next_of, no_chain, nodes_of, path_of, row}
use Rattle.parked_queue.specs.Store.{AreChains}
use Rattle.parked_queue.specs.declared.chain.Chain.{Chain}
use Rattle.parked_queue.specs.declared.chain.Node.{Node}
use Rattle.parked_queue.proofs.Nodes.{node_found, some_found}
use Rattle.parked_queue.proofs.Paths.{fresh_back, fresh_front, fresh_other, items_append, items_kept, items_same, nodes_kept, nodes_longer, nodes_owned, nodes_without, path_is, path_kept, path_longer, path_past, path_short, path_some, row_kept}

-- ---- owners of nodes

abbrev pub owner_with : (ℕ → ℕ) → ℕ → ℕ → ℕ → ℕ
owner_with owner j k i = cond (eqb i j) k (owner i)

pub owned_other : (owner : ℕ → ℕ) (j k i : ℕ) → i ≢ j → owner_with owner j k i ≡ owner i
owned_other owner j k i n = ap (λ (b : Bool). cond b k (owner i)) (ne_eqb i j n)

pub owned_new : (owner : ℕ → ℕ) (j k : ℕ) → owner_with owner j k j ≡ k
owned_new owner j k = ap (λ (b : Bool). cond b k (owner j)) (eq-eqb j j refl)

-- ---- one chain

-- a chain by its path
module _ (at : ℕ → Option Node) (size : ℕ) (c : Chain) (is : List ℕ) (leads : IsPath at c.spare c.first is) (short : length is ≤ size) where
  pub path_made : path_of at size c ≡ is
  path_made = path_is at c.spare c.first size is leads short

  pub chain_made : (owner : ℕ → ℕ) (k : ℕ) → AreNodes at owner k (is ++ c.spare ∷ []) → IsChain at owner k size c
  chain_made owner k nodes =
      record {
        leads = subst (IsPath at c.spare c.first) (sym path_made) leads;
        nodes = subst (λ (js : List ℕ). AreNodes at owner k (js ++ c.spare ∷ [])) (sym path_made) nodes;
      }

-- a chain that lacks the node that has changed
module _ (at new : ℕ → Option Node) (size j : ℕ) (kept : (i : ℕ) → i ≢ j → new i ≡ at i) (some : (i : ℕ) → IsSome (at i) → IsSome (new i)) (owner : ℕ → ℕ) (k : ℕ) (c : Chain) (d : IsChain at owner k size c) (fresh : IsFresh j (nodes_of at size c)) where
  leads_kept : IsPath new c.spare c.first (path_of at size c)
  leads_kept = path_kept at new j kept c.spare c.first (path_of at size c) (fresh_front j (path_of at size c) (c.spare ∷ []) fresh) d.leads

  path_same : path_of new size c ≡ path_of at size c
  path_same = path_made new size c (path_of at size c) leads_kept (path_short at c.spare c.first size)

  pub chain_kept : IsChain new owner k size c
  chain_kept =
      chain_made new size c (path_of at size c) leads_kept (path_short at c.spare c.first size) owner k
      (nodes_kept at owner new k (nodes_of at size c) some d.nodes)

  pub events_kept : events_of new size c ≡ events_of at size c
  events_kept = ap (items new) path_same ∙ items_kept at new j kept (path_of at size c) (fresh_front j (path_of at size c) (c.spare ∷ []) fresh)

-- a changed chain among the others
module _ (at new : ℕ → Option Node) (size n free k : ℕ) (cs : List Chain) (c : Chain) (owner : ℕ → ℕ) (there : k < length cs) where
  pub chains_with : ((m : ℕ) → m ≢ k → m < length cs → IsChain new owner (suc m) size (chain_at cs m)) → IsChain new owner (suc k) size c → AreNodes new owner 0 (row new free n) → AreChains new size n free (slice_set cs k c)
  chains_with others here unused =
      let at_k : chain_at (slice_set cs k c) k ≡ c = get_or-set_same cs k c no_chain there in
      let at_other : (m : ℕ) → m ≢ k → chain_at (slice_set cs k c) m ≡ chain_at cs m = λ (m : ℕ) (differs : m ≢ k). get_or-set_other cs k m c no_chain differs in
      let P : ℕ → Chain → Type 0 = λ (m : ℕ) (x : Chain). IsChain new owner (suc m) size x in
      record {
        owner = owner;
        each =
            λ (m : ℕ) (lt : m < length (slice_set cs k c)).
            ⊎_elim
            (λ (e : m ≡ k). subst (λ (j : ℕ). P j (chain_at (slice_set cs k c) j)) (sym e) (subst (P k) (sym at_k) here))
            (λ (differs : m ≢ k). subst (P m) (sym (at_other m differs)) (others m differs (omega (arith, lt, length-set cs k c))))
            (cases_eq m k);
        unused = unused;
      }

-- ---- a node that no chain has, and that isn't free

-- it is to be the owner's
pub record HasLoose (at : ℕ → Option Node) (size n free : ℕ) (cs : List Chain) (j o : ℕ) : Type 0 where
  pub chains : AreChains at size n free cs
  pub some : IsSome (at j)
  pub owned : chains.owner j ≡ o
  pub fresh : (m : ℕ) → m < length cs → IsFresh j (nodes_of at size (chain_at cs m))
  pub unused : IsFresh j (row at free n)

loose_owned : (at : ℕ → Option Node) (size n free : ℕ) (cs : List Chain) (j o : ℕ) (d : AreChains at size n free cs) → IsSome (at j) → ((m : ℕ) → m < length cs → IsFresh j (nodes_of at size (chain_at cs m))) → IsFresh j (row at free n) → HasLoose at size n free cs j o
loose_owned at size n free cs j o d some fresh unused =
    record {
      chains =
          record {
            owner = owner_with d.owner j o;
            each =
                λ (m : ℕ) (lt : m < length cs).
                let is = d.each m lt in
                record {
                  leads = is.leads;
                  nodes = nodes_owned at d.owner (owner_with d.owner j o) (suc m) j (nodes_of at size (chain_at cs m)) (owned_other d.owner j o) (fresh m lt) is.nodes;
                };
            unused = nodes_owned at d.owner (owner_with d.owner j o) 0 j (row at free n) (owned_other d.owner j o) unused d.unused;
          };
      some = some;
      owned = owned_new d.owner j o;
      fresh = fresh;
      unused = unused;
    }

-- the node that became free last is taken
pub loose_taken : (at : ℕ → Option Node) (size n free : ℕ) (cs : List Chain) (o : ℕ) → AreChains at size (suc n) free cs → HasLoose at size n (next_of (at free)) cs free o
loose_taken at size n free cs o d =
    loose_owned at size n (next_of (at free)) cs free o
    (record { owner = d.owner; each = d.each; unused = d.unused.3 })
    d.unused.0
    (λ (m : ℕ) (lt : m < length cs).
    fresh_other at d.owner (suc m) free (nodes_of at size (chain_at cs m)) (λ (e : d.owner free ≡ suc m). omega (arith, e, d.unused.1)) (d.each m lt).nodes)
    d.unused.2

-- a node of a chain has left it, and the others have kept theirs
module _ (at : ℕ → Option Node) (owner : ℕ → ℕ) (size k : ℕ) (c : Chain) (d : IsChain at owner (suc k) size c) where
  pub spare_parts : IsSome (at c.spare) × (owner c.spare ≡ suc k) × IsFresh c.spare (path_of at size c ++ []) × AreNodes at owner (suc k) (path_of at size c ++ [])
  spare_parts = nodes_without at owner (suc k) c.spare (path_of at size c) [] d.nodes

  pub spare_fresh : IsFresh c.spare (path_of at size c)
  spare_fresh = fresh_front c.spare (path_of at size c) [] spare_parts.2

-- ---- a change at one node

module _ (at new : ℕ → Option Node) (j : ℕ) (kept : (i : ℕ) → i ≢ j → new i ≡ at i) where
  -- none is lost
  pub some_kept : IsSome (new j) → (i : ℕ) → IsSome (at i) → IsSome (new i)
  some_kept here i s =
      ⊎_elim
      (λ (e : i ≡ j). subst (λ (m : ℕ). IsSome (new m)) (sym e) here)
      (λ (differs : i ≢ j). subst (λ (o : Option Node). IsSome o) (sym (kept i differs)) s)
      (cases_eq i j)

  module _ (next : ℕ) (linked : (n : Node) → at j ≡ Some n → new j ≡ Some (record n { next = next })) (there : IsSome (at j)) where
    pub linked_some : IsSome (new j)
    linked_some = some_found (new j) _ (linked (node_found (at j) there).0 (node_found (at j) there).1)

    pub leads_next : next_of (new j) ≡ next
    leads_next = ap next_of (linked (node_found (at j) there).0 (node_found (at j) there).1)

    -- nor an event
    pub item_kept : (i : ℕ) (ws : List Numbered) → item_then (new i) ws ≡ item_then (at i) ws
    item_kept i ws =
        let found = node_found (at j) there in
        ⊎_elim
        (λ (e : i ≡ j).
        ap (λ (m : ℕ). item_then (new m) ws) e
        ∙ ap (λ (o : Option Node). item_then o ws) (linked found.0 found.1)
        ∙ sym (ap (λ (m : ℕ). item_then (at m) ws) e ∙ ap (λ (o : Option Node). item_then o ws) found.1))
        (λ (differs : i ≢ j). ap (λ (o : Option Node). item_then o ws) (kept i differs))
        (cases_eq i j)

-- ---- an event comes

module _ (at new : ℕ → Option Node) (size n free : ℕ) (cs : List Chain) (k j : ℕ) (w : Numbered) (there : k < length cs) (d : HasLoose at size n free cs j (suc k)) (filled : new (chain_at cs k).spare ≡ Some (record { item = w; next = j })) (kept : (i : ℕ) → i ≢ (chain_at cs k).spare → new i ≡ at i) where
  abbrev c : Chain
  c = chain_at cs k

  abbrev is : List ℕ
  is = path_of at size c

  abbrev longer : Chain
  longer = record { first = c.first; spare = j }

  here : IsChain at d.chains.owner (suc k) size c
  here = d.chains.each k there

  spare : IsSome (at c.spare) × (d.chains.owner c.spare ≡ suc k) × IsFresh c.spare (is ++ []) × AreNodes at d.chains.owner (suc k) (is ++ [])
  spare = spare_parts at d.chains.owner size k c here

  some : (i : ℕ) → IsSome (at i) → IsSome (new i)
  some = some_kept at new c.spare kept (some_found (new c.spare) _ filled)

  differs : c.spare ≢ j
  differs e = (fresh_back j is (c.spare ∷ []) (d.fresh k there)).0 e

  leads : IsPath new j c.first (is ++ c.spare ∷ [])
  leads =
      path_longer new c.spare j c.first is differs (fresh_front j is (c.spare ∷ []) (d.fresh k there)) (ap next_of filled)
      (path_kept at new c.spare kept c.spare c.first is (spare_fresh at d.chains.owner size k c here) here.leads)

  fresh_spare : (o : ℕ) (js : List ℕ) → o ≢ suc k → AreNodes at d.chains.owner o js → IsFresh c.spare js
  fresh_spare o js ne p = fresh_other at d.chains.owner o c.spare js (λ (e : d.chains.owner c.spare ≡ o). ne (sym e ∙ spare.1)) p

  fresh_at : (m : ℕ) → m ≢ k → (lt : m < length cs) → IsFresh c.spare (nodes_of at size (chain_at cs m))
  fresh_at m ne lt = fresh_spare (suc m) (nodes_of at size (chain_at cs m)) (λ (e : suc m ≡ suc k). ne (omega (arith, e))) (d.chains.each m lt).nodes

  fresh_row : IsFresh c.spare (row at free n)
  fresh_row = fresh_spare 0 (row at free n) (λ (e : 0 ≡ suc k). omega (arith, e)) d.chains.unused

  pub come_others : (m : ℕ) → m ≢ k → m < length cs → events_of new size (chain_at cs m) ≡ events_of at size (chain_at cs m)
  come_others m ne lt = events_kept at new size c.spare kept some d.chains.owner (suc m) (chain_at cs m) (d.chains.each m lt) (fresh_at m ne lt)

  module _ (short : length is < size) where
    short_more : length (is ++ c.spare ∷ []) ≤ size
    short_more = omega (arith, short, length-append is (c.spare ∷ []))

    pub chains_come : AreChains new size n free (slice_set cs k longer)
    chains_come =
        chains_with at new size n free k cs longer d.chains.owner there
        (λ (m : ℕ) (ne : m ≢ k) (lt : m < length cs). chain_kept at new size c.spare kept some d.chains.owner (suc m) (chain_at cs m) (d.chains.each m lt) (fresh_at m ne lt))
        (chain_made new size longer (is ++ c.spare ∷ []) leads short_more d.chains.owner (suc k)
        (nodes_longer new d.chains.owner (suc k) j (nodes_of at size c) (some j d.some) d.owned (d.fresh k there) (nodes_kept at d.chains.owner new (suc k) (nodes_of at size c) some here.nodes)))
        (subst (AreNodes new d.chains.owner 0) (sym (row_kept at new c.spare kept free n fresh_row)) (nodes_kept at d.chains.owner new 0 (row at free n) some d.chains.unused))

    pub events_come : events_of new size longer ≡ events_of at size c ++ w ∷ []
    events_come =
        ap (items new) (path_made new size longer (is ++ c.spare ∷ []) leads short_more)
        ∙ items_append new is (c.spare ∷ [])
        ∙ ap (λ (ws : List Numbered). ws ++ items new (c.spare ∷ [])) (items_kept at new c.spare kept is (spare_fresh at d.chains.owner size k c here))
        ∙ ap (λ (o : Option Node). items at is ++ item_then o []) filled

-- ---- an event leaves: its node is loose

-- it is the first one of its chain
module _ (at : ℕ → Option Node) (size n free : ℕ) (cs : List Chain) (k : ℕ) (there : k < length cs) (d : AreChains at size n free cs) (some : (chain_at cs k).first ≢ (chain_at cs k).spare) where
  abbrev first : Chain
  first = chain_at cs k

  abbrev rest : Chain
  rest = record { first = next_of (at first.first); spare = first.spare }

  split : (js : List ℕ) × (path_of at size first ≡ first.first ∷ js) × IsPath at first.spare (next_of (at first.first)) js
  split = path_some at first.spare first.first (path_of at size first) some (d.each k there).leads

  short_rest : length split.0 ≤ size
  short_rest = omega (arith, path_short at first.spare first.first size, ap length split.1)

  parts : IsSome (at first.first) × (d.owner first.first ≡ suc k) × IsFresh first.first (split.0 ++ first.spare ∷ []) × AreNodes at d.owner (suc k) (split.0 ++ first.spare ∷ [])
  parts = subst (λ (js : List ℕ). AreNodes at d.owner (suc k) (js ++ first.spare ∷ [])) split.1 (d.each k there).nodes

  chains_rest : AreChains at size n free (slice_set cs k rest)
  chains_rest =
      chains_with at at size n free k cs rest d.owner there (λ (m : ℕ) (ne : m ≢ k) (lt : m < length cs). d.each m lt)
      (chain_made at size rest split.0 split.2 short_rest d.owner (suc k) parts.3)
      d.unused

  nodes_rest : nodes_of at size rest ≡ split.0 ++ first.spare ∷ []
  nodes_rest = ap (λ (js : List ℕ). js ++ first.spare ∷ []) (path_made at size rest split.0 split.2 short_rest)

  fresh_first : (m : ℕ) → m < length (slice_set cs k rest) → IsFresh first.first (nodes_of at size (chain_at (slice_set cs k rest) m))
  fresh_first m lt =
      let P : Chain → Type 0 = λ (x : Chain). IsFresh first.first (nodes_of at size x) in
      ⊎_elim
      (λ (e : m ≡ k). subst (λ (j : ℕ). P (chain_at (slice_set cs k rest) j)) (sym e) (subst P (sym (get_or-set_same cs k rest no_chain there)) (subst (IsFresh first.first) (sym nodes_rest) parts.2)))
      (λ (ne : m ≢ k).
      subst P (sym (get_or-set_other cs k m rest no_chain ne))
      (fresh_other at d.owner (suc m) first.first (nodes_of at size (chain_at cs m)) (λ (e : d.owner first.first ≡ suc m). ne (omega (arith, e, parts.1))) (d.each m (omega (arith, lt, length-set cs k rest))).nodes))
      (cases_eq m k)

  pub loose_first : HasLoose at size n free (slice_set cs k rest) first.first 0
  loose_first =
      loose_owned at size n free (slice_set cs k rest) first.first 0 chains_rest parts.0 fresh_first
      (fresh_other at d.owner 0 first.first (row at free n) (λ (e : d.owner first.first ≡ 0). omega (arith, e, parts.1)) d.unused)

  pub events_first : events_of at size first ≡ item_then (at first.first) (events_of at size rest)
  events_first =
      ap (items at) split.1 ∙ ap (λ (js : List ℕ). item_then (at first.first) (items at js)) (sym (path_made at size rest split.0 split.2 short_rest))

-- it stands behind another one of its chain, which is made to lead past it
module _ (at new : ℕ → Option Node) (size n free : ℕ) (cs : List Chain) (k i : ℕ) (front rest : List ℕ) (there : k < length cs) (d : AreChains at size n free cs) (whole : path_of at size (chain_at cs k) ≡ front ++ i ∷ next_of (at i) ∷ rest) (linked : (m : Node) → at i ≡ Some m → new i ≡ Some (record m { next = next_of (at (next_of (at i))) })) (kept : (m : ℕ) → m ≢ i → new m ≡ at m) where
  abbrev whole_chain : Chain
  whole_chain = chain_at cs k

  abbrev j : ℕ
  j = next_of (at i)

  abbrev behind : List ℕ
  behind = rest ++ whole_chain.spare ∷ []

  nodes : AreNodes at d.owner (suc k) (front ++ i ∷ j ∷ behind)
  nodes =
      subst (AreNodes at d.owner (suc k)) (ap (λ (is : List ℕ). is ++ whole_chain.spare ∷ []) whole ∙ append_assoc front (i ∷ j ∷ rest) (whole_chain.spare ∷ [])) (d.each k there).nodes

  at_i : IsSome (at i) × (d.owner i ≡ suc k) × IsFresh i (front ++ j ∷ behind) × AreNodes at d.owner (suc k) (front ++ j ∷ behind)
  at_i = nodes_without at d.owner (suc k) i front (j ∷ behind) nodes

  at_j : IsSome (at j) × (d.owner j ≡ suc k) × IsFresh j ((front ++ i ∷ []) ++ behind) × AreNodes at d.owner (suc k) ((front ++ i ∷ []) ++ behind)
  at_j =
      nodes_without at d.owner (suc k) j (front ++ i ∷ []) behind
      (subst (AreNodes at d.owner (suc k)) (sym (append_assoc front (i ∷ []) (j ∷ behind))) nodes)

  regroup : (front ++ i ∷ []) ++ behind ≡ (front ++ i ∷ rest) ++ whole_chain.spare ∷ []
  regroup =
      append_assoc front (i ∷ []) behind
      ∙ sym (append_assoc front (i ∷ rest) (whole_chain.spare ∷ []))

  some_past : (m : ℕ) → IsSome (at m) → IsSome (new m)
  some_past = some_kept at new i kept (linked_some at new i kept (next_of (at j)) linked at_i.0)

  leads_past : IsPath new whole_chain.spare whole_chain.first (front ++ i ∷ rest)
  leads_past =
      path_past at new i kept whole_chain.spare whole_chain.first j front rest (leads_next at new i kept (next_of (at j)) linked at_i.0)
      (fresh_front i front (j ∷ behind) at_i.2)
      (fresh_front i rest (whole_chain.spare ∷ []) (fresh_back i front (j ∷ behind) at_i.2).1)
      (subst (IsPath at whole_chain.spare whole_chain.first) whole (d.each k there).leads)

  short_past : length (front ++ i ∷ rest) ≤ size
  short_past =
      omega
      (arith, path_short at whole_chain.spare whole_chain.first size, ap length whole, length-append front (i ∷ j ∷ rest), length-append front (i ∷ rest))

  path_then : path_of new size whole_chain ≡ front ++ i ∷ rest
  path_then = path_made new size whole_chain (front ++ i ∷ rest) leads_past short_past

  fresh_i : (m : ℕ) → m ≢ k → (lt : m < length cs) → IsFresh i (nodes_of at size (chain_at cs m))
  fresh_i m ne lt = fresh_other at d.owner (suc m) i (nodes_of at size (chain_at cs m)) (λ (e : d.owner i ≡ suc m). ne (omega (arith, e, at_i.1))) (d.each m lt).nodes

  each_past : (m : ℕ) → m < length cs → IsChain new d.owner (suc m) size (chain_at cs m)
  each_past m lt =
      ⊎_elim
      (λ (e : m ≡ k).
      subst (λ (o : ℕ). IsChain new d.owner (suc o) size (chain_at cs o)) (sym e)
      (chain_made new size whole_chain (front ++ i ∷ rest) leads_past short_past d.owner (suc k)
      (nodes_kept at d.owner new (suc k) ((front ++ i ∷ rest) ++ whole_chain.spare ∷ []) some_past (subst (AreNodes at d.owner (suc k)) regroup at_j.3))))
      (λ (ne : m ≢ k). chain_kept at new size i kept some_past d.owner (suc m) (chain_at cs m) (d.each m lt) (fresh_i m ne lt))
      (cases_eq m k)

  row_past : row new free n ≡ row at free n
  row_past = row_kept at new i kept free n (fresh_other at d.owner 0 i (row at free n) (λ (e : d.owner i ≡ 0). omega (arith, e, at_i.1)) d.unused)

  chains_past : AreChains new size n free cs
  chains_past =
      record {
        owner = d.owner;
        each = each_past;
        unused = subst (AreNodes new d.owner 0) (sym row_past) (nodes_kept at d.owner new 0 (row at free n) some_past d.unused);
      }

  fresh_j : (m : ℕ) → m < length cs → IsFresh j (nodes_of new size (chain_at cs m))
  fresh_j m lt =
      ⊎_elim
      (λ (e : m ≡ k).
      subst (λ (o : ℕ). IsFresh j (nodes_of new size (chain_at cs o))) (sym e)
      (subst (IsFresh j) (sym (ap (λ (is : List ℕ). is ++ whole_chain.spare ∷ []) path_then)) (subst (IsFresh j) regroup at_j.2)))
      (λ (ne : m ≢ k). fresh_other new d.owner (suc m) j (nodes_of new size (chain_at cs m)) (λ (e : d.owner j ≡ suc m). ne (omega (arith, e, at_j.1))) (each_past m lt).nodes)
      (cases_eq m k)

  pub loose_past : HasLoose new size n free cs j 0
  unfolding chains_past
  loose_past =
      loose_owned new size n free cs j 0 chains_past (some_past j at_j.0) fresh_j
      (fresh_other new d.owner 0 j (row new free n) (λ (e : d.owner j ≡ 0). omega (arith, e, at_j.1)) chains_past.unused)

  pub events_past : events_of new size whole_chain ≡ items at (front ++ i ∷ rest)
  events_past =
      ap (items new) path_then ∙ items_same at new (front ++ i ∷ rest) (item_kept at new i kept (next_of (at j)) linked at_i.0)

  pub past_others : (m : ℕ) → m ≢ k → m < length cs → events_of new size (chain_at cs m) ≡ events_of at size (chain_at cs m)
  past_others m ne lt = events_kept at new size i kept some_past d.owner (suc m) (chain_at cs m) (d.each m lt) (fresh_i m ne lt)

-- ---- and then it is free

module _ (at new : ℕ → Option Node) (size n free : ℕ) (cs : List Chain) (j : ℕ) (d : HasLoose at size n free cs j 0) (linked : (m : Node) → at j ≡ Some m → new j ≡ Some (record m { next = free })) (kept : (m : ℕ) → m ≢ j → new m ≡ at m) where
  some_freed : (m : ℕ) → IsSome (at m) → IsSome (new m)
  some_freed = some_kept at new j kept (linked_some at new j kept free linked d.some)

  row_freed : row new j (suc n) ≡ j ∷ row at free n
  row_freed =
      ap (λ (m : ℕ). j ∷ row new m n) (leads_next at new j kept free linked d.some)
      ∙ ap (λ (is : List ℕ). j ∷ is) (row_kept at new j kept free n d.unused)

  pub chains_freed : AreChains new size (suc n) j cs
  chains_freed =
      record {
        owner = d.chains.owner;
        each = λ (m : ℕ) (lt : m < length cs). chain_kept at new size j kept some_freed d.chains.owner (suc m) (chain_at cs m) (d.chains.each m lt) (d.fresh m lt);
        unused =
            subst (AreNodes new d.chains.owner 0) (sym row_freed)
            (some_freed j d.some, d.owned, d.unused, nodes_kept at d.chains.owner new 0 (row at free n) some_freed d.chains.unused);
      }

  pub events_freed : (m : ℕ) → m < length cs → events_of new size (chain_at cs m) ≡ events_of at size (chain_at cs m)
  events_freed m lt = events_kept at new size j kept some_freed d.chains.owner (suc m) (chain_at cs m) (d.chains.each m lt) (d.fresh m lt)
