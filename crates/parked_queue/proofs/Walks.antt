-- What is left of a chain's path at one of its nodes.
use Rattle.std.proofs.Common.{◌≡◌, ◌≢◌, ℕ, ◌+◌, ◌<◌, ◌≤◌, List, [], ◌∷◌, ◌++◌, ◌==◌, drop, length, length-append, append_assoc, map, All, false, true, Option, Some, IsSome, sym, ap, subst, ◌∙◌, arith, slice_get, slice_index_or, Vec}
use Rattle.std.specs.declared.alloc.Global.{Global}
use Rattle.std.proofs.lemmas.List.Elements.{All-append, All-cons, All-nil}
use Rattle.std.proofs.lemmas.List.{drop-drop, length-drop}
use Rattle.lists.proofs.Lists.{eqb_same, slice_get-drop}
use Rattle.std.proofs.lemmas.Bool.{false≢true}
use Rattle.evt_types.specs.declared.event.Delivery.{Delivery}
use Rattle.evt_types.specs.declared.event.Numbered.{Numbered}
use Rattle.parked_queue.specs.Chains.{AreNodes, HasNone, IsBehind, IsChain, IsPath, events_of, item_then, items, next_of, path, path_of}
use Rattle.parked_queue.specs.Lists.{has_number, named_delivery}
use Rattle.parked_queue.specs.declared.chain.Chain.{Chain}
use Rattle.parked_queue.specs.declared.chain.Node.{Node}
use Rattle.parked_queue.proofs.Nodes.{list_within, node_read}
use Rattle.parked_queue.proofs.Paths.{front_nodes, items_append, length_items, nodes_without, path_is, path_none, path_short, path_some}

-- these nodes lead from i to the last one
pub record IsLeft (at : ℕ → Option Node) (last i : ℕ) (is : List ℕ) : Type 0 where
  pub leads : IsPath at last i is
  pub owner : ℕ → ℕ
  pub k : ℕ
  pub nodes : AreNodes at owner k is

-- the first one of them, and what is left behind it
pub record HasNext (at : ℕ → Option Node) (last i : ℕ) (is : List ℕ) : Type 0 where
  pub rest : List ℕ
  pub whole : is ≡ i ∷ rest
  pub there : IsSome (at i)
  pub left : IsLeft at last (next_of (at i)) rest

module _ (at : ℕ → Option Node) where
  pub left_next : (last i : ℕ) (is : List ℕ) → IsLeft at last i is → i ≢ last → HasNext at last i is
  left_next last i is d n =
      let split = path_some at last i is n d.leads in
      let nodes : AreNodes at d.owner d.k (i ∷ split.0) = subst (AreNodes at d.owner d.k) split.1 d.nodes in
      record { rest = split.0; whole = split.1; there = nodes.0; left = record { leads = split.2; owner = d.owner; k = d.k; nodes = nodes.3 } }

  pub left_none : (last i : ℕ) (is : List ℕ) → IsLeft at last i is → i ≡ last → is ≡ []
  left_none last i is d e =
      sym (path_is at last i (length is) is d.leads (omega arith)) ∙ path_none at last i (length is) e

  module _ (owner : ℕ → ℕ) (k size : ℕ) (c : Chain) (d : IsChain at owner k size c) where
    -- the spare one is there
    pub spare_there : IsSome (at c.spare)
    spare_there = (nodes_without at owner k c.spare (path_of at size c) [] d.nodes).0

    pub path_nodes : AreNodes at owner k (path_of at size c)
    path_nodes = front_nodes at owner k (path_of at size c) (c.spare ∷ []) d.nodes

    pub left_whole : IsLeft at c.spare c.first (path_of at size c)
    left_whole = record { leads = d.leads; owner = owner; k = k; nodes = path_nodes }

    pub first_next : c.first ≢ c.spare → HasNext at c.spare c.first (path_of at size c)
    first_next = left_next c.spare c.first (path_of at size c) left_whole

    pub length_events : length (events_of at size c) ≡ length (path_of at size c)
    length_events = length_items at owner k (path_of at size c) path_nodes

  pub item_next : (i : ℕ) (n : Node) (is : List ℕ) → at i ≡ Some n → items at (i ∷ is) ≡ n.item ∷ items at is
  item_next i n is found = ap (λ (o : Option Node). item_then o (items at is)) found

  -- ---- the event of a number is looked for

  -- up to the node before this one none has the number
  pub record IsPassed (size : ℕ) (c : Chain) (n before i : ℕ) : Type 0 where
    pub front : List ℕ
    pub rest : List ℕ
    pub whole : path_of at size c ≡ front ++ before ∷ rest
    pub left : IsLeft at c.spare i rest
    pub next : i ≡ next_of (at before)
    pub none : All (λ (w : Numbered). w.number ≢ n) (items at (front ++ before ∷ []))

  module _ (size : ℕ) (c : Chain) (n : ℕ) where
    other_number : (w : Numbered) → has_number n (Some w) ≡ false → w.number ≢ n
    other_number w other e = false≢true (sym other ∙ subst (λ (m : ℕ). (w.number == m) ≡ true) e (eqb_same w.number))

    pub passed_first : (owner : ℕ → ℕ) (k i : ℕ) (m : Node) → IsChain at owner k size c → c.first ≢ c.spare → at c.first ≡ Some m → i ≡ m.next → has_number n (slice_get (events_of at size c) 0) ≡ false → IsPassed size c n c.first i
    passed_first owner k i m d some found next other =
        let step = first_next owner k size c d some in
        let leads : i ≡ next_of (at c.first) = next ∙ sym (ap next_of found) in
        let first : slice_get (events_of at size c) 0 ≡ Some m.item =
        ap (λ (is : List ℕ). slice_get (items at is) 0) step.whole ∙ ap (λ (ws : List Numbered). slice_get ws 0) (item_next c.first m step.rest found) in
        record {
          front = [];
          rest = step.rest;
          whole = step.whole;
          left = subst (λ (j : ℕ). IsLeft at c.spare j step.rest) (sym leads) step.left;
          next = leads;
          none =
              subst (All (λ (w : Numbered). w.number ≢ n)) (sym (item_next c.first m [] found))
              (All-cons (λ (w : Numbered). w.number ≢ n) m.item [] (other_number m.item (subst (λ (o : Option Numbered). has_number n o ≡ false) first other)) (All-nil (λ (w : Numbered). w.number ≢ n)));
        }

    module _ (before i : ℕ) (d : IsPassed size c n before i) where
      pub passed_next : i ≢ c.spare → HasNext at c.spare i d.rest
      passed_next = left_next c.spare i d.rest d.left

      pub passed_more : (m : Node) → i ≢ c.spare → at i ≡ Some m → m.item.number ≢ n → IsPassed size c n i m.next
      passed_more m some found other =
          let step = passed_next some in
          let leads : next_of (at i) ≡ m.next = ap next_of found in
          record {
            front = d.front ++ before ∷ [];
            rest = step.rest;
            whole =
                d.whole
                ∙ ap (λ (is : List ℕ). d.front ++ before ∷ is) step.whole
                ∙ sym (append_assoc d.front (before ∷ []) (i ∷ step.rest));
            left = subst (λ (j : ℕ). IsLeft at c.spare j step.rest) leads step.left;
            next = sym leads;
            none =
                subst (All (λ (w : Numbered). w.number ≢ n)) (sym (items_append at (d.front ++ before ∷ []) (i ∷ [])))
                (All-append (λ (w : Numbered). w.number ≢ n) (items at (d.front ++ before ∷ [])) (items at (i ∷ [])) d.none
                (subst (All (λ (w : Numbered). w.number ≢ n)) (sym (item_next i m [] found))
                (All-cons (λ (w : Numbered). w.number ≢ n) m.item [] other (All-nil (λ (w : Numbered). w.number ≢ n)))));
          }

      pub passed_found : (m : Node) → i ≢ c.spare → at i ≡ Some m → m.item.number ≡ n → IsBehind at size c n before
      passed_found m some found same =
          let step = passed_next some in
          record {
            front = d.front;
            rest = step.rest;
            whole = d.whole ∙ ap (λ (is : List ℕ). d.front ++ before ∷ is) step.whole ∙ ap (λ (j : ℕ). d.front ++ before ∷ j ∷ step.rest) d.next;
            node = m;
            found = ap at (sym d.next) ∙ found;
            number = same;
          }

      pub passed_all : i ≡ c.spare → HasNone at size c n
      passed_all e =
          subst (λ (is : List ℕ). All (λ (w : Numbered). w.number ≢ n) (items at is))
          (sym (d.whole ∙ ap (λ (is : List ℕ). d.front ++ before ∷ is) (left_none c.spare i d.rest d.left e)))
          d.none

      short : length d.rest ≤ size
      short = omega (arith, path_short at c.spare c.first size, ap length d.whole, length-append d.front (before ∷ d.rest))

      -- fewer are left
      pub passed_fewer : (m : Node) → i ≢ c.spare → at i ≡ Some m → length (path at c.spare size m.next) < length (path at c.spare size i)
      passed_fewer m some found =
          let step = passed_next some in
          let here = path_is at c.spare i size d.rest d.left.leads short in
          let leads : next_of (at i) ≡ m.next = ap next_of found in
          let less : length step.rest ≤ size = omega (arith, short, ap length step.whole) in
          let behind = path_is at c.spare m.next size step.rest (subst (λ (j : ℕ). IsPath at c.spare j step.rest) leads step.left.leads) less in
          omega (arith, ap length here, ap length step.whole, ap length behind)

    pub none_passed : c.first ≡ c.spare → HasNone at size c n
    none_passed e =
        subst (λ (is : List ℕ). All (λ (w : Numbered). w.number ≢ n) (items at is)) (sym (path_none at c.spare c.first size e)) (All-nil (λ (w : Numbered). w.number ≢ n))

  -- ---- the deliveries of a chain's events are gathered from its first node on

  -- one delivery more
  pub deliveries_more : (i : ℕ) (m : Node) (is rest : List ℕ) (ps qs : List Delivery) → is ≡ i ∷ rest → at i ≡ Some m → qs ≡ ps ++ named_delivery m.item ∷ [] → qs ++ map named_delivery (items at rest) ≡ ps ++ map named_delivery (items at is)
  deliveries_more i m is rest ps qs whole found more =
      let behind = map named_delivery (items at rest) in
      ap (λ (xs : List Delivery). xs ++ behind) more
      ∙ append_assoc ps (named_delivery m.item ∷ []) behind
      ∙ sym (ap (λ (js : List ℕ). ps ++ map named_delivery (items at js)) whole ∙ ap (λ (ws : List Numbered). ps ++ map named_delivery ws) (item_next i m rest found))

-- ---- so many of them are passed

module _ (at : ℕ → Option Node) (last i n : ℕ) (is : List ℕ) (d : IsLeft at last i (drop n is)) (more : n < length is) where
  pub left_at : HasNext at last i (drop n is)
  left_at =
      left_next at last i (drop n is) d
      (λ (e : i ≡ last). absurd (omega (arith, more, length-drop n is, ap length (left_none at last i (drop n is) d e))))

  pub left_more : IsLeft at last (next_of (at i)) (drop (n + 1) is)
  left_more =
      let step = left_at in
      subst (IsLeft at last (next_of (at i))) (sym (ap (drop 1) step.whole) ∙ drop-drop 1 n is) step.left

  pub left_nth : slice_get is n ≡ Some i
  left_nth = let step = left_at in slice_get-drop is n i step.rest step.whole

-- ---- the first one is read

pub record HasRead (at : ℕ → Option Node) (last i : ℕ) (is : List ℕ) (n : Node) : Type 0 where
  pub rest : List ℕ
  pub whole : is ≡ i ∷ rest
  pub found : at i ≡ Some n
  pub left : IsLeft at last n.next rest

pub left_read : (nodes : Vec Node Global) (last i : ℕ) (is : List ℕ) → IsLeft (slice_get nodes.items) last i is → i ≢ last → (n : Node)
    → n ≡ slice_index_or nodes.items i n → HasRead (slice_get nodes.items) last i is n
left_read nodes last i is left more n read =
    let next = left_next (slice_get nodes.items) last i is left more in
    let found : slice_get nodes.items i ≡ Some n = node_read nodes i n (list_within nodes i next.there) read in
    record {
      rest = next.rest;
      whole = next.whole;
      found = found;
      left = subst (λ (o : Option Node). IsLeft (slice_get nodes.items) last (next_of o) next.rest) found next.left;
    }
