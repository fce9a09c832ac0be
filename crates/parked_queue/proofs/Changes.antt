-- The store and its view after an event has come or gone.
use Rattle.std.proofs.Common.{◌≡◌, ◌≢◌, ℕ, suc, ◌+◌, ◌-◌, ◌<◌, ◌≤◌, List, [], ◌∷◌, ◌++◌, append_assoc, length, length-append, drop, filter, take, Option, Some, IsSome, refl, sym, ap, subst, ◌∙◌, arith, slice_get, slice_index_or, slice_set}
use Rattle.std.proofs.lemmas.List.{length-drop, length-take-le, set-get_or, take-append-drop}
use Rattle.std.proofs.lemmas.Option.{slice_get_within}
use Rattle.lists.proofs.Lists.{drop-slice_get}
use Rattle.evt_types.specs.declared.event.Numbered.{Numbered}
use Rattle.parked_queue.specs.Chains.{AreNodes, IsBehind, IsChain, IsFilled, IsLinked, chain_at, events_of, item_then, items, next_of, no_chain, path_of}
use Rattle.parked_queue.specs.Lists.{Lists, list_at, total_of, with_list, with_last, without_first}
use Rattle.parked_queue.specs.Store.{AreChains, IsStore, lists_in}
use Rattle.parked_queue.specs.Waits.{IsRising, is_other}
use Rattle.parked_queue.specs.declared.chain.Chain.{Chain}
use Rattle.parked_queue.specs.declared.chain.Node.{Node}
use Rattle.parked_queue.proofs.FreeRows.{chains_joined, events_joined, joined_others}
use Rattle.parked_queue.proofs.Nodes.{node_found, some_found}
use Rattle.parked_queue.proofs.Paths.{front_nodes, items_append, nodes_without, path_none}
use Rattle.parked_queue.proofs.Stores.{HasLoose, chains_come, chains_freed, come_others, events_come, events_first, events_freed, events_past, loose_first, loose_past, loose_taken, past_others}
use Rattle.parked_queue.proofs.Totals.{list_within_total, total_first, total_last, total_with}
use Rattle.parked_queue.proofs.Views.{chain_read, list_seen, there_seen, view_changed, view_same}
use Rattle.parked_queue.proofs.Walks.{first_next, item_next, length_events}
use Rattle.parked_queue.proofs.Without.{one_out}

-- the chains of a store whose view has so many events
pub store_seen : (at : ℕ → Option Node) (size free : ℕ) (cs : List Chain) (room n : ℕ) (v : Lists) → lists_in at size cs room ≡ v → total_of v ≤ room → n ≡ suc (room - total_of v) → room < size → AreChains at size n free cs → IsStore at size free cs room
store_seen at size free cs room n v view within left spacious chains =
    let same = ap total_of view in
    record {
      within = omega (arith, same, within);
      chains = subst (λ (m : ℕ). AreChains at size m free cs) (left ∙ ap (λ (u : Lists). suc (room - total_of u)) (sym view)) chains;
      spacious = spacious;
    }

-- a store, and the chain of a list as the code reads it
module _ (old : List Node) (size free : ℕ) (cs : List Chain) (room : ℕ) (v : Lists) (view : lists_in (slice_get old) size cs room ≡ v) (d : IsStore (slice_get old) size free cs room) (k : ℕ) (lt : k < length v.lists) (c : Chain) (read : c ≡ slice_index_or cs k c) where
  abbrev at : ℕ → Option Node
  at = slice_get old

  there : k < length cs
  there = there_seen at size cs room v view k lt

  is : c ≡ chain_at cs k
  is = chain_read cs k c there read

  left : suc (room - total_of (lists_in at size cs room)) ≡ suc (room - total_of v)
  left = ap (λ (u : Lists). suc (room - total_of u)) view

  within : (total_of v ≤ room) × (room ≡ v.room)
  within = (omega (arith, d.within, ap total_of view), ap (λ (u : Lists). u.room) view)

  chains : AreChains at size (suc (room - total_of v)) free cs
  chains = subst (λ (m : ℕ). AreChains at size m free cs) left d.chains

  pub chain_here : IsChain at d.chains.owner (suc k) size c
  chain_here = subst (IsChain at d.chains.owner (suc k) size) (sym is) (d.chains.each k there)

  pub events_here : events_of at size c ≡ list_at v k
  events_here = ap (events_of at size) is ∙ list_seen at size cs room v view k there

  -- ---- with another chain in its place, as the code writes it

  viewed_as : (new : ℕ → Option Node) (count : ℕ) (x r : Chain) → count ≡ size → x ≡ r
      → lists_in new count (slice_set cs k r) room ≡ lists_in new size (slice_set cs k x) room
  viewed_as new count x r same made =
      ap (λ (m : ℕ). lists_in new m (slice_set cs k r) room) same ∙ ap (λ (y : Chain). lists_in new size (slice_set cs k y) room) (sym made)

  stored_as : (new : ℕ → Option Node) (count rest i : ℕ) (x r : Chain) → count ≡ size → x ≡ r → rest ≡ i
      → IsStore new size i (slice_set cs k x) room → IsStore new count rest (slice_set cs k r) room
  stored_as new count rest i x r same made next store =
      subst (λ (m : ℕ). IsStore new m rest (slice_set cs k r) room) (sym same)
      (subst (λ (y : Chain). IsStore new size rest (slice_set cs k y) room) made
      (subst (λ (j : ℕ). IsStore new size j (slice_set cs k x) room) (sym next) store))

  -- ---- its first event, where there is one

  pub none_here : c.first ≡ c.spare → list_at v k ≡ []
  none_here e = sym events_here ∙ ap (items at) (path_none at c.spare c.first size e)

  pub first_here : (n : Node) → c.first ≢ c.spare → at c.first ≡ Some n → Some n.item ≡ slice_get (list_at v k) 0
  first_here n some found =
      let step = first_next at d.chains.owner (suc k) size c chain_here some in
      sym
      (ap (λ (ws : List Numbered). slice_get ws 0) (sym events_here)
      ∙ ap (λ (js : List ℕ). slice_get (items at js) 0) step.whole
      ∙ ap (λ (ws : List Numbered). slice_get ws 0) (item_next at c.first n step.rest found))

  pub some_here : c.first ≢ c.spare → 0 < length (list_at v k)
  some_here some =
      let step = first_next at d.chains.owner (suc k) size c chain_here some in
      omega (arith, ap length (sym events_here), length_events at d.chains.owner (suc k) size c chain_here, ap length step.whole)

  pub differs_here : 0 < length (list_at v k) → c.first ≢ c.spare
  differs_here some e = absurd (omega (arith, some, ap length (none_here e)))

  -- ---- an event has come

  module _ (new : List Node) (count j rest : ℕ) (w : Numbered) (r : Chain) (same : count ≡ size) (below : total_of v < v.room) (taken : j ≡ free) (next : rest ≡ next_of (at free)) (filled : IsFilled old new c.spare (record { item = w; next = j })) (made : r ≡ record { first = c.first; spare = j }) where
    abbrev longer : Chain
    longer = record { first = (chain_at cs k).first; spare = free }

    filled_at : IsFilled old new (chain_at cs k).spare (record { item = w; next = free })
    filled_at =
        subst (λ (i : ℕ). IsFilled old new (chain_at cs k).spare (record { item = w; next = i })) taken
        (subst (λ (x : Chain). IsFilled old new x.spare (record { item = w; next = j })) is filled)

    made_at : longer ≡ r
    made_at =
        sym
        (made
        ∙ ap (λ (x : Chain). let y : Chain = record { first = x.first; spare = j } in y) is
        ∙ ap (λ (i : ℕ). let y : Chain = record { first = (chain_at cs k).first; spare = i } in y) taken)

    one_left : suc (room - total_of v) ≡ suc (suc (room - suc (total_of v)))
    one_left = omega (arith, below, within.1)

    loose : HasLoose at size (suc (room - suc (total_of v))) (next_of (at free)) cs free (suc k)
    loose = loose_taken at size (suc (room - suc (total_of v))) free cs (suc k) (subst (λ (m : ℕ). AreChains at size m free cs) one_left chains)

    short : length (path_of at size (chain_at cs k)) < size
    short =
        omega
        (arith, length_events at d.chains.owner (suc k) size (chain_at cs k) (d.chains.each k there), ap length (list_seen at size cs room v view k there), list_within_total v k lt, below, within.1, d.spacious)

    view_longer : lists_in (slice_get new) size (slice_set cs k longer) room ≡ with_last v k w
    view_longer =
        view_changed at (slice_get new) size cs room k longer there (come_others at (slice_get new) size (suc (room - suc (total_of v))) (next_of (at free)) cs k free w there loose filled_at.filled filled_at.others)
        ∙ ap (with_list (lists_in at size cs room) k)
        (events_come at (slice_get new) size (suc (room - suc (total_of v))) (next_of (at free)) cs k free w there loose filled_at.filled filled_at.others short
        ∙ ap (λ (ws : List Numbered). ws ++ w ∷ []) (list_seen at size cs room v view k there))
        ∙ ap (λ (u : Lists). with_list u k (list_at v k ++ w ∷ [])) view

    pub view_come : lists_in (slice_get new) count (slice_set cs k r) room ≡ with_last v k w
    view_come = viewed_as (slice_get new) count longer r same made_at ∙ view_longer

    pub store_come : IsStore (slice_get new) count rest (slice_set cs k r) room
    store_come =
        stored_as (slice_get new) count rest (next_of (at free)) longer r same made_at next
        (store_seen (slice_get new) size (next_of (at free)) (slice_set cs k longer) room (suc (room - suc (total_of v))) (with_last v k w) view_longer
        (omega (arith, total_last v k w lt, below, within.1))
        (omega (arith, total_last v k w lt))
        d.spacious
        (chains_come at (slice_get new) size (suc (room - suc (total_of v))) (next_of (at free)) cs k free w there loose filled_at.filled filled_at.others short))

  -- ---- the oldest event has gone

  module _ (new : List Node) (count next rest : ℕ) (r : Chain) (same : count ≡ size) (some : 0 < length (list_at v k)) (behind : next ≡ next_of (at c.first)) (freed : rest ≡ c.first) (linked : IsLinked old new c.first free) (made : r ≡ record { first = next; spare = c.spare }) where
    abbrev whole : Chain
    whole = chain_at cs k

    abbrev shorter : Chain
    shorter = record { first = next_of (at whole.first); spare = whole.spare }

    linked_at : IsLinked old new whole.first free
    linked_at = subst (λ (x : Chain). IsLinked old new x.first free) is linked

    made_first : shorter ≡ r
    made_first =
        sym
        (made
        ∙ ap (λ (i : ℕ). let y : Chain = record { first = i; spare = c.spare } in y) behind
        ∙ ap (λ (x : Chain). let y : Chain = record { first = next_of (at x.first); spare = x.spare } in y) is)

    differs : whole.first ≢ whole.spare
    differs = subst (λ (x : Chain). x.first ≢ x.spare) is (differs_here some)

    loose_gone : HasLoose at size (suc (room - total_of v)) free (slice_set cs k shorter) whole.first 0
    loose_gone = loose_first at size (suc (room - total_of v)) free cs k there chains differs

    one_more : suc (suc (room - total_of v)) ≡ suc (room - total_of (without_first v k))
    one_more = omega (arith, total_first v k lt some, within.0)

    rest_events : events_of at size shorter ≡ drop 1 (list_at v k)
    rest_events =
        let found = node_found (at whole.first) loose_gone.some in
        ap (λ (o : Option Node). drop 1 (item_then o (events_of at size shorter))) (sym found.1)
        ∙ ap (drop 1) (sym (events_first at size (suc (room - total_of v)) free cs k there chains differs) ∙ list_seen at size cs room v view k there)

    view_shorter : lists_in (slice_get new) size (slice_set cs k shorter) room ≡ without_first v k
    view_shorter =
        view_same at (slice_get new) size (slice_set cs k shorter) room
        (events_freed at (slice_get new) size (suc (room - total_of v)) free (slice_set cs k shorter) whole.first loose_gone linked_at.linked linked_at.others)
        ∙ view_changed at at size cs room k shorter there (λ (m : ℕ) (ne : m ≢ k) (less : m < length cs). refl)
        ∙ ap (with_list (lists_in at size cs room) k) rest_events
        ∙ ap (λ (u : Lists). with_list u k (drop 1 (list_at v k))) view

    pub view_gone : lists_in (slice_get new) count (slice_set cs k r) room ≡ without_first v k
    view_gone = viewed_as (slice_get new) count shorter r same made_first ∙ view_shorter

    pub store_gone : IsStore (slice_get new) count rest (slice_set cs k r) room
    store_gone =
        stored_as (slice_get new) count rest whole.first shorter r same made_first (freed ∙ ap (λ (x : Chain). x.first) is)
        (store_seen (slice_get new) size whole.first (slice_set cs k shorter) room (suc (suc (room - total_of v))) (without_first v k) view_shorter
        (omega (arith, total_first v k lt some, within.0))
        one_more d.spacious
        (chains_freed at (slice_get new) size (suc (room - total_of v)) free (slice_set cs k shorter) whole.first loose_gone linked_at.linked linked_at.others))

  -- ---- the oldest events have gone: their nodes are free as they lead to one another, and this is the last one

  module _ (n j : ℕ) (last : slice_get (path_of at size c) n ≡ Some j) where
    abbrev front : List ℕ
    front = take n (path_of at size (chain_at cs k))

    abbrev past : List ℕ
    past = drop (n + 1) (path_of at size (chain_at cs k))

    last_at : slice_get (path_of at size (chain_at cs k)) n ≡ Some j
    last_at = subst (λ (x : Chain). slice_get (path_of at size x) n ≡ Some j) is last

    row_whole : path_of at size (chain_at cs k) ≡ front ++ j ∷ past
    row_whole =
        sym (take-append-drop n (path_of at size (chain_at cs k)))
        ∙ ap (λ (js : List ℕ). front ++ js) (drop-slice_get (path_of at size (chain_at cs k)) n j last_at)

    pub last_there : IsSome (at j)
    last_there =
        let nodes = front_nodes at d.chains.owner (suc k) (path_of at size (chain_at cs k)) ((chain_at cs k).spare ∷ []) (d.chains.each k there).nodes in
        (nodes_without at d.chains.owner (suc k) j front past (subst (AreNodes at d.chains.owner (suc k)) row_whole nodes)).0

    row_long : length (front ++ j ∷ []) ≡ n + 1
    row_long =
        let within_path = slice_get_within (path_of at size (chain_at cs k)) n j last_at in
        omega (arith, length-append front (j ∷ []), length-take-le n (path_of at size (chain_at cs k)) (omega (arith, within_path)))

    abbrev fewer : Lists
    fewer = with_list v k (drop (n + 1) (list_at v k))

    fewer_left : total_of fewer + (n + 1) ≡ total_of v
    fewer_left =
        let within_path = slice_get_within (path_of at size c) n j last in
        let events = length_events at d.chains.owner (suc k) size c chain_here in
        omega (arith, within_path, events, ap length events_here, total_with v k (drop (n + 1) (list_at v k)) lt, length-drop (n + 1) (list_at v k))

    module _ (new : List Node) (count next rest : ℕ) (r : Chain) (same : count ≡ size) (behind : next ≡ next_of (at j)) (freed : rest ≡ c.first) (linked : IsLinked old new j free) (made : r ≡ record { first = next; spare = c.spare }) where
      abbrev left_chain : Chain
      left_chain = record { first = next_of (at j); spare = (chain_at cs k).spare }

      made_left : left_chain ≡ r
      made_left =
          sym
          (made
          ∙ ap (λ (i : ℕ). let y : Chain = record { first = i; spare = c.spare } in y) behind
          ∙ ap (λ (x : Chain). let y : Chain = record { first = next_of (at j); spare = x.spare } in y) is)

      left_events : events_of (slice_get new) size left_chain ≡ drop (n + 1) (list_at v k)
      left_events =
          events_joined at (slice_get new) size (suc (room - total_of v)) free cs k j front past there chains row_whole linked.linked linked.others
          ∙ ap (λ (m : ℕ). drop m (events_of at size (chain_at cs k))) row_long
          ∙ ap (drop (n + 1)) (list_seen at size cs room v view k there)

      view_left : lists_in (slice_get new) size (slice_set cs k left_chain) room ≡ fewer
      view_left =
          view_changed at (slice_get new) size cs room k left_chain there
          (joined_others at (slice_get new) size (suc (room - total_of v)) free cs k j front past there chains row_whole linked.linked linked.others)
          ∙ ap (with_list (lists_in at size cs room) k) left_events
          ∙ ap (λ (u : Lists). with_list u k (drop (n + 1) (list_at v k))) view

      pub view_row_gone : lists_in (slice_get new) count (slice_set cs k r) room ≡ fewer
      view_row_gone = viewed_as (slice_get new) count left_chain r same made_left ∙ view_left

      pub store_row_gone : IsStore (slice_get new) count rest (slice_set cs k r) room
      store_row_gone =
          let total = fewer_left in
          let most = within.0 in
          let long = row_long in
          stored_as (slice_get new) count rest (chain_at cs k).first left_chain r same made_left (freed ∙ ap (λ (x : Chain). x.first) is)
          (store_seen (slice_get new) size (chain_at cs k).first (slice_set cs k left_chain) room (length (front ++ j ∷ []) + suc (room - total_of v)) fewer view_left
          (omega (arith, total, most))
          (omega (arith, total, most, long))
          d.spacious
          (chains_joined at (slice_get new) size (suc (room - total_of v)) free cs k j front past there chains row_whole linked.linked linked.others))

  -- ---- a later event has gone

  module _ (mid new : List Node) (count n i j rest : ℕ) (behind : IsBehind at size c n i) where
    abbrev later : ℕ
    later = next_of (at i)

    pub before_there : IsSome (at i) × IsSome (at later)
    before_there =
        let nodes = front_nodes at d.chains.owner (suc k) (path_of at size c) (c.spare ∷ []) chain_here.nodes in
        let both = nodes_without at d.chains.owner (suc k) i behind.front (later ∷ behind.rest) (subst (AreNodes at d.chains.owner (suc k)) behind.whole nodes) in
        (both.0, some_found (at later) behind.node behind.found)

    whole_at : path_of at size (chain_at cs k) ≡ behind.front ++ i ∷ later ∷ behind.rest
    whole_at = ap (path_of at size) (sym is) ∙ behind.whole

    abbrev before : List Numbered
    before = items at (behind.front ++ i ∷ [])

    abbrev after : List Numbered
    after = items at behind.rest

    list_was : list_at v k ≡ before ++ behind.node.item ∷ after
    list_was =
        sym events_here
        ∙ ap (items at) (behind.whole ∙ sym (append_assoc behind.front (i ∷ []) (later ∷ behind.rest)))
        ∙ items_append at (behind.front ++ i ∷ []) (later ∷ behind.rest)
        ∙ ap (λ (ws : List Numbered). before ++ ws) (item_next at later behind.node behind.rest behind.found)

    pub fewer_gone : length (list_at v k) ≡ length (before ++ after) + 1
    fewer_gone =
        omega (arith, ap length list_was, length-append before (behind.node.item ∷ after), length-append before after)

    module _ (same : count ≡ size) (skipped : j ≡ later) (freed : rest ≡ j) (past : IsLinked old mid i (next_of (at j))) (linked : IsLinked mid new j free) (rises : IsRising (list_at v k)) where
      past_at : IsLinked old mid i (next_of (at later))
      past_at = subst (λ (m : ℕ). IsLinked old mid i (next_of (at m))) skipped past

      linked_later : IsLinked mid new later free
      linked_later = subst (λ (m : ℕ). IsLinked mid new m free) skipped linked

      loose_later : HasLoose (slice_get mid) size (suc (room - total_of v)) free cs later 0
      loose_later = loose_past at (slice_get mid) size (suc (room - total_of v)) free cs k i behind.front behind.rest there chains whole_at past_at.linked past_at.others

      events_later : events_of (slice_get mid) size (chain_at cs k) ≡ before ++ after
      events_later =
          events_past at (slice_get mid) size (suc (room - total_of v)) free cs k i behind.front behind.rest there chains whole_at past_at.linked past_at.others
          ∙ ap (items at) (sym (append_assoc behind.front (i ∷ []) behind.rest))
          ∙ items_append at (behind.front ++ i ∷ []) behind.rest

      out : before ++ after ≡ filter (is_other n) (list_at v k)
      out =
          sym
          (ap (filter (is_other n)) list_was
          ∙ ap (λ (m : ℕ). filter (is_other m) (before ++ behind.node.item ∷ after)) (sym behind.number)
          ∙ one_out behind.node.item before after (subst IsRising list_was rises))

      view_out : lists_in (slice_get new) size cs room ≡ with_list v k (filter (is_other n) (list_at v k))
      view_out =
          view_same (slice_get mid) (slice_get new) size cs room
          (events_freed (slice_get mid) (slice_get new) size (suc (room - total_of v)) free cs later loose_later linked_later.linked linked_later.others)
          ∙ ap (λ (xs : List Chain). lists_in (slice_get mid) size xs room) (sym (set-get_or cs k no_chain))
          ∙ view_changed at (slice_get mid) size cs room k (chain_at cs k) there
          (past_others at (slice_get mid) size (suc (room - total_of v)) free cs k i behind.front behind.rest there chains whole_at past_at.linked past_at.others)
          ∙ ap (with_list (lists_in at size cs room) k) (events_later ∙ out)
          ∙ ap (λ (u : Lists). with_list u k (filter (is_other n) (list_at v k))) view

      pub view_later : lists_in (slice_get new) count cs room ≡ with_list v k (filter (is_other n) (list_at v k))
      view_later =
          ap (λ (m : ℕ). lists_in (slice_get new) m cs room) same ∙ view_out

      pub total_later : total_of (lists_in (slice_get new) count cs room) + 1 ≡ total_of v
      total_later =
          omega (arith, ap total_of view_later, total_with v k (filter (is_other n) (list_at v k)) lt, ap length out, fewer_gone)

      pub store_later : IsStore (slice_get new) count rest cs room
      store_later =
          let fewer = total_later in
          let seen = ap total_of view_later in
          subst (λ (m : ℕ). IsStore (slice_get new) m rest cs room) (sym same)
          (subst (λ (m : ℕ). IsStore (slice_get new) size m cs room) (sym (freed ∙ skipped))
          (store_seen (slice_get new) size later cs room (suc (suc (room - total_of v))) (with_list v k (filter (is_other n) (list_at v k))) view_out
          (omega (arith, fewer, seen, within.0))
          (omega (arith, fewer, seen, within.0))
          d.spacious
          (chains_freed (slice_get mid) (slice_get new) size (suc (room - total_of v)) free cs later loose_later linked_later.linked linked_later.others)))
