-- What a store shows of its chains: the lists, and how many events they have.
use Rattle.std.proofs.Common.{◌≡◌, ◌≢◌, ℕ, zero, suc, ◌<◌, List, [], ◌∷◌, length, map, Option, refl, sym, ap, ◌∙◌, arith, replicate, slice_index_or, slice_set}
use Rattle.std.proofs.lemmas.List.{get_or_default, length-map}
use Rattle.evt_types.specs.declared.event.Numbered.{Numbered}
use Rattle.parked_queue.specs.Chains.{AreNewChains, chain_at, events_of, items, no_chain}
use Rattle.parked_queue.specs.Lists.{Lists, all_empty, list_at, with_list}
use Rattle.parked_queue.specs.Store.{lists_in}
use Rattle.parked_queue.specs.declared.chain.Chain.{Chain}
use Rattle.parked_queue.specs.declared.chain.Node.{Node}
use Rattle.parked_queue.proofs.Paths.{path_none}

-- a chain as the code reads it
pub chain_read : (cs : List Chain) (k : ℕ) (c : Chain) → k < length cs → c ≡ slice_index_or cs k c → c ≡ chain_at cs k
chain_read cs k c p e = e ∙ get_or_default cs k c no_chain p

list_of_chain : (f : Chain → List Numbered) (cs : List Chain) (k : ℕ) → k < length cs → slice_index_or (map f cs) k [] ≡ f (chain_at cs k)
list_of_chain f [] k lt = absurd (omega arith)
list_of_chain f (c ∷ cs) zero lt = refl
list_of_chain f (c ∷ cs) (suc k) lt = list_of_chain f cs k (omega arith)

module _ (at : ℕ → Option Node) (size : ℕ) (cs : List Chain) (room : ℕ) (v : Lists) (view : lists_in at size cs room ≡ v) where
  pub there_seen : (k : ℕ) → k < length v.lists → k < length cs
  there_seen k p = omega (arith, p, ap (λ (u : Lists). length u.lists) view, length-map cs (events_of at size))

  pub list_seen : (k : ℕ) → k < length cs → events_of at size (chain_at cs k) ≡ list_at v k
  list_seen k lt = sym (list_of_chain (events_of at size) cs k lt) ∙ ap (λ (u : Lists). list_at u k) view

-- ---- a change of one chain

module _ (f g : Chain → List Numbered) where
  map_same : (cs : List Chain) → ((m : ℕ) → m < length cs → g (chain_at cs m) ≡ f (chain_at cs m)) → map g cs ≡ map f cs
  map_same [] e = refl
  map_same (c ∷ cs) e =
      ap (λ (xs : List Numbered). xs ∷ map g cs) (e 0 (omega arith))
      ∙ ap (λ (xss : List (List Numbered)). f c ∷ xss) (map_same cs (λ (m : ℕ) (lt : m < length cs). e (suc m) (omega arith)))

  map_changed : (cs : List Chain) (k : ℕ) (c : Chain) → k < length cs → ((m : ℕ) → m ≢ k → m < length cs → g (chain_at cs m) ≡ f (chain_at cs m)) → map g (slice_set cs k c) ≡ slice_set (map f cs) k (g c)
  map_changed [] k c p e = absurd (omega arith)
  map_changed (x ∷ cs) zero c p e =
      ap (λ (xss : List (List Numbered)). g c ∷ xss) (map_same cs (λ (m : ℕ) (lt : m < length cs). e (suc m) (omega arith) (omega arith)))
  map_changed (x ∷ cs) (suc k) c p e =
      ap (λ (xs : List Numbered). xs ∷ map g (slice_set cs k c)) (e 0 (omega arith) (omega arith))
      ∙ ap (λ (xss : List (List Numbered)). f x ∷ xss) (map_changed cs k c (omega arith) (λ (m : ℕ) (n : m ≢ k) (lt : m < length cs). e (suc m) (omega arith) (omega arith)))

-- one list is another; the others stay
pub view_changed : (at new : ℕ → Option Node) (size : ℕ) (cs : List Chain) (room k : ℕ) (c : Chain) → k < length cs → ((m : ℕ) → m ≢ k → m < length cs → events_of new size (chain_at cs m) ≡ events_of at size (chain_at cs m)) → lists_in new size (slice_set cs k c) room ≡ with_list (lists_in at size cs room) k (events_of new size c)
view_changed at new size cs room k c there others =
    ap (λ (xss : List (List Numbered)). let y : Lists = record { room = room; lists = xss } in y) (map_changed (events_of at size) (events_of new size) cs k c there others)

pub view_same : (at new : ℕ → Option Node) (size : ℕ) (cs : List Chain) (room : ℕ) → ((m : ℕ) → m < length cs → events_of new size (chain_at cs m) ≡ events_of at size (chain_at cs m)) → lists_in new size cs room ≡ lists_in at size cs room
view_same at new size cs room same =
    ap (λ (xss : List (List Numbered)). let y : Lists = record { room = room; lists = xss } in y) (map_same (events_of at size) (events_of new size) cs same)

-- ---- no events

lists_none : (f : Chain → List Numbered) (cs : List Chain) → ((k : ℕ) → k < length cs → f (chain_at cs k) ≡ []) → map f cs ≡ replicate (length cs) []
lists_none f [] none = refl
lists_none f (c ∷ cs) none =
    ap (λ (xs : List Numbered). xs ∷ map f cs) (none 0 (omega arith))
    ∙ ap (λ (xss : List (List Numbered)). [] ∷ xss) (lists_none f cs (λ (k : ℕ) (lt : k < length cs). none (suc k) (omega arith)))

pub view_none : (at : ℕ → Option Node) (size : ℕ) (cs : List Chain) (n room : ℕ) → AreNewChains cs n → lists_in at size cs room ≡ all_empty n room
view_none at size cs n room new =
    let none : (k : ℕ) → k < length cs → events_of at size (chain_at cs k) ≡ [] =
    λ (k : ℕ) (lt : k < length cs).
    let is = new.each k (omega (arith, lt, new.count)) in
    ap (events_of at size) is ∙ ap (λ (is : List ℕ). items at is) (path_none at k k size refl) in
    ap (λ (xss : List (List Numbered)). let y : Lists = record { room = room; lists = xss } in y)
    (lists_none (events_of at size) cs none ∙ ap (λ (m : ℕ). replicate m []) new.count)
