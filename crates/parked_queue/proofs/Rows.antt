-- Events that come to a list's end one after the other.
use Rattle.std.proofs.Common.{◌≡◌, ℕ, suc, ◌+◌, ◌<◌, ◌≤◌, List, [], ◌∷◌, ◌++◌, IsSome, add-zero, append_assoc, append-nil, ap, arith, get_or, length, length-append, refl, slice_get, slice_index_or, slice_set, subst, sym, take, ◌∙◌}
use Rattle.std.proofs.lemmas.List.{get_or-set_same, length-map, length-set, length-take-le, set-get_or, take_more}
use Rattle.std.proofs.Math.Seq.{set-set}
use Rattle.evt_types.specs.declared.event.Numbered.{Numbered}
use Rattle.evt_types.specs.declared.event.Reply.{Reply}
use Rattle.parked_queue.specs.Chains.{IsFilled, events_of, next_of, no_chain}
use Rattle.parked_queue.specs.Lists.{Lists, list_at, numbered, numbered_from, total_of, with_last, with_list, with_row}
use Rattle.parked_queue.specs.Store.{HasCome, IsOfStore, IsStore, lists_in}
use Rattle.parked_queue.specs.declared.chain.Chain.{Chain}
use Rattle.parked_queue.specs.declared.chain.Node.{Node}
use Rattle.parked_queue.proofs.Changes.{chain_here, store_come, view_come}
use Rattle.parked_queue.proofs.Totals.{total_with}
use Rattle.parked_queue.proofs.Views.{chain_read, there_seen}
use Rattle.parked_queue.proofs.Walks.{spare_there}

-- ---- numbers

pub numbered_more : (n : ℕ) (rs : List Reply) (r : Reply) → numbered_from n (rs ++ r ∷ []) ≡ numbered_from n rs ++ numbered (n + length rs) r.event ∷ []
numbered_more n [] r = ap (λ m. numbered m r.event ∷ []) (sym (add-zero n))
numbered_more n (x ∷ xs) r =
    ap (λ ws. numbered n x.event ∷ ws)
    (numbered_more (n + 1) xs r ∙ ap (λ m. numbered_from (n + 1) xs ++ numbered m r.event ∷ []) (omega arith))

pub length_numbered : (n : ℕ) (rs : List Reply) → length (numbered_from n rs) ≡ length rs
length_numbered n [] = refl
length_numbered n (r ∷ rs) = ap suc (length_numbered (n + 1) rs)

-- the numbers of one more of some replies
pub numbered_next : (n k : ℕ) (rs : List Reply) (r : Reply) → k < length rs → r ≡ get_or rs k r → numbered_from n (take (k + 1) rs) ≡ numbered_from n (take k rs) ++ numbered (n + k) r.event ∷ []
numbered_next n k rs r there is =
    ap (numbered_from n) (take_more rs k r there ∙ ap (λ x. take k rs ++ x ∷ []) (sym is))
    ∙ (numbered_more n (take k rs) r ∙ ap (λ m. numbered_from n (take k rs) ++ numbered (n + m) r.event ∷ []) (length-take-le k rs (omega (arith, there))))

-- ---- lists

pub row_then : (v : Lists) (k : ℕ) (ws : List Numbered) (w : Numbered) → k < length v.lists → with_last (with_row v k ws) k w ≡ with_row v k (ws ++ w ∷ [])
row_then v k ws w lt =
    ap (λ us. with_list (with_row v k ws) k (us ++ w ∷ [])) (get_or-set_same v.lists k (list_at v k ++ ws) [] lt)
    ∙ (ap (λ ls. record v { lists = ls }) (set-set v.lists k (list_at v k ++ ws) ((list_at v k ++ ws) ++ w ∷ []))
    ∙ ap (with_list v k) (append_assoc (list_at v k) ws (w ∷ [])))

pub total_row : (v : Lists) (k : ℕ) (ws : List Numbered) → k < length v.lists → total_of (with_row v k ws) ≡ total_of v + length ws
total_row v k ws lt =
    let sums = total_with v k (list_at v k ++ ws) lt in
    let long = length-append (list_at v k) ws in
    omega arith

-- ---- a store

-- the chain of a list as the code reads it
pub of_store :
    (old : List Node) (size free : ℕ) (cs : List Chain) (room : ℕ) (v : Lists) → lists_in (slice_get old) size cs room ≡ v → IsStore (slice_get old) size free cs room
    → (k : ℕ) → k < length v.lists → (c : Chain) → c ≡ slice_index_or cs k c → (n : ℕ) → total_of v + n ≤ v.room → IsOfStore (slice_get old) size free c n cs room k
of_store old size free cs room v view d k lt c read n fits =
    let there = there_seen (slice_get old) size cs room v view k lt in
    record {
      there = there;
      is = chain_read cs k c there read;
      store = d;
      fits = omega (arith, fits, ap total_of view, ap (λ (u : Lists). u.room) view);
    }

-- none have come yet
pub come_none : (old : List Node) (size free : ℕ) (c : Chain) (n : ℕ) (cs : List Chain) (room k : ℕ) → IsOfStore (slice_get old) size free c n cs room k → HasCome (slice_get old) (slice_get old) size free c [] cs room k
come_none old size free c n cs room k is =
    let same : slice_set cs k c ≡ cs = ap (slice_set cs k) is.is ∙ set-get_or cs k no_chain in
    let v : Lists = lists_in (slice_get old) size cs room in
    record {
      store = subst (λ xs. IsStore (slice_get old) size free xs room) (sym same) is.store;
      view = ap (λ xs. lists_in (slice_get old) size xs room) same
          ∙ sym (ap (with_list v k) (append-nil (list_at v k)) ∙ ap (λ ls. record v { lists = ls }) (set-get_or v.lists k []));
    }

module _ (old mid : List Node) (size free now : ℕ) (c d : Chain) (ws : List Numbered) (n : ℕ) (cs : List Chain) (room k : ℕ) (is : IsOfStore (slice_get old) size free c n cs room k) (h : HasCome (slice_get old) (slice_get mid) size now d ws cs room k) where
  abbrev v : Lists
  v = lists_in (slice_get old) size cs room

  abbrev u : Lists
  u = with_row v k ws

  lt : k < length v.lists
  lt = subst (λ m. k < m) (sym (length-map cs (events_of (slice_get old) size))) is.there

  lt_row : k < length u.lists
  lt_row = subst (λ m. k < m) (sym (length-set v.lists k (list_at v k ++ ws))) lt

  read : d ≡ slice_index_or (slice_set cs k d) k d
  read = sym (get_or-set_same cs k d d is.there)

  -- there are the nodes of one more
  pub spare_is : IsSome (slice_get mid d.spare)
  spare_is = spare_there (slice_get mid) h.store.chains.owner (suc k) size d (chain_here mid size now (slice_set cs k d) room u h.view h.store k lt_row d read)

  pub free_is : IsSome (slice_get mid now)
  free_is = h.store.chains.unused.0

  module _ (new : List Node) (j rest : ℕ) (w : Numbered) (r : Chain) (more : length ws < n) (taken : j ≡ now) (next : rest ≡ next_of (slice_get mid now)) (filled : IsFilled mid new d.spare (record { item = w; next = j })) (made : r ≡ record { first = d.first; spare = j }) where
    below : total_of u < u.room
    below = omega (arith, total_row v k ws lt, is.fits, more)

    -- one more has come
    pub come_more : HasCome (slice_get old) (slice_get new) size rest r (ws ++ w ∷ []) cs room k
    come_more =
        record {
          store = subst (λ xs. IsStore (slice_get new) size rest xs room) (set-set cs k d r)
              (store_come mid size now (slice_set cs k d) room u h.view h.store k lt_row d read new size j rest w r refl below taken next filled made);
          view = ap (λ xs. lists_in (slice_get new) size xs room) (sym (set-set cs k d r))
              ∙ (view_come mid size now (slice_set cs k d) room u h.view h.store k lt_row d read new size j rest w r refl below taken next filled made ∙ row_then v k ws w lt);
        }
