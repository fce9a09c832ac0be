-- The events that wait name their queue.
use Rattle.std.proofs.Common.{◌≡◌, ℕ, zero, suc, ◌<◌, List, [], ◌∷◌, ◌++◌, filter, map, length, set, Option, ⊎_elim, refl, sym, ap, ◌∙◌, subst}
use Rattle.std.proofs.lemmas.Bool.{cases_eq}
use Rattle.std.proofs.lemmas.List.{get_or-set_other, get_or-set_same}
use Rattle.std.proofs.lemmas.List.Elements.{All-append, All-cons, All-contains, All-filter, All-head, All-nil, All-tail}
use Rattle.std.specs.Option.{IfSome}
use Rattle.evt_types.specs.declared.event.Delivery.{Delivery}
use Rattle.evt_types.specs.declared.event.Numbered.{Numbered}
use Rattle.small_set.specs.declared.set.SmallSet.{SmallSet}
use Rattle.parked_queue.specs.Lists.{delivery_of, named_delivery}
use Rattle.parked_queue.specs.Waits.{AreNamed, IsFirstAllowed, Waits, all_empty, is_other, no_waits, waits_at}
use Rattle.parked_queue.specs.declared.first.Found.{Found}
use Rattle.parked_queue.proofs.Options.{if_more}

-- a queue is another
pub named_set : (qs : List Waits) (q : ℕ) (w : Waits) → ((k : ℕ) → AreNamed k (waits_at qs k).waiting) → q < length qs → AreNamed q w.waiting → (k : ℕ) → AreNamed k (waits_at (set qs q w) k).waiting
named_set qs q w named lt new k =
    ⊎_elim
    (λ e. subst (λ j. AreNamed j (waits_at (set qs q w) j).waiting) (sym e) (subst (λ (x : Waits). AreNamed q x.waiting) (sym (get_or-set_same qs q w (no_waits 1 0) lt)) new))
    (λ ne. subst (λ (x : Waits). AreNamed k x.waiting) (sym (get_or-set_other qs q k w (no_waits 1 0) ne)) (named k))
    (cases_eq k q)

-- nothing waits
pub named_new : (room : ℕ) (slots : List ℕ) (q : ℕ) → AreNamed q (waits_at (all_empty room slots) q).waiting
named_new room [] q = All-nil (λ (w : Numbered). w.event.queue ≡ q)
named_new room (s ∷ ss) zero = All-nil (λ (w : Numbered). w.event.queue ≡ zero)
named_new room (s ∷ ss) (suc q) = nothing ss q
  where
    nothing : (ts : List ℕ) (k : ℕ) → AreNamed (suc q) (waits_at (all_empty room ts) k).waiting
    nothing [] k = All-nil (λ (w : Numbered). w.event.queue ≡ suc q)
    nothing (t ∷ ts) zero = All-nil (λ (w : Numbered). w.event.queue ≡ suc q)
    nothing (t ∷ ts) (suc k) = nothing ts k

-- one more waits
pub named_more : (q : ℕ) (ws : List Numbered) (w : Numbered) → AreNamed q ws → w.event.queue ≡ q → AreNamed q (ws ++ w ∷ [])
named_more q ws w named is = All-append (λ (u : Numbered). u.event.queue ≡ q) ws (w ∷ []) named (All-cons (λ (u : Numbered). u.event.queue ≡ q) w [] is (All-nil (λ (u : Numbered). u.event.queue ≡ q)))

-- one has left
pub named_less : (q n : ℕ) (ws : List Numbered) → AreNamed q ws → AreNamed q (filter (is_other n) ws)
named_less q n ws named = All-filter (is_other n) (λ (u : Numbered). u.event.queue ≡ q) ws named

-- they are delivered by the queue that they name
pub named_as : (q : ℕ) (ws : List Numbered) → AreNamed q ws → map named_delivery ws ≡ map (delivery_of q) ws
named_as q [] named = refl
named_as q (w ∷ ws) named =
    ap (λ k. record { event = w.event; queue = k; number = w.number } ∷ map named_delivery ws) (All-head (λ (u : Numbered). u.event.queue ≡ q) w ws named)
    ∙ ap (λ (ds : List Delivery). delivery_of q w ∷ ds) (named_as q ws (All-tail (λ (u : Numbered). u.event.queue ≡ q) w ws named))

-- so does the first one
pub first_named : (q c : ℕ) (v : Waits) (allowed : SmallSet) (w : Numbered) → AreNamed q v.waiting → IsFirstAllowed v c allowed w → w.event.queue ≡ q
first_named q c v allowed w named first = All-contains (λ (u : Numbered). u.event.queue ≡ q) v.waiting w named first.waits

pub found_named : (q c : ℕ) (v : Waits) (allowed : SmallSet) (o : Option Found) → AreNamed q v.waiting
    → IfSome o (λ f. IsFirstAllowed v c allowed f.waiting) → IfSome o (λ f. f.waiting.event.queue ≡ q)
found_named q c v allowed o named found =
    if_more o (λ (f : Found). IsFirstAllowed v c allowed f.waiting) (λ (f : Found). f.waiting.event.queue ≡ q)
    (λ (f : Found). first_named q c v allowed f.waiting named) found
