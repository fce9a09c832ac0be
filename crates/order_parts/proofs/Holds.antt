-- A slot's pin, read off the fields.
use Rattle.std.proofs.Common.{◌≡◌, ℕ, ◌<◌, List, [], ◌∷◌, map, length, replicate, refl, ap, sym, ◌∙◌, subst, zero, suc, slice_index_or, slice_set, arith}
use Rattle.std.proofs.lemmas.List.{map-set}
use Rattle.order_parts.specs.Pins.{Pin, pin_of, pin_at}
use Rattle.order_parts.specs.declared.pins.Hold.{Hold}

-- slots that are all the same
pub map-replicate : (h : Hold) (n : ℕ) → map pin_of (replicate n h) ≡ replicate n (pin_of h)
map-replicate h zero = refl
map-replicate h (suc n) = ap (λ ps. pin_of h ∷ ps) (map-replicate h n)

-- the pin of a slot whose fields were read
pub pin_at-read : (hs : List Hold) (s : ℕ) (h : Hold) → s < length (map pin_of hs) → h ≡ slice_index_or hs s h → pin_at (map pin_of hs) s ≡ pin_of h
pin_at-read [] s h p e = absurd (omega arith)
pin_at-read (x ∷ xs) zero h p e = ap pin_of (sym e)
pin_at-read (x ∷ xs) (suc s) h p e =
    let below : s < length (map pin_of xs) = omega arith in
    pin_at-read xs s h below e

pub pin_here : (hs : List Hold) (ps : List Pin) (s : ℕ) (h : Hold) → map pin_of hs ≡ ps → s < length ps → h ≡ slice_index_or hs s h → pin_at ps s ≡ pin_of h
pin_here hs ps s h v within e = subst (λ (ys : List Pin). s < length ys → pin_at ys s ≡ pin_of h) v (λ lt. pin_at-read hs s h lt e) within

-- the pins after a write of the fields of one slot, which says f of its pin
pub set_pin : (f : Pin → Pin) (hs : List Hold) (ps : List Pin) (s : ℕ) (h x : Hold) → map pin_of hs ≡ ps → s < length ps → h ≡ slice_index_or hs s h → f (pin_of h) ≡ pin_of x → map pin_of (slice_set hs s x) ≡ slice_set ps s (f (pin_at ps s))
set_pin f hs ps s h x v p e q =
    let there : s < length (map pin_of hs) = rw v p in
    map-set pin_of hs s x
    ∙ ap (slice_set (map pin_of hs) s) (sym q ∙ ap f (sym (pin_at-read hs s h there e)))
    ∙ ap (λ (ys : List Pin). slice_set ys s (f (pin_at ys s))) v
