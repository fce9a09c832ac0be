-- A stop of a device that runs: its parts at home, taken out of their homes and put back.
use Rattle.std.proofs.Common.{◌≡◌, ℕ, ◌+◌, ◌<◌, ◌≤◌, suc, true, is_some, inl, inr, List, [], ◌∷◌, ◌++◌, length, map, get_or, All, Some, None, refl, sym, ap, ◌∙◌, arith, append_assoc}
use Rattle.std.specs.Prelude.{Option, IsSome, slice_get}
use Rattle.std.proofs.Math.Nat.{eq-or-lt_of_le}
use Rattle.std.proofs.lemmas.Bool.{false≢true}
use Rattle.std.proofs.lemmas.List.{length-map, map-append}
use Rattle.std.proofs.lemmas.List.Elements.{All-map, All-same}
use Rattle.std.proofs.lemmas.Option.{same_Some}
use Rattle.event_ports.specs.declared.port.Port.{Port}
use Rattle.event_device.specs.Device.{number_of}
use Rattle.event_device.specs.Ports.{IsAbsent}
use Rattle.event_device.specs.Recorder.{Recorded}
use Rattle.event_device.specs.declared.control.Control.{Control}
use Rattle.event_device.specs.Home.{AreHome, IsFilled}
use Rattle.event_device.specs.Parts.{IsOne, Parts}
use Rattle.event_device.proofs.Homes.{in_all}

-- ---- homes

-- where all have a port, none is empty
pub all_filled : (homes : List (Option Port)) (ports : List Port) → homes ≡ map Some ports → All (λ home. IsSome home) homes
all_filled homes ports is = All-same (λ home. IsSome home) homes (map Some ports) is (All-map (λ home. IsSome home) Some ports (λ k d there. refl))

-- one home more has an item
pub filled_more : {X : Type 0} (homes : List (Option X)) (i : ℕ) (home : Option X) → ((n : ℕ) → n < i → (x : X) × (slice_get homes n ≡ Some (Some x))) → slice_get homes i ≡ Some home → is_some home ≡ true
    → (n : ℕ) → n < i + 1 → (x : X) × (slice_get homes n ≡ Some (Some x))
filled_more homes i None before here there n low = absurd (false≢true there)
filled_more homes i (Some x) before here there n low =
    let most : n ≤ i = omega (arith, low) in
    elim (eq-or-lt_of_le most) [
      | inl same ↦ (x, ap (slice_get homes) same ∙ here)
      | inr lower ↦ before n lower
    ]

-- one more is taken out of its home
pub one_taken : {X : Type 0} (xs ys : List X) (x : X) (home : Option X) (left rest all : List (Option X)) → ys ≡ xs ++ x ∷ [] → home ≡ Some x → left ≡ home ∷ rest → map Some xs ++ left ≡ all → map Some ys ++ rest ≡ all
one_taken xs ys x home left rest all more there first is =
    ap (λ zs. map Some zs ++ rest) more
    ∙ (ap (λ ps. ps ++ rest) (map-append Some xs (x ∷ []))
    ∙ (append_assoc (map Some xs) (Some x ∷ []) rest
    ∙ (ap (λ ps. map Some xs ++ ps) (ap (λ p. p ∷ rest) (sym there) ∙ sym first) ∙ is)))

-- ---- parts

-- what is in all homes
all_items : {X : Type 0} (homes : List (Option X)) → ((n : ℕ) → n < length homes → (x : X) × (slice_get homes n ≡ Some (Some x))) → (xs : List X) × (homes ≡ map Some xs)
all_items [] filled = ([], refl)
all_items (home ∷ homes) filled =
    let first = filled 0 (omega arith) in
    let rest = all_items homes (λ n low. filled (suc n) (omega (arith, low))) in
    (first.0 ∷ rest.0, ap (λ o. o ∷ homes) (same_Some home (Some first.0) first.1) ∙ ap (λ ps. Some first.0 ∷ ps) rest.1)

pub all_ports : (homes : List (Option Port)) → ((n : ℕ) → n < length homes → IsFilled homes n) → (ports : List Port) × (homes ≡ map Some ports)
all_ports homes filled = all_items homes filled

-- then no port is missing at a stop
pub none_missing : (r : Parts) → IsOne r → (control : Control) (ports : List Port) → AreHome r control ports → (n : ℕ) → n < length r.recorded.sight.core.shape.ports → IsAbsent ports n → ⊥
none_missing r one control [] home n low absent = omega (arith, low, one.count, ap length home.ports_are)
none_missing r one control (p ∷ ps) home n low absent =
    let there : n < length (p ∷ ps) = omega (arith, low, one.count, ap length home.ports_are, length-map (p ∷ ps) Some) in
    let number : number_of (get_or (p ∷ ps) n p) ≡ n = (one.ports_are n (get_or (p ∷ ps) n p) (ap (λ xs. slice_get xs n) home.ports_are ∙ in_all (p ∷ ps) n p there)).0 in
    absent n p there number

-- the same recorder, control and ports are the same parts
abbrev with_these : Parts → Recorded → Option Control → List (Option Port) → Parts
with_these r s control ports = record { recorded = s; control = control; claims = r.claims; ports = ports }

pub same_parts : (r : Parts) (s : Recorded) (control : Option Control) (ports : List (Option Port)) → s ≡ r.recorded → control ≡ r.control → ports ≡ r.ports → with_these r s control ports ≡ r
same_parts r s control ports e f g =
    ap (λ t. with_these r t control ports) e
    ∙ (ap (λ c. with_these r r.recorded c ports) f ∙ ap (λ ps. with_these r r.recorded r.control ps) g)
