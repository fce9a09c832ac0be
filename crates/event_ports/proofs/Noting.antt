-- Deliveries that came into an array behind others are noted in their order.
use Rattle.std.proofs.Common.{◌≡◌, ℕ, ◌+◌, ◌-◌, ◌≤◌, min, List, [], ◌++◌, length, drop, ap, ◌∙◌, arith}
use Rattle.std.proofs.Math.Seq.{drop-append_seam}
use Rattle.std.proofs.lemmas.List.{length-append}
use Rattle.evt_types.specs.declared.event.Delivery.{Delivery}
use Rattle.event_ports.specs.declared.lane.Holding.{Holding}
use Rattle.event_ports.specs.Lanes.{HasRoomFor}

-- what stands behind the others
pub behind : (from : ℕ) (old new came : List Delivery) → new ≡ old ++ came → from ≡ length old → drop from new ≡ came
behind from old new came array is = ap (drop from) array ∙ (ap (λ n. drop n (old ++ came)) is ∙ drop-append_seam old came)

-- there is room to note them
pub note_fits : (most depth : ℕ) (holding : List Holding) (old new came : List Delivery) → HasRoomFor most depth holding old → new ≡ old ++ came → length new ≤ most
    → (before : List Holding) (capacity from : ℕ) → before ≡ holding → capacity ≡ depth → from ≡ length old → length before + length (drop from new) ≤ capacity
note_fits most depth holding old new came room array few before capacity from same depth_is is =
    omega (arith, room.held, few, ap length array, length-append old came, ap length same, depth_is, ap length (behind from old new came array is))

-- how many may be received at first
pub room_first : (max most free depth : ℕ) (holding : List Holding) (into : List Delivery) → most ≡ min max free → free ≡ depth - length holding → length holding ≤ depth → depth ≤ 64 → into ≡ []
    → HasRoomFor most depth holding into
room_first max most free depth holding into is free_is within small none =
    record { few = omega (arith, ap length none); small = omega (arith, is, free_is, small); held = omega (arith, is, free_is, within, ap length none) }
