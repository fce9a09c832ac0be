use Rattle.std.proofs.Common.{◌≡◌, ℕ, ◌+◌, ◌-◌, ◌≤◌, length, take, IsTrue}
use Rattle.evt_types.specs.declared.shape.TheConstants.{MAX_DEPTH}
use Rattle.order_parts.specs.HandedRow.{AreHandedOn, OfFlows}
use Rattle.order_parts.specs.Pins.{may_pin, pin_at}
use Rattle.order_parts.proofs.handing.hand_each.Given as goal

abbrev pub invariant-loop-delivery : goal.invariant-loop-delivery
invariant-loop-delivery g l =
    record {
      handed : AreHandedOn (OfFlows (goal.F-post g l.slot_of)) l.lane l.queue l.fn.pins l.fn.history.entries (take l.delivery-index l.row) l.pins l.history.entries;
      capacity : l.history.capacity ≡ l.fn.history.capacity;
      count : l.count ≡ l.delivery-index;
      counts : (slot : ℕ) → IsTrue (may_pin (pin_at l.pins slot) l.lane) → (pin_at l.pins slot).count + (length l.row - l.delivery-index) ≤ MAX_DEPTH;
      room : length l.history.entries + (length l.row - l.delivery-index) ≤ l.history.capacity;
    }
