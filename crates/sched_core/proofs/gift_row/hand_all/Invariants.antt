use Rattle.std.proofs.Common.{◌≡◌, ℕ, ◌+◌, ◌-◌, ◌<◌, ◌≤◌, true, length, take, IsTrue}
use Rattle.evt_types.specs.declared.shape.TheConstants.{MAX_DEPTH}
use Rattle.order_parts.specs.Histories.{lane_in}
use Rattle.order_parts.specs.Orders.{is_restoring, order_at}
use Rattle.order_parts.specs.Pins.{may_pin}
use Rattle.order_parts.specs.QueuePins.{pin_in}
use Rattle.sched_core.specs.GiftRows.{AreHanded}
use Rattle.sched_core.proofs.gift_row.hand_all.Given as goal

abbrev pub invariant-loop-delivery : goal.invariant-loop-delivery
invariant-loop-delivery l =
    record {
      handed : AreHanded l.slots.count l.lane l.queue l.fn.orders l.fn.pins l.fn.lanes (take l.delivery-index l.row) l.orders l.pins l.lanes;
      count : l.count ≡ l.delivery-index;
      order : l.queue < length l.orders;
      pin : l.queue < length l.pins;
      there : l.lane < length l.lanes;
      places : is_restoring (order_at l.orders l.queue) ≡ true → length (order_at l.orders l.queue).places + (length l.row - l.delivery-index) ≤ (order_at l.orders l.queue).depth;
      counts : (slot : ℕ) → IsTrue (may_pin (pin_in l.pins l.queue slot) l.lane) → (pin_in l.pins l.queue slot).count + (length l.row - l.delivery-index) ≤ MAX_DEPTH;
      room : length (lane_in l.lanes l.lane).entries + (length l.row - l.delivery-index) ≤ (lane_in l.lanes l.lane).capacity;
    }
