use Rattle.std.proofs.Common.{◌≡◌, ℕ, ◌+◌, ◌≤◌, false, length, take, IsTrue}
use Rattle.evt_types.specs.declared.shape.TheConstants.{MAX_DEPTH}
use Rattle.order_parts.specs.Dealing.{loads_in, room_at, AreDealt, AreOpenOf}
use Rattle.order_parts.specs.HandedRow.{OfFlows}
use Rattle.order_parts.specs.Histories.{lane_in}
use Rattle.order_parts.specs.Orders.{is_restoring}
use Rattle.order_parts.specs.Pins.{may_pin, pin_at}
use Rattle.order_parts.specs.Reorder.{Reordering}
use Rattle.order_parts.specs.Rounds.{IsRound}
use Rattle.small_set.specs.SmallSets.{Has}
use Rattle.order_parts.proofs.dealing.deal_each.Given as goal

abbrev pub invariant-loop-delivery : goal.invariant-loop-delivery
invariant-loop-delivery g l =
    record {
      dealt : (r : Reordering) → is_restoring r ≡ false → AreDealt (OfFlows (goal.F-post g l.slot_of)) l.fn.opened l.queue r l.fn.pins l.fn.lanes (take l.delivery-index l.row) l.to.items r l.pins l.lanes;
      count : length l.to.items ≡ l.delivery-index;
      round : IsRound l.round (loads_in l.lanes) l.opened;
      opened : AreOpenOf l.fn.opened l.lanes l.opened;
      long : length l.lanes ≡ length l.fn.lanes;
      others : (m : ℕ) → ¬ Has l.fn.opened m → lane_in l.lanes m ≡ lane_in l.fn.lanes m;
      counts : (slot m : ℕ) → Has l.fn.opened m → IsTrue (may_pin (pin_at l.pins slot) m) → (pin_at l.pins slot).count + room_at l.lanes m ≤ MAX_DEPTH;
    }
