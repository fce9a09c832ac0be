use Rattle.std.proofs.Common.{◌≡◌, ℕ, ◌+◌, ◌-◌, ◌≤◌, [], true, length, take}
use Rattle.order_parts.specs.Dealing.{loads_in, AreDealt, AreOpenOf}
use Rattle.order_parts.specs.HandedRow.{OfFlows}
use Rattle.order_parts.specs.Histories.{lane_in}
use Rattle.order_parts.specs.Orders.{is_restoring}
use Rattle.order_parts.specs.Rounds.{IsRound}
use Rattle.small_set.specs.SmallSets.{Has}
use Rattle.order_parts.proofs.dealing.deal_ordered.Given as goal

abbrev pub invariant-loop-delivery : goal.invariant-loop-delivery
invariant-loop-delivery g l =
    record {
      dealt : AreDealt (OfFlows (goal.F-post g l.slot_of)) l.fn.opened l.queue l.fn.order [] l.fn.lanes (take l.delivery-index l.row) l.to.items l.order [] l.lanes;
      count : length l.to.items ≡ l.delivery-index;
      round : IsRound l.round (loads_in l.lanes) l.opened;
      opened : AreOpenOf l.fn.opened l.lanes l.opened;
      long : length l.lanes ≡ length l.fn.lanes;
      others : (m : ℕ) → ¬ Has l.fn.opened m → lane_in l.lanes m ≡ lane_in l.fn.lanes m;
      restores : is_restoring l.order ≡ true;
      places : length l.order.places + (length l.row - l.delivery-index) ≤ l.order.depth;
    }
