-- The events that the core lists of the first queues, and of one queue more.
use Rattle.std.proofs.Common.{◌≡◌, ℕ, ◌+◌, List, ◌++◌, length, map, ap, arith, length-append}
use Rattle.std.proofs.lemmas.List.{length-map}
use Rattle.evt_types.specs.declared.event.Delivery.{Delivery}
use Rattle.evt_types.specs.declared.event.Numbered.{Numbered}
use Rattle.parked_queue.specs.Lists.{delivery_of}

-- how long a list is to which a queue's waiting events were appended
pub waiting_length : (old now : List Delivery) (q : ℕ) (ws : List Numbered) → now ≡ old ++ map (delivery_of q) ws → length now ≡ length old + length ws
waiting_length old now q ws is = omega (arith, ap length is, length-append old (map (delivery_of q) ws), length-map ws (delivery_of q))
