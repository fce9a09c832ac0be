-- An event on its way to a port, and in its hand.
use Rattle.std.specs.Prelude.{ℕ}
use Rattle.evt_types.specs.declared.event.Event.{Event}

-- the event, the queue that accepted it, and its number there
pub record Delivered : Type 0 where
  pub event : Event
  pub queue : ℕ
  pub number : ℕ

-- the event of this number of the queue that it names
abbrev pub delivered : Event → ℕ → Delivered
delivered e n = record { event = e; queue = e.queue; number = n }
