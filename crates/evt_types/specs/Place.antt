-- A place of an ordered queue's hand-out.
use Rattle.std.specs.Prelude.{ℕ, Bool, List}
use Rattle.evt_types.specs.declared.event.Event.{Event}

-- an open number of an ordered queue: whether it is answered, and what it was forwarded as
pub record Place : Type 0 where
  pub number : ℕ
  pub answered : Bool
  pub forwards : List Event
