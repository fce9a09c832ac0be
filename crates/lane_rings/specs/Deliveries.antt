-- A row of deliveries.
use Rattle.std.specs.Prelude.{List}
use Rattle.evt_types.specs.declared.event.Delivery.{Delivery}

-- oldest first
pub record Row : Type 0 where
  pub items : List Delivery
