-- A delivery without its queue, which is the one that the event names.
use Rattle.evt_types.specs.Delivered.{Delivered, delivered}
use Rattle.evt_types.specs.declared.event.Delivery.TheInside.{Inside}

abbrev pub delivery_in : Inside → Delivered
delivery_in a = delivered a.event a.number

abbrev pub inside_of : Delivered → Inside
inside_of d = record { event = d.event; number = d.number }
