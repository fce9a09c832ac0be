use Rattle.std.proofs.Common.{sym, subst}
use Rattle.event_device.specs.Device.{IsPortOf}
use Rattle.event_device.specs.Parts.{device_of}
use Rattle.event_handles.specs.declared.port.Seat.{Seat}
use Rattle.event_handles.proofs.hub.Hub.join.Goals as goal

pub put_back-requires : goal.put_back-requires
put_back-requires c =
    let of_device : IsPortOf (device_of c.in-Some.device) c.in-Some-seat.seat.port = c.requires c.in-Some.device c.in-Some-seat.seat c.in-Some.is c.in-Some-seat.is in
    subst (λ (seat : Seat). IsPortOf (device_of c.in-Some.device) seat.port) (sym c.in-Some-seat.seat-is) of_device
