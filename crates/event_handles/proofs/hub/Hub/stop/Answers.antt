use Rattle.std.proofs.Common.{pos, refl, sym}
use Rattle.event_handles.proofs.Changed.{stopped_done}
use Rattle.event_handles.proofs.hub.Hub.stop.Goals as goal

pub returns-in-Ok : goal.returns-in-Ok
returns-in-Ok c =
    let runs = sym c.in-Some.ensures.value in
    stopped_done c.args.self.now _ (pos 0) refl refl c.in-Some.device _ runs c.take.ensures.after c.replace.ensures.after
    (record { stops = c.in-Ok.ensures.stopped; part = refl; handed = refl; kinds = c.args.self.now.kinds_are c.in-Some.device runs }) refl
