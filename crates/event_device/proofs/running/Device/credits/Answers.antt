use Rattle.std.proofs.Common.{sym, ap, subst}
use Rattle.std.proofs.lemmas.Grind.{merely}
use Rattle.event_device.specs.Device.{scheduler_of}
use Rattle.event_device.specs.Parts.{IsOne, Parts}
use Rattle.event_device.specs.Recorder.{Recorded}
use Rattle.event_device.specs.declared.running.Device.TheInside.{Inside}
use Rattle.event_device.proofs.Ones.{one_swept}
use Rattle.event_device.proofs.running.Device.credits.Goals as goal
use Rattle.event_scheduler.specs.Scheduler.{sight_of}

pub invariant_of-self : goal.invariant_of-self
invariant_of-self g c =
    let parts : Inside g.row.L.Denot → Parts = λ i. record { recorded = i.recorder; control = i.control; claims = i.claims.value; ports = i.ports.items } in
    let after : Recorded = record { sight = sight_of c.credits.new.self; log = g.L.StepLog.steps c.self-inside.inside.0.0.books.log } in
    one_swept _ (subst (λ i. IsOne (parts i)) (sym c.self-inside.view_is) c.self.invariant) after (ap scheduler_of c.credits.ensures.looked) (merely (c.credits.ensures.serves _ c.self-inside.invariant))
