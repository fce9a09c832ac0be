use Rattle.std.proofs.Common.{Some, true, refl, sym, subst}
use Rattle.event_device.specs.Lent.{Shuts, ShutsBy}
use Rattle.event_device.specs.Parts.{Parts}
use Rattle.event_device.proofs.running.Device.shut.Goals as goal

pub returns-clause-shut : goal.returns-clause-shut
returns-clause-shut g c =
    let r : Parts = record { recorded = c.self.inside.recorder; control = c.self.inside.control; claims = c.self.inside.claims.value; ports = c.self.inside.ports.items } in
    let q : Parts = record r { control = Some c.shut.new.self } in
    let by : ShutsBy (Some c.in-Some.control) true r q = (refl, (c.shut.new.self, c.shut.ensures.site, c.shut.ensures.shut, refl)) in
    subst (λ old. Shuts true old q) c.self.view_is (subst (λ control. ShutsBy control true r q) (sym c.in-Some.is) by)
