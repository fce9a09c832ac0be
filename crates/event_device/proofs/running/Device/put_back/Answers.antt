use Rattle.std.proofs.Common.{Some, refl, sym, ap, subst, ◌∙◌, set}
use Rattle.event_device.specs.Device.{IsPortOf}
use Rattle.event_device.specs.Lent.{ComesBack, IsThere}
use Rattle.event_device.specs.Parts.{IsOne, Parts, device_of}
use Rattle.event_device.proofs.Ones.{home_of, one_with}
use Rattle.event_device.proofs.Homes.{none_there, some_there}
use Rattle.event_device.proofs.running.Device.put_back.Goals as goal

pub returns-then-is_some-clause-there : goal.returns-then-is_some-clause-there
returns-then-is_some-clause-there g c =
    let r : Parts = record { recorded = c.self.inside.recorder; control = c.self.inside.control; claims = c.self.inside.claims.value; ports = c.self.inside.ports.items } in
    let home = c.index.result.now in
    let of_it : IsPortOf (device_of r) c.args.port = subst (λ old. IsPortOf (device_of old) c.args.port) (sym c.self.view_is) c.requires in
    let read = home_of r c.self.invariant c.args.port of_it c.number-number.result home c.number-number.ensures c.index.ensures in
    let there = some_there home (sym c.is_some.ensures ∙ c.if-is_some.true) in
    let is : IsThere c.args.port r r = record {
      other = there.0;
      was_home = read ∙ ap Some there.1;
      same = refl;
    } in
    (refl, subst (λ v. IsThere c.args.port v v) c.self.view_is is)

pub invariant_of-self : goal.invariant_of-self
invariant_of-self g c =
    let r : Parts = record { recorded = c.self.inside.recorder; control = c.self.inside.control; claims = c.self.inside.claims.value; ports = c.self.inside.ports.items } in
    let is : IsPortOf (device_of r) c.args.port = subst (λ old. IsPortOf (device_of old) c.args.port) (sym c.self.view_is) c.requires in
    subst (λ home. IsOne (record r { ports = set r.ports c.number-number.result home })) (sym c.replace.ensures.after)
    (subst (λ n. IsOne (record r { ports = set r.ports n (Some c.args.port) })) (sym c.number-number.ensures) (one_with r c.self.invariant c.args.port is))

pub returns-clause-back : goal.returns-clause-back
returns-clause-back g c =
    let r : Parts = record { recorded = c.self.inside.recorder; control = c.self.inside.control; claims = c.self.inside.claims.value; ports = c.self.inside.ports.items } in
    let home = c.index.result.now in
    let of_it : IsPortOf (device_of r) c.args.port = subst (λ old. IsPortOf (device_of old) c.args.port) (sym c.self.view_is) c.requires in
    let read = home_of r c.self.invariant c.args.port of_it c.number-number.result home c.number-number.ensures c.index.ensures in
    let empty = none_there home (sym c.is_some.ensures ∙ c.if-is_some.false) in
    let new : Parts = record r { ports = set r.ports c.number-number.result c.replace.new.self } in
    let is : ComesBack c.args.port r new = record {
      was_away = read ∙ ap Some empty;
      at_home = ap (λ home. record r { ports = set r.ports c.number-number.result home }) c.replace.ensures.after
          ∙ ap (λ n. record r { ports = set r.ports n (Some c.args.port) }) c.number-number.ensures;
    } in
    subst (λ old. ComesBack c.args.port old new) c.self.view_is is
