use Rattle.std.proofs.Common.{Some, refl, sym, ap, length, subst, set, arith}
use Rattle.std.proofs.lemmas.Option.{slice_get_read, slice_get_within}
use Rattle.event_device.specs.Lent.{MayLeave}
use Rattle.event_device.specs.Parts.{IsOne, Parts, device_of}
use Rattle.event_device.proofs.Ones.{may_leave, one_without}
use Rattle.event_device.proofs.running.Device.take_port.Goals as goal

pub invariant_of-self : goal.invariant_of-self
invariant_of-self g c =
    let r : Parts = record { recorded = c.self.inside.recorder; control = c.self.inside.control; claims = c.self.inside.claims.value; ports = c.self.inside.ports.items } in
    subst (λ home. IsOne (record r { ports = set r.ports c.args.number home })) (sym c.take.ensures.after) (one_without r c.self.invariant c.args.number)

pub returns-clause-lent : goal.returns-clause-lent
returns-clause-lent g c =
    let r : Parts = record { recorded = c.self.inside.recorder; control = c.self.inside.control; claims = c.self.inside.claims.value; ports = c.self.inside.ports.items } in
    let home = c.index_mut.result.now in
    let here = slice_get_read r.ports _ c.args.number home refl (omega arith) c.index_mut.ensures.value in
    let new : Parts = record r { ports = set r.ports c.args.number c.take.new.self } in
    subst (λ result. MayLeave c.args.number result c.args.self.now new) (sym c.take.ensures.value)
    (subst (λ old. MayLeave c.args.number home old new) c.self.view_is (may_leave r c.self.invariant c.args.number home c.take.new.self here c.take.ensures.after))

pub returns-then-number-len-clause-lent : goal.returns-then-number-len-clause-lent
returns-then-number-len-clause-lent g c = (
  λ port there.
      omega (arith, slice_get_within c.args.self.now.ports c.args.number (Some port) there, ap (λ (v : Parts). length v.ports) c.self.view_is, c.if-number-len.true, c.len.ensures),
  refl,
)

pub returns-then-number-len-clause-device : goal.returns-then-number-len-clause-device
returns-then-number-len-clause-device g c = refl

pub index_mut-requires : goal.index_mut-requires
index_mut-requires g c = omega (arith, c.if-number-len.false, c.len.ensures)

pub returns-clause-device : goal.returns-clause-device
returns-clause-device g c = ap (λ v. device_of v) c.self.view_is
