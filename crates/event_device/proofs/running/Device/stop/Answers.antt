use Rattle.std.proofs.Common.{◌≡◌, ℕ, ◌<◌, ◌∙◌, Some, None, map, length, refl, sym, ap, subst, arith}
use Rattle.std.specs.Prelude.{slice_get}
use Rattle.std.proofs.lemmas.List.{length-map}
use Rattle.event_device.specs.Home.{AreHome, IsFilled, IsWhy, Stops}
use Rattle.event_device.specs.Parts.{IsOne, Parts}
use Rattle.event_device.specs.Ports.{Refuses}
use Rattle.event_device.specs.declared.fault.NotStopped.TheVariants.{ControlLent, Memory, PortLent}
use Rattle.event_device.proofs.Ones.{one_are_of}
use Rattle.event_device.proofs.Homes.{none_there, some_there}
use Rattle.event_device.proofs.Stopping.{all_filled, all_ports, none_missing, same_parts}
use Rattle.event_device.proofs.running.Device.stop.Goals as goal

pub returns-in-Some-clause-refused : goal.returns-in-Some-clause-refused
returns-in-Some-clause-refused g c =
    let n = c.in-Some.port in
    let lent = subst (λ ps. (slice_get ps n ≡ Some None) × ((k : ℕ) → k < n → IsFilled ps k)) c.deref.ensures.value c.in-Some.ensures in
    (subst (IsWhy (PortLent n)) c.self.view_is lent, refl)

pub returns-then-is_none-clause-refused : goal.returns-then-is_none-clause-refused
returns-then-is_none-clause-refused g c =
    let ports = all_ports c.self.inside.ports.items (subst (λ ps. (n : ℕ) → n < length ps → IsFilled ps n) c.deref.ensures.value c.in_default.ensures) in
    (subst (IsWhy ControlLent) c.self.view_is (none_there c.self.inside.control c.if-is_none.ensures, (ports.0, ports.1)), refl)

pub returns-in_default-with_capacity-clause-refused :
    goal.returns-in_default-with_capacity-clause-refused
returns-in_default-with_capacity-clause-refused g c =
    let ports = all_ports c.self.inside.ports.items (subst (λ ps. (n : ℕ) → n < length ps → IsFilled ps n) c.deref.ensures.value c.in_default.ensures) in
    let control = some_there c.self.inside.control c.if-is_none.ensures in
    (subst (IsWhy Memory) c.self.view_is (control.0, ports.0, record { control_is = control.1; ports_are = ports.1 }), refl)

pub gather-ports-requires-clause-home : goal.gather-ports-requires-clause-home
gather-ports-requires-clause-home g c =
    let ports = all_ports c.self.inside.ports.items (subst (λ ps. (n : ℕ) → n < length ps → IsFilled ps n) c.deref.ensures.value c.in_default.ensures) in
    all_filled c.self.inside.ports.items ports.0 ports.1

pub stop-requires : goal.stop-requires
stop-requires g c =
    one_are_of _ c.self.invariant c.in-Some-control.control c.gather-ports.result.items
    (record { control_is = c.in-Some-control.is; ports_are = c.gather-ports.ensures.gathered })

pub unreachable-requires-in-Err-Missing-default-default-default :
    goal.unreachable-requires-in-Err-Missing-default-default-default
unreachable-requires-in-Err-Missing-default-default-default g c =
    let arm = c.in-Err-Missing-default-default-default in
    let missing = subst (Refuses (length c.self.inside.recorder.sight.core.shape.ports) c.gather-ports.result.items) arm.field-0-0-is arm.ensures.refused in
    none_missing _ c.self.invariant c.in-Some-control.control c.gather-ports.result.items
    (record { control_is = c.in-Some-control.is; ports_are = c.gather-ports.ensures.gathered }) arm.field-0-0-0 missing.0 missing.1

pub returns-in-Ok-stop-clause-stopped : goal.returns-in-Ok-stop-clause-stopped
returns-in-Ok-stop-clause-stopped g c =
    let r : Parts = record { recorded = c.self.inside.recorder; control = c.self.inside.control; claims = c.self.inside.claims.value; ports = c.self.inside.ports.items } in
    let stops : Stops {X = g.row.L.Denot} g.L.StepLog.steps r c.in-Ok-stop.report =
    record {
      control = c.in-Some-control.control;
      ports = c.gather-ports.result.items;
      at_home = record { control_is = c.in-Some-control.is; ports_are = c.gather-ports.ensures.gathered };
      report = c.in-Ok-stop.ensures.report;
    } in
    subst (λ v. Stops {X = g.row.L.Denot} g.L.StepLog.steps v c.in-Ok-stop.report) c.self.view_is stops

pub returns-in-Err-Memory-default-default-default-clause-refused :
    goal.returns-in-Err-Memory-default-default-default-clause-refused
returns-in-Err-Memory-default-default-default-clause-refused g c =
    let r : Parts = record { recorded = c.self.inside.recorder; control = c.self.inside.control; claims = c.self.inside.claims.value; ports = c.self.inside.ports.items } in
    let back = c.in-Err-Memory-default-default-default.ensures.back in
    let home : AreHome r c.in-Some-control.control c.gather-ports.result.items = record { control_is = c.in-Some-control.is; ports_are = c.gather-ports.ensures.gathered } in (
      subst (IsWhy Memory) c.self.view_is (c.in-Some-control.control, c.gather-ports.result.items, home),
      same_parts r _ _ _ back.0 (ap Some back.1 ∙ sym c.in-Some-control.is) (c.put_all.ensures ∙ (ap (λ ps. map Some ps.items) back.2 ∙ sym c.gather-ports.ensures.gathered)) ∙ c.self.view_is,
    )

pub gather-ports-requires-clause-empty : goal.gather-ports-requires-clause-empty
gather-ports-requires-clause-empty g c = c.in-Ok.ensures.items

pub gather-ports-requires-clause-room : goal.gather-ports-requires-clause-room
gather-ports-requires-clause-room g c = omega (arith, c.in-Ok.ensures.capacity, c.len.ensures)

pub put_all-requires-clause-empty : goal.put_all-requires-clause-empty
put_all-requires-clause-empty g c = c.gather-ports.ensures.empty

pub invariant_of-device : goal.invariant_of-device
invariant_of-device g c =
    let r : Parts = record { recorded = c.self.inside.recorder; control = c.self.inside.control; claims = c.self.inside.claims.value; ports = c.self.inside.ports.items } in
    let back = c.in-Err-Memory-default-default-default.ensures.back in
    let same =
    same_parts r _ _ _ back.0 (ap Some back.1 ∙ sym c.in-Some-control.is) (c.put_all.ensures ∙ (ap (λ ps. map Some ps.items) back.2 ∙ sym c.gather-ports.ensures.gathered)) in
    subst IsOne (sym same) c.self.invariant

pub put_all-requires-clause-room : goal.put_all-requires-clause-room
put_all-requires-clause-room g c =
    let arm = c.in-Err-Memory-default-default-default in
    let gathered = c.gather-ports.ensures in
    omega (
      arith,
      ap (λ ps. length ps.items) arm.ensures.back.2,
      ap length gathered.gathered,
      length-map c.gather-ports.result.items Some,
      gathered.capacity,
      arm.ports.ok.0,
      c.self.inside.ports.ok.0,
      c.self.inside.ports.ok.1,
    )
