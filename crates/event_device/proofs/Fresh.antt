-- A device just made is one device, and nothing was done with it.
use Rattle.std.proofs.Common.{◌≡◌, List, [], length, map, Some, refl, sym, ap, subst, ◌∙◌}
use Rattle.std.specs.Prelude.{slice_get}
use Rattle.std.specs.List.{range_with_len}
use Rattle.std.proofs.lemmas.List.{length-map}
use Rattle.event_ports.specs.declared.port.Port.{Port}
use Rattle.event_device.specs.Control.{control_of}
use Rattle.event_device.specs.Device.{ControlSite, Device, IsDevice, control_site, port_site, scheduler_of, scheduler_site, site_of}
use Rattle.event_device.specs.declared.control.Control.{Control}
use Rattle.event_scheduler.specs.Scheduler.{Serves, Sight, sight_of}
use Rattle.event_scheduler.specs.declared.scheduler.Scheduler.{Scheduler}
use Rattle.evt_types.specs.Plan.{Plan}
use Rattle.event_device.specs.Parts.{IsOne, IsSmall, Parts, device_at, device_of}
use Rattle.event_device.specs.Start.{IsFresh, IsMade}
use Rattle.event_device.proofs.Homes.{there_in_all}
use Rattle.event_device.proofs.InOrder.{port_count, port_here}

module _ (p : Plan) (scheduler : Scheduler) (ports : List Port) (control : Control) (made : IsMade p scheduler ports control) (r : Parts)
    (sight : r.recorded.sight ≡ sight_of scheduler) (log : r.recorded.log ≡ []) (claims : r.claims ≡ (control_of control).claims) (control_home : r.control ≡ Some control)
    (at_home : r.ports ≡ map Some ports) where
  scheduler_is : scheduler_of r.recorded.sight ≡ scheduler_site made.device
  scheduler_is = ap scheduler_of sight ∙ made.scheduler_is

  is : device_of r ≡ made.device
  is = ap (λ s. device_at s r.claims) scheduler_is ∙ ap (device_at (scheduler_site made.device)) (claims ∙ ap (λ (c : ControlSite). c.claims) made.control_is)

  plan_is : (device_of r).plan ≡ p
  plan_is = ap (λ (d : Device). d.plan) is ∙ made.plan

  serves : Serves [] r.recorded.sight
  serves = subst (Serves []) (sym sight) made.serves

  control_is : control_of control ≡ control_site (device_of r)
  control_is = made.control_is ∙ ap control_site (sym is)

  sites : map site_of ports ≡ map (port_site (device_of r)) (range_with_len 0 (length (device_of r).plan.ports))
  sites =
      made.ports_are ∙ (ap (λ d. map (port_site d) (range_with_len 0 (length p.ports))) (sym is) ∙ ap (λ (q : Plan). map (port_site (device_of r)) (range_with_len 0 (length q.ports))) (sym plan_is))

  pub made_is_one : IsSmall p → IsOne r
  made_is_one small =
      record {
        fits = subst IsDevice (sym is) made.fits;
        scheduler_is = scheduler_is ∙ ap scheduler_site (sym is);
        control_is = λ c home. let same : c ≡ control = cc (home, control_home) in ap control_of same ∙ control_is;
        ports_are = λ n port here.
            port_here (device_of r) ports (length (device_of r).plan.ports) sites refl n port (there_in_all ports n port (ap (λ xs. slice_get xs n) (sym at_home) ∙ here));
        count = ap length at_home ∙ (length-map ports Some ∙ port_count (device_of r) ports (length (device_of r).plan.ports) sites);
        small = subst IsSmall (sym plan_is) small;
        serves = ∣ subst (λ T. Serves T r.recorded.sight) (sym log) serves ∣₁;
      }

  pub made_is_fresh : IsFresh p r
  made_is_fresh =
      record {
        plan = plan_is;
        fits = subst IsDevice (sym is) made.fits;
        scheduler_is = scheduler_is ∙ ap scheduler_site (sym is);
        log = log;
        serves = serves;
        unused = subst (λ (s : Sight). (s.pocket ≡ 0) × (s.account.returned ≡ 0)) (sym sight) made.unused;
        ports = ports;
        at_home = at_home;
        ports_are = sites;
        empty = made.empty;
        undrawn = made.undrawn;
        uncounted = made.uncounted;
        control = control;
        control_home = control_home;
        control_is = control_is;
        not_shut = made.not_shut;
      }
