-- The parts of a device that runs stay those of one device: where a port or the control leaves or comes back, and after a sweep. And
-- they are what a stop asks for.
use Rattle.std.proofs.Common.{◌≡◌, ℕ, ◌<◌, List, length, get_or, set, Some, None, refl, sym, ap, subst, ◌∙◌, ⊎_elim, arith}
use Rattle.std.specs.Prelude.{Ok, Err, IfOk, IsErr, Option, Result, slice_get, slice_set}
use Rattle.std.specs.declared.alloc.AllocError.{AllocError}
use Rattle.std.proofs.lemmas.List.{length-set, set-get_or}
use Rattle.std.proofs.lemmas.Option.{get_or_from_slice_get, slice_get_read}
use Rattle.event_answers.specs.declared.answer.Swept.{Swept}
use Rattle.event_ports.specs.declared.port.Port.{Port}
use Rattle.event_device.specs.Control.{control_of}
use Rattle.event_device.specs.Device.{IsDevice, IsPortOf, SchedulerSite, control_site, number_of, scheduler_of, scheduler_site}
use Rattle.event_device.specs.Ports.{DifferInNumber}
use Rattle.event_device.specs.Recorder.{Recorded}
use Rattle.event_device.specs.Stop.{AreOf}
use Rattle.event_device.specs.declared.control.Control.{Control}
use Rattle.event_scheduler.specs.Scheduler.{Serves}
use Rattle.event_scheduler.specs.Swept.{Sweeps}
use Rattle.event_device.specs.Parts.{IsOne, IsSmall, Parts, device_at, device_of}
use Rattle.event_device.specs.Home.{AreHome}
use Rattle.event_device.specs.Lent.{IsAway, Leaves, MayLeave}
use Rattle.event_device.proofs.Homes.{in_all, option_cases, read_written}
use Rattle.event_device.proofs.Served.{still_serves}

module _ (r : Parts) (one : IsOne r) where
  with_ports : (ports : List (Option Port)) → length ports ≡ length r.ports → ((n : ℕ) (x : Port) → slice_get ports n ≡ Some (Some x) → (number_of x ≡ n) × IsPortOf (device_of r) x) → IsOne (record r { ports = ports })
  with_ports ports same each =
      record {
        fits = one.fits;
        scheduler_is = one.scheduler_is;
        control_is = one.control_is;
        ports_are = each;
        count = same ∙ one.count;
        small = one.small;
        serves = one.serves;
      }

  -- a home becomes empty
  pub one_without : (n : ℕ) → IsOne (record r { ports = slice_set r.ports n None })
  one_without n =
      with_ports (slice_set r.ports n None) (length-set r.ports n None)
      (λ m x here. ⊎_elim (λ written. cc written.1) (λ there. one.ports_are m x there) (read_written r.ports n m None (Some x) here))

  -- what is read at the number of a port of the device is in its home
  pub home_of : (port : Port) → IsPortOf (device_of r) port → (n : ℕ) (home : Option Port) → n ≡ number_of port → home ≡ get_or r.ports n home → slice_get r.ports (number_of port) ≡ Some home
  home_of port is n home number read =
      ap (slice_get r.ports) (sym number) ∙ slice_get_read r.ports (length r.ports) n home refl (omega (arith, is.0, number, one.count)) read

  -- a port of the device is put in its home
  pub one_with : (port : Port) → IsPortOf (device_of r) port → IsOne (record r { ports = slice_set r.ports (number_of port) (Some port) })
  one_with port is =
      with_ports (slice_set r.ports (number_of port) (Some port)) (length-set r.ports (number_of port) (Some port))
      (λ m x here.
      ⊎_elim (λ written. let same : port ≡ x = cc written.1 in (subst (λ y. number_of y ≡ m) same written.0, subst (IsPortOf (device_of r)) same is)) (λ there. one.ports_are m x there)
      (read_written r.ports (number_of port) m (Some port) (Some x) here))

  -- the port that was in a home left it, or none was there
  module _ (n : ℕ) (home after : Option Port) (here : slice_get r.ports n ≡ Some home) (gone : after ≡ None) where
    stays_away : home ≡ None → IsAway n r × (record r { ports = set r.ports n after } ≡ r)
    stays_away empty =
        let as_before : set r.ports n home ≡ r.ports = ap (set r.ports n) (sym (get_or_from_slice_get r.ports n home home here)) ∙ set-get_or r.ports n home in (
          λ port there. cc (here, there, empty),
          ap (λ p. record r { ports = set r.ports n p }) (gone ∙ sym empty) ∙ ap (λ ports. record r { ports = ports }) as_before,
        )

    leaves : (port : Port) → home ≡ Some port → Leaves n port r (record r { ports = set r.ports n after })
    leaves port there =
        let home : slice_get r.ports n ≡ Some (Some port) = here ∙ ap Some there in
        let is = one.ports_are n port home in
        record { was_home = home; number = is.0; of_device = is.1; away = ap (λ p. record r { ports = set r.ports n p }) gone }

    pub may_leave : MayLeave n home r (record r { ports = set r.ports n after })
    may_leave = option_cases (λ o. MayLeave n o r (record r { ports = set r.ports n after })) home stays_away leaves

  -- its scheduler swept
  pub one_swept : (s : Recorded) → scheduler_of s.sight ≡ scheduler_of r.recorded.sight → ∥ Serves s.log s.sight ∥₁ → IsOne (record r { recorded = s })
  one_swept s same serves =
      let back : scheduler_of r.recorded.sight ≡ scheduler_of s.sight = sym same in
      record {
        fits = subst (λ site. IsDevice (device_at site r.claims)) back one.fits;
        scheduler_is = subst (λ site. site ≡ scheduler_site (device_at site r.claims)) back one.scheduler_is;
        control_is = subst (λ site. (control : Control) → r.control ≡ Some control → control_of control ≡ control_site (device_at site r.claims)) back one.control_is;
        ports_are = subst (λ site. (n : ℕ) (port : Port) → slice_get r.ports n ≡ Some (Some port) → (number_of port ≡ n) × IsPortOf (device_at site r.claims) port) back one.ports_are;
        count = subst (λ (site : SchedulerSite). length r.ports ≡ length site.plan.ports) back one.count;
        small = subst (λ (site : SchedulerSite). IsSmall site.plan) back one.small;
        serves = serves;
      }

  -- so it is after a sweep, whatever that answered
  pub one_answered : (result : Result Swept AllocError) (s : Recorded) → IfOk result (λ n. Sweeps n r.recorded.sight r.recorded.log s.sight s.log) → (IsErr result → s ≡ r.recorded)
      → scheduler_of s.sight ≡ scheduler_of r.recorded.sight → IsOne (record r { recorded = s })
  one_answered (Ok n) s sweeps memory same =
      one_swept s same (still_serves n r.recorded.sight r.recorded.log s.sight s.log sweeps one.serves)
  one_answered (Err e) s sweeps memory same = subst (λ t. IsOne (record r { recorded = t })) (sym (memory refl)) one

  -- all of them at home may be stopped
  module _ (control : Control) (ports : List Port) (home : AreHome r control ports) where
    port_here : (i : ℕ) (x : Port) → i < length ports → (number_of (get_or ports i x) ≡ i) × IsPortOf (device_of r) (get_or ports i x)
    port_here i x there = one.ports_are i (get_or ports i x) (ap (λ ps. slice_get ps i) home.ports_are ∙ in_all ports i x there)

    differ : DifferInNumber ports
    differ i j x low there e =
        omega (arith, low, (port_here i x (omega (arith, low, there))).0, (port_here j x there).0, e)

    pub one_are_of : AreOf r.recorded control ports
    one_are_of =
        record {
          device = device_of r;
          fits = one.fits;
          scheduler_is = one.scheduler_is;
          control_is = one.control_is control home.control_is;
          ports_are = λ i x there. (port_here i x there).1;
          once = differ;
        }
