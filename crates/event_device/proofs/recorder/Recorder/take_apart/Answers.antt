use Rattle.std.proofs.Common.{◌≡◌, ◌∙◌, length, refl, ap, subst, arith}
use Rattle.std.specs.List.{range_with_len}
use Rattle.std.proofs.lemmas.List.Sorted.{All-permutation}
use Rattle.evt_types.specs.Fault.{IsWithinLimits}
use Rattle.event_scheduler.specs.Parts.{sight_in}
use Rattle.event_scheduler.specs.Scheduler.{Serves, Sight}
use Rattle.event_device.specs.Device.{IsPortOf, SchedulerSite, scheduler_of, scheduler_site}
use Rattle.event_device.specs.Ports.{AreByNumber}
use Rattle.event_device.specs.Recorder.{Recorded}
use Rattle.event_device.proofs.recorder.Recorder.take_apart.Goals as goal

pub by_number-requires-clause-known : goal.by_number-requires-clause-known
by_number-requires-clause-known g c = λ k d there.
    let of = c.requires.of in
    omega (arith, (of.ports_are k d there).0, ap (λ (x : SchedulerSite). length x.plan.ports) of.scheduler_is, c.port_count-count.ensures.value)

pub returns : goal.returns
returns g c =
    let of = c.requires.of in
    let parts = c.into_parts.result in
    let by = c.by_number.ensures in
    let Standing : Recorded → Type 0 = λ r. Serves r.log r.sight in
    let seen : sight_in parts c.args.self.sight.accepted_new ≡ c.args.self.sight =
    subst (λ (s : Sight). sight_in parts s.accepted_new ≡ s) (ap (λ (r : Recorded). r.sight) c.self.view_is) c.into_parts.ensures.sight in
    let site : scheduler_of (sight_in parts c.args.self.sight.accepted_new) ≡ scheduler_site of.device = ap scheduler_of seen ∙ of.scheduler_is in
    let plan = ap (λ (x : SchedulerSite). x.plan) of.scheduler_is in
    record {
      books = ap (λ (r : Recorded). r.log) c.self.view_is;
      apart = record {
        device = of.device;
        fits = of.fits;
        plan = ap (λ (x : SchedulerSite). x.plan) site;
        within = subst IsWithinLimits plan c.port_count-count.ensures.within;
        pool = ap (λ (x : SchedulerSite). x.pool) site;
        lanes = ap (λ (x : SchedulerSite). x.lanes) site;
        seat = c.into_parts.ensures.seat;
        one_part = ap (λ (x : SchedulerSite). x.parts) site;
        undrawn = c.into_parts.ensures.drawn;
        unset = c.into_parts.ensures.unset;
        control_is = of.control_is;
        ports_are = All-permutation (IsPortOf of.device) c.args.ports.items c.by_number.result.items by.same of.ports_are;
        numbers = by.numbers ∙ ap (range_with_len 0) (c.port_count-count.ensures.value ∙ ap (λ (x : SchedulerSite). length x.plan.ports) of.scheduler_is);
      };
      scheduler = seen;
      control = refl;
      ports = subst (λ k. AreByNumber k c.args.ports.items c.by_number.result.items) c.port_count-count.ensures.value by;
      serves = subst Standing c.self.view_is c.self.invariant;
    }
