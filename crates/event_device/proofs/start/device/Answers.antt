-- What was made is a device.
use Rattle.std.proofs.Common.{◌∙◌, ap, map, refl}
use Rattle.std.specs.Arc.{arc_value}
use Rattle.evt_types.specs.Plan.{Plan}
use Rattle.event_device.specs.Device.{scheduler_of}
use Rattle.event_scheduler.specs.Scheduler.{Sight}
use Rattle.lane_rings.specs.Identity.{near_id}
use Rattle.event_device.specs.Prepared.{device_in}
use Rattle.event_device.proofs.start.device.Goals as goal

pub returns-clause-made : goal.returns-clause-made
returns-clause-made c =
    let p : Plan = c.args.shape in
    let made = c.in-Ok.ensures in
    let sight = c.new-scheduler.ensures.sight in
    let shape = c.in-Ok-new.ensures.shape in
    record {
      device = device_in p c.in-Ok.made;
      plan = refl;
      fits = made.fits;
      scheduler_is =
          ap scheduler_of sight ∙ (λ i. record { plan = shape i; pool = made.pool i; lanes = map near_id c.in-Ok.made.nears.items; parts = made.part i });
      serves = c.new-scheduler.ensures.serves;
      unused = (ap (λ (s : Sight). s.pocket) sight, ap (λ (s : Sight). s.account.returned) sight ∙ made.seat.returned);
      ports_are = made.ports.sites;
      empty = made.ports.empty;
      undrawn = made.ports.undrawn;
      uncounted = made.ports.uncounted;
      control_is =
          c.new-control.ensures.site
          ∙ (λ i. record { pool = arc_value c.in-Ok.made.shared.pool; claims = arc_value c.in-Ok.made.shared.claims; credit_parts = made.seats.credits_are i; claim_parts = made.seats.claims_are i });
      not_shut = c.new-control.ensures.shut ∙ made.seats.unused_credit.unset;
    }
