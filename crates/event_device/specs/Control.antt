-- What a clause sees of a control.
use Rattle.std.specs.Prelude.{Bool}
use Rattle.std.specs.Arc.{arc_value}
use Rattle.credit_pool.specs.Pool.{account}
use Rattle.flow_claims.specs.Claims.{seating}
use Rattle.event_device.specs.Device.{ControlSite}
use Rattle.event_device.specs.declared.control.Control.{Control}

-- what never changes of it
abbrev pub control_of : Control → ControlSite
control_of c =
    record {
      pool = arc_value c.pool;
      claims = arc_value c.claims;
      credit_parts = (account c.credit).parts;
      claim_parts = (seating c.claim).parts;
    }

-- the device was shut by it
abbrev pub was_shut : Control → Bool
was_shut c = (account c.credit).set_shut
