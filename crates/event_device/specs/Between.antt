-- The lists of a lane at rest, by its two ends.
use Rattle.std.specs.Prelude.{ℕ, ◌≡◌, ◌≤◌, List, [], ◌++◌, length, drop, count_by, slice_get, Option, Some, None}
use Rattle.evt_types.specs.Additions.{AreBeside}
use Rattle.evt_types.specs.Operation.{is_answer}
use Rattle.lane_rings.specs.Ends.{offered, taken, received_by, answered}
use Rattle.lane_rings.specs.declared.far.Far.{Far}
use Rattle.lane_rings.specs.declared.near.Near.{Near}
use Rattle.world_laws.specs.Rest.{Rest}

-- The lists of a lane's two ends at rest: what is left in the rings stands behind what was received and taken.
abbrev pub rest_between : Near → Far → Rest
rest_between near far =
    record {
      offered = offered near;
      received = received_by far;
      undelivered = drop (length (received_by far)) (offered near);
      answered = answered far;
      taken = taken near;
      untaken = drop (length (taken near)) (answered far);
    }

-- the empty lists of a lane that isn't there
abbrev pub no_rest : Rest
no_rest = record { offered = []; received = []; undelivered = []; answered = []; taken = []; untaken = [] }

-- the lists of two ends, if both are there
abbrev pub rest_of : Option Near → Option Far → Rest
rest_of (Some near) (Some far) = rest_between near far
rest_of (Some near) None = no_rest
rest_of None far = no_rest

-- the same by lane, where each end stands at its lane's number
abbrev pub rest_at : List Near → List Far → ℕ → Rest
rest_at nears fars l = rest_of (slice_get nears l) (slice_get fars l)

-- the two ends fit together
pub record IsAtRest (r : Rest) : Type 0 where
  pub received : r.offered ≡ r.received ++ r.undelivered
  pub answered : r.answered ≡ r.taken ++ r.untaken
  pub fewer : count_by is_answer r.answered ≤ length r.received
  pub beside : AreBeside (length r.received) r.answered
