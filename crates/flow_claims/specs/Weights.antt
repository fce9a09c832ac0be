-- What was received and answered in a seat's stints, weighed by f and added up: in the finished ones, and in open ones so far.
use Rattle.std.specs.Prelude.{ℕ, ◌+◌, List, sum_by}
use Rattle.evt_types.specs.declared.event.Delivery.{Delivery}
use Rattle.evt_types.specs.declared.event.Reply.{Reply}
use Rattle.flow_claims.specs.declared.claim.Stint.{Stint}
use Rattle.flow_claims.specs.declared.seating.Past.{Past}
use Rattle.flow_claims.specs.declared.seating.Seating.{Seating}
use Rattle.flow_claims.specs.Stints.{received_in, answered_in}
use Rattle.flow_claims.specs.Open.{received_so_far, answered_so_far}

abbrev pub weight_received : (Delivery → ℕ) → List Past → ℕ
weight_received f ps = sum_by (λ p. sum_by f (received_in p)) ps

abbrev pub weight_answered : (Reply → ℕ) → List Past → ℕ
weight_answered f ps = sum_by (λ p. sum_by f (answered_in p)) ps

-- of the stints in a list, which a seat has open
abbrev pub weight_received_so_far : (Delivery → ℕ) → Seating → List Stint → ℕ
weight_received_so_far f v stints = sum_by (λ s. sum_by f (received_so_far v s)) stints

abbrev pub weight_answered_so_far : (Reply → ℕ) → Seating → List Stint → ℕ
weight_answered_so_far f v stints = sum_by (λ s. sum_by f (answered_so_far v s)) stints

-- of both together: the seat's finished stints, and those in the list
abbrev pub received_weight : (Delivery → ℕ) → Seating → List Stint → ℕ
received_weight f v stints = weight_received f v.finished + weight_received_so_far f v stints

abbrev pub answered_weight : (Reply → ℕ) → Seating → List Stint → ℕ
answered_weight f v stints = weight_answered f v.finished + weight_answered_so_far f v stints
