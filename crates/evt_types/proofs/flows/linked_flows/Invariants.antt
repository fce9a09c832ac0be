use Rattle.std.proofs.Common.{◌≡◌, slice_get}
use Rattle.std.specs.List.{range_with_len, filter}
use Rattle.evt_types.specs.Plan.{is_linked_flow}
use Rattle.evt_types.proofs.flows.linked_flows.Given as goal

abbrev pub invariant-loop-place : goal.invariant-loop-place
invariant-loop-place l = l.places.items ≡ filter (λ place. is_linked_flow l.links (slice_get l.flows place)) (range_with_len 0 l.place)
