use Rattle.std.proofs.Common.{◌≡◌, ◌++◌}
use Rattle.std.specs.Prelude.{flat_map, string_bytes}
use Rattle.std.specs.List.{range_with_len}
use Rattle.timelines.specs.Picture.{flow_swatch}
use Rattle.timelines.proofs.head.write_flows.Given as goal

abbrev pub invariant-loop-colour : goal.invariant-loop-colour
invariant-loop-colour l = string_bytes l.out ≡ string_bytes l.initial.out ++ flat_map (flow_swatch l.flows) (range_with_len 0 l.colour)
