use Rattle.std.proofs.Common.{map, ap, ◌∙◌, length, arith}
use Rattle.std.proofs.lemmas.Bool.{false≢true}
use Rattle.std.proofs.lemmas.List.{length-replicate}
use Rattle.order_parts.specs.Pins.{free, pin_of}
use Rattle.order_parts.proofs.Holds.{map-replicate}
use Rattle.order_parts.proofs.pins.Pins.new.Goals as goal

pub returns : goal.returns
returns c = ap (map pin_of) (c.in_ok-holds.ensures.items_if_clones_equal (λ y e. e)) ∙ map-replicate _ c.args.slots

pub invariant_of-result : goal.invariant_of-result
invariant_of-result c = record { few = omega (arith, c.requires, ap length (returns c), length-replicate c.args.slots free); held = λ kept. absurd (false≢true kept) }
