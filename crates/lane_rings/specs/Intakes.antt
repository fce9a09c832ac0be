-- What an intake has handed out, and what it has seen beyond that.
use Rattle.std.specs.Prelude.{◌-◌, ◌++◌, List, length, take}
use Rattle.rtrb.specs.Ring.{received, known_items}
use Rattle.lane_rings.specs.Batches.{between}
use Rattle.lane_rings.specs.declared.intake.Intake.{Intake}

module _ {T : Type 0} where
  -- what is in the batch, in order
  abbrev pub inside : Intake T → List T
  inside i = between i.at i.end i.places.items

  -- what was handed out: what came out of the ring, but for what is still in the batch
  abbrev pub handed : Intake T → List T
  handed i = take (length (received i.ring) - length (inside i)) (received i.ring)

  -- what was seen and not handed out, in the batch and then in the ring
  abbrev pub ahead : Intake T → List T
  ahead i = inside i ++ known_items i.ring
