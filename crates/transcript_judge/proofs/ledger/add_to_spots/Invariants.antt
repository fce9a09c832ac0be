use Rattle.std.proofs.Common.{◌≡◌, ◌++◌, drop, map, take}
use Rattle.transcripts.specs.Standing.{add_to_place}
use Rattle.transcript_judge.proofs.ledger.add_to_spots.Given as goal

abbrev pub invariant-loop-spot : goal.invariant-loop-spot
invariant-loop-spot l = l.spot-items ≡ map (add_to_place l.number l.event) (take l.spot-index l.fn.spots.items) ++ drop l.spot-index l.fn.spots.items
