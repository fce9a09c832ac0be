use Rattle.std.proofs.Common.{◌≡◌, ◌++◌, drop, map, take}
use Rattle.transcripts.specs.Standing.{answer_place}
use Rattle.transcript_judge.proofs.ledger.answer_spots.Given as goal

abbrev pub invariant-loop-spot : goal.invariant-loop-spot
invariant-loop-spot l = l.spot-items ≡ map (answer_place l.number l.outcome) (take l.spot-index l.fn.spots.items) ++ drop l.spot-index l.fn.spots.items
