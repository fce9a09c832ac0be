use Rattle.std.proofs.Common.{◌≡◌, drop}
use Rattle.transcript_judge.specs.Scans.{kept_in_spots}
use Rattle.transcript_judge.proofs.scans.first_kept.Given as goal

abbrev pub invariant-loop-spot : goal.invariant-loop-spot
invariant-loop-spot l = kept_in_spots (drop l.spot-index l.spots) l.number ≡ kept_in_spots l.spots l.number
