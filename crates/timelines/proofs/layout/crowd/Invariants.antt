use Rattle.std.proofs.Common.{◌≡◌, ◌≤◌, drop}
use Rattle.std.specs.Prelude.{max}
use Rattle.timelines.specs.Layout.{crowd}
use Rattle.timelines.proofs.layout.crowd.Given as goal

abbrev pub invariant-loop-place : goal.invariant-loop-place
invariant-loop-place l = (max l.most (crowd l.ends (drop l.place l.row)) ≡ crowd l.ends l.row) × (l.most ≤ 23)
