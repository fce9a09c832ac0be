use Rattle.std.proofs.Common.{◌≡◌, ◌≤◌, ◌+◌, ◌*◌, ◌++◌, drop}
use Rattle.timelines.specs.Layout.{bottom_from, rows_from}
use Rattle.timelines.specs.Links.{rows}
use Rattle.timelines.proofs.layout.rows_of.Given as goal

abbrev pub invariant-loop-steps : goal.invariant-loop-steps
invariant-loop-steps l =
    record {
      written : l.rows.items ++ rows_from l.ends l.top (rows (drop l.steps-index l.begun)) ≡ rows_from l.ends 136 (rows l.begun);
      below : bottom_from l.ends l.top (rows (drop l.steps-index l.begun)) ≡ bottom_from l.ends 136 (rows l.begun);
      small : l.top ≤ 136 + 402 * l.steps-index;
    }
