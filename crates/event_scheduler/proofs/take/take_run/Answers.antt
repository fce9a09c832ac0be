use Rattle.std.proofs.Common.{rules, ◌-◌, ◌<◌, ◌++◌, ap, arith, drop, length, slice_get, sym, take, ◌∙◌}
use Rattle.std.proofs.lemmas.List.{length-drop, length-set}
use Rattle.event_scheduler.specs.Scheduler.{taken_at}
use Rattle.event_scheduler.specs.Taking.{Takes, only, with_core, with_taken}
use Rattle.event_scheduler.proofs.Rows.{next_row, none_taken, rest_is, slice_behind, taken_as}
use Rattle.event_scheduler.proofs.take.take_run.Goals as goal
use Rattle.event_scheduler.proofs.take.take_run.Goals.{then-replies-ge-FEWEST, else-replies-ge-FEWEST}

pub returns-clause-takes : goal.returns-clause-takes
returns-clause-takes g c s within =
    let rows = c.if-replies-ge-FEWEST in
    let k = rows.rows in
    let n = c.take_each.result in
    let rs = c.args.replies.now in
    let log = g.L.StepLog.steps c.args.log.now in
    let behind = with_taken s c.args.lane (take k rs) in
    let inside : c.args.lane < length behind.taken = omega (arith, within, length-set s.taken c.args.lane (taken_at s c.args.lane ++ take k rs)) in
    let first : Takes (only c.args.lane k) k (with_core s c.args.core.now c.args.pocket.now c.args.accepted_new.now) log (with_core behind rows.core c.args.pocket.now rows.accepted_new) (g.L.StepLog.steps rows.log) =
    elim rows.branch [
      | then-replies-ge-FEWEST w ↦
          taken_as s c.args.lane k w.take_rows-rows.result c.args.pocket.now c.args.accepted_new.now rows.accepted_new w.take_rows-rows.new.accepted_new rs c.args.core.now rows.core w.take_rows-rows.new.core
          log (g.L.StepLog.steps rows.log) (g.L.StepLog.steps w.take_rows-rows.new.log) w.rows-is w.core-is w.accepted_new-is (ap g.L.StepLog.steps w.log-is)
          (w.take_rows-rows.ensures.takes s c.args.pocket.now (search rules) within)
      | else-replies-ge-FEWEST w ↦
          taken_as s c.args.lane k 0 c.args.pocket.now c.args.accepted_new.now rows.accepted_new c.args.accepted_new.now rs c.args.core.now rows.core c.args.core.now
          log (g.L.StepLog.steps rows.log) log w.rows-is w.core-is w.accepted_new-is (ap g.L.StepLog.steps w.log-is)
          (none_taken s c.args.lane c.args.pocket.now c.args.accepted_new.now rs c.args.core.now log within)
    ] in
    next_row s c.args.lane k n rs c.args.core.now rows.core c.take_each.new.core c.args.pocket.now c.args.accepted_new.now c.args.pocket.now rows.accepted_new c.take_each.new.pocket c.take_each.new.accepted_new
    log (g.L.StepLog.steps rows.log) (g.L.StepLog.steps c.take_each.new.log) within c.take_each.ensures.few first (c.take_each.ensures.takes behind inside)

pub returns-clause-refused : goal.returns-clause-refused
returns-clause-refused g c fewer =
    let k = c.if-replies-ge-FEWEST.rows in
    let n = c.take_each.result in
    let rs = c.args.replies.now in
    let left : n < length (take (length rs - k) (drop k rs)) = omega (arith, fewer, ap length (rest_is k rs), length-drop k rs) in
    let refused = c.take_each.ensures.refused left in
    (refused.0, slice_behind k n rs refused.0 (ap (λ xs. slice_get xs n) (sym (rest_is k rs)) ∙ refused.1), refused.2)
