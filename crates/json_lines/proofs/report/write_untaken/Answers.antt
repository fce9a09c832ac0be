use Rattle.std.proofs.Common.{◌++◌, ap, ◌∙◌}
use Rattle.std.specs.Prelude.{string_bytes}
use Rattle.json_lines.specs.Lines.{line, untaken_object}
use Rattle.json_lines.proofs.OneMore.{one-more}
use Rattle.json_lines.proofs.report.write_untaken.Goals as goal

pub loop-untaken-preserved : goal.loop-untaken-preserved
loop-untaken-preserved c =
    one-more (λ x. line (untaken_object c.args.queues.now x)) c.args.all.now c.loop-untaken.untaken-index c.untaken-item.result _ _ _ c.loop-untaken-test.true c.untaken-item.is c.loop-untaken.invariant
    (c.in_ok-write_line.ensures ∙ ap (λ d. string_bytes c.loop-untaken.out ++ line d) c.in_ok-object.ensures)
