use Rattle.std.proofs.Common.{◌++◌, ap, ◌∙◌}
use Rattle.std.specs.Prelude.{string_bytes}
use Rattle.json_lines.specs.Lines.{line, kept_object}
use Rattle.json_lines.proofs.OneMore.{one-more}
use Rattle.json_lines.proofs.report.write_kept.Goals as goal

pub loop-kept-preserved : goal.loop-kept-preserved
loop-kept-preserved c =
    one-more (λ x. line (kept_object c.args.queues.now x)) c.args.all.now c.loop-kept.kept-index c.kept-item.result _ _ _ c.loop-kept-test.true c.kept-item.is c.loop-kept.invariant
    (c.in_ok-write_line.ensures ∙ ap (λ d. string_bytes c.loop-kept.out ++ line d) c.in_ok-object.ensures)
