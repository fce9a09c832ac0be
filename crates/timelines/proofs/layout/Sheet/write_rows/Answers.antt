use Rattle.std.specs.Prelude.{string_bytes}
use Rattle.timelines.proofs.Texts.{one_more}
use Rattle.timelines.specs.Layout.{frame_in}
use Rattle.timelines.specs.Picture.{row_text}
use Rattle.timelines.proofs.layout.Sheet.write_rows.Goals as goal

pub loop-row-preserved : goal.loop-row-preserved
loop-row-preserved c =
    one_more (row_text c.args.queues.now (frame_in c.args.self.now) c.args.width) c.loop-row.row (string_bytes c.args.out.now) (string_bytes c.loop-row.out) (string_bytes c.write_row.new.out)
    c.loop-row.invariant c.in_ok-write_row.ensures
