use Rattle.std.specs.Prelude.{string_bytes}
use Rattle.timelines.proofs.Texts.{one_more}
use Rattle.timelines.specs.Layout.{frame_in}
use Rattle.timelines.specs.Picture.{line_at}
use Rattle.timelines.proofs.layout.Sheet.write_lines.Goals as goal

pub loop-line-preserved : goal.loop-line-preserved
loop-line-preserved c =
    one_more (line_at (frame_in c.args.self.now)) c.loop-line.line (string_bytes c.args.out.now) (string_bytes c.loop-line.out) (string_bytes c.write_line_at.new.out) c.loop-line.invariant
    c.in_ok-write_line_at.ensures
