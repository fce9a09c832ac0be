use Rattle.std.specs.Prelude.{string_bytes}
use Rattle.run_counts.proofs.Pieces.{two_pieces}
use Rattle.run_counts.specs.CountsText.{refusals, work_of}
use Rattle.run_counts.proofs.text.write_port.Goals as goal

pub returns : goal.returns
returns c =
    two_pieces (string_bytes c.args.out.now) (string_bytes c.write_work.new.out) (string_bytes c.write_refusals.new.out) (work_of c.args.work.now.port c.args.work.now) (refusals c.args.work.now.counts)
    c.in_ok-write_work.ensures c.in_ok-write_refusals.ensures
