use Rattle.std.proofs.Common.{◌++◌, ap}
use Rattle.std.specs.Prelude.{codes, decimal, string_bytes}
use Rattle.run_counts.proofs.Pieces.{three_pieces}
use Rattle.run_counts.specs.CountsText.{port_lines, queue_lines}
use Rattle.run_counts.proofs.text.write_counts.Goals as goal

pub returns : goal.returns
returns c =
    three_pieces (string_bytes c.args.out.now) (string_bytes c.write_queues.new.out) (string_bytes c.write_ports.new.out) (string_bytes c.write.new.self) (queue_lines c.deref.result.now) (port_lines c.deref-2.result.now)
    (codes "scheduler: sweeps " ++ (decimal c.args.counts.now.threads.sweeps ++ codes "\n")) (queue_lines c.args.counts.now.queues.items) (port_lines c.args.counts.now.threads.ports.items) c.in_ok-write_queues.ensures
    (ap queue_lines c.deref.ensures.0) c.in_ok-write_ports.ensures (ap port_lines c.deref-2.ensures.0) c.in_ok-write.ensures.bytes
