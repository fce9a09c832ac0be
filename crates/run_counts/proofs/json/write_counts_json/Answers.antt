use Rattle.std.proofs.Common.{◌++◌, ap, ◌∙◌}
use Rattle.std.specs.Prelude.{string_bytes}
use Rattle.run_counts.proofs.Pieces.{three_pieces}
use Rattle.run_counts.specs.CountsJson.{line, port_object_lines, queue_object_lines, scheduler_object}
use Rattle.run_counts.proofs.json.write_counts_json.Goals as goal

pub returns : goal.returns
returns c =
    three_pieces (string_bytes c.args.out.now) (string_bytes c.write_queues.new.out) (string_bytes c.write_ports.new.out) (string_bytes c.write_line.new.out) (queue_object_lines c.deref.result.now)
    (port_object_lines c.deref-2.result.now) (line (scheduler_object c.args.counts.now.threads.sweeps)) (queue_object_lines c.args.counts.now.queues.items) (port_object_lines c.args.counts.now.threads.ports.items)
    c.in_ok-write_queues.ensures (ap queue_object_lines c.deref.ensures.0) c.in_ok-write_ports.ensures (ap port_object_lines c.deref-2.ensures.0)
    (c.in_ok-write_line.ensures ∙ ap (λ d. string_bytes c.write_ports.new.out ++ line d) c.in_ok-object.ensures)
