use Rattle.std.proofs.Common.{rules, ap, ◌∙◌}
use Rattle.event_ports.specs.Ports.{counts_of}
use Rattle.event_ports.specs.declared.counts.PortCounts.{PortCounts}
use Rattle.run_counts.proofs.Looking.{looks_first}
use Rattle.pipeline_threads.proofs.threads.run_port.Goals as goal

pub returns-then-number-eq0 : goal.returns-then-number-eq0
returns-then-number-eq0 g c =
    record {
      site = c.produce-port.ensures.site;
      promised = search rules;
      looked = looks_first (counts_of c.produce-port.result) c.none.result c.none.ensures (c.produce-port.ensures.dequeued ∙ ap (λ (x : PortCounts). x.dequeued) c.requires.idle.1);
    }
