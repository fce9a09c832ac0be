use Rattle.std.proofs.Common.{length, ap, ◌∙◌}
use Rattle.run_documents.specs.Pipelines.{planned_of}
use Rattle.device_bench.proofs.run.text_length.Goals as goal

pub returns : goal.returns
returns g c =
    record {
      said = planned_of c.in_ok-shape.field-0;
      trace = c.in_ok-entries.field-0.items;
      reads = c.in_ok-shape.ensures.read;
      counts = c.in_ok-entries.ensures;
      plain = ap length c.as_bytes.ensures.value ∙ ap length c.in_ok-text.ensures.text;
    }
