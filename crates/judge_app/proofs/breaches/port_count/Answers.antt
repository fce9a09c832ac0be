use Rattle.std.proofs.Common.{◌∙◌, ap, length, sym}
use Rattle.std.proofs.lemmas.List.{length-map}
use Rattle.evt_types.specs.Plan.{port_plan}
use Rattle.judge_app.proofs.breaches.port_count.Goals as goal

pub returns : goal.returns
returns c = sym (length-map c.ports.result.now port_plan) ∙ ap length c.ports.ensures
