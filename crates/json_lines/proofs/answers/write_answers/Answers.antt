use Rattle.std.proofs.Common.{ap, ◌∙◌}
use Rattle.serde_json.specs.Written.{has_float}
use Rattle.json_lines.proofs.Whole.{answer-whole}
use Rattle.json_lines.proofs.answers.write_answers.Goals as goal

pub write_line-requires : goal.write_line-requires
write_line-requires c = ap has_float c.in_ok-object.ensures ∙ answer-whole c.args.queues.now c.answer-item.result
