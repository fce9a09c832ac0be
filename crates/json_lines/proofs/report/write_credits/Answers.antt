use Rattle.std.proofs.Common.{ap, ◌∙◌}
use Rattle.serde_json.specs.Written.{has_float}
use Rattle.json_lines.proofs.Whole.{credits-whole}
use Rattle.json_lines.proofs.report.write_credits.Goals as goal

pub write_line-requires : goal.write_line-requires
write_line-requires c = ap has_float c.in_ok-object.ensures ∙ credits-whole c.args.limit c.args.report.now
