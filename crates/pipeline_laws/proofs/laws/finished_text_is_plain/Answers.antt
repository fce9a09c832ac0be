use Rattle.pipeline_laws.proofs.RunTexts.{text_is_plain}
use Rattle.pipeline_laws.proofs.laws.finished_text_is_plain.Goals as goal

pub returns : goal.returns
returns c = text_is_plain
