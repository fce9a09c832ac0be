use Rattle.pipeline_laws.proofs.Promised.{promised_first}
use Rattle.pipeline_laws.proofs.laws.promised_news_are_first.Goals as goal

pub returns : goal.returns
returns c = promised_first
