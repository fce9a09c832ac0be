use Rattle.transcripts.proofs.Sources.{accepted_once, taken_once, sources_follow, sources_rise}
use Rattle.transcripts.proofs.laws.sources_once.Goals as goal

pub returns-clause-once : goal.returns-clause-once
returns-clause-once c = accepted_once

pub returns-clause-one : goal.returns-clause-one
returns-clause-one c = taken_once

pub returns-clause-ordered : goal.returns-clause-ordered
returns-clause-ordered c = sources_follow

pub returns-clause-atomic : goal.returns-clause-atomic
returns-clause-atomic c = sources_rise
