use Rattle.flow_claims.proofs.Starts.{starts}
use Rattle.flow_claims.proofs.Boards.{starts_free}
use Rattle.flow_claims.proofs.laws.new_claims_are_free.Goals as goal

pub returns-clause-made : goal.returns-clause-made
returns-clause-made c = starts

pub returns-clause-free : goal.returns-clause-free
returns-clause-free c lanes s lane i rule = starts_free lanes s rule lane i
