-- The slots are all full from the last one on too.
use Rattle.std.proofs.Common.{◌∙◌, reverse, ap}
use Rattle.flow_claims.proofs.Calls.{turned}
use Rattle.flow_claims.proofs.ends.unwrapped.Goals as goal

pub put_back-requires-clause-full : goal.put_back-requires-clause-full
put_back-requires-clause-full c =
    let more = turned c.requires.full.0 in
    (more.0, c.reverse.ensures.items ∙ ap reverse c.requires.full.1 ∙ more.1)
