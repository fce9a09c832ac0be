use Rattle.std.proofs.Common.{sym}
use Rattle.lane_rings.proofs.HeldPairs.{length_is}
use Rattle.lane_rings.proofs.held_pairs.HeldPairs.len.Goals as goal

pub returns : goal.returns
returns c = sym (length_is c.self.inside c.self.invariant c.args.self.now c.self.view_is)
