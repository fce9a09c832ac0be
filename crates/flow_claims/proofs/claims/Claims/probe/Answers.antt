-- The load of a claim keeps the rule.
use Rattle.std.proofs.Common.{arith}
use Rattle.flow_claims.proofs.Keeps.{probes}
use Rattle.flow_claims.proofs.claims.Claims.probe.Goals as goal

pub load-requires : goal.load-requires
load-requires c = (c.requires.seat.0, omega (arith, c.args.self.now.words, c.requires.lane), probes _ _ _ _ _ c.args.seat.now.has_part c.requires.lane)
