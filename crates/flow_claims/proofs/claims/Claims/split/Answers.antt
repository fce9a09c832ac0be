-- A split keeps the rule.
use Rattle.std.proofs.Common.{arith}
use Rattle.flow_claims.proofs.Parts.{splits}
use Rattle.flow_claims.proofs.claims.Claims.split.Goals as goal

pub split_seat-other-requires : goal.split_seat-other-requires
split_seat-other-requires c = (c.requires.seat.0, omega (arith, c.args.self.now.words), splits _ _ _ c.requires.parts)
