use Rattle.std.proofs.Common.{sym}
use Rattle.lane_rings.proofs.Handing.{first-none}
use Rattle.lane_rings.proofs.rests.Beside.next_held.Goals as goal

pub returns-in_err-oldest-clause-rest : goal.returns-in_err-oldest-clause-rest
returns-in_err-oldest-clause-rest c =
    let none = first-none c.args.self.now.held.items (sym c.in_err-oldest.ensures) in
    rw c.from_residual.ensures (none, none)
