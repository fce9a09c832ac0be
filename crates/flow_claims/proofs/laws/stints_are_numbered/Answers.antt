use Rattle.std.proofs.Common.{arith}
use Rattle.flow_claims.proofs.Boards.{knows, in_one_list, in_no_list}
use Rattle.flow_claims.proofs.laws.stints_are_numbered.Goals as goal

pub returns-clause-finished : goal.returns-clause-finished
returns-clause-finished c lanes s lane number rule = in_one_list lanes s rule lane number

pub returns-clause-none : goal.returns-clause-none
returns-clause-none c lanes s lane number i v rule = in_no_list lanes s rule lane number i v

pub returns-clause-begun : goal.returns-clause-begun
returns-clause-begun c lanes s lane i v b rule here e =
    let k = knows lanes s rule i lane v b here e in
    omega (arith, k.is.claimed, k.is.of_port)
