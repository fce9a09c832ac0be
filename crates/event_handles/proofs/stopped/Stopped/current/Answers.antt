use Rattle.std.proofs.Common.{arith}
use Rattle.std.proofs.lemmas.Grind.{common_steps}
use Rattle.std.proofs.lemmas.Option.{gets}
use Rattle.event_handles.proofs.stopped.Stopped.current.Goals as goal

pub returns-in-0-clause-here : goal.returns-in-0-clause-here
returns-in-0-clause-here c = rw c.in-0.is (grind (arith, common_steps, gets))

pub returns-in-1-clause-here : goal.returns-in-1-clause-here
returns-in-1-clause-here c = rw c.in-1.is (grind (arith, common_steps, gets))

pub returns-in-2-clause-here : goal.returns-in-2-clause-here
returns-in-2-clause-here c = rw c.in-2.is (grind (arith, common_steps, gets))

pub returns-in-3-clause-here : goal.returns-in-3-clause-here
returns-in-3-clause-here c = rw c.in-3.is (grind (arith, common_steps, gets))

pub returns-in-4-clause-here : goal.returns-in-4-clause-here
returns-in-4-clause-here c = rw c.in-4.is (grind (arith, common_steps, gets))
