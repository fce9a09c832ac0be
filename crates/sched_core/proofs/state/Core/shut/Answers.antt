use Rattle.std.proofs.Common.{subst, sym, true, ◌++◌}
use Rattle.transcripts.specs.Standing.{View, Stands}
use Rattle.sched_core.proofs.Steps.{shut_stands}
use Rattle.sched_core.specs.Shutting.{shut_steps}
use Rattle.sched_core.proofs.state.Core.shut.Goals as goal

pub returns-clause-stands : goal.returns-clause-stands
returns-clause-stands g c T stands =
    subst (λ (v : View). Stands (T ++ shut_steps c.args.self.now) (record v { shut = true })) (sym c.self.view_is)
    (shut_stands c.args.self.now T stands)
