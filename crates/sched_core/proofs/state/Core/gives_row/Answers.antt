use Rattle.std.proofs.Common.{subst, sym}
use Rattle.sched_core.proofs.Runs.{turn_of}
use Rattle.sched_core.specs.Offered.{numbered_in}
use Rattle.transcripts.specs.Choice.{IsChoice}
use Rattle.sched_core.proofs.state.Core.gives_row.Goals as goal

pub give_row-requires-clause-turn : goal.give_row-requires-clause-turn
give_row-requires-clause-turn g c =
    turn_of c.args.self.now c.args.skips.now c.args.offer.now.lane c.queue-queue.result c.args.offer.now.level.number (numbered_in c.args.offer.now.delivery)
    (subst (λ n. IsChoice c.args.self.now c.args.skips.now c.args.offer.now.lane n (numbered_in c.args.offer.now.delivery)) (sym c.queue-queue.ensures) c.requires.choice) c.args.offer.now.level_is
