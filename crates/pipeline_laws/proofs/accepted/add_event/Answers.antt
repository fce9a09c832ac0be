use Rattle.std.proofs.Common.{arith}
use Rattle.pipeline_laws.proofs.AcceptedEvents.{hold_more, hold_past}
use Rattle.pipeline_laws.proofs.accepted.add_event.Goals as goal

pub returns-then-queue-len-clause-hold : goal.returns-then-queue-len-clause-hold
returns-then-queue-len-clause-hold c T s some hold = hold_past T c.args.lists.now.items s c.args.queue c.args.event some (omega (arith, c.if-queue-len.true)) hold

pub returns-clause-hold : goal.returns-clause-hold
returns-clause-hold c T s some hold =
    hold_more T c.args.lists.now.items c.push_to.new.lists.items s c.args.queue c.args.event some (omega (arith, c.if-queue-len.false)) c.in_ok-push_to.ensures hold
