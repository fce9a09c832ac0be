use Rattle.std.proofs.Common.{take}
use Rattle.sched_core.proofs.Forwarded.{let_go}
use Rattle.transcripts.specs.Standing.{unanswered_at}
use Rattle.sched_core.proofs.state.Core.answer_releases.Goals as goal

pub returns-then-count-gt0-clause-let_go : goal.returns-then-count-gt0-clause-let_go
returns-then-count-gt0-clause-let_go c = let_go (take c.answer_row-count.result (unanswered_at c.args.self.now c.args.lane)) c.args.self.now c.args.lane c.args.queue c.answer_row-count.ensures.leave
