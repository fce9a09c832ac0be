use Rattle.pipeline_laws.proofs.Pasts.{follows_none}
use Rattle.pipeline_laws.proofs.past.Past.new.Goals as goal

pub returns-clause-follows : goal.returns-clause-follows
returns-clause-follows c =
    follows_none (record { accepted = c.in_ok-empty_lists.field-0; given = c.in_ok-empty_lists-2.field-0; answered = c.in_ok-zeros.field-0 }) c.args.queues c.args.lanes
    c.in_ok-empty_lists.ensures c.in_ok-empty_lists-2.ensures c.in_ok-zeros.ensures
