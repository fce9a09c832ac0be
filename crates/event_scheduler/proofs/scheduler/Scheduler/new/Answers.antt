use Rattle.event_scheduler.proofs.Starting.{starts, unused_count, unused_shown}
use Rattle.event_scheduler.proofs.scheduler.Scheduler.new.Goals as goal

pub invariant_of-result : goal.invariant_of-result
invariant_of-result c = record { seat_of = c.requires.seat; drew_none = c.requires.account.drawn; unset = c.requires.account.unset; lanes_are = unused_count _ _ c.requires.lanes; shown = unused_shown _ _ c.requires.lanes }

pub returns-clause-serves : goal.returns-clause-serves
returns-clause-serves c = starts _ _ _ _ c.requires.core c.requires.lanes c.requires.account
