use Rattle.event_scheduler.proofs.Sweeping.{swept_from}
use Rattle.event_scheduler.proofs.scheduler.Scheduler.sweep.Goals as goal

pub returns-clause-sweeps : goal.returns-clause-sweeps
returns-clause-sweeps g c =
    swept_from _ _ _ _ _ _ _ _ _ _ _ _ _ c.make_room.ensures.steps c.look.ensures.looks c.take_all-taken.ensures.takes c.give_back.ensures.rests c.give_back.ensures.seen c.give_back.ensures.fits c.give_back.ensures.tried
    (c.give_all-given.ensures.gives _ _ _ _)
