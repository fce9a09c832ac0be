use Rattle.std.proofs.Common.{refl}
use Rattle.pipeline_app.proofs.Calling.{all_come_home, comes_home, home_is_empty}
use Rattle.pipeline_app.proofs.obey.enqueue.Goals as goal

pub put_back-requires-clause-away : goal.put_back-requires-clause-away
put_back-requires-clause-away c = home_is_empty _ _ _ _ c.enqueue-outcome.new.self c.take_port-port.ensures.left c.enqueue-outcome.ensures.site c.enqueue-outcome.ensures.credit

pub returns-clause-call : goal.returns-clause-call
returns-clause-call c =
    let call = c.enqueue-outcome in
    record {
      port = c.take_port-port.result;
      event = c.args.event;
      after = call.new.self;
      port_is = c.take_port-port.ensures.left.was_home;
      event_is = refl;
      call = record {
        site = call.ensures.site;
        credit = call.ensures.credit;
        submitted = call.ensures.submitted;
        pays = call.ensures.pays;
        refused = call.ensures.refused;
        stopped = call.ensures.stopped;
      };
      changed = comes_home _ _ _ _ _ c.take_port-port.ensures.left call.ensures.site call.ensures.credit _ c.put_back.ensures.back;
    }

pub returns-clause-home : goal.returns-clause-home
returns-clause-home c = all_come_home _ _ _ _ _ c.take_port-port.ensures.left c.enqueue-outcome.ensures.site c.enqueue-outcome.ensures.credit _ c.put_back.ensures.back c.requires.home
