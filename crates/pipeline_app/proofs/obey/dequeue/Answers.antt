use Rattle.std.proofs.Common.{◌≡◌, ◌∙◌}
use Rattle.pipeline_app.proofs.Calling.{all_come_home, home_is_empty, port_dequeues}
use Rattle.pipeline_app.proofs.obey.dequeue.Goals as goal

pub put_back-requires-clause-away : goal.put_back-requires-clause-away
put_back-requires-clause-away c = home_is_empty _ _ _ _ c.dequeue-outcome.new.self c.take_port-port.ensures.left c.dequeue-outcome.ensures.site c.dequeue-outcome.ensures.credit

pub returns-in_err-from_slice-in-Ok-clause-home : goal.returns-in_err-from_slice-in-Ok-clause-home
returns-in_err-from_slice-in-Ok-clause-home c = all_come_home _ _ _ _ _ c.take_port-port.ensures.left c.dequeue-outcome.ensures.site c.dequeue-outcome.ensures.credit _ c.put_back.ensures.back c.requires.home

pub returns-in_ok-from_slice-in-Ok-clause-call : goal.returns-in_ok-from_slice-in-Ok-clause-call
returns-in_ok-from_slice-in-Ok-clause-call c =
    let call = c.dequeue-outcome in
    let copied : c.in_ok-from_slice-in-Ok.field-0.items ≡ c.in-Ok.deliveries.items = c.in_ok-from_slice-in-Ok.ensures.items ∙ c.deref.ensures.0 in
    port_dequeues _ _ _ _ _ c.take_port-port.ensures.left call.ensures.site call.ensures.credit _ _ _ c.put_back.ensures.back
    (record {
      site = call.ensures.site;
      credit = call.ensures.credit;
      claims = call.ensures.claims;
      ok = rw copied c.in-Ok.ensures.ok;
      few = rw copied c.in-Ok.ensures.few;
      drained = rw copied c.in-Ok.ensures.drained;
      drained_flows = rw copied c.in-Ok.ensures.drained_flows;
      own_first = rw copied c.in-Ok.ensures.own_first;
      behind = tt;
      returned_spare = c.in-Ok.ensures.returned_spare;
    })

pub returns-in_ok-from_slice-in-Ok-clause-home : goal.returns-in_ok-from_slice-in-Ok-clause-home
returns-in_ok-from_slice-in-Ok-clause-home c = all_come_home _ _ _ _ _ c.take_port-port.ensures.left c.dequeue-outcome.ensures.site c.dequeue-outcome.ensures.credit _ c.put_back.ensures.back c.requires.home

pub returns-in-Err-clause-call : goal.returns-in-Err-clause-call
returns-in-Err-clause-call c =
    let call = c.dequeue-outcome in
    port_dequeues _ _ _ _ _ c.take_port-port.ensures.left call.ensures.site call.ensures.credit _ _ _ c.put_back.ensures.back
    (record { site = call.ensures.site; credit = call.ensures.credit; claims = call.ensures.claims; ok = tt; few = tt; drained = tt; drained_flows = tt; own_first = tt; behind = c.in-Err.ensures.behind; returned_spare = c.in-Err.ensures.returned_spare })

pub returns-in-Err-clause-home : goal.returns-in-Err-clause-home
returns-in-Err-clause-home c = all_come_home _ _ _ _ _ c.take_port-port.ensures.left c.dequeue-outcome.ensures.site c.dequeue-outcome.ensures.credit _ c.put_back.ensures.back c.requires.home
