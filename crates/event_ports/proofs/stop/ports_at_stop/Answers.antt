use Rattle.event_ports.proofs.AtStop.{all_held, all_counted, no_new}
use Rattle.event_ports.proofs.Endings.{left_is}
use Rattle.event_ports.proofs.stop.ports_at_stop.Goals as goal

pub returns-clause-held : goal.returns-clause-held
returns-clause-held c lanes finished lane far is = left_is lanes finished lane far is

pub returns-clause-all_held : goal.returns-clause-all_held
returns-clause-all_held c pool claims credit claim ports credits_after claims_after ends is fresh counted of_these are =
    all_held pool claims credit claim ports credits_after claims_after ends is fresh are counted of_these

pub returns-clause-counted : goal.returns-clause-counted
returns-clause-counted c pool claims credit claim ports credits_after claims_after ends is fresh _ _ are P =
    all_counted pool claims credit claim ports credits_after claims_after ends is fresh are P

pub returns-clause-answers : goal.returns-clause-answers
returns-clause-answers c pool claims credit claim ports credits_after claims_after ends is fresh _ _ are j lt =
    no_new pool claims credit claim ports credits_after claims_after ends is fresh are j lt
