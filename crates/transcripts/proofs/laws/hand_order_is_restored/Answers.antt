use Rattle.transcripts.proofs.HandOrder.{sources_handed, sources_in_hand_order, sources_step_forward, answered_keeps_none}
use Rattle.transcripts.proofs.laws.hand_order_is_restored.Goals as goal

pub returns-clause-handed : goal.returns-clause-handed
returns-clause-handed c = sources_handed

pub returns-clause-order : goal.returns-clause-order
returns-clause-order c = sources_in_hand_order

pub returns-clause-forward : goal.returns-clause-forward
returns-clause-forward c = sources_step_forward

pub returns-clause-kept : goal.returns-clause-kept
returns-clause-kept c = answered_keeps_none
