use Rattle.worked_examples.proofs.Slot.{slot_consistent, slot_moves_are, slot_run, slot_received, slot_hand}
use Rattle.worked_examples.proofs.worlds.worked_moves_lead_to_the_log.Goals as goal

pub returns : goal.returns
returns c = record { found = slot_consistent; moves = slot_moves_are; run = slot_run; received = slot_received; hand = slot_hand }
