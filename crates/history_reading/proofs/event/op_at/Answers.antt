use Rattle.std.proofs.Common.{refl}
use Rattle.history_reading.proofs.Deeds.{forward-only}
use Rattle.history_reading.proofs.event.op_at.Goals as goal

pub returns-in-Some-behind-2-clause-only : goal.returns-in-Some-behind-2-clause-only
returns-in-Some-behind-2-clause-only c = forward-only c.args.text.now c.in-Some-behind-2.rest.now c.in-Some-behind-2.ensures.some (c.in_default-behind.ensures.none refl)
