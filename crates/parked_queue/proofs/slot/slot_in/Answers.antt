use Rattle.parked_queue.proofs.Masks.{masked}
use Rattle.parked_queue.proofs.slot.slot_in.Goals as goal

pub returns-then-mask-lt-NO_MASK-clause-value : goal.returns-then-mask-lt-NO_MASK-clause-value
returns-then-mask-lt-NO_MASK-clause-value c = masked c.args.slots c.args.mask c.args.flow c.requires.some c.requires.few c.requires.mask c.if-mask-lt-NO_MASK.true
