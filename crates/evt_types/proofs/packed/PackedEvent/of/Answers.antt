-- The word of an event holds all of it.
use Rattle.std.proofs.Common.{arith}
use Rattle.evt_types.proofs.Words.{packed_back, plain_word}
use Rattle.evt_types.proofs.packed.PackedEvent.of.Goals as goal

pub invariant_of-result : goal.invariant_of-result
invariant_of-result c =
    plain_word c.word.result c.args.event.now (record { sub_type = (omega arith); queue = (omega arith); priority = (omega arith); impl_opaque = (omega arith) }) c.word.ensures

pub returns : goal.returns
returns c =
    (packed_back c.word.result 0 c.args.event.now (record { sub_type = (omega arith); queue = (omega arith); priority = (omega arith); impl_opaque = (omega arith) })
    (omega arith) (omega (arith, c.word.ensures))).0
