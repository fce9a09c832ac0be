-- What is left of the word is its event's.
use Rattle.std.proofs.Common.{arith}
use Rattle.evt_types.proofs.Words.{word_parted}
use Rattle.evt_types.proofs.packed.PackedEvent.of_words.Goals as goal

pub invariant_of-result : goal.invariant_of-result
invariant_of-result c = (omega (arith, c.bits.ensures), omega (arith, c.bits.ensures))

pub returns-clause-word : goal.returns-clause-word
returns-clause-word c =
    word_parted c.args.word _ c.args.payload (omega (arith, c.bits.ensures)) (omega (arith, c.bits.ensures)) (omega (arith, c.bits.ensures))
