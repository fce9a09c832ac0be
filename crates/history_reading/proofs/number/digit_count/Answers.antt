use Rattle.std.proofs.Common.{rules}
use Rattle.history_reading.proofs.Numbers.{digits-more}
use Rattle.history_reading.proofs.number.digit_count.Goals as goal

pub loop-at-preserved : goal.loop-at-preserved
loop-at-preserved c = digits-more c.args.text.now c.loop-at.at (search rules) c.loop-at.invariant (search rules)
