use Rattle.timelines.specs.Marks.{bounced_sign}
use Rattle.timelines.proofs.signs.write_bounced_sign.Goals as goal

pub returns : goal.returns
unfolding bounced_sign
returns c = c.write.ensures.bytes
