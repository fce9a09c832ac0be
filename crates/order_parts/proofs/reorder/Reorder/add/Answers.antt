use Rattle.std.proofs.Common.{◌∙◌}
use Rattle.order_parts.proofs.Changes.{added_open}
use Rattle.order_parts.proofs.reorder.Reorder.add.Goals as goal

pub returns : goal.returns
returns c = c.keep.ensures ∙ added_open c.args.self.now c.args.place c.args.event c.requires.open
