use Rattle.std.proofs.Common.{◌<◌, ap, length, subst, sym, ◌∙◌}
use Rattle.order_parts.specs.Reorder.{Reordering, without_oldest}
use Rattle.order_parts.proofs.InTurn.{left_more, some_left}
use Rattle.order_parts.proofs.reorder.Reorder.drop_oldest.Goals as goal

pub advance-requires : goal.advance-requires
advance-requires c = subst (λ (r : Reordering). 0 < length r.places) (sym c.loop.invariant) (some_left c.loop.counter c.args.count c.args.self.now c.loop-test.true c.requires)

pub loop-preserved : goal.loop-preserved
loop-preserved c = c.advance.ensures ∙ (ap without_oldest c.loop.invariant ∙ sym (left_more c.loop.counter c.args.self.now))
