use Rattle.std.proofs.Common.{sym}
use Rattle.order_parts.proofs.Rows.{wrapped_low, wrapped_high}
use Rattle.order_parts.proofs.reorder.around.Goals as goal

pub returns-then-row-rows : goal.returns-then-row-rows
returns-then-row-rows c = sym (wrapped_low c.args.rows c.args.row c.if-row-rows.true)

pub returns-else-row-rows : goal.returns-else-row-rows
returns-else-row-rows c = sym (wrapped_high c.args.rows c.args.row c.if-row-rows.false)
