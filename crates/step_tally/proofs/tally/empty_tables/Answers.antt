use Rattle.std.proofs.Common.{rules}
use Rattle.step_tally.proofs.Entries.{AreTables-none}
use Rattle.step_tally.proofs.tally.empty_tables.Goals as goal

pub returns : goal.returns
returns c =
    rw (c.in_ok-queues.ensures.items_if_clones_equal (search rules), c.in_ok-lanes.ensures.items_if_clones_equal (search rules))
    (AreTables-none c.default.result c.default-2.result c.default.ensures c.default-2.ensures)
