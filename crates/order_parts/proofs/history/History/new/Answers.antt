use Rattle.std.proofs.Common.{List, ap}
use Rattle.order_parts.specs.declared.history.Entry.{Entry}
use Rattle.order_parts.specs.History.{entries_of}
use Rattle.lists.proofs.Windows.{window_none}
use Rattle.order_parts.proofs.history.History.new.Goals as goal

pub returns : goal.returns
returns c = ap (λ (es : List Entry). entries_of es c.args.capacity) (window_none 0 c.in_ok-ring.ring.items)
