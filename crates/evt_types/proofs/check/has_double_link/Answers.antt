use Rattle.std.proofs.Common.{rules, tests}
use Rattle.std.proofs.lemmas.Iterator.{YieldsList-from_slice}
use Rattle.std.proofs.lemmas.Iterator.Search.{any_from_yields_List}
use Rattle.evt_types.specs.Fault.{link_twice}
use Rattle.evt_types.proofs.Plans.{any_of_ports}
use Rattle.evt_types.proofs.check.has_double_link.Goals as goal

pub returns : goal.returns
unfolding link_twice
returns c =
    let ports = c.args.draft.now.ports.items in
    rw any_of_ports (any_from_yields_List _ _ _ _ c.any.ensures.ran (YieldsList-from_slice ports cc) (λ x b q k. search (rules, tests)))
