use Rattle.std.proofs.Common.{Some, subst}
use Rattle.std.specs.BTreeMap.{Updates}
use Rattle.history_judge.proofs.Arriving.{getter_set}
use Rattle.history_judge.specs.Left.{value_cmp}
use Rattle.history_judge.proofs.arrivals.set_getter.Goals as goal

pub returns : goal.returns
returns c =
    getter_set c.args.getters.now c.insert.new.self c.args.event.now c.args.at
    (subst (λ v. Updates value_cmp c.args.getters.now c.insert.new.self v (Some c.args.at)) c.value_of.ensures c.in_ok-insert.ensures.updates)
