use Rattle.std.proofs.Common.{Some, subst}
use Rattle.std.specs.BTreeMap.{Updates}
use Rattle.history_judge.proofs.Lefts.{left_set}
use Rattle.history_judge.specs.Left.{value_cmp}
use Rattle.history_judge.proofs.values.set_left.Goals as goal

pub returns : goal.returns
returns c =
    left_set c.args.left.now c.insert.new.self c.args.event.now c.args.count
    (subst (λ v. Updates value_cmp c.args.left.now c.insert.new.self v (Some c.args.count)) c.value_of.ensures c.in_ok-insert.ensures.updates)
