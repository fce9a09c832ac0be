use Rattle.std.proofs.Common.{Some, subst}
use Rattle.std.specs.BTreeMap.{Updates}
use Rattle.history_judge.proofs.Begun.{begin_set}
use Rattle.history_judge.specs.Left.{value_cmp}
use Rattle.history_judge.proofs.early.set_begin.Goals as goal

pub returns : goal.returns
returns c =
    begin_set c.args.begins.now c.insert.new.self c.args.event.now c.args.began
    (subst (λ v. Updates value_cmp c.args.begins.now c.insert.new.self v (Some c.args.began)) c.value_of.ensures c.in_ok-insert.ensures.updates)
