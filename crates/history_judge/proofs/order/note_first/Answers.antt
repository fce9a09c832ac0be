use Rattle.std.proofs.Common.{◌∙◌, ap, Some, subst}
use Rattle.std.specs.BTreeMap.{Updates}
use Rattle.history_judge.proofs.Crossing.{first_set}
use Rattle.history_judge.specs.Streams.{earlier, stream_cmp}
use Rattle.history_judge.proofs.order.note_first.Goals as goal

pub returns : goal.returns
returns c =
    first_set c.args.firsts.now c.insert.new.self c.args.stream c.args.getter
    (subst (λ g. Updates stream_cmp c.args.firsts.now c.insert.new.self c.args.stream (Some g)) (c.earlier-first.ensures ∙ ap (λ o. earlier o c.args.getter) c.first_in.ensures) c.in_ok-insert.ensures.updates)
