use Rattle.std.proofs.Common.{set, drop, sym, ap, ◌∙◌}
use Rattle.transcript_judge.proofs.RowLists.{row_is, rows_set}
use Rattle.transcript_judge.specs.Ledger.{rows}
use Rattle.transcript_judge.proofs.nested.drop_first.Goals as goal

pub returns : goal.returns
returns g c =
    rows_set c.args.lists.now.items c.args.place c.remove.new.self
    ∙ ap (set (rows c.args.lists.now.items) c.args.place) (c.remove.ensures.by_index.2
    ∙ ap (drop 1) (ap (λ v. v.items) c.index_mut.ensures.value ∙ sym (row_is c.args.lists.now.items c.args.place c.index_mut.result.now c.requires.place)))
