use Rattle.std.proofs.Common.{◌∷◌, [], ◌++◌, set, sym, ap, ◌∙◌}
use Rattle.transcript_judge.proofs.RowLists.{row_is, rows_set}
use Rattle.transcript_judge.specs.Ledger.{rows}
use Rattle.transcript_judge.proofs.nested.push_to.Goals as goal

pub returns : goal.returns
returns g c =
    rows_set c.args.lists.now.items c.args.place c.push.new.self
    ∙ ap (set (rows c.args.lists.now.items) c.args.place) (c.in_ok-push.ensures.items
    ∙ ap (λ xs. xs ++ c.args.item ∷ []) (ap (λ v. v.items) c.index_mut.ensures.value ∙ sym (row_is c.args.lists.now.items c.args.place c.index_mut.result.now c.requires)))
