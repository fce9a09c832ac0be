use Rattle.std.proofs.Common.{◌<◌, ◌∷◌, [], ◌++◌, length, set, sym, ap, ◌∙◌}
use Rattle.timelines.proofs.Readings.{row_is, rows_set}
use Rattle.timelines.specs.Links.{rows}
use Rattle.timelines.specs.Readings.{begin_more}
use Rattle.timelines.proofs.links.begin.Goals as goal

pub returns-in_ok-push : goal.returns-in_ok-push
returns-in_ok-push c =
    let lists = c.args.begun.now.items in
    let r = c.in-Some.row in
    let lt : r < length lists = c.requires r c.in-Some.is in
    rows_set lists r c.push.new.self
    ∙ (ap (set (rows lists) r) (c.in_ok-push.ensures.items ∙ ap (λ xs. xs ++ c.args.now ∷ []) (ap (λ v. v.items) c.index_mut.ensures.value ∙ sym (row_is lists r c.index_mut.result.now lt)))
    ∙ sym (ap (λ o. begin_more c.args.now o (rows lists)) c.in-Some.is))
