use Rattle.std.proofs.Common.{map, set, sym, ap, ◌∙◌}
use Rattle.std.proofs.lemmas.Bool.{cond-true}
use Rattle.transcripts.specs.Standing.{answer_place, staying}
use Rattle.transcript_judge.proofs.RowLists.{row_now, rows_set}
use Rattle.transcript_judge.specs.Ledger.{row, rows}
use Rattle.transcript_judge.proofs.ledger.settle.Goals as goal

pub returns-in_ok-settle_spots-clause-places : goal.returns-in_ok-settle_spots-clause-places
returns-in_ok-settle_spots-clause-places c =
    let here = row_now c.args.places.now.items c.args.queue c.index_mut.result.now c.requires.place c.index_mut.ensures.value in
    rows_set c.args.places.now.items c.args.queue c.settle_spots.new.spots
    ∙ (ap (set (rows c.args.places.now.items) c.args.queue) (c.in_ok-settle_spots.ensures.stay ∙ ap (λ xs. staying (map (answer_place c.args.number c.args.outcome.now) xs)) (sym here))
    ∙ sym (cond-true c.args.is_ordered (set (rows c.args.places.now.items) c.args.queue (staying (map (answer_place c.args.number c.args.outcome.now) (row (rows c.args.places.now.items) c.args.queue)))) (rows c.args.places.now.items) c.if-is_ordered.true))
