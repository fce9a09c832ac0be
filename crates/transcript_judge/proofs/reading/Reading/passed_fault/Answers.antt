use Rattle.std.proofs.Common.{drop, arith, refl, ap, sym, ◌∙◌}
use Rattle.transcript_judge.proofs.Passed.{not_in_turn, not_origin}
use Rattle.transcript_judge.proofs.Readings.{sized}
use Rattle.transcript_judge.proofs.RowLists.{row_now}
use Rattle.transcript_judge.proofs.Walks.{rest_slice}
use Rattle.transcript_judge.specs.Scans.{kept_in_due, kept_in_spots, or_else}
use Rattle.transcript_judge.proofs.reading.Reading.passed_fault.Goals as goal

pub index-requires : goal.index-requires
index-requires c = let size = sized c.args.shape.now c.args.past.now c.args.self.now c.requires.read in omega (arith, size.places, c.requires.formed.source)

pub returns-then-is_event : goal.returns-then-is_event
returns-then-is_event c =
    let here = row_now c.args.self.now.ledger.places.items c.args.from c.index.result.now (omega (arith, (sized c.args.shape.now c.args.past.now c.args.self.now c.requires.read).places, c.requires.formed.source)) c.index.ensures in
    let next =
    c.either.ensures
    ∙ (ap (λ o. or_else o c.first_kept-kept.result) (c.first_due-due.ensures ∙ ap (λ ks. kept_in_due ks c.args.from c.args.number) (rest_slice c.args.self.now.taken c.deref.result.now ∙ ap (drop c.args.self.now.taken) c.deref.ensures.value))
    ∙ ap (or_else (kept_in_due (drop c.args.self.now.taken c.args.self.now.due.items) c.args.from c.args.number))
    (c.first_kept-kept.ensures ∙ ap (λ xs. kept_in_spots xs c.args.number) (c.deref-2.ensures.value ∙ sym here))) in
    not_in_turn c.args.shape.now c.args.past.now c.args.self.now c.args.queue c.args.number c.args.from c.args.event.now c.requires.read c.requires.formed c.requires.other (sym next ∙ c.if-is_event.ensures.yes refl)

pub returns-else-is_event : goal.returns-else-is_event
returns-else-is_event c =
    let here = row_now c.args.self.now.ledger.places.items c.args.from c.index.result.now (omega (arith, (sized c.args.shape.now c.args.past.now c.args.self.now c.requires.read).places, c.requires.formed.source)) c.index.ensures in
    let next =
    c.either.ensures
    ∙ (ap (λ o. or_else o c.first_kept-kept.result) (c.first_due-due.ensures ∙ ap (λ ks. kept_in_due ks c.args.from c.args.number) (rest_slice c.args.self.now.taken c.deref.result.now ∙ ap (drop c.args.self.now.taken) c.deref.ensures.value))
    ∙ ap (or_else (kept_in_due (drop c.args.self.now.taken c.args.self.now.due.items) c.args.from c.args.number))
    (c.first_kept-kept.ensures ∙ ap (λ xs. kept_in_spots xs c.args.number) (c.deref-2.ensures.value ∙ sym here))) in
    not_origin c.args.shape.now c.args.past.now c.args.self.now c.args.queue c.args.number c.args.from c.args.event.now c.requires.read c.requires.formed.source (λ same. c.if-is_event.ensures.no refl (next ∙ same))
