use Rattle.std.proofs.Common.{◌+◌, drop, false-eqb, Err, refl, sym, ap, ◌∙◌}
use Rattle.std.proofs.lemmas.Bool.{eqb-true}
use Rattle.play_documents.specs.Lines.{lines_from}
use Rattle.play_documents.specs.declared.fault.DocFault.TheVariants.{BadTrace}
use Rattle.play_documents.proofs.Lines.{after, texts, lines-start, line-skips, line-goes, line-stops, lines-end}
use Rattle.run_documents.specs.Trace.{line_entry}
use Rattle.run_documents.proofs.trace.read_trace.Goals as goal

pub loop-line-init : goal.loop-line-init
loop-line-init c =
    let are = ap texts c.deref-line-items.ensures.value ∙ c.in_ok-lines.ensures in
    (refl, lines-start line_entry (λ n. BadTrace n) c.args.text.now c.deref-line-items.result.now _ c.new-entries.ensures.items are)

pub loop-line-preserved-then-is_empty : goal.loop-line-preserved-then-is_empty
loop-line-preserved-then-is_empty c =
    let none = eqb-true _ _ (sym c.is_empty.ensures ∙ c.if-is_empty.true) in
    let skips = line-skips line_entry (λ n. BadTrace n) c.deref-line-items.result.now c.loop-line.line-index _ c.loop-line-test.true
    c.without_carriage_return-line.result.now c.without_carriage_return-line.ensures none in
    (c.in_ok-number.ensures.next ∙ ap (λ n. n + 1) c.loop-line.invariant.0, ap (after c.loop-line.entries.items) (sym skips) ∙ c.loop-line.invariant.1)

pub returns-in-None : goal.returns-in-None
returns-in-None c =
    let some = false-eqb _ _ (sym c.if-is_empty.false ∙ c.is_empty.ensures) in
    let bad = sym c.in_ok-entry.ensures ∙ c.in-None.is in
    let stops = line-stops line_entry (λ n. BadTrace n) c.deref-line-items.result.now c.loop-line.line-index _ c.loop-line-test.true
    c.without_carriage_return-line.result.now c.without_carriage_return-line.ensures some bad in
    sym c.loop-line.invariant.1 ∙ ap (after c.loop-line.entries.items) stops ∙ ap (λ n. Err (BadTrace n)) (sym (c.in_ok-number.ensures.next ∙ ap (λ n. n + 1) c.loop-line.invariant.0))

pub loop-line-preserved : goal.loop-line-preserved
loop-line-preserved c =
    let some = false-eqb _ _ (sym c.if-is_empty.false ∙ c.is_empty.ensures) in
    let good = sym c.in_ok-entry.ensures ∙ c.in-Some.is in
    let goes = line-goes line_entry (λ n. BadTrace n) c.deref-line-items.result.now c.loop-line.line-index _ c.loop-line-test.true
    c.without_carriage_return-line.result.now c.without_carriage_return-line.ensures c.loop-line.entries.items c.in-Some.entry some good in
    let rest = lines_from line_entry (λ n. BadTrace n) (c.loop-line.line-index + 1 + 1) (texts (drop (c.loop-line.line-index + 1) c.deref-line-items.result.now)) in
    (c.in_ok-number.ensures.next ∙ ap (λ n. n + 1) c.loop-line.invariant.0, ap (λ front. after front rest) c.in_ok-push-in-Some.ensures.items ∙ sym goes ∙ c.loop-line.invariant.1)

pub returns : goal.returns
returns c =
    sym c.loop-line.invariant.1
    ∙ lines-end line_entry (λ n. BadTrace n) (c.loop-line.line-index + 1) c.deref-line-items.result.now c.loop-line.line-index c.loop-line.entries.items c.loop-line-test.false
