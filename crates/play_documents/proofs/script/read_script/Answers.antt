use Rattle.std.proofs.Common.{◌+◌, map, drop, false-eqb, Err, refl, sym, ap, ◌∙◌}
use Rattle.std.specs.Prelude.{option_map}
use Rattle.std.proofs.lemmas.Bool.{eqb-true}
use Rattle.std.proofs.lemmas.List.{map_push}
use Rattle.play_documents.specs.Command.{line_of}
use Rattle.play_documents.specs.Lines.{lines_from}
use Rattle.play_documents.specs.Script.{line_command}
use Rattle.play_documents.specs.declared.fault.DocFault.TheVariants.{BadCommand}
use Rattle.play_documents.proofs.Lines.{after, texts, lines-start, line-skips, line-goes, line-stops, lines-end}
use Rattle.play_documents.proofs.script.read_script.Goals as goal

pub loop-line-init : goal.loop-line-init
loop-line-init c =
    let none = ap (map line_of) c.new-commands.ensures.items in (
      refl,
      lines-start (line_command c.args.ports) (λ n. BadCommand n) c.args.script.now c.deref-line-items.result.now _ none
          (ap texts c.deref-line-items.ensures.value ∙ c.in_ok-lines.ensures),
    )

pub loop-line-preserved-then-is_empty : goal.loop-line-preserved-then-is_empty
loop-line-preserved-then-is_empty c =
    let none = eqb-true _ _ (sym c.is_empty.ensures ∙ c.if-is_empty.true) in
    let skips = line-skips (line_command c.args.ports) (λ n. BadCommand n) c.deref-line-items.result.now c.loop-line.line-index _ c.loop-line-test.true
    c.without_carriage_return-line.result.now c.without_carriage_return-line.ensures none in
    (c.in_ok-number.ensures.next ∙ ap (λ n. n + 1) c.loop-line.invariant.0, ap (after (map line_of c.loop-line.commands.items)) (sym skips) ∙ c.loop-line.invariant.1)

pub returns-in-None : goal.returns-in-None
returns-in-None c =
    let some = false-eqb _ _ (sym c.if-is_empty.false ∙ c.is_empty.ensures) in
    let bad = sym c.in_ok-command.ensures ∙ ap (option_map line_of) c.in-None.is in
    let stops = line-stops (line_command c.args.ports) (λ n. BadCommand n) c.deref-line-items.result.now c.loop-line.line-index _ c.loop-line-test.true
    c.without_carriage_return-line.result.now c.without_carriage_return-line.ensures some bad in
    sym c.loop-line.invariant.1 ∙ ap (after (map line_of c.loop-line.commands.items)) stops ∙ ap (λ n. Err (BadCommand n)) (sym (c.in_ok-number.ensures.next ∙ ap (λ n. n + 1) c.loop-line.invariant.0))

pub loop-line-preserved : goal.loop-line-preserved
loop-line-preserved c =
    let some = false-eqb _ _ (sym c.if-is_empty.false ∙ c.is_empty.ensures) in
    let good = sym c.in_ok-command.ensures ∙ ap (option_map line_of) c.in-Some.is in
    let goes = line-goes (line_command c.args.ports) (λ n. BadCommand n) c.deref-line-items.result.now c.loop-line.line-index _ c.loop-line-test.true
    c.without_carriage_return-line.result.now c.without_carriage_return-line.ensures (map line_of c.loop-line.commands.items) (line_of c.in-Some.command) some good in
    let more = ap (map line_of) c.in_ok-push-in-Some.ensures.items ∙ map_push line_of c.loop-line.commands.items c.in-Some.command in
    let rest = lines_from (line_command c.args.ports) (λ n. BadCommand n) (c.loop-line.line-index + 1 + 1) (texts (drop (c.loop-line.line-index + 1) c.deref-line-items.result.now)) in
    (c.in_ok-number.ensures.next ∙ ap (λ n. n + 1) c.loop-line.invariant.0, ap (λ front. after front rest) more ∙ sym goes ∙ c.loop-line.invariant.1)

pub returns : goal.returns
returns c =
    sym c.loop-line.invariant.1
    ∙ lines-end (line_command c.args.ports) (λ n. BadCommand n) (c.loop-line.line-index + 1) c.deref-line-items.result.now c.loop-line.line-index
    (map line_of c.loop-line.commands.items) c.loop-line-test.false
