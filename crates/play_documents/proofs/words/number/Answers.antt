use Rattle.std.proofs.Common.{sym, ◌∙◌, arith}
use Rattle.play_documents.proofs.Numerals.{number-refused, parsed-numeral}
use Rattle.play_documents.proofs.words.number.Goals as goal

pub returns-in_default-2-clause-value : goal.returns-in_default-2-clause-value
returns-in_default-2-clause-value c =
    let is = sym c.is_numeral.ensures ∙ c.if-not-is_numeral.false in
    let refused = rw c.in_default.is at (parsed-numeral c.args.word.now c.parse.result c.parse.ensures.value.0 is) in
    sym (number-refused c.args.most c.args.word.now is refused (omega (arith, c.ranges.most)))
