use Rattle.std.proofs.Common.{◌≡◌, ◌∙◌, ◌-◌, ◌^◌, ◌∷◌, Some, None, decimal, sym, ap}
use Rattle.std.proofs.lemmas.Str.Pattern.{strip_prefix_char}
use Rattle.play_documents.specs.Words.{number}
use Rattle.log_reading.proofs.Lines.{tails}
use Rattle.log_reading.proofs.Numbers.{number-decimal}
use Rattle.log_reading.proofs.words.signed.Goals as goal

pub returns-in_err-strip_prefix : goal.returns-in_err-strip_prefix
returns-in_err-strip_prefix c = λ k h e. absurd (strip_prefix_char c.args.sign c.args.word.now None c.in_err-strip_prefix.ensures.cases c.requires (decimal k) e)

pub returns : goal.returns
returns c = λ k h e.
    let rest = strip_prefix_char c.args.sign c.args.word.now (Some c.in_ok-strip_prefix.field-0) c.in_ok-strip_prefix.ensures.cases c.requires in
    c.number.ensures.value ∙ ap (number (2 ^ 64 - 1)) (tails c.args.sign c.args.sign _ _ (sym rest ∙ e)) ∙ number-decimal k h
