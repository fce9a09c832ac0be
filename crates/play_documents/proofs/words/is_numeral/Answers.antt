use Rattle.std.proofs.Common.{◌≡◌, not, ◌&&◌, ap, sym, ◌∙◌}
use Rattle.std.proofs.lemmas.Bool.{ne_eqb}
use Rattle.std.specs.Str.{all_ascii_digits}
use Rattle.play_documents.specs.Words.{is_numeral}
use Rattle.play_documents.proofs.Numerals.{digits-list_all, is_numeral-long}
use Rattle.play_documents.proofs.words.is_numeral.Goals as goal

pub returns-then-digits-ne48 : goal.returns-then-digits-ne48
returns-then-digits-ne48 c =
    let bytes = c.as_bytes.result.now in
    let long : is_numeral bytes ≡ all_ascii_digits bytes =
    is_numeral-long bytes c.in_default.len_at_least ∙ ap (λ b. not b && all_ascii_digits bytes) (ne_eqb _ 48 c.if-digits-ne48.true) in
    c.all_digits.ensures ∙ digits-list_all bytes ∙ sym long ∙ ap is_numeral c.as_bytes.ensures.value
