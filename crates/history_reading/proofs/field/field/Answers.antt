use Rattle.std.proofs.Common.{sym, ◌∙◌}
use Rattle.std.proofs.lemmas.List.{append_cancel_left}
use Rattle.history_reading.proofs.field.field.Goals as goal

pub returns-in-Some-number_at-clause-only : goal.returns-in-Some-number_at-clause-only
returns-in-Some-number_at-clause-only c = λ n more small behind e. c.in-Some-number_at.ensures.only n more small behind (append_cancel_left c.args.sign.now _ _ (sym c.in-Some.ensures.some ∙ e))

pub returns-in-None-clause-only : goal.returns-in-None-clause-only
returns-in-None-clause-only c = λ n more small behind e. absurd (c.in-None.ensures.only n more small behind (append_cancel_left c.args.sign.now _ _ (sym c.in-Some.ensures.some ∙ e)))
