use Rattle.std.proofs.Common.{◌∙◌, sym}
use Rattle.history_judge.proofs.values.note_got.Goals as goal

pub returns-then-count-eq0-clause-lacking : goal.returns-then-count-eq0-clause-lacking
returns-then-count-eq0-clause-lacking c = λ is. record { event = c.in-Got.event; got = c.in-Got.is; none = sym c.count_left-count.ensures ∙ c.if-count-eq0.true }
