use Rattle.std.proofs.Common.{◌≡◌, ◌==◌, ◌∙◌, map, ap}
use Rattle.std.specs.List.{slice_split}
use Rattle.log_reading.proofs.Spelling.{line-split, line-utf8}
use Rattle.log_reading.proofs.line.said_step.Goals as goal

pub returns-in_default : goal.returns-in_default
returns-in_default c = λ qs n s is e. absurd (c.in_default.ensures.cases.0 (line-utf8 qs n s c.args.line.now e))

pub returns : goal.returns
returns c = λ qs n s is e.
    c.step_of.ensures qs n s is
    (ap (map (λ w. w.now)) c.deref.ensures.value ∙ c.in_ok-words.ensures ∙ ap (slice_split (λ b. b == 32)) c.in-Ok.ensures.cases.0 ∙ line-split qs n s c.args.line.now e)
