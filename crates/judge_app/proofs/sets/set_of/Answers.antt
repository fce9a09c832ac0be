use Rattle.std.proofs.Common.{◌||◌, ◌==◌, take, get_or, ap, ◌∙◌, sym}
use Rattle.std.proofs.lemmas.List.{take_more}
use Rattle.lists.specs.Lists.{has}
use Rattle.lists.proofs.Lists.{has-push}
use Rattle.judge_app.proofs.sets.set_of.Goals as goal

pub loop-number-preserved : goal.loop-number-preserved
loop-number-preserved c = λ n.
    let i = c.loop-number.number-index in
    let xs = c.args.numbers.now in
    c.in_ok-add.ensures n
    ∙ (ap (λ b. b || (get_or xs i 0 == n)) (c.loop-number.invariant n)
    ∙ (sym (has-push n (take i xs) (get_or xs i 0)) ∙ ap (has n) (sym (take_more xs i 0 c.loop-number-test.true))))
