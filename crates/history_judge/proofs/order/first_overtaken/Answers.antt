use Rattle.history_judge.proofs.Crossed.{crossed_by_overtaken, overtaken_by_crossed, none_found, some_found}
use Rattle.history_judge.specs.Breaches.{IsOvertaken}
use Rattle.history_judge.specs.Streams.{IsCrossed}
use Rattle.history_judge.specs.declared.arrivals.Course.TheVariants.{Itself}
use Rattle.history_judge.proofs.order.first_overtaken.Goals as goal

pub returns-clause-some : goal.returns-clause-some
returns-clause-some c =
    some_found (IsCrossed c.args.shape.now c.args.history.now Itself) (IsOvertaken c.args.shape.now c.args.history.now) c.first_crossed.result
    (λ i j. overtaken_by_crossed c.args.shape.now c.args.history.now i j c.requires.ports) c.first_crossed.ensures.some

pub returns-clause-none : goal.returns-clause-none
returns-clause-none c =
    none_found (IsCrossed c.args.shape.now c.args.history.now Itself) (IsOvertaken c.args.shape.now c.args.history.now) c.first_crossed.result
    (crossed_by_overtaken c.args.shape.now c.args.history.now) c.first_crossed.ensures.none
