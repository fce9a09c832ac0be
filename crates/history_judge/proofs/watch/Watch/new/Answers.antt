use Rattle.std.proofs.Common.{◌∙◌, ap, replicate}
use Rattle.history_judge.proofs.Watched.{watch_begins}
use Rattle.history_judge.specs.Holds.{no_hold}
use Rattle.history_judge.proofs.watch.Watch.new.Goals as goal

pub returns : goal.returns
returns c =
    watch_begins c.args.shape.now c.args.history.now c.in_ok-got.got.items c.in_ok-latest.latest.items
    (c.in_ok-got.ensures ∙ ap (λ n. replicate n 0) c.port_count.ensures)
    (c.in_ok-latest.ensures ∙ ap (λ n. replicate n no_hold) c.cells.ensures)
