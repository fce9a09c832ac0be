use Rattle.std.proofs.Common.{◌++◌, ℕ, List, ap, ◌∙◌}
use Rattle.std.specs.Prelude.{codes, decimal, string_bytes}
use Rattle.run_counts.proofs.text.write_worker.Goals as goal

pub returns : goal.returns
returns c =
    let work = c.args.work.now in
    let text : ℕ → List ℕ = λ share.
    codes "worker "
    ++ (decimal work.port
    ++ (codes ": handled "
    ++ (decimal work.counts.dequeued
    ++ (codes ", looks " ++ (decimal work.looks.all ++ (codes ", in vain " ++ (decimal work.looks.vain ++ (codes " (" ++ (decimal share ++ codes " %), "))))))))) in
    c.in_ok-write.ensures.bytes ∙ ap (λ share. string_bytes c.args.out.now ++ text share) c.percent-share.ensures
