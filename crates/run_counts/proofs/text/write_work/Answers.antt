use Rattle.std.proofs.Common.{◌≡◌, ◌++◌, ℕ, List, sym, subst}
use Rattle.std.specs.Prelude.{OnOk, string_bytes}
use Rattle.run_counts.proofs.Pieces.{is_worker}
use Rattle.run_counts.specs.CountsText.{work_of}
use Rattle.run_counts.proofs.text.write_work.Goals as goal

pub returns-then-work-eq0 : goal.returns-then-work-eq0
returns-then-work-eq0 c =
    subst (λ (n : ℕ). OnOk c.write_producer.result (string_bytes c.write_producer.new.out ≡ string_bytes c.args.out.now ++ work_of n c.args.work.now)) (sym c.if-work-eq0.true)
    c.write_producer.ensures

pub returns : goal.returns
returns c =
    subst (λ (xs : List ℕ). OnOk c.write_worker.result (string_bytes c.write_worker.new.out ≡ string_bytes c.args.out.now ++ xs)) (is_worker c.args.work.now.port c.args.work.now c.if-work-eq0.false)
    c.write_worker.ensures
