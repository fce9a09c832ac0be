use Rattle.std.proofs.Common.{◌≡◌, ◌++◌, subst}
use Rattle.std.specs.Prelude.{OnOk, string_bytes}
use Rattle.judge_app.specs.Breaches.{entry_line, other_line, words_at}
use Rattle.judge_app.proofs.Texts.{on_more}
use Rattle.judge_app.proofs.breaches.write_breach.Goals as goal

pub returns : goal.returns
returns c =
    subst
    (λ i. OnOk c.write_other_line.result (string_bytes c.write_other_line.new.out
    ≡ string_bytes c.args.out.now ++ (words_at c.args.shape.now c.args.history.now c.args.breach i ++ (entry_line c.args.history.now i ++ other_line c.args.history.now c.args.breach))))
    c.place_of-at.ensures
    (on_more c.write_other_line.result (string_bytes c.args.out.now) (string_bytes c.write_words_at.new.out) (string_bytes c.write_other_line.new.out) _ _ c.in_ok-write_words_at.ensures
    (on_more c.write_other_line.result (string_bytes c.write_words_at.new.out) (string_bytes c.write_line.new.out) (string_bytes c.write_other_line.new.out) _ _ c.in_ok-write_line.ensures
    c.write_other_line.ensures))
