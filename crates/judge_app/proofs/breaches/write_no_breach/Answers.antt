use Rattle.std.proofs.Common.{◌≡◌, ◌++◌, subst}
use Rattle.std.specs.Prelude.{OnOk, string_bytes}
use Rattle.history_judge.specs.Undecided.{alike}
use Rattle.judge_app.specs.Breaches.{open_text}
use Rattle.judge_app.proofs.Texts.{on_more}
use Rattle.judge_app.proofs.breaches.write_no_breach.Goals as goal

pub returns : goal.returns
returns c =
    on_more c.write_open.result (string_bytes c.args.out.now) (string_bytes c.push_str.new.self) (string_bytes c.write_open.new.out) _ _ c.in_ok-push_str.ensures.bytes
    (subst (λ n. OnOk c.write_open.result (string_bytes c.write_open.new.out ≡ string_bytes c.push_str.new.self ++ open_text n (alike c.args.history.now))) c.in_ok-counts.ensures.undelivered
    (subst (λ n. OnOk c.write_open.result (string_bytes c.write_open.new.out ≡ string_bytes c.push_str.new.self ++ open_text c.in_ok-counts.counts.undelivered n)) c.in_ok-counts.ensures.alike
    c.write_open.ensures))
