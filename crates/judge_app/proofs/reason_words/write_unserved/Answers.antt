use Rattle.std.specs.Prelude.{string_bytes}
use Rattle.judge_app.proofs.Texts.{on_more}
use Rattle.judge_app.proofs.reason_words.write_unserved.Goals as goal

pub returns : goal.returns
returns c =
    on_more c.write-3.result (string_bytes c.args.out.now) (string_bytes c.write.new.self) (string_bytes c.write-3.new.self) _ _ c.in_ok-write.ensures.bytes
    (on_more c.write-3.result (string_bytes c.write.new.self) (string_bytes c.write-2.new.self) (string_bytes c.write-3.new.self) _ _ c.in_ok-write-2.ensures.bytes
    c.write-3.ensures.bytes)
