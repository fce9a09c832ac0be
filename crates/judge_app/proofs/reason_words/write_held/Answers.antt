use Rattle.std.specs.Prelude.{string_bytes}
use Rattle.judge_app.proofs.Texts.{on_more, on_pushed}
use Rattle.judge_app.proofs.reason_words.write_held.Goals as goal

pub returns : goal.returns
returns c =
    on_more c.push_str.result (string_bytes c.args.out.now) (string_bytes c.write.new.self) (string_bytes c.push_str.new.self) _ _ c.in_ok-write.ensures.bytes
    (on_more c.push_str.result (string_bytes c.write.new.self) (string_bytes c.write-2.new.self) (string_bytes c.push_str.new.self) _ _ c.in_ok-write-2.ensures.bytes
    (on_more c.push_str.result (string_bytes c.write-2.new.self) (string_bytes c.write-3.new.self) (string_bytes c.push_str.new.self) _ _ c.in_ok-write-3.ensures.bytes
    (on_more c.push_str.result (string_bytes c.write-3.new.self) (string_bytes c.write-4.new.self) (string_bytes c.push_str.new.self) _ _ c.in_ok-write-4.ensures.bytes
    (on_more c.push_str.result (string_bytes c.write-4.new.self) (string_bytes c.write-5.new.self) (string_bytes c.push_str.new.self) _ _ c.in_ok-write-5.ensures.bytes
    (on_pushed c.push_str.result (string_bytes c.write-5.new.self) (string_bytes c.push_str.new.self) _ c.push_str.ensures.bytes)))))
