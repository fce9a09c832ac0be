use Rattle.std.specs.Prelude.{string_bytes}
use Rattle.timelines.proofs.Texts.{on_more, on_pushed}
use Rattle.timelines.specs.Marks.{bar_text}
use Rattle.timelines.proofs.signs.write_bar.Goals as goal

pub returns : goal.returns
unfolding bar_text
returns c =
    on_more c.push_str.result (string_bytes c.args.out.now) (string_bytes c.write_look.new.out) (string_bytes c.push_str.new.self) _ _ c.in_ok-write_look.ensures
    (on_more c.push_str.result (string_bytes c.write_look.new.out) (string_bytes c.write.new.self) (string_bytes c.push_str.new.self) _ _ c.in_ok-write.ensures.bytes
    (on_more c.push_str.result (string_bytes c.write.new.self) (string_bytes c.write-2.new.self) (string_bytes c.push_str.new.self) _ _ c.in_ok-write-2.ensures.bytes
    (on_more c.push_str.result (string_bytes c.write-2.new.self) (string_bytes c.write-3.new.self) (string_bytes c.push_str.new.self) _ _ c.in_ok-write-3.ensures.bytes
    (on_more c.push_str.result (string_bytes c.write-3.new.self) (string_bytes c.write-4.new.self) (string_bytes c.push_str.new.self) _ _ c.in_ok-write-4.ensures.bytes
    (on_pushed c.push_str.result (string_bytes c.write-4.new.self) (string_bytes c.push_str.new.self) _ c.push_str.ensures.bytes)))))
