use Rattle.std.specs.Prelude.{string_bytes}
use Rattle.timelines.proofs.Texts.{on_more, on_pushed}
use Rattle.timelines.specs.Marks.{mark_of}
use Rattle.timelines.proofs.layout.Sheet.write_mark.Goals as goal

pub returns : goal.returns
unfolding mark_of
returns c =
    on_more c.push_str-4.result (string_bytes c.args.out.now) (string_bytes c.push_str.new.self) (string_bytes c.push_str-4.new.self) _ _ c.in_ok-push_str.ensures.bytes
    (on_more c.push_str-4.result (string_bytes c.push_str.new.self) (string_bytes c.write.new.self) (string_bytes c.push_str-4.new.self) _ _ c.in_ok-write.ensures.bytes
    (on_more c.push_str-4.result (string_bytes c.write.new.self) (string_bytes c.push_str-2.new.self) (string_bytes c.push_str-4.new.self) _ _ c.in_ok-push_str-2.ensures.bytes
    (on_more c.push_str-4.result (string_bytes c.push_str-2.new.self) (string_bytes c.write_title.new.out) (string_bytes c.push_str-4.new.self) _ _ c.in_ok-write_title.ensures
    (on_more c.push_str-4.result (string_bytes c.write_title.new.out) (string_bytes c.push_str-3.new.self) (string_bytes c.push_str-4.new.self) _ _ c.in_ok-push_str-3.ensures.bytes
    (on_more c.push_str-4.result (string_bytes c.push_str-3.new.self) (string_bytes c.write_drawn.new.out) (string_bytes c.push_str-4.new.self) _ _ c.in_ok-write_drawn.ensures
    (on_pushed c.push_str-4.result (string_bytes c.write_drawn.new.out) (string_bytes c.push_str-4.new.self) _ c.push_str-4.ensures.bytes))))))
