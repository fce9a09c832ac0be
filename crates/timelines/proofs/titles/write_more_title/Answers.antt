use Rattle.std.specs.Prelude.{string_bytes}
use Rattle.timelines.proofs.Texts.{on_more}
use Rattle.timelines.specs.Marks.{more_title}
use Rattle.timelines.proofs.titles.write_more_title.Goals as goal

pub returns : goal.returns
unfolding more_title
returns c =
    on_more c.write_event.result (string_bytes c.args.out.now) (string_bytes c.write.new.self) (string_bytes c.write_event.new.out) _ _ c.in_ok-write.ensures.bytes
    (on_more c.write_event.result (string_bytes c.write.new.self) (string_bytes c.write-2.new.self) (string_bytes c.write_event.new.out) _ _ c.in_ok-write-2.ensures.bytes
    (on_more c.write_event.result (string_bytes c.write-2.new.self) (string_bytes c.push_str.new.self) (string_bytes c.write_event.new.out) _ _ c.in_ok-push_str.ensures.bytes
    (c.write_event.ensures)))
