use Rattle.std.specs.Prelude.{string_bytes}
use Rattle.timelines.proofs.Texts.{on_more, on_pushed}
use Rattle.timelines.specs.Picture.{colours_style}
use Rattle.timelines.proofs.head.write_colours_style.Goals as goal

pub returns : goal.returns
unfolding colours_style
returns c =
    on_more c.push_str-2.result (string_bytes c.args.out.now) (string_bytes c.push_str.new.self) (string_bytes c.push_str-2.new.self) _ _ c.in_ok-push_str.ensures.bytes
    (on_pushed c.push_str-2.result (string_bytes c.push_str.new.self) (string_bytes c.push_str-2.new.self) _ c.push_str-2.ensures.bytes)
