use Rattle.std.proofs.Common.{◌++◌, ◌∙◌, ap}
use Rattle.std.specs.Prelude.{string_bytes}
use Rattle.judge_app.proofs.Texts.{on_more, on_pushed}
use Rattle.judge_app.proofs.breaches.write_place.Goals as goal

pub returns : goal.returns
returns c =
    on_more c.push_str-3.result (string_bytes c.args.out.now) (string_bytes c.write.new.self) (string_bytes c.push_str-3.new.self) _ _ c.in_ok-write.ensures.bytes
    (on_more c.push_str-3.result (string_bytes c.write.new.self) (string_bytes c.push_str.new.self) (string_bytes c.push_str-3.new.self) _ _ c.in_ok-push_str.ensures.bytes
    (on_more c.push_str-3.result (string_bytes c.push_str.new.self) (string_bytes c.push_str-2.new.self) (string_bytes c.push_str-3.new.self) _ _
    (c.in_ok-push_str-2.ensures.bytes ∙ ap (λ name. string_bytes c.push_str.new.self ++ name) c.name_of.ensures)
    (on_pushed c.push_str-3.result (string_bytes c.push_str-2.new.self) (string_bytes c.push_str-3.new.self) _ c.push_str-3.ensures.bytes)))
