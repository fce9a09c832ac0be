use Rattle.std.proofs.Common.{◌+◌, ◌++◌, ◌∙◌, ap}
use Rattle.std.specs.Prelude.{string_bytes}
use Rattle.judge_app.specs.Breaches.{got_text, place_text}
use Rattle.judge_app.proofs.Texts.{on_more, on_pushed}
use Rattle.judge_app.proofs.breaches.write_words.Goals as goal

pub returns : goal.returns
returns c =
    on_more c.push_str.result (string_bytes c.args.out.now) (string_bytes c.write_place.new.out) (string_bytes c.push_str.new.self) _ _
    (c.in_ok-write_place.ensures ∙ ap (λ n. string_bytes c.args.out.now ++ place_text (n + 1) c.args.breach) c.place_of.ensures)
    (on_more c.push_str.result (string_bytes c.write_place.new.out) (string_bytes c.write_got.new.out) (string_bytes c.push_str.new.self) _ _
    (c.in_ok-write_got.ensures ∙ ap (λ e. string_bytes c.write_place.new.out ++ got_text c.args.seen.now.port e) c.event_in.ensures)
    (on_more c.push_str.result (string_bytes c.write_got.new.out) (string_bytes c.write_why.new.out) (string_bytes c.push_str.new.self) _ _ c.in_ok-write_why.ensures
    (on_pushed c.push_str.result (string_bytes c.write_why.new.out) (string_bytes c.push_str.new.self) _ c.push_str.ensures.bytes)))
