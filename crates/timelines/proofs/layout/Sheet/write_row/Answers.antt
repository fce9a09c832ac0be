use Rattle.std.proofs.Common.{◌≡◌, ◌+◌, ◌++◌, ℕ, length, subst}
use Rattle.std.specs.Prelude.{OnOk, codes, decimal, string_bytes}
use Rattle.timelines.proofs.Texts.{on_more, on_pushed}
use Rattle.timelines.specs.Picture.{row_name, row_start, row_text}
use Rattle.timelines.specs.declared.layout.Row.{Row}
use Rattle.timelines.proofs.layout.Sheet.write_row.Goals as goal

pub returns : goal.returns
unfolding row_text
returns c =
    let qs = c.args.queues.now in
    let Says : Row → ℕ → Type 0 = λ r b.
    OnOk c.push_str-2.result (string_bytes c.push_str-2.new.self ≡ string_bytes c.args.out.now ++ (row_start c.args.row (length qs) r.top r.extra ++ (codes "' width='" ++ (decimal c.args.width ++ (codes "'/><text x='8' y='" ++ (decimal b ++ (codes "'>" ++ (row_name qs c.args.row ++ codes "</text>\n")))))))) in
    let here : Says c.row_at-at.result c.below-base.result =
    on_more c.push_str-2.result (string_bytes c.args.out.now) (string_bytes c.write_row_start.new.out) (string_bytes c.push_str-2.new.self) _ _ c.in_ok-write_row_start.ensures
    (on_more c.push_str-2.result (string_bytes c.write_row_start.new.out) (string_bytes c.write.new.self) (string_bytes c.push_str-2.new.self) _ _ c.in_ok-write.ensures.bytes
    (on_more c.push_str-2.result (string_bytes c.write.new.self) (string_bytes c.write-2.new.self) (string_bytes c.push_str-2.new.self) _ _ c.in_ok-write-2.ensures.bytes
    (on_more c.push_str-2.result (string_bytes c.write-2.new.self) (string_bytes c.push_str.new.self) (string_bytes c.push_str-2.new.self) _ _ c.in_ok-push_str.ensures.bytes
    (on_more c.push_str-2.result (string_bytes c.push_str.new.self) (string_bytes c.write_row_name.new.out) (string_bytes c.push_str-2.new.self) _ _ c.in_ok-write_row_name.ensures
    (on_pushed c.push_str-2.result (string_bytes c.write_row_name.new.out) (string_bytes c.push_str-2.new.self) _ c.push_str-2.ensures.bytes))))) in
    subst (λ r. Says r (r.top + 24)) c.row_at-at.ensures (subst (Says c.row_at-at.result) c.below-base.ensures here)
