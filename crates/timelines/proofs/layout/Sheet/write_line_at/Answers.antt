use Rattle.std.proofs.Common.{◌≡◌, ◌*◌, ◌++◌, ℕ, subst}
use Rattle.std.specs.Prelude.{OnOk, codes, decimal, string_bytes}
use Rattle.timelines.proofs.Texts.{on_more}
use Rattle.timelines.specs.Picture.{line_at}
use Rattle.timelines.proofs.layout.Sheet.write_line_at.Goals as goal

pub returns : goal.returns
unfolding line_at
returns c =
    let Says : ℕ → Type 0 = λ x.
    OnOk c.writeln.result (string_bytes c.writeln.new.self ≡ string_bytes c.args.out.now ++ (codes "<text class='a' x='" ++ (decimal x ++ (codes "' y='126'>" ++ (decimal (5 * c.args.line) ++ (codes "</text><path class='g' d='M" ++ (decimal x ++ (codes " 130V" ++ (decimal c.args.self.now.bottom ++ codes "'/>\n"))))))))) in
    let here : Says c.x_at-x.result =
    on_more c.writeln.result (string_bytes c.args.out.now) (string_bytes c.push_str.new.self) (string_bytes c.writeln.new.self) _ _ c.in_ok-push_str.ensures.bytes
    (on_more c.writeln.result (string_bytes c.push_str.new.self) (string_bytes c.write.new.self) (string_bytes c.writeln.new.self) _ _ c.in_ok-write.ensures.bytes
    (on_more c.writeln.result (string_bytes c.write.new.self) (string_bytes c.write-2.new.self) (string_bytes c.writeln.new.self) _ _ c.in_ok-write-2.ensures.bytes
    (on_more c.writeln.result (string_bytes c.write-2.new.self) (string_bytes c.push_str-2.new.self) (string_bytes c.writeln.new.self) _ _ c.in_ok-push_str-2.ensures.bytes
    (on_more c.writeln.result (string_bytes c.push_str-2.new.self) (string_bytes c.write-3.new.self) (string_bytes c.writeln.new.self) _ _ c.in_ok-write-3.ensures.bytes
    (c.writeln.ensures.bytes))))) in
    subst Says c.x_at-x.ensures.value here
