use Rattle.std.proofs.Common.{◌≡◌, ◌++◌, take, sym, ap, ◌∙◌, append_assoc, take-append-drop}
use Rattle.std.proofs.KnownBytes.{Appends-trans}
use Rattle.command_line.proofs.output.write_text.Goals as goal

pub loop-rest-preserved : goal.loop-rest-preserved
loop-rest-preserved g c =
    let before = c.loop-rest.invariant in
    let rest = c.loop-rest.rest.now in
    let n = c.in-Ok.count in
    let cut : rest ≡ take n rest ++ c.split_at.result.1.now = sym (take-append-drop n rest) ∙ ap (λ l. take n rest ++ l) (sym c.split_at.ensures.back) in
    let whole : c.args.text.now ≡ (before.0 ++ take n rest) ++ c.split_at.result.1.now = before.1 ∙ ap (λ l. before.0 ++ l) cut ∙ sym (append_assoc before.0 (take n rest) c.split_at.result.1.now) in
    (before.0 ++ take n rest, whole, Appends-trans _ _ _ before.0 (take n rest) before.2 c.in-Ok.ensures.bytes)
