use Rattle.std.proofs.Common.{◌≡◌, ◌++◌, sym, subst}
use Rattle.std.specs.Prelude.{OnOk, string_bytes}
use Rattle.timelines.proofs.Texts.{on_more}
use Rattle.timelines.specs.Marks.{source_words}
use Rattle.timelines.proofs.titles.write_source.Goals as goal

pub returns-in_ok-push_str-in-Of : goal.returns-in_ok-push_str-in-Of
unfolding source_words
returns-in_ok-push_str-in-Of c =
    subst (λ s. OnOk c.write_event.result (string_bytes c.write_event.new.out ≡ string_bytes c.args.out.now ++ source_words s)) (sym c.in-Of.is)
    (on_more c.write_event.result _ _ _ _ _ c.in_ok-push_str-in-Of.ensures.bytes c.write_event.ensures)
