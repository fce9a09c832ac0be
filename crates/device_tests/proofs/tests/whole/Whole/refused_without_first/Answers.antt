use Rattle.std.proofs.Common.{ap, insert, not, ◌∙◌}
use Rattle.device_tests.proofs.Wholes.{inserted, parts_with, parts_without, some_there}
use Rattle.device_tests.proofs.tests.whole.Whole.refused_without_first.Goals as goal

pub stop-requires : goal.stop-requires
stop-requires c = parts_without _ _ _ _ c.requires c.remove-first.ensures.items

pub returns-else-is_err : goal.returns-else-is_err
returns-else-is_err c =
    let back = c.in-Err-Missing-eq0-default-default-default.ensures.back in
    parts_with _ _ _ _ _ _ _ _ c.requires
    (some_there _ _ _ c.args.self.ports.ok.0 c.is_empty.ensures c.if-is_empty.false)
    c.remove-first.ensures.value c.remove-first.ensures.items
    back.0 back.1
    (inserted _ _ _ _ c.insert.ensures.items (c.is_err.ensures.negation ∙ ap not c.if-is_err.false) ∙ ap (λ xs. insert xs 0 c.remove-first.result) (ap (λ v. v.items) back.2))
