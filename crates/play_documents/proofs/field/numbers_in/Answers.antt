use Rattle.std.proofs.Common.{◌≤◌, ◌<◌, List, length, get_or, sym, ap, ◌∙◌, rules}
use Rattle.toml.specs.View.{view}
use Rattle.toml.specs.declared.value.Value.{Value}
use Rattle.play_documents.specs.Field.{number_of}
use Rattle.play_documents.proofs.Items.{items-more, items-refused, items-all}
use Rattle.play_documents.proofs.field.numbers_in.Goals as goal

pub loop-value-preserved : goal.loop-value-preserved
loop-value-preserved c =
    let vs : List Value = c.args.values.now.items in
    let i = c.loop-value.value-index in
    let d = c.value-item.result in
    let lt : i < length vs = search rules in
    let here = c.value-item.is ∙ ap (λ (ws : List Value). get_or ws i d) c.deref-value-items.ensures.value in
    let is = ap (λ v. number_of _ (view v)) (sym here) ∙ sym c.number_of.ensures ∙ c.in-Some.is in
    rw (c.in_ok-push-in-Some.ensures.items) (items-more _ vs i d c.loop-value.numbers.items c.in-Some.number _ lt is c.loop-value.invariant)

pub returns-in-None : goal.returns-in-None
returns-in-None c =
    let vs : List Value = c.args.values.now.items in
    let i = c.loop-value.value-index in
    let d = c.value-item.result in
    let lt : i < length vs = search rules in
    let here = c.value-item.is ∙ ap (λ (ws : List Value). get_or ws i d) c.deref-value-items.ensures.value in
    let is = ap (λ v. number_of _ (view v)) (sym here) ∙ sym c.number_of.ensures ∙ c.in-None.is in
    sym (items-refused _ vs i d c.loop-value.numbers.items _ lt is c.loop-value.invariant)

pub returns : goal.returns
returns c =
    let vs : List Value = c.args.values.now.items in
    let le : length vs ≤ c.loop-value.value-index = search rules in
    sym (items-all _ vs c.loop-value.value-index c.loop-value.numbers.items _ le c.loop-value.invariant)
