use Rattle.std.proofs.Common.{◌≡◌, ◌≤◌, ◌<◌, List, length, get_or, map, Some, None, sym, ap, ◌∙◌, rules}
use Rattle.std.proofs.lemmas.List.{map-append}
use Rattle.std.specs.Prelude.{option_map}
use Rattle.toml.specs.Data.{as_table}
use Rattle.toml.specs.View.{view, table_view}
use Rattle.toml.specs.declared.value.Value.{Value}
use Rattle.play_documents.proofs.Items.{items-more, items-refused, items-all}
use Rattle.play_documents.proofs.field.tables_in.Goals as goal

pub loop-value-preserved : goal.loop-value-preserved
loop-value-preserved c =
    let vs : List Value = c.args.values.now.items in
    let i = c.loop-value.value-index in
    let d = c.value-item.result in
    let lt : i < length vs = search rules in
    let here = c.value-item.is ∙ ap (λ (ws : List Value). get_or ws i d) c.deref-value-items.ensures.value in
    let is : as_table (view (get_or vs i d)) ≡ Some (table_view c.in-Some.table.now) = ap (λ v. as_table (view v)) (sym here) ∙ sym c.as_table.ensures ∙ ap (option_map (λ m. table_view m.now)) c.in-Some.is in
    let rows = ap (map (λ t. table_view t.now)) c.in_ok-push-in-Some.ensures.items ∙ map-append (λ t. table_view t.now) c.loop-value.tables.items _ in
    rw (rows) (items-more as_table vs i d _ (table_view c.in-Some.table.now) _ lt is c.loop-value.invariant)

pub returns-in-None : goal.returns-in-None
returns-in-None c =
    let vs : List Value = c.args.values.now.items in
    let i = c.loop-value.value-index in
    let d = c.value-item.result in
    let lt : i < length vs = search rules in
    let here = c.value-item.is ∙ ap (λ (ws : List Value). get_or ws i d) c.deref-value-items.ensures.value in
    let is : as_table (view (get_or vs i d)) ≡ None = search rules in
    sym (items-refused as_table vs i d _ _ lt is c.loop-value.invariant)

pub returns : goal.returns
returns c =
    let vs : List Value = c.args.values.now.items in
    let le : length vs ≤ c.loop-value.value-index = search rules in
    sym (items-all as_table vs c.loop-value.value-index _ _ le c.loop-value.invariant)
