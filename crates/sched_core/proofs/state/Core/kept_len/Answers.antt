use Rattle.std.proofs.Common.{◌≡◌, ◌+◌, ◌<◌, ◌≤◌, ◌^◌, List, length, get_or, sym, ap, ◌∙◌, subst, refl, arith}
use Rattle.std.proofs.lemmas.List.{take_all}
use Rattle.std.proofs.lemmas.List.Sums.{sum_by_more, sum_by-take-le}
use Rattle.evt_types.specs.Place.{Place}
use Rattle.order_parts.specs.Orders.{order_at}
use Rattle.order_parts.specs.Reorder.{open_place}
use Rattle.transcripts.specs.Standing.{View, entries_of, places_at}
use Rattle.sched_core.proofs.Cores.{places_there}
use Rattle.sched_core.proofs.Counted.{kept_count, kept_told, places_counted, places_within}
use Rattle.sched_core.proofs.OrderFacts.{places_here}
use Rattle.sched_core.proofs.state.Core.kept_len.Goals as goal

pub loop-index-init : goal.loop-index-init
loop-index-init c = refl

pub overflow_add-count : goal.overflow_add-count
overflow_add-count c =
    let xs : List Place = places_at c.args.self.now c.args.queue in
    let same : (order_at c.self.inside.orders c.args.queue).places ≡ xs = sym (places_here c.self.inside.orders c.args.queue) ∙ ap (λ (v : View). places_at v c.args.queue) c.self.view_is in
    let here : c.kept_count-count.result ≡ length (get_or xs c.loop-index.index (open_place 0)).forwards = c.kept_count-count.ensures.value ∙ ap (λ (ys : List Place). length (get_or ys c.loop-index.index (open_place 0)).forwards) same in
    let lt : c.loop-index.index < length xs = omega (arith, c.loop-index-test.true, c.len-index-end.ensures, ap length same) in
    let more = sum_by_more (λ (x : Place). length x.forwards) xs c.loop-index.index (open_place 0) lt in
    let whole = sum_by-take-le (λ (x : Place). length x.forwards) xs (c.loop-index.index + 1) in
    let all = places_within c.args.self.now c.args.queue (places_there c.self.inside c.args.self.now c.args.queue c.self.invariant c.self.view_is c.requires) in
    let few : entries_of c.args.self.now ≤ 2 ^ 63 = subst (λ (v : View). entries_of v ≤ 2 ^ 63) c.self.view_is c.self.invariant.few in
    omega (arith, c.loop-index.invariant)

pub loop-index-preserved : goal.loop-index-preserved
loop-index-preserved c =
    let xs : List Place = places_at c.args.self.now c.args.queue in
    let same : (order_at c.self.inside.orders c.args.queue).places ≡ xs = sym (places_here c.self.inside.orders c.args.queue) ∙ ap (λ (v : View). places_at v c.args.queue) c.self.view_is in
    let here : c.kept_count-count.result ≡ length (get_or xs c.loop-index.index (open_place 0)).forwards = c.kept_count-count.ensures.value ∙ ap (λ (ys : List Place). length (get_or ys c.loop-index.index (open_place 0)).forwards) same in
    let lt : c.loop-index.index < length xs = omega (arith, c.loop-index-test.true, c.len-index-end.ensures, ap length same) in
    let more = sum_by_more (λ (x : Place). length x.forwards) xs c.loop-index.index (open_place 0) lt in
    omega (arith, c.loop-index.invariant)

pub returns-clause-value : goal.returns-clause-value
returns-clause-value c =
    let xs : List Place = places_at c.args.self.now c.args.queue in
    let same : (order_at c.self.inside.orders c.args.queue).places ≡ xs = sym (places_here c.self.inside.orders c.args.queue) ∙ ap (λ (v : View). places_at v c.args.queue) c.self.view_is in
    let whole : length xs ≤ c.loop-index.index = omega (arith, c.loop-index-test.false, c.len-index-end.ensures, ap length same) in
    c.loop-index.invariant ∙ (ap kept_count (take_all c.loop-index.index xs whole) ∙ places_counted c.args.self.now c.args.queue)

pub returns-clause-model : goal.returns-clause-model
returns-clause-model c T stands = returns-clause-value c ∙ kept_told c.args.self.now T c.args.queue stands c.requires
