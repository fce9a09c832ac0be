use Rattle.std.proofs.Common.{◌≡◌, ◌<◌, ◌≤◌, length, sym, ap, ◌∙◌, arith}
use Rattle.order_parts.specs.Reorder.{open_place}
use Rattle.transcripts.specs.Standing.{View, places_at}
use Rattle.sched_core.proofs.KeptLists.{listed_all, place_listed}
use Rattle.sched_core.proofs.OrderFacts.{places_here}
use Rattle.sched_core.proofs.state.Core.list_kept.Goals as goal

pub list_place-requires-clause-room : goal.list_place-requires-clause-room
list_place-requires-clause-room c =
    let count : c.len-index-end.result ≡ length (places_at c.args.self.now c.args.queue) =
    c.len-index-end.ensures ∙ (sym (ap length (places_here c.self.inside.orders c.args.queue)) ∙ ap (λ (v : View). length (places_at v c.args.queue)) c.self.view_is) in
    omega (arith, count, c.loop-index-test.true, c.loop-index.invariant.within, c.loop-index.invariant.room, c.requires.room)

pub loop-index-preserved : goal.loop-index-preserved
loop-index-preserved c =
    let count : c.len-index-end.result ≡ length (places_at c.args.self.now c.args.queue) =
    c.len-index-end.ensures ∙ (sym (ap length (places_here c.self.inside.orders c.args.queue)) ∙ ap (λ (v : View). length (places_at v c.args.queue)) c.self.view_is) in
    let lt : c.loop-index.index < length (places_at c.args.self.now c.args.queue) = omega (arith, count, c.loop-index-test.true) in
    place_listed c.args.into.now c.loop-index.into c.list_place.new.into c.args.queue (places_at c.args.self.now c.args.queue) c.loop-index.index (open_place 0) c.loop-index.invariant lt
    c.list_place.ensures.kept c.list_place.ensures.room c.list_place.ensures.few

pub returns-clause-few : goal.returns-clause-few
returns-clause-few c =
    let count : c.len-index-end.result ≡ length (places_at c.args.self.now c.args.queue) =
    c.len-index-end.ensures ∙ (sym (ap length (places_here c.self.inside.orders c.args.queue)) ∙ ap (λ (v : View). length (places_at v c.args.queue)) c.self.view_is) in
    omega (arith, count, c.loop-index.auto.index-end, c.loop-index.invariant.within)

pub returns-clause-model : goal.returns-clause-model
returns-clause-model c T stands =
    let whole : length (places_at c.args.self.now c.args.queue) ≤ c.loop-index.index =
    omega (
      arith,
      ap (λ (v : View). length (places_at v c.args.queue)) (sym c.self.view_is),
      ap length (places_here c.self.inside.orders c.args.queue),
      c.len-index-end.ensures,
      c.loop-index-test.false,
    ) in
    listed_all c.args.into.now c.loop-index.into c.args.self.now T c.args.queue c.loop-index.index stands c.requires.queue whole c.loop-index.invariant
