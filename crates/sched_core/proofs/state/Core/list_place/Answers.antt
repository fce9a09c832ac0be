use Rattle.std.proofs.Common.{◌≡◌, ◌+◌, ◌<◌, ◌++◌, ◌∷◌, [], List, get_or, length, slice_get, sym, ap, ◌∙◌, subst, arith}
use Rattle.std.proofs.lemmas.List.{length-map}
use Rattle.std.proofs.lemmas.Option.{none-some}
use Rattle.lists.proofs.Lists.{slice_get-some}
use Rattle.evt_types.specs.declared.event.Event.{Event}
use Rattle.evt_types.specs.Place.{Place}
use Rattle.transcripts.specs.Standing.{View, places_at}
use Rattle.order_parts.specs.Reorder.{kept_of, open_place}
use Rattle.sched_core.proofs.KeptLists.{IsBegun, one_listed}
use Rattle.sched_core.proofs.OrderFacts.{places_here}
use Rattle.order_parts.specs.Orders.{order_at}
use Rattle.sched_core.proofs.state.Core.list_place.Goals as goal
use Rattle.sched_core.proofs.state.Core.list_place.Goals.{in-Some, in_default}

pub loop-nth-preserved : goal.loop-nth-preserved
loop-nth-preserved c =
    let xs : List Place = places_at c.args.self.now c.args.queue in
    let same : (order_at c.self.inside.orders c.args.queue).places ≡ xs = sym (places_here c.self.inside.orders c.args.queue) ∙ ap (λ (v : View). places_at v c.args.queue) c.self.view_is in
    let x : Place = get_or xs c.args.index (open_place 0) in
    let here : c.kept_at.result ≡ slice_get (kept_of x) c.loop-nth.nth = c.kept_at.ensures ∙ ap (λ (ys : List Place). slice_get (kept_of (get_or ys c.args.index (open_place 0))) c.loop-nth.nth) same in
    let long : length (kept_of x) ≡ length x.forwards = length-map x.forwards _ in
    let count : c.kept_count-nth-end.result ≡ length x.forwards = c.kept_count-nth-end.ensures.value ∙ ap (λ (ys : List Place). length (get_or ys c.args.index (open_place 0)).forwards) same in
    let lt : c.loop-nth.nth < length (kept_of x) = omega (arith, c.loop-nth-test.true, long, count) in
    elim c.match-kept_at.branch [
      | in-Some w ↦
          subst (λ into. IsBegun c.args.into.now into c.args.queue (kept_of x) (c.loop-nth.nth + 1)) (sym w.into-is)
          (one_listed c.args.into.now c.loop-nth.into w.push_reserved.new.self c.args.queue (kept_of x) c.loop-nth.nth w.in-Some.kept c.loop-nth.invariant (sym here ∙ w.in-Some.is) (w.push_reserved.ensures.items ∙ ap (λ (e : Event). c.loop-nth.into.items ++ record { queue = c.args.queue; number = w.in-Some.kept.number; event = e } ∷ []) w.unpack.ensures) w.push_reserved.ensures.capacity)
      | in_default w ↦ let some = slice_get-some (kept_of x) c.loop-nth.nth lt in absurd (none-some some.0 (sym w.in_default.is ∙ (here ∙ some.1)))
    ]
