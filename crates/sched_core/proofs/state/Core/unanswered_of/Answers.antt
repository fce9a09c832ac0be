use Rattle.std.proofs.Common.{◌≡◌, ◌+◌, ◌<◌, ◌≤◌, [], List, length, map, sum_by, take, get_or, sym, ap, ◌∙◌, refl, arith}
use Rattle.std.proofs.lemmas.List.{get_or-map, length-map, take_all}
use Rattle.std.proofs.lemmas.List.Sums.{sum_by_more, sum_by-take-le}
use Rattle.order_parts.specs.Histories.{lane_in}
use Rattle.order_parts.specs.History.{entries_of}
use Rattle.transcripts.specs.Standing.{View}
use Rattle.transcripts.specs.Transcript.{Held}
use Rattle.sched_core.specs.View.{unanswered_in}
use Rattle.sched_core.proofs.Counted.{lane_counted, of_queue, queue_told, queue_within}
use Rattle.sched_core.proofs.state.Core.unanswered_of.Goals as goal
use Rattle.sched_core.proofs.state.Core.unanswered_of.Goals.{After-count_of-count}

pub loop-lane-init : goal.loop-lane-init
loop-lane-init c = refl

-- what is counted with one lane more
counted : (c : After-count_of-count) → c.loop-lane.count + c.count_of-count.result ≡ sum_by (of_queue c.args.queue) (take (c.loop-lane.lane + 1) (map unanswered_in c.self.inside.lanes))
counted c =
    let us : List (List Held) = map unanswered_in c.self.inside.lanes in
    let lt : c.loop-lane.lane < length us = omega (arith, c.loop-lane-test.true, c.self.invariant.extras, c.self.invariant.lanes, length-map c.self.inside.lanes unanswered_in) in
    let there : c.loop-lane.lane < length c.self.inside.lanes = omega (arith, lt, length-map c.self.inside.lanes unanswered_in) in
    let here : c.count_of-count.result ≡ of_queue c.args.queue (get_or us c.loop-lane.lane []) =
    c.count_of-count.ensures ∙ (lane_counted c.args.queue (lane_in c.self.inside.lanes c.loop-lane.lane) ∙ ap (of_queue c.args.queue) (sym (get_or-map unanswered_in c.self.inside.lanes c.loop-lane.lane (entries_of [] 0) [] there))) in
    let so_far : c.loop-lane.count ≡ sum_by (of_queue c.args.queue) (take c.loop-lane.lane us) = c.loop-lane.invariant ∙ ap (λ (v : View). sum_by (of_queue c.args.queue) (take c.loop-lane.lane v.unanswered)) (sym c.self.view_is) in
    omega (arith, so_far, here, sum_by_more (of_queue c.args.queue) us c.loop-lane.lane [] lt)

pub overflow_add-count : goal.overflow_add-count
overflow_add-count c =
    let us : List (List Held) = map unanswered_in c.self.inside.lanes in
    let more = counted c in
    let whole = sum_by-take-le (of_queue c.args.queue) us (c.loop-lane.lane + 1) in
    let all = queue_within c.args.queue us in
    omega (arith, c.self.invariant.within, c.self.invariant.small)

pub loop-lane-preserved : goal.loop-lane-preserved
loop-lane-preserved c =
    counted (goal.at.loop-lane-preserved c).After-count_of-count ∙ ap (λ (v : View). sum_by (of_queue c.args.queue) (take (c.loop-lane.lane + 1) v.unanswered)) c.self.view_is

pub returns-clause-value : goal.returns-clause-value
returns-clause-value c =
    let us : List (List Held) = c.args.self.now.unanswered in
    let same : map unanswered_in c.self.inside.lanes ≡ us = ap (λ (v : View). v.unanswered) c.self.view_is in
    let whole : length us ≤ c.loop-lane.lane = omega (arith, c.loop-lane-test.false, c.self.invariant.extras, c.self.invariant.lanes, length-map c.self.inside.lanes unanswered_in, ap length same) in
    c.loop-lane.invariant ∙ ap (sum_by (of_queue c.args.queue)) (take_all c.loop-lane.lane us whole)

pub returns-clause-model : goal.returns-clause-model
returns-clause-model c T stands = returns-clause-value c ∙ queue_told c.args.self.now T c.args.queue stands
