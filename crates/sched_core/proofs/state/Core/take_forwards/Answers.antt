use Rattle.std.proofs.Common.{rules, ◌≡◌, ◌<◌, ◌≤◌, List, ◌++◌, ap, arith, length, map, refl, sym, take, ◌∙◌}
use Rattle.std.proofs.lemmas.List.{length-map, length-take, length-take-le}
use Rattle.order_parts.specs.Histories.{lane_in}
use Rattle.step_log.specs.Rows.{forward_steps}
use Rattle.sched_core.proofs.Answering.{oldest_first}
use Rattle.sched_core.proofs.Forwarded.{all_to, first_count, first_like, next_there, number_in, numbers_taken, room_for, taken_forwards, waiting_kept}
use Rattle.sched_core.proofs.Released.{bounded, replies_held, unanswered_are}
use Rattle.sched_core.proofs.Rows.{IsRowTaken}
use Rattle.sched_core.specs.Inner.{unplaced}
use Rattle.transcripts.specs.Standing.{kept_in, unanswered_at}
use Rattle.transcripts.specs.Transcript.{Held}
use Rattle.sched_core.proofs.state.Core.take_forwards.Given as given
use Rattle.sched_core.proofs.state.Core.take_forwards.Goals as goal
use Rattle.sched_core.proofs.state.Core.take_forwards.Goals.{After-as_slice}

-- ---- what holds once the row is answered, and its events wait

most : (g : given.Over) (c : After-as_slice g) → length (take c.min-most.result c.args.replies.now) ≤ length (unanswered_at c.args.self.now c.args.lane)
most g c = replies_held c.self.inside c.args.self.now c.args.lane c.min-most.result c.args.replies.now c.self.invariant c.self.view_is c.requires.lane (omega (arith, c.len.ensures))

numbers : (g : given.Over) (c : After-as_slice g) → take c.answer_row-count.result c.as_slice.result.now ≡ map number_in (take c.answer_row-count.result (unanswered_at c.args.self.now c.args.lane))
numbers g c =
    let n = c.answer_row-count.result in
    ap (take n) (c.as_slice.ensures.value ∙ c.numbers-numbers.ensures)
    ∙ (numbers_taken n c.min-most.result (lane_in c.self.inside.lanes c.args.lane).entries (omega (arith, c.answer_row-count.ensures.few, length-take c.min-most.result c.args.replies.now))
    ∙ ap (λ (xs : List Held). map number_in (take n xs)) (sym (unanswered_are c.self.inside c.args.self.now c.args.lane c.self.invariant c.self.view_is c.requires.lane)))

taken : (g : given.Over) (c : After-as_slice g)
    → IsRowTaken c.args.self.now c.wait_row.new.self c.args.lane (take c.answer_row-count.result c.args.replies.now)
    (forward_steps c.args.lane c.oldest-queue.result.queue (take c.answer_row-count.result c.as_slice.result.now) (take c.answer_row-count.result c.args.replies.now)) 0
taken g c =
    let there : c.from-target.result < length c.args.self.now.shape.queues = c.may_pass_row.ensures.queue (search rules) in
    taken_forwards c.args.self.now c.args.lane c.oldest-queue.result.queue c.answer_row-count.result c.min-most.result c.in-Some.first.now.event c.args.replies.now c.answer_row-count.ensures.few (most g c) c.answer_row-count.ensures.like
    c.answer_row-count.new.self c.wait_row.new.self c.from-target.result (take c.answer_row-count.result c.as_slice.result.now) c.requires.lane c.answer_row-count.ensures.leave (search rules) (omega arith) there
    (next_there c.self.inside c.args.self.now c.from-target.result c.self.invariant c.self.view_is there) (c.may_pass_row.ensures.entries (search rules)) (numbers g c) c.answer_row-count.ensures.view c.wait_row.ensures

-- ---- its goals

pub answer_row-count-requires-clause-oldest : goal.answer_row-count-requires-clause-oldest
answer_row-count-requires-clause-oldest g c =
    (unplaced c.oldest-queue.result, oldest_first c.self.inside c.args.self.now c.args.lane c.oldest-queue.result c.self.invariant c.self.view_is c.requires.lane c.oldest-queue.ensures, refl)

pub answer_row-count-requires-clause-most : goal.answer_row-count-requires-clause-most
answer_row-count-requires-clause-most g c =
    replies_held c.self.inside c.args.self.now c.args.lane c.min-most.result c.args.replies.now c.self.invariant c.self.view_is c.requires.lane (omega (arith, c.len.ensures))

pub wait_row-requires-clause-room : goal.wait_row-requires-clause-room
wait_row-requires-clause-room g c =
    room_for c.args.self.now c.args.lane c.oldest-queue.result.queue c.answer_row-count.result c.min-most.result c.in-Some.first.now.event c.args.replies.now c.answer_row-count.ensures.few
    (replies_held c.self.inside c.args.self.now c.args.lane c.min-most.result c.args.replies.now c.self.invariant c.self.view_is c.requires.lane (omega (arith, c.len.ensures))) c.answer_row-count.ensures.like
    c.answer_row-count.new.self c.from-target.result c.of.result.number c.answer_row-count.ensures.view (omega arith) (search rules) (c.may_pass_row.ensures.queue (search rules)) c.answer_row-count.ensures.inside
    (bounded c.self.inside c.args.self.now c.self.invariant c.self.view_is) c.answer_row-count.ensures.entries (c.may_pass_row.ensures.entries (search rules))

pub push_forwards-requires-clause-pairs : goal.push_forwards-requires-clause-pairs
push_forwards-requires-clause-pairs g c =
    let at = (goal.at.push_forwards-requires-clause-pairs g c).After-as_slice in
    let n = c.answer_row-count.result in
    let hs = unanswered_at c.args.self.now c.args.lane in
    (ap length (numbers g at) ∙ (length-map (take n hs) number_in ∙ length-take-le n hs (omega (arith, most g at, c.answer_row-count.ensures.few))))
    ∙ sym (first_count c.args.self.now c.args.lane c.oldest-queue.result.queue n c.min-most.result c.in-Some.first.now.event c.args.replies.now c.answer_row-count.ensures.few (most g at) c.answer_row-count.ensures.like)

pub push_forwards-requires-clause-target : goal.push_forwards-requires-clause-target
push_forwards-requires-clause-target g c =
    let at = (goal.at.push_forwards-requires-clause-target g c).After-as_slice in
    all_to c.in-Some.first.now.event c.from-target.result (take c.answer_row-count.result c.args.replies.now) (omega arith)
    (first_like c.args.self.now c.args.lane c.oldest-queue.result.queue c.answer_row-count.result c.min-most.result c.in-Some.first.now.event c.args.replies.now c.answer_row-count.ensures.few (most g at) c.answer_row-count.ensures.like)

pub returns : goal.returns
returns g c =
    let n = c.answer_row-count.result in
    let rs = c.args.replies.now in
    let now = taken g (goal.at.returns g c).After-as_slice in
    record {
      few = omega (arith, c.answer_row-count.ensures.few, length-take c.min-most.result rs);
      may = now.may;
      view = now.view;
      logged = c.push_forwards.ensures.steps ∙ ap (λ ss. g.L.StepLog.steps c.args.log.now ++ ss) (sym now.steps);
      stands = now.stands;
      accepted = now.accepted;
      turned = now.turned;
      shape = now.shape;
      kept = ap kept_in c.wait_row.ensures ∙ (waiting_kept (take n rs) c.answer_row-count.new.self c.from-target.result ∙ c.answer_row-count.ensures.kept);
      room = omega (arith, c.push_forwards.ensures.room, length-take n rs);
    }
