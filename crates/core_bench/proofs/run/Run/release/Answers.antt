use Rattle.std.proofs.Common.{◌≡◌, ◌+◌, length, vec_capacity, ap, ◌∙◌, arith}
use Rattle.std.proofs.lemmas.List.{length-append}
use Rattle.transcripts.specs.Standing.{steps_of}
use Rattle.core_bench.proofs.Ready.{reply_fits, oldest_lane, ready_without, ready_after}
use Rattle.core_bench.proofs.run.Run.release.Goals as goal

pub take_answer-requires-clause-room : goal.take_answer-requires-clause-room
take_answer-requires-clause-room c =
    let fits = reply_fits _ _ _ c.self.invariant c.in-Some.lane c.release.result (oldest_lane _ _ _ c.self.invariant _ _ c.in-Some.ensures.items) in
    omega (arith, fits, c.clear.ensures.len, c.clear.ensures.capacity)

pub invariant_of-self-then-not-takes : goal.invariant_of-self-then-not-takes
invariant_of-self-then-not-takes c = ready_without _ _ _ c.self.invariant _ _ c.in-Some.ensures.items

pub invariant_of-self-2 : goal.invariant_of-self-2
invariant_of-self-2 c =
    let steps = steps_of c.self.inside.core c.in-Some.lane c.release.result in
    let long : length c.take_answer.new.log.items ≡ length c.clear.new.self.items + length steps = ap length c.take_answer.ensures.logged ∙ length-append c.clear.new.self.items steps in
    ready_after _ _ _ (ready_without _ _ _ c.self.invariant _ _ c.in-Some.ensures.items) _ (vec_capacity c.take_answer.new.log) c.take_answer.ensures.shape (omega (arith, c.take_answer.ensures.room, long, c.clear.ensures.len, c.clear.ensures.capacity, c.take_answer.new.log.ok.0, c.take_answer.new.log.ok.1))
    (_, (c.take_answer.ensures.stands _ c.self.invariant.stands.1).1)
