use Rattle.std.proofs.Common.{rules, ◌+◌, ◌<◌, ◌++◌, Some, length, set, take, refl, ap, sym, subst, ◌∙◌, arith}
use Rattle.std.proofs.lemmas.List.{length-set}
use Rattle.std.proofs.lemmas.Option.{slice_get-get_or}
use Rattle.event_scheduler.specs.Scheduler.{Sight, taken_at}
use Rattle.event_scheduler.specs.Taking.{Takes, only, with_core, with_taken}
use Rattle.event_scheduler.proofs.Taking.{lane_more, run_next, run_none, takes_none, took}
use Rattle.transcripts.specs.Standing.{kept_in}
use Rattle.event_scheduler.proofs.take.take_each.Goals as goal

pub loop-taken-init : goal.loop-taken-init
loop-taken-init g c = (
  λ s within.
      subst (λ (x : Sight). Takes (only c.args.lane 0) 0 (with_core s c.args.core.now c.args.pocket.now c.args.accepted_new.now) (g.L.StepLog.steps c.args.log.now) (with_core x c.args.core.now c.args.pocket.now c.args.accepted_new.now) (g.L.StepLog.steps c.args.log.now))
      (sym (run_none s c.args.lane within)) (takes_none (only c.args.lane 0) (with_core s c.args.core.now c.args.pocket.now c.args.accepted_new.now) (g.L.StepLog.steps c.args.log.now)),
  refl,
  omega arith,
)

pub returns-then-not-takes-clause-refused : goal.returns-then-not-takes-clause-refused
returns-then-not-takes-clause-refused g c within = (c.index-replies-taken.result, slice_get-get_or c.args.replies.now c.loop-taken.taken c.index-replies-taken.result within ∙ ap Some (sym c.index-replies-taken.is), sym c.takes.ensures.value ∙ c.if-not-takes.true)

pub loop-taken-preserved : goal.loop-taken-preserved
loop-taken-preserved g c =
    let was = c.loop-taken.invariant in
    let event = c.index-replies-taken.result.event in (
      λ s within.
          let more = taken_at s c.args.lane ++ take c.loop-taken.taken c.args.replies.now in
          let inside : c.args.lane < length (set s.taken c.args.lane more) = omega (arith, within, length-set s.taken c.args.lane more) in
          subst (λ (x : Sight). Takes (only c.args.lane (c.loop-taken.taken + 1)) (c.loop-taken.taken + 1) (with_core s c.args.core.now c.args.pocket.now c.args.accepted_new.now) (g.L.StepLog.steps c.args.log.now) (with_core x c.take_one.new.core c.take_one.new.pocket c.take_one.new.accepted_new) (g.L.StepLog.steps c.take_one.new.log))
          (run_next s c.args.lane c.loop-taken.taken c.args.replies.now c.index-replies-taken.result within (omega (arith, c.loop-taken-test.true)) c.index-replies-taken.is)
          (lane_more c.args.lane c.loop-taken.taken 1 _ _ _ _ _ _ (was.0 s within)
          (took (with_taken s c.args.lane (take c.loop-taken.taken c.args.replies.now)) c.loop-taken.core c.take_one.new.core c.loop-taken.pocket c.loop-taken.accepted_new _ _ c.args.lane _ _ event _ _ inside (search rules) (search rules)
          c.take_one.ensures.view c.take_one.ensures.shape c.take_one.ensures.logged c.take_one.ensures.stands (search rules)
          refl refl c.take_one.ensures.pocket c.take_one.ensures.accepted)),
      c.take_one.ensures.shape ∙ was.1,
      omega (arith, was.2, c.takes.ensures.few, c.take_one.ensures.room, ap kept_in c.take_one.ensures.view),
    )
