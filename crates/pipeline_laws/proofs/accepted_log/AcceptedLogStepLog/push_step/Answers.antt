use Rattle.std.proofs.Common.{sym, ap, ◌∙◌, filter_map}
use Rattle.pipeline_laws.proofs.AcceptedEvents.{kept_more, kept_still}
use Rattle.pipeline_laws.specs.Past.{accepted_by_step}
use Rattle.pipeline_laws.proofs.accepted_log.AcceptedLogStepLog.push_step.Goals as goal
use Rattle.pipeline_laws.proofs.accepted_log.AcceptedLogStepLog.push_step.Goals.{in-Some, in_default}

pub invariant_of-self : goal.invariant_of-self
invariant_of-self c =
    let log = c.args.self.now in
    let all = ap (filter_map accepted_by_step) (sym c.push_step.ensures.steps) in
    elim c.match-accepted_by.branch [
      | in-Some w ↦
          let more = kept_more log.counted.seen.seen log.kept.items c.args.step w.in-Some.accepted (sym c.accepted_by.ensures ∙ w.in-Some.is) log.kept_is in
          record { kept_is = rw w.self-is (w.push_reserved.ensures.items ∙ (more ∙ all)) }
      | in_default w ↦
          let still = kept_still log.counted.seen.seen log.kept.items c.args.step (sym c.accepted_by.ensures ∙ w.in_default.is) log.kept_is in
          record { kept_is = rw w.self-is (still ∙ all) }
    ]
