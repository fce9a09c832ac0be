use Rattle.std.proofs.Common.{rules, ◌≡◌, ◌∷◌, [], length, length-append, refl, sym, ◌∙◌, arith, None, Some}
use Rattle.evt_types.specs.declared.step.Step.{Step}
use Rattle.play_text.proofs.Counted.{Counts-none, Counts-fits}
use Rattle.log_reading.proofs.Begins.{shorter}
use Rattle.log_reading.proofs.Stepping.{read-none, read-step, read-all, open-none, line-none, bad-there, bad-no_log}
use Rattle.log_reading.proofs.steps.steps_of.Goals as goal

no_step : (s : Step) → None ≡ Some s → ⊥
no_step s e = cc

pub loop-rest-init : goal.loop-rest-init
loop-rest-init c = record {
  read = rw c.new-steps.ensures.items (read-none c.args.queues.now c.args.text.now c.in_ok-counts.counts.accepted.items (Counts-none _ _ c.in_ok-counts.ensures));
  line = rw c.new-steps.ensures.items (omega arith);
  fits = rw c.new-steps.ensures.items (omega arith);
}

pub returns-in_default-clause-err : goal.returns-in_default-clause-err
returns-in_default-clause-err c =
    let read = c.loop-rest.invariant.read in
    let on = c.is_end.ensures.no (search rules) in
    (length c.loop-rest.steps.items, bad-there _ _ _ _ _ read on (open-none _ _ _ (c.in_default.ensures.none refl)), omega (arith, c.loop-rest.invariant.line))

pub returns-in_default-clause-only : goal.returns-in_default-clause-only
returns-in_default-clause-only c = λ T all a.
    bad-no_log _ _ _ _ _ c.loop-rest.invariant.read (c.is_end.ensures.no (search rules)) (open-none _ _ _ (c.in_default.ensures.none refl)) T all a

pub step_at-requires-clause-fits : goal.step_at-requires-clause-fits
step_at-requires-clause-fits c = λ q.
    let less = shorter c.loop-rest.rest.now c.in-Some.said.now c.in-Some.behind.now c.in-Some.ensures.whole in
    Counts-fits _ _ _ c.loop-rest.invariant.read.counted (omega (arith, less, c.loop-rest.invariant.fits, c.requires)) q

pub returns-in_default-2-clause-err : goal.returns-in_default-2-clause-err
returns-in_default-2-clause-err c =
    let read = c.loop-rest.invariant.read in
    let on = c.is_end.ensures.no (search rules) in
    let none = line-none _ _ _ _ _ _ _ read c.in-Some.ensures.whole c.in-Some.ensures.line (λ r fits near same. no_step r (sym c.in_default-2.is ∙ c.in_ok-step.ensures.only r fits near same)) in
    (length c.loop-rest.steps.items, bad-there _ _ _ _ _ read on none, omega (arith, c.loop-rest.invariant.line))

pub returns-in_default-2-clause-only : goal.returns-in_default-2-clause-only
returns-in_default-2-clause-only c = λ T all a.
    let read = c.loop-rest.invariant.read in
    let none = line-none _ _ _ _ _ _ _ read c.in-Some.ensures.whole c.in-Some.ensures.line (λ r fits near same. no_step r (sym c.in_default-2.is ∙ c.in_ok-step.ensures.only r fits near same)) in
    bad-no_log _ _ _ _ _ read (c.is_end.ensures.no (search rules)) none T all a

pub loop-rest-preserved : goal.loop-rest-preserved
loop-rest-preserved c =
    let inv = c.loop-rest.invariant in
    let less = shorter c.loop-rest.rest.now c.in-Some.said.now c.in-Some.behind.now c.in-Some.ensures.whole in
    let more = length-append c.loop-rest.steps.items (c.in-Some-2.step ∷ []) in
    record {
      read = rw c.in_ok-push.ensures.items
          (read-step _ _ _ _ _ c.in-Some.said.now c.in-Some.behind.now c.in-Some-2.step c.step_at.new.counts.accepted.items inv.read (c.is_end.ensures.no (search rules)) c.in-Some.ensures.whole c.in-Some.ensures.line
          (rw c.in-Some-2.is at c.in_ok-step.ensures.there) (rw c.in-Some-2.is at c.in_ok-step.ensures.counted) (rw c.in-Some-2.is at c.in_ok-step.ensures.line)
          (λ r fits near same. sym c.in-Some-2.is ∙ c.in_ok-step.ensures.only r fits near same));
      line = rw c.in_ok-push.ensures.items (omega (arith, more, inv.line));
      fits = rw c.in_ok-push.ensures.items (omega (arith, more, less, inv.fits));
    }

pub returns-clause-only : goal.returns-clause-only
returns-clause-only c = λ T all a. read-all _ _ _ _ _ c.loop-rest.invariant.read (c.is_end.ensures.yes (search rules)) T all a
