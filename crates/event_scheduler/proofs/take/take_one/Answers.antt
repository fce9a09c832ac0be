use Rattle.std.proofs.Common.{◌+◌, ◌%◌, ◌^◌, ap, sym, ◌∙◌, arith}
use Rattle.event_scheduler.proofs.Taking.{entered_new}
use Rattle.event_scheduler.specs.Taking.{entered_as, turned_by}
use Rattle.event_scheduler.proofs.take.take_one.Goals as goal

pub returns-in-Turned-clause-pocket : goal.returns-in-Turned-clause-pocket
returns-in-Turned-clause-pocket g c = ap (λ t. (c.args.pocket.now + turned_by t) % 2 ^ 64) (sym c.in-Turned.is ∙ c.take_new.ensures.took)

pub returns-in-Turned-clause-accepted : goal.returns-in-Turned-clause-accepted
returns-in-Turned-clause-accepted g c =
    omega (arith, ap entered_as (sym c.in-Turned.is ∙ c.take_new.ensures.took) ∙ sym (entered_new _ _ (sym c.is_new.ensures ∙ c.if-not-is_new.false)))

pub returns-in-Accepted-clause-pocket : goal.returns-in-Accepted-clause-pocket
returns-in-Accepted-clause-pocket g c = omega (arith, ap turned_by (sym c.in-Accepted.is ∙ c.take_new.ensures.took))

pub returns-in-Accepted-clause-accepted : goal.returns-in-Accepted-clause-accepted
returns-in-Accepted-clause-accepted g c =
    ap (λ n. (c.args.accepted_new.now + n) % 2 ^ 64)
    (ap entered_as (sym c.in-Accepted.is ∙ c.take_new.ensures.took) ∙ sym (entered_new _ _ (sym c.is_new.ensures ∙ c.if-not-is_new.false)))
