use Rattle.std.proofs.Common.{◌∙◌, sym, ap, subst}
use Rattle.history_judge.specs.declared.seen.Deed.TheVariants.{Got}
use Rattle.history_reading.specs.Texts.{IsDeed}
use Rattle.history_reading.proofs.Deeds.{sent-only, got-only, sent-same}
use Rattle.history_reading.proofs.entry.deed_at.Goals as goal

pub returns-in_err-op-clause-only : goal.returns-in_err-op-clause-only
returns-in_err-op-clause-only c = λ d more is h.
    let s = sent-only c.args.text.now c.in-Some.rest.now c.in-Some.ensures.some d more h in
    absurd (c.in_err-op.ensures.only s.0.event.op s.0.event more s.2)

pub returns-in_err-event-clause-only : goal.returns-in_err-event-clause-only
returns-in_err-event-clause-only c = λ d more is h.
    let s = sent-only c.args.text.now c.in-Some.rest.now c.in-Some.ensures.some d more h in
    let o = c.in_ok-op.ensures.only s.0.event.op s.0.event more s.2 in
    absurd (c.in_err-event.ensures.only s.0.event more (subst IsDeed s.1 is) (sym o.0) o.1)

pub returns-in-Some-clause-only : goal.returns-in-Some-clause-only
returns-in-Some-clause-only c = λ d more is h.
    let s = sent-only c.args.text.now c.in-Some.rest.now c.in-Some.ensures.some d more h in
    let o = c.in_ok-op.ensures.only s.0.event.op s.0.event more s.2 in
    let e = c.in_ok-event.ensures.only s.0.event more (subst IsDeed s.1 is) (sym o.0) o.1 in
    (sent-same s.0 _ (c.of-event.ensures ∙ e.0) ∙ sym s.1, e.1)

pub returns-in_err-op-2-clause-only : goal.returns-in_err-op-2-clause-only
returns-in_err-op-2-clause-only c = λ d more is h.
    let g = got-only c.args.text.now c.in-Some-behind.rest.now c.in-Some-behind.ensures.some d more h in
    absurd (c.in_err-op-2.ensures.only g.0.op g.0 more g.2)

pub returns-in_err-event-2-clause-only : goal.returns-in_err-event-2-clause-only
returns-in_err-event-2-clause-only c = λ d more is h.
    let g = got-only c.args.text.now c.in-Some-behind.rest.now c.in-Some-behind.ensures.some d more h in
    let o = c.in_ok-op-2.ensures.only g.0.op g.0 more g.2 in
    absurd (c.in_err-event-2.ensures.only g.0 more (subst IsDeed g.1 is) (sym o.0) o.1)

pub returns-clause-only : goal.returns-clause-only
returns-clause-only c = λ d more is h.
    let g = got-only c.args.text.now c.in-Some-behind.rest.now c.in-Some-behind.ensures.some d more h in
    let o = c.in_ok-op-2.ensures.only g.0.op g.0 more g.2 in
    let e = c.in_ok-event-2.ensures.only g.0 more (subst IsDeed g.1 is) (sym o.0) o.1 in
    (ap Got e.0 ∙ sym g.1, e.1)
