use Rattle.std.proofs.Common.{◌∙◌, refl, sym, ap, drop, arith}
use Rattle.history_reading.proofs.Events.{same_event}
use Rattle.history_reading.proofs.event.event_at.Goals as goal

pub returns-in_err-sub_type-clause-only : goal.returns-in_err-sub_type-clause-only
returns-in_err-sub_type-clause-only c = λ e more is op h.
    let qe = c.in_ok-queue.ensures.only e.queue _ (omega (arith, is.fits.queue)) refl h in
    let fw = c.in_ok-flow.ensures.only e.flow _ (omega (arith, e.flow_fits)) refl qe.1 in
    absurd (c.in_err-sub_type.ensures.only e.sub_type _ (omega (arith, is.fits.sub_type)) refl fw.1)

pub returns-in_err-event_type-clause-only : goal.returns-in_err-event_type-clause-only
returns-in_err-event_type-clause-only c = λ e more is op h.
    let qe = c.in_ok-queue.ensures.only e.queue _ (omega (arith, is.fits.queue)) refl h in
    let fw = c.in_ok-flow.ensures.only e.flow _ (omega (arith, e.flow_fits)) refl qe.1 in
    let se = c.in_ok-sub_type.ensures.only e.sub_type _ (omega (arith, is.fits.sub_type)) refl fw.1 in
    absurd (c.in_err-event_type.ensures.only e.event_type _ (omega (arith, e.event_type_fits)) refl se.1)

pub returns-in_err-priority-clause-only : goal.returns-in_err-priority-clause-only
returns-in_err-priority-clause-only c = λ e more is op h.
    let qe = c.in_ok-queue.ensures.only e.queue _ (omega (arith, is.fits.queue)) refl h in
    let fw = c.in_ok-flow.ensures.only e.flow _ (omega (arith, e.flow_fits)) refl qe.1 in
    let se = c.in_ok-sub_type.ensures.only e.sub_type _ (omega (arith, is.fits.sub_type)) refl fw.1 in
    let ee = c.in_ok-event_type.ensures.only e.event_type _ (omega (arith, e.event_type_fits)) refl se.1 in
    absurd (c.in_err-priority.ensures.only e.priority _ (omega (arith, is.fits.priority)) refl ee.1)

pub returns-in_err-payload-clause-only : goal.returns-in_err-payload-clause-only
returns-in_err-payload-clause-only c = λ e more is op h.
    let qe = c.in_ok-queue.ensures.only e.queue _ (omega (arith, is.fits.queue)) refl h in
    let fw = c.in_ok-flow.ensures.only e.flow _ (omega (arith, e.flow_fits)) refl qe.1 in
    let se = c.in_ok-sub_type.ensures.only e.sub_type _ (omega (arith, is.fits.sub_type)) refl fw.1 in
    let ee = c.in_ok-event_type.ensures.only e.event_type _ (omega (arith, e.event_type_fits)) refl se.1 in
    let ry = c.in_ok-priority.ensures.only e.priority _ (omega (arith, is.fits.priority)) refl ee.1 in
    absurd (c.in_err-payload.ensures.only e.payload _ (omega (arith, is.payload)) refl ry.1)

pub returns-in_default-clause-only : goal.returns-in_default-clause-only
returns-in_default-clause-only c = λ e more is op h.
    let qe = c.in_ok-queue.ensures.only e.queue _ (omega (arith, is.fits.queue)) refl h in
    let fw = c.in_ok-flow.ensures.only e.flow _ (omega (arith, e.flow_fits)) refl qe.1 in
    let se = c.in_ok-sub_type.ensures.only e.sub_type _ (omega (arith, is.fits.sub_type)) refl fw.1 in
    let ee = c.in_ok-event_type.ensures.only e.event_type _ (omega (arith, e.event_type_fits)) refl se.1 in
    let ry = c.in_ok-priority.ensures.only e.priority _ (omega (arith, is.fits.priority)) refl ee.1 in
    let pd = c.in_ok-payload.ensures.only e.payload _ (omega (arith, is.payload)) refl ry.1 in
    absurd (c.in_default.ensures.none refl more pd.1)

pub returns-clause-only : goal.returns-clause-only
returns-clause-only c = λ e more is op h.
    let qe = c.in_ok-queue.ensures.only e.queue _ (omega (arith, is.fits.queue)) refl h in
    let fw = c.in_ok-flow.ensures.only e.flow _ (omega (arith, e.flow_fits)) refl qe.1 in
    let se = c.in_ok-sub_type.ensures.only e.sub_type _ (omega (arith, is.fits.sub_type)) refl fw.1 in
    let ee = c.in_ok-event_type.ensures.only e.event_type _ (omega (arith, e.event_type_fits)) refl se.1 in
    let ry = c.in_ok-priority.ensures.only e.priority _ (omega (arith, is.fits.priority)) refl ee.1 in
    let pd = c.in_ok-payload.ensures.only e.payload _ (omega (arith, is.payload)) refl ry.1 in
    (same_event _ e fw.0 se.0 ee.0 (sym op) qe.0 ry.0 (sym is.plain) pd.0, ap (drop 2) (sym c.in-Some.ensures.some ∙ pd.1))
