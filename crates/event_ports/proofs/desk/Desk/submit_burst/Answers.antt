-- A row and an event more were taken, or refused.
use Rattle.std.proofs.Common.{rules, ◌≡◌, ◌∙◌, ◌-◌, ◌∷◌, length, drop, refl, sym, take}
use Rattle.event_ports.proofs.Refusing.{same_refusal}
use Rattle.event_ports.specs.Desks.{events_of}
use Rattle.event_ports.proofs.Chains.{all_chained, behind, chained, left_next, left_others, left_row, not_refused, one_chained, row_chained, row_ended, row_ended_before, stops_burst}
use Rattle.event_ports.proofs.desk.Desk.submit_burst.Goals as goal

pub returns-then-is_some-clause-chain : goal.returns-then-is_some-clause-chain
returns-then-is_some-clause-chain c =
    let left = c.loop-rest.rest.now in
    let n = c.submit_row-row.result.0 in
    let within = c.submit_row-row.ensures.within in
    row_ended c.args.replies.now left _ n c.loop-rest.invariant.0 within (behind n left within) c.args.self.now c.loop-rest.self c.submit_row-row.new.self c.submit_row-row.result.1
    (sym c.is_some.ensures ∙ c.if-is_some.true) c.loop-rest.invariant.1 c.submit_row-row.ensures.chain

pub returns-then-is_some-clause-all : goal.returns-then-is_some-clause-all
returns-then-is_some-clause-all c =
    let left = c.loop-rest.rest.now in
    let n = c.submit_row-row.result.0 in
    let within = c.submit_row-row.ensures.within in
    row_ended_before c.args.replies.now left _ n c.loop-rest.invariant.0 within (behind n left within) c.args.self.now c.loop-rest.self c.submit_row-row.new.self c.submit_row-row.result.1
    (sym c.is_some.ensures ∙ c.if-is_some.true) c.loop-rest.invariant.1 c.submit_row-row.ensures.chain

pub returns-in_default-clause-chain : goal.returns-in_default-clause-chain
returns-in_default-clause-chain c =
    let left = c.loop-rest.rest.now in
    let n = c.submit_row-row.result.0 in
    let within = c.submit_row-row.ensures.within in
    let row = chained (events_of left) n c.submit_row-row.result.1 c.loop-rest.self c.submit_row-row.new.self (not_refused _ (sym c.is_some.ensures ∙ c.if-is_some.false)) c.submit_row-row.ensures.chain in
    record {
      between = c.submit_row-row.new.self;
      taken =
          all_chained c.args.replies.now (take (length left - n) (drop n left)) c.args.self.now c.submit_row-row.new.self c.in_default.ensures.cases
          (row_chained c.args.replies.now left _ n c.loop-rest.invariant.0 within (behind n left within) c.args.self.now c.loop-rest.self c.submit_row-row.new.self c.loop-rest.invariant.1 row);
      ends = refl;
    }

pub returns-in-Err-clause-chain : goal.returns-in-Err-clause-chain
returns-in-Err-clause-chain c =
    let left = c.loop-rest.rest.now in
    let n = c.submit_row-row.result.0 in
    let within = c.submit_row-row.ensures.within in
    let row = chained (events_of left) n c.submit_row-row.result.1 c.loop-rest.self c.submit_row-row.new.self (not_refused _ (sym c.is_some.ensures ∙ c.if-is_some.false)) c.submit_row-row.ensures.chain in
    let first : take (length left - n) (drop n left) ≡ c.in-Some.reply.now ∷ c.in-Some.others.now = (search rules) in
    stops_burst (events_of c.args.replies.now) _ c.in-Some.reply.now.event _ c.args.self.now c.submit_row-row.new.self c.submit.new.self
    (row_chained c.args.replies.now left _ n c.loop-rest.invariant.0 within (behind n left within) c.args.self.now c.loop-rest.self c.submit_row-row.new.self c.loop-rest.invariant.1 row)
    (left_next c.args.replies.now (take (length left - n) (drop n left)) c.in-Some.others.now c.in-Some.reply.now (left_row c.args.replies.now left _ n c.loop-rest.invariant.0 within (behind n left within)) first)
    c.submit.ensures.site c.submit.ensures.credit c.in-Err.ensures.submitted c.in-Err.ensures.refused (λ saw new. same_refusal _ _ (c.in-Err.ensures.stopped saw new))

pub loop-rest-preserved : goal.loop-rest-preserved
loop-rest-preserved c =
    let left = c.loop-rest.rest.now in
    let n = c.submit_row-row.result.0 in
    let within = c.submit_row-row.ensures.within in
    let row = chained (events_of left) n c.submit_row-row.result.1 c.loop-rest.self c.submit_row-row.new.self (not_refused _ (sym c.is_some.ensures ∙ c.if-is_some.false)) c.submit_row-row.ensures.chain in
    let first : take (length left - n) (drop n left) ≡ c.in-Some.reply.now ∷ c.in-Some.others.now = (search rules) in
    let is_left = left_row c.args.replies.now left _ n c.loop-rest.invariant.0 within (behind n left within) in (
      left_others c.args.replies.now (take (length left - n) (drop n left)) c.in-Some.others.now c.in-Some.reply.now is_left first,
      one_chained c.args.replies.now (take (length left - n) (drop n left)) c.in-Some.others.now c.in-Some.reply.now is_left first c.args.self.now c.submit_row-row.new.self c.submit.new.self
          (row_chained c.args.replies.now left _ n c.loop-rest.invariant.0 within (behind n left within) c.args.self.now c.loop-rest.self c.submit_row-row.new.self c.loop-rest.invariant.1 row)
          (record {
            site = c.submit.ensures.site;
            credit = c.submit.ensures.credit;
            submitted = c.in_default-submit.ensures.submitted;
            pays = c.in_default-submit.ensures.pays;
            there = c.in_default-submit.ensures.there;
            unshut = (search rules);
          }),
    )
