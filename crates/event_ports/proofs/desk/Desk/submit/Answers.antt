-- Of a NEW the look at the credits changes nothing that was submitted.
use Rattle.std.proofs.Common.{rules, ◌≡◌, ap, sym, subst, ◌∙◌, arith, ◌<◌, ◌≤◌, inl, refl}
use Rattle.evt_types.specs.Operation.{costs_credit, is_answer_op}
use Rattle.evt_types.specs.declared.event.Op.{Op}
use Rattle.std.proofs.lemmas.Bool.{false≢true}
use Rattle.evt_types.specs.declared.event.Op.TheVariants as ops
use Rattle.credit_pool.specs.Accounts.{IsOpen}
use Rattle.event_ports.specs.Desks.{DeskSite, Pays, own_site, account_of, hand}
use Rattle.event_ports.specs.Handed.{LanesSite, hand_of}
use Rattle.event_ports.specs.Lanes.{SubmitsTo, first_lane, lane_for, reply_of}
use Rattle.event_ports.specs.declared.lanes.Lanes.{Lanes}
use Rattle.event_ports.proofs.Adding.{counts_forward, paid_release, paid_same}
use Rattle.event_ports.proofs.Released.{at_lanes}
use Rattle.event_ports.proofs.Refusing.{forward_alone, names_taken, new_told, not_more, not_release, pays_new, refuses_answer, refuses_new, stays_more, submitted_after}
use Rattle.event_ports.proofs.desk.Desk.submit.Goals as goal

pub returns-then-is_new-clause-pays : goal.returns-then-is_new-clause-pays
returns-then-is_new-clause-pays c =
    let was_open : IsOpen (account_of c.shut_seen.new.self).last = c.shut_seen.ensures.read (search rules) in
    pays_new c.args.self.now c.shut_seen.new.self c.shut_seen.ensures.site c.shut_seen.ensures.same.1 c.shut_seen.ensures.looked.0 was_open c.spend.new.self c.args.event.now.op c.spend.result
    (new_told _ (sym c.is_new.ensures ∙ c.if-is_new.true)) c.spend.ensures.pays

pub returns-then-is_new-clause-refused : goal.returns-then-is_new-clause-refused
returns-then-is_new-clause-refused c =
    let was_open : IsOpen (account_of c.shut_seen.new.self).last = c.shut_seen.ensures.read (search rules) in
    let within : c.args.event.now.queue < (own_site c.args.self.now).queues = omega (arith, c.if-from-self.false, c.from.ensures, c.queue.ensures, ap (λ (p : DeskSite). p.queues) c.shut_seen.ensures.site) in
    refuses_new c.args.self.now c.shut_seen.new.self c.shut_seen.ensures.site c.shut_seen.ensures.same.1 c.shut_seen.ensures.looked.0 was_open c.spend.new.self c.args.event.now c.spend.result
    (new_told _ (sym c.is_new.ensures ∙ c.if-is_new.true)) within c.shut_seen.ensures.credit.limit c.spend.ensures.refused

pub returns-then-is_new-clause-there : goal.returns-then-is_new-clause-there
returns-then-is_new-clause-there c =
    let within : c.args.event.now.queue < (own_site c.args.self.now).queues = omega (arith, c.if-from-self.false, c.from.ensures, c.queue.ensures, ap (λ (p : DeskSite). p.queues) c.shut_seen.ensures.site) in
    names_taken (own_site c.args.self.now).queues c.args.event.now c.spend.result within

pub returns-in-Ok-clause-there : goal.returns-in-Ok-clause-there
returns-in-Ok-clause-there c _ = omega (arith, c.if-from-self-2.false, c.from-in-Forward.ensures, c.queue-in-Forward.ensures)

pub returns-in-Ok-answer-clause-there : goal.returns-in-Ok-answer-clause-there
returns-in-Ok-answer-clause-there c other = absurd (other (sym c.op.ensures ∙ c.in-Release.is))

pub returns-then-shut_seen-clause-refused : goal.returns-then-shut_seen-clause-refused
returns-then-shut_seen-clause-refused c =
    let new : c.args.event.now.op ≡ ops.New = new_told _ (sym c.is_new.ensures ∙ c.if-is_new.true) in
    let looked = c.shut_seen.ensures.looked in
    (ap costs_credit new, c.shut_seen.ensures.seen.0 c.if-shut_seen.true, c.shut_seen.ensures.same.1, (λ _. inl (looked.0, looked.1 c.if-shut_seen.true)), (λ more. absurd (not_more _ new more)))

pub returns-then-from-self-clause-refused : goal.returns-then-from-self-clause-refused
returns-then-from-self-clause-refused c =
    let new : c.args.event.now.op ≡ ops.New = new_told _ (sym c.is_new.ensures ∙ c.if-is_new.true) in
    let was_open : IsOpen (account_of c.shut_seen.new.self).last = c.shut_seen.ensures.read (search rules) in
    let past : (own_site c.args.self.now).queues ≤ c.args.event.now.queue = omega (arith, c.if-from-self.true, c.from.ensures, c.queue.ensures, ap (λ (p : DeskSite). p.queues) c.shut_seen.ensures.site) in
    ((λ released. not_release _ new released), past, (λ _. was_open), c.shut_seen.ensures.same.1, (λ _. c.shut_seen.ensures.looked.0), (λ other. absurd (other new)))

pub returns-then-is_new-clause-site : goal.returns-then-is_new-clause-site
returns-then-is_new-clause-site c = c.spend.ensures.site ∙ c.shut_seen.ensures.site

pub returns-then-is_new-clause-credit : goal.returns-then-is_new-clause-credit
returns-then-is_new-clause-credit c =
    stays_more (account_of c.args.self.now) (account_of c.shut_seen.new.self) (account_of c.spend.new.self) c.shut_seen.ensures.credit c.spend.ensures.credit

pub returns-then-is_new-clause-submitted : goal.returns-then-is_new-clause-submitted
returns-then-is_new-clause-submitted c =
    submitted_after c.spend.result c.args.event.now.op (reply_of c.args.event.now) (hand c.args.self.now) (hand c.shut_seen.new.self) (hand c.spend.new.self) c.shut_seen.ensures.same.0 c.spend.ensures.submitted

pub returns-then-from-self-2-clause-refused : goal.returns-then-from-self-2-clause-refused
returns-then-from-self-2-clause-refused c =
    let forward : c.args.event.now.op ≡ ops.Forward = sym c.op.ensures ∙ c.in-Forward.is in
    let past : (own_site c.args.self.now).queues ≤ c.args.event.now.queue = omega (arith, c.if-from-self-2.true, c.from-in-Forward.ensures, c.queue-in-Forward.ensures) in (
      (λ released. forward_alone _ ops.Release (λ e. absurd (cc)) forward released),
      past,
      (λ new. absurd (forward_alone _ ops.New (λ e. absurd (cc)) forward new)),
      (refl, (refl, refl)),
      (λ new. absurd (forward_alone _ ops.New (λ e. absurd (cc)) forward new)),
      (λ _. refl),
    )

pub invariant_of-self-clause-numbered : goal.invariant_of-self-clause-numbered
invariant_of-self-clause-numbered c = ap (λ (p : LanesSite). p.flows.port) c.answer.ensures.site ∙ c.args.self.now.numbered

pub invariant_of-self-clause-paid : goal.invariant_of-self-clause-paid
invariant_of-self-clause-paid c =
    let was = c.args.self.now in
    let forward : c.args.event.now.op ≡ ops.Forward = sym c.op.ensures ∙ c.in-Forward.is in
    paid_same was.lanes c.answer.new.self was.pocket (account_of was).drawn (account_of was).returned (counts_forward was.lanes c.answer.new.self (reply_of c.args.event.now) c.answer.result forward c.answer.ensures.counts) was.paid

pub invariant_of-self-in-Ok-answer-clause-numbered : goal.invariant_of-self-in-Ok-answer-clause-numbered
invariant_of-self-in-Ok-answer-clause-numbered c = ap (λ (p : LanesSite). p.flows.port) c.answer-in-Release.ensures.site ∙ c.args.self.now.numbered

pub returns-in-Ok-clause-site : goal.returns-in-Ok-clause-site
returns-in-Ok-clause-site c = ap (at_lanes (own_site c.args.self.now)) c.answer.ensures.site

pub returns-in-Err-clause-site : goal.returns-in-Err-clause-site
returns-in-Err-clause-site c = ap (at_lanes (own_site c.args.self.now)) c.answer.ensures.site

pub returns-in-Ok-answer-clause-site : goal.returns-in-Ok-answer-clause-site
returns-in-Ok-answer-clause-site c = c.return_spare.ensures.site ∙ ap (at_lanes (own_site c.args.self.now)) c.answer-in-Release.ensures.site

pub returns-in-Err-answer-clause-site : goal.returns-in-Err-answer-clause-site
returns-in-Err-answer-clause-site c = ap (at_lanes (own_site c.args.self.now)) c.answer-in-Release.ensures.site

pub returns-in-Ok-clause-submitted : goal.returns-in-Ok-clause-submitted
returns-in-Ok-clause-submitted c =
    let forward : c.args.event.now.op ≡ ops.Forward = sym c.op.ensures ∙ c.in-Forward.is in
    subst (λ o. SubmitsTo (lane_for o (hand c.args.self.now).holding) (reply_of c.args.event.now) (hand c.args.self.now) (hand_of c.answer.new.self)) (sym forward) c.in-Ok.ensures.submitted

pub returns-in-Ok-answer-clause-submitted : goal.returns-in-Ok-answer-clause-submitted
returns-in-Ok-answer-clause-submitted c =
    let was = c.args.self.now in
    let release : c.args.event.now.op ≡ ops.Release = sym c.op.ensures ∙ c.in-Release.is in
    subst (λ o. SubmitsTo (lane_for o (hand was).holding) (reply_of c.args.event.now) (hand was) (hand c.return_spare.new.self)) (sym release)
    (subst (λ (l : Lanes). SubmitsTo (first_lane (hand was).holding) (reply_of c.args.event.now) (hand was) (hand_of l)) (sym c.return_spare.ensures.lanes) c.in-Ok-answer.ensures.submitted)

pub returns-in-Ok-answer-clause-pays : goal.returns-in-Ok-answer-clause-pays
returns-in-Ok-answer-clause-pays c =
    let release : c.args.event.now.op ≡ ops.Release = sym c.op.ensures ∙ c.in-Release.is in
    subst (λ (o : Op). Pays o c.args.self.now c.return_spare.new.self) (sym release) c.return_spare.ensures.returned_spare

pub returns-in-Err-clause-refused : goal.returns-in-Err-clause-refused
returns-in-Err-clause-refused c =
    let forward : c.args.event.now.op ≡ ops.Forward = sym c.op.ensures ∙ c.in-Forward.is in
    refuses_answer c.args.self.now _ c.args.event.now c.in-Err.refusal c.refused_by.result (ap is_answer_op forward) c.refused_by.ensures
    (λ _. omega (arith, c.if-from-self-2.false, c.from-in-Forward.ensures, c.queue-in-Forward.ensures)) (refl, (refl, refl)) refl c.in-Err.ensures.submitted.holding c.in-Err.ensures.refused

pub returns-in-Err-answer-clause-refused : goal.returns-in-Err-answer-clause-refused
returns-in-Err-answer-clause-refused c =
    let release : c.args.event.now.op ≡ ops.Release = sym c.op.ensures ∙ c.in-Release.is in
    refuses_answer c.args.self.now _ c.args.event.now c.in-Err-answer.refusal c.refused_by-in-Err-answer.result (ap is_answer_op release) c.refused_by-in-Err-answer.ensures
    (λ other. absurd (other release)) (refl, (refl, refl)) refl c.in-Err-answer.ensures.submitted.holding c.in-Err-answer.ensures.refused

pub invariant_of-self-in-Ok-answer-clause-paid : goal.invariant_of-self-in-Ok-answer-clause-paid
invariant_of-self-in-Ok-answer-clause-paid c =
    let was = c.args.self.now in
    let release : c.args.event.now.op ≡ ops.Release = sym c.op.ensures ∙ c.in-Release.is in
    paid_release was.lanes c.answer-in-Release.new.self (reply_of c.args.event.now) was.pocket (account_of was).drawn (account_of was).returned release c.in-Ok-answer.ensures.counts was.paid

pub returns-then-is_new-clause-stopped : goal.returns-then-is_new-clause-stopped
returns-then-is_new-clause-stopped c saw new = absurd (false≢true (sym c.if-shut_seen.false ∙ c.shut_seen.ensures.seen.1 (c.shut_seen.ensures.credit.saw_shut saw)))
