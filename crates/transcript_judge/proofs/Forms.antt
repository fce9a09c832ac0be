-- The test of a step's form tells whether it is formed.
use Rattle.std.proofs.Common.{◌≡◌, ℕ, true, false, ◌&&◌, ◌||◌, ◌==◌, nat_lt, length, refl, sym, ap, ◌∙◌}
use Rattle.std.proofs.lemmas.Bool.{and_from, and_parts, eq-eqb, eqb-true, false≢true, lt-ltb, ltb-true}
use Rattle.evt_types.specs.Operation.{is_more_op, is_new_op, passes_on}
use Rattle.evt_types.specs.Plan.{Plan, lanes_of}
use Rattle.evt_types.specs.declared.event.Event.{Event}
use Rattle.evt_types.specs.declared.event.Op.{Op}
use Rattle.evt_types.specs.declared.event.Op.TheVariants as ops
use Rattle.evt_types.specs.declared.step.Outcome.{Outcome}
use Rattle.evt_types.specs.declared.step.Outcome.TheVariants.{Forwarded, Released}
use Rattle.evt_types.specs.declared.step.Source.TheVariants.{New, Of}
use Rattle.evt_types.specs.declared.step.Step.{Step}
use Rattle.evt_types.specs.declared.step.Step.TheVariants.{Accept, Give, Done, More, Turned, Bounced, Shut}
use Rattle.transcripts.specs.Lawful.{IsEntry, IsFormed, IsOutcome}
use Rattle.transcript_judge.specs.Formed.{formed, formed_outcome, is_entry, is_forward_op}

new_op : (o : Op) → is_new_op o ≡ true → o ≡ ops.New
new_op ops.New h = refl
new_op ops.Forward h = absurd (false≢true h)
new_op ops.Release h = absurd (false≢true h)
new_op ops.ForwardMore h = absurd (false≢true h)

forward_op : (o : Op) → is_forward_op o ≡ true → o ≡ ops.Forward
forward_op ops.Forward h = refl
forward_op ops.New h = absurd (false≢true h)
forward_op ops.Release h = absurd (false≢true h)
forward_op ops.ForwardMore h = absurd (false≢true h)

more_op : (o : Op) → is_more_op o ≡ true → o ≡ ops.ForwardMore
more_op ops.ForwardMore h = refl
more_op ops.New h = absurd (false≢true h)
more_op ops.Forward h = absurd (false≢true h)
more_op ops.Release h = absurd (false≢true h)

is_new : (o : Op) → o ≡ ops.New → is_new_op o ≡ true
is_new o h = ap is_new_op h

is_forward : (o : Op) → o ≡ ops.Forward → is_forward_op o ≡ true
is_forward o h = ap is_forward_op h

is_more : (o : Op) → o ≡ ops.ForwardMore → is_more_op o ≡ true
is_more o h = ap is_more_op h

passes : (o : Op) → (is_forward_op o || is_more_op o) ≡ passes_on o
passes ops.New = refl
passes ops.Forward = refl
passes ops.Release = refl
passes ops.ForwardMore = refl

entry_yes : (p : Plan) (q : ℕ) (e : Event) → is_entry p q e ≡ true → IsEntry p q e
entry_yes p q e h =
    let parts = and_parts (nat_lt q (length p.queues)) (e.queue == q) h in
    record { queue = ltb-true q (length p.queues) parts.0; named = eqb-true e.queue q parts.1 }

entry_test : (p : Plan) (q : ℕ) (e : Event) → IsEntry p q e → is_entry p q e ≡ true
entry_test p q e h = and_from (nat_lt q (length p.queues)) (e.queue == q) (lt-ltb q (length p.queues) h.queue) (eq-eqb e.queue q h.named)

outcome_yes : (p : Plan) (o : Outcome) → formed_outcome p o ≡ true → IsOutcome p o
outcome_yes p (Forwarded e) h =
    let parts = and_parts (nat_lt e.queue (length p.queues)) (is_forward_op e.op) h in
    (ltb-true e.queue (length p.queues) parts.0, forward_op e.op parts.1)
outcome_yes p Released h = tt

outcome_test : (p : Plan) (o : Outcome) → IsOutcome p o → formed_outcome p o ≡ true
outcome_test p (Forwarded e) h =
    and_from (nat_lt e.queue (length p.queues)) (is_forward_op e.op) (lt-ltb e.queue (length p.queues) h.0) (is_forward e.op h.1)
outcome_test p Released h = refl

pub formed_yes : (p : Plan) (s : Step) → formed p s ≡ true → IsFormed p s
formed_yes p (Accept q e (New l)) h =
    let parts = and_parts (is_entry p q e && is_new_op e.op) (nat_lt l (length p.ports)) h in
    let front = and_parts (is_entry p q e) (is_new_op e.op) parts.0 in
    record { entry = entry_yes p q e front.0; operation = new_op e.op front.1; lane = ltb-true l (length p.ports) parts.1 }
formed_yes p (Accept q e (Of r n)) h =
    let parts = and_parts (is_entry p q e && (is_forward_op e.op || is_more_op e.op)) (nat_lt r (length p.queues)) h in
    let front = and_parts (is_entry p q e) (is_forward_op e.op || is_more_op e.op) parts.0 in
    record { entry = entry_yes p q e front.0; operation = sym (passes e.op) ∙ front.1; source = ltb-true r (length p.queues) parts.1 }
formed_yes p (Give l q n) h =
    let parts = and_parts (nat_lt l (lanes_of p)) (nat_lt q (length p.queues)) h in
    record { lane = ltb-true l (lanes_of p) parts.0; queue = ltb-true q (length p.queues) parts.1 }
formed_yes p (Done l o) h =
    let parts = and_parts (nat_lt l (lanes_of p)) (formed_outcome p o) h in (ltb-true l (lanes_of p) parts.0, outcome_yes p o parts.1)
formed_yes p (More l e) h =
    let parts = and_parts (nat_lt l (lanes_of p) && nat_lt e.queue (length p.queues)) (is_more_op e.op) h in
    let front = and_parts (nat_lt l (lanes_of p)) (nat_lt e.queue (length p.queues)) parts.0 in
    (ltb-true l (lanes_of p) front.0, (ltb-true e.queue (length p.queues) front.1, more_op e.op parts.1))
formed_yes p (Turned l e) h =
    let parts = and_parts (nat_lt l (length p.ports) && nat_lt e.queue (length p.queues)) (is_new_op e.op) h in
    let front = and_parts (nat_lt l (length p.ports)) (nat_lt e.queue (length p.queues)) parts.0 in
    record { queue = ltb-true e.queue (length p.queues) front.1; operation = new_op e.op parts.1; lane = ltb-true l (length p.ports) front.0 }
formed_yes p (Bounced l) h = ltb-true l (lanes_of p) h
formed_yes p Shut h = tt

pub formed_test : (p : Plan) (s : Step) → IsFormed p s → formed p s ≡ true
formed_test p (Accept q e (New l)) h =
    and_from (is_entry p q e && is_new_op e.op) (nat_lt l (length p.ports))
    (and_from (is_entry p q e) (is_new_op e.op) (entry_test p q e h.entry) (is_new e.op h.operation)) (lt-ltb l (length p.ports) h.lane)
formed_test p (Accept q e (Of r n)) h =
    and_from (is_entry p q e && (is_forward_op e.op || is_more_op e.op)) (nat_lt r (length p.queues))
    (and_from (is_entry p q e) (is_forward_op e.op || is_more_op e.op) (entry_test p q e h.entry) (passes e.op ∙ h.operation))
    (lt-ltb r (length p.queues) h.source)
formed_test p (Give l q n) h = and_from (nat_lt l (lanes_of p)) (nat_lt q (length p.queues)) (lt-ltb l (lanes_of p) h.lane) (lt-ltb q (length p.queues) h.queue)
formed_test p (Done l o) h = and_from (nat_lt l (lanes_of p)) (formed_outcome p o) (lt-ltb l (lanes_of p) h.0) (outcome_test p o h.1)
formed_test p (More l e) h =
    and_from (nat_lt l (lanes_of p) && nat_lt e.queue (length p.queues)) (is_more_op e.op)
    (and_from (nat_lt l (lanes_of p)) (nat_lt e.queue (length p.queues)) (lt-ltb l (lanes_of p) h.0) (lt-ltb e.queue (length p.queues) h.1.0))
    (is_more e.op h.1.1)
formed_test p (Turned l e) h =
    and_from (nat_lt l (length p.ports) && nat_lt e.queue (length p.queues)) (is_new_op e.op)
    (and_from (nat_lt l (length p.ports)) (nat_lt e.queue (length p.queues)) (lt-ltb l (length p.ports) h.lane) (lt-ltb e.queue (length p.queues) h.queue))
    (is_new e.op h.operation)
formed_test p (Bounced l) h = lt-ltb l (lanes_of p) h
formed_test p Shut h = refl

pub formed_no : (p : Plan) (s : Step) → formed p s ≡ false → ¬ IsFormed p s
formed_no p s fails h = false≢true (sym fails ∙ formed_test p s h)
