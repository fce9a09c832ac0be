use Rattle.std.proofs.Common.{◌++◌, ◌==◌, ◌&&◌, not, length, sym, ap, ◌∙◌, subst, arith}
use Rattle.transcripts.specs.Standing.{after, accepts_from}
use Rattle.order_parts.specs.Reorder.{left}
use Rattle.lists.proofs.Lists.{eqb_other, eqb_same}
use Rattle.sched_core.proofs.Settling.{passed_some, room_for}
use Rattle.sched_core.specs.Settling.{IsPassedOn}
use Rattle.sched_core.proofs.state.Core.pass_all.Goals as goal

pub accept_all-requires-clause-room : goal.accept_all-requires-clause-room
accept_all-requires-clause-room g c =
    let x = left (c.in_ok-number.number, c.in_ok-number.events) in
    let room = room_for c.args.self.now c.args.queue _ x (omega (arith, c.requires.queue, c.facts.ensures.places)) (sym c.in_ok-number.ensures.value) c.requires.room in
    omega (arith, room, ap length c.as_slice.ensures.value)

pub returns-then-number-answered-clause-turn : goal.returns-then-number-answered-clause-turn
returns-then-number-answered-clause-turn g c =
    let x = left (c.in_ok-number.number, c.in_ok-number.events) in
    let accepted = c.accept_all.ensures.view ∙ ap (λ es. after c.leave.new.self (accepts_from c.args.queue c.in_ok-number.number es)) c.as_slice.ensures.value in
    let logged = c.accept_all.ensures.logged ∙ ap (λ es. (g.L.StepLog.steps c.args.log.now) ++ accepts_from c.args.queue c.in_ok-number.number es) c.as_slice.ensures.value in
    let mine = ap (λ n. c.in_ok-number.number == n) (sym c.if-number-answered.true) ∙ eqb_same c.in_ok-number.number in
    subst (IsPassedOn c.args.queue c.args.answered c.args.self.now (g.L.StepLog.steps c.args.log.now) c.accept_all.new.self (g.L.StepLog.steps c.accept_all.new.log)) (ap (λ b. b && not (length x.forwards == 0)) mine ∙ ap not (sym c.is_empty.ensures))
    (passed_some c.args.queue c.args.answered x c.args.self.now c.leave.new.self c.accept_all.new.self (g.L.StepLog.steps c.args.log.now) (g.L.StepLog.steps c.accept_all.new.log) (sym c.in_ok-number.ensures.value) c.leave.ensures.view accepted logged)

pub returns-else-number-answered-clause-turn : goal.returns-else-number-answered-clause-turn
returns-else-number-answered-clause-turn g c =
    let x = left (c.in_ok-number.number, c.in_ok-number.events) in
    let accepted = c.accept_all.ensures.view ∙ ap (λ es. after c.leave.new.self (accepts_from c.args.queue c.in_ok-number.number es)) c.as_slice.ensures.value in
    let logged = c.accept_all.ensures.logged ∙ ap (λ es. (g.L.StepLog.steps c.args.log.now) ++ accepts_from c.args.queue c.in_ok-number.number es) c.as_slice.ensures.value in
    let other = eqb_other c.in_ok-number.number c.args.answered c.if-number-answered.false in
    subst (IsPassedOn c.args.queue c.args.answered c.args.self.now (g.L.StepLog.steps c.args.log.now) c.accept_all.new.self (g.L.StepLog.steps c.accept_all.new.log)) (ap (λ b. b && not (length x.forwards == 0)) other ∙ sym other)
    (passed_some c.args.queue c.args.answered x c.args.self.now c.leave.new.self c.accept_all.new.self (g.L.StepLog.steps c.args.log.now) (g.L.StepLog.steps c.accept_all.new.log) (sym c.in_ok-number.ensures.value) c.leave.ensures.view accepted logged)
