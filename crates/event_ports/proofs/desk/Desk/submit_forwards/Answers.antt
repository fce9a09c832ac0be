-- The row is what its single calls come to, and brings no credit.
use Rattle.std.proofs.Common.{◌≡◌, ◌≤◌, ◌+◌, length, take, refl, ap, ◌∙◌, sym, subst, arith}
use Rattle.credit_pool.specs.Pockets.{IsPocket}
use Rattle.event_ports.specs.Handed.{LanesSite, mores_of, news_of, releases_of}
use Rattle.event_ports.specs.Desks.{account_of, own_site, pocket_of}
use Rattle.event_ports.proofs.Bursts.{events_taken}
use Rattle.event_ports.proofs.OwnRows.{MayRow, answers_row, brought, counted, forwards_bring, may_forward, row_paid}
use Rattle.event_ports.proofs.Released.{at_lanes}
use Rattle.event_ports.proofs.desk.Desk.submit_forwards.Goals as goal

pub invariant_of-self : goal.invariant_of-self
invariant_of-self c =
    let was = c.args.self.now in
    let lanes = c.answer_row.new.self in
    let count = c.count_forwards-count.result in
    let row = c.own_row-most.ensures in
    let fewer = c.count_forwards-count.ensures.within in
    let within : count ≤ length c.args.replies.now = omega (arith, row.within, fewer) in
    let may : MayRow (take count c.args.replies.now) was = may_forward was c.args.replies.now count c.own_row-most.result within fewer (record { held = row.held; own = row.own; room = row.room }) c.count_forwards-count.ensures.forwards in
    let none : pocket_of was + brought (take count c.args.replies.now) ≡ pocket_of was = omega (arith, forwards_bring (take count c.args.replies.now) was.queues c.count_forwards-count.ensures.forwards) in
    record {
      seat_of = was.seat_of;
      unset = was.unset;
      quantum_fits = was.quantum_fits;
      numbered = ap (λ (l : LanesSite). l.flows.port) c.answer_row.ensures.site ∙ was.numbered;
      paid =
          subst (λ n. IsPocket n ((account_of was).drawn + releases_of lanes) ((account_of was).returned + news_of lanes + mores_of lanes)) none
          (row_paid (take count c.args.replies.now) was lanes may c.answer_row.ensures);
    }

pub returns-clause-taken : goal.returns-clause-taken
returns-clause-taken c =
    let was = c.args.self.now in
    let count = c.count_forwards-count.result in
    let row = c.own_row-most.ensures in
    let fewer = c.count_forwards-count.ensures.within in
    let within : count ≤ length c.args.replies.now = omega (arith, row.within, fewer) in
    let none : pocket_of was + brought (take count c.args.replies.now) ≡ pocket_of was = omega (arith, forwards_bring (take count c.args.replies.now) was.queues c.count_forwards-count.ensures.forwards) in
    events_taken c.args.replies.now count was _
    (answers_row (take count c.args.replies.now) was _ (omega (arith, counted count c.args.replies.now within, c.if-count-eq0.false))
    (may_forward was c.args.replies.now count c.own_row-most.result within fewer (record { held = row.held; own = row.own; room = row.room }) c.count_forwards-count.ensures.forwards)
    (record { site = ap (at_lanes (own_site was)) c.answer_row.ensures.site; account = refl; pocket = sym none; lanes = c.answer_row.ensures }))
