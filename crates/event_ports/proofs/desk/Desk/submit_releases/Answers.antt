-- The row is what its single calls come to.
use Rattle.std.proofs.Common.{◌≡◌, ◌≤◌, ◌<◌, ◌+◌, ◌*◌, ◌^◌, length, take, refl, ap, ◌∙◌, sym, subst, arith}
use Rattle.credit_pool.specs.Pockets.{IsPocket}
use Rattle.event_ports.specs.Handed.{LanesSite, mores_of, news_of, releases_of}
use Rattle.event_ports.specs.Desks.{account_of, own_site, pocket_of}
use Rattle.event_ports.proofs.Bursts.{events_taken}
use Rattle.event_ports.proofs.OwnRows.{MayRow, answers_row, counted, may_release, releases_bring, row_paid}
use Rattle.event_ports.proofs.Released.{at_lanes}
use Rattle.event_ports.proofs.desk.Desk.submit_releases.Goals as goal

pub invariant_of-self : goal.invariant_of-self
invariant_of-self c =
    let was = c.args.self.now in
    let lanes = c.answer_row.new.self in
    let count = c.count_releases-count.result in
    let row = c.own_row.ensures in
    let fewer = c.count_releases-count.ensures.within in
    let within : count ≤ length c.args.replies.now = omega (arith, row.within, fewer, c.min-most.ensures) in
    let few : pocket_of was + count < 2 * (own_site was).quantum =
    omega (arith, row.within, fewer, c.min-most.ensures, c.saturating_sub.ensures, c.saturating_sub-spare.ensures, c.saturating_mul.ensures, c.if-count-eq0.false) in
    let fits : pocket_of was + count < 2 ^ 64 =
    omega (arith, row.within, fewer, c.min-most.ensures, c.saturating_sub.ensures, c.saturating_sub-spare.ensures, c.saturating_mul.ensures, c.if-count-eq0.false) in
    let may : MayRow (take count c.args.replies.now) was =
    may_release was c.args.replies.now count c.own_row.result within fewer (record { held = row.held; own = row.own; room = row.room }) c.count_releases-count.ensures.releases few fits in
    record {
      seat_of = was.seat_of;
      unset = was.unset;
      quantum_fits = was.quantum_fits;
      numbered = ap (λ (l : LanesSite). l.flows.port) c.answer_row.ensures.site ∙ was.numbered;
      paid =
          subst (λ n. IsPocket (was.pocket + n) ((account_of was).drawn + releases_of lanes) ((account_of was).returned + news_of lanes + mores_of lanes))
          (releases_bring (take count c.args.replies.now) c.count_releases-count.ensures.releases ∙ counted count c.args.replies.now within)
          (row_paid (take count c.args.replies.now) was lanes may c.answer_row.ensures);
    }

pub returns-clause-taken : goal.returns-clause-taken
returns-clause-taken c =
    let was = c.args.self.now in
    let count = c.count_releases-count.result in
    let row = c.own_row.ensures in
    let fewer = c.count_releases-count.ensures.within in
    let within : count ≤ length c.args.replies.now = omega (arith, row.within, fewer, c.min-most.ensures) in
    let len : length (take count c.args.replies.now) ≡ count = counted count c.args.replies.now within in
    let few : pocket_of was + count < 2 * (own_site was).quantum =
    omega (arith, row.within, fewer, c.min-most.ensures, c.saturating_sub.ensures, c.saturating_sub-spare.ensures, c.saturating_mul.ensures, c.if-count-eq0.false) in
    let fits : pocket_of was + count < 2 ^ 64 =
    omega (arith, row.within, fewer, c.min-most.ensures, c.saturating_sub.ensures, c.saturating_sub-spare.ensures, c.saturating_mul.ensures, c.if-count-eq0.false) in
    events_taken c.args.replies.now count was _
    (answers_row (take count c.args.replies.now) was _ (omega (arith, len, c.if-count-eq0.false))
    (may_release was c.args.replies.now count c.own_row.result within fewer (record { held = row.held; own = row.own; room = row.room }) c.count_releases-count.ensures.releases few fits)
    (record {
      site = ap (at_lanes (own_site was)) c.answer_row.ensures.site;
      account = refl;
      pocket = ap (λ n. pocket_of was + n) (sym (releases_bring (take count c.args.replies.now) c.count_releases-count.ensures.releases ∙ len));
      lanes = c.answer_row.ensures;
    }))
