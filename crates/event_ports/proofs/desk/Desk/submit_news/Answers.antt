-- The NEWs for which the device was found open were brought in.
use Rattle.std.proofs.Common.{◌≡◌, ◌+◌, ◌-◌, ◌∙◌, ℕ, length, length-take, take, ap, subst, arith, refl}
use Rattle.credit_pool.specs.Pockets.{IsPocket}
use Rattle.lane_rings.specs.Ends.{room_left}
use Rattle.event_ports.specs.declared.lanes.Lanes.{Lanes}
use Rattle.event_ports.specs.Handed.{BringsRow, LanesSite, mores_of, news_of, releases_of}
use Rattle.event_ports.specs.Desks.{account_of, pocket_of, own_site}
use Rattle.event_ports.specs.Rows.{LooksOver}
use Rattle.event_ports.proofs.NewRows.{all_new, looks_lanes, looks_pocket, none_brought, paid_row, row_brought}
use Rattle.event_ports.proofs.OwnRows.{counted}
use Rattle.event_ports.proofs.Released.{at_lanes}
use Rattle.event_ports.proofs.desk.Desk.submit_news.Goals as goal

pub returns-then-count-eq0-clause-chain : goal.returns-then-count-eq0-clause-chain
returns-then-count-eq0-clause-chain c =
    let count = c.look_for_news-count.result.0 in
    let over : LooksOver c.args.self.now c.args.replies.now 0 c.look_for_news-count.result.1 c.look_for_news-count.new.self =
    subst (λ n. LooksOver c.args.self.now c.args.replies.now n c.look_for_news-count.result.1 c.look_for_news-count.new.self) c.if-count-eq0.true c.look_for_news-count.ensures.looked in
    none_brought c.args.replies.now c.look_for_news-count.result.1 c.args.self.now c.look_for_news-count.new.self over

pub bring_row-requires-clause-news : goal.bring_row-requires-clause-news
bring_row-requires-clause-news c =
    let looked = c.look_for_news-count.ensures.looked in
    all_new (take c.look_for_news-count.result.0 c.args.replies.now) c.args.self.now looked.between looked.open_for

pub bring_row-requires-clause-room : goal.bring_row-requires-clause-room
bring_row-requires-clause-room c =
    let count = c.look_for_news-count.result.0 in
    let lanes = looks_lanes c.args.replies.now count c.look_for_news-count.result.1 c.args.self.now c.look_for_news-count.new.self c.look_for_news-count.ensures.looked in
    omega (arith, length-take count c.args.replies.now, c.look_for_news-count.ensures.within, c.min-most.ensures, c.known_room.ensures, ap {B = ℕ} (λ (l : Lanes). room_left l.own) lanes)

pub overflow_sub-self : goal.overflow_sub-self
overflow_sub-self c =
    let count = c.look_for_news-count.result.0 in
    omega (arith, c.look_for_news-count.ensures.within, c.min-most.ensures, c.min.ensures, looks_pocket c.args.replies.now count c.look_for_news-count.result.1 c.args.self.now c.look_for_news-count.new.self c.look_for_news-count.ensures.looked)

pub invariant_of-self : goal.invariant_of-self
invariant_of-self c =
    let was = c.look_for_news-count.new.self in
    let count = c.look_for_news-count.result.0 in
    let looked = c.look_for_news-count.ensures.looked in
    let len : length (take count c.args.replies.now) ≡ count = counted count c.args.replies.now (omega (arith, c.look_for_news-count.ensures.within, c.min-most.ensures, c.min.ensures)) in
    record {
      seat_of = was.seat_of;
      unset = was.unset;
      quantum_fits = was.quantum_fits;
      numbered = ap (λ (l : LanesSite). l.flows.port) c.bring_row.ensures.site ∙ was.numbered;
      paid =
          subst (λ n. IsPocket (was.pocket - n) ((account_of was).drawn + releases_of c.bring_row.new.self) ((account_of was).returned + news_of c.bring_row.new.self + mores_of c.bring_row.new.self)) len
          (paid_row (take count c.args.replies.now) was.lanes c.bring_row.new.self was.pocket (account_of was).drawn (account_of was).returned
          (all_new (take count c.args.replies.now) c.args.self.now looked.between looked.open_for)
          (omega (arith, len, c.look_for_news-count.ensures.within, c.min-most.ensures, c.known_room.ensures, ap {B = ℕ} (λ (l : Lanes). room_left l.own) (looks_lanes c.args.replies.now count c.look_for_news-count.result.1 c.args.self.now was looked)))
          (omega (arith, len, c.look_for_news-count.ensures.within, c.min-most.ensures, c.min.ensures, looks_pocket c.args.replies.now count c.look_for_news-count.result.1 c.args.self.now was looked))
          c.bring_row.ensures was.paid);
    }

pub returns-clause-chain : goal.returns-clause-chain
returns-clause-chain c =
    let was = c.look_for_news-count.new.self in
    let count = c.look_for_news-count.result.0 in
    let looked = c.look_for_news-count.ensures.looked in
    let len : length (take count c.args.replies.now) ≡ count = counted count c.args.replies.now (omega (arith, c.look_for_news-count.ensures.within, c.min-most.ensures, c.min.ensures)) in
    let lanes = looks_lanes c.args.replies.now count c.look_for_news-count.result.1 c.args.self.now was looked in
    let pocket = looks_pocket c.args.replies.now count c.look_for_news-count.result.1 c.args.self.now was looked in
    let spent : pocket_of was - count + length (take count c.args.replies.now) ≡ pocket_of c.args.self.now =
    omega (arith, len, pocket, c.look_for_news-count.ensures.within, c.min-most.ensures, c.min.ensures) in
    row_brought c.args.replies.now count c.args.self.now was _ (omega (arith, len, c.if-count-eq0.false))
    (omega (arith, len, c.look_for_news-count.ensures.within, c.min-most.ensures, c.known_room.ensures)) spent
    (ap (at_lanes (own_site was)) c.bring_row.ensures.site) refl c.look_for_news-count.result.1 looked
    (subst (λ (l : Lanes). BringsRow (take count c.args.replies.now) l c.bring_row.new.self) lanes c.bring_row.ensures)
