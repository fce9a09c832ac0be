-- The oldest that are held are released, row by row.
use Rattle.std.proofs.Common.{◌≡◌, ◌≤◌, ◌∙◌, ◌+◌, ◌-◌, ◌%◌, ◌^◌, List, length, take, length-drop, replicate, refl, sym, ap, subst, arith}
use Rattle.credit_pool.specs.Pockets.{IsPocket}
use Rattle.evt_types.specs.declared.event.Reply.{Reply}
use Rattle.event_ports.specs.declared.flows.FlowLanes.{FlowLanes}
use Rattle.event_ports.specs.Flows.{hands_of}
use Rattle.event_ports.specs.Handed.{LanesSite, hand_of, mores_of, news_of, releases_of}
use Rattle.event_ports.specs.Lanes.{Releases, release_reply, reply_of}
use Rattle.event_ports.specs.Desks.{account_of, hand, own_site, pocket_of}
use Rattle.event_ports.proofs.OwnRows.{AreOwn, all_fewer, are_own, counted}
use Rattle.event_ports.proofs.Released.{at_lanes}
use Rattle.event_ports.proofs.ReleaseRows.{AllReleased, all_same, lanes_released, more_credits, paid_released}
use Rattle.event_ports.proofs.desk.Desk.release_rows.Goals as goal

pub loop-released-preserved : goal.loop-released-preserved
loop-released-preserved c =
    let was = c.loop-released.invariant in
    let self = c.loop-released.self in
    let row = c.own_row-row.result in
    let rs : List Reply = take row (replicate 8 (record { event = c.release.result })) in
    let len : length rs ≡ row = counted row (replicate 8 (record { event = c.release.result })) (omega (arith, c.own_row-row.ensures.within)) in
    let all : AllReleased rs =
    all_fewer (λ (r : Reply). r ≡ release_reply) row 8 (replicate 8 (record { event = c.release.result })) c.own_row-row.ensures.within (all_same 8 (record { event = c.release.result }) (ap reply_of c.release.ensures)) in
    let own : AreOwn (length rs) (hand self).holding =
    subst (λ k. AreOwn k (hand self).holding) (sym len) (are_own row (hand self).holding c.own_row-row.ensures.held c.own_row-row.ensures.own) in
    let more : row ≤ length (hand c.args.self.now).holding - c.loop-released.released = omega (arith, c.own_row-row.ensures.held, ap length was.2.holding, length-drop c.loop-released.released (hand c.args.self.now).holding) in
    let site = ap (at_lanes (own_site self)) c.answer_row.ensures.site ∙ was.0 in
    let released = subst (λ k. Releases (c.loop-released.released + k) (hand c.args.self.now) (hand_of c.answer_row.new.self)) len
    (lanes_released rs c.loop-released.released (hand c.args.self.now) self.lanes c.answer_row.new.self all own was.2 c.answer_row.ensures) in
    let pocket = more_credits (pocket_of c.args.self.now) c.loop-released.released row (pocket_of self) _ was.3 refl in
    let seat = ap (λ (f : FlowLanes). (hands_of f).view) c.answer_row.ensures.flows ∙ was.5 in
    (site, was.1, released, pocket, omega (arith, more, was.4), seat)

pub invariant_of-self : goal.invariant_of-self
invariant_of-self c =
    let self = c.loop-released.self in
    let row = c.own_row-row.result in
    let lanes = c.answer_row.new.self in
    let rs : List Reply = take row (replicate 8 (record { event = c.release.result })) in
    let len : length rs ≡ row = counted row (replicate 8 (record { event = c.release.result })) (omega (arith, c.own_row-row.ensures.within)) in
    let all : AllReleased rs =
    all_fewer (λ (r : Reply). r ≡ release_reply) row 8 (replicate 8 (record { event = c.release.result })) c.own_row-row.ensures.within (all_same 8 (record { event = c.release.result }) (ap reply_of c.release.ensures)) in
    let own : AreOwn (length rs) (hand self).holding =
    subst (λ k. AreOwn k (hand self).holding) (sym len) (are_own row (hand self).holding c.own_row-row.ensures.held c.own_row-row.ensures.own) in
    record {
      seat_of = self.seat_of;
      unset = self.unset;
      quantum_fits = self.quantum_fits;
      numbered = ap (λ (l : LanesSite). l.flows.port) c.answer_row.ensures.site ∙ self.numbered;
      paid =
          subst (λ n. IsPocket ((self.pocket + n) % 2 ^ 64) ((account_of self).drawn + releases_of lanes) ((account_of self).returned + news_of lanes + mores_of lanes)) len
          (paid_released rs self.lanes lanes self.pocket (account_of self).drawn (account_of self).returned all own (omega (arith, len, c.own_row-row.ensures.room)) c.answer_row.ensures self.paid);
    }
