-- A row of NEWs: the port after each of them, as a value, and so their chain of single calls.
use Rattle.std.proofs.Common.{inl, ◌≡◌, ◌≢◌, ℕ, zero, suc, ◌+◌, ◌-◌, ◌<◌, ◌≤◌, true, IsTrue, All, List, [], ◌∷◌, ◌++◌, length, take, drop, Some, None, Option, slice_get, Ok, refl, sym, ap, ◌∙◌, subst, arith, append_assoc, append-nil}
use Rattle.lists.proofs.Parts.{take_next}
use Rattle.lists.specs.Counts.{count}
use Rattle.evt_types.specs.Operation.{costs_credit, is_more_op, is_new_op, is_new_reply, is_release_op}
use Rattle.evt_types.specs.declared.event.Event.{Event}
use Rattle.evt_types.specs.declared.event.Op.{Op}
use Rattle.evt_types.specs.declared.event.Op.TheVariants as ops
use Rattle.evt_types.specs.declared.event.Reply.{Reply}
use Rattle.credit_pool.specs.declared.account.Account.{Account}
use Rattle.credit_pool.specs.Accounts.{IsShut, Stays}
use Rattle.credit_pool.specs.Pockets.{IsPocket}
use Rattle.lane_rings.specs.Ends.{answered, received_by, room_left, unanswered}
use Rattle.lane_rings.specs.Identity.{far_id, LaneId}
use Rattle.lane_rings.specs.declared.far.Far.{Far}
use Rattle.lane_rings.proofs.Answering.{after_news, only_new, outlet_step, same_answers}
use Rattle.event_answers.specs.declared.answer.Refused.{Refused}
use Rattle.event_answers.specs.declared.answer.Refused.TheVariants.{Stopped}
use Rattle.event_ports.specs.declared.desk.Desk.{Desk}
use Rattle.event_ports.specs.declared.flows.FlowLanes.{FlowLanes}
use Rattle.event_ports.specs.declared.lane.Lane.TheVariants.{Own}
use Rattle.event_ports.specs.declared.lanes.Lanes.{Lanes}
use Rattle.event_ports.specs.Flows.{flow_site, hands_of}
use Rattle.event_ports.specs.Holds.{answered_on, received_on}
use Rattle.event_ports.specs.Handed.{BringsRow, CountsNone, CountsOne, LanesSite, hand_of, lanes_site, mores_of, news_of, releases_of}
use Rattle.event_ports.specs.Lanes.{Rests, SubmitsTo, lane_for, reply_of}
use Rattle.event_ports.specs.Desks.{DeskSite, own_site, account_of, events_of, hand, pocket_of, Bursts, Declines, Enqueues, EnqueuesAll, SameCredits}
use Rattle.event_ports.specs.Draws.{HasLooked}
use Rattle.event_ports.specs.Rows.{FindsAllOpen, FindsOpen, FindsShut, Looks, LooksLast, LooksOver}
use Rattle.event_ports.proofs.Adding.{counts_own, counts_same}
use Rattle.event_ports.proofs.Bursts.{events_taken, rests_same}
use Rattle.event_ports.proofs.Chains.{event_at}
use Rattle.event_ports.proofs.HeldIn.{still_held, still_ordered}
use Rattle.event_ports.proofs.Orders.{each_lane}
use Rattle.event_ports.proofs.Refusals.{new_answers_none}
use Rattle.event_ports.proofs.Refusing.{new_told, not_more, pays_new}
use Rattle.event_ports.proofs.Released.{at_lanes}

-- ---- the looks

finds_more : (rs : List Reply) (r : Reply) (p q m : Desk) → FindsAllOpen rs p q → FindsOpen r.event q m → FindsAllOpen (rs ++ r ∷ []) p m
finds_more [] r p q m same one = (m, subst (λ (d : Desk). FindsOpen r.event d m) same one, refl)
finds_more (x ∷ rs) r p q m (between, first, rest) one = (between, first, finds_more rs r between q m rest one)

pub finds_next : (rs : List Reply) (n : ℕ) (r : Reply) (p q m : Desk) → slice_get rs n ≡ Some r → FindsAllOpen (take n rs) p q → FindsOpen r.event q m → FindsAllOpen (take (n + 1) rs) p m
finds_next rs n r p q m at before one = subst (λ (xs : List Reply). FindsAllOpen xs p m) (sym (take_next rs n r at)) (finds_more (take n rs) r p q m before one)

-- each of these is a NEW
pub all_new : (rs : List Reply) (p q : Desk) → FindsAllOpen rs p q → All (λ (r : Reply). is_new_reply r ≡ true) rs
all_new [] p q found k d lt = absurd (omega (arith, lt))
all_new (r ∷ rs) p q (between, one, rest) zero d lt = ap is_new_op one.is_new
all_new (r ∷ rs) p q (between, one, rest) (suc k) d lt = all_new rs between q rest k d (omega (arith, lt))

-- the looks changed nothing else
pub found_site : (rs : List Reply) (p q : Desk) → FindsAllOpen rs p q → own_site q ≡ own_site p
found_site [] p q same = ap own_site same
found_site (r ∷ rs) p q (between, one, rest) = found_site rs between q rest ∙ one.look.site

pub found_pocket : (rs : List Reply) (p q : Desk) → FindsAllOpen rs p q → pocket_of q ≡ pocket_of p
found_pocket [] p q same = ap pocket_of same
found_pocket (r ∷ rs) p q (between, one, rest) = found_pocket rs between q rest ∙ one.look.pocket

pub found_lanes : (rs : List Reply) (p q : Desk) → FindsAllOpen rs p q → q.lanes ≡ p.lanes
found_lanes [] p q same = ap (λ (d : Desk). d.lanes) same
found_lanes (r ∷ rs) p q (between, one, rest) = found_lanes rs between q rest ∙ one.look.lanes

-- ---- the lanes after one NEW

lanes_step : (a : Lanes) (r : Reply) → is_new_reply r ≡ true → 0 < room_left a.own → (b : Lanes) × BringsRow (r ∷ []) a b × (room_left b.own + 1 ≡ room_left a.own)
lanes_step a r new room =
    let f : Far = a.own in
    let s = outlet_step f.replies r room in
    let g : Far = after_news f (r ∷ []) s.0 (only_new r new) s.2 in
    let left : unanswered g ≡ unanswered f = ap (λ n. drop n (received_by f)) (same_answers f (r ∷ []) s.0 (only_new r new) s.2) in
    let lane : far_id g ≡ far_id f =
    λ i. record { deliveries = (far_id f).deliveries; replies = record { words = s.1.0.0 i; slots = s.1.0.1 i; names = s.1.0.2 i; heap = s.1.0.3 i }; depth = (far_id f).depth; room = s.1.1 i } in (
      record {
        own = g;
        flows = a.flows;
        order = a.order;
        depth = (a.depth.0 ∙ sym (ap (λ (i : LaneId). i.depth) lane), a.depth.1);
        ordered = still_ordered f g (hands_of a.flows) a.order left a.ordered;
        gave_back = a.gave_back;
        no_new = a.no_new;
        added = a.added;
        idle = a.idle;
        noted = a.noted;
      },
      record { site = (λ i. record { own = lane i; flows = flow_site a.flows; depth = a.order.capacity }); flows = refl; got = refl; said = s.2; holding = still_held f g a.order left },
      s.3,
    )

-- what a NEW counts
one_counted : (a b : Lanes) (r : Reply) → BringsRow (r ∷ []) a b → CountsOne r a b
one_counted a b r row = counts_own {E = Unit {0}} a b r (Ok tt) row.flows row.said

-- and what it makes of the port
one_submitted : (a b : Lanes) (r : Reply) → r.event.op ≡ ops.New → BringsRow (r ∷ []) a b → SubmitsTo (lane_for r.event.op (hand_of a).holding) r (hand_of a) (hand_of b)
one_submitted a b r new row =
    subst (λ (o : Op). SubmitsTo (lane_for o (hand_of a).holding) r (hand_of a) (hand_of b)) (sym new)
    (record {
      said_here = row.said;
      said = each_lane (λ l. l ≢ Own → (hand_of b).said l ≡ (hand_of a).said l) (λ ne. absurd (ne refl)) (λ j ne. ap (λ (f : FlowLanes). answered_on (hands_of f) j) row.flows);
      got = each_lane (λ l. (hand_of b).got l ≡ (hand_of a).got l) row.got (λ j. ap (λ (f : FlowLanes). received_on (hands_of f) j) row.flows);
      holding = row.holding ∙ ap (λ n. drop n (hand_of a).holding) (sym (new_answers_none r (ap is_new_op new)));
    })

paid_one : (a b : Lanes) (r : Reply) (pocket drawn returned : ℕ) → r.event.op ≡ ops.New → 0 < pocket → CountsOne r a b → IsPocket pocket (drawn + releases_of a) (returned + news_of a + mores_of a)
    → IsPocket (pocket - 1) (drawn + releases_of b) (returned + news_of b + mores_of b)
paid_one a b r pocket drawn returned new some one paid =
    let news = ap (λ (o : Op). count (is_new_op o)) new in
    let more = ap (λ (o : Op). count (is_more_op o)) new in
    let released = ap (λ (o : Op). count (is_release_op o)) new in
    let same : returned + news_of b + mores_of b + (pocket - 1) ≡ returned + news_of a + mores_of a + pocket = omega (arith, one.news, one.mores, news, more, some) in
    let came : drawn + releases_of b ≡ drawn + releases_of a = omega (arith, one.releases, released) in
    (omega (arith, paid.0, same, came), omega (arith, paid.1, same, came))

-- ---- a desk that has other lanes and another pocket than this one

-- what these lanes and this pocket must be for that
pub record Fits (a : Desk) (lanes : Lanes) (pocket : ℕ) : Type 0 where
  pub site : lanes_site lanes ≡ lanes_site a.lanes
  pub numbered : (lanes_site lanes).flows.port ≡ a.number
  pub paid : IsPocket pocket ((account_of a).drawn + releases_of lanes) ((account_of a).returned + news_of lanes + mores_of lanes)

abbrev pub with_lanes : (a : Desk) (lanes : Lanes) (pocket : ℕ) → Fits a lanes pocket → Desk
with_lanes a lanes pocket fits = record {
  pool = a.pool;
  seat = a.seat;
  lanes = lanes;
  number = a.number;
  queues = a.queues;
  implicit = a.implicit;
  quantum = a.quantum;
  threshold = a.threshold;
  pocket = pocket;
  seat_of = a.seat_of;
  unset = a.unset;
  quantum_fits = a.quantum_fits;
  numbered = fits.numbered;
  paid = fits.paid;
}

-- after a look
pub fits_look : (a n : Desk) (lanes : Lanes) (pocket : ℕ) → Looks a n → Fits a lanes pocket → Fits n lanes pocket
fits_look a n lanes pocket look fits = record {
  site = fits.site ∙ sym (ap lanes_site look.lanes);
  numbered = fits.numbered ∙ sym (ap (λ (d : DeskSite). d.number) look.site);
  paid =
      subst (λ k. IsPocket pocket (k + releases_of lanes) ((account_of n).returned + news_of lanes + mores_of lanes)) (sym look.drawn)
      (subst (λ k. IsPocket pocket ((account_of a).drawn + releases_of lanes) (k + news_of lanes + mores_of lanes)) (sym look.returned) fits.paid);
}

-- and after one NEW
fits_new : (n : Desk) (a b : Lanes) (pocket : ℕ) (r : Reply) → r.event.op ≡ ops.New → 0 < pocket → BringsRow (r ∷ []) a b → Fits n a pocket → Fits n b (pocket - 1)
fits_new n a b pocket r new some row fits = record {
  site = row.site ∙ fits.site;
  numbered = ap (λ (l : LanesSite). l.flows.port) row.site ∙ fits.numbered;
  paid = paid_one a b r pocket (account_of n).drawn (account_of n).returned new some (one_counted a b r row) fits.paid;
}

-- what a NEW more makes of a port, the look for it and the way into the ring
module _ (a n : Desk) (e : Event) (found : FindsOpen e a n) (lanes : Lanes) (pocket : ℕ) (fits : Fits a lanes pocket) (some : 0 < pocket) where
  abbrev before : Desk
  before = with_lanes a lanes pocket fits

  abbrev looked : Desk
  looked = with_lanes n lanes pocket (fits_look a n lanes pocket found.look fits)

  pub one_new : (q : Desk) → own_site q ≡ own_site looked → account_of q ≡ account_of n → pocket_of q + 1 ≡ pocket → BringsRow (reply_of e ∷ []) lanes q.lanes → Enqueues e before q
  one_new q site account spent row =
      let same_site : own_site looked ≡ own_site before = ap (λ (d : DeskSite). at_lanes d (lanes_site lanes)) found.look.site in
      record {
        site = site ∙ same_site;
        credit = subst (λ (w : Account). Stays (account_of a) w) (sym account) found.look.credit;
        submitted = one_submitted lanes q.lanes (reply_of e) found.is_new row;
        pays =
            pays_new before looked same_site (refl, (found.look.drawn, found.look.returned)) found.look.looked found.was_open q e.op (Ok tt) found.is_new
            (record { of_pocket = λ _. (spent, account); of_pool = λ none. absurd (omega (arith, none, some)) });
        there = λ _. found.within;
        unshut = λ _ saw. found.unshut saw;
      }

rest_brought : (r : Reply) (rs : List Reply) (a b c : Lanes) → BringsRow (r ∷ []) a b → BringsRow (r ∷ rs) a c → BringsRow rs b c
rest_brought r rs a b c one row = record {
  site = row.site ∙ sym one.site;
  flows = row.flows ∙ sym one.flows;
  got = row.got ∙ sym one.got;
  said = row.said ∙ sym (append_assoc (answered a.own) (r ∷ []) rs) ∙ ap (λ xs. xs ++ rs) (sym one.said);
  holding = row.holding ∙ sym one.holding;
}

-- NEWs for which the device was found open went to the own lane, one after the other
pub news_chain : (r : Reply) (rs : List Reply) (a k : Desk) (lanes : Lanes) (pocket : ℕ) (fits : Fits a lanes pocket) (q : Desk) → FindsAllOpen (r ∷ rs) a k
    → length (r ∷ rs) ≤ room_left lanes.own → pocket_of q + length (r ∷ rs) ≡ pocket → own_site q ≡ own_site (with_lanes a lanes pocket fits) → account_of q ≡ account_of k
    → BringsRow (r ∷ rs) lanes q.lanes → EnqueuesAll (events_of (r ∷ rs)) (with_lanes a lanes pocket fits) q
news_chain r [] a k lanes pocket fits q (n, found, end) room spent site account row =
    let some : 0 < pocket = omega (arith, spent) in
    let look_site : own_site (looked a n r.event found lanes pocket fits some) ≡ own_site (with_lanes a lanes pocket fits) = ap (λ (d : DeskSite). at_lanes d (lanes_site lanes)) found.look.site in
    (q, one_new a n r.event found lanes pocket fits some q (site ∙ sym look_site) (account ∙ ap account_of end) (omega (arith, spent)) row, refl)
news_chain r (x ∷ rs) a k lanes pocket fits q (n, found, rest) room spent site account row =
    let some : 0 < pocket = omega (arith, spent) in
    let s = lanes_step lanes r (ap is_new_op found.is_new) (omega (arith, room)) in
    let after = fits_new n lanes s.0 pocket r found.is_new some s.1 (fits_look a n lanes pocket found.look fits) in
    let m : Desk = with_lanes n s.0 (pocket - 1) after in
    let m_site : own_site m ≡ own_site (looked a n r.event found lanes pocket fits some) = ap (at_lanes (own_site n)) s.1.site in
    let look_site : own_site (looked a n r.event found lanes pocket fits some) ≡ own_site (with_lanes a lanes pocket fits) = ap (λ (d : DeskSite). at_lanes d (lanes_site lanes)) found.look.site in (
      m,
      one_new a n r.event found lanes pocket fits some m m_site refl (omega (arith, some)) s.1,
      news_chain x rs n k s.0 (pocket - 1) after q rest (omega (arith, room, s.2)) (omega (arith, spent)) (site ∙ sym (m_site ∙ look_site)) account (rest_brought r (x ∷ rs) lanes s.0 q.lanes s.1 row),
    )

-- ---- what NEWs count, and what is paid for them

row_counts : (rs : List Reply) (a b : Lanes) → All (λ (r : Reply). is_new_reply r ≡ true) rs → length rs ≤ room_left a.own → BringsRow rs a b
    → (news_of b ≡ news_of a + length rs) × (mores_of b ≡ mores_of a) × (releases_of b ≡ releases_of a)
row_counts [] a b all room row =
    let none : CountsNone a b =
    counts_same a b (ap flow_site row.flows)
    (each_lane (λ l. (hand_of b).said l ≡ (hand_of a).said l) (row.said ∙ append-nil (answered a.own)) (λ j. ap (λ (f : FlowLanes). answered_on (hands_of f) j) row.flows)) in
    (omega (arith, none.news), none.mores, none.releases)
row_counts (r ∷ rs) a b all room row =
    let new : r.event.op ≡ ops.New = new_told r.event.op (all 0 r (omega arith)) in
    let s = lanes_step a r (all 0 r (omega arith)) (omega (arith, room)) in
    let one = one_counted a s.0 r s.1 in
    let rest = row_counts rs s.0 b (λ k d lt. all (suc k) d (omega (arith, lt))) (omega (arith, room, s.2)) (rest_brought r rs a s.0 b s.1 row) in
    let news = ap (λ (o : Op). count (is_new_op o)) new in
    let more = ap (λ (o : Op). count (is_more_op o)) new in
    let released = ap (λ (o : Op). count (is_release_op o)) new in
    (omega (arith, rest.0, one.news, news), omega (arith, rest.1, one.mores, more), omega (arith, rest.2, one.releases, released))

pub paid_row : (rs : List Reply) (a b : Lanes) (pocket drawn returned : ℕ) → All (λ (r : Reply). is_new_reply r ≡ true) rs → length rs ≤ room_left a.own → length rs ≤ pocket → BringsRow rs a b
    → IsPocket pocket (drawn + releases_of a) (returned + news_of a + mores_of a) → IsPocket (pocket - length rs) (drawn + releases_of b) (returned + news_of b + mores_of b)
paid_row rs a b pocket drawn returned all room few row paid =
    let counts = row_counts rs a b all room row in
    let same : returned + news_of b + mores_of b + (pocket - length rs) ≡ returned + news_of a + mores_of a + pocket = omega (arith, counts.0, counts.1, few) in
    let came : drawn + releases_of b ≡ drawn + releases_of a = omega (arith, counts.2) in
    (omega (arith, paid.0, same, came), omega (arith, paid.1, same, came))

-- ---- the looks and the row together

last_lanes : (end : Option Refused) (rs : List Reply) (n : ℕ) (p q : Desk) → LooksLast end rs n p q → q.lanes ≡ p.lanes
last_lanes None rs n p q same = ap (λ (d : Desk). d.lanes) same
last_lanes (Some x) rs n p q (r, at, found, is) = found.look.lanes

last_pocket : (end : Option Refused) (rs : List Reply) (n : ℕ) (p q : Desk) → LooksLast end rs n p q → pocket_of q ≡ pocket_of p
last_pocket None rs n p q same = ap pocket_of same
last_pocket (Some x) rs n p q (r, at, found, is) = found.look.pocket

last_site : (end : Option Refused) (rs : List Reply) (n : ℕ) (p q : Desk) → LooksLast end rs n p q → own_site q ≡ own_site p
last_site None rs n p q same = ap own_site same
last_site (Some x) rs n p q (r, at, found, is) = found.look.site

module _ (rs : List Reply) (n : ℕ) (end : Option Refused) (p k : Desk) (looks : LooksOver p rs n end k) where
  pub looks_lanes : k.lanes ≡ p.lanes
  looks_lanes = last_lanes end rs n looks.between k looks.last ∙ found_lanes (take n rs) p looks.between looks.open_for

  pub looks_pocket : pocket_of k ≡ pocket_of p
  looks_pocket = last_pocket end rs n looks.between k looks.last ∙ found_pocket (take n rs) p looks.between looks.open_for

-- a NEW was refused, since the look for it saw the device shut
declined : (e : Event) (p q : Desk) → e.op ≡ ops.New → own_site q ≡ own_site p → Stays (account_of p) (account_of q) → q.lanes ≡ p.lanes → SameCredits p q → HasLooked (account_of p) (account_of q)
    → IsTrue (account_of q).saw_shut → IsShut (account_of q).last → Declines e Stopped p q
declined e p q new site credit lanes same looked saw was_shut = record {
  site = site;
  credit = credit;
  rests = subst (λ (l : Lanes). Rests (hand p) (hand_of l)) (sym lanes) (rests_same (hand p));
  why = (ap costs_credit new, saw, same, (λ _. inl (looked, was_shut)), (λ more. absurd (not_more e.op new more)));
  stopped = λ _ _. refl;
}

-- where none was brought in
pub none_brought : (rs : List Reply) (end : Option Refused) (p k : Desk) → LooksOver p rs 0 end k → Bursts p (events_of rs) 0 end k
none_brought rs None p k looks = record { between = looks.between; taken = looks.open_for; ends = looks.last }
none_brought rs (Some x) p k looks =
    let found = looks.last.2 in
    let look = found.look in
    record {
      between = looks.between;
      taken = looks.open_for;
      ends = (
        looks.last.0.event,
        event_at rs 0 looks.last.0 looks.last.1,
        subst (λ (f : Refused). Declines looks.last.0.event f looks.between k) (sym looks.last.3)
            (declined looks.last.0.event looks.between k found.is_new look.site look.credit look.lanes (look.pocket, (look.drawn, look.returned)) look.looked found.seen found.was_shut),
      );
    }

some_taken : (rs : List Reply) (p k q : Desk) → 0 < length rs → FindsAllOpen rs p k → length rs ≤ room_left p.lanes.own → pocket_of q + length rs ≡ pocket_of p → own_site q ≡ own_site p
    → account_of q ≡ account_of k → BringsRow rs p.lanes q.lanes → EnqueuesAll (events_of rs) p q
some_taken [] p k q some found room spent site account row = absurd (omega (arith, some))
some_taken (r ∷ rs) p k q some found room spent site account row = news_chain r rs p k p.lanes (pocket_of p) (record { site = refl; numbered = p.numbered; paid = p.paid }) q found room spent site account row

module _ (rs : List Reply) (n : ℕ) (p k q : Desk) (some : 0 < length (take n rs)) (room : length (take n rs) ≤ room_left p.lanes.own) (spent : pocket_of q + length (take n rs) ≡ pocket_of p)
    (site : own_site q ≡ own_site k) (account : account_of q ≡ account_of k) where
  -- these were brought in, and the look for the next one saw the device shut
  brought_shut : (e : Event) (b : Desk) → FindsAllOpen (take n rs) p b → slice_get (events_of rs) n ≡ Some e → FindsShut e b k → BringsRow (take n rs) p.lanes q.lanes → Bursts p (events_of rs) n (Some Stopped) q
  brought_shut e b found_open at found row =
      let look = found.look in
      let lanes : b.lanes ≡ p.lanes = found_lanes (take n rs) p b found_open in
      let fits : Fits b q.lanes (pocket_of q) = record {
        site = row.site ∙ sym (ap lanes_site lanes);
        numbered = ap (λ (l : LanesSite). l.flows.port) (row.site ∙ sym (ap lanes_site lanes)) ∙ b.numbered;
        paid =
            subst (λ x. IsPocket (pocket_of q) (x + releases_of q.lanes) ((account_of b).returned + news_of q.lanes + mores_of q.lanes)) (ap (λ (w : Account). w.drawn) account ∙ look.drawn)
            (subst (λ x. IsPocket (pocket_of q) ((account_of q).drawn + releases_of q.lanes) (x + news_of q.lanes + mores_of q.lanes)) (ap (λ (w : Account). w.returned) account ∙ look.returned) q.paid);
      } in
      let m : Desk = with_lanes b q.lanes (pocket_of q) fits in
      let m_site : own_site m ≡ own_site b = ap (at_lanes (own_site b)) fits.site in
      record {
        between = m;
        taken = events_taken rs n p m (some_taken (take n rs) p b m some found_open room spent (m_site ∙ found_site (take n rs) p b found_open) refl row);
        ends = (
          e,
          at,
          declined e m q found.is_new (site ∙ look.site ∙ sym m_site) (subst (λ (w : Account). Stays (account_of b) w) (sym account) look.credit) refl
              (refl, (ap (λ (w : Account). w.drawn) account ∙ look.drawn, ap (λ (w : Account). w.returned) account ∙ look.returned))
              (subst (λ (w : Account). HasLooked (account_of b) w) (sym account) look.looked) (subst (λ (w : Account). IsTrue w.saw_shut) (sym account) found.seen)
              (subst (λ (w : Account). IsShut w.last) (sym account) found.was_shut),
        );
      }

  pub row_brought : (end : Option Refused) → LooksOver p rs n end k → BringsRow (take n rs) p.lanes q.lanes → Bursts p (events_of rs) n end q
  row_brought None looks row = record {
    between = q;
    taken =
        events_taken rs n p q
        (some_taken (take n rs) p looks.between q some looks.open_for room spent (site ∙ ap own_site looks.last ∙ found_site (take n rs) p looks.between looks.open_for) (account ∙ ap account_of looks.last) row);
    ends = refl;
  }
  row_brought (Some x) looks row =
      subst (λ (f : Refused). Bursts p (events_of rs) n (Some f) q) (sym looks.last.3)
      (brought_shut looks.last.0.event looks.between looks.open_for (event_at rs n looks.last.0 looks.last.1) looks.last.2 row)
