-- A row of FORWARDs and RELEASEs of what came from the own lane: the port after each of them, as a value, and so their chain of single calls.
use Rattle.std.proofs.Common.{◌≡◌, ◌≢◌, ℕ, zero, suc, ◌+◌, ◌*◌, ◌^◌, ◌<◌, ◌≤◌, ◌⊎◌, inl, inr, true, cond, All, List, [], ◌∷◌, ◌++◌, length, map, take, drop, Some, slice_get, Ok, refl, sym, ap, ◌∙◌, subst, arith, append_assoc, append-nil, get_or-take, length-take}
use Rattle.std.proofs.lemmas.Grind.{common_steps}
use Rattle.std.proofs.lemmas.List.{drop-drop}
use Rattle.std.proofs.lemmas.List.Elements.{All-cons, All-nil, All-push}
use Rattle.std.proofs.lemmas.List.Sums.{length-filter, count_by-le-length}
use Rattle.lists.proofs.Parts.{take_next}
use Rattle.evt_types.specs.Event.{pair_of}
use Rattle.lists.specs.Counts.{count}
use Rattle.evt_types.specs.Operation.{is_answer, is_answer_op, is_release_op}
use Rattle.evt_types.specs.declared.event.Delivery.{Delivery}
use Rattle.evt_types.specs.declared.event.Op.{Op}
use Rattle.evt_types.specs.declared.event.Op.TheVariants as ops
use Rattle.evt_types.specs.declared.event.Reply.{Reply}
use Rattle.credit_pool.specs.declared.account.Account.{Account}
use Rattle.credit_pool.specs.Accounts.{Stays}
use Rattle.credit_pool.specs.Pockets.{IsPocket}
use Rattle.lane_rings.specs.Ends.{answered, room_left, unanswered}
use Rattle.lane_rings.specs.Identity.{LaneId}
use Rattle.lane_rings.proofs.Answering.{answer_step}
use Rattle.event_ports.specs.declared.desk.Desk.{Desk}
use Rattle.event_ports.specs.declared.flows.FlowLanes.{FlowLanes}
use Rattle.event_ports.specs.declared.lane.Holding.{Holding}
use Rattle.event_ports.specs.declared.lane.Lane.{Lane}
use Rattle.event_ports.specs.declared.lane.Lane.TheVariants.{Own, Flow}
use Rattle.event_ports.specs.declared.lanes.Lanes.{Lanes}
use Rattle.event_ports.specs.Flows.{flow_site, hands_of}
use Rattle.event_ports.specs.Holds.{answered_on, received_on}
use Rattle.event_ports.specs.HeldRings.{Held, holds}
use Rattle.event_ports.specs.Handed.{AnswersRow, CountsNone, CountsOne, LanesSite, hand_of, mores_of, news_of, releases_of}
use Rattle.event_ports.specs.Lanes.{SubmitsTo, first_lane, held_in, held_of, lane_for, open_on, pair_in, same_lane}
use Rattle.event_ports.specs.Desks.{DeskSite, own_site, account_of, events_of, hand, pocket_of, Enqueues, EnqueuesAll, Pays}
use Rattle.event_ports.specs.Queues.{NamesQueue}
use Rattle.event_ports.proofs.Adding.{counts_forward, counts_own, counts_same, paid_release, paid_same}
use Rattle.event_ports.proofs.HeldIn.{held_dropped}
use Rattle.event_ports.proofs.Orders.{Notes, answered_first, by_lane, each_lane, first_open, lane_same, own_flow}
use Rattle.event_ports.proofs.Refusals.{one_answer}
use Rattle.event_ports.proofs.Refusing.{forward_alone, not_release}
use Rattle.event_ports.proofs.Released.{at_lanes}

-- the first n of these came from the own lane
abbrev pub AreOwn : ℕ → List Holding → Type 0
AreOwn zero xs = Unit {0}
AreOwn (suc n) [] = ⊥
AreOwn (suc n) (x ∷ xs) = (x.lane ≡ Own) × AreOwn n xs

pub are_own : (n : ℕ) (xs : List Holding) → n ≤ length xs → All (λ (x : Holding). x.lane ≡ Own) (take n xs) → AreOwn n xs
are_own zero xs within all = tt
are_own (suc n) [] within all = absurd (omega (arith, within))
are_own (suc n) (x ∷ xs) within all = (all 0 x (omega arith), are_own n xs (omega (arith, within)) (λ k d lt. all (suc k) d (omega (arith, lt))))

pub first_own : (n : ℕ) (xs : List Holding) → AreOwn (suc n) xs → first_lane xs ≡ Some Own
first_own n [] own = absurd own
first_own n (x ∷ xs) own = ap Some own.0

pub rest_own : (n : ℕ) (xs : List Holding) → AreOwn (suc n) xs → AreOwn n (drop 1 xs)
rest_own n [] own = absurd own
rest_own n (x ∷ xs) own = own.1

-- so many of the own lane at least are held
pub own_count : (n : ℕ) (xs : List Holding) → AreOwn n xs → n ≤ length (held_of Own xs)
own_count zero xs own = omega arith
own_count (suc n) [] own = absurd own
own_count (suc n) (x ∷ xs) own =
    let rest : List Holding = held_of Own xs in
    omega (arith, own_count n xs own.1, ap {B = ℕ} (λ b. length (cond b (x ∷ rest) rest)) (lane_same x.lane Own own.0))

-- so many are answered, one after the other
pub answered_row : (n : ℕ) (xs : List Holding) (before after : Lane → List Delivery) → AreOwn n xs → after Own ≡ drop n (before Own)
    → ((l : Lane) → l ≢ Own → after l ≡ before l) → Notes xs before → Notes (drop n xs) after
answered_row zero xs before after own here others notes =
    each_lane (λ l. map pair_in (held_of l xs) ≡ map pair_of (after l)) (notes Own ∙ ap (map pair_of) (sym here))
    (λ j. notes (Flow j) ∙ ap (map pair_of) (sym (others (Flow j) (own_flow j))))
answered_row (suc n) [] before after own here others notes = absurd own
answered_row (suc n) (x ∷ xs) before after own here others notes =
    answered_row n xs middle after own.1 (here ∙ grind (arith, common_steps, drop-drop n 1 (before Own)))
    (λ l ne. others l ne ∙ sym (first_left l ne))
    (answered_first (x ∷ xs) Own before middle (ap Some own.0) refl first_left notes)
  where
    middle : Lane → List Delivery
    middle Own = drop 1 (before Own)
    middle (Flow j) = before (Flow j)

    first_left : (l : Lane) → l ≢ Own → middle l ≡ before l
    first_left = each_lane (λ l. l ≢ Own → middle l ≡ before l) (λ ne. absurd (ne refl)) (λ j ne. refl)

-- where as many are held of the own lane as in all, each came from it
pub all_own : (xs : List Holding) → length xs ≤ length (held_of Own xs) → All (λ (x : Holding). x.lane ≡ Own) xs
all_own [] every = All-nil (λ (x : Holding). x.lane ≡ Own)
all_own (x ∷ xs) every =
    let few : length (held_of Own xs) ≤ length xs = omega (arith, length-filter (λ (y : Holding). same_lane y.lane Own) xs, count_by-le-length (λ (y : Holding). same_lane y.lane Own) xs) in
    by_lane x.lane Own (λ t. suc (length xs) ≤ length (cond t (x ∷ held_of Own xs) (held_of Own xs)) → All (λ (y : Holding). y.lane ≡ Own) (x ∷ xs))
    (λ own all. All-cons (λ (y : Holding). y.lane ≡ Own) x xs own (all_own xs (omega (arith, all)))) (λ other all. absurd (omega (arith, all, few))) every

some_there : {X : Type 0} (xs : List X) → xs ≢ [] → 0 < length xs
some_there [] none = absurd (none refl)
some_there (x ∷ xs) some = omega arith

-- ---- the lanes after one answer

pub lanes_step : (a : Lanes) (reply : Reply) → is_answer reply ≡ true → first_lane (hand_of a).holding ≡ Some Own → 0 < room_left a.own
    → (b : Lanes) × AnswersRow (reply ∷ []) a b × (room_left b.own + 1 ≡ room_left a.own)
lanes_step a reply ends first room =
    let before : Lane → List Delivery = open_on a.own (hands_of a.flows) in
    let s = answer_step a.own reply ends (some_there (unanswered a.own) (first_open (hand_of a).holding Own before first a.ordered)) room in
    let after : Lane → List Delivery = open_on s.0 (hands_of a.flows) in
    let others : (l : Lane) → l ≢ Own → after l ≡ before l = each_lane (λ l. l ≢ Own → after l ≡ before l) (λ ne. absurd (ne refl)) (λ j ne. refl) in
    let rest : Held = holds (drop 1 a.order.items) a.order.capacity a.order.notes in
    let left : held_in s.0 rest ≡ drop 1 (hand_of a).holding = held_dropped 1 a.own s.0 a.order rest s.4 refl (λ _. refl) in (
      record {
        own = s.0;
        flows = a.flows;
        order = rest;
        depth = (a.depth.0 ∙ sym (ap (λ (i : LaneId). i.depth) s.1), a.depth.1);
        ordered = subst (λ (xs : List Holding). Notes xs after) (sym left) (answered_first (hand_of a).holding Own before after first s.4 others a.ordered);
        gave_back = a.gave_back;
        no_new = a.no_new;
        added = a.added;
        idle = a.idle;
        noted = a.noted;
      },
      record { site = (λ i. record { own = s.1 i; flows = flow_site a.flows; depth = a.order.capacity }); flows = refl; got = s.2; said = s.3; holding = left },
      s.5,
    )

-- ---- the desk after one answer

-- a FORWARD that names one of so many queues, or a RELEASE
abbrev pub MayAnswer : ℕ → Reply → Type 0
MayAnswer queues reply = ((reply.event.op ≡ ops.Forward) × (reply.event.queue < queues)) ⊎ (reply.event.op ≡ ops.Release)

-- how many credits these bring: one for each RELEASE
abbrev pub brought : List Reply → ℕ
brought [] = 0
brought (reply ∷ replies) = count (is_release_op reply.event.op) + brought replies

-- these answers went to the own lane, and each RELEASE brought a credit
pub record AnswersDesk (replies : List Reply) (p q : Desk) : Type 0 where
  pub site : own_site q ≡ own_site p
  pub account : account_of q ≡ account_of p
  pub pocket : pocket_of q ≡ pocket_of p + brought replies
  pub lanes : AnswersRow replies p.lanes q.lanes

ends_op : (queues : ℕ) (reply : Reply) → MayAnswer queues reply → is_answer reply ≡ true
ends_op queues reply (inl forward) = ap is_answer_op forward.0
ends_op queues reply (inr release) = ap is_answer_op release

-- it goes to the lane of the oldest
to_first : (queues : ℕ) (reply : Reply) (xs : List Holding) → MayAnswer queues reply → lane_for reply.event.op xs ≡ first_lane xs
to_first queues reply xs (inl forward) = ap (λ (o : Op). lane_for o xs) forward.0
to_first queues reply xs (inr release) = ap (λ (o : Op). lane_for o xs) release

not_new : (queues : ℕ) (reply : Reply) → MayAnswer queues reply → reply.event.op ≡ ops.New → ⊥
not_new queues reply (inl forward) new = forward_alone reply.event.op ops.New (λ is. absurd (cc)) forward.0 new
not_new queues reply (inr release) new = not_release reply.event.op new release

names : (queues : ℕ) (reply : Reply) → MayAnswer queues reply → NamesQueue queues reply.event
names queues reply (inl forward) other = forward.1
names queues reply (inr release) other = absurd (other release)

forward_brings : (reply : Reply) → reply.event.op ≡ ops.Forward → brought (reply ∷ []) ≡ 0
forward_brings reply forward = omega (arith, ap (λ (o : Op). count (is_release_op o)) forward)

release_brings : (reply : Reply) → reply.event.op ≡ ops.Release → brought (reply ∷ []) ≡ 1
release_brings reply release = omega (arith, ap (λ (o : Op). count (is_release_op o)) release)

-- a RELEASE comes before two quanta are in the pocket, and the pocket's number has room for it
pub record HasFew (n : ℕ) (p : Desk) : Type 0 where
  pub few : 0 < n → pocket_of p + n < 2 * (own_site p).quantum
  pub fits : 0 < n → pocket_of p + n < 2 ^ 64

pays_one : (reply : Reply) (p q : Desk) → MayAnswer (own_site p).queues reply → HasFew (brought (reply ∷ [])) p → AnswersDesk (reply ∷ []) p q → Pays reply.event.op p q
pays_one reply p q (inl forward) few r =
    subst (λ (o : Op). Pays o p q) (sym forward.0) ((omega (arith, r.pocket, forward_brings reply forward.0), (ap (λ (w : Account). w.drawn) r.account, ap (λ (w : Account). w.returned) r.account)), r.account)
pays_one reply p q (inr release) few r =
    let one = release_brings reply release in
    let fits : pocket_of p + 1 < 2 ^ 64 = omega (arith, few.fits (omega (arith, one)), one) in
    let small : pocket_of p + 1 < 2 * (own_site p).quantum = omega (arith, few.few (omega (arith, one)), one) in
    subst (λ (o : Op). Pays o p q) (sym release) (record { few = λ _. (omega (arith, r.pocket, one, fits), r.account); many = λ many. absurd (omega (arith, many, small, fits)) })

-- what one of them says
one_answered : (reply : Reply) (p q : Desk) → MayAnswer (own_site p).queues reply → first_lane (hand p).holding ≡ Some Own → HasFew (brought (reply ∷ [])) p → AnswersDesk (reply ∷ []) p q → Enqueues reply.event p q
one_answered reply p q may first few r = record {
  site = r.site;
  credit = subst (λ (w : Account). Stays (account_of p) w) (sym r.account) (record { limit = refl; parts = refl; set_shut = refl; saw_shut = λ saw. saw });
  submitted =
      subst (λ o. SubmitsTo o reply (hand p) (hand q)) (sym (to_first (own_site p).queues reply (hand p).holding may ∙ first))
      (record {
        said_here = r.lanes.said;
        said = each_lane (λ l. l ≢ Own → (hand q).said l ≡ (hand p).said l) (λ ne. absurd (ne refl)) (λ j ne. ap (λ (f : FlowLanes). answered_on (hands_of f) j) r.lanes.flows);
        got = each_lane (λ l. (hand q).got l ≡ (hand p).got l) r.lanes.got (λ j. ap (λ (f : FlowLanes). received_on (hands_of f) j) r.lanes.flows);
        holding = r.lanes.holding ∙ ap (λ n. drop n (hand p).holding) (sym (one_answer reply (ends_op (own_site p).queues reply may)));
      });
  pays = pays_one reply p q may few r;
  there = names (own_site p).queues reply may;
  unshut = λ new _. not_new (own_site p).queues reply may new;
}

paid_one : (reply : Reply) (p : Desk) (lanes : Lanes) → MayAnswer (own_site p).queues reply → HasFew (brought (reply ∷ [])) p → AnswersRow (reply ∷ []) p.lanes lanes
    → IsPocket (pocket_of p + brought (reply ∷ [])) ((account_of p).drawn + releases_of lanes) ((account_of p).returned + news_of lanes + mores_of lanes)
paid_one reply p lanes may few r = by_kind may
  where
    counts : CountsOne reply p.lanes lanes
    counts = counts_own {E = Unit {0}} p.lanes lanes reply (Ok tt) r.flows r.said

    Paid : ℕ → Type 0
    Paid n = IsPocket n ((account_of p).drawn + releases_of lanes) ((account_of p).returned + news_of lanes + mores_of lanes)

    by_kind : MayAnswer (own_site p).queues reply → Paid (pocket_of p + brought (reply ∷ []))
    by_kind (inl forward) =
        subst Paid (omega (arith, forward_brings reply forward.0))
        (paid_same p.lanes lanes p.pocket (account_of p).drawn (account_of p).returned (counts_forward {E = Unit {0}} p.lanes lanes reply (Ok tt) forward.0 counts) p.paid)
    by_kind (inr release) =
        let one = release_brings reply release in
        let fits : pocket_of p + 1 < 2 ^ 64 = omega (arith, few.fits (omega (arith, one)), one) in
        subst Paid (omega (arith, one, fits)) (paid_release p.lanes lanes reply p.pocket (account_of p).drawn (account_of p).returned release counts p.paid)

desk_step : (p : Desk) (reply : Reply) → MayAnswer (own_site p).queues reply → first_lane (hand p).holding ≡ Some Own → 0 < room_left p.lanes.own → HasFew (brought (reply ∷ [])) p
    → (m : Desk) × AnswersDesk (reply ∷ []) p m × (room_left m.lanes.own + 1 ≡ room_left p.lanes.own)
desk_step p reply may first room few =
    let s = lanes_step p.lanes reply (ends_op (own_site p).queues reply may) first room in (
      record {
        pool = p.pool;
        seat = p.seat;
        lanes = s.0;
        number = p.number;
        queues = p.queues;
        implicit = p.implicit;
        quantum = p.quantum;
        threshold = p.threshold;
        pocket = p.pocket + brought (reply ∷ []);
        seat_of = p.seat_of;
        unset = p.unset;
        quantum_fits = p.quantum_fits;
        numbered = ap (λ (l : LanesSite). l.flows.port) s.1.site ∙ p.numbered;
        paid = paid_one reply p s.0 may few s.1;
      },
      record { site = ap (at_lanes (own_site p)) s.1.site; account = refl; pocket = refl; lanes = s.1 },
      s.2,
    )

brought_first : (reply : Reply) (replies : List Reply) → brought (reply ∷ replies) ≡ brought (reply ∷ []) + brought replies
brought_first reply replies = omega arith

-- the rest of a row, behind its first
pub rest_answered : (reply : Reply) (replies : List Reply) (a b c : Lanes) → AnswersRow (reply ∷ []) a b → AnswersRow (reply ∷ replies) a c → AnswersRow replies b c
rest_answered reply replies a b c one row = record {
  site = row.site ∙ sym one.site;
  flows = row.flows ∙ sym one.flows;
  got = row.got ∙ sym one.got;
  said = row.said ∙ sym (append_assoc (answered a.own) (reply ∷ []) replies) ∙ ap (λ rs. rs ++ replies) (sym one.said);
  holding = row.holding ∙ grind (arith, common_steps, drop-drop (length replies) 1 (hand_of a).holding) ∙ ap (drop (length replies)) (sym one.holding);
}

rest_row : (reply : Reply) (replies : List Reply) (p m q : Desk) → AnswersDesk (reply ∷ []) p m → AnswersDesk (reply ∷ replies) p q → AnswersDesk replies m q
rest_row reply replies p m q s r = record {
  site = r.site ∙ sym s.site;
  account = r.account ∙ sym s.account;
  pocket = omega (arith, r.pocket, s.pocket, brought_first reply replies);
  lanes = rest_answered reply replies p.lanes m.lanes q.lanes s.lanes r.lanes;
}

-- what a row asks for
pub record MayRow (replies : List Reply) (p : Desk) : Type 0 where
  pub answers : All (λ (reply : Reply). MayAnswer (own_site p).queues reply) replies
  pub own : AreOwn (length replies) (hand p).holding
  pub room : length replies ≤ room_left p.lanes.own
  pub few : HasFew (brought replies) p

may_rest : (reply : Reply) (replies : List Reply) (p m : Desk) → MayRow (reply ∷ replies) p → AnswersDesk (reply ∷ []) p m → room_left m.lanes.own + 1 ≡ room_left p.lanes.own → MayRow replies m
may_rest reply replies p m may s room = record {
  answers = subst (λ (d : DeskSite). All (λ (x : Reply). MayAnswer d.queues x) replies) (sym s.site) (λ k d lt. may.answers (suc k) d (omega (arith, lt)));
  own = subst (AreOwn (length replies)) (sym s.lanes.holding) (rest_own (length replies) (hand p).holding may.own);
  room = omega (arith, may.room, room);
  few = record {
    few = λ some. omega (arith, may.few.few (omega (arith, some, brought_first reply replies)), s.pocket, brought_first reply replies, ap (λ (d : DeskSite). d.quantum) s.site);
    fits = λ some. omega (arith, may.few.fits (omega (arith, some, brought_first reply replies)), s.pocket, brought_first reply replies);
  };
}

first_few : (reply : Reply) (replies : List Reply) (p : Desk) → MayRow (reply ∷ replies) p → HasFew (brought (reply ∷ [])) p
first_few reply replies p may = record {
  few = λ some. omega (arith, may.few.few (omega (arith, some, brought_first reply replies)), brought_first reply replies);
  fits = λ some. omega (arith, may.few.fits (omega (arith, some, brought_first reply replies)), brought_first reply replies);
}

-- after each of them there is a desk
step_of : (reply : Reply) (replies : List Reply) (p : Desk) → MayRow (reply ∷ replies) p → (m : Desk) × AnswersDesk (reply ∷ []) p m × (room_left m.lanes.own + 1 ≡ room_left p.lanes.own)
step_of reply replies p may = desk_step p reply (may.answers 0 reply (omega arith)) (first_own (length replies) (hand p).holding may.own) (omega (arith, may.room)) (first_few reply replies p may)

one_of : (reply : Reply) (replies : List Reply) (p m : Desk) → MayRow (reply ∷ replies) p → AnswersDesk (reply ∷ []) p m → Enqueues reply.event p m
one_of reply replies p m may s = one_answered reply p m (may.answers 0 reply (omega arith)) (first_own (length replies) (hand p).holding may.own) (first_few reply replies p may) s

pub answer_chain : (reply : Reply) (replies : List Reply) (p q : Desk) → MayRow (reply ∷ replies) p → AnswersDesk (reply ∷ replies) p q → EnqueuesAll (events_of (reply ∷ replies)) p q
answer_chain reply [] p q may r = (q, one_of reply [] p q may r, refl)
answer_chain reply (x ∷ replies) p q may r =
    let s = step_of reply (x ∷ replies) p may in
    (s.0, one_of reply (x ∷ replies) p s.0 may s.1, answer_chain x replies s.0 q (may_rest reply (x ∷ replies) p s.0 may s.1 s.2) (rest_row reply (x ∷ replies) p s.0 q s.1 r))

-- ---- what is paid after them

row_then : (reply : Reply) (replies : List Reply) (p m q : Desk) → AnswersDesk (reply ∷ []) p m → AnswersDesk replies m q → AnswersDesk (reply ∷ replies) p q
row_then reply replies p m q s r = record {
  site = r.site ∙ s.site;
  account = r.account ∙ s.account;
  pocket = omega (arith, r.pocket, s.pocket, brought_first reply replies);
  lanes = record {
    site = r.lanes.site ∙ s.lanes.site;
    flows = r.lanes.flows ∙ s.lanes.flows;
    got = r.lanes.got ∙ s.lanes.got;
    said = r.lanes.said ∙ ap (λ rs. rs ++ replies) s.lanes.said ∙ append_assoc (answered p.lanes.own) (reply ∷ []) (replies);
    holding = r.lanes.holding ∙ ap (drop (length replies)) s.lanes.holding ∙ grind (arith, common_steps, drop-drop (length replies) 1 (hand p).holding);
  };
}

row_desk : (replies : List Reply) (p : Desk) → MayRow replies p → (m : Desk) × AnswersDesk replies p m
row_desk [] p may = (
  p,
  record {
    site = refl;
    account = refl;
    pocket = omega arith;
    lanes = record { site = refl; flows = refl; got = refl; said = sym (append-nil (answered p.lanes.own)); holding = refl };
  },
)
row_desk (reply ∷ replies) p may =
    let s = step_of reply replies p may in
    let r = row_desk replies s.0 (may_rest reply replies p s.0 may s.1 s.2) in
    (r.0, row_then reply replies p s.0 r.0 s.1 r.1)

same_counts : (replies : List Reply) (a b c : Lanes) → AnswersRow replies a b → AnswersRow replies a c → CountsNone b c
same_counts replies a b c r s =
    counts_same b c (ap flow_site (s.flows ∙ sym r.flows))
    (each_lane (λ l. (hand_of c).said l ≡ (hand_of b).said l) (s.said ∙ sym r.said) (λ j. ap (λ (f : FlowLanes). answered_on (hands_of f) j) (s.flows ∙ sym r.flows)))

pub row_paid : (replies : List Reply) (p : Desk) (lanes : Lanes) → MayRow replies p → AnswersRow replies p.lanes lanes
    → IsPocket (pocket_of p + brought replies) ((account_of p).drawn + releases_of lanes) ((account_of p).returned + news_of lanes + mores_of lanes)
row_paid replies p lanes may r =
    let m = row_desk replies p may in
    subst (λ (w : Account). IsPocket (pocket_of p + brought replies) (w.drawn + releases_of lanes) (w.returned + news_of lanes + mores_of lanes)) m.1.account
    (subst (λ n. IsPocket n ((account_of m.0).drawn + releases_of lanes) ((account_of m.0).returned + news_of lanes + mores_of lanes)) m.1.pocket
    (paid_same m.0.lanes lanes m.0.pocket (account_of m.0).drawn (account_of m.0).returned (same_counts replies p.lanes m.0.lanes lanes m.1.lanes r) m.0.paid))

-- of the first so many events what holds of more of them
pub all_fewer : {X : Type 0} (P : X → Type 0) (a b : ℕ) (xs : List X) → a ≤ b → All P (take b xs) → All P (take a xs)
all_fewer P a b xs within all k d lt =
    let few : k < a = omega (arith, lt, length-take a xs) in
    subst P (get_or-take b xs k d (omega (arith, few, within)) ∙ sym (get_or-take a xs k d few)) (all k d (omega (arith, lt, length-take a xs, length-take b xs, within)))

pub all_next : {X : Type 0} (P : X → Type 0) (xs : List X) (n : ℕ) (x : X) → slice_get xs n ≡ Some x → All P (take n xs) → P x → All P (take (n + 1) xs)
all_next P xs n x at all one = subst (All P) (sym (take_next xs n x at)) (All-push P (take n xs) x all one)

pub answers_row : (replies : List Reply) (p q : Desk) → 0 < length replies → MayRow replies p → AnswersDesk replies p q → EnqueuesAll (events_of replies) p q
answers_row [] p q some may r = absurd (omega (arith, some))
answers_row (reply ∷ replies) p q some may r = answer_chain reply replies p q may r

-- RELEASEs bring as many credits as there are, and FORWARDs none
pub releases_bring : (replies : List Reply) → All (λ (reply : Reply). reply.event.op ≡ ops.Release) replies → brought replies ≡ length replies
releases_bring [] all = refl
releases_bring (reply ∷ replies) all =
    omega (arith, brought_first reply replies, release_brings reply (all 0 reply (omega arith)), releases_bring replies (λ k d lt. all (suc k) d (omega (arith, lt))))

pub forwards_bring : (replies : List Reply) (queues : ℕ) → All (λ (reply : Reply). (reply.event.op ≡ ops.Forward) × (reply.event.queue < queues)) replies → brought replies ≡ 0
forwards_bring [] queues all = refl
forwards_bring (reply ∷ replies) queues all =
    omega (arith, brought_first reply replies, forward_brings reply (all 0 reply (omega arith)).0, forwards_bring replies queues (λ k d lt. all (suc k) d (omega (arith, lt))))

-- ---- the first of the replies that were told, of no more that are held of the own lane

pub counted : (n : ℕ) (replies : List Reply) → n ≤ length replies → length (take n replies) ≡ n
counted n replies within = omega (arith, length-take n replies, within)

-- so many answers may go to the own lane in a row
pub record IsOwnRow (n : ℕ) (p : Desk) : Type 0 where
  pub held : n ≤ length (hand p).holding
  pub own : All (λ (x : Holding). x.lane ≡ Own) (take n (hand p).holding)
  pub room : n ≤ room_left p.lanes.own

module _ (p : Desk) (replies : List Reply) (n own : ℕ) (within : n ≤ length replies) (fewer : n ≤ own) (row : IsOwnRow own p) where
  may_row : All (λ (reply : Reply). MayAnswer (own_site p).queues reply) (take n replies) → HasFew (brought (take n replies)) p → MayRow (take n replies) p
  may_row answers few = record {
    answers = answers;
    own = subst (λ k. AreOwn k (hand p).holding) (sym (counted n replies within)) (are_own n (hand p).holding (omega (arith, fewer, row.held)) (all_fewer (λ (x : Holding). x.lane ≡ Own) n own (hand p).holding fewer row.own));
    room = omega (arith, counted n replies within, fewer, row.room);
    few = few;
  }

  pub may_release : All (λ (reply : Reply). reply.event.op ≡ ops.Release) (take n replies) → pocket_of p + n < 2 * (own_site p).quantum → pocket_of p + n < 2 ^ 64 → MayRow (take n replies) p
  may_release releases few fits =
      let all = releases_bring (take n replies) releases in
      let len = counted n replies within in
      may_row (λ k d lt. inr (releases k d lt)) (record { few = λ _. omega (arith, all, len, few); fits = λ _. omega (arith, all, len, fits) })

  pub may_forward : All (λ (reply : Reply). (reply.event.op ≡ ops.Forward) × (reply.event.queue < (own_site p).queues)) (take n replies) → MayRow (take n replies) p
  may_forward forwards =
      let none = forwards_bring (take n replies) (own_site p).queues forwards in
      may_row (λ k d lt. inl (forwards k d lt)) (record { few = λ some. absurd (omega (arith, some, none)); fits = λ some. absurd (omega (arith, some, none)) })
