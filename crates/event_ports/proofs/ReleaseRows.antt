-- A row of releases of a port's own making: each is to the oldest that is held, which came from the own lane.
use Rattle.std.proofs.Common.{◌≡◌, ◌≢◌, ◌+◌, ◌%◌, ◌^◌, ◌≤◌, ℕ, zero, suc, replicate, All, List, [], ◌∷◌, ◌++◌, length, drop, Some, Ok, refl, sym, ap, ◌∙◌, subst, arith, append_assoc, append-nil}
use Rattle.std.proofs.lemmas.Grind.{common_steps}
use Rattle.std.proofs.lemmas.List.{drop-drop}
use Rattle.std.proofs.lemmas.List.Elements.{All-cons, All-nil}
use Rattle.lists.specs.Counts.{count}
use Rattle.evt_types.specs.Operation.{is_answer_op, is_more_op, is_new_op, is_release_op}
use Rattle.evt_types.specs.declared.event.Op.{Op}
use Rattle.evt_types.specs.declared.event.Op.TheVariants as ops
use Rattle.evt_types.specs.declared.event.Reply.{Reply}
use Rattle.credit_pool.specs.Pockets.{IsPocket}
use Rattle.lane_rings.specs.Ends.{answered, room_left}
use Rattle.event_ports.specs.declared.flows.FlowLanes.{FlowLanes}
use Rattle.event_ports.specs.declared.lane.Lane.{Lane}
use Rattle.event_ports.specs.declared.lane.Lane.TheVariants.{Own, Flow}
use Rattle.event_ports.specs.declared.lanes.Lanes.{Lanes}
use Rattle.event_ports.specs.Flows.{flow_site, hands_of}
use Rattle.event_ports.specs.Holds.{answered_on, received_on}
use Rattle.event_ports.specs.Handed.{AnswersRow, CountsNone, CountsOne, hand_of, mores_of, news_of, releases_of}
use Rattle.event_ports.specs.Lanes.{Hand, Releases, SubmitsTo, first_lane, release_reply}
use Rattle.event_ports.proofs.Adding.{counts_own, counts_same}
use Rattle.event_ports.proofs.Orders.{each_lane}
use Rattle.event_ports.proofs.OwnRows.{AreOwn, first_own, lanes_step, rest_answered, rest_own}
use Rattle.event_ports.proofs.Refusals.{one_answer}
use Rattle.event_ports.proofs.Released.{releases_more, releases_still}

-- each of these is such a release
abbrev pub AllReleased : List Reply → Type 0
AllReleased rs = All (λ (r : Reply). r ≡ release_reply) rs

pub all_same : (n : ℕ) (r : Reply) → r ≡ release_reply → AllReleased (replicate n r)
all_same zero r same = All-nil (λ (x : Reply). x ≡ release_reply)
all_same (suc n) r same = All-cons (λ (x : Reply). x ≡ release_reply) r (replicate n r) same (all_same n r same)

first_is : (r : Reply) (rs : List Reply) → AllReleased (r ∷ rs) → r ≡ release_reply
first_is r rs all = all 0 r (omega arith)

rest_are : (r : Reply) (rs : List Reply) → AllReleased (r ∷ rs) → AllReleased rs
rest_are r rs all k d lt = all (suc k) d (omega (arith, lt))

-- the port after one of them
abbrev said_more : Hand → Lane → List Reply
said_more h Own = h.said Own ++ release_reply ∷ []
said_more h (Flow j) = h.said (Flow j)

abbrev one_more : Hand → Hand
one_more h = record { said = said_more h; got = h.got; holding = drop 1 h.holding }

one_submitted : (h : Hand) → first_lane h.holding ≡ Some Own → SubmitsTo (first_lane h.holding) release_reply h (one_more h)
one_submitted h first =
    subst (λ o. SubmitsTo o release_reply h (one_more h)) (sym first)
    (record {
      said_here = refl;
      said = each_lane (λ l. l ≢ Own → (one_more h).said l ≡ h.said l) (λ ne. absurd (ne refl)) (λ j ne. refl);
      got = λ l. refl;
      holding = ap (λ n. drop n h.holding) (sym (one_answer release_reply refl));
    })

-- what these come to
pub row_released : (rs : List Reply) (n : ℕ) (base h k : Hand) → AllReleased rs → AreOwn (length rs) h.holding → Releases n base h → k.said Own ≡ h.said Own ++ rs
    → ((j : ℕ) → k.said (Flow j) ≡ h.said (Flow j)) → ((l : Lane) → k.got l ≡ h.got l) → k.holding ≡ drop (length rs) h.holding → Releases (n + length rs) base k
row_released [] n base h k all own before said others got holding =
    subst (λ m. Releases m base k) (omega arith)
    (releases_still n base h k before (record { said = each_lane (λ l. k.said l ≡ h.said l) (said ∙ append-nil (h.said Own)) others; got = got; holding = holding }))
row_released (r ∷ rs) n base h k all own before said others got holding =
    let first = first_own (length rs) h.holding own in
    let next : k.said Own ≡ h.said Own ++ release_reply ∷ rs = said ∙ ap (λ x. h.said Own ++ x ∷ rs) (first_is r rs all) in
    subst (λ m. Releases m base k) (omega arith)
    (row_released rs (n + 1) base (one_more h) k (rest_are r rs all) (rest_own (length rs) h.holding own) (releases_more n base h (one_more h) before (one_submitted h first))
    (next ∙ sym (append_assoc (h.said Own) (release_reply ∷ []) rs)) others got (holding ∙ grind (arith, common_steps, drop-drop (length rs) 1 h.holding)))

-- the same of a port's lanes
pub lanes_released : (rs : List Reply) (n : ℕ) (base : Hand) (a b : Lanes) → AllReleased rs → AreOwn (length rs) (hand_of a).holding → Releases n base (hand_of a) → AnswersRow rs a b
    → Releases (n + length rs) base (hand_of b)
lanes_released rs n base a b all own before row =
    row_released rs n base (hand_of a) (hand_of b) all own before row.said (λ j. ap (λ (f : FlowLanes). answered_on (hands_of f) j) row.flows)
    (each_lane (λ l. (hand_of b).got l ≡ (hand_of a).got l) row.got (λ j. ap (λ (f : FlowLanes). received_on (hands_of f) j) row.flows)) row.holding

-- ---- what they count, and the credits that they bring

row_counts : (rs : List Reply) (a b : Lanes) → AllReleased rs → AreOwn (length rs) (hand_of a).holding → length rs ≤ room_left a.own → AnswersRow rs a b
    → (news_of b ≡ news_of a) × (mores_of b ≡ mores_of a) × (releases_of b ≡ releases_of a + length rs)
row_counts [] a b all own room row =
    let none : CountsNone a b =
    counts_same a b (ap flow_site row.flows)
    (each_lane (λ l. (hand_of b).said l ≡ (hand_of a).said l) (row.said ∙ append-nil (answered a.own)) (λ j. ap (λ (f : FlowLanes). answered_on (hands_of f) j) row.flows)) in
    (none.news, none.mores, omega (arith, none.releases))
row_counts (r ∷ rs) a b all own room row =
    let released : r.event.op ≡ ops.Release = ap (λ (x : Reply). x.event.op) (first_is r rs all) in
    let s = lanes_step a r (ap is_answer_op released) (first_own (length rs) (hand_of a).holding own) (omega (arith, room)) in
    let one : CountsOne r a s.0 = counts_own {E = Unit {0}} a s.0 r (Ok tt) s.1.flows s.1.said in
    let left : AreOwn (length rs) (hand_of s.0).holding = subst (AreOwn (length rs)) (sym s.1.holding) (rest_own (length rs) (hand_of a).holding own) in
    let rest = row_counts rs s.0 b (rest_are r rs all) left (omega (arith, room, s.2)) (rest_answered r rs a s.0 b s.1 row) in
    let news = ap (λ (o : Op). count (is_new_op o)) released in
    let more = ap (λ (o : Op). count (is_more_op o)) released in
    let brings = ap (λ (o : Op). count (is_release_op o)) released in
    (omega (arith, rest.0, one.news, news), omega (arith, rest.1, one.mores, more), omega (arith, rest.2, one.releases, brings))

pub paid_released : (rs : List Reply) (a b : Lanes) (pocket drawn returned : ℕ) → AllReleased rs → AreOwn (length rs) (hand_of a).holding → length rs ≤ room_left a.own → AnswersRow rs a b
    → IsPocket pocket (drawn + releases_of a) (returned + news_of a + mores_of a) → IsPocket ((pocket + length rs) % 2 ^ 64) (drawn + releases_of b) (returned + news_of b + mores_of b)
paid_released rs a b pocket drawn returned all own room row paid =
    let counts = row_counts rs a b all own room row in
    (omega (arith, paid.0, counts.0, counts.1, counts.2), omega (arith, paid.1, counts.0, counts.1, counts.2))

-- so many credits more in a pocket
pub more_credits : (a n m p q : ℕ) → p ≡ (a + n) % 2 ^ 64 → q ≡ (p + m) % 2 ^ 64 → q ≡ (a + (n + m)) % 2 ^ 64
more_credits a n m p q e f = omega (arith, e, f)
