-- An event is added beside the oldest that is held, which came from a flow lane, or it is refused: nothing that is held changes.
use Rattle.std.proofs.Common.{◌≡◌, ◌≢◌, ℕ, ◌+◌, ◌%◌, ◌^◌, ◌<◌, Bool, true, List, [], ◌∷◌, ◌++◌, length, map, drop, Option, Some, Result, Ok, Err, MatchResult, refl, sym, ap, ◌∙◌, subst, arith}
use Rattle.std.specs.Option.{is_some}
use Rattle.evt_types.specs.Event.{pair_of}
use Rattle.evt_types.specs.Operation.{is_more_op, is_more_reply, is_new_op, is_new_reply, is_release_op, is_release_reply}
use Rattle.evt_types.specs.declared.event.Op.{Op}
use Rattle.evt_types.specs.declared.event.Op.TheVariants as ops
use Rattle.credit_pool.specs.Pockets.{IsPocket}
use Rattle.evt_types.specs.declared.event.Reply.{Reply}
use Rattle.lists.specs.Counts.{count}
use Rattle.flow_claims.specs.Claims.{lanes_of}
use Rattle.lane_rings.specs.Ends.{answered, answers_among, received_by, unanswered}
use Rattle.lane_rings.specs.declared.far.Far.{Far}
use Rattle.event_ports.specs.declared.lane.Holding.{Holding}
use Rattle.event_ports.specs.declared.lane.Lane.{Lane}
use Rattle.event_ports.specs.declared.lane.Lane.TheVariants.{Own, Flow}
use Rattle.event_ports.specs.Holds.{AreIdle, AddedAll, GaveBack, Hands, HaveNoNew, Same, Says, answered_on, held_on, stint_in}
use Rattle.event_ports.specs.declared.flows.FlowLanes.{FlowLanes}
use Rattle.event_ports.specs.declared.lanes.Lanes.{Lanes}
use Rattle.event_ports.specs.Flows.{FlowSite, flow_site, hands_of}
use Rattle.event_ports.specs.Handed.{CountsNone, CountsOne, flow_count, hand_of, lanes_site, mores_of, news_of, releases_of}
use Rattle.event_ports.specs.HeldRings.{Held}
use Rattle.event_ports.specs.Lanes.{AreOrdered, Hand, Rests, Submits, SubmitsTo, counted, got_on, held_in, held_of, open_on, pair_in, said_on}
use Rattle.event_ports.proofs.Calls.{gave_back, held_added, more_needs, says_no_new, says_received, same_no_new}
use Rattle.event_ports.proofs.Submitted.{IsThere, counts_none, counts_one}
use Rattle.event_ports.proofs.Extras.{added_said, added_same}
use Rattle.event_ports.proofs.HeldIn.{still_held}
use Rattle.event_ports.proofs.Orders.{each_lane}
use Rattle.event_ports.proofs.Refusals.{no_answer}

-- what follows from either answer
pub by_answer : {E A B P : Type 0} (result : Result (Unit {0}) E) → (A → P) → (B → P) → MatchResult result (λ _. A) (λ _. B) → P
by_answer (Ok _) ok err is = ok is
by_answer (Err _) ok err is = err is

module _ {E : Type 0} (h k : Hands) (lane : ℕ) (r : Reply) (result : Result (Unit {0}) E) (more : is_more_reply r ≡ true) (lists : MatchResult result (λ _. Says lane r h k) (λ _. Same h k)) where
  held_still : (j : ℕ) → held_on k j ≡ held_on h j
  held_still = by_answer result (λ says. held_added h k lane r more says) (λ same. same.held) lists

  pub ordered_still : (own : Far) (xs : List Holding) → AreOrdered own h xs → AreOrdered own k xs
  ordered_still own xs ordered =
      each_lane (λ l. map pair_in (held_of l xs) ≡ map pair_of (open_on own k l)) (ordered Own) (λ j. ordered (Flow j) ∙ ap (map pair_of) (sym (held_still j)))

  pub gave_back_still : GaveBack h → GaveBack k
  gave_back_still = by_answer result (λ says. gave_back h k says.given_back) (λ same. gave_back h k same.given_back) lists

  pub no_new_still : HaveNoNew h → HaveNoNew k
  no_new_still = by_answer result (λ says. says_no_new h k lane r (more_needs r.event.op more) says) (λ same. same_no_new h k same.answered_is) lists

  pub added_still : AddedAll h → AddedAll k
  added_still = by_answer result (λ says. added_said h k lane r says) (λ same. added_same h k same) lists

  pub idle_still : ((j : ℕ) → is_some (stint_in k j) ≡ is_some (stint_in h j)) → AreIdle h → AreIdle k
  idle_still entries idle j none = entries j ∙ idle j (sym (held_still j) ∙ none)

-- what the port has, beside its own lane, of its flow lanes and in its order
abbrev pub over : Far → List Holding → Hands → Hand
over own xs h = record { said = said_on own h; got = got_on own h; holding = xs }

-- what an event that is added makes of it
pub submits_flow : {E : Type 0} (own : Far) (xs : List Holding) (h k : Hands) (lane : ℕ) (r : Reply) (result : Result (Unit {0}) E) (o : Option Lane) → o ≡ Some (Flow lane) → is_more_reply r ≡ true
    → MatchResult result (λ _. Says lane r h k) (λ _. Same h k) → MatchResult result (λ _. SubmitsTo o r (over own xs h) (over own xs k)) (λ _. Rests (over own xs h) (over own xs k))
submits_flow own xs h k lane r (Ok _) o first more says =
    subst (λ l. SubmitsTo l r (over own xs h) (over own xs k)) (sym first)
    (record {
      said_here = says.answered_is;
      said = each_lane (λ l. l ≢ Flow lane → said_on own k l ≡ said_on own h l) (λ ne. refl) (λ j ne. says.others.answered_is j (λ e. ne (ap Flow e)));
      got = each_lane (λ l. got_on own k l ≡ got_on own h l) refl (says_received h k lane r says);
      holding = sym (ap (λ n. drop n xs) (no_answer r more));
    })
submits_flow own xs h k lane r (Err _) o first more same = record {
  said = each_lane (λ l. said_on own k l ≡ said_on own h l) refl same.answered_is;
  got = each_lane (λ l. got_on own k l ≡ got_on own h l) refl same.received;
  holding = refl;
}

-- a reply that answers nothing leaves what is unanswered
pub keeps_open : {E : Type 0} (own later : Far) (r : Reply) (result : Result (Unit {0}) E) → answers_among (r ∷ []) ≡ 0
    → MatchResult result (λ _. unanswered later ≡ drop (answers_among (r ∷ [])) (unanswered own)) (λ _. unanswered later ≡ unanswered own) → unanswered later ≡ unanswered own
keeps_open own later r (Ok _) none held = held ∙ ap (λ n. drop n (unanswered own)) none
keeps_open own later r (Err _) none held = held

-- what it makes of the port, where it goes to the port's own lane
pub submits_own : {E : Type 0} (own later : Far) (h : Hands) (held : Held) (r : Reply) (result : Result (Unit {0}) E) → answers_among (r ∷ []) ≡ 0 → received_by later ≡ received_by own
    → MatchResult result (λ _. answered later ≡ answered own ++ r ∷ []) (λ _. answered later ≡ answered own) → unanswered later ≡ unanswered own
    → MatchResult result (λ _. Submits Own r (over own (held_in own held) h) (over later (held_in later held) h)) (λ _. Rests (over own (held_in own held) h) (over later (held_in later held) h))
submits_own own later h held r (Ok _) none received said left = record {
  said_here = said;
  said = each_lane (λ l. l ≢ Own → said_on later h l ≡ said_on own h l) (λ ne. absurd (ne refl)) (λ j ne. refl);
  got = each_lane (λ l. got_on later h l ≡ got_on own h l) received (λ j. refl);
  holding = still_held own later held left ∙ sym (ap (λ n. drop n (held_in own held)) none);
}
submits_own own later h held r (Err _) none received said left = record {
  said = each_lane (λ l. said_on later h l ≡ said_on own h l) said (λ j. refl);
  got = each_lane (λ l. got_on later h l ≡ got_on own h l) received (λ j. refl);
  holding = still_held own later held left;
}

-- one reply more was submitted to the lane, and none to another
pub counts_said : (a b : Lanes) (lane : Lane) (r : Reply) → flow_site b.flows ≡ flow_site a.flows → IsThere (flow_count (lanes_site a)) lane
    → (hand_of b).said lane ≡ (hand_of a).said lane ++ r ∷ [] → ((l : Lane) → l ≢ lane → (hand_of b).said l ≡ (hand_of a).said l) → CountsOne r a b
counts_said a b lane r site there here others =
    let one : (P : Reply → Bool) → counted P (flow_count (lanes_site b)) (hand_of b).said ≡ counted P (flow_count (lanes_site a)) (hand_of a).said + count (P r) =
    λ P. counts_one P (flow_count (lanes_site a)) (flow_count (lanes_site b)) (hand_of a).said (hand_of b).said lane r (ap (λ (p : FlowSite). length (lanes_of p.claims)) site) there here others in
    record { news = one is_new_reply; mores = one is_more_reply; releases = one is_release_reply }

-- or none to any
pub counts_same : (a b : Lanes) → flow_site b.flows ≡ flow_site a.flows → ((l : Lane) → (hand_of b).said l ≡ (hand_of a).said l) → CountsNone a b
counts_same a b site same =
    let none : (P : Reply → Bool) → counted P (flow_count (lanes_site b)) (hand_of b).said ≡ counted P (flow_count (lanes_site a)) (hand_of a).said =
    λ P. counts_none P (flow_count (lanes_site a)) (flow_count (lanes_site b)) (hand_of a).said (hand_of b).said (ap (λ (p : FlowSite). length (lanes_of p.claims)) site) same in
    record { news = none is_new_reply; mores = none is_more_reply; releases = none is_release_reply }

pub counts_then : (a b c : Lanes) → CountsNone b c → CountsNone a b → CountsNone a c
counts_then a b c later first = record { news = later.news ∙ first.news; mores = later.mores ∙ first.mores; releases = later.releases ∙ first.releases }

-- what a reply to a flow lane counts
pub counts_flow : {E : Type 0} (a b : Lanes) (lane : ℕ) (r : Reply) (result : Result (Unit {0}) E) → b.own ≡ a.own → flow_site b.flows ≡ flow_site a.flows → lane < flow_count (lanes_site a)
    → MatchResult result (λ _. Says lane r (hands_of a.flows) (hands_of b.flows)) (λ _. Same (hands_of a.flows) (hands_of b.flows))
    → MatchResult result (λ _. CountsOne r a b) (λ _. CountsNone a b)
counts_flow a b lane r (Ok _) own site there says =
    counts_said a b (Flow lane) r site there says.answered_is
    (each_lane (λ l. l ≢ Flow lane → (hand_of b).said l ≡ (hand_of a).said l) (λ ne. ap answered own) (λ j ne. says.others.answered_is j (λ h. ne (ap Flow h))))
counts_flow a b lane r (Err _) own site there same = counts_same a b site (each_lane (λ l. (hand_of b).said l ≡ (hand_of a).said l) (ap answered own) same.answered_is)

-- and one to the port's own lane
pub counts_own : {E : Type 0} (a b : Lanes) (r : Reply) (result : Result (Unit {0}) E) → b.flows ≡ a.flows
    → MatchResult result (λ _. answered b.own ≡ answered a.own ++ r ∷ []) (λ _. answered b.own ≡ answered a.own) → MatchResult result (λ _. CountsOne r a b) (λ _. CountsNone a b)
counts_own a b r (Ok _) flows said =
    counts_said a b Own r (ap flow_site flows) tt said
    (each_lane (λ l. l ≢ Own → (hand_of b).said l ≡ (hand_of a).said l) (λ ne. absurd (ne refl)) (λ j ne. ap (λ (f : FlowLanes). answered_on (hands_of f) j) flows))
counts_own a b r (Err _) flows said =
    counts_same a b (ap flow_site flows) (each_lane (λ l. (hand_of b).said l ≡ (hand_of a).said l) said (λ j. ap (λ (f : FlowLanes). answered_on (hands_of f) j) flows))

-- a FORWARD counts in none of them
pub counts_forward : {E : Type 0} (a b : Lanes) (r : Reply) (result : Result (Unit {0}) E) → r.event.op ≡ ops.Forward → MatchResult result (λ _. CountsOne r a b) (λ _. CountsNone a b) → CountsNone a b
counts_forward a b r result forward counts =
    by_answer result
    (λ one. record {
      news = omega (arith, one.news, ap (λ (o : Op). count (is_new_op o)) forward);
      mores = omega (arith, one.mores, ap (λ (o : Op). count (is_more_op o)) forward);
      releases = omega (arith, one.releases, ap (λ (o : Op). count (is_release_op o)) forward);
    })
    (λ none. none) counts

pub paid_same : (a b : Lanes) (pocket drawn returned : ℕ) → CountsNone a b → IsPocket pocket (drawn + releases_of a) (returned + news_of a + mores_of a)
    → IsPocket pocket (drawn + releases_of b) (returned + news_of b + mores_of b)
paid_same a b pocket drawn returned same paid =
    subst (λ (n : ℕ). IsPocket pocket (drawn + n) (returned + news_of b + mores_of b)) (sym same.releases)
    (subst (λ (n : ℕ). IsPocket pocket (drawn + releases_of a) (returned + n + mores_of b)) (sym same.news)
    (subst (λ (n : ℕ). IsPocket pocket (drawn + releases_of a) (returned + news_of a + n)) (sym same.mores) paid))

-- a RELEASE brings a credit
pub paid_release : (a b : Lanes) (r : Reply) (pocket drawn returned : ℕ) → r.event.op ≡ ops.Release → CountsOne r a b → IsPocket pocket (drawn + releases_of a) (returned + news_of a + mores_of a)
    → IsPocket ((pocket + 1) % 2 ^ 64) (drawn + releases_of b) (returned + news_of b + mores_of b)
paid_release a b r pocket drawn returned release one paid =
    let new = ap (λ (o : Op). count (is_new_op o)) release in
    let more = ap (λ (o : Op). count (is_more_op o)) release in
    let released = ap (λ (o : Op). count (is_release_op o)) release in
    (omega (arith, paid.0, one.news, one.mores, one.releases, new, more, released), omega (arith, paid.1, one.news, one.mores, one.releases, new, more, released))
