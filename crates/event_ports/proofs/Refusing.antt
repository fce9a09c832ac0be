-- What a port refuses, and what it costs, where a call before it changed nothing of that.
use Rattle.std.proofs.Common.{◌≡◌, ◌≢◌, ℕ, zero, suc, ◌+◌, ◌<◌, Bool, true, false, inl, inr, List, [], ◌∷◌, ◌++◌, drop, Option, Some, None, Result, Ok, Err, IfErr, OnOk, MatchResult, refl, sym, ap, ◌∙◌, subst, arith}
use Rattle.std.proofs.lemmas.Bool.{false≢true}
use Rattle.evt_types.specs.declared.event.Event.{Event}
use Rattle.evt_types.specs.declared.event.Op.{Op}
use Rattle.evt_types.specs.declared.event.Op.TheVariants as ops
use Rattle.evt_types.specs.declared.event.Reply.{Reply}
use Rattle.evt_types.specs.Operation.{costs_credit, is_answer_op, is_new_op}
use Rattle.lane_rings.specs.Ends.{answers_among}
use Rattle.lane_rings.specs.declared.far.Refusal.{Refusal}
use Rattle.lane_rings.specs.declared.far.Refusal.TheVariants as refusals
use Rattle.event_ports.specs.declared.lane.Holding.{Holding}
use Rattle.event_ports.specs.Flows.{hands_of}
use Rattle.event_ports.specs.Handed.{RefusesOldest}
use Rattle.event_answers.specs.declared.answer.Refused.{Refused}
use Rattle.event_answers.specs.declared.answer.Refused.TheVariants.{Stopped, BadQueue, NothingHeld, Backpressure, Raced, Full, TooMany}
use Rattle.event_ports.specs.declared.lane.Lane.{Lane}
use Rattle.event_ports.specs.declared.desk.Desk.{Desk}
use Rattle.event_ports.specs.Lanes.{Hand, IsFilledAt, Rests, Submits, SubmitsTo, first_lane, lane_for, refused_by}
use Rattle.credit_pool.specs.declared.account.Account.{Account}
use Rattle.credit_pool.specs.declared.answer.Draw.{Draw}
use Rattle.credit_pool.specs.declared.answer.Draw.TheVariants as draws
use Rattle.credit_pool.specs.Accounts.{IsOpen, Stays}
use Rattle.event_ports.specs.Draws.{FillsWithin, HasLooked, most_draws}
use Rattle.event_ports.specs.Queues.{NamesQueue}
use Rattle.event_ports.specs.Desks.{DeskSite, own_site, account_of, hand, pocket_of, AsksPool, MaySpend, MaySpendMore, Pays, SameCredits, SpendsNone, Stocks, Refuses}

-- the operation of a NEW, told by a test
pub new_told : (o : Op) → is_new_op o ≡ true → o ≡ ops.New
new_told ops.New e = refl
new_told ops.Forward e = absurd (false≢true e)
new_told ops.Release e = absurd (false≢true e)
new_told ops.ForwardMore e = absurd (false≢true e)

pub rests_then : (lane : Lane) (r : Reply) (h k m : Hand) → Rests h k → Submits lane r k m → Submits lane r h m
rests_then lane r h k m a b = record {
  said_here = b.said_here ∙ ap (λ xs. xs ++ r ∷ []) (a.said lane);
  said = λ l ne. b.said l ne ∙ a.said l;
  got = λ l. b.got l ∙ a.got l;
  holding = b.holding ∙ ap (λ xs. drop (answers_among (r ∷ [])) xs) a.holding;
}

pub rests_more : (h k m : Hand) → Rests h k → Rests k m → Rests h m
rests_more h k m a b = record { said = λ l. b.said l ∙ a.said l; got = λ l. b.got l ∙ a.got l; holding = b.holding ∙ a.holding }

pub same_credits : (p k q : Desk) → SameCredits p k → SameCredits k q → SameCredits p q
same_credits p k q a b = (b.0 ∙ a.0, (b.1.0 ∙ a.1.0, b.1.1 ∙ a.1.1))

-- an operation is one alone
pub not_more : (o : Op) → o ≡ ops.New → o ≡ ops.ForwardMore → ⊥
not_more o new more = absurd (cc)

pub not_release : (o : Op) → o ≡ ops.New → o ≡ ops.Release → ⊥
not_release o new release = absurd (cc)

pub forward_alone : (o p : Op) → p ≢ ops.Forward → o ≡ ops.Forward → o ≡ p → ⊥
forward_alone o p other forward is = other (sym is ∙ forward)

-- what stays over two calls
pub stays_more : (v w u : Account) → Stays v w → Stays w u → Stays v u
stays_more v w u a b = record { limit = b.limit ∙ a.limit; parts = b.parts ∙ a.parts; set_shut = b.set_shut ∙ a.set_shut; saw_shut = λ saw. b.saw_shut (a.saw_shut saw) }

-- what costs a credit, and doesn't
costs_none : (b : Bool) → b ≡ true → b ≡ false → ⊥
costs_none b is none = absurd (cc)

-- the draws of a quantum that was drawn, together
drew : (n quantum ceiling : ℕ) (v after : Account) → FillsWithin n quantum ceiling v draws.Drawn after → (after.drawn ≡ v.drawn + quantum) × (after.returned ≡ v.returned)
drew zero quantum ceiling v after none = absurd none
drew (suc n) quantum ceiling v after (inl once) = (ap (λ (w : Account). w.drawn) once.0.2, ap (λ (w : Account). w.returned) once.0.2)
drew (suc n) quantum ceiling v after (inr (first, second, between, raced, further)) =
    let rest = drew n quantum ceiling between after further in
    (rest.0 ∙ ap (λ (w : Account). w.drawn + quantum) raced.5, rest.1 ∙ ap (λ (w : Account). w.returned) raced.5)

-- a draw after a call that changed no credits
module _ (p k : Desk) (site : own_site k ≡ own_site p) (same : SameCredits p k) where
  -- so many credits were there, or were drawn
  stocks : (q : Desk) (n : ℕ) → MaySpendMore k n q → Stocks p n q
  stocks q n h = (
    (λ some.
        let s = h.of_pocket (λ z. some (sym same.0 ∙ z)) in
        (s.0 ∙ same.0, (ap (λ (w : Account). w.drawn) s.1 ∙ same.1.0, ap (λ (w : Account). w.returned) s.1 ∙ same.1.1))),
    (λ none.
        let s = h.of_pool (same.0 ∙ none) in
        let d = drew most_draws (own_site k).quantum (own_site k).threshold (account_of k) (account_of q) s.1 in
        let quantum : (own_site k).quantum ≡ (own_site p).quantum = ap (λ (x : DeskSite). x.quantum) site in
        (s.0 ∙ quantum, d.0 ∙ (λ i. same.1.0 i + quantum i), d.1 ∙ same.1.1)),
  )

  -- a NEW, after a look that read an open word
  module _ (looked : HasLooked (account_of p) (account_of k)) (was_open : IsOpen (account_of k).last) where
    asked : (answer : Draw) (q : Desk) → FillsWithin most_draws (own_site k).quantum (own_site k).threshold (account_of k) answer (account_of q) → AsksPool p answer q
    asked answer q filled = record {
      seen = account_of k;
      looked = looked;
      was_open = was_open;
      asked = subst (λ (x : DeskSite). FillsWithin most_draws x.quantum x.threshold (account_of k) answer (account_of q)) site filled;
    }

    -- there are these credits for it
    may_spend : (q : Desk) (n : ℕ) → MaySpendMore k n q → MaySpend p n q
    may_spend q n h = record {
      seen = account_of k;
      looked = looked;
      was_open = was_open;
      of_pocket = λ some. let s = h.of_pocket (λ z. some (sym same.0 ∙ z)) in (s.0 ∙ same.0, s.1);
      of_pool = λ none.
          let s = h.of_pool (same.0 ∙ none) in (
            s.0 ∙ ap (λ (x : DeskSite). x.quantum) site,
            subst (λ (x : DeskSite). FillsWithin most_draws x.quantum x.threshold (account_of k) draws.Drawn (account_of q)) site s.1,
          );
    }

    pub pays_new : (q : Desk) (o : Op) (result : Result (Unit {0}) Refused) → o ≡ ops.New → OnOk result (MaySpendMore k (pocket_of q + 1) q) → OnOk result (Pays o p q)
    pays_new q o (Ok _) new h = subst (λ (x : Op). Pays x p q) (sym new) (stocks q (pocket_of q + 1) h, may_spend q (pocket_of q + 1) h)
    pays_new q o (Err x) new h = h

    -- there is no credit for it, or no room
    refuses : (q : Desk) (e : Event) (f : Refused) → e.op ≡ ops.New → e.queue < (own_site p).queues → (account_of k).limit ≡ (account_of p).limit → SpendsNone k e.op f q → Refuses p e f q
    refuses q e Stopped new within limit r = (
      ap costs_credit new,
      r.0,
      same_credits p k q same r.1.same,
      (λ _. inr (within, sym same.0 ∙ r.1.empty, asked draws.Shut q r.1.asked)),
      (λ more. absurd (not_more e.op new more)),
    )
    refuses q e BadQueue new within limit r = absurd r
    refuses q e NothingHeld new within limit r = absurd r
    refuses q e (Backpressure free) new within limit r = (
      ap costs_credit new,
      within,
      sym same.0 ∙ r.3.empty,
      r.0,
      r.1,
      omega (arith, r.2, limit, ap (λ (x : DeskSite). x.quantum) site, ap (λ (x : DeskSite). x.threshold) site),
      same_credits p k q same r.3.same,
      (λ _. asked (draws.Short free) q r.3.asked),
      (λ more. absurd (not_more e.op new more)),
    )
    refuses q e (Raced first second) new within limit r = (
      ap costs_credit new,
      within,
      sym same.0 ∙ r.3.empty,
      r.0,
      r.1,
      r.2,
      same_credits p k q same r.3.same,
      (λ _. asked (draws.Raced first second) q r.3.asked),
      (λ more. absurd (not_more e.op new more)),
    )
    refuses q e Full new within limit r = (
      r.0,
      (λ other. absurd (other new)),
      (λ _. within),
      (λ more. absurd (not_more e.op new more)),
      (λ _. stocks q (pocket_of q) r.1),
      (λ none. absurd (costs_none (costs_credit e.op) (ap costs_credit new) none)),
      (λ _. may_spend q (pocket_of q) r.1),
      (λ more. absurd (not_more e.op new more)),
    )
    refuses q e TooMany new within limit r = absurd r

    pub refuses_new : (q : Desk) (e : Event) (result : Result (Unit {0}) Refused) → e.op ≡ ops.New → e.queue < (own_site p).queues → (account_of k).limit ≡ (account_of p).limit
        → IfErr result (λ f. SpendsNone k e.op f q) → IfErr result (λ f. Refuses p e f q)
    refuses_new q e (Ok _) new within limit r = r
    refuses_new q e (Err f) new within limit r = refuses q e f new within limit r

-- an event whose queue was tested names that where it is taken
pub names_taken : (queues : ℕ) (e : Event) (result : Result (Unit {0}) Refused) → e.queue < queues → OnOk result (NamesQueue queues e)
names_taken queues e (Ok _) within = λ _. within
names_taken queues e (Err x) within = tt

-- two refusals that are one answer
refusal_in : Result (Unit {0}) Refused → Refused → Refused
refusal_in (Ok _) x = x
refusal_in (Err x) y = x

pub same_refusal : (x y : Refused) → ◌≡◌ {A = Result (Unit {0}) Refused} (Err x) (Err y) → x ≡ y
unfolding refusal_in
same_refusal x y e = ap (λ (r : Result (Unit {0}) Refused). refusal_in r x) e

-- a reply after calls that submitted nothing
pub submits_after : (o : Option Lane) (r : Reply) (h k m : Hand) → Rests h k → SubmitsTo o r k m → SubmitsTo o r h m
submits_after None r h k m a b = b
submits_after (Some l) r h k m a b = rests_then l r h k m a b

pub submitted_after : (result : Result (Unit {0}) Refused) (o : Op) (r : Reply) (h k m : Hand) → Rests h k → MatchResult result (λ _. SubmitsTo (lane_for o k.holding) r k m) (λ _. Rests k m)
    → MatchResult result (λ _. SubmitsTo (lane_for o h.holding) r h m) (λ _. Rests h m)
submitted_after (Ok done) o r h k m a is =
    subst (λ (l : Option Lane). SubmitsTo l r h m) (ap (lane_for o) a.holding) (submits_after (lane_for o k.holding) r h k m a is)
submitted_after (Err e) o r h k m a is = rests_more h k m a is

-- an answer costs no credit, and goes to the oldest's lane
answers_free : (o : Op) → is_answer_op o ≡ true → costs_credit o ≡ true → ⊥
answers_free ops.New answers costs = absurd (false≢true answers)
answers_free ops.Forward answers costs = absurd (false≢true costs)
answers_free ops.Release answers costs = absurd (false≢true costs)
answers_free ops.ForwardMore answers costs = absurd (false≢true answers)

answers_first : (o : Op) (xs : List Holding) → is_answer_op o ≡ true → first_lane xs ≡ lane_for o xs
answers_first ops.New xs answers = absurd (false≢true answers)
answers_first ops.Forward xs answers = refl
answers_first ops.Release xs answers = refl
answers_first ops.ForwardMore xs answers = absurd (false≢true answers)

pub refuses_answer : (p q : Desk) (e : Event) (refusal : Refusal) (x : Refused) → is_answer_op e.op ≡ true → x ≡ refused_by refusal → (e.op ≢ ops.Release → e.queue < (own_site p).queues)
    → SameCredits p q → account_of q ≡ account_of p → (hand q).holding ≡ (hand p).holding → RefusesOldest q.lanes refusal → Refuses p e x q
refuses_answer p q e refusals.NothingHeld x answers is within same account holding none =
    subst (λ (y : Refused). Refuses p e y q) (sym is) ((λ new. answers_free e.op answers (ap costs_credit new)), within, sym holding ∙ none, same, account)
refuses_answer p q e refusals.TooMany x answers is within same account holding none = absurd none
refuses_answer p q e refusals.Full x answers is within same account holding full =
    subst (λ (y : Refused). Refuses p e y q) (sym is) (
      subst (IsFilledAt q.lanes.own (hands_of q.lanes.flows)) (answers_first e.op (hand q).holding answers) full.1,
      (λ _ none. full.0 (holding ∙ none)),
      within,
      (λ more. absurd (answers_free e.op answers (ap costs_credit more))),
      (λ costs. absurd (answers_free e.op answers costs)),
      (λ _. (same, account)),
      (λ new. absurd (answers_free e.op answers (ap costs_credit new))),
      (λ more. absurd (answers_free e.op answers (ap costs_credit more))),
    )
