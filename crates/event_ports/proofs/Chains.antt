-- A chain of single calls: what it says in all, and how it goes on.
use Rattle.std.proofs.Common.{◌≡◌, ℕ, zero, suc, true, false, ◌+◌, ◌-◌, ◌<◌, ◌≤◌, List, [], ◌∷◌, ◌++◌, Option, Some, None, slice_get, length, length-drop, take, drop, refl, sym, ap, ◌∙◌, subst, arith}
use Rattle.std.proofs.Math.Seq.{take-add}
use Rattle.std.proofs.lemmas.Grind.{common_steps}
use Rattle.std.proofs.lemmas.Bool.{false≢true}
use Rattle.std.proofs.lemmas.List.{drop-drop, drop-map, length-map, take-take, take_all}
use Rattle.std.proofs.lemmas.List.Elements.{All-cons, All-nil}
use Rattle.std.proofs.lemmas.Option.{slice_get_within}
use Rattle.std.specs.Option.{is_some}
use Rattle.std.specs.Prelude.{IfSome, IsNone, IsTrue}
use Rattle.evt_types.specs.declared.event.Event.{Event}
use Rattle.evt_types.specs.declared.event.Reply.{Reply}
use Rattle.evt_types.specs.declared.event.Op.TheVariants as ops
use Rattle.credit_pool.specs.Accounts.{Stays}
use Rattle.event_ports.specs.declared.desk.Desk.{Desk}
use Rattle.event_answers.specs.declared.answer.Refused.{Refused}
use Rattle.event_answers.specs.declared.answer.Refused.TheVariants.{Stopped}
use Rattle.event_ports.specs.Desks.{DeskSite, own_site, account_of, events_of, hand, Bursts, EndsWith, Enqueues, EnqueuesAll, Refuses, StopsAt}
use Rattle.event_ports.specs.Lanes.{Hand, Rests, SubmitsAll}
use Rattle.event_ports.specs.Queues.{AllNameQueues, NamesQueue}
use Rattle.event_ports.proofs.Bursts.{chain_taken, rests_same}
use Rattle.event_ports.proofs.Refusing.{rests_more, stays_more}

pub chain_then : (xs ys : List Event) (p q r : Desk) → EnqueuesAll xs p q → EnqueuesAll ys q r → EnqueuesAll (xs ++ ys) p r
chain_then [] ys p q r same more = subst (λ (d : Desk). EnqueuesAll ys d r) same more
chain_then (x ∷ xs) ys p q r (m, one, rest) more = (m, one, chain_then xs ys m q r rest more)

-- of a list the first n, and so many more
pub row_taken : (es rest : List Event) (n m : ℕ) (p q r : Desk) → rest ≡ drop n es → EnqueuesAll (take n es) p q → EnqueuesAll (take m rest) q r → EnqueuesAll (take (n + m) es) p r
row_taken es rest n m p q r is first more =
    subst (λ (xs : List Event). EnqueuesAll xs p r) (ap (λ xs. take n es ++ take m xs) is ∙ sym (take-add n m es)) (chain_then (take n es) (take m rest) p q r first more)

pub chain_site : (es : List Event) (p q : Desk) → EnqueuesAll es p q → own_site q ≡ own_site p
chain_site [] p q same = ap own_site same
chain_site (e ∷ es) p q (m, one, rest) = chain_site es m q rest ∙ one.site

pub chain_stays : (es : List Event) (p q : Desk) → EnqueuesAll es p q → Stays (account_of p) (account_of q)
chain_stays [] p q same = subst (λ (d : Desk). Stays (account_of p) (account_of d)) (sym same) (record { limit = refl; parts = refl; set_shut = refl; saw_shut = λ saw. saw })
chain_stays (e ∷ es) p q (m, one, rest) = stays_more (account_of p) (account_of m) (account_of q) one.credit (chain_stays es m q rest)

pub chain_submits : (es : List Event) (p q : Desk) → EnqueuesAll es p q → SubmitsAll es (hand p) (hand q)
chain_submits [] p q same = subst (λ (d : Desk). Rests (hand p) (hand d)) (sym same) (rests_same (hand p))
chain_submits (e ∷ es) p q (m, one, rest) = (hand m, one.submitted, chain_submits es m q rest)

pub chain_names : (es : List Event) (p q : Desk) → EnqueuesAll es p q → AllNameQueues (own_site p).queues es
chain_names [] p q same = All-nil (λ (e : Event). NamesQueue (own_site p).queues e)
chain_names (e ∷ es) p q (m, one, rest) =
    All-cons (λ (x : Event). NamesQueue (own_site p).queues x) e es one.there (subst (λ (d : DeskSite). AllNameQueues d.queues es) one.site (chain_names es m q rest))

-- and then one was refused
pub submits_rest : (es : List Event) (h k m : Hand) → SubmitsAll es h k → Rests k m → SubmitsAll es h m
submits_rest [] h k m a rests = rests_more h k m a rests
submits_rest (e ∷ es) h k m (j, one, rest) rests = (j, one, submits_rest es j k m rest rests)

-- ---- what is left of the replies

get_behind : (n i : ℕ) (es : List Event) (e : Event) → slice_get (drop n es) i ≡ Some e → slice_get es (n + i) ≡ Some e
get_behind zero i es e at =
    let same : 0 + i ≡ i = omega arith in
    ap (λ k. slice_get es k) same ∙ at
get_behind (suc n) i [] e at = absurd (omega (arith, slice_get_within [] i e at))
get_behind (suc n) i (x ∷ es) e at =
    let one : suc n + i ≡ suc (n + i) = omega arith in
    ap (λ k. slice_get (x ∷ es) k) one ∙ get_behind n i es e at

-- the last of these replies
pub record IsLeft (rs rest : List Reply) : Type 0 where
  pub within : length rest ≤ length rs
  pub last : rest ≡ drop (length rs - length rest) rs

events_left : (rs rest : List Reply) → IsLeft rs rest → events_of rest ≡ drop (length rs - length rest) (events_of rs)
events_left rs rest left = ap events_of left.last ∙ sym (drop-map (λ (r : Reply). r.event) (length rs - length rest) rs)

next_of : (n : ℕ) (rs rest : List Reply) (r : Reply) → drop n rs ≡ r ∷ rest → slice_get rs n ≡ Some r
next_of zero rs rest r is = ap (λ (xs : List Reply). slice_get xs 0) is
next_of (suc n) [] rest r is = absurd (omega (arith, ap length is))
next_of (suc n) (x ∷ rs) rest r is = next_of n rs rest r is

abbrev event_in : Option Reply → Option Event
event_in None = None
event_in (Some r) = Some r.event

pub event_at : (rs : List Reply) (n : ℕ) (r : Reply) → slice_get rs n ≡ Some r → slice_get (events_of rs) n ≡ Some r.event
event_at [] n r at = absurd (omega (arith, slice_get_within [] n r at))
event_at (x ∷ rs) zero r at = ap event_in at
event_at (x ∷ rs) (suc n) r at = event_at rs n r at

module _ (rs rest others : List Reply) (r : Reply) (left : IsLeft rs rest) (is : rest ≡ r ∷ others) where
  pub left_next : slice_get (events_of rs) (length rs - length rest) ≡ Some r.event
  left_next = event_at rs (length rs - length rest) r (next_of (length rs - length rest) rs others r (sym left.last ∙ is))

  one_fewer : length rs - length others ≡ length rs - length rest + 1
  one_fewer = omega (arith, left.within, ap length is)

  pub left_others : IsLeft rs others
  left_others = record {
    within = omega (arith, left.within, ap length is);
    last = sym (ap (λ n. drop n rs) one_fewer ∙ grind (arith, common_steps, drop-drop 1 (length rs - length rest) rs) ∙ ap (drop 1) (sym left.last ∙ is));
  }

  pub one_chained : (p q s : Desk) → EnqueuesAll (take (length rs - length rest) (events_of rs)) p q → Enqueues r.event q s → EnqueuesAll (take (length rs - length others) (events_of rs)) p s
  one_chained p q s chain one =
      subst (λ n. EnqueuesAll (take n (events_of rs)) p s) (sym one_fewer) (chain_taken (events_of rs) (length rs - length rest) r.event p q s left_next chain one)

module _ (rs others rest : List Reply) (m : ℕ) (left : IsLeft rs others) (within : m ≤ length others) (is : rest ≡ drop m others) where
  pub so_many : length rs - length rest ≡ length rs - length others + m
  so_many = omega (arith, left.within, within, ap length is, length-drop m others)

  pub left_row : IsLeft rs rest
  left_row = record {
    within = omega (arith, left.within, ap length is, length-drop m others);
    last = is ∙ ap (drop m) left.last ∙ grind (arith, common_steps, drop-drop m (length rs - length others) rs) ∙ ap (λ n. drop n rs) (sym so_many);
  }

  pub row_chained : (p q s : Desk) → EnqueuesAll (take (length rs - length others) (events_of rs)) p q → EnqueuesAll (take m (events_of others)) q s → EnqueuesAll (take (length rs - length rest) (events_of rs)) p s
  row_chained p q s chain row =
      subst (λ n. EnqueuesAll (take n (events_of rs)) p s) (sym so_many)
      (row_taken (events_of rs) (events_of others) (length rs - length others) m p q s (events_left rs others left) chain row)

  -- behind these a row was taken, and then it was refused
  pub row_refused : (p q s : Desk) (x : Refused) → EnqueuesAll (take (length rs - length others) (events_of rs)) p q → Bursts q (events_of others) m (Some x) s → Bursts p (events_of rs) (length rs - length rest) (Some x) s
  row_refused p q s x chain row =
      let n = length rs - length others in
      let at : slice_get (events_of rs) (n + m) ≡ Some row.ends.0 = get_behind n m (events_of rs) row.ends.0 (sym (ap (λ (xs : List Event). slice_get xs m) (events_left rs others left)) ∙ row.ends.1) in
      record {
        between = row.between;
        taken = row_chained p q row.between chain row.taken;
        ends = (row.ends.0, subst (λ k. slice_get (events_of rs) k ≡ Some row.ends.0) (sym so_many) at, row.ends.2);
      }

-- all was taken where nothing is left
pub all_chained : (rs rest : List Reply) (p q : Desk) → length rest ≡ 0 → EnqueuesAll (take (length rs - length rest) (events_of rs)) p q → EnqueuesAll (take (length rs) (events_of rs)) p q
all_chained rs rest p q none chain = subst (λ n. EnqueuesAll (take n (events_of rs)) p q) (omega (arith, none)) chain

-- ---- events that were taken, and one that was refused

-- these were taken, and the next one was refused
pub stops_burst : (es : List Event) (n : ℕ) (e : Event) (x : Refused) (p q r : Desk) → EnqueuesAll (take n es) p q → slice_get es n ≡ Some e
    → own_site r ≡ own_site q → Stays (account_of q) (account_of r) → Rests (hand q) (hand r) → Refuses q e x r
    → (IsTrue (account_of q).saw_shut → e.op ≡ ops.New → x ≡ Stopped) → Bursts p es n (Some x) r
stops_burst es n e x p q r chain at site credit rests why stopped = record {
  between = q;
  taken = chain;
  ends = (e, at, record { site = site; credit = credit; rests = rests; why = why; stopped = stopped });
}

-- where none was refused, these were taken
pub chained : (es : List Event) (n : ℕ) (o : Option Refused) (p q : Desk) → o ≡ None → Bursts p es n o q → EnqueuesAll (take n es) p q
chained es n o p q none g =
    subst (λ (d : Desk). EnqueuesAll (take n es) p d) (sym (subst (λ (x : Option Refused). EndsWith x es n g.between q) none g.ends)) g.taken

module _ (es : List Event) (n : ℕ) (x : Refused) (p q : Desk) (g : Bursts p es n (Some x) q) where
  pub refused_site : own_site q ≡ own_site p
  refused_site = g.ends.2.site ∙ chain_site (take n es) p g.between g.taken

  pub refused_stays : Stays (account_of p) (account_of q)
  refused_stays = stays_more (account_of p) (account_of g.between) (account_of q) (chain_stays (take n es) p g.between g.taken) g.ends.2.credit

  pub refused_submits : SubmitsAll (take n es) (hand p) (hand q)
  refused_submits = submits_rest (take n es) (hand p) (hand g.between) (hand q) (chain_submits (take n es) p g.between g.taken) g.ends.2.rests

  pub refused_names : AllNameQueues (own_site p).queues (take n es)
  refused_names = chain_names (take n es) p g.between g.taken

  pub stops_at : StopsAt p es n x q
  stops_at = record {
    event = g.ends.0;
    between = g.between;
    is_next = g.ends.1;
    site = chain_site (take n es) p g.between g.taken;
    credit = chain_stays (take n es) p g.between g.taken;
    submitted = chain_submits (take n es) p g.between g.taken;
    there = refused_names;
    refused = g.ends.2.why;
  }

  pub refused_within : n < length es
  refused_within = slice_get_within es n g.ends.0 g.ends.1

-- ---- what a burst says in all

pub bursts_site : (es : List Event) (n : ℕ) (end : Option Refused) (p q : Desk) → Bursts p es n end q → own_site q ≡ own_site p
bursts_site es n None p q b = ap own_site b.ends ∙ chain_site (take n es) p b.between b.taken
bursts_site es n (Some x) p q b = refused_site es n x p q b

pub bursts_stays : (es : List Event) (n : ℕ) (end : Option Refused) (p q : Desk) → Bursts p es n end q → Stays (account_of p) (account_of q)
bursts_stays es n None p q b = subst (λ (d : Desk). Stays (account_of p) (account_of d)) (sym b.ends) (chain_stays (take n es) p b.between b.taken)
bursts_stays es n (Some x) p q b = refused_stays es n x p q b

pub bursts_submits : (es : List Event) (n : ℕ) (end : Option Refused) (p q : Desk) → Bursts p es n end q → SubmitsAll (take n es) (hand p) (hand q)
bursts_submits es n None p q b = subst (λ (d : Desk). SubmitsAll (take n es) (hand p) (hand d)) (sym b.ends) (chain_submits (take n es) p b.between b.taken)
bursts_submits es n (Some x) p q b = refused_submits es n x p q b

pub bursts_names : (es : List Event) (n : ℕ) (end : Option Refused) (p q : Desk) → Bursts p es n end q → AllNameQueues (own_site p).queues (take n es)
bursts_names es n end p q b = chain_names (take n es) p b.between b.taken

pub bursts_stops : (es : List Event) (n : ℕ) (end : Option Refused) (p q : Desk) → Bursts p es n end q → IfSome end (λ x. StopsAt p es n x q)
bursts_stops es n None p q b = tt
bursts_stops es n (Some x) p q b = stops_at es n x p q b

-- a burst that wasn't refused, and one that was
pub not_refused : (end : Option Refused) → is_some end ≡ false → end ≡ None
not_refused None none = refl
not_refused (Some x) none = absurd (false≢true (sym none))

module _ (rs others rest : List Reply) (m : ℕ) (left : IsLeft rs others) (within : m ≤ length others) (is : rest ≡ drop m others) where
  pub row_ended : (p q s : Desk) (end : Option Refused) → is_some end ≡ true → EnqueuesAll (take (length rs - length others) (events_of rs)) p q → Bursts q (events_of others) m end s
      → Bursts p (events_of rs) (length rs - length rest) end s
  row_ended p q s None some chain row = absurd (false≢true some)
  row_ended p q s (Some x) some chain row = row_refused rs others rest m left within is p q s x chain row

  pub row_ended_before : (p q s : Desk) (end : Option Refused) → is_some end ≡ true → EnqueuesAll (take (length rs - length others) (events_of rs)) p q → Bursts q (events_of others) m end s
      → (IsNone end → length rs - length rest ≡ length rs) × (length rs - length rest ≡ length rs → IsNone end)
  row_ended_before p q s None some chain row = absurd (false≢true some)
  row_ended_before p q s (Some x) some chain row = (
    (λ none. absurd (false≢true (sym none))),
    (λ all.
        let few = refused_within (events_of rs) (length rs - length rest) x p s (row_refused rs others rest m left within is p q s x chain row) in
        absurd (omega (arith, all, few, length-map rs (λ (r : Reply). r.event)))),
  )

-- ---- a burst in parts

-- what is left behind so many
pub behind : {X : Type 0} (n : ℕ) (xs : List X) → n ≤ length xs → take (length xs - n) (drop n xs) ≡ drop n xs
behind n xs within = take_all (length xs - n) (drop n xs) (omega (arith, length-drop n xs))

-- what stands in the first of a list
get_within : (k m : ℕ) (es : List Event) (e : Event) → slice_get (take k es) m ≡ Some e → slice_get es m ≡ Some e
get_within zero m es e at = absurd (omega (arith, slice_get_within [] m e at))
get_within (suc k) m [] e at = absurd (omega (arith, slice_get_within [] m e at))
get_within (suc k) zero (x ∷ es) e at = at
get_within (suc k) (suc m) (x ∷ es) e at = get_within k m es e at

module _ (es : List Event) (n k m : ℕ) (p q s : Desk) (few : m ≤ k) (chain : EnqueuesAll (take n es) p q) where
  -- of the part behind those that were taken so many were taken
  pub part_taken : (between : Desk) → EnqueuesAll (take m (take k (drop n es))) q between → EnqueuesAll (take (n + m) es) p between
  part_taken between more =
      row_taken es (drop n es) n m p q between refl chain (subst (λ (xs : List Event). EnqueuesAll xs q between) (take-take m k (drop n es) few) more)

  -- and then it was refused
  pub part_ended : (end : Option Refused) → is_some end ≡ true → Bursts q (take k (drop n es)) m end s → Bursts p es (n + m) end s
  part_ended None some part = absurd (false≢true some)
  part_ended (Some x) some part = record {
    between = part.between;
    taken = part_taken part.between part.taken;
    ends = (part.ends.0, get_behind n m es part.ends.0 (get_within k m (drop n es) part.ends.0 part.ends.1), part.ends.2);
  }
