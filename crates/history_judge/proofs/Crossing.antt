-- How the judge finds what is crossed, from the last that was enqueued on.
use Rattle.std.specs.Prelude.{Bool, ℕ, ◌≡◌, ◌≢◌, ◌+◌, ◌<◌, ◌≤◌, true, false, cond, ◌&&◌, List, ◌==◌, nat_le, Option, Some, None, slice_get, ◌⊎◌}
use Rattle.std.specs.BTreeMap.{BTreeMap, Updates, is_at}
use Rattle.std.specs.Option.{is_some, option_cmp}
use Rattle.std.specs.Ordering.{is_eq, nat_cmp, ordering_then}
use Rattle.std.specs.declared.cmp.Ordering.{Ordering}
use Rattle.std.proofs.Common.{IfNone, refl, sym, ap, ◌∙◌, subst, arith, inl, inr, ⊎_elim}
use Rattle.std.proofs.lemmas.Bool.{and_from, and_parts, cases_Bool, cases_lt, cond-true, cond-false, false≢true, leb-false, leb-true}
use Rattle.std.proofs.lemmas.Option.{none-some, same_Some}
use Rattle.evt_types.specs.Plan.{Plan}
use Rattle.lists.proofs.Lists.{eqb_is, eqb_same}
use Rattle.history_judge.proofs.Arriving.{comes_once, comes_to_all}
use Rattle.history_judge.proofs.Lefts.{eq_field, eq_number, eq_then}
use Rattle.history_judge.specs.Entries.{IsUnsorted}
use Rattle.history_judge.specs.Streams.{AreFirsts, AreReady, Comes, EndedBefore, GotFirst, IsAsked, IsCrossed, IsFirst, IsIn, IsNoted, arrival, earlier, first_in, is_same_option, is_same_order, is_same_origin, is_same_stream, of_all, of_port, order_cmp, stream_cmp}
use Rattle.history_judge.specs.declared.arrivals.Arrival.{Arrival}
use Rattle.history_judge.specs.declared.arrivals.Course.{Course}
use Rattle.history_judge.specs.declared.arrivals.KeptOrder.{KeptOrder}
use Rattle.history_judge.specs.declared.arrivals.Stream.{Stream}
use Rattle.history_judge.specs.declared.arrivals.Tables.{Tables}
use Rattle.history_judge.specs.declared.seen.Seen.{Seen}

-- ---- one cell is written

eq_option : (o q : Option ℕ) → is_eq (option_cmp nat_cmp o q) ≡ is_same_option q o
eq_option None None = refl
eq_option None (Some m) = refl
eq_option (Some l) None = refl
eq_option (Some l) (Some m) = eq_number l m

eq_order : (x y : KeptOrder) → is_eq (order_cmp x y) ≡ is_same_order y x
eq_order x y = eq_field x.queue y.queue _ _ (eq_field x.level y.level _ _ (eq_option x.flow y.flow))

eq_origin : (o q : Option KeptOrder) → is_eq (option_cmp order_cmp o q) ≡ is_same_origin q o
eq_origin None None = refl
eq_origin None (Some y) = refl
eq_origin (Some x) None = refl
eq_origin (Some x) (Some y) = eq_order x y

-- one part more
eq_part : (r o : Ordering) (a b : Bool) → is_eq r ≡ a → is_eq o ≡ b → is_eq (ordering_then r o) ≡ (a && b)
eq_part r o a b one rest = eq_then r o ∙ (ap (λ c. c && is_eq o) one ∙ ap (λ c. a && c) rest)

is_at_stream : (k l : Stream) → is_at (stream_cmp k) l ≡ is_same_stream l k
is_at_stream k l =
    eq_field k.sender l.sender _ _ (eq_part _ _ _ _ (eq_origin k.origin l.origin) (eq_part _ _ _ _ (eq_order k.kept l.kept) (eq_option k.receiver l.receiver)))

pub first_set : (m n : BTreeMap Stream ℕ) (k : Stream) (g : ℕ) → Updates stream_cmp m n k (Some (earlier (first_in m k) g)) → IsNoted m n k g
first_set m n k g updates l = updates.0 l ∙ ap (λ b. cond b (Some (earlier (first_in m k) g)) (first_in m l)) (is_at_stream k l)

same_options : (o q : Option ℕ) → is_same_option o q ≡ true → o ≡ q
same_options None None is = refl
same_options None (Some m) is = absurd (false≢true is)
same_options (Some l) None is = absurd (false≢true is)
same_options (Some l) (Some m) is = ap Some (eqb_is l m is)

option_self : (o : Option ℕ) → is_same_option o o ≡ true
option_self None = refl
option_self (Some l) = eqb_same l

same_orders : (x y : KeptOrder) → is_same_order x y ≡ true → x ≡ y
same_orders x y is =
    let a = and_parts (x.queue == y.queue) _ is in
    let b = and_parts (x.level == y.level) (is_same_option x.flow y.flow) a.1 in
    λ i. record { queue = eqb_is x.queue y.queue a.0 i; level = eqb_is x.level y.level b.0 i; flow = same_options x.flow y.flow b.1 i }

order_self : (x : KeptOrder) → is_same_order x x ≡ true
order_self x = and_from (x.queue == x.queue) _ (eqb_same x.queue) (and_from (x.level == x.level) _ (eqb_same x.level) (option_self x.flow))

same_origins : (o q : Option KeptOrder) → is_same_origin o q ≡ true → o ≡ q
same_origins None None is = refl
same_origins None (Some y) is = absurd (false≢true is)
same_origins (Some x) None is = absurd (false≢true is)
same_origins (Some x) (Some y) is = ap Some (same_orders x y is)

origin_self : (o : Option KeptOrder) → is_same_origin o o ≡ true
origin_self None = refl
origin_self (Some x) = order_self x

same_streams : (k l : Stream) → is_same_stream k l ≡ true → k ≡ l
same_streams k l is =
    let a = and_parts (k.sender == l.sender) _ is in
    let o = and_parts (is_same_origin k.origin l.origin) _ a.1 in
    let b = and_parts (is_same_order k.kept l.kept) (is_same_option k.receiver l.receiver) o.1 in
    λ i. record { sender = eqb_is k.sender l.sender a.0 i; origin = same_origins k.origin l.origin o.0 i; kept = same_orders k.kept l.kept b.0 i; receiver = same_options k.receiver l.receiver b.1 i }

stream_self : (k : Stream) → is_same_stream k k ≡ true
stream_self k =
    and_from (k.sender == k.sender) _ (eqb_same k.sender) (and_from (is_same_origin k.origin k.origin) _ (origin_self k.origin)
    (and_from (is_same_order k.kept k.kept) _ (order_self k.kept) (option_self k.receiver)))

-- a stream of this receiver, by that of all
with_receiver : (k : Stream) (any : Stream) (receiver : Option ℕ) → of_all k ≡ any → k.receiver ≡ receiver
    → k ≡ record { sender = any.sender; origin = any.origin; kept = any.kept; receiver = receiver }
with_receiver k any receiver same is i = record { sender = (same i).sender; origin = (same i).origin; kept = (same i).kept; receiver = is i }

-- an entry that didn't end before the other began
pub not_before : (hs : List Seen) (first i : ℕ) (s u : Seen) → slice_get hs first ≡ Some s → i ≡ first → u.began ≤ s.ended → ¬ EndedBefore hs i u
not_before hs first i s u at is late bad =
    let same : bad.seen ≡ s = same_Some bad.seen s (sym bad.entry ∙ (ap (slice_get hs) is ∙ at)) in
    omega (arith, bad.ended, late, ap (λ (w : Seen). w.ended) same)

-- what was got earlier ended earlier
pub in_order : (hs : List Seen) (o j : ℕ) (w y : Seen) → ((i : ℕ) → ¬ IsUnsorted hs i) → slice_get hs o ≡ Some w → slice_get hs j ≡ Some y → o ≤ j → w.ended ≤ y.ended
in_order hs o j w y sorted first second le = ⊎_elim (λ lt. ended lt) (λ ge. same (omega (arith, le, ge))) (cases_lt o j)
  where
    same : o ≡ j → w.ended ≤ y.ended
    same is = let one : w ≡ y = same_Some w y (sym first ∙ (ap (slice_get hs) is ∙ second)) in omega (arith, ap (λ (z : Seen). z.ended) one)

    ended : o < j → w.ended ≤ y.ended
    ended lt =
        ⊎_elim (λ bad. absurd (sorted j (record { seen = y; entry = second; place = o; earlier = lt; before = w; there = first; ends = bad }))) (λ ge. ge)
        (cases_lt y.ended w.ended)

-- what was got first: by the same port, or of a flow also by a call that had ended
by_port_first : (o : Option ℕ) (j i : ℕ) (u s : Seen) → u.port ≡ s.port → j < i → GotFirst o j u i s
by_port_first (Some flow) j i u s port lt = inl (port, lt)
by_port_first None j i u s port lt = (port, lt)

by_call_first : (o : Option ℕ) (j i : ℕ) (u s : Seen) → is_some o ≡ true → u.ended < s.began → GotFirst o j u i s
by_call_first (Some flow) j i u s is lt = inr lt
by_call_first None j i u s is lt = absurd (false≢true is)

parts_first : {X : Type 0} (o : Option ℕ) (j i : ℕ) (u s : Seen) → (u.port ≡ s.port → j < i → X) → (is_some o ≡ true → u.ended < s.began → X) → GotFirst o j u i s → X
parts_first (Some flow) j i u s by_place by_call before = ⊎_elim (λ same. by_place same.0 same.1) (λ lt. by_call refl lt) before
parts_first None j i u s by_place by_call before = by_place before.0 before.1

-- ---- what came of the entry's NEW

module _ (p : Plan) (hs : List Seen) (c : Course) (t : Tables) (ready : AreReady p hs t) (a : ℕ) (s : Seen) (at : slice_get hs a ≡ Some s) (x : Arrival) (comes : Comes p hs c a x) (u : Seen)
    (there : slice_get hs x.getter ≡ Some u) where
  abbrev any : Stream
  any = x.stream

  abbrev g : ℕ
  g = x.getter

  all_any : of_all any ≡ any
  all_any = comes_to_all p hs c a x comes

  here : (k : Stream) → of_all k ≡ any → IsAsked k.receiver u.port → IsIn p hs c k a g
  here k same asked = record { comes = subst (λ l. Comes p hs c a (arrival l g)) (sym same) comes; getter = u; there = there; receiver = asked }

  here_any : IsIn p hs c any a g
  here_any = here any all_any (subst (λ (k : Stream). IsAsked k.receiver u.port) all_any tt)

  here_own : IsIn p hs c (of_port any u.port) a g
  here_own = here (of_port any u.port) all_any refl

  -- it is in no other stream
  same_arrival : (k : Stream) (h : ℕ) → IsIn p hs c k a h → arrival (of_all k) h ≡ x
  same_arrival k h is = comes_once p hs t ready a s at c (arrival (of_all k) h) x is.comes comes

  same_getter : (k : Stream) (h : ℕ) → IsIn p hs c k a h → h ≡ g
  same_getter k h is = ap (λ (y : Arrival). y.getter) (same_arrival k h is)

  same_stream : (k : Stream) (h : ℕ) → IsIn p hs c k a h → (k ≡ any) ⊎ (k ≡ of_port any u.port)
  same_stream k h is = by_receiver k.receiver refl is.receiver
    where
      all : of_all k ≡ any
      all = ap (λ (y : Arrival). y.stream) (same_arrival k h is)

      getter : is.getter ≡ u
      getter = same_Some is.getter u (sym is.there ∙ (ap (slice_get hs) (same_getter k h is) ∙ there))

      by_receiver : (o : Option ℕ) → k.receiver ≡ o → IsAsked o is.getter.port → (k ≡ any) ⊎ (k ≡ of_port any u.port)
      by_receiver None none asked = inl (with_receiver k any None all none ∙ all_any)
      by_receiver (Some m) some asked = inr (with_receiver k any (Some u.port) all (some ∙ ap Some (asked ∙ ap (λ (w : Seen). w.port) getter)))

  -- ---- what is crossed

  -- one of the stream that was sent later, and got before
  meets : (k : Stream) (o : ℕ) (f : IsFirst p hs c (a + 1) k o) → of_all k ≡ any → GotFirst any.kept.flow o f.there.getter g u → IsCrossed p hs c g o
  meets k o f same before =
      record {
        place = a;
        later = f.place;
        after = omega (arith, f.from);
        stream = any;
        one = comes;
        other = subst (λ l. Comes p hs c f.place (arrival l o)) same f.there.comes;
        reader = u;
        read = there;
        winner = f.there.getter;
        won = f.there.there;
        before = before;
      }

  module _ (m : BTreeMap Stream ℕ) (are : AreFirsts p hs c (a + 1) m) where
    pub crossed_by_place : (o : ℕ) → first_in m (of_port any u.port) ≡ Some o → o < g → IsCrossed p hs c g o
    crossed_by_place o is lt =
        let f : IsFirst p hs c (a + 1) (of_port any u.port) o = are.each (of_port any u.port) o is in
        meets (of_port any u.port) o f all_any (by_port_first any.kept.flow o g f.there.getter u (sym f.there.receiver) lt)

    pub crossed_by_call : (o : ℕ) → is_some any.kept.flow ≡ true → first_in m any ≡ Some o → EndedBefore hs o u → IsCrossed p hs c g o
    crossed_by_call o flow is ended =
        let f : IsFirst p hs c (a + 1) any o = are.each any o is in
        meets any o f all_any
        (by_call_first any.kept.flow o g f.there.getter u flow (subst (λ (w : Seen). w.ended < u.began) (same_Some ended.seen f.there.getter (sym ended.entry ∙ f.there.there)) ended.ended))

    -- ---- what isn't

    module _ (after : (o : ℕ) → first_in m (of_port any u.port) ≡ Some o → g ≤ o) (begun : is_some any.kept.flow ≡ true → (o : ℕ) → first_in m any ≡ Some o → ¬ EndedBefore hs o u) where
      -- the other's cell
      cell : (k : Stream) (b h : ℕ) → a + 1 ≤ b → IsIn p hs c k b h → (o : ℕ) × (first_in m k ≡ Some o) × IsFirst p hs c (a + 1) k o
      cell k b h from is = by_cell (first_in m k) refl
        where
          by_cell : (o : Option ℕ) → first_in m k ≡ o → (o : ℕ) × (first_in m k ≡ Some o) × IsFirst p hs c (a + 1) k o
          by_cell None none = absurd (are.none k b h none from is)
          by_cell (Some o) some = (o, some, are.each k o some)

      module _ (i j : ℕ) (bad : IsCrossed p hs c i j) (place : bad.place ≡ a) where
        arrived : arrival bad.stream i ≡ x
        arrived = comes_once p hs t ready a s at c (arrival bad.stream i) x (subst (λ b. Comes p hs c b (arrival bad.stream i)) place bad.one) comes

        getter_is : i ≡ g
        getter_is = ap (λ (y : Arrival). y.getter) arrived

        reader_is : bad.reader ≡ u
        reader_is = same_Some bad.reader u (sym bad.read ∙ (ap (slice_get hs) getter_is ∙ there))

        other : (k : Stream) → of_all k ≡ any → IsAsked k.receiver bad.winner.port → IsIn p hs c k bad.later j
        other k same asked =
            record {
              comes = subst (λ l. Comes p hs c bad.later (arrival l j)) (ap (λ (y : Arrival). y.stream) arrived ∙ sym same) bad.other;
              getter = bad.winner;
              there = bad.won;
              receiver = asked;
            }

        from : a + 1 ≤ bad.later
        from = omega (arith, place, bad.after)

        by_place : bad.winner.port ≡ bad.reader.port → j < i → ⊥
        by_place port lt =
            let is = other (of_port any u.port) all_any (ap (λ (w : Seen). w.port) (sym reader_is) ∙ sym port) in
            let o = cell (of_port any u.port) bad.later j from is in
            omega (arith, lt, getter_is, after o.0 o.1, (o.2).least bad.later j from is)

        by_call : is_some any.kept.flow ≡ true → bad.winner.ended < bad.reader.began → ⊥
        by_call flow lt =
            let is = other any all_any (subst (λ (k : Stream). IsAsked k.receiver bad.winner.port) all_any tt) in
            let o = cell any bad.later j from is in
            begun flow o.0 o.1
            (record {
              seen = (o.2).there.getter;
              entry = (o.2).there.there;
              ended = omega (
                arith,
                lt,
                ap (λ (w : Seen). w.began) reader_is,
                in_order hs o.0 j (o.2).there.getter bad.winner ready.sorted (o.2).there.there bad.won ((o.2).least bad.later j from is),
              );
            })

      pub not_crossed : (i j : ℕ) (bad : IsCrossed p hs c i j) → bad.place ≢ a
      not_crossed i j bad place =
          parts_first any.kept.flow j i bad.winner bad.reader (by_place i j bad place) (by_call i j bad place)
          (subst (λ (k : Stream). GotFirst k.kept.flow j bad.winner i bad.reader) (ap (λ (y : Arrival). y.stream) (arrived i j bad place)) bad.before)

-- ---- the cells, entry by entry

-- a cell takes what the entry's event adds to its stream
abbrev TakesIn : Plan → List Seen → Course → ℕ → ℕ → BTreeMap Stream ℕ → BTreeMap Stream ℕ → Stream → Type 0
TakesIn p hs c a g m n k =
    (IsIn p hs c k a g × (first_in n k ≡ Some (earlier (first_in m k) g))) ⊎ (((h : ℕ) → ¬ IsIn p hs c k a h) × (first_in n k ≡ first_in m k))

firsts_on : (p : Plan) (hs : List Seen) (c : Course) (a g : ℕ) (m n : BTreeMap Stream ℕ) → ((k : Stream) → TakesIn p hs c a g m n k) → ((k : Stream) (h : ℕ) → IsIn p hs c k a h → h ≡ g)
    → ((i j : ℕ) (bad : IsCrossed p hs c i j) → bad.place ≢ a) → AreFirsts p hs c (a + 1) m → AreFirsts p hs c a n
firsts_on p hs c a g m n takes one kept are =
    record {
      each = λ k x is. ⊎_elim (λ in_it. added k x in_it.0 (first_in m k) refl (sym is ∙ in_it.1)) (λ out. left k x out.0 (sym out.1 ∙ is)) (takes k);
      none = λ k b h is from in_b. ⊎_elim (λ in_it. none-some (earlier (first_in m k) g) (sym is ∙ in_it.1))
          (λ out. ⊎_elim (λ lt. are.none k b h (sym out.1 ∙ is) (omega (arith, lt)) in_b) (λ le. out.0 h (subst (λ d. IsIn p hs c k d h) (same_place b from le) in_b)) (cases_lt a b))
          (takes k);
      kept = λ i j bad. let differs = kept i j bad in below (bad.place) (are.kept i j bad) differs;
    }
  where
    same_place : (b : ℕ) → a ≤ b → b ≤ a → b ≡ a
    same_place b ge le = omega (arith, ge, le)

    below : (b : ℕ) → b < a + 1 → b ≢ a → b < a
    below b lt differs = omega (arith, lt, differs)

    -- of the stream's events the entry's own, or one that was sent later
    least_of : (k : Stream) (x : ℕ) → x ≤ g → ((b h : ℕ) → a + 1 ≤ b → IsIn p hs c k b h → x ≤ h) → (b h : ℕ) → a ≤ b → IsIn p hs c k b h → x ≤ h
    least_of k x le later b h from is =
        ⊎_elim (λ lt. later b h (omega (arith, lt)) is) (λ ge. omega (arith, le, one k h (subst (λ d. IsIn p hs c k d h) (same_place b from ge) is))) (cases_lt a b)

    added : (k : Stream) (x : ℕ) → IsIn p hs c k a g → (o : Option ℕ) → first_in m k ≡ o → Some x ≡ Some (earlier (first_in m k) g) → IsFirst p hs c a k x
    added k x is None none same =
        let x_is : x ≡ g = same_Some x g (same ∙ ap (λ o. Some (earlier o g)) none) in
        record {
          place = a;
          from = omega arith;
          there = subst (λ y. IsIn p hs c k a y) (sym x_is) is;
          least = least_of k x (omega (arith, x_is)) (λ b h from there. absurd (are.none k b h none from there));
        }
    added k x is (Some y) some same = by_order (cases_Bool (nat_le y g))
      where
        f : IsFirst p hs c (a + 1) k y
        f = are.each k y some

        x_is : x ≡ earlier (Some y) g
        x_is = same_Some x (earlier (Some y) g) (same ∙ ap (λ o. Some (earlier o g)) some)

        by_order : (nat_le y g ≡ true) ⊎ (nat_le y g ≡ false) → IsFirst p hs c a k x
        by_order (inl le) =
            let x_old : x ≡ y = x_is ∙ cond-true (nat_le y g) y g le in
            record {
              place = f.place;
              from = omega (arith, f.from);
              there = subst (λ z. IsIn p hs c k f.place z) (sym x_old) f.there;
              least = least_of k x (omega (arith, x_old, leb-true y g le)) (λ b h from there. omega (arith, x_old, f.least b h from there));
            }
        by_order (inr gt) =
            let x_new : x ≡ g = x_is ∙ cond-false (nat_le y g) y g gt in
            record {
              place = a;
              from = omega arith;
              there = subst (λ z. IsIn p hs c k a z) (sym x_new) is;
              least = least_of k x (omega (arith, x_new)) (λ b h from there. omega (arith, x_new, leb-false y g gt, f.least b h from there));
            }

    left : (k : Stream) (x : ℕ) → ((h : ℕ) → ¬ IsIn p hs c k a h) → first_in m k ≡ Some x → IsFirst p hs c a k x
    left k x out is =
        record {
          place = f.place;
          from = omega (arith, f.from);
          there = f.there;
          least = λ b h from there. ⊎_elim (λ lt. f.least b h (omega (arith, lt)) there) (λ ge. absurd (out h (subst (λ d. IsIn p hs c k d h) (same_place b from ge) there))) (cases_lt a b);
        }
      where
        f : IsFirst p hs c (a + 1) k x
        f = are.each k x is

-- an entry of whose NEW nothing is looked at
pub firsts_skip : (p : Plan) (hs : List Seen) (c : Course) (a : ℕ) (m : BTreeMap Stream ℕ) → ((x : Arrival) → ¬ Comes p hs c a x) → AreFirsts p hs c (a + 1) m → AreFirsts p hs c a m
firsts_skip p hs c a m out are =
    firsts_on p hs c a 0 m m (λ k. inr (λ h is. out (arrival (of_all k) h) is.comes, refl)) (λ k h is. absurd (out (arrival (of_all k) h) is.comes))
    (λ i j bad place. out (arrival bad.stream i) (subst (λ b. Comes p hs c b (arrival bad.stream i)) place bad.one)) are

-- an entry of whose NEW what came is in the stream of all ports and in that of its getter's port
pub firsts_more : (p : Plan) (hs : List Seen) (c : Course) (t : Tables) (ready : AreReady p hs t) (a : ℕ) (s : Seen) (at : slice_get hs a ≡ Some s) (x : Arrival) (comes : Comes p hs c a x) (u : Seen)
    (there : slice_get hs x.getter ≡ Some u) (m mid n : BTreeMap Stream ℕ) → AreFirsts p hs c (a + 1) m → IsNoted m mid x.stream x.getter → IsNoted mid n (of_port x.stream u.port) x.getter
    → ((i j : ℕ) (bad : IsCrossed p hs c i j) → bad.place ≢ a) → AreFirsts p hs c a n
firsts_more p hs c t ready a s at x comes u there m mid n are first second kept =
    firsts_on p hs c a g m n (λ k. takes k (cases_Bool (is_same_stream k any)) (cases_Bool (is_same_stream k own))) (same_getter p hs c t ready a s at x comes u there) kept are
  where
    g : ℕ
    g = x.getter

    any : Stream
    any = x.stream

    own : Stream
    own = of_port x.stream u.port

    no_receiver : any.receiver ≡ None
    no_receiver = ap (λ (k : Stream). k.receiver) (sym (comes_to_all p hs c a x comes))

    apart : (k : Stream) → is_same_stream k any ≡ true → is_same_stream k own ≡ true → ⊥
    apart k one other = none-some u.port (sym no_receiver ∙ ap (λ (l : Stream). l.receiver) (sym (same_streams k any one) ∙ same_streams k own other))

    takes : (k : Stream) → (is_same_stream k any ≡ true) ⊎ (is_same_stream k any ≡ false) → (is_same_stream k own ≡ true) ⊎ (is_same_stream k own ≡ false) → TakesIn p hs c a g m n k
    takes k (inl one) (inl other) = absurd (apart k one other)
    takes k (inl one) (inr no_other) =
        inl (
          subst (λ l. IsIn p hs c l a g) (sym (same_streams k any one)) (here_any p hs c t ready a s at x comes u there),
          second k
              ∙ (cond-false (is_same_stream k own) (Some (earlier (first_in mid own) g)) (first_in mid k) no_other
              ∙ (first k ∙ (cond-true (is_same_stream k any) (Some (earlier (first_in m any) g)) (first_in m k) one ∙ ap (λ l. Some (earlier (first_in m l) g)) (sym (same_streams k any one))))),
        )
    takes k (inr no_one) (inl other) =
        inl (
          subst (λ l. IsIn p hs c l a g) (sym (same_streams k own other)) (here_own p hs c t ready a s at x comes u there),
          second k
              ∙ (cond-true (is_same_stream k own) (Some (earlier (first_in mid own) g)) (first_in mid k) other
              ∙ (ap (λ l. Some (earlier (first_in mid l) g)) (sym (same_streams k own other))
              ∙ ap (λ o. Some (earlier o g)) (first k ∙ cond-false (is_same_stream k any) (Some (earlier (first_in m any) g)) (first_in m k) no_one))),
        )
    takes k (inr no_one) (inr no_other) =
        inr (
          λ h is. ⊎_elim (λ same. false≢true (sym no_one ∙ (ap (is_same_stream k) (sym same) ∙ stream_self k))) (λ same. false≢true (sym no_other ∙ (ap (is_same_stream k) (sym same) ∙ stream_self k)))
              (same_stream p hs c t ready a s at x comes u there k h is),
          second k
              ∙ (cond-false (is_same_stream k own) (Some (earlier (first_in mid own) g)) (first_in mid k) no_other
              ∙ (first k ∙ cond-false (is_same_stream k any) (Some (earlier (first_in m any) g)) (first_in m k) no_one)),
        )

pub where_none : {X : Type 0} {Q : Type 0} (o : Option X) → is_some o ≡ false → IfNone o Q → Q
where_none None is q = q
where_none (Some x) is q = cc
