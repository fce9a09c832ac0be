-- What is left of each value, entry by entry: what was sent is counted up, and what is got is counted down.
use Rattle.std.specs.Prelude.{ℕ, ◌≡◌, ◌+◌, ◌<◌, Bool, true, false, cond, ◌&&◌, List, ◌==◌, length, Option, Some, slice_get}
use Rattle.std.specs.BTreeMap.{BTreeMap, Updates, get, is_at}
use Rattle.std.specs.Option.{unwrap_or}
use Rattle.std.specs.Ordering.{MatchOrdering, is_eq, nat_cmp, ordering_then}
use Rattle.std.proofs.Common.{refl, sym, ap, ◌∙◌, arith, Ordering, Less, Equal, Greater}
use Rattle.std.proofs.lemmas.Bool.{and_from, cond-true}
use Rattle.std.proofs.lemmas.Cmp.{ranked}
use Rattle.std.proofs.lemmas.Option.{slice_get_within}
use Rattle.evt_types.specs.declared.event.Event.{Event}
use Rattle.lists.proofs.Lists.{eqb_other, eqb_same}
use Rattle.history_judge.proofs.Fits.{count_more}
use Rattle.history_judge.specs.Left.{AreAllSent, AreLeft, HasLeft, IsLacking, IsOneLess, left_for, value_cmp, value_of}
use Rattle.history_judge.specs.Values.{IsExcess, gets_value, is_same_but}
use Rattle.history_judge.specs.declared.seen.Seen.{Seen}
use Rattle.history_judge.specs.declared.values.Value.{Value}

-- ---- equal keys

pub eq_number : (n m : ℕ) → is_eq (nat_cmp n m) ≡ (m == n)
eq_number n m = by_case (nat_cmp n m) (ranked n m (nat_cmp n m) refl)
  where
    by_case : (r : Ordering) → MatchOrdering r (n < m) (n ≡ m) (m < n) → is_eq r ≡ (m == n)
    by_case Less lt = sym (eqb_other m n (λ same. omega (arith, lt, same)))
    by_case Equal same = sym (ap (λ k. k == n) (sym same) ∙ eqb_same n)
    by_case Greater lt = sym (eqb_other m n (λ same. omega (arith, lt, same)))

pub eq_then : (r o : Ordering) → is_eq (ordering_then r o) ≡ (is_eq r && is_eq o)
eq_then Less o = refl
eq_then Equal o = refl
eq_then Greater o = refl

-- one field more
pub eq_field : (n m : ℕ) (o : Ordering) (b : Bool) → is_eq o ≡ b → is_eq (ordering_then (nat_cmp n m) o) ≡ ((m == n) && b)
eq_field n m o b rest = eq_then (nat_cmp n m) o ∙ (ap (λ a. a && is_eq o) (eq_number n m) ∙ ap (λ a. (m == n) && a) rest)

pub is_at_value : (e f : Event) → is_at (value_cmp (value_of e)) (value_of f) ≡ is_same_but f e
is_at_value e f =
    eq_field e.flow f.flow _ _ (eq_field e.sub_type f.sub_type _ _ (eq_field e.event_type f.event_type _ _ (eq_field e.queue f.queue _ _ (eq_field e.priority f.priority _ _ (eq_number e.payload f.payload)))))

pub same_self : (e : Event) → is_same_but e e ≡ true
same_self e =
    and_from (e.flow == e.flow) _ (eqb_same e.flow) (and_from (e.sub_type == e.sub_type) _ (eqb_same e.sub_type)
    (and_from (e.event_type == e.event_type) _ (eqb_same e.event_type) (and_from (e.queue == e.queue) _ (eqb_same e.queue)
    (and_from (e.priority == e.priority) _ (eqb_same e.priority) (eqb_same e.payload)))))

-- ---- one count is written

count_or : (b : Bool) (n : ℕ) (o : Option ℕ) → unwrap_or (cond b (Some n) o) 0 ≡ cond b n (unwrap_or o 0)
count_or true n o = refl
count_or false n o = refl

pub left_set : (m n : BTreeMap Value ℕ) (e : Event) (count : ℕ) → Updates value_cmp m n (value_of e) (Some count) → HasLeft m n e count
left_set m n e count updates f =
    ap (λ o. unwrap_or o 0) (updates.0 (value_of f))
    ∙ (count_or (is_at (value_cmp (value_of e)) (value_of f)) count (get value_cmp m (value_of f))
    ∙ ap (λ b. cond b count (left_for m f)) (is_at_value e f))

-- ---- what was got

pub left_all : (hs : List Seen) (m : BTreeMap Value ℕ) → AreAllSent hs m → AreLeft hs 0 m
left_all hs m are e = omega (arith, are e)

pub left_less : (hs : List Seen) (i : ℕ) (s : Seen) (m n : BTreeMap Value ℕ) → slice_get hs i ≡ Some s → AreLeft hs i m → IsOneLess m n s → AreLeft hs (i + 1) n
left_less hs i s m n at are less e = omega (arith, are e, less e, count_more (λ (u : Seen). gets_value e u.deed) hs i s at)

-- what was there isn't missed
pub no_excess : (hs : List Seen) (i : ℕ) (n : BTreeMap Value ℕ) → AreLeft hs (i + 1) n → ¬ IsExcess hs i
no_excess hs i n are bad = omega (arith, are bad.event, bad.more)

pub is_excess : (hs : List Seen) (i : ℕ) (s : Seen) (m : BTreeMap Value ℕ) → slice_get hs i ≡ Some s → AreLeft hs i m → IsLacking m s → IsExcess hs i
is_excess hs i s m at are lacking =
    record {
      seen = s;
      entry = at;
      event = lacking.event;
      got = lacking.got;
      more = omega (
        arith,
        are lacking.event,
        lacking.none,
        count_more (λ (u : Seen). gets_value lacking.event u.deed) hs i s at,
        cond-true {A = ℕ} (gets_value lacking.event s.deed) 1 0 (ap (gets_value lacking.event) lacking.got ∙ same_self lacking.event),
      );
    }

pub excess_within : (hs : List Seen) (i : ℕ) → IsExcess hs i → i < length hs
excess_within hs i bad = slice_get_within hs i bad.seen bad.entry
