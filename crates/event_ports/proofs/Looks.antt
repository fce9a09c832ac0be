-- Which links a dequeue passes over: those of lanes that aren't left to be looked at.
use Rattle.std.proofs.Common.{◌≡◌, ◌≢◌, ℕ, zero, suc, ◌+◌, ◌-◌, ◌<◌, ◌≤◌, ◌⊎◌, inl, inr, Bool, true, false, List, [], ◌∷◌, length, set, get_or, slice_get, All, Option, Some, None, IfSome, IfNone, MatchOption, refl, sym, ap, ◌∙◌, subst, ⊎_elim, arith}
use Rattle.std.proofs.lemmas.Bool.{false≢true}
use Rattle.std.proofs.lemmas.List.{get_or-set_same, get_or-set_other}
use Rattle.std.proofs.lemmas.List.Elements.{All-nil, All-cons}
use Rattle.std.proofs.lemmas.Option.{none-some, same_Some}
use Rattle.std.specs.Option.{is_some}
use mathlib.Core.Logic.{dite}
use native.Mathlib.Decide.{ℕ_discrete, dec_le}
use Rattle.small_set.proofs.Counts.{counted_more, one_if}
use Rattle.lane_rings.specs.LaneSets.{AreLowest, Has, IsEmpty, IsFirst, SameBut, is_in, lanes_below, lanes_in}
use Rattle.lane_rings.specs.declared.hints.LaneSet.{LaneSet}
use Rattle.lane_rings.proofs.LaneSets.{none_in}
use Rattle.flow_claims.specs.declared.claim.Stint.{Stint}
use Rattle.event_ports.specs.Holds.{IsDrained, entry_at}
use Rattle.event_ports.specs.Looks.{AreFirst, IsLinkSet, HasHeld, IsIn}
use Rattle.event_ports.proofs.Entries.{Stints}

-- ---- how many lanes of a set are below one

below_more : (s : LaneSet) (n : ℕ) → lanes_below s (suc n) ≡ lanes_below s n + one_if (is_in s n)
unfolding lanes_below
below_more s n = counted_more (is_in s) n

below_rises : (s : LaneSet) (a d : ℕ) → lanes_below s a ≤ lanes_below s (a + d)
below_rises s a zero =
    let at : a + 0 ≡ a = omega arith in
    let same = ap (lanes_below s) at in
    omega arith
below_rises s a (suc d) =
    let at : a + suc d ≡ suc (a + d) = omega arith in
    let same = ap (lanes_below s) at in
    let more = below_more s (a + d) in
    let before = below_rises s a d in
    omega arith

below_le : (s : LaneSet) (a b : ℕ) → a ≤ b → lanes_below s a ≤ lanes_below s b
below_le s a b le =
    let at : a + (b - a) ≡ b = omega arith in
    let same = ap (lanes_below s) at in
    let rises = below_rises s a (b - a) in
    omega arith

-- one that is in the set is counted below each that is higher
below_one : (s : LaneSet) (i n : ℕ) → i < n → Has s i → lanes_below s i + 1 ≤ lanes_below s n
below_one s i n lt here =
    let more = below_more s i in
    let one : one_if (is_in s i) ≡ 1 = ap one_if here in
    let le = below_le s (suc i) n (omega arith) in
    omega arith

-- a set of no lanes has none
none_of : (s : LaneSet) → lanes_in s ≡ 0 → (lane : ℕ) → lane < 128 → ¬ Has s lane
none_of s none lane lt here = let one = below_one s lane 128 lt here in absurd (omega arith)

-- where the lowest ones are none, there are none
none_lowest : (s low : LaneSet) (most : ℕ) → AreLowest s most low → IsEmpty low → 0 < most → (lane : ℕ) → lane < 128 → ¬ Has s lane
none_lowest s low most are empty some lane lt here =
    let none = none_in low empty in
    let count = are.count in
    none_of s (omega (arith, none, count, some)) lane lt here

pub none_left : (o : Option ℕ) (s low : LaneSet) (most : ℕ) → AreLowest s most low → IfNone o (IsEmpty low) → IfNone o (0 < most → (lane : ℕ) → lane < 128 → ¬ Has s lane)
none_left None s low most are empty = none_lowest s low most are empty
none_left (Some k) s low most are none = tt

-- ---- lanes in a set

true_or_not : (b : Bool) → (b ≡ true) ⊎ (¬ b ≡ true)
true_or_not true = inl refl
true_or_not false = inr (λ e. false≢true e)

in_or_not : (s : LaneSet) (lane : ℕ) → IsIn s lane ⊎ (¬ IsIn s lane)
in_or_not s lane =
    dite (dec_le (suc lane) 128)
    (λ lt. ⊎_elim (λ here. inl (lt, here)) (λ no. inr (λ both. no both.1)) (true_or_not (is_in s lane)))
    (λ ge. inr (λ both. ge both.0))

same_or_not : (i j : ℕ) → (i ≡ j) ⊎ (i ≢ j)
same_or_not i j = dite (ℕ_discrete i j) (λ e. inl e) (λ ne. inr ne)

-- the lowest of the lanes that are first leaves both sets
pub first_less : (next left fewer less : LaneSet) (lane : ℕ) → AreFirst next left → IsFirst next lane → (¬ Has fewer lane) → (¬ Has less lane) → SameBut lane next fewer → SameBut lane left less → AreFirst fewer less
first_less next left fewer less lane are lowest gone out others rest = record {
  within = λ i here. ⊎_elim (λ e. absurd (gone (subst (Has fewer) e here))) (λ ne. (rest i ne).1 (are.within i ((others i ne).0 here))) (same_or_not i lane);
  first = λ i j there here le.
      ⊎_elim
      (λ e. absurd (gone (subst (Has fewer) e there)))
      (λ apart.
      ⊎_elim
      (λ e. absurd (out (subst (Has less) e here)))
      (λ ne. (others i ne).1 (are.first i j ((others j apart).0 there) ((rest i ne).0 here) le))
      (same_or_not i lane))
      (same_or_not j lane);
}

-- and is the lowest of all
pub first_of_all : (next left : LaneSet) (lane : ℕ) → AreFirst next left → IsFirst next lane → IsFirst left lane
first_of_all next left lane are lowest = record {
  within = lowest.within;
  there = are.within lane lowest.there;
  first = λ i here. dite (dec_le lane i) (λ le. le) (λ gt. absurd (gt (lowest.first i (are.first i lane lowest.there here (omega (arith, gt))))));
}

-- no lane is first where none was cleared
pub none_first : (next left : LaneSet) → IsEmpty next → AreFirst next left
none_first next left empty = record { within = λ i here. absurd (empty i here); first = λ i j there here le. absurd (empty j there) }

-- ---- the positions of links

pub get_within : {X : Type 0} (xs : List X) (i : ℕ) (x : X) → slice_get xs i ≡ Some x → i < length xs
get_within [] i x at = absurd (none-some x at)
get_within (y ∷ ys) zero x at = omega arith
get_within (y ∷ ys) (suc i) x at = let lt = get_within ys i x at in omega arith

pub got_there : (xs : List ℕ) (i : ℕ) → i < length xs → slice_get xs i ≡ Some (get_or xs i 0)
got_there [] i lt = absurd (omega (arith, lt))
got_there (x ∷ xs) zero lt = refl
got_there (x ∷ xs) (suc i) lt = got_there xs i (omega (arith, lt))

pub all_at : {X : Type 0} (P : X → Type 0) (xs : List X) → ((i : ℕ) (x : X) → slice_get xs i ≡ Some x → P x) → All P xs
all_at P [] each = All-nil P
all_at P (x ∷ xs) each = All-cons P x xs (each 0 x refl) (all_at P xs (λ i y at. each (suc i) y at))

-- one lane more was put into a set
pub one_added : (links : List ℕ) (n here : ℕ) (s t : LaneSet) → slice_get links n ≡ Some here → (here < 128 → Has t here) → SameBut here s t
    → ((i lane : ℕ) → i < n → slice_get links i ≡ Some lane → lane < 128 → Has s lane) → (i lane : ℕ) → i < n + 1 → slice_get links i ≡ Some lane → lane < 128 → Has t lane
one_added links n here s t at there others all i lane lt is few =
    dite (ℕ_discrete lane here)
    (λ e. subst (Has t) (sym e) (there (omega (arith, e, few))))
    (λ ne. (others lane ne).1 (all i lane (dite (ℕ_discrete i n) (λ e. absurd (ne (same_Some lane here (sym is ∙ ap (slice_get links) e ∙ at)))) (λ apart. omega (arith, lt, apart))) is few))

-- the links from a position up to that of the lowest lane that is left are of lanes that aren't left
pub passed_over : (linked left : LaneSet) (links : List ℕ) (o : Option ℕ) (most lower : ℕ) → IsLinkSet linked links → MatchOption o (lower ≡ lanes_in linked) (λ k. lower ≡ lanes_below linked k)
    → IfSome o (IsFirst left) → IfNone o (0 < most → (lane : ℕ) → lane < 128 → ¬ Has left lane)
    → (j lane : ℕ) → j < lower → slice_get links j ≡ Some lane → 0 < most → IsIn linked lane × (¬ Has left lane)
passed_over linked left links None most lower are is first none j lane lt at some =
    ⊎_elim (λ seen. (seen, none some lane seen.0)) (λ no. absurd (omega (arith, lt, is, are.past j lane at no))) (in_or_not linked lane)
passed_over linked left links (Some k) most lower are is first none j lane lt at some =
    let few = below_le linked k 128 (omega (arith, first.within)) in
    ⊎_elim
    (λ seen. (seen, λ here. let le = below_le linked k lane (first.first lane here) in absurd (omega (arith, lt, is, le, are.placed j lane at seen))))
    (λ no. absurd (omega (arith, lt, is, few, are.past j lane at no)))
    (in_or_not linked lane)

-- and those that come after it are still left
pub left_after : (linked left after : LaneSet) (links : List ℕ) (o : Option ℕ) (lower position : ℕ) → IsLinkSet linked links → MatchOption o (lower ≡ lanes_in linked) (λ k. lower ≡ lanes_below linked k)
    → IfSome o (λ k. SameBut k left after) → IfNone o (after ≡ left) → (lower < length links → lower ≤ position)
    → (j lane : ℕ) → position < j → slice_get links j ≡ Some lane → IsIn linked lane → Has left lane → Has after lane
left_after linked left after links None lower position are is others same behind j lane lt at seen here = subst (λ s. Has s lane) (sym same) here
left_after linked left after links (Some k) lower position are is others same behind j lane lt at seen here =
    dite (ℕ_discrete lane k)
    (λ e. absurd (omega (arith, lt, is, ap (lanes_below linked) e, are.placed j lane at seen, behind (omega (arith, is, ap (lanes_below linked) e, are.placed j lane at seen, get_within links j lane at)))))
    (λ ne. (others lane ne).1 here)

-- no two links that are in the set are of one lane
pub placed_once : (linked : LaneSet) (links : List ℕ) (i j lane : ℕ) → IsLinkSet linked links → slice_get links i ≡ Some lane → slice_get links j ≡ Some lane → IsIn linked lane → i ≡ j
placed_once linked links i j lane are first second seen = sym (are.placed i lane first seen) ∙ are.placed j lane second seen

-- a link that passed the test
pub placed_by : (linked : LaneSet) (links : List ℕ) (n : ℕ) → n ≡ length links → ((i lane : ℕ) → slice_get links i ≡ Some lane → lane < 128 → Has linked lane)
    → ((i lane : ℕ) → i < n → slice_get links i ≡ Some lane → (lanes_below linked lane ≡ i) ⊎ ((lanes_in linked ≤ lanes_below linked lane) × (lanes_in linked ≤ i))) → IsLinkSet linked links
placed_by linked links n whole there each = record {
  placed = λ i lane at seen.
      ⊎_elim (λ e. e) (λ past. let one = below_one linked lane 128 seen.0 seen.1 in absurd (omega (arith, one, past.0))) (each i lane (omega (arith, whole, get_within links i lane at)) at);
  past = λ i lane at no.
      let high : 128 ≤ lane = dite (dec_le 128 lane) (λ le. le) (λ lt. absurd (no (omega (arith, lt), there i lane at (omega (arith, lt))))) in
      let all = below_le linked 128 lane high in
      ⊎_elim (λ e. omega (arith, all, e)) (λ past. past.1) (each i lane (omega (arith, whole, get_within links i lane at)) at);
}

pub none_placed : (none : LaneSet) (links : List ℕ) → IsEmpty none → IsLinkSet none links
none_placed none links empty = record {
  placed = λ i lane at seen. absurd (empty lane seen.1);
  past = λ i lane at no. omega (arith, none_in none empty);
}

-- ---- the lanes that are held

pub held_set : (held : LaneSet) (stints : Stints) (lane : ℕ) (o : Option Stint) → lane < length stints → (lane < 128 → is_some o ≡ true → Has held lane) → HasHeld held stints → HasHeld held (set stints lane o)
held_set held stints lane o lt here all j few is =
    dite (ℕ_discrete j lane)
    (λ e. subst (Has held) (sym e) (here (omega (arith, e, few)) (sym (ap is_some (ap (entry_at (set stints lane o)) e ∙ get_or-set_same stints lane o None lt)) ∙ is)))
    (λ ne. all j few (sym (ap is_some (get_or-set_other stints lane j o None ne)) ∙ is))

pub held_same : (held : LaneSet) (stints : Stints) (lane : ℕ) (o p : Option Stint) → lane < length stints → entry_at stints lane ≡ o → is_some p ≡ is_some o → HasHeld held stints → HasHeld held (set stints lane p)
held_same held stints lane o p lt at same all = held_set held stints lane p lt (λ few is. all lane few (ap is_some at ∙ sym same ∙ is)) all

-- a set that has the same lanes but for one of which the entry is free
pub held_less : (held less : LaneSet) (stints : Stints) (lane : ℕ) → lane < length stints → SameBut lane held less → HasHeld held stints → HasHeld less (set stints lane None)
held_less held less stints lane lt others all j few is =
    dite (ℕ_discrete j lane)
    (λ e. absurd (false≢true (sym (ap is_some (ap (entry_at (set stints lane None)) e ∙ get_or-set_same stints lane None None lt)) ∙ is)))
    (λ ne. (others j ne).1 (all j few (sym (ap is_some (get_or-set_other stints lane j None None ne)) ∙ is)))

pub held_more : (held more : LaneSet) (stints : Stints) (lane : ℕ) (s : Stint) → lane < length stints → (lane < 128 → Has more lane) → SameBut lane held more → HasHeld held stints → HasHeld more (set stints lane (Some s))
held_more held more stints lane s lt here others all j few is =
    dite (ℕ_discrete j lane)
    (λ e. subst (Has more) (sym e) (here (omega (arith, e, few))))
    (λ ne. (others j ne).1 (all j few (sym (ap is_some (get_or-set_other stints lane j (Some s) None ne)) ∙ is)))

pub free_drained : (o : Option Stint) → is_some o ≡ false → IsDrained o
free_drained None e = tt
free_drained (Some s) e = absurd (false≢true (sym e))
