-- The first events of a level: what they are where none of it is parked, and what is left where they go.
use Rattle.std.proofs.Common.{◌≡◌, ℕ, ◌<◌, ◌≤◌, ◌==◌, Bool, true, false, cond, List, [], ◌∷◌, ◌++◌, filter, get_or, All, slice_get, ⊎_elim, refl, sym, ap, ◌∙◌, subst, arith, eq-eqb, eqb-true, ◌+◌, length, ◌-◌, ◌%◌, map, drop, set}
use Rattle.std.proofs.Math.Nat.{mod-lt}
use Rattle.std.proofs.lemmas.List.{drop-drop, get_or-map, get_or-set_same, length-map, length-set, set-get_or, set-set}
use Rattle.std.proofs.lemmas.Bool.{cases_lt, cases_eq}
use Rattle.std.proofs.lemmas.List.Elements.{All-filter, All-head, All-tail, All-weaker}
use Rattle.std.proofs.lemmas.List.Kept.{AllPairs-filter}
use Rattle.lists.proofs.Lists.{All-front, eqb_other, eqb_same, filter_agree_all}
use Rattle.evt_types.specs.Plan.{level_of}
use Rattle.evt_types.specs.declared.event.Delivery.{Delivery}
use Rattle.evt_types.specs.declared.event.Numbered.{Numbered}
use Rattle.small_set.specs.SmallSets.{Has, IsEmpty}
use Rattle.small_set.specs.declared.set.SmallSet.{SmallSet}
use Rattle.small_set.specs.SmallSets.{SameBut}
use Rattle.parked_queue.specs.Busy.{AreNoted}
use Rattle.parked_queue.specs.Lists.{Lists, has_number, list_at, named_delivery, with_list, without_first}
use Rattle.parked_queue.specs.Parkings.{IsChanged, IsParted, waits_by}
use Rattle.parked_queue.specs.declared.level.Levels.{Levels}
use Rattle.parked_queue.specs.declared.parking.Parking.{Parking}
use Rattle.parked_queue.specs.Merge.{is_in}
use Rattle.parked_queue.specs.Parted.{HasMarks, Parted, below_at, list_count, list_in, list_of}
use Rattle.parked_queue.specs.Rows.{at_level, is_at, without_all}
use Rattle.parked_queue.specs.Waits.{AreNamed, AreWaits, IsFirstAllowed, IsOnlyOf, IsRising, Waits, is_other, slot_of, without_number, waits_at, no_waits}
use Rattle.parked_queue.proofs.Holding.{list_if_not, list_if_parked}
use Rattle.parked_queue.proofs.Splits.{first_least, first_split, first_there}
use Rattle.parked_queue.proofs.Calls.{changed_on, headless, level_list, list_there}
use Rattle.parked_queue.proofs.Seen.{noted_less}
use Rattle.parked_queue.proofs.Segments.{but_none}
use Rattle.parked_queue.proofs.Without.{first_out, list_same}

-- an event is in the level's own list just where it is of the level, if none of it is parked
own_test : (slots : ℕ) (below : List ℕ) (c : ℕ) (u : Numbered) → c < 4 → (level_of u.event ≡ c → below_at below c ≤ u.number) → is_in (list_of slots below) c u ≡ is_at c u
own_test slots below c u few main =
    ⊎_elim
    (λ lt. let parked = list_if_parked slots below u lt in
    eqb_other (list_of slots below u) c (λ e. omega (arith, few, parked, e))
    ∙ sym (eqb_other (level_of u.event) c (λ e. let le = main e in let same = ap (below_at below) e in omega (arith, lt, le, same))))
    (λ le. ap (λ k. k == c) (list_if_not slots below u le))
    (cases_lt u.number (below_at below (level_of u.event)))

pub own_list : (v : Parted) (c : ℕ) (marks : SmallSet) → c < 4 → HasMarks v c marks → IsEmpty marks → list_in v c ≡ at_level c v.waits
own_list v c marks few has empty =
    filter_agree_all (is_in (list_of v.waits.slots v.below) c) (is_at c) v.waits.waiting
    (λ k d lt. own_test v.waits.slots v.below c (get_or v.waits.waiting k d) few
    (λ here. ⊎_elim (λ lower. absurd (empty (slot_of v.waits.slots (get_or v.waits.waiting k d)) (has.marked k d lt here lower))) (λ le. le) (cases_lt (get_or v.waits.waiting k d).number (below_at v.below c))))

-- they name their queue
pub heads_named : (q c : ℕ) (v : Waits) (heads rest : List Numbered) → AreNamed q v.waiting → at_level c v ≡ heads ++ rest → AreNamed q heads
heads_named q c v heads rest named whole =
    All-front (λ (w : Numbered). w.event.queue ≡ q) heads rest (subst (All (λ (w : Numbered). w.event.queue ≡ q)) whole (All-filter (is_at c) (λ (w : Numbered). w.event.queue ≡ q) v.waiting named))

-- the first event of the level is the first one that is allowed, where all are
pub first_at : (v : Waits) (c : ℕ) (allowed : SmallSet) (w : Numbered) (ws : List Numbered) → AreWaits v → at_level c v ≡ w ∷ ws → Has allowed (slot_of v.slots w) → IsFirstAllowed v c allowed w
first_at v c allowed w ws waits whole may =
    let split = first_split (is_at c) v.waiting w waits.rising (ap (λ xs. slice_get xs 0) whole) in
    record {
      waits = first_there (is_at c) v.waiting w split;
      level = eqb-true (level_of w.event) c split.is.here;
      slot = may;
      first = λ k d lt here has. first_least (is_at c) v.waiting w split k d lt (eq-eqb (level_of (get_or v.waiting k d).event) c here);
    }

-- the level's events without the one of a number
filter_both : (p r : Numbered → Bool) (ws : List Numbered) → filter p (filter r ws) ≡ filter r (filter p ws)
filter_both p r [] = refl
filter_both p r (w ∷ ws) = one (r w) ∙ (swap (p w) (r w) (filter p (filter r ws)) (filter r (filter p ws)) (filter_both p r ws) ∙ sym (other (p w)))
  where
    one : (d : Bool) → filter p (cond d (w ∷ filter r ws) (filter r ws)) ≡ cond d (cond (p w) (w ∷ filter p (filter r ws)) (filter p (filter r ws))) (filter p (filter r ws))
    one true = refl
    one false = refl

    other : (b : Bool) → filter r (cond b (w ∷ filter p ws) (filter p ws)) ≡ cond b (cond (r w) (w ∷ filter r (filter p ws)) (filter r (filter p ws))) (filter r (filter p ws))
    other true = refl
    other false = refl

    swap : (b d : Bool) (xs ys : List Numbered) → xs ≡ ys → cond d (cond b (w ∷ xs) xs) xs ≡ cond b (cond d (w ∷ ys) ys) ys
    swap true true xs ys same = ap (λ zs. w ∷ zs) same
    swap true false xs ys same = same
    swap false true xs ys same = same
    swap false false xs ys same = same

-- the first event of the level goes
pub rest_at : (v : Waits) (c : ℕ) (w : Numbered) (ws : List Numbered) → AreWaits v → at_level c v ≡ w ∷ ws → at_level c (without_number v w.number) ≡ ws
rest_at v c w ws waits whole =
    filter_both (is_at c) (is_other w.number) v.waiting
    ∙ (ap (filter (is_other w.number)) whole
    ∙ sym (first_out w.number (w ∷ ws) (subst IsRising whole (AllPairs-filter (λ (x y : Numbered). x.number < y.number) (is_at c) v.waiting waits.rising)) (eqb_same w.number)))

-- ---- several events go

-- one more
pub without_more : (v : Waits) (ds : List Delivery) (d : Delivery) → without_all v (ds ++ d ∷ []) ≡ without_number (without_all v ds) d.number
without_more v [] d = refl
without_more v (e ∷ ds) d = without_more (without_number v e.number) ds d

-- what is said of the events of a number is said when others are gone
pub only_still : (v : Waits) (c slot n : ℕ) (ds : List Delivery) → IsOnlyOf v c slot n → IsOnlyOf (without_all v ds) c slot n
only_still v c slot n [] only = only
only_still v c slot n (d ∷ ds) only =
    only_still (without_number v d.number) c slot n ds (All-filter (is_other d.number) (λ (w : Numbered). w.number ≡ n → (level_of w.event ≡ c) × (slot_of v.slots w ≡ slot)) v.waiting only)

pub slots_still : (v : Waits) (ds : List Delivery) → (without_all v ds).slots ≡ v.slots
slots_still v [] = refl
slots_still v (d ∷ ds) = slots_still (without_number v d.number) ds

-- ---- the first events of a list go

pub dropped_at : (l m : Lists) (k : ℕ) (xs : List Numbered) → k < length l.lists → m ≡ with_list l k xs → list_at m k ≡ xs
dropped_at l m k xs there is = ap (λ x. list_at x k) is ∙ get_or-set_same l.lists k xs [] there

with_twice : (l : Lists) (k : ℕ) (xs ys : List Numbered) → with_list (with_list l k xs) k ys ≡ with_list l k ys
with_twice l k xs ys = ap (λ ls. record l { lists = ls }) (set-set l.lists k xs ys)

-- the first events of the level's own list go, so many
pub heads_gone : (l : Lists) (p : Parking) (c : ℕ) (hs rest : List Numbered) → IsParted l p → c < 4 → list_at l (p.base + c) ≡ hs ++ rest
    → All (λ (w : Numbered). IsOnlyOf (waits_by l p) c (w.event.flow % p.slots) w.number) hs
    → (length hs ≤ p.count) × IsChanged l p (with_list l (p.base + c) (drop (length hs) (list_at l (p.base + c)))) (record p { count = p.count - length hs }) (without_all (waits_by l p) (map named_delivery hs))
heads_gone l p c [] rest is few whole only =
    let same : with_list l (p.base + c) (drop 0 (list_at l (p.base + c))) ≡ l = list_same l (p.base + c) in
    let none : ◌≡◌ {A = Parking} (record p { count = p.count - 0 }) p = ap (λ k. record p { count = k }) (omega arith) in (
      omega arith,
      subst (λ m. IsChanged l p m (record p { count = p.count - 0 }) (waits_by l p)) (sym same)
          (subst (λ x. IsChanged l p l x (waits_by l p)) (sym none) (record { part = is; base = refl; slots = refl; but = but_none p.base (list_count p.slots) l; waits = refl })),
    )
heads_gone l p c (w ∷ hs) rest is few whole only =
    let k : ℕ = p.base + c in
    let m : Lists = without_first l k in
    let x : Parking = record p { count = p.count - 1 } in
    let there : k < length l.lists = list_there l p is c (level_list l p is c few) in
    let some = is.parking.waits.some in
    let one = headless l p is m c (w.event.flow % p.slots) w.number few (mod-lt w.event.flow some) (All-head (λ (u : Numbered). IsOnlyOf (waits_by l p) c (u.event.flow % p.slots) u.number) w hs only)
    (ap (λ us. has_number w.number (slice_get us 0)) whole ∙ eqb_same w.number) refl
    in
    let left : list_at m k ≡ hs ++ rest = dropped_at l m k (drop 1 (list_at l k)) there refl ∙ ap (drop 1) whole in
    let on = heads_gone m x c hs rest one.1.part few left
    (All-weaker (λ (u : Numbered). IsOnlyOf (waits_by l p) c (u.event.flow % p.slots) u.number) (λ (u : Numbered). IsOnlyOf (waits_by m x) c (u.event.flow % p.slots) u.number)
    (λ u o. subst (λ v. IsOnlyOf v c (u.event.flow % p.slots) u.number) (sym one.1.waits) (only_still (waits_by l p) c (u.event.flow % p.slots) u.number (named_delivery w ∷ []) o)) hs
    (All-tail (λ (u : Numbered). IsOnlyOf (waits_by l p) c (u.event.flow % p.slots) u.number) w hs only))
    in
    let lists : with_list m k (drop (length hs) (list_at m k)) ≡ with_list l k (drop (1 + length hs) (list_at l k)) =
    ap (λ xs. with_list m k (drop (length hs) xs)) (dropped_at l m k (drop 1 (list_at l k)) there refl)
    ∙ (with_twice l k (drop 1 (list_at l k)) (drop (length hs) (drop 1 (list_at l k))) ∙ ap (with_list l k) (drop-drop (length hs) 1 (list_at l k)))
    in
    let longer : 1 + length hs ≡ length (w ∷ hs) = omega arith in
    let counts : p.count - 1 - length hs ≡ p.count - length (w ∷ hs) = omega arith in (
      omega (arith, one.0, on.0),
      subst (λ n. IsChanged l p n (record p { count = p.count - length (w ∷ hs) }) (without_all (waits_by l p) (map named_delivery (w ∷ hs)))) (lists ∙ ap (λ j. with_list l k (drop j (list_at l k))) longer)
          (subst (λ j. IsChanged l p (with_list m k (drop (length hs) (list_at m k))) (record p { count = j }) (without_all (waits_by l p) (map named_delivery (w ∷ hs)))) counts
          (subst (λ v. IsChanged l p (with_list m k (drop (length hs) (list_at m k))) (record x { count = x.count - length hs }) (without_all v (map named_delivery hs))) one.1.waits
          (changed_on l m (with_list m k (drop (length hs) (list_at m k))) p x (record x { count = x.count - length hs }) (without_number (waits_by l p) w.number) (without_all (waits_by m x) (map named_delivery hs)) one.1 on.1))),
    )

-- ---- what is said of all queues

pub noted_all : (qs : List Waits) (ls : List Levels) (busy : SmallSet) (q : ℕ) (ds : List Delivery) → q < length qs → AreNoted qs ls busy → AreNoted (set qs q (without_all (waits_at qs q) ds)) ls busy
noted_all qs ls busy q [] there noted = subst (λ xs. AreNoted xs ls busy) (sym (set-get_or qs q (no_waits 1 0))) noted
noted_all qs ls busy q (d ∷ ds) there noted =
    let u : Waits = without_number (waits_at qs q) d.number in
    let here : waits_at (set qs q u) q ≡ u = get_or-set_same qs q u (no_waits 1 0) there in
    subst (λ xs. AreNoted xs ls busy) (ap (λ v. set (set qs q u) q (without_all v ds)) here ∙ set-set qs q u (without_all u ds))
    (noted_all (set qs q u) ls busy q ds (omega (arith, there, length-set qs q u)) (noted_less qs qs ls busy q noted refl there d.number))

-- nothing is left in the queue
pub noted_none : (qs : List Waits) (ls : List Levels) (busy now : SmallSet) (q : ℕ) → q < length qs → AreNoted qs ls busy → (waits_at qs q).waiting ≡ [] → SameBut q busy now → AreNoted qs ls now
noted_none qs ls busy now q there noted none same =
    record {
      levels = noted.levels;
      busy =
          record {
            few = noted.busy.few;
            there = λ k has. ⊎_elim (λ e. omega (arith, e, there)) (λ ne. noted.busy.there k ((same k ne).0 has)) (cases_eq k q);
            rest = λ k never. ⊎_elim (λ e. ap (λ j. (waits_at qs j).waiting) e ∙ none) (λ ne. noted.busy.rest k (λ has. never ((same k ne).1 has))) (cases_eq k q);
          };
      named = noted.named;
    }

-- what is said of a row's events, said of its heads
pub only_heads : (v w : Waits) (c n : ℕ) (row : List Delivery) (hs : List Numbered) → v ≡ w → v.slots ≡ n → row ≡ map named_delivery hs → All (λ (d : Delivery). IsOnlyOf w c (d.event.flow % w.slots) d.number) row
    → All (λ (u : Numbered). IsOnlyOf v c (u.event.flow % n) u.number) hs
only_heads v w c n row hs same slots is only k d lt =
    let all : All (λ (e : Delivery). IsOnlyOf v c (e.event.flow % n) e.number) (map named_delivery hs) =
    subst (All (λ (e : Delivery). IsOnlyOf v c (e.event.flow % n) e.number)) is
    (subst (λ m. All (λ (e : Delivery). IsOnlyOf v c (e.event.flow % m) e.number) row) slots (subst (λ x. All (λ (e : Delivery). IsOnlyOf x c (e.event.flow % x.slots) e.number) row) (sym same) only))
    in
    subst (λ (e : Delivery). IsOnlyOf v c (e.event.flow % n) e.number) (get_or-map named_delivery hs k d (named_delivery d) lt) (all k (named_delivery d) (omega (arith, lt, length-map hs named_delivery)))

-- the change that a row of heads makes, where it is as long
pub row_gone : (l m : Lists) (p : Parking) (c : ℕ) (hs rest : List Numbered) (row : List Delivery) → IsParted l p → c < 4 → list_at l (p.base + c) ≡ hs ++ rest → All (λ (w : Numbered). IsOnlyOf (waits_by l p) c (w.event.flow % p.slots) w.number) hs
    → row ≡ map named_delivery hs → m ≡ with_list l (p.base + c) (drop (length row) (list_at l (p.base + c))) → (length row ≤ p.count) × IsChanged l p m (record p { count = p.count - length row }) (without_all (waits_by l p) row)
row_gone l m p c hs rest row is few whole only row_is gone =
    let went = heads_gone l p c hs rest is few whole only in
    let long : length hs ≡ length row = sym (ap length row_is ∙ length-map hs named_delivery) in (
      omega (arith, long, went.0),
      subst (λ x. IsChanged l p x (record p { count = p.count - length row }) (without_all (waits_by l p) row)) (sym gone)
          (subst (λ ds. IsChanged l p (with_list l (p.base + c) (drop (length row) (list_at l (p.base + c)))) (record p { count = p.count - length row }) (without_all (waits_by l p) ds)) (sym row_is)
          (subst (λ n. IsChanged l p (with_list l (p.base + c) (drop n (list_at l (p.base + c)))) (record p { count = p.count - n }) (without_all (waits_by l p) (map named_delivery hs))) long went.1)),
    )
