-- One queue among several, and what a change of it leaves of the others.
use Rattle.std.proofs.Common.{◌≡◌, ◌≢◌, ℕ, ◌+◌, ◌*◌, ◌^◌, ◌<◌, ◌≤◌, inl, inr, ⊎_elim, List, length, set, get_or, sym, ap, ◌∙◌, subst, arith, ◌==◌, false}
use Rattle.std.proofs.lemmas.Bool.{cases_eq, cases_lt}
use Rattle.std.proofs.lemmas.List.{length-map, length-set, get_or-map, get_or-set_same, get_or-set_other, get_or_default, ext_get_or}
use Rattle.std.proofs.lemmas.List.Sums.{get_or-le-sum_by, sum_by-set}
use Rattle.evt_types.specs.Plan.{level_of}
use Rattle.evt_types.specs.declared.event.Event.{Event}
use Rattle.small_set.specs.declared.set.SmallSet.{SmallSet}
use Rattle.parked_queue.specs.Busy.{AreNoted, AreQueues}
use Rattle.parked_queue.specs.Lists.{Lists, list_at, total_of, with_last}
use Rattle.parked_queue.specs.Marks.{IsParking, parted_in}
use Rattle.parked_queue.specs.Parkings.{AreApart, AreParkings, IsChanged, IsParted, all_waits, kept, no_parking, parking_at, parted_by, segment, waits_by}
use Rattle.parked_queue.specs.Parted.{list_in, list_count}
use Rattle.parked_queue.specs.Waits.{AreWaits, HasNoneOf, Waits, all_waiting, count_of, no_waits, waits_at, with_event}
use Rattle.parked_queue.specs.declared.level.Level.{Level}
use Rattle.parked_queue.specs.declared.level.Levels.{Levels}
use Rattle.parked_queue.specs.declared.parking.Parking.{Parking}
use Rattle.parked_queue.proofs.Accepting.{total_held}
use Rattle.parked_queue.proofs.Calls.{accepted, holds, level_list, list_fits, list_is, list_there}
use Rattle.parked_queue.proofs.Firsts.{not_empty, some_of_level}
use Rattle.parked_queue.proofs.Segments.{segment_same}

-- ---- one queue

pub part_at : (l : Lists) (ps : List Parking) (q : ℕ) → AreParkings l ps → q < length ps → IsParted l (parking_at ps q)
part_at l ps q are lt =
    let few = are.apart.few in
    let queues = are.queues in
    record { parking = are.each q lt; count = are.counts q lt; within = are.apart.within q lt; few = omega arith; room = are.within }

-- what waits in it
pub waits_read : (l : Lists) (ps : List Parking) (q : ℕ) → q < length ps → waits_at (all_waits l ps) q ≡ waits_by l (parking_at ps q)
waits_read l ps q lt = get_or-map (waits_by l) ps q no_parking (no_waits 1 0) lt

-- its lists have as many events
total_part : (l : Lists) (p : Parking) → IsParted l p → total_of (segment l p.base (list_count p.slots)) ≡ length (waits_by l p).waiting
total_part l p is = total_held (kept l p) (parted_by l p) (holds l p is)

-- ---- a queue is another

module _ (l m : Lists) (ps : List Parking) (q : ℕ) (p : Parking) (w : Waits) (are : AreParkings l ps) (lt : q < length ps) (is : IsChanged l (parking_at ps q) m p w) where
  here : parking_at (set ps q p) q ≡ p
  here = get_or-set_same ps q p no_parking lt

  other : (k : ℕ) → k ≢ q → parking_at (set ps q p) k ≡ parking_at ps k
  other k differs = get_or-set_other ps q k p no_parking differs

  long : length (set ps q p) ≡ length ps
  long = length-set ps q p

  same_base : (k : ℕ) → (parking_at (set ps q p) k).base ≡ (parking_at ps k).base
  same_base k = ⊎_elim (λ e. subst (λ j. (parking_at (set ps q p) j).base ≡ (parking_at ps j).base) (sym e) (ap (λ (x : Parking). x.base) here ∙ is.base)) (λ ne. ap (λ (x : Parking). x.base) (other k ne)) (cases_eq k q)

  same_slots : (k : ℕ) → (parking_at (set ps q p) k).slots ≡ (parking_at ps k).slots
  same_slots k = ⊎_elim (λ e. subst (λ j. (parking_at (set ps q p) j).slots ≡ (parking_at ps j).slots) (sym e) (ap (λ (x : Parking). x.slots) here ∙ is.slots)) (λ ne. ap (λ (x : Parking). x.slots) (other k ne)) (cases_eq k q)

  apart_after : AreApart (set ps q p) (length m.lists)
  apart_after =
      let n = is.but.count in
      let f = are.apart.few in
      let h = long in
      record {
        within = λ k less. let i = are.apart.within k (omega arith) in let a = same_base k in let b = same_slots k in omega arith;
        apart = λ i k lower less. let j = are.apart.apart i k lower (omega arith) in let a = same_base i in let b = same_slots i in let c = same_base k in omega arith;
        few = omega arith;
      }

  -- another queue is as it was
  kept_other : (k : ℕ) → k < length ps → k ≢ q → kept m (parking_at (set ps q p) k) ≡ kept l (parking_at ps k)
  kept_other k less differs =
      ap (kept m) (other k differs)
      ∙ ap (λ s. record (kept l (parking_at ps k)) { lists = s })
      (segment_same l m (parking_at ps k).base (list_count (parking_at ps k).slots) is.but.room
      (λ j low high. is.but.others j (⊎_elim
      (λ lower. let i = are.apart.apart k q lower lt in inl (omega arith))
      (λ le. let i = are.apart.apart q k (omega arith) less in inr (omega arith))
      (cases_lt k q))))

  waits_other : (k : ℕ) → k < length ps → k ≢ q → waits_by m (parking_at (set ps q p) k) ≡ waits_by l (parking_at ps k)
  waits_other k less differs = ap (λ a. (parted_in a).waits) (kept_other k less differs)

  waits_now : (k : ℕ) → k < length ps → waits_by m (parking_at (set ps q p) k) ≡ waits_at (set (all_waits l ps) q w) k
  waits_now k less =
      let n = length-map ps (waits_by l) in
      ⊎_elim
      (λ e. subst (λ j. waits_by m (parking_at (set ps q p) j) ≡ waits_at (set (all_waits l ps) q w) j) (sym e)
      (ap (waits_by m) here ∙ (is.waits ∙ sym (get_or-set_same (all_waits l ps) q w (no_waits 1 0) (omega arith)))))
      (λ ne. waits_other k less ne ∙ (sym (waits_read l ps k less) ∙ sym (get_or-set_other (all_waits l ps) q k w (no_waits 1 0) ne)))
      (cases_eq k q)

  -- in that queue alone another thing waits
  pub waits_after : all_waits m (set ps q p) ≡ set (all_waits l ps) q w
  waits_after =
      let h = long in
      let a = length-map ps (waits_by l) in
      let b = length-map (set ps q p) (waits_by m) in
      let c = length-set (all_waits l ps) q w in
      ext_get_or (no_waits 1 0) (all_waits m (set ps q p)) (set (all_waits l ps) q w) (omega arith)
      (λ k less. waits_read m (set ps q p) k (omega arith) ∙ waits_now k (omega arith))

  total_after : total_of m ≡ all_waiting (all_waits m (set ps q p))
  total_after =
      let before = total_part l (parking_at ps q) (part_at l ps q are lt) in
      let after : total_of (segment m (parking_at ps q).base (list_count (parking_at ps q).slots)) ≡ length w.waiting =
      ap (λ b. total_of (segment m b (list_count (parking_at ps q).slots))) (sym is.base)
      ∙ (ap (λ n. total_of (segment m p.base (list_count n))) (sym is.slots) ∙ (total_part m p is.part ∙ ap (λ (x : Waits). length x.waiting) is.waits)) in
      let both = is.but.total in
      let all = are.total in
      let n = length-map ps (waits_by l) in
      let sums = sum_by-set count_of (all_waits l ps) q w (no_waits 1 0) (omega arith) in
      let was : length (waits_at (all_waits l ps) q).waiting ≡ length (waits_by l (parking_at ps q)).waiting = ap (λ (x : Waits). length x.waiting) (waits_read l ps q lt) in
      let now = ap all_waiting waits_after in
      omega arith

  parking_after : (k : ℕ) → k < length ps → IsParking (kept m (parking_at (set ps q p) k))
  parking_after k less =
      ⊎_elim
      (λ e. subst (λ j. IsParking (kept m (parking_at (set ps q p) j))) (sym e) (subst (λ x. IsParking (kept m x)) (sym here) is.part.parking))
      (λ ne. subst IsParking (sym (kept_other k less ne)) (are.each k less))
      (cases_eq k q)

  counts_after : (k : ℕ) → k < length ps → (parking_at (set ps q p) k).count ≡ length (waits_by m (parking_at (set ps q p) k)).waiting
  counts_after k less =
      ⊎_elim
      (λ e. subst (λ j. (parking_at (set ps q p) j).count ≡ length (waits_by m (parking_at (set ps q p) j)).waiting) (sym e) (subst (λ (x : Parking). x.count ≡ length (waits_by m x).waiting) (sym here) is.part.count))
      (λ ne. ap (λ (x : Parking). x.count) (other k ne) ∙ (are.counts k less ∙ sym (ap (λ (x : Waits). length x.waiting) (waits_other k less ne))))
      (cases_eq k q)

  pub parkings_after : AreParkings m (set ps q p)
  parkings_after =
      record {
        apart = apart_after;
        queues = let h = long in let g = are.queues in omega arith;
        each = λ k less. let h = long in parking_after k (omega arith);
        counts = λ k less. let h = long in counts_after k (omega arith);
        total = total_after;
        within = is.part.room;
        small = let r = is.but.room in let small = are.small in omega arith;
      }

-- ---- a queue as it is asked

-- it is read, and what is known of it
pub record IsAsked (l : Lists) (ps : List Parking) (qs : List Waits) (q : ℕ) (p : Parking) : Type 0 where
  pub there : q < length ps
  pub is : p ≡ parking_at ps q
  pub part : IsParted l p
  pub waits : waits_by l p ≡ waits_at qs q
  pub sound : AreWaits (waits_at qs q)
  pub total : total_of l ≡ all_waiting qs
  pub share : length (waits_at qs q).waiting ≤ all_waiting qs
  pub small : l.room < 2 ^ 64

module _ (l : Lists) (ps : List Parking) (qs : List Waits) (q : ℕ) (are : AreParkings l ps) (view : all_waits l ps ≡ qs) (lt : q < length qs) where
  pub there : q < length ps
  there = let e = ap length view in let n = length-map ps (waits_by l) in omega arith

  pub asked : (p : Parking) → p ≡ get_or ps q p → IsAsked l ps qs q p
  asked p read =
      let is : p ≡ parking_at ps q = read ∙ get_or_default ps q p no_parking there in
      let part : IsParted l p = subst (IsParted l) (sym is) (part_at l ps q are there) in
      let same : waits_by l p ≡ waits_at qs q = ap (waits_by l) is ∙ (sym (waits_read l ps q there) ∙ ap (λ ws. waits_at ws q) view) in
      record {
        there = there;
        is = is;
        part = part;
        waits = same;
        sound = subst AreWaits same part.parking.waits;
        total = are.total ∙ ap all_waiting view;
        share = get_or-le-sum_by count_of qs q (no_waits 1 0) lt;
        small = are.small;
      }

  -- the list of a level is there
  module _ (p : Parking) (read : p ≡ get_or ps q p) (c : ℕ) (few : c < 4) where
    pub level_there : p.base + c < length l.lists
    level_there = let a = asked p read in list_there l p a.part c (level_list l p a.part c few)

    pub level_fits : p.base + c ≤ 16640
    level_fits = let a = asked p read in list_fits l p a.part c (level_list l p a.part c few)

  -- and the lists of its slots, row by row
  pub row_there : (p : Parking) → p ≡ get_or ps q p → (row c : ℕ) → c < 4 → row < p.slots + 1
      → length (list_at l (p.base + 4 * row + c)) ≡ length (list_in (parted_by l p) (4 * row + c))
  row_there p read row c few less =
      let a = asked p read in
      let k : p.base + 4 * row + c ≡ p.base + (4 * row + c) = omega arith in
      let within : 4 * row + c < list_count p.slots = omega (arith, few, less) in
      ap (λ n. length (list_at l n)) k ∙ ap length (list_is l p a.part (4 * row + c) within)

  -- it is another then, made of what waited in it
  module _ (m : Lists) (p x : Parking) (f : Waits → Waits) (read : p ≡ get_or ps q p) (is : IsChanged l p m x (f (waits_by l p))) where
    moved : IsChanged l (parking_at ps q) m x (f (waits_by l p))
    moved = subst (λ y. IsChanged l y m x (f (waits_by l p))) (read ∙ get_or_default ps q p no_parking there) is

    pub waits_changed : all_waits m (set ps q x) ≡ set qs q (f (waits_at qs q))
    waits_changed = waits_after l m ps q x (f (waits_by l p)) are there moved ∙ (ap (λ ws. set ws q (f (waits_by l p))) view ∙ ap (λ w. set qs q (f w)) (asked p read).waits)

    pub sound_changed : AreWaits (f (waits_at qs q))
    sound_changed = subst (λ w. AreWaits (f w)) (asked p read).waits (subst AreWaits is.waits is.part.parking.waits)

    pub queues_changed : (ls : List Levels) (busy : SmallSet) → AreNoted (set qs q (f (waits_at qs q))) ls busy → AreQueues m (set ps q x) ls busy
    queues_changed ls busy noted =
        record { parkings = parkings_after l m ps q x (f (waits_by l p)) are there moved; noted = subst (λ ws. AreNoted ws ls busy) (sym waits_changed) noted }

  -- an event of the level comes
  module _ (p : Parking) (read : p ≡ get_or ps q p) (e : Event) (c : Level) (is : c.number ≡ level_of e) where
    level : level_of e < 4
    level = subst (λ n. n < 4) is c.few

    module _ (room : all_waiting qs < (waits_at qs q).room) (numbers : (waits_at qs q).next < 2 ^ 63) (m : Lists) (pushed : m ≡ with_last l (p.base + c.number) (record { number = p.next; event = e })) where
      abbrev entered : Parking
      entered = record p { next = p.next + 1; count = p.count + 1 }

      comes : IsChanged l p m entered (with_event (waits_by l p) e)
      comes =
          let a = asked p read in
          let total = a.total in
          let share = a.share in
          let limit : l.room ≡ (waits_at qs q).room = ap (λ (w : Waits). w.room) a.waits in
          let many : length (waits_by l p).waiting ≡ length (waits_at qs q).waiting = ap (λ (w : Waits). length w.waiting) a.waits in
          let next : p.next ≡ (waits_at qs q).next = ap (λ (w : Waits). w.next) a.waits in
          accepted l p a.part m e level (omega arith) (omega arith) (omega arith) (pushed ∙ ap (λ k. with_last l (p.base + k) (record { number = p.next; event = e })) is)

      pub waits_come : all_waits m (set ps q entered) ≡ set qs q (with_event (waits_at qs q) e)
      waits_come = waits_changed m p entered (λ w. with_event w e) read comes

      pub parkings_come : AreParkings m (set ps q entered)
      parkings_come = parkings_after l m ps q entered (with_event (waits_by l p) e) are there (moved m p entered (λ w. with_event w e) read comes)

      pub sound_come : AreWaits (with_event (waits_at qs q) e)
      sound_come = sound_changed m p entered (λ w. with_event w e) read comes

      pub queues_come : (ls : List Levels) (busy : SmallSet) → AreNoted (set qs q (with_event (waits_at qs q) e)) ls busy → AreQueues m (set ps q entered) ls busy
      queues_come = queues_changed m p entered (λ w. with_event w e) read comes

    -- others of its level waited before, where its list had any
    pub some_before : (length (list_at l (p.base + c.number)) == 0) ≡ false → ¬ HasNoneOf (waits_at qs q) (level_of e)
    some_before none =
        let a = asked p read in
        subst (λ w. ¬ HasNoneOf w (level_of e)) a.waits
        (subst (λ k. ¬ HasNoneOf (waits_by l p) k) is
        (some_of_level (parted_by l p) c.number a.part.parking.waits c.few (not_empty (list_at l (p.base + c.number)) (list_in (parted_by l p) c.number) (list_is l p a.part c.number (level_list l p a.part c.number c.few)) none)))
