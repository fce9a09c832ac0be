-- Replies whose events a queue accepts one after the other.
use Rattle.std.proofs.Common.{◌≡◌, ◌≢◌, ℕ, suc, ◌+◌, ◌<◌, ◌≤◌, ◌^◌, ◌==◌, false, List, [], ◌∷◌, ◌++◌, All, add-zero, append_assoc, append-nil, ap, arith, get_or, length, refl, set, subst, sym, ◌∙◌}
use Rattle.std.proofs.lemmas.List.{get_or-set_same, get_or_default, length-set, set-get_or}
use Rattle.std.proofs.lemmas.List.Elements.{All-head, All-tail}
use Rattle.std.proofs.lemmas.List.Sums.{sum_by-set}
use Rattle.std.proofs.lemmas.List.{length_push}
use Rattle.std.proofs.Math.Seq.{set-set}
use Rattle.lists.proofs.Lists.{All-last}
use Rattle.evt_types.specs.Plan.{level_of}
use Rattle.evt_types.specs.declared.event.Event.{Event}
use Rattle.evt_types.specs.declared.event.Numbered.{Numbered}
use Rattle.evt_types.specs.declared.event.Reply.{Reply}
use Rattle.small_set.specs.SmallSets.{Has, SameBut}
use Rattle.small_set.specs.declared.set.SmallSet.{SmallSet}
use Rattle.parked_queue.specs.Busy.{AreNoted, AreQueues}
use Rattle.parked_queue.specs.LevelSets.{members}
use Rattle.parked_queue.specs.Lists.{Lists, list_at, numbered, numbered_from, with_last, with_list, with_row}
use Rattle.parked_queue.specs.Parkings.{AreParkings, all_waits, no_parking, parking_at}
use Rattle.parked_queue.specs.Waits.{AreWaits, HasNoneOf, Waits, all_waiting, count_of, no_waits, waits_at, with_event, with_replies}
use Rattle.parked_queue.specs.declared.level.Level.{Level}
use Rattle.parked_queue.specs.declared.level.Levels.{Levels}
use Rattle.parked_queue.specs.declared.parking.Parking.{Parking}
use Rattle.parked_queue.proofs.Calls.{level_list, list_there}
use Rattle.parked_queue.proofs.Parkings.{IsAsked, asked, parkings_come, some_before, there as there_in, waits_come}
use Rattle.parked_queue.proofs.Seen.{noted_first, noted_more}

-- ---- the first, and the rest

row_split : (v : Lists) (k : ℕ) (w : Numbered) (ws : List Numbered) → k < length v.lists → with_row (with_last v k w) k ws ≡ with_row v k (w ∷ ws)
row_split v k w ws lt =
    ap (λ us. with_list (with_last v k w) k (us ++ ws)) (get_or-set_same v.lists k (list_at v k ++ w ∷ []) [] lt)
    ∙ (ap (λ ls. record v { lists = ls }) (set-set v.lists k (list_at v k ++ w ∷ []) ((list_at v k ++ w ∷ []) ++ ws))
    ∙ ap (with_list v k) (append_assoc (list_at v k) (w ∷ []) ws))

pub waits_split : (w : Waits) (r : Reply) (rs : List Reply) → with_replies (with_event w r.event) rs ≡ with_replies w (r ∷ rs)
waits_split w r rs =
    ap (λ ws. record w { waiting = ws; next = (w.next + 1) + length rs }) (append_assoc w.waiting (numbered w.next r.event ∷ []) (numbered_from (w.next + 1) rs))
    ∙ ap (λ n. record w { waiting = w.waiting ++ numbered_from w.next (r ∷ rs); next = n }) (omega arith)

pub waits_none : (w : Waits) → with_replies w [] ≡ w
waits_none w = ap (λ ws. record w { waiting = ws; next = w.next + 0 }) (append-nil w.waiting) ∙ ap (λ n. record w { next = n }) (add-zero w.next)

abbrev pub entered_by : Parking → ℕ → Parking
entered_by p n = record p { next = p.next + n; count = p.count + n }

entered_none : (p : Parking) → entered_by p 0 ≡ p
entered_none p = ap (λ n. record p { next = n; count = p.count + 0 }) (add-zero p.next) ∙ ap (λ n. record p { count = n }) (add-zero p.count)

entered_split : (p : Parking) (n : ℕ) → entered_by (entered_by p 1) n ≡ entered_by p (suc n)
entered_split p n =
    ap (λ k. record p { next = k; count = (p.count + 1) + n }) (omega arith) ∙ ap (λ k. record p { next = p.next + suc n; count = k }) (omega arith)

-- ---- what waits

-- all events of the replies name the queue and are of the level
abbrev pub AreOf : ℕ → ℕ → List Reply → Type 0
AreOf q c rs = All (λ (r : Reply). (r.event.queue ≡ q) × (level_of r.event ≡ c)) rs

-- the queue accepted them, into the list of this number
pub record HasEntered (l : Lists) (ps : List Parking) (qs : List Waits) (q list : ℕ) (p : Parking) (rs : List Reply) : Type 0 where
  pub parkings : AreParkings (with_row l list (numbered_from p.next rs)) (set ps q (entered_by p (length rs)))
  pub waits : all_waits (with_row l list (numbered_from p.next rs)) (set ps q (entered_by p (length rs))) ≡ set qs q (with_replies (waits_at qs q) rs)

entered_nothing : (l : Lists) (ps : List Parking) (qs : List Waits) (q list : ℕ) (p : Parking) → AreParkings l ps → all_waits l ps ≡ qs → p ≡ get_or ps q p → HasEntered l ps qs q list p []
entered_nothing l ps qs q list p are view read =
    let same : with_row l list [] ≡ l = ap (with_list l list) (append-nil (list_at l list)) ∙ ap (λ ls. record l { lists = ls }) (set-get_or l.lists list []) in
    let still : set ps q (entered_by p 0) ≡ ps = ap (set ps q) (entered_none p ∙ read) ∙ set-get_or ps q p in
    record {
      parkings = subst (λ (m : Lists). AreParkings m (set ps q (entered_by p 0))) (sym same) (subst (AreParkings l) (sym still) are);
      waits = ap (λ (m : Lists). all_waits m (set ps q (entered_by p 0))) same
          ∙ (ap (all_waits l) still ∙ (view ∙ sym (ap (set qs q) (waits_none (waits_at qs q)) ∙ set-get_or qs q (no_waits 1 0))));
    }

-- the first is in, and the rest follows
module _ (r : Reply) (rs : List Reply) (l : Lists) (ps : List Parking) (qs : List Waits) (q : ℕ) (p : Parking) (c : Level) (are : AreParkings l ps) (view : all_waits l ps ≡ qs) (lt : q < length qs) (read : p ≡ get_or ps q p) (of : AreOf q c.number (r ∷ rs)) (room : all_waiting qs + length (r ∷ rs) ≤ (waits_at qs q).room) (numbers : (waits_at qs q).next + length (r ∷ rs) ≤ 2 ^ 63) where
  abbrev list : ℕ
  list = p.base + c.number

  abbrev first : Waits
  first = with_event (waits_at qs q) r.event

  abbrev m : Lists
  m = with_last l list (numbered p.next r.event)

  is : c.number ≡ level_of r.event
  is = sym (All-head (λ (x : Reply). (x.event.queue ≡ q) × (level_of x.event ≡ c.number)) r rs of).1

  asks : IsAsked l ps qs q p
  asks = asked l ps qs q are view lt p read

  one : all_waiting qs < (waits_at qs q).room
  one = omega (arith, room)

  few : (waits_at qs q).next < 2 ^ 63
  few = omega (arith, numbers)

  first_parts : AreParkings m (set ps q (entered_by p 1))
  first_parts = parkings_come l ps qs q are view lt p read r.event c is one few m refl

  first_view : all_waits m (set ps q (entered_by p 1)) ≡ set qs q first
  first_view = waits_come l ps qs q are view lt p read r.event c is one few m refl

  first_there : q < length (set qs q first)
  first_there = subst (λ n. q < n) (sym (length-set qs q first)) lt

  first_read : entered_by p 1 ≡ get_or (set ps q (entered_by p 1)) q (entered_by p 1)
  first_read = sym (get_or-set_same ps q (entered_by p 1) (entered_by p 1) asks.there)

  first_of : AreOf q c.number rs
  first_of = All-tail (λ (x : Reply). (x.event.queue ≡ q) × (level_of x.event ≡ c.number)) r rs of

  all : all_waiting (set qs q first) ≡ all_waiting qs + 1
  all =
      let sums = sum_by-set count_of qs q first (no_waits 1 0) lt in
      let more = length_push (waits_at qs q).waiting (numbered (waits_at qs q).next r.event) in
      omega arith

  first_room : all_waiting (set qs q first) + length rs ≤ (waits_at (set qs q first) q).room
  first_room = subst (λ (w : Waits). all_waiting (set qs q first) + length rs ≤ w.room) (sym (get_or-set_same qs q first (no_waits 1 0) lt)) (omega (arith, all, room))

  first_numbers : (waits_at (set qs q first) q).next + length rs ≤ 2 ^ 63
  first_numbers = subst (λ (w : Waits). w.next + length rs ≤ 2 ^ 63) (sym (get_or-set_same qs q first (no_waits 1 0) lt)) (omega (arith, numbers))

  lists_are : with_row m list (numbered_from (p.next + 1) rs) ≡ with_row l list (numbered_from p.next (r ∷ rs))
  lists_are = row_split l list (numbered p.next r.event) (numbered_from (p.next + 1) rs) (list_there l p asks.part c.number (level_list l p asks.part c.number c.few))

  parts_are : set (set ps q (entered_by p 1)) q (entered_by (entered_by p 1) (length rs)) ≡ set ps q (entered_by p (length (r ∷ rs)))
  parts_are = set-set ps q (entered_by p 1) (entered_by (entered_by p 1) (length rs)) ∙ ap (set ps q) (entered_split p (length rs))

  rest_entered : HasEntered m (set ps q (entered_by p 1)) (set qs q first) q list (entered_by p 1) rs → HasEntered l ps qs q list p (r ∷ rs)
  rest_entered rest =
      record {
        parkings = subst (λ (u : Lists). AreParkings u (set ps q (entered_by p (length (r ∷ rs))))) lists_are
            (subst (AreParkings (with_row m list (numbered_from (p.next + 1) rs))) parts_are rest.parkings);
        waits = ap (λ (u : Lists). all_waits u (set ps q (entered_by p (length (r ∷ rs))))) (sym lists_are)
            ∙ (ap (all_waits (with_row m list (numbered_from (p.next + 1) rs))) (sym parts_are)
            ∙ (rest.waits
            ∙ (ap (λ w. set (set qs q first) q (with_replies w rs)) (get_or-set_same qs q first (no_waits 1 0) lt)
            ∙ (set-set qs q first (with_replies first rs) ∙ ap (set qs q) (waits_split (waits_at qs q) r rs)))));
      }

pub row_entered :
    (rs : List Reply) (l : Lists) (ps : List Parking) (qs : List Waits) (q : ℕ) (p : Parking) (c : Level) → AreParkings l ps → all_waits l ps ≡ qs → q < length qs → p ≡ get_or ps q p → AreOf q c.number rs
    → all_waiting qs + length rs ≤ (waits_at qs q).room → (waits_at qs q).next + length rs ≤ 2 ^ 63 → HasEntered l ps qs q (p.base + c.number) p rs
row_entered [] l ps qs q p c are view lt read of room numbers = entered_nothing l ps qs q (p.base + c.number) p are view read
row_entered (r ∷ rs) l ps qs q p c are view lt read of room numbers =
    rest_entered r rs l ps qs q p c are view lt read of room numbers
    (row_entered rs (m r rs l ps qs q p c are view lt read of room numbers) (set ps q (entered_by p 1)) (set qs q (with_event (waits_at qs q) r.event)) q (entered_by p 1) c
    (first_parts r rs l ps qs q p c are view lt read of room numbers) (first_view r rs l ps qs q p c are view lt read of room numbers) (first_there r rs l ps qs q p c are view lt read of room numbers)
    (first_read r rs l ps qs q p c are view lt read of room numbers) (first_of r rs l ps qs q p c are view lt read of room numbers) (first_room r rs l ps qs q p c are view lt read of room numbers)
    (first_numbers r rs l ps qs q p c are view lt read of room numbers))

-- what waits in the queue then is as it should be
pub row_sound : (rs : List Reply) (l : Lists) (ps : List Parking) (qs : List Waits) (q list : ℕ) (p : Parking) → q < length qs → HasEntered l ps qs q list p rs → AreWaits (with_replies (waits_at qs q) rs)
row_sound rs l ps qs q list p lt h =
    let later : List Waits = set qs q (with_replies (waits_at qs q) rs) in
    let lt_later : q < length later = subst (λ n. q < n) (sym (length-set qs q (with_replies (waits_at qs q) rs))) lt in
    let parts : List Parking = set ps q (entered_by p (length rs)) in
    let there : q < length parts = there_in (with_row l list (numbered_from p.next rs)) parts later q h.parkings h.waits lt_later in
    subst AreWaits (get_or-set_same qs q (with_replies (waits_at qs q) rs) (no_waits 1 0) lt)
    (asked (with_row l list (numbered_from p.next rs)) parts later q h.parkings h.waits lt_later (parking_at parts q) (sym (get_or_default parts q (parking_at parts q) no_parking there))).sound

-- ---- the words of what waits

-- an event of the level waits
has_of : (w : Waits) (e : Event) (c : ℕ) → level_of e ≡ c → ¬ HasNoneOf (with_event w e) c
has_of w e c is none = All-last (λ (u : Numbered). level_of u.event ≢ c) w.waiting (numbered w.next e) none is

rest_noted : (rs : List Reply) (qs : List Waits) (ls : List Levels) (busy : SmallSet) (q c : ℕ) (w : Waits) → q < length qs → AreNoted (set qs q w) ls busy → ¬ HasNoneOf w c → AreOf q c rs → AreNoted (set qs q (with_replies w rs)) ls busy
rest_noted [] qs ls busy q c w lt noted some of = subst (λ x. AreNoted (set qs q x) ls busy) (sym (waits_none w)) noted
rest_noted (r ∷ rs) qs ls busy q c w lt noted some of =
    let is : (r.event.queue ≡ q) × (level_of r.event ≡ c) = All-head (λ (x : Reply). (x.event.queue ≡ q) × (level_of x.event ≡ c)) r rs of in
    let here : waits_at (set qs q w) q ≡ w = get_or-set_same qs q w (no_waits 1 0) lt in
    let more : AreNoted (set (set qs q w) q (with_event (waits_at (set qs q w) q) r.event)) ls busy =
    noted_more (set qs q w) (set qs q w) ls busy q noted refl (subst (λ n. q < n) (sym (length-set qs q w)) lt) r.event is.0
    (subst (λ n. ¬ HasNoneOf (waits_at (set qs q w) q) n) (sym is.1) (subst (λ x. ¬ HasNoneOf x c) (sym here) some)) in
    let next : AreNoted (set qs q (with_event w r.event)) ls busy =
    subst (λ xs. AreNoted xs ls busy) (ap (λ x. set (set qs q w) q (with_event x r.event)) here ∙ set-set qs q w (with_event w r.event)) more in
    subst (λ x. AreNoted (set qs q x) ls busy) (waits_split w r rs)
    (rest_noted rs qs ls busy q c (with_event w r.event) lt next (has_of w r.event c is.1) (All-tail (λ (x : Reply). (x.event.queue ≡ q) × (level_of x.event ≡ c)) r rs of))

module _ (all qs : List Waits) (ls : List Levels) (busy : SmallSet) (q c : ℕ) (noted : AreNoted all ls busy) (view : all ≡ qs) (lt : q < length qs) where
  -- the first events of a level have come
  pub row_first : (rs : List Reply) → 0 < length rs → AreOf q c rs → (was now : Levels) (many : SmallSet) → was ≡ get_or ls q was → Has (members now) c → SameBut c (members was) (members now) → Has many q → SameBut q busy many
      → AreNoted (set qs q (with_replies (waits_at qs q) rs)) (set ls q now) many
  row_first [] some of was now many read has others into same = absurd (omega (arith, some))
  row_first (r ∷ rs) some of was now many read has others into same =
      let is : (r.event.queue ≡ q) × (level_of r.event ≡ c) = All-head (λ (x : Reply). (x.event.queue ≡ q) × (level_of x.event ≡ c)) r rs of in
      subst (λ x. AreNoted (set qs q x) (set ls q now) many) (waits_split (waits_at qs q) r rs)
      (rest_noted rs qs (set ls q now) many q c (with_event (waits_at qs q) r.event) lt
      (noted_first all qs ls busy q noted view lt r.event is.0 was now many read (subst (Has (members now)) (sym is.1) has) (subst (λ k. SameBut k (members was) (members now)) (sym is.1) others) into same)
      (has_of (waits_at qs q) r.event c is.1) (All-tail (λ (x : Reply). (x.event.queue ≡ q) × (level_of x.event ≡ c)) r rs of))

  -- some more have come
  pub row_more : (rs : List Reply) → ¬ HasNoneOf (waits_at qs q) c → AreOf q c rs → AreNoted (set qs q (with_replies (waits_at qs q) rs)) ls busy
  row_more rs some of =
      rest_noted rs qs ls busy q c (waits_at qs q) lt (subst (λ ws. AreNoted ws ls busy) (view ∙ sym (set-get_or qs q (no_waits 1 0))) noted) some of

-- ---- all of it

pub queues_entered :
    (rs : List Reply) (l m : Lists) (ps : List Parking) (qs : List Waits) (q k : ℕ) (p : Parking) (ls : List Levels) (busy : SmallSet) → m ≡ with_row l k (numbered_from p.next rs) → HasEntered l ps qs q k p rs
    → AreNoted (set qs q (with_replies (waits_at qs q) rs)) ls busy → AreQueues m (set ps q (entered_by p (length rs))) ls busy
queues_entered rs l m ps qs q k p ls busy is h noted =
    subst (λ (u : Lists). AreQueues u (set ps q (entered_by p (length rs))) ls busy) (sym is) (record { parkings = h.parkings; noted = subst (λ ws. AreNoted ws ls busy) (sym h.waits) noted })

pub waits_entered :
    (rs : List Reply) (l m : Lists) (ps : List Parking) (qs : List Waits) (q k : ℕ) (p : Parking) → m ≡ with_row l k (numbered_from p.next rs) → HasEntered l ps qs q k p rs
    → all_waits m (set ps q (entered_by p (length rs))) ≡ set qs q (with_replies (waits_at qs q) rs)
waits_entered rs l m ps qs q k p is h = ap (λ (u : Lists). all_waits u (set ps q (entered_by p (length rs)))) is ∙ h.waits

-- others of the level waited before, where its list had any
pub row_before :
    (rs : List Reply) (l : Lists) (ps : List Parking) (qs : List Waits) (q : ℕ) (p : Parking) (c : Level) → AreParkings l ps → all_waits l ps ≡ qs → q < length qs → p ≡ get_or ps q p → 0 < length rs → AreOf q c.number rs
    → (length (list_at l (p.base + c.number)) == 0) ≡ false → ¬ HasNoneOf (waits_at qs q) c.number
row_before [] l ps qs q p c are view lt read some of none = absurd (omega (arith, some))
row_before (r ∷ rs) l ps qs q p c are view lt read some of none =
    let is : (r.event.queue ≡ q) × (level_of r.event ≡ c.number) = All-head (λ (x : Reply). (x.event.queue ≡ q) × (level_of x.event ≡ c.number)) r rs of in
    subst (λ n. ¬ HasNoneOf (waits_at qs q) n) is.1 (some_before l ps qs q are view lt p read r.event c (sym is.1) none)
