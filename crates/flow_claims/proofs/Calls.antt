-- What the steps of a call make of a seat, put together.
use Rattle.std.proofs.Common.{◌≡◌, ◌≢◌, ℕ, zero, suc, ◌+◌, ◌-◌, ◌*◌, ◌/◌, ◌%◌, ◌<◌, ◌≤◌, Bool, eqb, List, [], ◌∷◌, ◌++◌, map, length, drop, take, reverse, get_or, slice_get, Option, Some, None, All, refl, sym, ap, ◌∙◌, subst, arith, append-nil, append_assoc}
use Rattle.std.proofs.lemmas.List.{drop_all, length-map, length-append, length-take, map_push, take_more, reverse-append}
use Rattle.std.proofs.lemmas.Option.{none-some, same_Some, slice_get_within, get_or_from_slice_get}
use Rattle.std.proofs.lemmas.List.Elements.{All-append, All-push}
use mathlib.Core.Option as O
use Rattle.atomic_table.specs.Table.{step, rest}
use Rattle.lane_rings.specs.Identity.{far_id}
use Rattle.lane_rings.specs.declared.far.Far.{Far}
use Rattle.flow_claims.specs.declared.seating.Begun.{Begun}
use Rattle.flow_claims.specs.declared.seating.LaneLists.{LaneLists}
use Rattle.flow_claims.specs.declared.seating.Past.{Past}
use Rattle.flow_claims.specs.declared.seating.Seating.{Seating}
use Rattle.flow_claims.specs.declared.claim.Stint.{Stint}
use Rattle.flow_claims.specs.Lists.{lists_of, GoesOn, IsOf}
use Rattle.flow_claims.specs.Seats.{find_lane, without, fronted, stint_at, slot_of, begun_by, past_of, after_look, after_load, after_begin, after_front, finished_by, after_end, after_join}
use Rattle.flow_claims.specs.Steps.{Sitting, Begins, Fronts, Finishes, in_hand, ends_first}
use Rattle.flow_claims.specs.Open.{IsOpen}
use Rattle.flow_claims.specs.Answers.{Taken}
use Rattle.flow_claims.proofs.Held.{found_lane, found_here, find_other, fronted_is, without_first}
use Rattle.flow_claims.proofs.Opened.{open_where}

abbrev Slots : Type 0
Slots = List (ℕ × Option Far)

-- a lane that has an end is there
pub of_within : (lanes : List Far) (lane : ℕ) (far : Far) → IsOf lanes lane far → lane < length lanes
of_within lanes lane far e = omega (arith, slice_get_within (map far_id lanes) lane (far_id far) e, length-map lanes far_id)

-- the slot that was taken last, and the others
pub first_slot : (c : Slots) (x : ℕ × Option Far) (m : Slots) → c ≡ x ∷ m → c ≡ x ∷ rest c
first_slot c x m e = e ∙ ap (λ (r : Slots). x ∷ r) (sym (ap rest e))

-- the exchange of a claim that found the word, and the taking out
pub taken : (slots lane port word found : ℕ) (m a b : Sitting) (result : Option Far) (far : Far)
    → Begins (step slots lane word (word + port + 1) O.none) m found a → found ≡ word → word % 256 ≡ 0
    → a.1 ≡ (lane, result) ∷ rest a.1 → b.0 ≡ a.0 → result ≡ Some far → Taken port lane (word / 256) far m.0 b.0
taken slots lane port word found m a b result far begins same free slot stays is =
    let got = begins.0 same in
    let value : result ≡ Some got.0 = ap in_hand (sym slot ∙ got.2) in
    let same_far : got.0 ≡ far = same_Some got.0 far (sym value ∙ is) in
    let p : word + port + 1 - word - 1 ≡ port = omega arith in
    let k : found / 256 ≡ word / 256 = ap (λ x. x / 256) same in
    let w : found ≡ 256 * (word / 256) = omega (arith, same, free) in
    let P : Far → Type 0 = λ f. Taken port lane (word / 256) f m.0 b.0 in
    subst P same_far (
      stays ∙ got.1 ∙ (λ i. after_begin (begun_by (p i) lane (k i) got.0) (after_look lane (w i) m.0)),
      got.3,
      got.4,
    )

goes_on_itself : (l : LaneLists) → GoesOn l l
goes_on_itself l = (itself l.received, itself l.answered)
  where
    itself : {A : Type 0} (xs : List A) → xs ≡ xs ++ drop (length xs) xs
    itself xs = sym (ap (λ r. xs ++ r) (drop_all (length xs) xs (omega arith)) ∙ append-nil xs)

-- a stint that was taken is open
pub taken_open : (port : ℕ) (stint : Stint) (v after : Seating) → Taken port stint.lane stint.number stint.far v after → IsOpen after stint
taken_open port stint v after t =
    let b : Begun = begun_by port stint.lane stint.number stint.far in
    let Of : List Far → Type 0 = λ ls. IsOf ls stint.lane stint.far in
    open_where after stint
    (record {
      begun = b;
      at = ap (λ (x : Seating). stint_at x stint.lane) t.0 ∙ found_here stint.lane b v.held refl;
      number = refl;
      goes_on = goes_on_itself (lists_of stint.far);
    }) (subst Of (sym (ap (λ (x : Seating). x.lanes) t.0)) t.1)

-- the load of a claim, and the taking
pub taken_after : (port lane word : ℕ) (far : Far) (v looked after : Seating) → looked ≡ after_load lane word v → word % 256 ≡ 0
    → Taken port lane (word / 256) far looked after → Taken port lane (word / 256) far (after_load lane (256 * (word / 256)) v) after
taken_after port lane word far v looked after is free t =
    let w : word ≡ 256 * (word / 256) = omega (arith, free) in
    let P : Seating → Type 0 = λ x. Taken port lane (word / 256) far x after in
    subst P (is ∙ ap (λ k. after_load lane k v) w) t

-- the slot of a lane is in front
pub in_front : (lane : ℕ) (bs : List Begun) (b : Begun) (c : Slots) → find_lane lane bs ≡ Some b → c ≡ map slot_of (fronted lane bs) → c ≡ (lane, None) ∷ map slot_of (without lane bs)
in_front lane bs b c found e =
    e ∙ ap (map slot_of) (fronted_is lane bs b found) ∙ ap (λ (l : ℕ). (l, None) ∷ map slot_of (without lane bs)) (found_lane lane bs b found)

-- the load that brings the slot in front, and the putting in of the end
pub record IsPut (lane : ℕ) (v : Seating) (b : Begun) (far : Far) (m : Sitting) : Type 0 where
  pub view : m.0 ≡ record v { held = b ∷ without lane v.held }
  pub slots : m.1 ≡ (lane, Some far) ∷ map slot_of (without lane v.held)

pub put : (slots lane word : ℕ) (v : Seating) (b : Begun) (far : Far) (before a m : Sitting) → before.0 ≡ v → find_lane lane v.held ≡ Some b
    → Fronts (step slots lane 0 0 O.none) before word a → m ≡ (a.0, (lane, Some far) ∷ rest a.1) → IsPut lane v b far m
put slots lane word v b far before a m is found fronts e =
    let view : a.0 ≡ after_front lane v = fronts.0 ∙ ap (after_front lane) is in
    let front : a.1 ≡ (lane, None) ∷ map slot_of (without lane v.held) = in_front lane v.held b a.1 found (fronts.1 ∙ ap (λ (x : Seating). map slot_of (fronted lane x.held)) is) in
    record {
      view = ap (λ (x : Sitting). x.0) e ∙ view ∙ ap (λ (bs : List Begun). record v { held = bs }) (fronted_is lane v.held b found);
      slots = ap (λ (x : Sitting). x.1) e ∙ ap (λ (c : Slots). (lane, Some far) ∷ rest c) front;
    }

-- and the returning store
pub record IsEnded (gone : Bool) (lane : ℕ) (far : Far) (v : Seating) (n : Sitting) : Type 0 where
  pub view : n.0 ≡ after_end gone lane far v
  pub slots : n.1 ≡ map slot_of n.0.held
  pub others : (j : ℕ) → j ≢ lane → find_lane j n.0.held ≡ find_lane j v.held
  pub last : (b : Begun) (bs : List Begun) → v.held ≡ b ∷ bs → b.lane ≡ lane → n.0.held ≡ bs

pub ended : (slots lane new : ℕ) (v : Seating) (b : Begun) (far : Far) (m n : Sitting) → find_lane lane v.held ≡ Some b → IsPut lane v b far m
    → Finishes (step slots lane new 0 O.none) m new n → IsEnded (eqb (new % 256) 255) lane far v n
ended slots lane new v b far m n found is finishes =
    let gone : Bool = eqb (new % 256) 255 in
    let over : Seating = record v { held = without lane v.held; finished = v.finished ++ past_of gone b far ∷ [] } in
    let now : n.0 ≡ over =
    finishes.0 ∙ ap (λ (x : Seating). ends_first gone x.held (in_hand m.1) x) is.view
    ∙ ap (λ (c : Slots). ends_first gone (b ∷ without lane v.held) (in_hand c) (record v { held = b ∷ without lane v.held })) is.slots in
    record {
      view = now ∙ sym (ap (λ o. finished_by gone lane far o v) found);
      slots = finishes.1 ∙ ap rest is.slots ∙ sym (ap (λ (x : Seating). map slot_of x.held) now);
      others = λ j ne. ap (λ (x : Seating). find_lane j x.held) now ∙ find_other lane j v.held ne;
      last = λ x xs e same. ap (λ (y : Seating). y.held) now ∙ ap (without lane) e ∙ without_first lane x xs same;
    }

-- the ends in slots
pub unpop : (xs : List (Option Far)) (o : Option Far) (ends : List Far) → xs ++ o ∷ [] ≡ map Some ends → (more : List Far) × (xs ≡ map Some more) × ((far : Far) × (o ≡ Some far))
unpop [] o [] e = absurd (omega (arith, ap length e))
unpop [] o (x ∷ ends) e = ([], refl, (x, ap (λ (l : List (Option Far)). get_or l 0 None) e))
unpop (y ∷ xs) o [] e = absurd (omega (arith, ap length e))
unpop (y ∷ xs) o (x ∷ ends) e =
    let more = unpop xs o ends (ap (drop 1) e) in
    let here : y ≡ Some x = ap (λ (l : List (Option Far)). get_or l 0 None) e in
    (x ∷ more.0, (λ i. here i ∷ more.1 i), more.2)

pub map_some : (xs ys : List Far) → map Some xs ≡ map Some ys → xs ≡ ys
map_some [] [] e = refl
map_some [] (y ∷ ys) e = absurd (omega (arith, ap length e))
map_some (x ∷ xs) [] e = absurd (omega (arith, ap length e))
map_some (x ∷ xs) (y ∷ ys) e =
    let here : x ≡ y = same_Some x y (ap (λ (l : List (Option Far)). get_or l 0 None) e) in
    let there : xs ≡ ys = map_some xs ys (ap (drop 1) e) in
    λ i. here i ∷ there i

-- a join
pub joined_slots : (m n : Sitting) (w : Seating) → n ≡ (after_join m.0 w, m.1) → m.1 ≡ map slot_of m.0.held → w.held ≡ [] → n.1 ≡ map slot_of n.0.held
joined_slots m n w e slots none =
    ap (λ (x : Sitting). x.1) e ∙ slots
    ∙ sym (ap (λ (x : Sitting). map slot_of x.0.held) e ∙ ap (λ (bs : List Begun). map slot_of (m.0.held ++ bs)) none ∙ ap (map slot_of) (append-nil m.0.held))

pub joined_lanes : (m n : Sitting) (w : Seating) → n ≡ (after_join m.0 w, m.1)
    → All (λ p. p.lane < length m.0.lanes) m.0.finished → All (λ p. p.lane < length w.lanes) w.finished → w.lanes ≡ m.0.lanes
    → All (λ p. p.lane < length n.0.lanes) n.0.finished
joined_lanes m n w e a b same =
    let P : List Far → Past → Type 0 = λ ls p. p.lane < length ls in
    let Q : Sitting → Type 0 = λ x. All (P x.0.lanes) x.0.finished in
    let R : List Far → Type 0 = λ ls. All (P ls) w.finished in
    subst Q (sym e) (All-append (P m.0.lanes) m.0.finished w.finished a (subst R same b))

pub ended_lanes : (gone : Bool) (lane : ℕ) (far : Far) (v : Seating) (b : Begun) (n : Sitting) → find_lane lane v.held ≡ Some b → n.0 ≡ after_end gone lane far v → lane < length v.lanes
    → All (λ p. p.lane < length v.lanes) v.finished → All (λ p. p.lane < length n.0.lanes) n.0.finished
ended_lanes gone lane far v b n found e lt all =
    let Q : Seating → Type 0 = λ x. All (λ p. p.lane < length x.lanes) x.finished in
    subst Q (sym (e ∙ ap (λ o. finished_by gone lane far o v) found))
    (All-push (λ p. p.lane < length v.lanes) v.finished (past_of gone b far) all (omega (arith, found_lane lane v.held b found, lt)))

-- the same of a stint whose slot was in front, by the tail that is written last
pub ended_by : (slots lane number tail word : ℕ) (v : Seating) (b : Begun) (far : Far) (before a m n : Sitting) → before.0 ≡ v → find_lane lane v.held ≡ Some b
    → Fronts (step slots lane 0 0 O.none) before word a → m ≡ (a.0, (lane, Some far) ∷ rest a.1)
    → Finishes (step slots lane (256 * (number + 1) + tail) 0 O.none) m (256 * (number + 1) + tail) n → (256 * (number + 1) + tail) % 256 ≡ tail
    → IsEnded (eqb tail 255) lane far v n
ended_by slots lane number tail word v b far before a m n is found fronts e finishes low =
    subst (λ x. IsEnded (eqb x 255) lane far v n) low
    (ended slots lane (256 * (number + 1) + tail) v b far m n found (put slots lane word v b far before a m is found fronts e) finishes)

pub ended_rest : (gone : Bool) (lane : ℕ) (far : Far) (v : Seating) (b : Begun) (n : Sitting) → find_lane lane v.held ≡ Some b → n.0 ≡ after_end gone lane far v
    → (n.0.parts ≡ v.parts) × (n.0.closed ≡ v.closed) × (n.0.lanes ≡ v.lanes)
ended_rest gone lane far v b n found e =
    let whole = e ∙ ap (λ o. finished_by gone lane far o v) found in
    (ap (λ (x : Seating). x.parts) whole, ap (λ (x : Seating). x.closed) whole, ap (λ (x : Seating). x.lanes) whole)

-- one end more is in its slot
pub wrap_one : (before after : List (Option Far)) (r r' done : List Far) (far : Far)
    → before ≡ map Some done → r' ≡ r ++ far ∷ [] → after ≡ before ++ Some far ∷ []
    → ((x : List Far) × (after ≡ map Some x)) × (map Some r' ++ reverse before ≡ map Some r ++ reverse after) × (length r' + length before ≡ length r + length after)
wrap_one before after r r' done far full popped pushed =
    let there : reverse after ≡ Some far ∷ reverse before = ap reverse pushed ∙ reverse-append before (Some far ∷ []) in (
      (done ++ far ∷ [], pushed ∙ ap (λ (l : List (Option Far)). l ++ Some far ∷ []) full ∙ sym (map_push Some done far)),
      ap (λ (l : List Far). map Some l ++ reverse before) popped ∙ ap (λ (l : List (Option Far)). l ++ reverse before) (map_push Some r far)
          ∙ append_assoc (map Some r) (Some far ∷ []) (reverse before) ∙ sym (ap (λ (l : List (Option Far)). map Some r ++ l) there),
      omega (arith, ap length pushed, length-append before (Some far ∷ []), ap length popped, length-append r (far ∷ [])),
    )

-- ends in slots, from the last one on
pub turned : (xs : List Far) → (more : List Far) × (reverse (map Some xs) ≡ map Some more)
turned [] = ([], refl)
turned (x ∷ xs) =
    let t = turned xs in
    (t.0 ++ x ∷ [], reverse-append (Some x ∷ []) (map Some xs) ∙ ap (λ (l : List (Option Far)). l ++ Some x ∷ []) t.1 ∙ sym (map_push Some t.0 x))

-- one end more is out of its slot
pub unwrap_one : (before after : List (Option Far)) (slot : Option Far) (more r r' : List Far) (far : Far)
    → before ≡ map Some more → before ≡ after ++ slot ∷ [] → slot ≡ Some far → r' ≡ r ++ far ∷ []
    → ((x : List Far) × (after ≡ map Some x)) × (map Some r' ++ reverse after ≡ map Some r ++ reverse before) × (length r' + length after ≡ length r + length before)
unwrap_one before after slot more r r' far full popped is pushed =
    let left = unpop after slot more (sym popped ∙ full) in
    let back : reverse before ≡ Some far ∷ reverse after = ap reverse popped ∙ reverse-append after (slot ∷ []) ∙ ap (λ (o : Option Far). o ∷ reverse after) is in (
      (left.0, left.1),
      ap (λ (l : List Far). map Some l ++ reverse after) pushed ∙ ap (λ (l : List (Option Far)). l ++ reverse after) (map_push Some r far)
          ∙ append_assoc (map Some r) (Some far ∷ []) (reverse after) ∙ sym (ap (λ (l : List (Option Far)). map Some r ++ l) back),
      omega (arith, ap length popped, length-append after (slot ∷ []), ap length pushed, length-append r (far ∷ [])),
    )

-- one lane more is closed
pub one_more : (lanes ends : List Far) (lane : ℕ) (far : Far) → map far_id ends ≡ take lane (map far_id lanes) → IsOf lanes lane far
    → map far_id (ends ++ far ∷ []) ≡ take (lane + 1) (map far_id lanes)
one_more lanes ends lane far e of =
    map_push far_id ends far ∙ ap (λ l. l ++ far_id far ∷ []) e
    ∙ ap (λ x. take lane (map far_id lanes) ++ x ∷ []) (sym (get_or_from_slice_get (map far_id lanes) lane (far_id far) (far_id far) of))
    ∙ sym (take_more (map far_id lanes) lane (far_id far) (slice_get_within (map far_id lanes) lane (far_id far) of))

-- as many ends are out as there are lanes
pub all_out : (lanes ends : List Far) (lane : ℕ) → map far_id ends ≡ take lane (map far_id lanes) → lane ≡ length lanes → length ends ≡ length lanes
all_out lanes ends lane order all = omega (arith, length-map ends far_id, ap length order, length-take lane (map far_id lanes), length-map lanes far_id, all)

-- before the last lane there is room for one end more
pub still_room : (lanes ends : List Far) (lane room : ℕ) → map far_id ends ≡ take lane (map far_id lanes) → lane < length lanes → length lanes ≤ room
    → length ends < room
still_room lanes ends lane room order more fits =
    omega (arith, length-map ends far_id, ap length order, length-take lane (map far_id lanes), length-map lanes far_id, more, fits)

each_push : (P : ℕ → Far → Type 0) (xs : List Far) (x : Far) → ((i : ℕ) (y : Far) → slice_get xs i ≡ Some y → P i y) → P (length xs) x
    → (i : ℕ) (y : Far) → slice_get (xs ++ x ∷ []) i ≡ Some y → P i y
each_push P [] x all p zero y e = subst (P 0) (same_Some x y e) p
each_push P [] x all p (suc i) y e = absurd (none-some y e)
each_push P (z ∷ xs) x all p zero y e = all 0 y e
each_push P (z ∷ xs) x all p (suc i) y e = each_push (λ j. P (suc j)) xs x (λ j w d. all (suc j) w d) p i y e

pub each_more : (P : ℕ → Far → Type 0) (lanes ends more : List Far) (lane : ℕ) (far : Far) → more ≡ ends ++ far ∷ []
    → map far_id ends ≡ take lane (map far_id lanes) → ((i : ℕ) (y : Far) → slice_get ends i ≡ Some y → P i y) → IsOf lanes lane far → P lane far
    → (i : ℕ) (y : Far) → slice_get more i ≡ Some y → P i y
each_more P lanes ends more lane far e order all of p i y at =
    let count : length ends ≡ lane =
    omega (arith, length-map ends far_id, ap length order, length-take lane (map far_id lanes), slice_get_within (map far_id lanes) lane (far_id far) of) in
    each_push P ends far all (subst (λ n. P n far) (sym count) p) i y (ap (λ (l : List Far). slice_get l i) (sym e) ∙ at)
