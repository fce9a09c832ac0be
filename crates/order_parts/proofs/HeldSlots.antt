-- The sets of the slots that stand on each lane: how a pin and an answer change them, and which slots stand on none of some lanes.
use Rattle.std.proofs.Common.{◌≡◌, ◌≢◌, ℕ, ◌+◌, ◌<◌, ◌≤◌, ◌==◌, List, length, replicate, slice_set, ⊎_elim, refl, sym, ap, ◌∙◌, subst, arith, eqb-true}
use Rattle.std.specs.Prelude.{◌↔◌, IsTrue}
use Rattle.std.proofs.lemmas.Bool.{cases_lt, cases_eq, or_cases}
use Rattle.std.proofs.lemmas.List.{get_or-set_same, get_or-set_other, get_or_past, length-set, get_or-replicate}
use Rattle.order_parts.specs.Held.{AreHeld, AreHeldBelow, IsHeldIn}
use Rattle.order_parts.specs.Pins.{Pin, IsOn, cell_of, free, may_pin, pin_at, pinned, unpinned}
use Rattle.small_set.specs.SmallSets.{Has, SameBut, no_places, set_at}
use Rattle.small_set.specs.declared.set.SmallSet.{SmallSet}

-- ---- the numbers under which lanes are noted

pub cell_low : (l : ℕ) → cell_of l < 64
cell_low l = omega arith

pub cell_own : (l : ℕ) → l < 64 → cell_of l ≡ l
cell_own l few = omega (arith, few)

-- ---- one slot's pin changes

module _ (ps : List Pin) (slot : ℕ) (within : slot < length ps) (x : Pin) where
  changed : pin_at (slice_set ps slot x) slot ≡ x
  changed = get_or-set_same ps slot x free within

  stays : (s : ℕ) → s ≢ slot → pin_at (slice_set ps slot x) s ≡ pin_at ps s
  stays s apart = get_or-set_other ps slot s x free apart

  long : length (slice_set ps slot x) ≡ length ps
  long = length-set ps slot x

  other_slot : (k s : ℕ) → s ≢ slot → IsHeldIn ps k s ↔ IsHeldIn (slice_set ps slot x) k s
  other_slot k s apart = (
    λ held. record { slot = omega (arith, held.slot, long); some = subst (λ (p : Pin). 0 < p.count) (sym (stays s apart)) held.some; cell = ap (λ (p : Pin). cell_of p.lane) (stays s apart) ∙ held.cell },
    λ held. record { slot = omega (arith, held.slot, long); some = subst (λ (p : Pin). 0 < p.count) (stays s apart) held.some; cell = ap (λ (p : Pin). cell_of p.lane) (sym (stays s apart)) ∙ held.cell },
  )

  -- this slot is held where its pin says
  this_slot : (k : ℕ) → IsHeldIn (slice_set ps slot x) k slot → (0 < x.count) × (cell_of x.lane ≡ k)
  this_slot k held = (subst (λ (p : Pin). 0 < p.count) changed held.some, ap (λ (p : Pin). cell_of p.lane) (sym changed) ∙ held.cell)

  this_held : 0 < x.count → IsHeldIn (slice_set ps slot x) (cell_of x.lane) slot
  this_held some = record { slot = omega (arith, within, long); some = subst (λ (p : Pin). 0 < p.count) (sym changed) some; cell = ap (λ (p : Pin). cell_of p.lane) changed }

-- ---- one set changes

abbrev pub both_ways : {A B C : Type 0} → A ↔ B → B ↔ C → A ↔ C
both_ways f g = (λ a. g.0 (f.0 a), λ c. f.1 (g.1 c))

module _ (ps : List Pin) (sets : List SmallSet) (are : AreHeld ps sets) (slot : ℕ) (within : slot < length ps) (x : Pin) (cell : ℕ) (low : cell < 64) (old new : SmallSet) (is : set_at sets cell ≡ old) (others : SameBut slot old new) where
  here : set_at (slice_set sets cell new) cell ≡ new
  here = get_or-set_same sets cell new no_places (omega (arith, low, are.cells))

  there : (k : ℕ) → k ≢ cell → set_at (slice_set sets cell new) k ≡ set_at sets k
  there k apart = get_or-set_other sets cell k new no_places apart

  -- the sets and the pins agree wherever neither the slot nor the set changed
  at_others : (k s : ℕ) → k < 64 → s ≢ slot → Has (set_at (slice_set sets cell new) k) s ↔ IsHeldIn (slice_set ps slot x) k s
  at_others k s lt apart = both_ways (⊎_elim same other (cases_eq k cell)) (both_ways (are.held k s lt) (other_slot ps slot within x k s apart))
    where
      same : k ≡ cell → Has (set_at (slice_set sets cell new) k) s ↔ Has (set_at sets k) s
      same e = subst (λ m. Has (set_at (slice_set sets cell new) m) s ↔ Has (set_at sets m) s) (sym e)
          (subst (λ set. Has set s ↔ Has (set_at sets cell) s) (sym here) (subst (λ set. Has new s ↔ Has set s) (sym is) (others s apart)))

      other : k ≢ cell → Has (set_at (slice_set sets cell new) k) s ↔ Has (set_at sets k) s
      other ne = subst (λ set. Has set s ↔ Has (set_at sets k) s) (sym (there k ne)) (λ has. has, λ has. has)

  -- so it is enough that they agree at the slot
  agree : ((k : ℕ) → k < 64 → Has (set_at (slice_set sets cell new) k) slot ↔ IsHeldIn (slice_set ps slot x) k slot)
      → (k s : ℕ) → k < 64 → Has (set_at (slice_set sets cell new) k) s ↔ IsHeldIn (slice_set ps slot x) k s
  agree at_slot k s lt =
      ⊎_elim (λ e. subst (λ t. Has (set_at (slice_set sets cell new) k) t ↔ IsHeldIn (slice_set ps slot x) k t) (sym e) (at_slot k lt)) (at_others k s lt) (cases_eq s slot)

-- ---- an event more of the slot

module _ (ps : List Pin) (sets : List SmallSet) (are : AreHeld ps sets) (slot : ℕ) (within : slot < length ps) (lane : ℕ) (old new : SmallSet) where
  abbrev more : Pin
  more = pinned (pin_at ps slot) lane

  pub pin_held : IsTrue (may_pin (pin_at ps slot) lane) → cell_of lane < 64 → set_at sets (cell_of lane) ≡ old → Has new slot → SameBut slot old new
      → AreHeld (slice_set ps slot (pinned (pin_at ps slot) lane)) (slice_set sets (cell_of lane) new)
  pin_held may low is there_new others =
      record {
        few = omega (arith, are.few, length-set ps slot more);
        cells = length-set sets (cell_of lane) new ∙ are.cells;
        held = agree ps sets are slot within more (cell_of lane) low old new is others at_slot;
      }
    where
      elsewhere : (k : ℕ) → k < 64 → k ≢ cell_of lane → Has (set_at sets k) slot → ⊥
      elsewhere k lt ne has =
          let held = (are.held k slot lt).0 has in
          ⊎_elim (λ zero. let z = eqb-true (pin_at ps slot).count 0 zero in omega (arith, held.some, z))
          (λ same. ne (sym held.cell ∙ ap cell_of (eqb-true (pin_at ps slot).lane lane same)))
          (or_cases ((pin_at ps slot).count == 0) ((pin_at ps slot).lane == lane) may)

      at_slot : (k : ℕ) → k < 64 → Has (set_at (slice_set sets (cell_of lane) new) k) slot ↔ IsHeldIn (slice_set ps slot more) k slot
      at_slot k lt = ⊎_elim same other (cases_eq k (cell_of lane))
        where
          same : k ≡ cell_of lane → Has (set_at (slice_set sets (cell_of lane) new) k) slot ↔ IsHeldIn (slice_set ps slot more) k slot
          same e = (
            λ has. subst (λ m. IsHeldIn (slice_set ps slot more) m slot) (sym e) (this_held ps slot within more (omega arith)),
            λ held. subst (λ m. Has (set_at (slice_set sets (cell_of lane) new) m) slot) (sym e) (subst (λ set. Has set slot) (sym (here ps sets are slot within more (cell_of lane) low old new is others)) there_new),
          )

          other : k ≢ cell_of lane → Has (set_at (slice_set sets (cell_of lane) new) k) slot ↔ IsHeldIn (slice_set ps slot more) k slot
          other ne = (
            λ has. absurd (elsewhere k lt ne (subst (λ set. Has set slot) (there ps sets are slot within more (cell_of lane) low old new is others k ne) has)),
            λ held. absurd (ne (sym (this_slot ps slot within more k held).1)),
          )

-- ---- an event of the slot is answered

module _ (ps : List Pin) (sets : List SmallSet) (are : AreHeld ps sets) (slot : ℕ) (within : slot < length ps) where
  abbrev fewer : Pin
  fewer = unpinned (pin_at ps slot)

  -- it was the last one
  pub last_unpinned : (old new : SmallSet) → (pin_at ps slot).count ≡ 1 → cell_of (pin_at ps slot).lane < 64 → set_at sets (cell_of (pin_at ps slot).lane) ≡ old → (Has new slot → ⊥) → SameBut slot old new
      → AreHeld (slice_set ps slot (unpinned (pin_at ps slot))) (slice_set sets (cell_of (pin_at ps slot).lane) new)
  last_unpinned old new one low is gone others =
      record {
        few = omega (arith, are.few, length-set ps slot fewer);
        cells = length-set sets cell new ∙ are.cells;
        held = agree ps sets are slot within fewer cell low old new is others at_slot;
      }
    where
      cell : ℕ
      cell = cell_of (pin_at ps slot).lane

      here_now : set_at (slice_set sets cell new) cell ≡ new
      here_now = here ps sets are slot within fewer cell low old new is others

      was : (s : ℕ) → Has new s → Has old s
      was s has = ⊎_elim (λ e. absurd (gone (subst (Has new) e has))) (λ ne. (others s ne).0 has) (cases_eq s slot)

      at_slot : (k : ℕ) → k < 64 → Has (set_at (slice_set sets cell new) k) slot ↔ IsHeldIn (slice_set ps slot fewer) k slot
      at_slot k lt = (λ has. ⊎_elim (same has) (other has) (cases_eq k cell), λ held. let some = (this_slot ps slot within fewer k held).0 in absurd (omega (arith, one)))
        where
          same : Has (set_at (slice_set sets cell new) k) slot → k ≡ cell → IsHeldIn (slice_set ps slot fewer) k slot
          same has e = absurd (gone (subst (λ set. Has set slot) here_now (subst (λ m. Has (set_at (slice_set sets cell new) m) slot) e has)))

          other : Has (set_at (slice_set sets cell new) k) slot → k ≢ cell → IsHeldIn (slice_set ps slot fewer) k slot
          other has ne = absurd (ne (sym ((are.held k slot lt).0 (subst (λ set. Has set slot) (there ps sets are slot within fewer cell low old new is others k ne) has)).cell))

  -- others are left
  pub one_unpinned : (pin_at ps slot).count ≢ 1 → 0 < (pin_at ps slot).count → AreHeld (slice_set ps slot (unpinned (pin_at ps slot))) sets
  one_unpinned several some =
      record {
        few = omega (arith, are.few, length-set ps slot fewer);
        cells = are.cells;
        held = λ k s lt. both_ways (are.held k s lt) (⊎_elim (λ e. subst (λ t. IsHeldIn ps k t ↔ IsHeldIn (slice_set ps slot fewer) k t) (sym e) (at_slot k)) (other_slot ps slot within fewer k s) (cases_eq s slot));
      }
    where
      at_slot : (k : ℕ) → IsHeldIn ps k slot ↔ IsHeldIn (slice_set ps slot fewer) k slot
      at_slot k = (
        λ held. subst (λ m. IsHeldIn (slice_set ps slot fewer) m slot) held.cell (this_held ps slot within fewer (omega (arith, several, some))),
        λ held. record { slot = within; some = some; cell = (this_slot ps slot within fewer k held).1 },
      )

-- ---- the sets are made, slot by slot

-- of no slot
pub none_below : (ps : List Pin) (empty : SmallSet) → ((i : ℕ) → ¬ Has empty i) → AreHeldBelow ps 0 (replicate 64 empty)
none_below ps empty none =
    record {
      cells = refl;
      held = λ k s lt. (λ has. absurd (none s (subst (λ x. Has x s) (get_or-replicate 64 k empty no_places lt) has)), λ held. let past = held.0 in absurd (omega arith));
    }

-- of all slots
pub all_below : (ps : List Pin) (sets : List SmallSet) (n : ℕ) → length ps ≤ 64 → n ≡ length ps → AreHeldBelow ps n sets → AreHeld ps sets
all_below ps sets n few all are =
    record {
      few = few;
      cells = are.cells;
      held = λ k s lt. (λ has. ((are.held k s lt).0 has).1, λ held. (are.held k s lt).1 (let slot = held.slot in omega arith, held));
    }

module _ (ps : List Pin) (sets : List SmallSet) (n : ℕ) (are : AreHeldBelow ps n sets) (within : n < length ps) where
  -- a slot more that is free
  pub free_below : (pin_at ps n).count ≡ 0 → AreHeldBelow ps (n + 1) sets
  free_below zero =
      record {
        cells = are.cells;
        held = λ k s lt. (
          λ has. let was = (are.held k s lt).0 has in (let low = was.0 in omega arith, was.1),
          λ held. (are.held k s lt).1 (
            ⊎_elim (λ e. let some = subst (λ m. 0 < (pin_at ps m).count) e held.1.some in absurd (omega (arith, zero, some))) (λ ne. let low = held.0 in omega (arith, low, ne)) (cases_eq s n),
            held.1,
          ),
        );
      }

  -- a slot more that stands on a lane
  pub next_below : (old new : SmallSet) → 0 < (pin_at ps n).count → set_at sets (cell_of (pin_at ps n).lane) ≡ old → Has new n → SameBut n old new → AreHeldBelow ps (n + 1) (slice_set sets (cell_of (pin_at ps n).lane) new)
  next_below old new some is there_new others = record { cells = length-set sets cell new ∙ are.cells; held = agree_on }
    where
      cell : ℕ
      cell = cell_of (pin_at ps n).lane

      here_now : set_at (slice_set sets cell new) cell ≡ new
      here_now = get_or-set_same sets cell new no_places (omega (arith, cell_low (pin_at ps n).lane, are.cells))

      there_now : (k : ℕ) → k ≢ cell → set_at (slice_set sets cell new) k ≡ set_at sets k
      there_now k apart = get_or-set_other sets cell k new no_places apart

      at_slot : (k : ℕ) → k < 64 → Has (set_at (slice_set sets cell new) k) n ↔ ((n < n + 1) × IsHeldIn ps k n)
      at_slot k lt = (
        λ has. (
          omega arith,
          ⊎_elim (λ e. record { slot = within; some = some; cell = sym e })
              (λ ne. let past = ((are.held k n lt).0 (subst (λ set. Has set n) (there_now k ne) has)).0 in absurd (omega arith)) (cases_eq k cell),
        ),
        λ held. subst (λ m. Has (set_at (slice_set sets cell new) m) n) held.1.cell (subst (λ set. Has set n) (sym here_now) there_new),
      )

      stays_there : (k s : ℕ) → s ≢ n → Has (set_at (slice_set sets cell new) k) s ↔ Has (set_at sets k) s
      stays_there k s apart =
          ⊎_elim
          (λ e. subst (λ m. Has (set_at (slice_set sets cell new) m) s ↔ Has (set_at sets m) s) (sym e)
          (subst (λ set. Has set s ↔ Has (set_at sets cell) s) (sym here_now) (subst (λ set. Has new s ↔ Has set s) (sym is) (others s apart))))
          (λ ne. subst (λ set. Has set s ↔ Has (set_at sets k) s) (sym (there_now k ne)) (λ has. has, λ has. has))
          (cases_eq k cell)

      at_other : (k s : ℕ) → k < 64 → s ≢ n → Has (set_at (slice_set sets cell new) k) s ↔ ((s < n + 1) × IsHeldIn ps k s)
      at_other k s lt apart = both_ways (both_ways (stays_there k s apart) (are.held k s lt)) (λ held. let low = held.0 in (omega arith, held.1), λ held. let low = held.0 in (omega (arith, low, apart), held.1))

      agree_on : (k s : ℕ) → k < 64 → Has (set_at (slice_set sets cell new) k) s ↔ ((s < n + 1) × IsHeldIn ps k s)
      agree_on k s lt = ⊎_elim (λ e. subst (λ t. Has (set_at (slice_set sets cell new) k) t ↔ ((t < n + 1) × IsHeldIn ps k t)) (sym e) (at_slot k lt)) (at_other k s lt) (cases_eq s n)

-- ---- which slots stand on none of some lanes

-- none of the lanes that were walked over has the slot
abbrev pub IsOff : List SmallSet → SmallSet → SmallSet → ℕ → Type 0
IsOff sets all left s = (k : ℕ) → Has all k → ¬ Has left k → ¬ Has (set_at sets k) s

-- the slots that are left after the sets of some of the lanes were taken out
pub record AreOff (sets : List SmallSet) (all left slots : SmallSet) : Type 0 where
  pub rest : (k : ℕ) → Has left k → Has all k
  pub low : (k : ℕ) → Has all k → ¬ Has left k → k < 64
  pub off : (s : ℕ) → s < 64 → Has slots s ↔ IsOff sets all left s

pub first_off : (sets : List SmallSet) (all slots : SmallSet) → ((s : ℕ) → Has slots s ↔ (s < 64)) → AreOff sets all all slots
first_off sets all slots below =
    record {
      rest = λ k has. has;
      low = λ k has gone. absurd (gone has);
      off = λ s lt. (λ has k there gone. absurd (gone there), λ off. (below s).1 lt);
    }

-- one set more is taken out
pub next_off : (sets : List SmallSet) (all left rest slots less : SmallSet) (k : ℕ) → k < 64 → Has left k → (Has rest k → ⊥) → SameBut k left rest
    → ((i : ℕ) → Has less i ↔ (Has slots i × (Has (set_at sets k) i → ⊥))) → AreOff sets all left slots → AreOff sets all rest less
next_off sets all left rest slots less k few here gone others is are =
    record {
      rest = λ j has. ⊎_elim (λ e. absurd (gone (subst (Has rest) e has))) (λ ne. are.rest j ((others j ne).0 has)) (cases_eq j k);
      low = λ j has past. ⊎_elim (λ e. omega (arith, e, few)) (λ ne. are.low j has (λ still. past ((others j ne).1 still))) (cases_eq j k);
      off = λ s lt. (
        λ has j there past. let parts = (is s).0 has in ⊎_elim (λ e. subst (λ m. Has (set_at sets m) s → ⊥) (sym e) parts.1) (λ ne. (are.off s lt).0 parts.0 j there (λ still. past ((others j ne).1 still))) (cases_eq j k),
        λ clear. (is s).1 ((are.off s lt).1 (λ j there past. clear j there (λ still. past (⊎_elim (λ e. absurd (gone (subst (Has rest) e still))) (λ ne. (others j ne).0 still) (cases_eq j k)))), clear k (are.rest k here) gone),
      );
    }

-- a slot that isn't free is one of these
held_within : (ps : List Pin) (s : ℕ) → 0 < (pin_at ps s).count → s < length ps
held_within ps s some =
    ⊎_elim (λ lt. lt) (λ past. let none = ap (λ (p : Pin). p.count) (get_or_past ps s free past) in absurd (omega (arith, some, none))) (cases_lt s (length ps))

-- all sets were taken out
pub all_off : (ps : List Pin) (sets : List SmallSet) (all left slots : SmallSet) → AreHeld ps sets → ((k : ℕ) → Has left k → ⊥) → AreOff sets all left slots
    → (s : ℕ) → s < 64 → (0 < (pin_at ps s).count → (pin_at ps s).lane < 64) → Has slots s ↔ ((l : ℕ) → Has all l → ¬ IsOn (pin_at ps s) l)
all_off ps sets all left slots held done are s lt low = both_ways (are.off s lt) (there, back)
  where
    there : IsOff sets all left s → (l : ℕ) → Has all l → ¬ IsOn (pin_at ps s) l
    there off l has on =
        let few = are.low l has (done l) in
        off l has (done l) ((held.held l s few).1 (record { slot = held_within ps s on.0; some = on.0; cell = ap cell_of on.1 ∙ cell_own l few }))

    back : ((l : ℕ) → Has all l → ¬ IsOn (pin_at ps s) l) → IsOff sets all left s
    back none k has past in_set =
        let is = (held.held k s (are.low k has past)).0 in_set in
        none k has (is.some, sym (cell_own (pin_at ps s).lane (low is.some)) ∙ is.cell)
