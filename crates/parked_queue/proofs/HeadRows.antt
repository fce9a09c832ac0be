-- A row of a level's first events goes, where none of the level is parked: what is left of its queue, and of all queues.
use Rattle.std.proofs.Common.{◌≡◌, ℕ, ◌+◌, ◌-◌, ◌<◌, ◌≤◌, ◌%◌, List, ◌++◌, All, length, map, drop, set, get_or, refl, sym, ap, ◌∙◌, subst, arith}
use Rattle.std.proofs.lemmas.List.{get_or-set_same, length-append, length-map, length-set, nil_from_length}
use Rattle.evt_types.specs.declared.event.Delivery.{Delivery}
use Rattle.evt_types.specs.declared.event.Numbered.{Numbered}
use Rattle.small_set.specs.SmallSets.{IsEmpty, SameBut}
use Rattle.small_set.specs.declared.set.SmallSet.{SmallSet}
use Rattle.parked_queue.specs.Busy.{AreNoted, AreQueues}
use Rattle.parked_queue.specs.Lists.{Lists, list_at, named_delivery, with_list}
use Rattle.parked_queue.specs.Marks.{marks_at}
use Rattle.parked_queue.specs.Parkings.{IsChanged, all_waits, parted_by, waits_by}
use Rattle.parked_queue.specs.Rows.{at_level, without_all}
use Rattle.parked_queue.specs.Waits.{IsOnlyOf, Waits, no_waits, waits_at}
use Rattle.parked_queue.specs.declared.level.Level.{Level}
use Rattle.parked_queue.specs.declared.parking.Parking.{Parking}
use Rattle.parked_queue.specs.declared.queues.ParkedQueues.TheInside.{Inside}
use Rattle.parked_queue.proofs.Calls.{level_list, list_is, marks_are}
use Rattle.parked_queue.proofs.LevelHeads.{noted_all, noted_none, only_heads, own_list, row_gone}
use Rattle.parked_queue.proofs.Parkings.{IsAsked, asked, queues_changed, waits_changed}

-- these are the first events of the level
abbrev pub AreHeads : Waits → ℕ → List Delivery → Type 0
AreHeads v c row = (heads rest : List Numbered) × (at_level c v ≡ heads ++ rest) × (row ≡ map named_delivery heads)

-- no other has one of their numbers
abbrev pub HasOnly : Waits → ℕ → List Delivery → Type 0
HasOnly v c row = All (λ (d : Delivery). IsOnlyOf v c (d.event.flow % v.slots) d.number) row

module _ (v : Inside) (queues : AreQueues v.lists v.queues.items v.levels.items v.busy) (qs : List Waits) (view : all_waits v.lists v.queues.items ≡ qs)
    (q : ℕ) (lt : q < length qs) (p : Parking) (read : p ≡ get_or v.queues.items q p) (c : Level)
    (bare : (b : Parking) × (b ≡ get_or v.queues.items q b) × IsEmpty (marks_at b.parked c.number))
    (row : List Delivery) (heads : AreHeads (waits_at qs q) c.number row) where
  a : IsAsked v.lists v.queues.items qs q p
  a = asked v.lists v.queues.items qs q queues.parkings view lt p read

  -- the level's own list is the level
  own : list_at v.lists (p.base + c.number) ≡ heads.0 ++ heads.1
  own =
      let none : IsEmpty (marks_at p.parked c.number) =
      subst (λ (x : Parking). IsEmpty (marks_at x.parked c.number)) ((asked v.lists v.queues.items qs q queues.parkings view lt bare.0 bare.1).is ∙ sym a.is)
      bare.2 in
      list_is v.lists p a.part c.number (level_list v.lists p a.part c.number c.few)
      ∙ (own_list (parted_by v.lists p) c.number (marks_at p.parked c.number) c.few (marks_are v.lists p a.part c.number) none
      ∙ (ap (at_level c.number) a.waits ∙ heads.2))

  pub row_listed : length row ≤ length (list_at v.lists (p.base + c.number))
  row_listed = omega (arith, ap length own, ap length heads.3, length-map heads.0 named_delivery, length-append heads.0 heads.1)

  abbrev fewer : Parking
  fewer = record p { count = p.count - length row }

  abbrev dropped : Lists
  dropped = with_list v.lists (p.base + c.number) (drop (length row) (list_at v.lists (p.base + c.number)))

  module _ (only : HasOnly (waits_at qs q) c.number row) where
    goes : (m : Lists) → m ≡ dropped → (length row ≤ p.count) × IsChanged v.lists p m fewer (without_all (waits_by v.lists p) row)
    goes m gone =
        row_gone v.lists m p c.number heads.0 heads.1 row a.part c.few own
        (only_heads (waits_by v.lists p) (waits_at qs q) c.number p.slots row heads.0 a.waits refl heads.3 only) heads.3 gone

    pub row_counted : length row ≤ p.count
    row_counted = (goes dropped refl).0

    module _ (m : Lists) (gone : m ≡ dropped) where
      pub waits_gone : all_waits m (set v.queues.items q fewer) ≡ set qs q (without_all (waits_at qs q) row)
      waits_gone = waits_changed v.lists v.queues.items qs q queues.parkings view lt m p fewer (λ w. without_all w row) read (goes m gone).1

      still_noted : AreNoted (set qs q (without_all (waits_at qs q) row)) v.levels.items v.busy
      still_noted = noted_all qs v.levels.items v.busy q row lt (subst (λ ws. AreNoted ws v.levels.items v.busy) view queues.noted)

      pub queues_gone : AreQueues m (set v.queues.items q fewer) v.levels.items v.busy
      queues_gone =
          queues_changed v.lists v.queues.items qs q queues.parkings view lt m p fewer (λ w. without_all w row) read (goes m gone).1 v.levels.items v.busy
          still_noted

      -- and nothing is left in the queue
      pub queue_emptied : (busy : SmallSet) → p.count - length row ≡ 0 → SameBut q v.busy busy → AreQueues m (set v.queues.items q fewer) v.levels.items busy
      queue_emptied busy none same =
          let w : Waits = without_all (waits_at qs q) row in
          let went : IsChanged v.lists p m fewer (without_all (waits_by v.lists p) row) = (goes m gone).1 in
          let here : waits_at (set qs q w) q ≡ w = get_or-set_same qs q w (no_waits 1 0) lt in
          let left : length (waits_at (set qs q w) q).waiting ≡ 0 =
          ap (λ (x : Waits). length x.waiting) here ∙ (ap (λ x. length (without_all x row).waiting) (sym a.waits)
          ∙ (ap (λ (x : Waits). length x.waiting) (sym went.waits) ∙ (sym went.part.count ∙ none))) in
          queues_changed v.lists v.queues.items qs q queues.parkings view lt m p fewer (λ x. without_all x row) read went v.levels.items busy
          (noted_none (set qs q w) v.levels.items v.busy busy q (omega (arith, lt, length-set qs q w)) still_noted
          (nil_from_length (waits_at (set qs q w) q).waiting left) same)
