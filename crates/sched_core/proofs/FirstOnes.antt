-- The first event of a level, as a queue finds it and as a core's view has it.
use Rattle.std.proofs.Common.{◌≡◌, ◌≢◌, ℕ, ◌%◌, ◌<◌, ◌≤◌, Bool, true, false, cond, List, length, get_or, All, Contains, refl, sym, ap, ◌∙◌, subst, arith}
use Rattle.std.proofs.lemmas.Nat.{mod_below}
use Rattle.evt_types.specs.Fault.{IsWithinLimits}
use Rattle.evt_types.specs.Plan.{Plan, level_of, queue_of, slot_of, is_atomic}
use Rattle.evt_types.specs.declared.event.Numbered.{Numbered}
use Rattle.small_set.specs.SmallSets.{Has}
use Rattle.small_set.specs.declared.set.SmallSet.{SmallSet}
use Rattle.sched_core.proofs.Busy.{waiting_there, waits_is}
use Rattle.sched_core.proofs.Cores.{waiting_here, waits_here}
use Rattle.sched_core.proofs.News.{slots_range}
use Rattle.sched_core.proofs.Offers.{HasNoneBeside, levels_beside, none_waits}
use Rattle.parked_queue.specs.Busy.{AreBusy}
use Rattle.sched_core.specs.Inner.{slots_for}
use Rattle.sched_core.specs.Offered.{HasNoneAllowedIn, IsFirstIn, numbered_in, slot_at}
use Rattle.sched_core.specs.Runs.{HasSlot}
use Rattle.sched_core.specs.View.{view_in, IsCore}
use Rattle.parked_queue.specs.LevelSets.{AreLevels, members}
use Rattle.parked_queue.specs.Waits.{Waits, HasNoneAllowed, IsFirstAllowed, waits_at}
use Rattle.parked_queue.specs.declared.level.Levels.{Levels}
use Rattle.sched_core.specs.declared.offer.Offer.{Offer}
use Rattle.sched_core.specs.declared.state.Core.TheInside.{Inside}
use Rattle.transcripts.specs.Choice.{Passed, HasNone}
use Rattle.transcripts.specs.Standing.{View}

-- the slot of an event, by how many slots its queue has
pub slot_agrees : (p : Plan) (q flow : ℕ) → flow % slots_for p q ≡ slot_of p q flow
slot_agrees p q flow = by_kind (is_atomic (queue_of p q).kind)
  where
    by_kind : (b : Bool) → flow % cond b (queue_of p q).slots 1 ≡ cond b (flow % (queue_of p q).slots) 0
    by_kind true = refl
    by_kind false = omega arith

pub slot_below : (p : Plan) (q flow : ℕ) → IsWithinLimits p → q < length p.queues → slot_of p q flow < slots_for p q
slot_below p q flow limits h =
    let some = (slots_range p q limits h).0 in
    subst (λ s. s < slots_for p q) (slot_agrees p q flow) (mod_below flow (slots_for p q) (omega (arith, some)))

pub slots_within : (v : View) (q : ℕ) → IsWithinLimits v.shape → q < length v.shape.queues → (w : Numbered) → slot_at v q w < slots_for v.shape q
slots_within v q limits h w = slot_below v.shape q w.event.flow limits h

-- nothing can be given of the levels that a queue doesn't name
pub levels_here : (a : Inside) (v : View) (s : Passed) (q : ℕ) (left : Levels) → view_in a ≡ v → AreLevels (waits_at a.queues q) left → HasNoneBeside v s q (members left)
levels_here a v s q left view levels =
    subst (λ (u : View). HasNoneBeside u s q (members left)) view
    (levels_beside (view_in a) s q (members left) (λ c never. subst (All (λ (w : Numbered). level_of w.event ≢ c)) (sym (waiting_there a q)) (levels.rest c never)))

-- nothing can be given of the queues in which nothing waits
pub busy_none : (a : Inside) (v : View) (s : Passed) (busy : SmallSet) → view_in a ≡ v → AreBusy a.queues busy → (r : ℕ) → (¬ Has busy r) → HasNone v s r
busy_none a v s busy view all r never = subst (λ (u : View). HasNone u s r) view (none_waits (view_in a) s r (waiting_there a r ∙ all.rest r never))

module _ (a : Inside) (i : ℕ) (old : Waits) (core : IsCore a) (h : i < length a.queues) (is : old ≡ get_or a.queues i old) where
  pub slots_here : old.slots ≡ slots_for a.shape i
  slots_here = ap (λ (q : Waits). q.slots) is ∙ core.slots i old h

  pub slot_in_queue : (w : Numbered) → w.event.flow % old.slots ≡ slot_at (view_in a) i w
  slot_in_queue w = ap (λ n. w.event.flow % n) slots_here ∙ slot_agrees a.shape i w.event.flow

  first_of_view : (c : ℕ) (allowed : SmallSet) (w : Numbered) → IsFirstAllowed old c allowed w → IsFirstIn (view_in a) i c allowed w
  first_of_view c allowed w first =
      record {
        waits = subst (λ ws. Contains ws w) (sym (waiting_here a i old h is)) first.waits;
        level = first.level;
        slot = subst (Has allowed) (slot_in_queue w) first.slot;
        first = λ u waits level has.
            let here : Contains old.waiting u = waits_here a i old u h is waits in
            subst (λ (x : Numbered). w.number ≤ x.number) here.2
            (first.first here.0 u here.1 (subst (λ (x : Numbered). level_of x.event ≡ c) (sym here.2) level) (subst (λ (x : Numbered). Has allowed (x.event.flow % old.slots)) (sym here.2) (subst (Has allowed) (sym (slot_in_queue u)) has)));
      }

  none_in_view : (c : ℕ) (allowed : SmallSet) → HasNoneAllowed old c allowed → HasNoneAllowedIn (view_in a) i c allowed
  none_in_view c allowed none = λ u waits level has.
      let here : Contains old.waiting u = waits_here a i old u h is waits in
      none here.0 u here.1 (subst (λ (x : Numbered). level_of x.event ≡ c) (sym here.2) level) (subst (λ (x : Numbered). Has allowed (x.event.flow % old.slots)) (sym here.2) (subst (Has allowed) (sym (slot_in_queue u)) has))

-- the core with other queues
abbrev pub with_queues : Inside → List Waits → Inside
with_queues a qs = record a { queues = qs }

-- what a queue finds is what the core's view has
module _ (a : Inside) (v : View) (q : ℕ) (core : IsCore a) (view : view_in a ≡ v) (within : q < length v.shape.queues) where
  queue_there : q < length a.queues
  queue_there = let count = core.queues in let same = ap (λ (u : View). length u.shape.queues) view in omega arith

  pub found_first : (c : ℕ) (allowed : SmallSet) (w : Numbered) → IsFirstAllowed (waits_at a.queues q) c allowed w → IsFirstIn v q c allowed w
  found_first c allowed w first = subst (λ u. IsFirstIn u q c allowed w) view (first_of_view a q (waits_at a.queues q) core queue_there (waits_is a.queues q queue_there) c allowed w first)

  pub found_slot : (slot : ℕ) (w : Numbered) → slot ≡ w.event.flow % (waits_at a.queues q).slots → slot ≡ slot_at v q w
  found_slot slot w is = is ∙ (slot_in_queue a q (waits_at a.queues q) core queue_there (waits_is a.queues q queue_there) w ∙ ap (λ u. slot_at u q w) view)

  -- its slot, as it was found by its flow
  pub slot_of_flow : (t f slot : ℕ) (w u : Numbered) → slot ≡ f % (waits_at a.queues t).slots → f ≡ w.event.flow → t ≡ q → u ≡ w → slot ≡ slot_at v t u
  slot_of_flow t f slot w u is flow queue event =
      found_slot slot w (is ∙ (ap (λ n. f % (waits_at a.queues n).slots) queue ∙ ap (λ k. k % (waits_at a.queues q).slots) flow)) ∙ (ap (λ n. slot_at v n w) (sym queue) ∙ ap (slot_at v t) (sym event))

  -- and so the offer's that was made of it
  pub offer_slot : (slot : ℕ) (w : Numbered) (o : Offer) → slot ≡ w.event.flow % (waits_at a.queues q).slots → o.slot ≡ slot → o.delivery.queue ≡ q → numbered_in o.delivery ≡ w → HasSlot v o
  offer_slot slot w o is same queue event =
      same ∙ (found_slot slot w is ∙ (ap (λ n. slot_at v n w) (sym queue) ∙ ap (slot_at v o.delivery.queue) (sym event)))

  pub found_none : (c : ℕ) (allowed : SmallSet) → HasNoneAllowed (waits_at a.queues q) c allowed → HasNoneAllowedIn v q c allowed
  found_none c allowed none = subst (λ u. HasNoneAllowedIn u q c allowed) view (none_in_view a q (waits_at a.queues q) core queue_there (waits_is a.queues q queue_there) c allowed none)

-- the slot that an offer has, where its queue and its event were read out of it
pub slot_here : (v : View) (o : Offer) (q : ℕ) (w : Numbered) → HasSlot v o → q ≡ o.delivery.queue → w ≡ numbered_in o.delivery → o.slot ≡ slot_at v q w
slot_here v o q w has queue event = has ∙ (ap (λ n. slot_at v n (numbered_in o.delivery)) (sym queue) ∙ ap (slot_at v q) (sym event))
