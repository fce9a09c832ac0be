use Rattle.std.proofs.Common.{◌≡◌, ◌+◌, ◌<◌, ◌≤◌, ◌%◌, ◌∙◌, length, subst, sym, ap, arith}
use Rattle.std.proofs.lemmas.Bool.{false≢true}
use Rattle.std.specs.Option.{is_some}
use Rattle.evt_types.specs.declared.event.Numbered.{Numbered}
use Rattle.small_set.specs.SmallSets.{Has}
use Rattle.parked_queue.specs.Parkings.{parted_by}
use Rattle.parked_queue.specs.Parted.{HasNoneParked, Parted, list_in, own_first, with_below}
use Rattle.parked_queue.specs.Waits.{HasNoneAllowed, IsFirstAllowed, slot_of}
use Rattle.parked_queue.proofs.Calls.{changed_then, masked_slots, unchanged}
use Rattle.parked_queue.proofs.Firsts.{fewer_left, main_first, none_left, still_none}
use Rattle.parked_queue.proofs.Options.{if_some, of_some}
use Rattle.parked_queue.proofs.parking.Parking.first_main.Goals as goal

pub loop-waiting-init : goal.loop-waiting-init
loop-waiting-init c =
    record { changed = unchanged c.args.lists.now c.args.self.now c.requires.parted; none = c.requires.none }

pub front-requires : goal.front-requires
front-requires c =
    c.loop-waiting.invariant.changed.part

pub slot_in-slot-requires : goal.slot_in-slot-requires
slot_in-slot-requires c = masked_slots c.loop-waiting.lists c.loop-waiting.self c.loop-waiting.invariant.changed.part

pub has-requires : goal.has-requires
has-requires c =
    let few : c.loop-waiting.self.slots ≤ 64 = c.loop-waiting.invariant.changed.part.parking.waits.few in
    omega (arith, c.slot_in-slot.ensures.within)

pub returns-then-has-clause-changed : goal.returns-then-has-clause-changed
returns-then-has-clause-changed c =
    c.loop-waiting.invariant.changed

pub returns-then-has-clause-first : goal.returns-then-has-clause-first
returns-then-has-clause-first c =
    let v : Parted = parted_by c.loop-waiting.lists c.loop-waiting.self in
    subst (λ q. IsFirstAllowed q c.args.level.number c.args.allowed c.in-Some.waiting.now) c.loop-waiting.invariant.changed.waits
    (main_first v c.args.level.number c.args.allowed c.loop-waiting.invariant.changed.part.parking.waits c.args.level.few c.loop-waiting.invariant.none c.in-Some.waiting.now (sym c.in-Some.ensures) (subst (Has c.args.allowed) (c.slot_in-slot.ensures.value ∙ ap (λ f. f % c.loop-waiting.self.slots) c.flow-flow.ensures) (c.has.ensures.0 c.if-has.true)))

pub returns-then-has-clause-slot : goal.returns-then-has-clause-slot
returns-then-has-clause-slot c =
    (c.slot_in-slot.ensures.value ∙ ap (λ f. f % c.loop-waiting.self.slots) c.flow-flow.ensures) ∙ ap (λ n. slot_of n c.in-Some.waiting.now) c.loop-waiting.invariant.changed.slots

pub park-requires-clause-parted : goal.park-requires-clause-parted
park-requires-clause-parted c =
    c.loop-waiting.invariant.changed.part

pub park-requires-clause-first : goal.park-requires-clause-first
park-requires-clause-first c =
    ap is_some (sym c.in-Some.ensures)

pub park-requires-clause-slot : goal.park-requires-clause-slot
park-requires-clause-slot c =
    let v : Parted = parted_by c.loop-waiting.lists c.loop-waiting.self in
    if_some (own_first v c.args.level.number) c.in-Some.waiting.now (λ (w : Numbered). c.slot_in-slot.result ≡ slot_of c.loop-waiting.self.slots w) (sym c.in-Some.ensures) (c.slot_in-slot.ensures.value ∙ ap (λ f. f % c.loop-waiting.self.slots) c.flow-flow.ensures)

pub loop-waiting-smaller : goal.loop-waiting-smaller
loop-waiting-smaller c =
    let v : Parted = parted_by c.loop-waiting.lists c.loop-waiting.self in
    let parked =
    of_some (own_first v c.args.level.number) c.in-Some.waiting.now (λ (w : Numbered). parted_by c.park.new.lists c.park.new.self ≡ with_below v c.args.level.number (w.number + 1)) (sym c.in-Some.ensures) c.park.ensures.below in
    subst (λ u. length (list_in u c.args.level.number) < length (list_in v c.args.level.number)) (sym parked) (fewer_left v c.args.level.number c.args.allowed c.loop-waiting.invariant.changed.part.parking.waits c.args.level.few c.loop-waiting.invariant.none c.in-Some.waiting.now (sym c.in-Some.ensures) c.loop-waiting.invariant.changed.part.parking.four)

pub loop-waiting-preserved : goal.loop-waiting-preserved
loop-waiting-preserved c =
    let v : Parted = parted_by c.loop-waiting.lists c.loop-waiting.self in
    let parked =
    of_some (own_first v c.args.level.number) c.in-Some.waiting.now (λ (w : Numbered). parted_by c.park.new.lists c.park.new.self ≡ with_below v c.args.level.number (w.number + 1)) (sym c.in-Some.ensures) c.park.ensures.below in
    record {
      changed = changed_then c.args.lists.now c.loop-waiting.lists c.park.new.lists c.args.self.now c.loop-waiting.self c.park.new.self c.loop-waiting.invariant.changed c.park.ensures.changed;
      none =
          subst (λ u. HasNoneParked u c.args.level.number c.args.allowed) (sym parked)
          (still_none v c.args.level.number c.args.allowed c.loop-waiting.invariant.changed.part.parking.waits c.args.level.few c.loop-waiting.invariant.none c.in-Some.waiting.now (sym c.in-Some.ensures) c.loop-waiting.invariant.changed.part.parking.four
          (λ may. false≢true (sym c.if-has.false ∙ c.has.ensures.1 (subst (Has c.args.allowed) (sym (c.slot_in-slot.ensures.value ∙ ap (λ f. f % c.loop-waiting.self.slots) c.flow-flow.ensures)) may))));
    }

pub returns-clause-changed : goal.returns-clause-changed
returns-clause-changed c =
    c.loop-waiting.invariant.changed

pub returns-clause-none : goal.returns-clause-none
returns-clause-none c =
    let v : Parted = parted_by c.loop-waiting.lists c.loop-waiting.self in
    subst (λ q. HasNoneAllowed q c.args.level.number c.args.allowed) c.loop-waiting.invariant.changed.waits (none_left v c.args.level.number c.args.allowed c.loop-waiting.invariant.changed.part.parking.waits c.args.level.few c.loop-waiting.invariant.none (sym c.in_default.ensures))
