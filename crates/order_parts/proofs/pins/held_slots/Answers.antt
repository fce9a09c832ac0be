use Rattle.std.proofs.Common.{◌<◌, map, length, refl, arith}
use Rattle.std.proofs.lemmas.List.{get_or_default, length-map}
use Rattle.order_parts.specs.Pins.{pin_of}
use Rattle.order_parts.proofs.HeldSlots.{all_below, none_below}
use Rattle.order_parts.proofs.Holds.{pin_here}
use Rattle.order_parts.proofs.pins.held_slots.Goals as goal

pub loop-slot-init : goal.loop-slot-init
loop-slot-init c = none_below (map pin_of c.args.holds.now) c.none-held.result c.none-held.ensures

pub loop-slot-preserved : goal.loop-slot-preserved
loop-slot-preserved c =
    let within : c.loop-slot.slot < length (map pin_of c.args.holds.now) = omega (arith, c.loop-slot-test.true, length-map c.args.holds.now pin_of) in
    c.note_hold.ensures (map pin_of c.args.holds.now) c.loop-slot.invariant within (pin_here c.args.holds.now (map pin_of c.args.holds.now) c.loop-slot.slot _ refl within (get_or_default c.args.holds.now c.loop-slot.slot (record { count = 0; lane = 0 }) _ c.loop-slot-test.true))

pub returns : goal.returns
returns c = all_below (map pin_of c.args.holds.now) c.loop-slot.held c.loop-slot.slot (omega (arith, c.requires, length-map c.args.holds.now pin_of)) (omega (arith, c.loop-slot-test.false, c.loop-slot.auto.slot-end, length-map c.args.holds.now pin_of)) c.loop-slot.invariant
