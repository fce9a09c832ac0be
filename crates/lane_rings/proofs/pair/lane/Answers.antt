-- Nothing is in a new lane.
use Rattle.std.proofs.Common.{ap, arith, length, rules, subst, sym}
use Rattle.rtrb.specs.Ring.{known_items, sent}
use Rattle.evt_types.proofs.Additions.{beside-none}
use Rattle.evt_types.specs.Additions.{AreBeside, extras_of}
use Rattle.lane_rings.specs.Ends.{answers_among}
use Rattle.lane_rings.specs.Intakes.{handed, inside}
use Rattle.lane_rings.specs.Outlets.{put_in}
use Rattle.lane_rings.proofs.Handing.{none-first}
use Rattle.lane_rings.proofs.HeldPairs.{none_are}
use Rattle.lane_rings.proofs.pair.lane.Goals as goal

pub invariant_of-far : goal.invariant_of-far
invariant_of-far c =
    let receipts = c.in_ok-offers.receipts in
    let none = c.new-3.ensures.lists in
    record {
      held_is = omega (arith, ap answers_among none, ap length c.in_ok-offers.ensures.reading.0, ap length c.in_ok-held.ensures.0);
      held_are = none_are (answers_among (put_in c.new-3.result)) (handed receipts) _ c.in_ok-held.ensures.0 (omega (arith, ap length c.in_ok-offers.ensures.reading.0));
      held_few = omega (arith, ap length c.in_ok-held.ensures.0);
      held_room = omega (arith, c.in_ok-held.ensures.1, c.in_ok-offers.ensures.reading.2);
      all_received = none-first (inside receipts) (known_items receipts.ring) c.in_ok-offers.ensures.reading.1;
      extras_are = sym (ap extras_of none);
      extras_few = omega arith;
      beside = subst (AreBeside (length (handed receipts))) (sym none) (beside-none (length (handed receipts)));
    }

pub returns-clause-near : goal.returns-clause-near
returns-clause-near c =
    let takings = c.in_ok-answers.takings in
    let read = c.in_ok-answers.ensures.reading in
    (search rules, search rules, read.0, read.1, none-first (inside takings) (known_items takings.ring) read.1)

pub returns-clause-far : goal.returns-clause-far
returns-clause-far c =
    let read = c.in_ok-offers.ensures.reading in
    (read.0, read.1, search rules)
