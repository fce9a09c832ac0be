-- What is handed out is held.
use Rattle.std.proofs.Common.{◌≤◌, ap, arith, drop, length, length-append, map}
use Rattle.std.proofs.lemmas.List.{length-map}
use Rattle.evt_types.proofs.Additions.{beside-kept}
use Rattle.evt_types.specs.Event.{pair_of}
use Rattle.lane_rings.specs.Ends.{answered, answers_among, received_by}
use Rattle.lane_rings.specs.HeldPairs.{Held}
use Rattle.lane_rings.specs.Intakes.{handed}
use Rattle.lane_rings.proofs.HeldPairs.{more_are}
use Rattle.lane_rings.proofs.far.Far.receive_some.Goals as goal

pub invariant_of-self-clause-held_is : goal.invariant_of-self-clause-held_is
invariant_of-self-clause-held_is c =
    let row = drop (length c.args.into.now.items) c.hand_row.new.into.items in
    omega (
      arith,
      c.args.self.now.held_is,
      ap (λ (h : Held). length h.items) c.hand_row.ensures.held,
      length-append c.args.self.now.held.items (map pair_of row),
      length-map row pair_of,
      ap length c.hand_row.ensures.handed,
      length-append (handed c.args.self.now.deliveries) row,
    )

pub invariant_of-self-clause-held_are : goal.invariant_of-self-clause-held_are
invariant_of-self-clause-held_are c =
    let old = c.args.self.now in
    let row = drop (length c.args.into.now.items) c.hand_row.new.into.items in
    more_are (answers_among (answered old)) (received_by old) row _ _ _ old.held_are (omega (arith, old.held_is)) (ap (λ (h : Held). h.items) c.hand_row.ensures.held) c.hand_row.ensures.handed

pub invariant_of-self-clause-beside : goal.invariant_of-self-clause-beside
invariant_of-self-clause-beside c =
    let more : length (received_by c.args.self.now) ≤ length (handed c.hand_row.new.from) =
    omega (arith, ap length c.hand_row.ensures.handed, length-append (handed c.args.self.now.deliveries) (drop (length c.args.into.now.items) c.hand_row.new.into.items))
    in
    beside-kept (length (received_by c.args.self.now)) (length (handed c.hand_row.new.from)) (answered c.args.self.now) more c.args.self.now.beside
