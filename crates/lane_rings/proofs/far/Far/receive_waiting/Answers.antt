-- The only delivery in the ring is handed out, and held.
use Rattle.std.proofs.Common.{◌≤◌, ◌∙◌, ◌++◌, ap, arith, length, length-append, length-drop, drop, map, refl, subst, sym, take}
use Rattle.std.proofs.Math.Seq.{drop-append-le}
use Rattle.std.proofs.lemmas.List.{length-map, length-take}
use Rattle.rtrb.specs.Ring.{known_items}
use Rattle.evt_types.proofs.Additions.{beside-kept}
use Rattle.evt_types.specs.Additions.{AreBeside}
use Rattle.evt_types.specs.Event.{pair_of}
use Rattle.lane_rings.specs.Ends.{answered, answers_among, received_by}
use Rattle.lane_rings.specs.HeldPairs.{Held}
use Rattle.lane_rings.specs.Intakes.{handed, inside}
use Rattle.lane_rings.proofs.HeldPairs.{more_are}
use Rattle.lane_rings.proofs.Singles.{none-seen}
use Rattle.lane_rings.proofs.far.Far.receive_waiting.Goals as goal

pub invariant_of-self-clause-held_is : goal.invariant_of-self-clause-held_is
invariant_of-self-clause-held_is c = c.args.self.now.held_is ∙ sym (ap length c.there-there.ensures.handed.0)

pub invariant_of-self-clause-held_are : goal.invariant_of-self-clause-held_are
invariant_of-self-clause-held_are c =
    let old = c.args.self.now in
    old.held_are ∙ ap (λ ds. map pair_of (drop (answers_among (answered old)) ds)) (sym c.there-there.ensures.handed.0)

pub invariant_of-self-clause-beside : goal.invariant_of-self-clause-beside
invariant_of-self-clause-beside c = subst (λ ds. AreBeside (length ds) (answered c.args.self.now)) (sym c.there-there.ensures.handed.0) c.args.self.now.beside

pub invariant_of-self-then-not-is_full-clause-held_is : goal.invariant_of-self-then-not-is_full-clause-held_is
invariant_of-self-then-not-is_full-clause-held_is c =
    let known = known_items c.there-there.new.self.ring in
    omega (
      arith,
      c.args.self.now.held_is,
      ap length c.hand_first.ensures.handed,
      ap length c.there-there.ensures.handed.0,
      length-append (handed c.there-there.new.self) (take 1 known),
      length-take 1 known,
      c.there-there.ensures.value,
      ap (λ (h : Held). length h.items) c.hand_first.ensures.held,
      length-append c.args.self.now.held.items (map pair_of (take 1 known)),
      length-map (take 1 known) pair_of,
    )

pub invariant_of-self-then-not-is_full-clause-held_are : goal.invariant_of-self-then-not-is_full-clause-held_are
invariant_of-self-then-not-is_full-clause-held_are c =
    let old = c.args.self.now in
    let one = take 1 (known_items c.there-there.new.self.ring) in
    more_are (answers_among (answered old)) (received_by old) one _ _ _ old.held_are (omega (arith, old.held_is)) (ap (λ (h : Held). h.items) c.hand_first.ensures.held) (c.hand_first.ensures.handed ∙ ap (λ ds. ds ++ one) c.there-there.ensures.handed.0)

pub invariant_of-self-then-not-is_full-clause-beside : goal.invariant_of-self-then-not-is_full-clause-beside
invariant_of-self-then-not-is_full-clause-beside c =
    let more : length (received_by c.args.self.now) ≤ length (handed c.hand_first.new.from) =
    omega (arith, ap length c.hand_first.ensures.handed, ap length c.there-there.ensures.handed.0, length-append (handed c.there-there.new.self) (take 1 (known_items c.there-there.new.self.ring)))
    in
    beside-kept (length (received_by c.args.self.now)) (length (handed c.hand_first.new.from)) (answered c.args.self.now) more c.args.self.now.beside

pub returns-then-not-is_full-clause-came : goal.returns-then-not-is_full-clause-came
returns-then-not-is_full-clause-came c =
    let old = c.args.self.now in
    let answers = answers_among (answered old) in
    let one = take 1 (known_items c.there-there.new.self.ring) in
    let all = c.hand_first.ensures.handed ∙ ap (λ ds. ds ++ one) c.there-there.ensures.handed.0 in
    record { came = one; array = c.hand_first.ensures.into; received = all; held = ap (drop answers) all ∙ drop-append-le answers (received_by old) one (omega (arith, old.held_is)) }

pub returns-then-not-is_full-clause-drained : goal.returns-then-not-is_full-clause-drained
returns-then-not-is_full-clause-drained c _ _ =
    none-seen (inside c.hand_first.new.from) _ (known_items c.there-there.new.self.ring) c.hand_first.ensures.none c.hand_first.ensures.known (omega (arith, c.there-there.ensures.value))

pub returns-then-not-is_full-clause-left : goal.returns-then-not-is_full-clause-left
returns-then-not-is_full-clause-left c =
    let none = none-seen (inside c.hand_first.new.from) _ (known_items c.there-there.new.self.ring) c.hand_first.ensures.none c.hand_first.ensures.known (omega (arith, c.there-there.ensures.value)) in
    (λ _. none, λ _. refl)

pub returns-then-not-is_full-clause-few : goal.returns-then-not-is_full-clause-few
returns-then-not-is_full-clause-few c =
    let known = known_items c.there-there.new.self.ring in
    omega (arith, ap length c.hand_first.ensures.into, length-append c.args.into.now.items (take 1 known), length-take 1 known, c.requires.room)

pub returns-then-not-is_full-clause-within : goal.returns-then-not-is_full-clause-within
returns-then-not-is_full-clause-within c =
    let answers = answers_among (answered c.args.self.now) in
    let there = c.there-there.new.self in
    omega (
      arith,
      length-drop answers (handed c.hand_first.new.from),
      ap length c.hand_first.ensures.handed,
      length-append (handed there) (take 1 (known_items there.ring)),
      length-take 1 (known_items there.ring),
      length-drop answers (handed there),
      c.is_full.ensures.room c.if-not-is_full.true,
      c.hand_first.ensures.ring.1,
    )
