use Rattle.std.proofs.Common.{◌≡◌, ◌≤◌, ◌∙◌, [], ◌∷◌, ◌++◌, List, ap, arith, drop, length, length-append, length-drop, map, subst, sym, take, Some}
use Rattle.std.proofs.Math.Seq.{drop-append-le}
use Rattle.std.proofs.lemmas.Grind.{common_steps}
use Rattle.evt_types.proofs.Additions.{beside-kept}
use Rattle.evt_types.specs.Additions.{AreBeside}
use Rattle.evt_types.specs.Event.{pair_of}
use Rattle.evt_types.specs.declared.event.Delivery.{Delivery}
use Rattle.rtrb.specs.Ring.{known_items}
use Rattle.lane_rings.specs.Ends.{answered, answers_among, received_by, seen_deliveries}
use Rattle.lane_rings.specs.HeldPairs.{Held}
use Rattle.lane_rings.specs.Intakes.{ahead, handed, inside}
use Rattle.lane_rings.proofs.Handing.{one-passed, prefix-next, prefix-none}
use Rattle.lane_rings.proofs.HeldPairs.{more_are}
use Rattle.lane_rings.proofs.far.Far.receive.Goals as goal

pub returns-in_err-first-clause-none : goal.returns-in_err-first-clause-none
returns-in_err-first-clause-none c =
    let seen : ahead c.look.new.self ≡ [] = c.look.ensures.none (omega arith) c.in_err-first.ensures.none in
    let before = prefix-none (seen_deliveries c.args.self.now) (ahead c.look.new.self) c.look.ensures.ahead seen in
    grind (arith, common_steps, before, seen)

pub returns-clause-next : goal.returns-clause-next
returns-clause-next c d e =
    ap Some
    (prefix-next (seen_deliveries c.args.self.now) (ahead c.look.new.self) _ _ d c.look.ensures.ahead (ap (λ (ws : List Delivery). ws ++ known_items c.look.new.self.ring) c.in_ok-first.ensures.first) e)

pub returns-clause-received : goal.returns-clause-received
returns-clause-received c =
    c.next.ensures.handed
    ∙ (ap (λ ds. handed c.look.new.self ++ take 1 ds) c.in_ok-first.ensures.first ∙ ap (λ ds. ds ++ c.in_ok-first.first.now ∷ []) c.look.ensures.handed)

pub invariant_of-self-clause-held_is : goal.invariant_of-self-clause-held_is
invariant_of-self-clause-held_is c = c.args.self.now.held_is ∙ sym (ap length c.look.ensures.handed)

pub invariant_of-self-clause-held_are : goal.invariant_of-self-clause-held_are
invariant_of-self-clause-held_are c =
    let old = c.args.self.now in
    old.held_are ∙ ap (λ ds. map pair_of (drop (answers_among (answered old)) ds)) (sym c.look.ensures.handed)

pub invariant_of-self-clause-beside : goal.invariant_of-self-clause-beside
invariant_of-self-clause-beside c = subst (λ ds. AreBeside (length ds) (answered c.args.self.now)) (sym c.look.ensures.handed) c.args.self.now.beside

pub invariant_of-self-2-clause-held_is : goal.invariant_of-self-2-clause-held_is
invariant_of-self-2-clause-held_is c =
    let row = inside c.look.new.self in
    omega (
      arith,
      c.args.self.now.held_is,
      ap length c.next.ensures.handed,
      ap length c.look.ensures.handed,
      length-append (handed c.look.new.self) (take 1 row),
      ap (λ ds. length (take 1 ds)) c.in_ok-first.ensures.first,
      ap (λ (h : Held). length h.items) c.note_one.ensures,
      length-append c.args.self.now.held.items (pair_of c.in_ok-first.first.now ∷ []),
    )

pub invariant_of-self-2-clause-held_are : goal.invariant_of-self-2-clause-held_are
invariant_of-self-2-clause-held_are c =
    let old = c.args.self.now in
    let one = c.in_ok-first.first.now ∷ [] in
    let all = c.next.ensures.handed ∙ (ap (λ ds. handed c.look.new.self ++ take 1 ds) c.in_ok-first.ensures.first ∙ ap (λ ds. ds ++ one) c.look.ensures.handed) in
    more_are (answers_among (answered old)) (received_by old) one _ _ _ old.held_are (omega (arith, old.held_is)) (ap (λ (h : Held). h.items) c.note_one.ensures) all

pub invariant_of-self-2-clause-beside : goal.invariant_of-self-2-clause-beside
invariant_of-self-2-clause-beside c =
    let more : length (received_by c.args.self.now) ≤ length (handed c.next.new.self) =
    omega (arith, ap length c.next.ensures.handed, ap length c.look.ensures.handed, length-append (handed c.look.new.self) (take 1 (inside c.look.new.self)))
    in
    beside-kept (length (received_by c.args.self.now)) (length (handed c.next.new.self)) (answered c.args.self.now) more c.args.self.now.beside

pub invariant_of-self-2-clause-held_few : goal.invariant_of-self-2-clause-held_few
invariant_of-self-2-clause-held_few c =
    let old = c.args.self.now in
    omega (arith, c.requires, length-drop (answers_among (answered old)) (received_by old), old.held_is, c.next.ensures.ring.0.1, c.look.ensures.ring.1, ap (λ (h : Held). length h.items) c.note_one.ensures, length-append old.held.items (pair_of c.in_ok-first.first.now ∷ []))

pub invariant_of-self-2-clause-all_received : goal.invariant_of-self-2-clause-all_received
invariant_of-self-2-clause-all_received c =
    let batch = inside c.args.self.now.deliveries in
    one-passed batch (inside c.look.new.self) (inside c.next.new.self) c.next.ensures.batch c.look.ensures.few c.look.ensures.stays ∙ ap (drop 1) c.args.self.now.all_received

pub returns-clause-held : goal.returns-clause-held
returns-clause-held c =
    let old = c.args.self.now in
    let answers = answers_among (answered old) in
    ap (drop answers) (returns-clause-received c) ∙ drop-append-le answers (received_by old) (c.in_ok-first.first.now ∷ []) (omega (arith, old.held_is))
