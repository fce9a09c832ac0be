-- A row comes into the empty batch.
use Rattle.std.proofs.Common.{◌≡◌, ◌<◌, ◌∙◌, ◌-◌, [], ◌++◌, ap, arith, drop, length, max, refl, set, subst, sym, take}
use Rattle.std.proofs.lemmas.List.{length-take}
use mathlib.Core.List.{IsPrefix}
use Rattle.rtrb.specs.Ring.{known_items, received, SameConsumer}
use Rattle.lane_rings.specs.Intakes.{ahead, handed, inside}
use Rattle.lane_rings.proofs.Fetching.{prefix-behind, prefix-joined, written_back}
use Rattle.lane_rings.proofs.Handing.{last-kept, row-empty, row-filled, row-kept, row-last}
use Rattle.lane_rings.proofs.Singles.{none-there, one-ahead, one-moved, one-there}
use Rattle.lane_rings.proofs.intake.Intake.look.Goals.{then-there-eq0-via-then-there-eq0, then-there-eq0-via-else-there-eq0+then-most-eq0}
use Rattle.lane_rings.proofs.intake.Intake.look.Goals as goal
use Rattle.lane_rings.proofs.intake.Intake.look.Given as given

pub returns-clause-ahead : goal.returns-clause-ahead
returns-clause-ahead g c =
    let places = c.args.self.now.places in
    let row = c.pop_row-self.new.places in
    let value = ap length c.deref_mut.ensures.value in
    let back : take places.len (row ++ drop (length row) places.items) ≡ row =
    written_back places.len row places.items (c.pop_row-self.ensures.places ∙ value) (omega (arith, places.ok.0))
    in
    let none : inside c.args.self.now ≡ [] = row-empty c.args.self.now.at c.args.self.now.end places.items (omega arith) in
    let joined = prefix-joined (known_items c.args.self.now.ring) (known_items c.slots-there.new.self) (take c.pop_row-self.result row ++ known_items c.pop_row-self.new.ring)
    c.slots-there.ensures.looked.2 c.pop_row-self.ensures.known
    in
    let came = subst (λ xs. IsPrefix (known_items c.args.self.now.ring) (take c.pop_row-self.result xs ++ known_items c.pop_row-self.new.ring)) (sym back) joined in
    subst (λ xs. IsPrefix (xs ++ known_items c.args.self.now.ring) (take c.pop_row-self.result (take places.len (row ++ drop (length row) places.items)) ++ known_items c.pop_row-self.new.ring)) (sym none) came

pub invariant_of-self : goal.invariant_of-self
invariant_of-self g c =
    let now = c.args.self.now in
    record { within = now.within; room = now.room ∙ ap (max 1) (sym c.slots.ensures.looked.0.1); last = last-kept _ _ (inside now) c.slots.ensures.looked.1 now.last }

pub invariant_of-self-then-there-eq0 : goal.invariant_of-self-then-there-eq0
invariant_of-self-then-there-eq0 g c =
    let now = c.args.self.now in
    record { within = now.within; room = now.room ∙ ap (max 1) (sym c.slots-there.ensures.looked.0.1); last = last-kept _ _ (inside now) c.slots-there.ensures.looked.1 now.last }

pub invariant_of-self-then-most-eq0 : goal.invariant_of-self-then-most-eq0
invariant_of-self-then-most-eq0 g c =
    let now = c.args.self.now in
    record { within = now.within; room = now.room ∙ ap (max 1) (sym c.slots-there.ensures.looked.0.1); last = last-kept _ _ (inside now) c.slots-there.ensures.looked.1 now.last }

pub invariant_of-self-then-there-eq1-clause-last : goal.invariant_of-self-then-there-eq1-clause-last
invariant_of-self-then-there-eq1-clause-last g c =
    let places = c.args.self.now.places.items in
    let moved = one-moved places _ _ _ _ _ c.peek_known.result.now c.pop_known.result (omega (arith, c.args.self.now.room)) c.peek_known.ensures.1 c.pop_known.ensures.received.1 c.pop_known.ensures.received.0 in
    row-last (received c.pop_known.new.self) (received c.slots-there.new.self) (take 1 (set places 0 c.peek_known.result.now)) moved

pub returns-then-there-eq1-clause-handed : goal.returns-then-there-eq1-clause-handed
returns-then-there-eq1-clause-handed g c =
    let now = c.args.self.now in
    let moved = one-moved now.places.items _ _ _ _ _ c.peek_known.result.now c.pop_known.result (omega (arith, now.room)) c.peek_known.ensures.1 c.pop_known.ensures.received.1 c.pop_known.ensures.received.0 in
    row-kept (received c.pop_known.new.self) _ (take 1 (set now.places.items 0 c.peek_known.result.now)) _ (handed now) (inside now) moved c.slots-there.ensures.looked.1 now.last
    (row-empty now.at now.end now.places.items (omega arith))

pub returns-then-self-clause-handed : goal.returns-then-self-clause-handed
returns-then-self-clause-handed g c = ap (λ rs. take (length rs - length (inside c.args.self.now)) rs) c.slots.ensures.looked.1

pub returns-then-self-clause-ahead : goal.returns-then-self-clause-ahead
returns-then-self-clause-ahead g c = prefix-behind (inside c.args.self.now) (known_items c.args.self.now.ring) (known_items c.slots.new.self) c.slots.ensures.looked.2

pub returns-then-self-clause-some : goal.returns-then-self-clause-some
returns-then-self-clause-some g c _ none =
    let now = c.args.self.now in
    c.if-self.true (row-filled now.at now.end now.places.items now.within.0 now.within.1 none)

pub returns-then-self-clause-none : goal.returns-then-self-clause-none
returns-then-self-clause-none g c _ none =
    let now = c.args.self.now in
    absurd (c.if-self.true (row-filled now.at now.end now.places.items now.within.0 now.within.1 none))

pub returns-then-self-clause-few : goal.returns-then-self-clause-few
returns-then-self-clause-few g c none =
    let now = c.args.self.now in
    absurd (c.if-self.true (row-filled now.at now.end now.places.items now.within.0 now.within.1 none))

pub returns-then-self-clause-stays : goal.returns-then-self-clause-stays
returns-then-self-clause-stays g c _ = refl

passed : (g : given.Over) (c : goal.Joined-then-there-eq0 g)
    → (inside c.then-there-eq0.self ≡ inside c.args.self.now) × (c.then-there-eq0.self.ring ≡ c.slots-there.new.self) × (handed c.then-there-eq0.self ≡ handed c.args.self.now)
    × (0 < c.args.most → known_items c.then-there-eq0.self.ring ≡ [])
passed g c =
    let kept = ap (λ rs. take (length rs - length (inside c.args.self.now)) rs) c.slots-there.ensures.looked.1 in
    elim c.then-there-eq0.branch [
      | then-there-eq0-via-then-there-eq0 w ↦ (
        ap inside w.self-is,
        ap (λ i. i.ring) w.self-is,
        ap handed w.self-is ∙ kept,
        λ _. ap (λ i. known_items i.ring) w.self-is ∙ none-there (known_items c.slots-there.new.self) (omega (arith, c.slots-there.ensures.value, w.if-there-eq0.true)),
      )
      | then-there-eq0-via-else-there-eq0+then-most-eq0 w ↦
          (ap inside w.self-is, ap (λ i. i.ring) w.self-is, ap handed w.self-is ∙ kept, λ some. absurd (omega (arith, some, w.if-most-eq0.true)))
    ]

pub returns-then-there-eq0-clause-ring : goal.returns-then-there-eq0-clause-ring
returns-then-there-eq0-clause-ring g c = subst (SameConsumer c.args.self.now.ring) (sym (passed g c).1) c.slots-there.ensures.looked.0

pub returns-then-there-eq0-clause-handed : goal.returns-then-there-eq0-clause-handed
returns-then-there-eq0-clause-handed g c = (passed g c).2

pub returns-then-there-eq0-clause-ahead : goal.returns-then-there-eq0-clause-ahead
returns-then-there-eq0-clause-ahead g c =
    let now = c.args.self.now in
    let more = prefix-behind (inside now) (known_items now.ring) (known_items c.slots-there.new.self) c.slots-there.ensures.looked.2 in
    subst (λ ws. IsPrefix (ahead now) (ws ++ known_items c.then-there-eq0.self.ring)) (sym (passed g c).0)
    (subst (λ r. IsPrefix (ahead now) (inside now ++ known_items r)) (sym (passed g c).1) more)

pub returns-then-there-eq0-clause-nothing : goal.returns-then-there-eq0-clause-nothing
returns-then-there-eq0-clause-nothing g c _ = (passed g c).0 ∙ row-empty c.args.self.now.at c.args.self.now.end c.args.self.now.places.items (omega arith)

pub returns-then-there-eq0-clause-none : goal.returns-then-there-eq0-clause-none
returns-then-there-eq0-clause-none g c some none = ap (λ ws. ws ++ known_items c.then-there-eq0.self.ring) none ∙ (passed g c).3 some

pub returns-then-there-eq0-clause-few : goal.returns-then-there-eq0-clause-few
returns-then-there-eq0-clause-few g c none = omega (arith, ap length ((passed g c).0 ∙ none))

pub returns-then-there-eq0-clause-stays : goal.returns-then-there-eq0-clause-stays
returns-then-there-eq0-clause-stays g c _ = (passed g c).0

pub returns-then-there-eq1-clause-ahead : goal.returns-then-there-eq1-clause-ahead
returns-then-there-eq1-clause-ahead g c =
    let now = c.args.self.now in
    let moved = one-ahead now.places.items _ _ _ c.peek_known.result.now c.pop_known.result (omega (arith, now.room)) c.peek_known.ensures.1 c.pop_known.ensures.received.1 in
    subst (λ ws. IsPrefix (ws ++ known_items now.ring) (take 1 (set now.places.items 0 c.peek_known.result.now) ++ known_items c.pop_known.new.self))
    (sym (row-empty now.at now.end now.places.items (omega arith)))
    (subst (IsPrefix (known_items now.ring)) moved c.slots-there.ensures.looked.2)

pub returns-then-there-eq1-clause-some : goal.returns-then-there-eq1-clause-some
returns-then-there-eq1-clause-some g c _ none = one-there c.args.self.now.places.items c.peek_known.result.now (omega (arith, c.args.self.now.room)) none

pub returns-then-there-eq1-clause-none : goal.returns-then-there-eq1-clause-none
returns-then-there-eq1-clause-none g c _ none = absurd (one-there c.args.self.now.places.items c.peek_known.result.now (omega (arith, c.args.self.now.room)) none)

pub returns-then-there-eq1-clause-few : goal.returns-then-there-eq1-clause-few
returns-then-there-eq1-clause-few g c _ = omega (arith, length-take 1 (set c.args.self.now.places.items 0 c.peek_known.result.now))

pub returns-then-there-eq1-clause-stays : goal.returns-then-there-eq1-clause-stays
returns-then-there-eq1-clause-stays g c some = absurd (some (row-empty c.args.self.now.at c.args.self.now.end c.args.self.now.places.items (omega arith)))

pub invariant_of-self-2 : goal.invariant_of-self-2
invariant_of-self-2 g c =
    let now = c.args.self.now in
    let row = c.pop_row-self.new.places in
    let written = take now.places.len (row ++ drop (length row) now.places.items) in
    let long : length row ≡ length now.places.items = c.pop_row-self.ensures.places ∙ ap length c.deref_mut.ensures.value in
    let back : written ≡ row = written_back now.places.len row now.places.items long (omega (arith, now.places.ok.0)) in
    let came = c.pop_row-self.ensures.received ∙ ap (λ xs. received c.slots-there.new.self ++ take c.pop_row-self.result xs) (sym back) in
    record {
      within = (omega arith, omega (arith, ap length back, c.pop_row-self.ensures.few.1, c.pop_row-self.ensures.places));
      room = ap length back ∙ (long ∙ (now.room ∙ ap (max 1) (sym (c.pop_row-self.ensures.ring.1 ∙ c.slots-there.ensures.looked.0.1))));
      last = row-last (received c.pop_row-self.new.ring) (received c.slots-there.new.self) (take c.pop_row-self.result written) came;
    }

pub returns-clause-handed : goal.returns-clause-handed
returns-clause-handed g c =
    let now = c.args.self.now in
    let row = c.pop_row-self.new.places in
    let written = take now.places.len (row ++ drop (length row) now.places.items) in
    let back : written ≡ row = written_back now.places.len row now.places.items (c.pop_row-self.ensures.places ∙ ap length c.deref_mut.ensures.value) (omega (arith, now.places.ok.0)) in
    let came = c.pop_row-self.ensures.received ∙ ap (λ xs. received c.slots-there.new.self ++ take c.pop_row-self.result xs) (sym back) in
    row-kept (received c.pop_row-self.new.ring) _ (take c.pop_row-self.result written) _ (handed now) (inside now) came c.slots-there.ensures.looked.1 now.last
    (row-empty now.at now.end now.places.items (omega arith))

pub returns-clause-few : goal.returns-clause-few
returns-clause-few g c _ =
    let places = c.args.self.now.places in
    let row = c.pop_row-self.new.places in
    omega (arith, length-take c.pop_row-self.result (take places.len (row ++ drop (length row) places.items)), c.pop_row-self.ensures.few.0, c.min.ensures)

pub returns-clause-stays : goal.returns-clause-stays
returns-clause-stays g c some = absurd (some (row-empty c.args.self.now.at c.args.self.now.end c.args.self.now.places.items (omega arith)))
