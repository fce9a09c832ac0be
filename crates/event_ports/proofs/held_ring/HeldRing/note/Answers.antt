use Rattle.std.proofs.Common.{◌≡◌, ◌-◌, ℕ, List, length, take, drop, length-drop, ap, sym, ◌∙◌, arith}
use Rattle.std.proofs.lemmas.List.{take_all}
use Rattle.std.specs.Vec.{with_items}
use Rattle.evt_types.specs.declared.event.Delivery.{Delivery}
use Rattle.event_ports.specs.HeldRings.{Held}
use Rattle.event_ports.proofs.Rings.{flag_clash, has_room}
use Rattle.event_ports.proofs.held_ring.HeldRing.note.Goals as goal

-- all from a position on
all_behind : (from : ℕ) (row items : List Delivery) → row ≡ items → take (length row - from) (drop from row) ≡ drop from items
all_behind from row items is = take_all (length row - from) (drop from row) (omega (arith, length-drop from row)) ∙ ap (drop from) is

pub write-self-inside-requires-clause-room : goal.write-self-inside-requires-clause-room
write-self-inside-requires-clause-room c =
    let items = c.args.deliveries.now.items in
    omega (arith, ap length (all_behind c.args.from c.as_slice.result.now items c.as_slice.ensures), has_room c.self.inside c.self.invariant c.args.self.now (length (drop c.args.from items)) c.self.view_is (c.requires.room (sym (ap (λ (v : Held). v.notes) c.self.view_is) ∙ c.if-not-self.false)), c.self.invariant.room)

pub invariant_of-self : goal.invariant_of-self
invariant_of-self c =
    let items = c.args.deliveries.now.items in
    let came = ap length (all_behind c.args.from c.as_slice.result.now items c.as_slice.ensures) in
    record {
      places = sym (with_items c.self.inside.places c.write-self-inside.new.places).ok.0 ∙ c.self.inside.places.ok.0 ∙ c.self.invariant.places;
      first = c.self.invariant.first;
      few = omega (arith, came, has_room c.self.inside c.self.invariant c.args.self.now (length (drop c.args.from items)) c.self.view_is (c.requires.room (sym (ap (λ (v : Held). v.notes) c.self.view_is) ∙ c.if-not-self.false)), c.write-self-inside.ensures.len);
      room = c.self.invariant.room;
    }

pub returns-then-not-self-clause-noted : goal.returns-then-not-self-clause-noted
returns-then-not-self-clause-noted c noted = absurd (flag_clash c.args.self.now.notes (sym (ap (λ (v : Held). v.notes) c.self.view_is) ∙ c.if-not-self.true) noted)
