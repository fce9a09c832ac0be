-- So many are fewer, where what came was noted.
use Rattle.std.proofs.Common.{◌≡◌, true, drop, sym, ap, ◌∙◌, arith}
use Rattle.event_ports.specs.HeldRings.{Held}
use Rattle.event_ports.proofs.Rings.{fewer_held, flag_clash, held_within}
use Rattle.event_ports.proofs.held_ring.HeldRing.drop_row.Goals as goal

pub overflow_add-self : goal.overflow_add-self
overflow_add-self c =
    let noted : c.args.self.now.notes ≡ true = sym (ap (λ (v : Held). v.notes) c.self.view_is) ∙ c.if-not-self.false in
    omega (arith, c.self.invariant.first, c.self.invariant.few, c.self.invariant.room, held_within c.self.inside c.self.invariant c.args.self.now c.args.count c.self.view_is (c.requires noted))

pub overflow_sub-self : goal.overflow_sub-self
overflow_sub-self c =
    let noted : c.args.self.now.notes ≡ true = sym (ap (λ (v : Held). v.notes) c.self.view_is) ∙ c.if-not-self.false in
    held_within c.self.inside c.self.invariant c.args.self.now c.args.count c.self.view_is (c.requires noted)

pub returns-then-not-self-clause-dropped : goal.returns-then-not-self-clause-dropped
returns-then-not-self-clause-dropped c noted = absurd (flag_clash c.args.self.now.notes (sym (ap (λ (v : Held). v.notes) c.self.view_is) ∙ c.if-not-self.true) noted)

pub returns-clause-dropped : goal.returns-clause-dropped
returns-clause-dropped c noted =
    fewer_held c.self.inside c.self.invariant c.args.count (held_within c.self.inside c.self.invariant c.args.self.now c.args.count c.self.view_is (c.requires noted))
    ∙ ap (λ (v : Held). drop c.args.count v.items) c.self.view_is

pub returns-clause-room : goal.returns-clause-room
returns-clause-room c = ap (λ (v : Held). v.capacity) c.self.view_is

pub returns-clause-notes : goal.returns-clause-notes
returns-clause-notes c = ap (λ (v : Held). v.notes) c.self.view_is
