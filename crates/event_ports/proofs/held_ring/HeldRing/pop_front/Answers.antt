use Rattle.std.proofs.Common.{List, drop, slice_get, sym, ap, ◌∙◌, arith}
use Rattle.event_ports.specs.declared.lane.Holding.{Holding}
use Rattle.event_ports.specs.HeldRings.{Held, holds}
use Rattle.event_ports.proofs.Rings.{none_held, first_held, one_less}
use Rattle.event_ports.proofs.held_ring.HeldRing.pop_front.Goals as goal

pub returns-then-self-eq0-clause-value : goal.returns-then-self-eq0-clause-value
returns-then-self-eq0-clause-value c =
    sym (ap (λ (hs : List Holding). slice_get hs 0) (none_held c.self.inside c.self.invariant c.if-self-eq0.true)) ∙ ap (λ (v : Held). slice_get v.items 0) c.self.view_is

pub returns-then-self-eq0-clause-items : goal.returns-then-self-eq0-clause-items
returns-then-self-eq0-clause-items c =
    let none = none_held c.self.inside c.self.invariant c.if-self-eq0.true in
    sym c.self.view_is ∙ ap (λ (hs : List Holding). holds hs c.self.inside.capacity c.self.inside.notes) (none ∙ sym (ap (drop 1) none))
    ∙ ap (λ (v : Held). holds (drop 1 v.items) v.capacity v.notes) c.self.view_is

pub returns-clause-value : goal.returns-clause-value
returns-clause-value c =
    first_held c.self.inside c.self.invariant c.index-oldest.result.now c.index-oldest.ensures (omega (arith, c.if-self-eq0.false))
    ∙ ap (λ (v : Held). slice_get v.items 0) c.self.view_is

pub returns-clause-items : goal.returns-clause-items
returns-clause-items c =
    ap (λ (hs : List Holding). holds hs c.self.inside.capacity c.self.inside.notes) (one_less c.self.inside c.self.invariant (omega (arith, c.if-self-eq0.false)))
    ∙ ap (λ (v : Held). holds (drop 1 v.items) v.capacity v.notes) c.self.view_is
