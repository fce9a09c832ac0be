use Rattle.std.proofs.Common.{List, slice_get, sym, ap, ◌∙◌, arith}
use Rattle.event_ports.specs.declared.lane.Holding.{Holding}
use Rattle.event_ports.specs.HeldRings.{Held}
use Rattle.event_ports.proofs.Rings.{none_held, first_held}
use Rattle.event_ports.proofs.held_ring.HeldRing.front.Goals as goal

pub returns-then-self-eq0 : goal.returns-then-self-eq0
returns-then-self-eq0 c =
    sym (ap (λ (hs : List Holding). slice_get hs 0) (none_held c.self.inside c.self.invariant c.if-self-eq0.true)) ∙ ap (λ (v : Held). slice_get v.items 0) c.self.view_is

pub returns : goal.returns
returns c =
    first_held c.self.inside c.self.invariant c.index.result.now c.index.ensures (omega (arith, c.if-self-eq0.false)) ∙ ap (λ (v : Held). slice_get v.items 0) c.self.view_is
