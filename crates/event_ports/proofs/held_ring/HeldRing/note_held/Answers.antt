-- What the own lane's end has to answer is noted one after the other.
use Rattle.std.proofs.Common.{◌≡◌, ◌++◌, ◌∷◌, [], List, length, map, take, length-take, sym, ap, ◌∙◌, arith}
use Rattle.std.proofs.lemmas.List.{length-map, take_all}
use Rattle.evt_types.specs.Event.{pair_of}
use Rattle.lane_rings.specs.Ends.{held_list, unanswered}
use Rattle.event_ports.specs.declared.lane.Holding.{Holding}
use Rattle.event_ports.specs.declared.lane.Lane.TheVariants.{Own}
use Rattle.event_ports.specs.HeldRings.{Held}
use Rattle.event_ports.specs.Lanes.{holding_of}
use Rattle.lists.proofs.Windows.{window_none}
use Rattle.event_ports.proofs.HeldIn.{held_noted, held_unnoted, is_there, note_next}
use Rattle.event_ports.proofs.held_ring.HeldRing.note_held.Goals as goal

pub loop-position-preserved : goal.loop-position-preserved
loop-position-preserved c =
    let was = c.loop-position.invariant in
    let next = note_next (unanswered c.args.own.now) c.loop-position.position c.in-Some.queue c.in-Some.number (sym c.held_at.ensures ∙ c.in-Some.is) in
    (c.push.ensures.noted ∙ ap (λ (xs : List Holding). xs ++ record { lane = Own; queue = c.in-Some.queue; number = c.in-Some.number } ∷ []) was.0 ∙ sym next, c.push.ensures.room ∙ was.1)

pub push-requires : goal.push-requires
push-requires c =
    let was = c.loop-position.invariant in
    let left = unanswered c.args.own.now in
    omega (
      arith,
      ap length was.0,
      was.1,
      length-map (take c.loop-position.position left) (holding_of Own),
      length-take c.loop-position.position left,
      c.loop-position-test.true,
      c.held-position-end.ensures.value,
      c.held-position-end.ensures.within,
      c.requires (sym (ap (λ (v : Held). v.notes) c.self.view_is) ∙ c.if-self.false),
      ap (λ (v : Held). v.capacity) c.self.view_is,
    )

pub loop-position-init : goal.loop-position-init
loop-position-init c = (window_none c.self.inside.first c.self.inside.places.items, ap (λ (v : Held). v.capacity) c.self.view_is)

pub unreachable-requires : goal.unreachable-requires
unreachable-requires c =
    is_there (held_list c.args.own.now) c.loop-position.position (omega (arith, c.loop-position-test.true, c.held-position-end.ensures.value, length-map (unanswered c.args.own.now) pair_of)) (sym c.held_at.ensures ∙ c.in_default.is)

pub returns : goal.returns
returns c =
    let left = unanswered c.args.own.now in
    let all : c.loop-position.position ≡ length left = omega (arith, c.loop-position-test.false, c.loop-position.auto.position-end, c.held-position-end.ensures.value) in
    c.loop-position.invariant.0
    ∙ ap (map (holding_of Own)) (ap (λ n. take n left) all ∙ take_all (length left) left (omega arith))
    ∙ sym (held_unnoted c.args.own.now c.args.self.now (sym (ap (λ (v : Held). v.notes) c.self.view_is) ∙ c.if-self.false))

pub returns-then-self : goal.returns-then-self
returns-then-self c = sym (held_noted c.args.own.now c.args.self.now (sym (ap (λ (v : Held). v.notes) c.self.view_is) ∙ c.if-self.true))
