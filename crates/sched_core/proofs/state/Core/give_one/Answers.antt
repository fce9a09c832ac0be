use Rattle.std.proofs.Common.{◌≡◌, ℕ, List, [], ◌∷◌, ◌++◌, ◌<◌, ◌∙◌, ap, arith, length, slice_index, subst, sym}
use Rattle.evt_types.specs.Plan.{Plan, has_flow_lanes, lanes_of, level_of}
use Rattle.evt_types.specs.declared.event.Delivery.{Delivery}
use Rattle.evt_types.specs.declared.event.Numbered.{Numbered}
use Rattle.evt_types.specs.declared.step.Step.{Step}
use Rattle.evt_types.specs.declared.step.Step.TheVariants.{Give}
use Rattle.sched_core.proofs.FirstOnes.{slot_here}
use Rattle.sched_core.proofs.Offers.{choice_is_offer}
use Rattle.sched_core.proofs.Runs.{gift_is, offer_given, run_first, turn_given}
use Rattle.sched_core.specs.Offered.{numbered_in}
use Rattle.sched_core.specs.Runs.{AreChoices, HasTurn, gifts_of}
use Rattle.transcripts.specs.Standing.{View}
use Rattle.sched_core.proofs.state.Core.give_one.Given as given
use Rattle.sched_core.proofs.state.Core.give_one.Goals as goal
use Rattle.sched_core.proofs.state.Core.give_one.Goals.{After-given}

-- the log after the first gift
first_logged : (l q : ℕ) (before log : List Step) (ds : List Delivery) (d : Delivery) (u : Numbered) → log ≡ before ++ Give l q u.number ∷ [] → q ≡ d.queue → u ≡ numbered_in d → ds ≡ d ∷ [] → log ≡ before ++ gifts_of l ds
first_logged l q before log ds d u is queue event items =
    is ∙ (ap (λ (s : Step). before ++ s ∷ []) (gift_is l q u d (sym queue) event) ∙ ap (λ es. before ++ gifts_of l es) (sym items))

-- what was proposed is given, and its queue and level have their turn still
first : (g : given.Over) (c : After-given g) → AreChoices c.args.offer.lane c.args.self.now c.args.skips.now c.begin.new.run.items c.give_at.new.self c.given.new.self
first g c =
    run_first c.args.offer.lane c.queue-queue.result c.args.self.now c.args.skips.now c.begin.new.run.items c.give_at.new.self c.given.new.self c.args.offer.delivery c.numbered.result c.requires.choice c.queue-queue.ensures c.numbered.ensures
    c.give_at.ensures.view c.given.ensures.value c.begin.ensures

turn : (g : given.Over) (c : After-given g) → HasTurn c.give_at.new.self c.given.new.self c.queue-queue.result c.args.offer.level.number
turn g c =
    turn_given c.args.offer.lane c.queue-queue.result c.args.offer.level.number c.args.self.now c.give_at.new.self c.args.skips.now c.given.new.self c.args.offer.delivery c.numbered.result c.requires.choice c.queue-queue.ensures c.numbered.ensures
    c.args.offer.level_is c.facts.ensures.sized c.give_at.ensures.view c.given.ensures.value

pub give_at-requires-clause-offer : goal.give_at-requires-clause-offer
give_at-requires-clause-offer g c =
    offer_given c.args.offer.lane c.queue-queue.result c.args.self.now c.args.skips.now c.args.offer.delivery c.numbered.result c.requires.choice c.queue-queue.ensures c.numbered.ensures

pub give_at-requires-clause-slot : goal.give_at-requires-clause-slot
give_at-requires-clause-slot g c =
    slot_here c.args.self.now c.args.offer c.queue-queue.result c.numbered.result c.requires.slot c.queue-queue.ensures c.numbered.ensures

pub returns-then-not-has_flow_lanes-clause-choices : goal.returns-then-not-has_flow_lanes-clause-choices
returns-then-not-has_flow_lanes-clause-choices g c =
    first g (goal.at.returns-then-not-has_flow_lanes-clause-choices g c).After-given

pub returns-clause-choices : goal.returns-clause-choices
returns-clause-choices g c =
    subst (λ w. AreChoices c.args.offer.lane c.args.self.now c.args.skips.now c.begin.new.run.items w c.given.new.self) (sym c.close_slot.ensures)
    (first g (goal.at.returns-clause-choices g c).After-given)

pub returns-then-not-has_flow_lanes-clause-logged : goal.returns-then-not-has_flow_lanes-clause-logged
returns-then-not-has_flow_lanes-clause-logged g c =
    first_logged c.args.offer.lane c.queue-queue.result (g.L.StepLog.steps c.args.log.now) (g.L.StepLog.steps c.give_at.new.log) c.begin.new.run.items c.args.offer.delivery c.numbered.result c.give_at.ensures.logged c.queue-queue.ensures c.numbered.ensures c.begin.ensures

pub returns-clause-logged : goal.returns-clause-logged
returns-clause-logged g c =
    first_logged c.args.offer.lane c.queue-queue.result (g.L.StepLog.steps c.args.log.now) (g.L.StepLog.steps c.give_at.new.log) c.begin.new.run.items c.args.offer.delivery c.numbered.result c.give_at.ensures.logged c.queue-queue.ensures c.numbered.ensures c.begin.ensures

pub returns-then-not-has_flow_lanes-clause-one : goal.returns-then-not-has_flow_lanes-clause-one
returns-then-not-has_flow_lanes-clause-one g c = ap length c.begin.ensures

pub returns-clause-one : goal.returns-clause-one
returns-clause-one g c = ap length c.begin.ensures

pub returns-clause-turn : goal.returns-clause-turn
returns-clause-turn g c = (
  ap (λ (v : View). has_flow_lanes v.shape c.queue-queue.result) c.close_slot.ensures ∙ (sym c.has_flow_lanes.ensures ∙ c.if-not-has_flow_lanes.false),
  subst (λ v. HasTurn v c.given.new.self c.queue-queue.result c.args.offer.level.number) (sym c.close_slot.ensures)
      (turn g (goal.at.returns-clause-turn g c).After-given),
)

pub give_at-requires-clause-level : goal.give_at-requires-clause-level
give_at-requires-clause-level g c = c.args.offer.level_is ∙ ap (λ (w : Numbered). level_of w.event) (sym c.numbered.ensures)

pub given-requires : goal.given-requires
given-requires g c =
    let limits = c.facts.ensures.limits in
    record {
      queue = omega (arith, c.requires.choice.there, c.queue-queue.ensures, limits.queue_count.1);
      count = omega (arith, c.requires.choice.quota, ap (slice_index c.args.skips.now.given) c.queue-queue.ensures, limits.sweep.1);
    }

pub has_flow_lanes-requires : goal.has_flow_lanes-requires
has_flow_lanes-requires g c = omega (arith, c.requires.choice.there, c.queue-queue.ensures, ap (λ (p : Plan). length p.queues) c.give_at.ensures.shape)

pub returns-clause-shape : goal.returns-clause-shape
returns-clause-shape g c = ap (λ (v : View). v.shape) c.close_slot.ensures ∙ c.give_at.ensures.shape

pub returns-then-not-has_flow_lanes-clause-room : goal.returns-then-not-has_flow_lanes-clause-room
returns-then-not-has_flow_lanes-clause-room g c = omega (arith, ap length c.begin.ensures, c.give_at.ensures.room)

pub returns-clause-room : goal.returns-clause-room
returns-clause-room g c = omega (arith, ap length c.begin.ensures, c.give_at.ensures.room)

pub close_slot-requires : goal.close_slot-requires
close_slot-requires g c = subst (λ p. c.args.offer.lane < lanes_of p) (sym c.give_at.ensures.shape) (choice_is_offer c.args.self.now c.args.skips.now c.args.offer.lane c.args.offer.delivery.queue (numbered_in c.args.offer.delivery) c.requires.choice).lane
