-- No reply is taken.
use Rattle.std.proofs.Common.{◌≡◌, ap, length, subst, sym, ◌∙◌, arith}
use Rattle.std.proofs.lemmas.List.{with_items_is}
use Rattle.std.specs.Vec.{with_items}
use Rattle.event_scheduler.specs.Hidden.{NoneHidden}
use Rattle.event_scheduler.specs.Seeking.{SameLanes, fetched_in, seen_in}
use Rattle.event_scheduler.proofs.Lanes.{hidden_sought, length_sought}
use Rattle.event_scheduler.proofs.Taking.{takes_sought}
use Rattle.event_scheduler.proofs.scheduler.Scheduler.seek.Goals as goal
use Rattle.event_scheduler.proofs.scheduler.Scheduler.seek.Goals.{After-first_fetched}

same : (c : After-first_fetched) → SameLanes c.args.self.now.lanes.items c.first_fetched.new.lanes
same c = subst (λ ls. SameLanes ls c.first_fetched.new.lanes) c.deref_mut.ensures.value c.first_fetched.ensures.same

written : (c : After-first_fetched) → (with_items c.args.self.now.lanes c.first_fetched.new.lanes).items ≡ c.first_fetched.new.lanes
written c = with_items_is c.args.self.now.lanes c.first_fetched.new.lanes (length_sought _ _ c.first_fetched.ensures.same ∙ c.deref_mut.ensures.len)

pub first_fetched-requires-clause-from : goal.first_fetched-requires-clause-from
first_fetched-requires-clause-from c = omega (arith, c.requires, c.args.self.now.lanes_are, ap length c.deref_mut.ensures.value)

pub first_fetched-requires-clause-most : goal.first_fetched-requires-clause-most
first_fetched-requires-clause-most c = omega (arith, c.sweep-most.ensures.range.0)

pub invariant_of-self : goal.invariant_of-self
invariant_of-self c =
    let here = (goal.at.invariant_of-self c).After-first_fetched in
    record {
      seat_of = c.args.self.now.seat_of;
      drew_none = c.args.self.now.drew_none;
      unset = c.args.self.now.unset;
      lanes_are = ap length (written here) ∙ (length_sought _ _ (same here) ∙ c.args.self.now.lanes_are);
      shown = subst NoneHidden (sym (written here)) (hidden_sought _ _ (same here) c.args.self.now.shown);
    }

pub returns-clause-takes : goal.returns-clause-takes
returns-clause-takes c log =
    let here = (goal.at.returns-clause-takes c).After-first_fetched in
    takes_sought _ _ _ _ _ _ _ _ log (subst (SameLanes c.args.self.now.lanes.items) (sym (written here)) (same here))

pub returns-clause-lane : goal.returns-clause-lane
returns-clause-lane c = (
  c.first_fetched.ensures.lane.0,
  omega (arith, c.first_fetched.ensures.lane.1, c.args.self.now.lanes_are, ap length c.deref_mut.ensures.value),
)

pub returns-clause-none : goal.returns-clause-none
returns-clause-none c l from below = ap (λ ls. seen_in ls l) (written (goal.at.returns-clause-none c).After-first_fetched) ∙ c.first_fetched.ensures.none l from below

pub returns-clause-found : goal.returns-clause-found
returns-clause-found c below none =
    c.first_fetched.ensures.found (omega (arith, below, c.args.self.now.lanes_are, ap length c.deref_mut.ensures.value))
    (sym (ap (λ ls. fetched_in ls c.first_fetched.result) (written (goal.at.returns-clause-found c).After-first_fetched)) ∙ none)

pub returns-clause-others : goal.returns-clause-others
returns-clause-others c l below =
    ap (λ ls. seen_in ls l) (written (goal.at.returns-clause-others c).After-first_fetched)
    ∙ (c.first_fetched.ensures.others l below ∙ ap (λ ls. seen_in ls l) c.deref_mut.ensures.value)
