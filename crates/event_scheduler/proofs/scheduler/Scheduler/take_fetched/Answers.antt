use Rattle.std.proofs.Common.{◌<◌, ◌≤◌, ◌++◌, length, take, slice_get, inl, inr, arith, ap, sym, ◌∙◌}
use Rattle.std.proofs.lemmas.List.{length-map, length-set, length-take}
use Rattle.evt_types.specs.Plan.{lanes_of}
use Rattle.event_scheduler.specs.Scheduler.{sight_of}
use Rattle.lane_rings.specs.Ends.{fetched_replies, taken}
use Rattle.event_scheduler.proofs.Lanes.{fetched_here, seen_elsewhere, seen_here, still_hidden}
use Rattle.event_scheduler.proofs.Taking.{all_went, ends_by, fewer_of, first_left, run_left, some_there}
use Rattle.event_scheduler.proofs.scheduler.Scheduler.take_fetched.Goals as goal

pub invariant_of-self-clause-lanes_are : goal.invariant_of-self-clause-lanes_are
invariant_of-self-clause-lanes_are g c = length-set _ _ _ ∙ c.args.self.now.lanes_are ∙ ap lanes_of (sym c.take_run-taken.ensures.shape)

pub invariant_of-self-clause-shown : goal.invariant_of-self-clause-shown
invariant_of-self-clause-shown g c = still_hidden _ c.args.lane c.index_mut-near.result.now c.pass.new.self c.index_mut-near.ensures.value c.pass.ensures.offered.1 c.args.self.now.shown

pub returns-clause-takes : goal.returns-clause-takes
returns-clause-takes g c =
    let within : c.args.lane < length c.args.self.now.lanes.items = omega (arith, c.requires.lane, c.args.self.now.lanes_are) in
    let there : c.args.lane < length (sight_of c.args.self.now).taken = omega (arith, within, length-map c.args.self.now.lanes.items taken) in
    let same = ap (take c.take_run-taken.result) (ap (take c.min-count.result) c.fetched-replies.ensures.value) in
    let few : c.take_run-taken.result ≤ length (take c.min-count.result (fetched_replies c.index_mut-near.result.now)) =
    omega (arith, c.take_run-taken.ensures.few, ap (λ xs. length (take c.min-count.result xs)) c.fetched-replies.ensures.value) in
    run_left _ _ _ _ _ _ _ _ _ c.args.lane c.take_run-taken.result c.index_mut-near.result.now c.pass.new.self _ _ _ within c.index_mut-near.ensures.value
    c.pass.ensures.lane c.pass.ensures.offered.0
    (c.pass.ensures.taken ∙ ap (λ xs. taken c.index_mut-near.result.now ++ xs) (sym (same ∙ fewer_of _ _ _ few)))
    (c.take_run-taken.ensures.takes (sight_of c.args.self.now) there)

pub returns-clause-some : goal.returns-clause-some
returns-clause-some g c some there on =
    let within : c.args.lane < length c.args.self.now.lanes.items = omega (arith, c.requires.lane, c.args.self.now.lanes_are) in
    let came : 0 < length (fetched_replies c.index_mut-near.result.now) = some_there _ (λ none. there (fetched_here _ c.args.lane c.index_mut-near.result.now within c.index_mut-near.ensures.value ∙ none)) in
    omega (arith, all_went _ _ _ on, came, some, c.min-count.ensures, ap length c.fetched-replies.ensures.value)

pub returns-clause-ends : goal.returns-clause-ends
returns-clause-ends g c n q over =
    let within : c.args.lane < length c.args.self.now.lanes.items = omega (arith, c.requires.lane, c.args.self.now.lanes_are) in
    let here = seen_here _ c.args.lane c.pass.new.self within in
    ends_by _ _ _ over
    (λ fewer.
    let more : c.take_run-taken.result < length (take c.min-count.result c.fetched-replies.result.now) =
    omega (arith, fewer, c.min-count.ensures, length-take c.min-count.result c.fetched-replies.result.now) in
    let refused = c.take_run-taken.ensures.refused more in
    inr (inr (refused.0, (ap (λ xs. slice_get xs 0) (here ∙ c.pass.ensures.seen) ∙ first_left _ c.min-count.result c.fetched-replies.result.now _ refused.0 c.fetched-replies.ensures.seen refused.1), refused.2)))
    (λ none. inr (inl (here ∙ c.sees.ensures.none none)))

pub returns-clause-others : goal.returns-clause-others
returns-clause-others g c l other = seen_elsewhere _ c.args.lane c.pass.new.self l other
