-- A whole run: from the threads that were joined to the log that the stop hands out.
use Rattle.std.proofs.Common.{◌≡◌, ℕ, ◌<◌, ◌≤◌, Bool, true, false, cond, ◌==◌, List, [], ◌∷◌, length, map, filter_map, Option, Some, None, sym, ap, subst, ◌∙◌, arith}
use Rattle.std.specs.List.{cons_option}
use Rattle.std.proofs.lemmas.List.{length-append, length-map}
use Rattle.event_answers.specs.declared.report.Report.{Report}
use Rattle.event_device.specs.Device.{Device, PortSite}
use Rattle.event_device.specs.Home.{Stops}
use Rattle.event_device.specs.Parts.{Parts}
use Rattle.event_device.specs.Start.{IsFresh}
use Rattle.event_ports.specs.Counts.{plus}
use Rattle.event_ports.specs.Ports.{links}
use Rattle.event_ports.specs.declared.counts.PortCounts.{PortCounts}
use Rattle.evt_types.specs.Event.{pair_of}
use Rattle.evt_types.specs.Plan.{Plan}
use Rattle.evt_types.specs.declared.step.Outcome.TheVariants.{Forwarded, Released}
use Rattle.evt_types.specs.declared.step.Step.{Step}
use Rattle.evt_types.specs.declared.step.Step.TheVariants.{Done}
use Rattle.pipeline_laws.proofs.Finished.{through}
use Rattle.pipeline_laws.proofs.Promised.{promised_first, promised_worked}
use Rattle.pipeline_laws.specs.Promises.{IsLane, IsWorker, PortLists, said_outcome, said_to}
use Rattle.pipeline_laws.specs.Worked.{due}
use Rattle.pipeline_laws.specs.declared.stage.Action.{Action}
use Rattle.pipeline_laws.specs.declared.stage.Entry.{Entry}
use Rattle.pipeline_threads.proofs.Reports.{AreOwn, kept_producer, kept_promises, lane_known, lists_at, no_links, no_other_news, own_lists, worked}
use Rattle.pipeline_threads.specs.Ports.{lists_of}
use Rattle.pipeline_threads.specs.Run.{ArePortWorks, AreWorks, HasRun, IsBack, IsRunLog}
use Rattle.run_counts.specs.declared.looks.PortWork.{PortWork}
use Rattle.transcripts.specs.Lawful.{IsPrefix}
use Rattle.transcripts.specs.Replies.{replies_in, said, said_in}
use Rattle.transcripts.specs.Transcript.{answer_of, answers, out}

-- once a device whose threads ran the trace was stopped, its log is a run's
pub run_log : {X : Type 0} (steps : X → List Step) (p : Plan) (actions : List Action) (trace : List Entry) (before after : Parts) (report : Report X) → IsFresh p before
    → 0 < length p.ports → HasRun actions trace (length p.ports) before after → Stops steps after report → IsRunLog p actions trace (steps report.log)
run_log steps p actions trace before after report fresh some run stops =
    let T : List Step = after.recorded.log in
    let q : Plan = after.recorded.sight.core.shape in
    let h = stops.report in
    let plan : q ≡ p = ap (λ (d : Device). d.plan) run.device ∙ fresh.plan in
    let count : length q.ports ≡ length p.ports = ap (λ (x : Plan). length x.ports) plan in
    let back : (n : ℕ) → n < length q.ports → IsBack actions trace n after = λ n low. run.back n (omega (arith, low, count)) in
    let known : (l : ℕ) → IsLane T l (lists_at h.rest l) = λ l. lane_known T l (h.rest l) (h.rests.each l) (h.lanes.events l) in
    let own : AreOwn h.rest stops.ports = (h.lanes.received, h.lanes.answered_is) in
    subst (λ x. IsRunLog x actions trace (steps report.log)) plan
    (subst (IsRunLog q actions trace) (sym h.log)
    (record {
      lawful = h.rests.lawful;
      answers = λ serving.
          let keep = kept_promises actions trace h.rest after stops.ports stops.at_home.ports_are own back serving (omega (arith, some, count)) in
          let worked = promised_worked q actions trace T (lists_at h.rest) h.rests.lawful known keep in
          (worked.adds_none, worked.answers);
      newcomers = promised_first q trace T (lists_at h.rest) h.rests.lawful (λ l. (known l).taken)
          (kept_producer actions trace h.rest after stops.ports stops.at_home.ports_are own (run.back 0 some))
          (no_other_news actions trace h.rest after stops.ports stops.at_home.ports_are own back h.finished h.lanes.flows);
      finished = run.done;
    }))

-- ---- what was counted

-- a lane said each of its answers
few_answers : (T : List Step) (l : ℕ) → length (answers T l) ≤ length (replies_in T l)
unfolding answers replies_in
few_answers [] l = omega arith
few_answers (s ∷ T) l = by_step s (few_answers T l)
  where
    more : {X Y : Type 0} (o : Option Y) (xs : List X) (ys : List Y) → length xs ≤ length ys → length xs ≤ length (cons_option o ys)
    more None xs ys le = le
    more (Some y) xs ys le = omega (arith, le)

    both : {X Y : Type 0} (b : Bool) (x : X) (y : Y) (xs : List X) (ys : List Y) → length xs ≤ length ys
        → length (cons_option (cond b (Some x) None) xs) ≤ length (cons_option (cond b (Some y) None) ys)
    both true x y xs ys le = omega (arith, le)
    both false x y xs ys le = le

    by_step : (s : Step) → length (filter_map (answer_of l) T) ≤ length (filter_map (said_in l) T)
        → length (filter_map (answer_of l) (s ∷ T)) ≤ length (filter_map (said_in l) (s ∷ T))
    by_step (Done m (Forwarded e)) rest = both (m == l) (Forwarded e) (said_outcome (Forwarded e)) (filter_map (answer_of l) T) (filter_map (said_in l) T) rest
    by_step (Done m Released) rest = both (m == l) Released (said_outcome Released) (filter_map (answer_of l) T) (filter_map (said_in l) T) rest
    by_step s rest = more (said_in l s) (filter_map (answer_of l) T) (filter_map (said_in l) T) rest

prefix_length : {X : Type 0} (xs ys : List X) → IsPrefix xs ys → length xs ≤ length ys
prefix_length xs ys h = omega (arith, ap length h.1, length-append xs h.0)

-- a worker whose lane answered all that it was given has received all of that
all_received : (actions : List Action) (T : List Step) (l : ℕ) (a : PortLists) → IsLane T l a → IsWorker actions a → answers T l ≡ map (due actions T) (out T l)
    → length a.received ≡ length (out T l)
all_received actions T l a lane worker answered =
    omega (
      arith,
      ap length answered,
      length-map (out T l) (due actions T),
      few_answers T l,
      prefix_length (replies_in T l) (map said a.submitted) lane.taken,
      length-map a.submitted said,
      prefix_length (map said a.submitted) (map (said_to actions) a.received) worker,
      length-map a.received (said_to actions),
      prefix_length (map pair_of a.received) (out T l) lane.received,
      length-map a.received pair_of,
    )

-- once it was stopped, what was counted of its ports is what the log says
pub run_works : {X : Type 0} (steps : X → List Step) (p : Plan) (actions : List Action) (trace : List Entry) (before after : Parts) (report : Report X) (works : List PortWork) → IsFresh p before
    → 0 < length p.ports → HasRun actions trace (length p.ports) before after → ArePortWorks (length p.ports) after works → Stops steps after report → AreWorks p (steps report.log) works
run_works steps p actions trace before after report works fresh some run were stops =
    let T : List Step = after.recorded.log in
    let q : Plan = after.recorded.sight.core.shape in
    let h = stops.report in
    let plan : q ≡ p = ap (λ (d : Device). d.plan) run.device ∙ fresh.plan in
    let log : IsRunLog p actions trace T = subst (IsRunLog p actions trace) h.log (run_log steps p actions trace before after report fresh some run stops) in
    let own : AreOwn h.rest stops.ports = (h.lanes.received, h.lanes.answered_is) in
    subst (λ U. AreWorks p U works) (sym h.log)
    (record {
      count = were.count_is;
      each = λ n d low.
          let b = run.back n low in
          let w = were.each n d b.port low b.at_home in
          record {
            port = w.port;
            looked = w.looked;
            dequeued = λ serving other.
                let alone : links b.port ≡ [] = ap (λ (s : PortSite). s.links) b.site ∙ no_links q n (ap (λ (x : Plan). x.serving) plan ∙ serving) in
                let did = worked actions trace n b.port other b.promised in
                let lane : IsLane T n (lists_of b.port) =
                subst (IsLane T n) (own_lists actions trace h.rest after stops.ports stops.at_home.ports_are own n b) (lane_known T n (h.rest n) (h.rests.each n) (h.lanes.events n)) in
                let answers = log.answers serving in
                let done = through p actions trace T log.lawful (record { answers = answers.1; adds_none = answers.0; newcomers = log.newcomers }) log.finished in
                ap (λ (c : PortCounts). c.dequeued) w.counts
                ∙ (did.counted alone ∙ ap (plus 0) (all_received actions T n (lists_of b.port) lane (did.worker alone) (done.answered n)));
          };
    })
