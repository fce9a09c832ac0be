-- From what the threads promised of their ports to the log that the stop hands out.
use Rattle.std.proofs.Common.{◌≡◌, ℕ, zero, suc, ◌+◌, ◌-◌, ◌<◌, ◌≤◌, false, List, [], ◌++◌, length, map, get_or, All, Some, refl, sym, ap, subst, ◌∙◌, arith, ⊎_elim}
use Rattle.std.specs.Prelude.{slice_get}
use Rattle.std.proofs.lemmas.List.{map-append}
use Rattle.std.proofs.lemmas.Bool.{cases_lt}
use Rattle.std.proofs.lemmas.Option.{get_or_from_slice_get, slice_get_within}
use Rattle.event_ports.specs.Ports.{hand, links}
use Rattle.event_ports.specs.declared.lane.Lane.TheVariants.{Own}
use Rattle.event_ports.specs.declared.port.Port.{Port}
use Rattle.event_device.proofs.Homes.{there_in_all}
use Rattle.event_device.specs.Device.{PortSite, number_of}
use Rattle.event_device.specs.Parts.{Parts, device_of}
use Rattle.event_device.specs.Stop.{AreStints}
use Rattle.flow_claims.specs.declared.seating.Past.{Past}
use Rattle.evt_types.specs.Operation.{is_new_reply}
use Rattle.evt_types.specs.Plan.{Plan, flow_lanes, flow_links, lanes_of, linked_places}
use Rattle.evt_types.specs.declared.draft.Serving.TheVariants.{Ports}
use Rattle.evt_types.specs.declared.event.Reply.{Reply}
use Rattle.evt_types.specs.declared.step.Step.{Step}
use Rattle.event_scheduler.specs.Scheduler.{IsAccepted}
use Rattle.lists.proofs.Lists.{All-front}
use Rattle.pipeline_laws.specs.Promises.{IsLane, IsProducer, IsWorker, KeepPromises, OthersSayNoNew, PortLists}
use Rattle.pipeline_laws.specs.declared.stage.Action.{Action}
use Rattle.pipeline_laws.specs.declared.stage.Entry.{Entry}
use Rattle.pipeline_threads.specs.Ports.{HasWorked, IsPromised, lists_of}
use Rattle.pipeline_threads.specs.Run.{IsBack}
use Rattle.evt_types.specs.Event.{pair_of}
use Rattle.transcripts.specs.Replies.{said}
use Rattle.world_laws.specs.Rest.{IsRest, Rest}

-- what a lane's holder submitted and received
abbrev pub lists_at : (ℕ → Rest) → ℕ → PortLists
lists_at rest l = record { submitted = (rest l).answered; received = (rest l).received }

-- the log knows these of each lane
pub lane_known : (T : List Step) (l : ℕ) (r : Rest) → IsRest T l r → All (IsAccepted T) r.offered → IsLane T l (record { submitted = r.answered; received = r.received })
lane_known T l r h accepted =
    record {
      taken = (map said r.untaken, ap (λ xs. xs ++ map said r.untaken) (sym h.replies) ∙ (sym (map-append said r.taken r.untaken) ∙ ap (map said) (sym h.answered)));
      received = (map pair_of r.undelivered, sym (map-append pair_of r.received r.undelivered) ∙ (ap (map pair_of) (sym h.received) ∙ h.given));
      events = All-front (IsAccepted T) r.received r.undelivered (subst (All (IsAccepted T)) h.received accepted);
    }

-- ---- served by ports alone

no_flows : (p : Plan) → p.serving ≡ Ports → flow_lanes p ≡ []
unfolding flow_lanes
no_flows p e = rw e refl

pub no_links : (p : Plan) (n : ℕ) → p.serving ≡ Ports → flow_links p n ≡ []
unfolding linked_places
no_links p n e = rw (no_flows p e) refl

-- there are as many lanes as ports
own_lanes : (p : Plan) → p.serving ≡ Ports → lanes_of p ≡ length p.ports
unfolding lanes_of
own_lanes p e = omega (arith, ap length (no_flows p e))

-- ---- the promises, by lane

-- the lists of these ports' own lanes are the ports'
abbrev pub AreOwn : (ℕ → Rest) → List Port → Type 0
AreOwn rest ports = All (λ (p : Port). (rest (number_of p)).received ≡ (hand p).got Own) ports × All (λ (p : Port). (rest (number_of p)).answered ≡ (hand p).said Own) ports

-- each port but the first worked
pub worked : (actions : List Action) (trace : List Entry) (l : ℕ) (x : Port) → 0 < l → IsPromised actions trace l x → HasWorked actions x
worked actions trace zero x some h = absurd (omega (arith, some))
worked actions trace (suc l) x some h = h

module _ (actions : List Action) (trace : List Entry) (rest : ℕ → Rest) (r : Parts) (ports : List Port) (at_home : r.ports ≡ map Some ports) (own : AreOwn rest ports) where
  -- the lists of a lane are those of its port
  pub own_lists : (l : ℕ) (b : IsBack actions trace l r) → lists_at rest l ≡ lists_of b.port
  own_lists l b =
      let number : number_of b.port ≡ l = ap (λ (s : PortSite). s.number) b.site in
      let here : slice_get ports l ≡ Some b.port = there_in_all ports l b.port (ap (λ homes. slice_get homes l) (sym at_home) ∙ b.at_home) in
      let there : l < length ports = slice_get_within ports l b.port here in
      let same : lists_at rest (number_of (get_or ports l b.port)) ≡ lists_of (get_or ports l b.port) =
      λ i. record { submitted = own.1 l b.port there i; received = own.0 l b.port there i } in
      ap (lists_at rest) (sym number) ∙ subst (λ x. lists_at rest (number_of x) ≡ lists_of x) (get_or_from_slice_get ports l b.port b.port here) same

  -- the first port's lane has the trace's front
  pub kept_producer : IsBack actions trace 0 r → IsProducer trace (lists_at rest 0)
  kept_producer b = subst (IsProducer trace) (sym (own_lists 0 b)) b.promised

  module _ (back : (n : ℕ) → n < length (device_of r).plan.ports → IsBack actions trace n r) where
    -- all promises are kept where the ports' own lanes are all the lanes
    pub kept_promises : (device_of r).plan.serving ≡ Ports → 0 < length (device_of r).plan.ports → KeepPromises (device_of r).plan actions trace (lists_at rest)
    kept_promises serving first =
        record {
          producer = kept_producer (back 0 first);
          workers = λ l some low.
              let b = back l (omega (arith, low, own_lanes (device_of r).plan serving)) in
              let alone : links b.port ≡ [] = ap (λ (s : PortSite). s.links) b.site ∙ no_links (device_of r).plan l serving in
              subst (IsWorker actions) (sym (own_lists l b)) ((worked actions trace l b.port some b.promised).worker alone);
        }

    -- no other lane got a NEW: of its own no worker's, and no flow lane
    pub no_other_news : (finished : List Past)
        → ((j : ℕ) → j < length (flow_lanes (device_of r).plan) → AreStints (device_of r).plan j finished (rest (length (device_of r).plan.ports + j))) → OthersSayNoNew (device_of r).plan (lists_at rest)
    unfolding lanes_of
    no_other_news finished flows l some low = ⊎_elim worker flow (cases_lt l count)
      where
        count : ℕ
        count = length (device_of r).plan.ports

        worker : l < count → All (λ (r : Reply). is_new_reply r ≡ false) (rest l).answered
        worker lt =
            let b = back l lt in
            subst (λ (a : PortLists). All (λ (r : Reply). is_new_reply r ≡ false) a.submitted) (sym (own_lists l b)) (worked actions trace l b.port some b.promised).no_news

        flow : count ≤ l → All (λ (r : Reply). is_new_reply r ≡ false) (rest l).answered
        flow le =
            let place : count + (l - count) ≡ l = omega (arith, le) in
            subst (λ k. All (λ (r : Reply). is_new_reply r ≡ false) (rest k).answered) place (flows (l - count) (omega (arith, low, le))).no_news
