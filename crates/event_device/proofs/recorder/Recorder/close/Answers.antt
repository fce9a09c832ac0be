use Rattle.std.proofs.Common.{◌≡◌, ◌∙◌, ◌+◌, ◌*◌, ◌<◌, ◌≤◌, ◌^◌, ℕ, Bool, true, Vec, Global, List, [], ◌++◌, length, map, All, refl, sym, ap, subst, sum, arith}
use Rattle.std.specs.Prelude.{sum_by, vec_capacity, slice_index_or, count_by}
use Rattle.std.proofs.lemmas.List.{length-append, length-map}
use Rattle.std.proofs.lemmas.List.Sorted.{All-permutation, IsPermutation-sym}
use Rattle.credit_pool.specs.Pockets.{IsPocket}
use Rattle.credit_pool.specs.declared.account.Account.{Account}
use Rattle.evt_types.proofs.FlowLanes.{lanes_are}
use Rattle.evt_types.specs.Event.{pair_of}
use Rattle.evt_types.specs.Plan.{Plan, flow_lanes, flow_links, lanes, lanes_of, queues}
use Rattle.evt_types.specs.declared.event.TheConstants.{MAX_FORWARDS}
use Rattle.lane_rings.specs.Ends.{answered, held_list, offered, received_by, taken}
use Rattle.lane_rings.specs.Identity.{far_id, near_id}
use Rattle.lane_rings.specs.declared.far.Far.{Far}
use Rattle.lane_rings.specs.declared.near.Near.{Near}
use Rattle.lists.specs.Lists.{has}
use Rattle.event_answers.specs.declared.report.Report.{Report}
use Rattle.event_ports.specs.Lanes.{held_of, pair_in}
use Rattle.event_ports.specs.Ports.{hand, pocket_of}
use Rattle.event_ports.specs.declared.lane.Lane.TheVariants.{Own}
use Rattle.event_ports.specs.declared.port.Port.{Port}
use Rattle.event_scheduler.specs.Scheduler.{IsAccepted, Sight, offered_at}
use Rattle.transcripts.specs.Replies.{replies_in, said, turned_count}
use Rattle.transcripts.specs.Standing.{Stands, View, places_at, waiting_at}
use Rattle.transcripts.specs.Transcript.{has_shut, out}
use Rattle.world_laws.specs.Account.{has_event}
use Rattle.world_laws.specs.Rest.{AreRests, Rest, still_held}
use Rattle.event_device.specs.Apart.{own_end}
use Rattle.event_device.specs.Between.{rest_at}
use Rattle.event_device.specs.Control.{was_shut}
use Rattle.event_device.specs.Device.{number_of}
use Rattle.event_device.specs.Listed.{kept_all, turned_all, waiting_all}
use Rattle.event_device.specs.Stop.{AreStints, entries_of}
use Rattle.event_device.proofs.Accounts.{credits_come_out}
use Rattle.event_device.proofs.FlowEnds.{no_new_past, stints_are}
use Rattle.event_device.proofs.Found.{all_held, own_all}
use Rattle.event_device.proofs.Holders.{held_by_last}
use Rattle.event_device.proofs.LaneEnds.{as_many_ends}
use Rattle.event_device.proofs.Logs as logs
use Rattle.event_device.proofs.Members.{lanes_are_small, nears_counted, sorted_count}
use Rattle.event_device.proofs.Settings.{few_held, left_count}
use Rattle.event_device.proofs.Worlds.{world_of}
use Rattle.event_device.proofs.recorder.Recorder.close.Goals as goal

pub join_seats-free-requires : goal.join_seats-free-requires
join_seats-free-requires g c =
    let known = c.take_apart-log.ensures in
    let count = sorted_count (length c.args.self.sight.core.shape.ports) c.take_apart-log.result.1.ports.items known.ports.numbers in
    record {
      apart = known.apart;
      rests = (c.requires.room.rests.0, omega (arith, count, c.requires.room.rests.1));
      ends = (c.requires.room.ends.0, omega (arith, ap (λ (s : Sight). length (flow_lanes s.core.shape)) known.scheduler, c.requires.room.ends.1));
    }

pub list_waiting-requires-clause-room : goal.list_waiting-requires-clause-room
list_waiting-requires-clause-room g c =
    let core = c.join_seats-free.ensures.core ∙ ap (λ (s : Sight). s.core) c.take_apart-log.ensures.scheduler in
    let Fits : View → Type 0 = λ v. sum_by (λ q. length (waiting_at v q)) (queues v.shape) ≤ vec_capacity c.args.room.report.waiting in
    subst Fits (sym core) c.requires.room.to_list.waiting.1

pub list_kept-requires-clause-room : goal.list_kept-requires-clause-room
list_kept-requires-clause-room g c =
    let core = c.join_seats-free.ensures.core ∙ ap (λ (s : Sight). s.core) c.take_apart-log.ensures.scheduler in
    let Fits : View → Type 0 = λ v. MAX_FORWARDS * sum_by (λ q. length (places_at v q)) (queues v.shape) ≤ vec_capacity c.args.room.report.kept in
    subst Fits (sym core) c.requires.room.to_list.kept.1

pub list_ports-requires : goal.list_ports-requires
list_ports-requires g c =
    let apart = c.take_apart-log.ensures.apart in
    let sorted = c.take_apart-log.result.1.ports.items in
    let rests = c.join_seats-free.new.rests.items in
    let left = c.join_seats-free.ensures.left in
    let room = c.requires.room in
    let ports = sorted_count (length c.args.self.sight.core.shape.ports) sorted c.take_apart-log.ensures.ports.numbers in
    let count = left_count sorted rests left in
    let few = few_held apart.device sorted rests apart.within apart.ports_are left in
    record {
      held = (room.to_list.held.0, omega (arith, few, ports, room.to_list.held.1));
      pockets = (room.to_list.pockets.0, omega (arith, count, ports, room.to_list.pockets.1));
      fars = (room.fars.0, omega (arith, count, ports, lanes_are c.args.self.sight.core.shape, room.fars.1));
    }

pub add_ends-requires : goal.add_ends-requires
add_ends-requires g c =
    let sorted = c.take_apart-log.result.1.ports.items in
    let rests = c.join_seats-free.new.rests.items in
    omega (
      arith,
      c.list_ports.new.fars.ok.0,
      ap length c.list_ports.ensures.fars,
      length-map rests own_end,
      left_count sorted rests c.join_seats-free.ensures.left,
      sorted_count (length c.args.self.sight.core.shape.ports) sorted c.take_apart-log.ensures.ports.numbers,
      c.join_seats-free.ensures.flows,
      ap (λ (s : Sight). length (flow_lanes s.core.shape)) c.take_apart-log.ensures.scheduler,
      lanes_are c.args.self.sight.core.shape,
      c.requires.room.fars.1,
      c.list_ports.ensures.room,
    )

pub list_lanes-requires-clause-lanes : goal.list_lanes-requires-clause-lanes
list_lanes-requires-clause-lanes g c =
    c.join_seats-free.ensures.lanes ∙ ap (map far_id) (sym (c.add_ends.ensures ∙ ap (λ (xs : List Far). xs ++ c.join_seats-free.new.ends.items) c.list_ports.ensures.fars))

pub list_lanes-requires-clause-small : goal.list_lanes-requires-clause-small
list_lanes-requires-clause-small g c =
    let apart = c.take_apart-log.ensures.apart in
    let nears = c.join_seats-free.ensures.nears in
    lanes_are_small apart.device c.join_seats-free.result.nears.items apart.fits apart.within (ap (λ (v : Vec Near Global). map near_id v.items) nears ∙ apart.lanes)

pub list_lanes-requires-clause-undelivered_room : goal.list_lanes-requires-clause-undelivered_room
list_lanes-requires-clause-undelivered_room g c =
    let apart = c.take_apart-log.ensures.apart in
    let room = c.requires.room.to_list.undelivered in
    let plan = sym apart.plan ∙ ap (λ (s : Sight). s.core.shape) c.take_apart-log.ensures.scheduler in
    let ids = ap (λ (v : Vec Near Global). map near_id v.items) c.join_seats-free.ensures.nears ∙ apart.lanes in
    (room.0, omega (arith, nears_counted apart.device c.join_seats-free.result.nears.items c.args.self.sight.core.shape apart.fits plan ids, room.1))

pub list_lanes-requires-clause-untaken_room : goal.list_lanes-requires-clause-untaken_room
list_lanes-requires-clause-untaken_room g c =
    let apart = c.take_apart-log.ensures.apart in
    let room = c.requires.room.to_list.untaken in
    let plan = sym apart.plan ∙ ap (λ (s : Sight). s.core.shape) c.take_apart-log.ensures.scheduler in
    let ids = ap (λ (v : Vec Near Global). map near_id v.items) c.join_seats-free.ensures.nears ∙ apart.lanes in
    (room.0, omega (arith, nears_counted apart.device c.join_seats-free.result.nears.items c.args.self.sight.core.shape apart.fits plan ids, room.1))

pub returns : goal.returns
returns g c =
    let known = c.take_apart-log.ensures in
    let still = c.join_seats-free.ensures in
    let unsorted = c.args.ports.items in
    let sorted = c.take_apart-log.result.1.ports.items in
    let s : Sight = c.args.self.sight in
    let p : Plan = s.core.shape in
    let T = c.args.self.log in
    let seen = known.scheduler in
    let serves = known.serves in
    let core = still.core ∙ ap (λ (x : Sight). x.core) seen in
    let account_is = ap (λ (x : Sight). x.account) seen in
    let rests = c.join_seats-free.new.rests.items in
    let ends = c.join_seats-free.new.ends.items in
    let nears = c.join_seats-free.result.nears.items in
    let fars = c.add_ends.new.fars.items in
    let rest : ℕ → Rest = rest_at nears fars in
    let n_is : length rests ≡ length p.ports = left_count sorted rests still.left ∙ sorted_count (length p.ports) sorted known.ports.numbers in
    let are : fars ≡ map own_end rests ++ ends = c.add_ends.ensures ∙ ap (λ (xs : List Far). xs ++ ends) c.list_ports.ensures.fars in
    let ids : map near_id nears ≡ map far_id fars = still.lanes ∙ ap (map far_id) (sym are) in
    let as_many : length fars ≡ length nears = as_many_ends nears fars ids in
    let flows : length ends ≡ length (flow_lanes p) = still.flows ∙ ap (λ (x : Sight). length (flow_lanes x.core.shape)) seen in
    let lanes_count : lanes_of p ≡ length nears = omega (arith, as_many, ap length are, length-append (map own_end rests) ends, length-map rests own_end, n_is, flows, lanes_are p) in
    let stands : Stands T c.join_seats-free.result.core = subst (Stands T) (sym core) serves.stands in
    let offered_are : map offered nears ≡ s.offered = ap (λ (v : Vec Near Global). map offered v.items) still.nears ∙ ap (λ (x : Sight). x.offered) seen in
    let taken_are : map taken nears ≡ s.taken = ap (λ (v : Vec Near Global). map taken v.items) still.nears ∙ ap (λ (x : Sight). x.taken) seen in
    let given : (l : ℕ) → map pair_of (slice_index_or (map offered nears) l []) ≡ out T l = λ l. ap (λ xs. map pair_of (slice_index_or xs l [])) offered_are ∙ serves.offered l in
    let taken_is : (l : ℕ) → map said (slice_index_or (map taken nears) l []) ≡ replies_in T l = λ l. ap (λ xs. map said (slice_index_or xs l [])) taken_are ∙ serves.taken l in
    let short : length T < 2 ^ 63 = omega (arith, ap length known.books, g.met.L.StepLog.short c.take_apart-log.result.0.log) in
    let linked : ℕ → ℕ → Bool = λ port lane. has lane (flow_links c.take_apart-log.result.1.parts.core.shape port) in
    let rests_are : AreRests p T rest =
    logs.rests_are p T nears fars serves.stands.lawful short given taken_is ids c.list_lanes.ensures.rests (no_new_past fars ends rests (length p.ports) are n_is linked still.finished still.shared) in
    let offered_is : (l : ℕ) → (rest l).offered ≡ offered_at s l = λ l. logs.offered_at nears fars l ids ∙ ap (λ xs. slice_index_or xs l []) offered_are in
    let Received : Port → Type 0 = λ x. (rest (number_of x)).received ≡ (hand x).got Own in
    let Answered : Port → Type 0 = λ x. (rest (number_of x)).answered ≡ (hand x).said Own in
    let Held : Port → Type 0 = λ x. still_held (rest (number_of x)) ≡ map pair_in (held_of Own (hand x).holding) in
    let received : All Received sorted =
    own_all received_by (λ x. (hand x).got Own) (λ (x : Rest). x.received) (λ near far. refl) nears fars ends rests sorted (length p.ports) as_many are still.left.received known.ports.numbers in
    let answered_is : All Answered sorted =
    own_all answered (λ x. (hand x).said Own) (λ (x : Rest). x.answered) (λ near far. refl) nears fars ends rests sorted (length p.ports) as_many are still.left.answered_is known.ports.numbers in
    let held : All Held sorted =
    own_all held_list (λ x. map pair_in (held_of Own (hand x).holding)) still_held (λ near far. refl) nears fars ends rests sorted (length p.ports) as_many are still.left.ordered known.ports.numbers in
    let flow_stints : (j : ℕ) → j < length (flow_lanes p) → AreStints p j still.finished (rest (length p.ports + j)) =
    λ j low.
    stints_are fars ends rests (length p.ports) are n_is linked still.finished still.shared p nears j as_many (λ port lane. ap (λ (x : Sight). has lane (flow_links x.core.shape port)) seen) (omega (arith, low, flows)) in
    let same_ports = IsPermutation-sym unsorted sorted known.ports.same in
    let back = s.account.returned in
    let report : Report _ =
    record {
      log = c.take_apart-log.result.0.log;
      waiting = c.list_waiting.new.into;
      kept = c.list_kept.new.into;
      undelivered = c.list_lanes.new.undelivered;
      held = c.list_ports.new.held;
      untaken = c.list_lanes.new.untaken;
      turned = c.take_apart-log.result.0.turned;
      free = c.join_seats-free.result.free;
      pockets = c.list_ports.new.pockets;
      own = c.join_seats-free.result.own;
    } in
    let own_is : report.own ≡ s.pocket = still.own ∙ ap (λ (x : Sight). x.pocket) seen in
    let waiting_is = c.list_waiting.ensures T stands ∙ ap (λ (v : View). waiting_all v.shape T) core in
    let kept_is = c.list_kept.ensures T stands ∙ ap (λ (v : View). kept_all v.shape T) core in
    let held_is = c.list_ports.ensures.held ∙ all_held rests sorted still.left.numbers still.left.held in
    let pockets_are = c.list_ports.ensures.pockets ∙ still.left.pockets in
    let drawn_is = ap (λ (v : Account). v.drawn) account_is in
    let returned_is = ap (λ (v : Account). v.returned) account_is in
    let limit_is = ap (λ (x : Sight). x.core.shape.limit) seen in
    let Rests : List Far → Type 0 = λ xs. AreRests p T (rest_at nears xs) in
    let Undelivered : List Far → Type 0 = λ xs. length report.undelivered.items ≡ sum_by (λ l. length (rest_at nears xs l).undelivered) (lanes p) in
    let Untaken : List Far → Type 0 = λ xs. length report.untaken.items ≡ sum_by (λ l. count_by has_event (rest_at nears xs l).untaken) (lanes p) in
    let comes_out : report.free + sum (map pocket_of sorted) + report.own + entries_of report ≡ p.limit =
    credits_come_out p T nears (map own_end rests) ends sorted report report.free report.own back p.limit (subst Rests are rests_are) (sym lanes_count) (ap length (sym are) ∙ (as_many ∙ sym lanes_count)) still.ends_are
    (record {
      ports = still.paid;
      scheduler = subst (λ own. IsPocket own (turned_count T) back) (sym own_is) serves.own;
      pool = omega (arith, still.free, limit_is, returned_is);
      small = omega (arith, known.apart.within.limit.1, ap (λ (x : Plan). x.limit) known.apart.plan, limit_is);
    })
    (record {
      waiting_is = waiting_is;
      kept_is = kept_is;
      undelivered = subst Undelivered are (c.list_lanes.ensures.undelivered_count p lanes_count);
      held = held_is;
      untaken = subst Untaken are (c.list_lanes.ensures.untaken_count p lanes_count);
    }) in
    record {
      log = known.books;
      shut = λ (is : has_shut T ≡ true). ap was_shut (sym known.control) ∙ still.shut (ap (λ (v : Account). v.saw_shut) account_is ∙ serves.shut is);
      rest = rest;
      rests = rests_are;
      sorted = sorted;
      by_number = known.ports;
      finished = still.finished;
      stints = still.stints;
      lanes = record {
        offered = offered_is;
        taken = λ l. logs.taken_at nears fars l ids ∙ ap (λ xs. slice_index_or xs l []) taken_are;
        events = λ l. subst (All (IsAccepted T)) (sym (offered_is l)) (serves.events l);
        received = All-permutation Received sorted unsorted same_ports received;
        answered_is = All-permutation Answered sorted unsorted same_ports answered_is;
        held = All-permutation Held sorted unsorted same_ports held;
        flows = flow_stints;
      };
      holders = λ j low some. held_by_last p j still.finished sorted (rest (length p.ports + j)) still.stints (flow_stints j low) some;
      world = world_of p T rest rests_are;
      waiting = waiting_is;
      kept = kept_is;
      undelivered = c.list_lanes.ensures.undelivered p lanes_count;
      held = held_is;
      untaken = c.list_lanes.ensures.untaken p lanes_count;
      turned = c.take_apart-log.result.0.turned_are ∙ ap turned_all known.books;
      pockets = pockets_are;
      paid = still.paid;
      own = own_is;
      free = omega (arith, still.free, limit_is, returned_is, drawn_is, known.apart.undrawn);
      sum_is = ap (λ m. report.free + m + report.own + entries_of report) (ap sum pockets_are) ∙ comes_out;
    }
