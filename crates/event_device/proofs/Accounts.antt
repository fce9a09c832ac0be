-- The credits come out when a device is stopped: the free ones, those in the pockets, and one for each event that is left are the limit.
use Rattle.std.proofs.Common.{◌≡◌, ℕ, ◌+◌, ◌*◌, ◌^◌, ◌<◌, Bool, List, ◌++◌, length, map, flat_map, get_or, All, refl, sym, ap, ◌∙◌, arith, sum, sum_by, count_by}
use Rattle.std.proofs.lemmas.List.{length-map}
use Rattle.std.proofs.lemmas.List.Concat.{length-flat_map}
use Rattle.std.proofs.lemmas.List.Sums.{sum-map, sum_by-append}
use Rattle.credit_pool.specs.Pockets.{IsPocket}
use Rattle.event_answers.specs.declared.report.Report.{Report}
use Rattle.event_ports.specs.Handed.{flow_count}
use Rattle.event_ports.specs.Lanes.{counted, held_of, pair_in}
use Rattle.event_ports.specs.Ports.{account_of, hand, mores_by, news_by, own_site, pocket_of, releases_by}
use Rattle.event_ports.specs.Stop.{IsPaid, flows_in}
use Rattle.event_ports.specs.declared.lane.Lane.TheVariants.{Own}
use Rattle.event_ports.specs.declared.port.Port.{Port}
use Rattle.evt_types.specs.Event.{pair_of}
use Rattle.evt_types.specs.Operation.{is_more_reply, is_new_reply, is_release_reply}
use Rattle.evt_types.specs.Plan.{Plan, lanes, lanes_of, queues}
use Rattle.evt_types.specs.declared.event.Delivery.{Delivery}
use Rattle.evt_types.specs.declared.event.Event.{Event}
use Rattle.evt_types.specs.declared.event.KeptEvent.{KeptEvent}
use Rattle.evt_types.specs.declared.event.Numbered.{Numbered}
use Rattle.evt_types.specs.declared.event.Reply.{Reply}
use Rattle.evt_types.specs.declared.step.Step.{Step}
use Rattle.lane_rings.specs.Ends.{answered, held_list, unanswered}
use Rattle.lane_rings.specs.declared.far.Far.{Far}
use Rattle.lane_rings.specs.declared.near.Near.{Near}
use Rattle.lists.proofs.Sums.{sum_agree, sum_of_map}
use Rattle.event_device.specs.Apart.{AreEndsOf}
use Rattle.event_device.specs.Between.{rest_at}
use Rattle.event_device.specs.Listed.{kept_all, waiting_all}
use Rattle.transcripts.proofs.ByLane.{sum_plus}
use Rattle.transcripts.specs.Replies.{turned_count}
use Rattle.transcripts.specs.Transcript.{kept, kept_events, waiting}
use Rattle.world_laws.proofs.Accounts.{account_settles}
use Rattle.world_laws.specs.Account.{events_at, events_left, has_event}
use Rattle.world_laws.specs.Rest.{AreRests, Rest, still_held}
use Rattle.event_device.specs.Device.{number_of}
use Rattle.event_device.specs.Held as held
use Rattle.event_device.specs.Stop.{entries_of}
use Rattle.event_device.proofs.LaneSums.{lane_sum}
use Rattle.event_device.proofs.Pockets.{pocket_lacks, pockets_lack}

-- ---- what is known

-- The ports and the scheduler paid for what they had, and the rest is in their pockets; what was drawn and not returned is no longer
-- free.
pub record ArePaid (T : List Step) (sorted : List Port) (free own back limit : ℕ) : Type 0 where
  pub ports : All IsPaid sorted
  pub scheduler : IsPocket own (turned_count T) back
  pub pool : free + sum_by (λ q. (account_of q).drawn) sorted ≡ limit + sum_by (λ q. (account_of q).returned) sorted + back
  pub small : limit < 2 ^ 64

-- the report lists what is left of the queues and of the lanes
pub record IsListed {X : Type 0} (p : Plan) (T : List Step) (rest : ℕ → Rest) (sorted : List Port) (x : Report X) : Type 0 where
  pub waiting_is : x.waiting.items ≡ waiting_all p T
  pub kept_is : x.kept.items ≡ kept_all p T
  pub undelivered : length x.undelivered.items ≡ sum_by (λ l. length (rest l).undelivered) (lanes p)
  pub held : x.held.items ≡ flat_map held.held_by sorted
  pub untaken : length x.untaken.items ≡ sum_by (λ l. count_by has_event (rest l).untaken) (lanes p)

-- ---- how long the lists are

-- lists joined end to end, by how long each is
joined_length : {X Y : Type 0} (f : X → List Y) (g : X → ℕ) (xs : List X) → ((x : X) → length (f x) ≡ g x) → length (flat_map f xs) ≡ sum_by g xs
joined_length f g xs each = length-flat_map f xs ∙ sum_agree (λ x. length (f x)) g xs (λ i d lt. each (get_or xs i d))

waiting_count : (p : Plan) (T : List Step) → length (waiting_all p T) ≡ sum_by (λ q. length (waiting T q)) (queues p)
waiting_count p T =
    joined_length (λ q. map (λ (w : Numbered). record { event = w.event; queue = q; number = w.number }) (waiting T q)) (λ q. length (waiting T q)) (queues p)
    (λ q. length-map {B = Delivery} (waiting T q) (λ (w : Numbered). record { event = w.event; queue = q; number = w.number }))

kept_count : (p : Plan) (T : List Step) → length (kept_all p T) ≡ sum_by (λ q. length (kept T q)) (queues p)
kept_count p T =
    joined_length (λ q. kept_events T q) (λ q. length (kept T q)) (queues p)
    (λ q. length-map {B = KeptEvent} (kept T q) (λ (x : ℕ × Event). record { queue = q; number = x.0; event = x.1 }))

held_count : (sorted : List Port) → length (flat_map held.held_by sorted) ≡ sum_by (λ q. length (hand q).holding) sorted
held_count sorted = joined_length held.held_by (λ q. length (hand q).holding) sorted (λ q. length-map (hand q).holding (held.held_entry (number_of q)))

-- ---- the lanes, by port

-- what is in the ports' own ends is what the ports have of their own lanes
own_sum : {Y : Type 0} (m : Y → ℕ) (f : Far → Y) (g : Port → Y) (owns : List Far) (sorted : List Port) → map f owns ≡ map g sorted
    → sum_by (λ far. m (f far)) owns ≡ sum_by (λ q. m (g q)) sorted
own_sum m f g owns sorted same = sym (sum_of_map m f owns) ∙ (ap (sum_by m) same ∙ sum_of_map m g sorted)

-- how many of the replies to all lanes pass the test
submitted : (P : Reply → Bool) (p : Plan) (nears : List Near) (owns ends : List Far) (sorted : List Port) → length nears ≡ lanes_of p → length (owns ++ ends) ≡ lanes_of p
    → AreEndsOf owns ends sorted → sum_by (λ l. count_by P (rest_at nears (owns ++ ends) l).answered) (lanes p) ≡ sum_by (λ q. counted P (flow_count (own_site q).lanes) (hand q).said) sorted
submitted P p nears owns ends sorted near_count far_count are =
    let own : Port → ℕ = λ q. count_by P ((hand q).said Own) in
    let by_end = lane_sum (λ r. count_by P r.answered) (λ far. count_by P (answered far)) nears (owns ++ ends) (lanes_of p) (λ a b. refl) near_count far_count in
    let parts = sum_by-append (λ far. count_by P (answered far)) owns ends in
    let owned = own_sum (count_by P) answered (λ q. (hand q).said Own) owns sorted are.answered_is in
    let both = sum_plus own (flows_in P (length ends)) sorted in
    let same = sum_agree (λ q. own q + flows_in P (length ends) q) (λ q. counted P (flow_count (own_site q).lanes) (hand q).said) sorted
    (λ i d lt. ap (λ n. own (get_or sorted i d) + flows_in P n (get_or sorted i d)) (sym (are.counts i d lt))) in
    omega (arith, are.flows P)

-- how many are held over all lanes
held_in_all : (p : Plan) (nears : List Near) (owns ends : List Far) (sorted : List Port) → length nears ≡ lanes_of p → length (owns ++ ends) ≡ lanes_of p
    → AreEndsOf owns ends sorted → sum_by (λ l. length (still_held (rest_at nears (owns ++ ends) l))) (lanes p) ≡ sum_by (λ q. length (hand q).holding) sorted
held_in_all p nears owns ends sorted near_count far_count are =
    let by_end = lane_sum (λ r. length (still_held r)) (λ far. length (held_list far)) nears (owns ++ ends) (lanes_of p) (λ a b. refl) near_count far_count in
    let parts = sum_by-append (λ far. length (held_list far)) owns ends in
    let owned = own_sum {Y = List (ℕ × ℕ)} length held_list (λ q. map pair_in (held_of Own (hand q).holding)) owns sorted are.held in
    let pairs = sum_agree (λ q. length (map pair_in (held_of Own (hand q).holding))) (λ q. length (held_of Own (hand q).holding)) sorted
    (λ i d lt. length-map (held_of Own (hand (get_or sorted i d)).holding) pair_in) in
    let flows = sum_agree (λ far. length (held_list far)) (λ far. length (unanswered far)) ends (λ i d lt. length-map (unanswered (get_or ends i d)) pair_of) in
    omega (arith, are.holding)

-- ---- what the lanes have left

lanes_split : (rest : ℕ → Rest) (ls : List ℕ)
    → sum_by (λ l. events_at (rest l)) ls
    ≡ sum_by (λ l. length (rest l).undelivered) ls + sum_by (λ l. length (still_held (rest l))) ls + sum_by (λ l. count_by has_event (rest l).untaken) ls
lanes_split rest ls =
    omega (
      arith,
      sum_plus (λ l. length (rest l).undelivered + length (still_held (rest l))) (λ l. count_by has_event (rest l).untaken) ls,
      sum_plus (λ l. length (rest l).undelivered) (λ l. length (still_held (rest l))) ls,
    )

-- the entries of the report are the events that are left
entries_left : {X : Type 0} (p : Plan) (T : List Step) (rest : ℕ → Rest) (sorted : List Port) (x : Report X) → IsListed p T rest sorted x
    → sum_by (λ l. length (still_held (rest l))) (lanes p) ≡ sum_by (λ q. length (hand q).holding) sorted → entries_of x ≡ events_left p T rest
entries_left p T rest sorted x is all_held =
    let waits = ap length is.waiting_is ∙ waiting_count p T in
    let keeps = ap length is.kept_is ∙ kept_count p T in
    let holds = ap length is.held ∙ held_count sorted in
    omega (arith, is.undelivered, is.untaken, lanes_split rest (lanes p))

-- ---- the credits

-- With all pockets taken together, the sums of a device: what came into the pockets and the pool went out of them or is there.
balance : (T : List Step) (sorted : List Port) (free own back limit : ℕ) → ArePaid T sorted free own back limit
    → (k : ℕ) × (free + sum (map pocket_of sorted) + own + 2 ^ 64 * k + sum_by news_by sorted + sum_by mores_by sorted ≡ limit + sum_by releases_by sorted + turned_count T)
balance T sorted free own back limit paid =
    let ports = pockets_lack pocket_of (λ q. (account_of q).drawn + releases_by q) (λ q. (account_of q).returned + news_by q + mores_by q) sorted paid.ports in
    let scheduler = pocket_lacks own (turned_count T) back paid.scheduler in (
      ports.0 + scheduler.0,
      omega (
        arith,
        ports.1,
        scheduler.1,
        paid.pool,
        sum-map pocket_of sorted,
        sum_plus (λ q. (account_of q).drawn) releases_by sorted,
        sum_plus (λ q. (account_of q).returned + news_by q) mores_by sorted,
        sum_plus (λ q. (account_of q).returned) news_by sorted,
      ),
    )

pub credits_come_out : {X : Type 0} (p : Plan) (T : List Step) (nears : List Near) (owns ends : List Far) (sorted : List Port) (x : Report X) (free own back limit : ℕ)
    → AreRests p T (rest_at nears (owns ++ ends)) → length nears ≡ lanes_of p → length (owns ++ ends) ≡ lanes_of p → AreEndsOf owns ends sorted
    → ArePaid T sorted free own back limit → IsListed p T (rest_at nears (owns ++ ends)) sorted x → free + sum (map pocket_of sorted) + own + entries_of x ≡ limit
credits_come_out p T nears owns ends sorted x free own back limit rests near_count far_count are paid is =
    let rest = rest_at nears (owns ++ ends) in
    let news = submitted is_new_reply p nears owns ends sorted near_count far_count are in
    let mores = submitted is_more_reply p nears owns ends sorted near_count far_count are in
    let releases = submitted is_release_reply p nears owns ends sorted near_count far_count are in
    let all_held = held_in_all p nears owns ends sorted near_count far_count are in
    let entries = entries_left p T rest sorted x is all_held in
    let sums = balance T sorted free own back limit paid in
    let settled = account_settles p T rest (free + sum (map pocket_of sorted) + own + 2 ^ 64 * sums.0) limit rests (omega (arith, sums.1, news, mores, releases)) in
    omega (arith, settled, entries, paid.small)
