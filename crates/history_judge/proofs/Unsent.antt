-- In a run that fits what was seen no more events of one value are got than were sent.
use Rattle.std.specs.Prelude.{ℕ, ◌≡◌, ◌+◌, ◌<◌, ◌≤◌, Bool, true, false, not, cond, ◌&&◌, List, [], ◌==◌, length, map, take, drop, All, count_by, Some, None, slice_get}
use Rattle.std.proofs.Common.{zero, suc, refl, sym, ap, ◌∙◌, subst, arith, add-one, ⊎_elim}
use Rattle.std.proofs.lemmas.Bool.{and_from, and_left, and_parts, and_right, cases_Bool, cases_lt, cond-true, cond-false, false≢true}
use Rattle.std.proofs.lemmas.List.{take_all, take-append-drop}
use Rattle.std.proofs.lemmas.List.Elements.{All-weaker}
use Rattle.std.proofs.lemmas.Option.{slice_get_within}
use Rattle.evt_types.specs.Operation.{is_release_op, is_release_reply}
use Rattle.evt_types.specs.Plan.{Plan, flow_lanes, is_flows, lanes_by_slot, lanes_of}
use Rattle.evt_types.specs.declared.event.Event.{Event}
use Rattle.evt_types.specs.declared.event.Op.{Op}
use Rattle.evt_types.specs.declared.event.Op.TheVariants as ops
use Rattle.evt_types.specs.declared.event.Reply.{Reply}
use Rattle.evt_types.specs.declared.step.Outcome.TheVariants.{Forwarded, Released}
use Rattle.evt_types.specs.declared.step.Source.TheVariants.{New, Of}
use Rattle.evt_types.specs.declared.step.Step.{Step}
use Rattle.evt_types.specs.declared.step.Step.TheVariants.{Accept, Give, Done, More, Turned, Bounced, Shut}
use Rattle.lists.proofs.Lists.{eqb_is, eqb_other, eqb_same, filter_map-none, slice_get-some}
use Rattle.lists.proofs.Parts.{count_by-front, count_by-push, take_next}
use Rattle.lists.proofs.Sums.{sum_of_map}
use Rattle.transcripts.proofs.Account.{HasLane, formed_lanes}
use Rattle.transcripts.specs.Lawful.{IsFormed}
use Rattle.transcripts.specs.Replies.{Said, replies_in, said, said_by, said_in}
use Rattle.transcripts.specs.Transcript.{out}
use Rattle.world_laws.proofs.Consistent.{consistent_end, consistent_none}
use Rattle.world_laws.specs.World.{World, IsConsistent, Move, empty}
use Rattle.history_judge.proofs.Accepted.{accepts_few, gives, gives_few, has_origin, is_of, is_said, lane_given, lane_saying, out_counted, replies_counted, says}
use Rattle.history_judge.proofs.ByKeys.{count_agree, count_by_keys, some_is}
use Rattle.history_judge.proofs.Fits.{count_more, submitted_at}
use Rattle.history_judge.specs.Breaches.{IsUnsent}
use Rattle.history_judge.specs.Histories.{Explains, IsImpossible, IsSameBut, WasDone, WasGot, WasSent, gets, got_before, is_got, is_sent, sends, sent_before}
use Rattle.history_judge.specs.Values.{gets_value, is_same_but, sends_value, times_got, times_sent}
use Rattle.history_judge.specs.declared.seen.Deed.{Deed}
use Rattle.history_judge.specs.declared.seen.Deed.TheVariants.{Sent, Got}
use Rattle.history_judge.specs.declared.seen.Seen.{Seen}

-- events that agree are of the same values
pub same_value : (d e f : Event) → IsSameBut e f → is_same_but d e ≡ is_same_but d f
same_value d e f same =
    λ i. (d.flow == same.flow i) && ((d.sub_type == same.sub_type i) && ((d.event_type == same.event_type i) && ((d.queue == same.queue i) && ((d.priority == same.priority i) && (d.payload == same.payload i)))))

-- ---- a port's entries

-- the port got, or sent, an event of the value
abbrev pub got_here : Event → ℕ → Seen → Bool
got_here e l s = (s.port == l) && gets_value e s.deed

abbrev pub sent_here : Event → ℕ → Seen → Bool
sent_here e l s = (s.port == l) && sends_value e s.deed

gets_some : (e : Event) (d : Deed) → gets_value e d ≡ true → gets d ≡ true
gets_some e (Sent r) is = absurd (false≢true is)
gets_some e (Got f) is = refl

-- a reply with an event of the value
abbrev pub brings : Event → Reply → Bool
brings e r = not (is_release_reply r) && is_same_but e r.event

-- where no flows have lanes of their own, each lane is a port's
pub few_lanes : (p : Plan) → is_flows p.serving ≡ false → lanes_of p ≤ length p.ports
unfolding lanes_of flow_lanes
few_lanes p plain = omega (arith, ap length (cond-false (is_flows p.serving) (lanes_by_slot p.queues) [] plain))

-- what is said of a reply
pub said_brings : (e : Event) (r : Reply) → is_said (is_same_but e) (said r) ≡ brings e r
said_brings e r = by_op r.event.op
  where
    by_op : (o : Op) → is_said (is_same_but e) (said_by o r.event) ≡ (not (is_release_op o) && is_same_but e r.event)
    by_op ops.New = refl
    by_op ops.Forward = refl
    by_op ops.Release = refl
    by_op ops.ForwardMore = refl

-- what a consistent world's lane said of the value is no more than was submitted
pub said_few : (p : Plan) (w : World) (l : ℕ) (e : Event) → IsConsistent p w → count_by (is_said (is_same_but e)) (replies_in w.log l) ≤ count_by (brings e) (w.submitted l)
said_few p w l e c =
    omega (
      arith,
      count_by-front (is_said (is_same_but e)) (replies_in w.log l) (c.taken l).0 (map said (w.submitted l)) (c.taken l).1,
      sum_of_map (λ (y : Said). cond {A = ℕ} (is_said (is_same_but e) y) 1 0) said (w.submitted l),
      count_agree (λ r. is_said (is_same_but e) (said r)) (brings e) (w.submitted l) (said_brings e),
    )

-- a lane that is no port's says nothing
pub silent : (p : Plan) (T : List Step) (l : ℕ) → All (IsFormed p) T → lanes_of p ≤ l → replies_in T l ≡ []
unfolding replies_in
silent p T l formed past = filter_map-none (said_in l) T (All-weaker (HasLane p) (λ s. said_in l s ≡ None) by_step T (formed_lanes p T formed))
  where
    other : (m : ℕ) → m < lanes_of p → (m == l) ≡ false
    other m lt = eqb_other m l (λ same. omega (arith, lt, past, same))

    by_step : (s : Step) → HasLane p s → said_in l s ≡ None
    by_step (Accept q f (New m)) there = cond-false (m == l) _ None (other m there)
    by_step (Accept q f (Of r n)) there = refl
    by_step (Give m q n) there = refl
    by_step (Done m (Forwarded f)) there = cond-false (m == l) _ None (other m there)
    by_step (Done m Released) there = cond-false (m == l) _ None (other m there)
    by_step (More m f) there = cond-false (m == l) _ None (other m there)
    by_step (Turned m f) there = cond-false (m == l) _ None (other m there)
    by_step (Bounced m) there = refl
    by_step Shut there = refl

-- in all, where each lane is a port's, and of each port no more was said than some entries tell of
pub says_few : (p : Plan) (T : List Step) (hs : List Seen) (e : Event) (tells : Deed → Seen → Bool) → All (IsFormed p) T → is_flows p.serving ≡ false
    → ((l : ℕ) → l < length p.ports → count_by (is_said (is_same_but e)) (replies_in T l) ≤ count_by (λ (s : Seen). (s.port == l) && tells s.deed s) hs)
    → count_by (says (is_same_but e)) T ≤ count_by (λ (s : Seen). tells s.deed s) hs
says_few p T hs e tells formed plain by_port =
    count_by_keys (λ m n. m == n) eqb_is eqb_same lane_saying (λ (s : Seen). s.port) (says (is_same_but e)) (λ (s : Seen). tells s.deed s) T hs by_lane
  where
    by_lane : (l : ℕ) → count_by (λ s. (lane_saying s == l) && says (is_same_but e) s) T ≤ count_by (λ (s : Seen). (s.port == l) && tells s.deed s) hs
    by_lane l =
        ⊎_elim
        (λ port. omega (arith, replies_counted (is_same_but e) T l, by_port l port))
        (λ past. omega (arith, replies_counted (is_same_but e) T l, ap (count_by (is_said (is_same_but e))) (silent p T l formed (omega (arith, past, few_lanes p plain)))))
        (cases_lt l (length p.ports))

-- Of the first replies that a port submitted as many are of a class as its entries tell of.
pub told_so_far : (p : Plan) (hs : List Seen) (moves : List Move) (v : World) (clock : ℕ → ℕ) → Explains p hs moves v clock → (f : Reply → Bool) (g : Deed → Bool)
    → ((r : Reply) → g (Sent r) ≡ f r) → ((e : Event) → g (Got e) ≡ false) → (l i : ℕ) → i ≤ length hs
    → count_by f (take (sent_before hs l i) (v.submitted l)) ≡ count_by (λ (s : Seen). (s.port == l) && g s.deed) (take i hs)
told_so_far p hs moves v clock x f g sent got l zero within = refl
told_so_far p hs moves v clock x f g sent got l (suc i) within =
    let entry : (s : Seen) × (slice_get hs i ≡ Some s) = slice_get-some hs i (omega (arith, within)) in
    subst (λ m. count_by f (take (sent_before hs l m) (v.submitted l)) ≡ count_by here (take m hs)) (add-one i)
    (one_more entry.0 entry.1 (told_so_far p hs moves v clock x f g sent got l i (omega (arith, within))))
  where
    here : Seen → Bool
    here s = (s.port == l) && g s.deed

    one_more : (s : Seen) → slice_get hs i ≡ Some s → count_by f (take (sent_before hs l i) (v.submitted l)) ≡ count_by here (take i hs)
        → count_by f (take (sent_before hs l (i + 1)) (v.submitted l)) ≡ count_by here (take (i + 1) hs)
    one_more s at so_far = ⊎_elim by_port away (cases_Bool (s.port == l))
      where
        stays : is_sent l s ≡ false → here s ≡ false → count_by f (take (sent_before hs l (i + 1)) (v.submitted l)) ≡ count_by here (take (i + 1) hs)
        stays other none =
            let same : sent_before hs l (i + 1) ≡ sent_before hs l i = omega (arith, count_more (is_sent l) hs i s at, cond-false {A = ℕ} (is_sent l s) 1 0 other) in
            omega (arith, so_far, count_more here hs i s at, cond-false {A = ℕ} (here s) 1 0 none, ap (λ n. count_by f (take n (v.submitted l))) same)

        away : (s.port == l) ≡ false → count_by f (take (sent_before hs l (i + 1)) (v.submitted l)) ≡ count_by here (take (i + 1) hs)
        away other = stays (and_left (s.port == l) (sends s.deed) other) (and_left (s.port == l) (g s.deed) other)

        by_port : (s.port == l) ≡ true → count_by f (take (sent_before hs l (i + 1)) (v.submitted l)) ≡ count_by here (take (i + 1) hs)
        by_port mine = by_deed s.deed refl
          where
            port : s.port ≡ l
            port = eqb_is s.port l mine

            by_deed : (d : Deed) → s.deed ≡ d → count_by f (take (sent_before hs l (i + 1)) (v.submitted l)) ≡ count_by here (take (i + 1) hs)
            by_deed (Got e) is =
                stays (and_right (s.port == l) (sends s.deed) (ap sends is)) (and_right (s.port == l) (g s.deed) (ap g is ∙ got e))
            by_deed (Sent r) is =
                let was : WasSent hs moves clock i s r = subst (WasDone hs moves v clock i s) is (x.each i s at) in
                let there : slice_get (v.submitted l) (sent_before hs l i) ≡ Some r =
                subst (λ m. slice_get (v.submitted m) (sent_before hs m i) ≡ Some r) port (submitted_at p hs moves v clock i s r x was) in
                let next : is_sent l s ≡ true = and_from (s.port == l) (sends s.deed) mine (ap sends is) in
                let more : sent_before hs l (i + 1) ≡ sent_before hs l i + 1 = omega (arith, count_more (is_sent l) hs i s at, cond-true {A = ℕ} (is_sent l s) 1 0 next) in
                let value : here s ≡ f r = ap (λ b. b && g s.deed) mine ∙ (ap g is ∙ sent r) in
                omega (
                  arith,
                  so_far,
                  count_more here hs i s at,
                  ap (λ n. count_by f (take n (v.submitted l))) more,
                  ap (count_by f) (take_next (v.submitted l) (sent_before hs l i) r there),
                  count_by-push f (take (sent_before hs l i) (v.submitted l)) r,
                  ap (λ b. cond {A = ℕ} b 1 0) value,
                )

module _ (p : Plan) (hs : List Seen) (moves : List Move) (v : World) (clock : ℕ → ℕ) (x : Explains p hs moves v clock) (e : Event) where
  -- the pair is of an event of the value
  abbrev pair_is : ℕ × ℕ → Bool
  pair_is y = is_of (is_same_but e) v.log y.0 y.1

  -- ---- what a port got

  -- of its first entries no more got an event of the value than it was given such events
  got_few : (l i : ℕ) → i ≤ length hs → count_by (got_here e l) (take i hs) ≤ count_by pair_is (take (got_before hs l i) (out v.log l))
  got_few l zero within = omega arith
  got_few l (suc i) within =
      let entry : (s : Seen) × (slice_get hs i ≡ Some s) = slice_get-some hs i (omega (arith, within)) in
      subst (λ m. count_by (got_here e l) (take m hs) ≤ count_by pair_is (take (got_before hs l m) (out v.log l))) (add-one i)
      (one_more entry.0 entry.1 (got_few l i (omega (arith, within))))
    where
      one_more : (s : Seen) → slice_get hs i ≡ Some s → count_by (got_here e l) (take i hs) ≤ count_by pair_is (take (got_before hs l i) (out v.log l))
          → count_by (got_here e l) (take (i + 1) hs) ≤ count_by pair_is (take (got_before hs l (i + 1)) (out v.log l))
      one_more s at so_far = ⊎_elim here away (cases_Bool (is_got l s))
        where
          away : is_got l s ≡ false → count_by (got_here e l) (take (i + 1) hs) ≤ count_by pair_is (take (got_before hs l (i + 1)) (out v.log l))
          away other =
              let none : got_here e l s ≡ false = ⊎_elim (λ yes. absurd (false≢true (sym other ∙ is_one yes))) (λ no. no) (cases_Bool (got_here e l s)) in
              let stays : got_before hs l (i + 1) ≡ got_before hs l i = omega (arith, count_more (is_got l) hs i s at, cond-false {A = ℕ} (is_got l s) 1 0 other) in
              omega (
                arith,
                so_far,
                count_more (got_here e l) hs i s at,
                cond-false {A = ℕ} (got_here e l s) 1 0 none,
                ap (λ n. count_by pair_is (take n (out v.log l))) stays,
              )
            where
              is_one : got_here e l s ≡ true → is_got l s ≡ true
              is_one here_too =
                  let parts = and_parts (s.port == l) (gets_value e s.deed) here_too in and_from (s.port == l) (gets s.deed) parts.0 (gets_some e s.deed parts.1)

          here : is_got l s ≡ true → count_by (got_here e l) (take (i + 1) hs) ≤ count_by pair_is (take (got_before hs l (i + 1)) (out v.log l))
          here mine = by_deed s.deed refl
            where
              port : s.port ≡ l
              port = eqb_is s.port l (and_parts (s.port == l) (gets s.deed) mine).0

              more : got_before hs l (i + 1) ≡ got_before hs l i + 1
              more = omega (arith, count_more (is_got l) hs i s at, cond-true {A = ℕ} (is_got l s) 1 0 mine)

              by_deed : (d : Deed) → s.deed ≡ d → count_by (got_here e l) (take (i + 1) hs) ≤ count_by pair_is (take (got_before hs l (i + 1)) (out v.log l))
              by_deed (Sent r) is = absurd (false≢true (ap gets (sym is) ∙ (and_parts (s.port == l) (gets s.deed) mine).1))
              by_deed (Got f) is =
                  let was : WasGot hs moves v clock i s f = subst (WasDone hs moves v clock i s) is (x.each i s at) in
                  let there : slice_get (out v.log l) (got_before hs l i) ≡ Some was.pair =
                  subst (λ m. slice_get (out v.log m) (got_before hs m i) ≡ Some was.pair) port was.received in
                  let value : got_here e l s ≡ pair_is was.pair =
                  ap (λ b. b && gets_value e s.deed) (ap (λ m. s.port == m) (sym port) ∙ eqb_same s.port)
                  ∙ (ap (gets_value e) is ∙ (same_value e f was.event was.same ∙ ap (some_is (is_same_but e)) (sym was.accepted))) in
                  omega (
                    arith,
                    so_far,
                    count_more (got_here e l) hs i s at,
                    ap (λ n. count_by pair_is (take n (out v.log l))) more,
                    ap (count_by pair_is) (take_next (out v.log l) (got_before hs l i) was.pair there),
                    count_by-push pair_is (take (got_before hs l i) (out v.log l)) was.pair,
                    ap (λ b. cond {A = ℕ} b 1 0) value,
                  )

  -- ---- what a port sent

  pub sent_few : (l i : ℕ) → i ≤ length hs → count_by (brings e) (take (sent_before hs l i) (v.submitted l)) ≤ count_by (sent_here e l) (take i hs)
  sent_few l i within = omega (arith, told_so_far p hs moves v clock x (brings e) (sends_value e) (λ r. refl) (λ f. refl) l i within)

  pub brought_few : (l : ℕ) → l < length p.ports → count_by (brings e) (v.submitted l) ≤ count_by (sent_here e l) hs
  brought_few l port =
      omega (
        arith,
        sent_few l (length hs) (omega arith),
        ap (count_by (brings e)) whole,
        ap (count_by (sent_here e l)) (take_all (length hs) hs (omega arith)),
      )
    where
      whole : take (sent_before hs l (length hs)) (v.submitted l) ≡ v.submitted l
      whole = take_all (sent_before hs l (length hs)) (v.submitted l) (omega (arith, x.submitted l port, ap (count_by (is_sent l)) (take_all (length hs) hs (omega arith))))

  -- ---- all ports

  consistent : IsConsistent p v
  consistent = consistent_end p empty v moves x.run (consistent_none p)

  got_by_lane : (i l : ℕ) → i ≤ length hs → count_by (got_here e l) (take i hs) ≤ count_by (λ s. (lane_given s == l) && gives (is_same_but e) v.log s) v.log
  got_by_lane i l within =
      omega (
        arith,
        got_few l i within,
        out_counted (is_same_but e) v.log l,
        count_by-front pair_is (take (got_before hs l i) (out v.log l)) (drop (got_before hs l i) (out v.log l)) (out v.log l) (take-append-drop (got_before hs l i) (out v.log l)),
      )

  pub sent_by_port : (l : ℕ) → l < length p.ports → count_by (is_said (is_same_but e)) (replies_in v.log l) ≤ count_by (sent_here e l) hs
  sent_by_port l port = omega (arith, said_few p v l e consistent, brought_few l port)

  -- no more are got than sent
  got_as_sent : is_flows p.serving ≡ false → (i : ℕ) → i ≤ length hs → times_got hs e i ≤ times_sent hs e
  got_as_sent plain i within =
      omega (
        arith,
        count_by_keys (λ m n. m == n) eqb_is eqb_same (λ (s : Seen). s.port) lane_given (λ (s : Seen). gets_value e s.deed) (gives (is_same_but e) v.log) (take i hs) v.log
            (λ l. got_by_lane i l within),
        gives_few p (is_same_but e) v.log consistent.lawful,
        accepts_few (is_same_but e) v.log (has_origin p v.log consistent.lawful),
        says_few p v.log hs e (λ d s. sends_value e d) consistent.lawful.formed plain sent_by_port,
      )

pub unsent_fits_none : (p : Plan) (hs : List Seen) (i : ℕ) → IsUnsent p hs i → IsImpossible p hs
unsent_fits_none p hs i b moves v clock x =
    omega (arith, b.excess.more, got_as_sent p hs moves v clock x b.excess.event b.ports (i + 1) (omega (arith, within)))
  where
    within : i < length hs
    within = slice_get_within hs i b.excess.seen b.excess.entry
