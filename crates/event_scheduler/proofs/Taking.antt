-- Replies are taken: one, none, and some after others.
use Rattle.std.proofs.Common.{add-zero, ◌≡◌, ◌≢◌, ℕ, ◌+◌, ◌*◌, ◌<◌, ◌≤◌, ◌%◌, ◌^◌, ◌==◌, Bool, true, false, cond, nat_lt, not, ◌&&◌, ◌||◌, IsFalse, IsTrue, ◌⊎◌, inl, inr, List, [], ◌∷◌, ◌++◌, length, map, set, get_or, slice_get, take, drop, zero, suc, Some, refl, sym, ap, ◌∙◌, subst, append_assoc, append-nil, arith}
use Rattle.std.proofs.lemmas.Option.{none-some, slice_get_within}
use Rattle.std.proofs.lemmas.Bool.{cases_eq, cases_lt, false≢true, le-ltb, lt-ltb}
use Rattle.std.proofs.lemmas.List.{get_or-map, get_or-set_other, get_or-set_same, length-append, length-take, map-append, map-set, take_more}
use Rattle.std.proofs.Math.Nat.{mul-le-mul_left}
use Rattle.std.proofs.Math.Seq.{set-get_or, set-set, take-take}
use mathlib.Core.List.{IsPrefix}
use Rattle.std.proofs.lemmas.List.Elements.{filter_map-append}
use Rattle.credit_pool.specs.declared.account.Account.{Account}
use Rattle.credit_pool.specs.declared.pool.Credits.{Credits}
use Rattle.event_scheduler.proofs.Counts.{count-append, new_fits, passed_turns_none, reply_enters, reply_shuts_none, reply_turns}
use Rattle.event_scheduler.proofs.Lanes.{same_lists}
use Rattle.event_scheduler.proofs.Looking.{append_none}
use Rattle.event_scheduler.proofs.Replies.{after-append, by_lane-append, first_more, may-append, of_first_is, only_is, only_more, one_count, one_elsewhere, one_here, one_said, one_steps, steps-append}
use Rattle.event_scheduler.proofs.Serving.{Adds, runs_by, runs_none, runs_runs, stays_same}
use Rattle.credit_pool.specs.Pockets.{IsPocket}
use Rattle.event_scheduler.specs.Seeking.{SameLanes}
use Rattle.event_scheduler.specs.Scheduler.{Runs, Serves, Sight, offered_at, sight, taken_at}
use Rattle.evt_types.specs.declared.event.Delivery.{Delivery}
use Rattle.evt_types.specs.declared.event.Reply.{Reply}
use Rattle.event_scheduler.specs.Taking.{MayEnd, Takes, entered_as, entered_by, of_first, only, replies_from, reply_from, turned_by, with_core, with_taken}
use Rattle.evt_types.specs.Event.{pair_of}
use Rattle.evt_types.specs.Operation.{is_new_op}
use Rattle.evt_types.specs.Plan.{bound_of, lanes_of}
use Rattle.evt_types.specs.declared.event.Event.{Event}
use Rattle.evt_types.specs.declared.event.Op.{Op}
use Rattle.evt_types.specs.declared.event.Op.TheVariants as ops
use Rattle.evt_types.specs.declared.step.Step.{Step}
use Rattle.lane_rings.specs.Ends.{offered, seen_replies, taken}
use Rattle.lane_rings.specs.Identity.{LaneId, near_id}
use Rattle.lane_rings.specs.declared.near.Near.{Near}
use Rattle.sched_core.specs.Taken.{took_by, took_of}
use Rattle.sched_core.specs.declared.take.Took.{Took}
use Rattle.sched_core.specs.declared.take.Took.TheVariants as tooks
use Rattle.transcripts.proofs.Replies.{steps_of-out}
use Rattle.transcripts.specs.Replies.{new_count, said, turned_count}
use Rattle.transcripts.specs.Standing.{View, Stands, after, entries_of, inside_of, may_enter, may_take, may_take_by, steps_of}
use Rattle.transcripts.specs.Sweep.{MayBeTaken, replies_steps}
use Rattle.transcripts.specs.Transcript.{is_turned, out}

-- ---- none

-- none, but more was seen
takes_seen : (most : ℕ → ℕ) (s : Sight) (seen : List (List Reply)) (log : List Step) → Takes most 0 s log (record s { seen = seen }) log
takes_seen most s seen log =
    let t : Sight = record s { seen = seen } in
    let same : Runs [] s log s log = runs_none s log in
    record {
      replies = [];
      runs = record {
        logged = same.logged;
        serves = λ T h.
            let still : Serves (T ++ []) s = same.serves T h in record {
              stands = still.stands;
              offered = still.offered;
              events = still.events;
              taken = still.taken;
              depths = still.depths;
              accepted_new = still.accepted_new;
              own = still.own;
              shut = still.shut;
            };
        site = refl;
        shape = refl;
        account = stays_same s.account;
      };
      core = refl;
      may = tt;
      by_lane = λ i j d lt within. absurd (omega arith);
      few = λ l. omega arith;
      taken = λ l. sym (append-nil (taken_at s l));
      offered = refl;
      count = refl;
      account = refl;
      pocket = ap (λ n. n % 2 ^ 64) (sym (add-zero s.pocket));
    }

pub takes_none : (most : ℕ → ℕ) (s : Sight) (log : List Step) → Takes most 0 s log s log
takes_none most s log = takes_seen most s s.seen log

-- none, and a lane was looked at
pub takes_looked :
    (pool : Credits) (core : View) (lanes : List Near) (v : Account) (p n i : ℕ) (near later : Near) (most : ℕ → ℕ) (log : List Step) → near ≡ get_or lanes i near
    → near_id later ≡ near_id near → offered later ≡ offered near → taken later ≡ taken near → Takes most 0 (sight pool core lanes v p n) log (sight pool core (set lanes i later) v p n) log
takes_looked pool core lanes v p n i near later most log is id offers takings =
    let now : List Near = set lanes i later in
    let With : List LaneId → List (List Delivery) → List (List Reply) → Type 0 =
    λ ids os ts.
    Takes most 0 (sight pool core lanes v p n) log
    (record { site = record { pool = pool; lanes = ids }; core = core; offered = os; taken = ts; seen = map seen_replies now; account = v; pocket = p; accepted_new = n }) log in
    subst (λ ids. With ids (map offered now) (map taken now)) (sym (same_lists near_id lanes i near later is id))
    (subst (λ os. With (map near_id lanes) os (map taken now)) (sym (same_lists offered lanes i near later is offers))
    (subst (λ ts. With (map near_id lanes) (map offered lanes) ts) (sym (same_lists taken lanes i near later is takings)) (takes_seen most (sight pool core lanes v p n) (map seen_replies now) log)))

-- none, and lanes were looked at
pub takes_sought :
    (pool : Credits) (core : View) (lanes now : List Near) (v : Account) (p n : ℕ) (most : ℕ → ℕ) (log : List Step)
    → SameLanes lanes now → Takes most 0 (sight pool core lanes v p n) log (sight pool core now v p n) log
takes_sought pool core lanes now v p n most log same =
    let With : List LaneId → List (List Delivery) → List (List Reply) → Type 0 =
    λ ids os ts.
    Takes most 0 (sight pool core lanes v p n) log
    (record { site = record { pool = pool; lanes = ids }; core = core; offered = os; taken = ts; seen = map seen_replies now; account = v; pocket = p; accepted_new = n }) log in
    subst (λ ids. With ids (map offered now) (map taken now)) (sym same.ids)
    (subst (λ os. With (map near_id lanes) os (map taken now)) (sym same.offers)
    (subst (λ ts. With (map near_id lanes) (map offered lanes) ts) (sym same.takings) (takes_seen most (sight pool core lanes v p n) (map seen_replies now) log)))

-- ---- one

-- a pocket with k more
more_in : (p came went k : ℕ) → IsPocket p came went → IsPocket ((p + k) % 2 ^ 64) (came + k) went
more_in p came went k h = (omega (arith, h.0), omega (arith, h.1))

-- what may be taken leaves the count of new events room for one more
and_second : (a b : Bool) → (a && b) ≡ true → b ≡ true
and_second true b h = h
and_second false b h = absurd (false≢true h)

is_below : (a b : ℕ) → nat_lt a b ≡ true → a < b
is_below a b is = by_place (cases_lt a b)
  where
    by_place : (a < b) ⊎ (b ≤ a) → a < b
    by_place (inl below) = below
    by_place (inr past) = absurd (false≢true (sym (le-ltb a b past) ∙ is))

new_room : (b : Bool) (v : View) (e : Event) (n : ℕ) → v.shut ≡ b → may_enter v e.queue ≡ true → n < 2 ^ 64 → n ≤ entries_of v → n + entered_as (cond b tooks.Turned tooks.Accepted) < 2 ^ 64
new_room true v e n is may fits few = omega (arith, fits)
new_room false v e n is may fits few =
    let either : (v.shut || (nat_lt (inside_of v) (bound_of v.shape) && nat_lt (entries_of v) (2 ^ 63))) ≡ true = and_second (nat_lt e.queue (length v.shape.queues)) _ may in
    let free : (nat_lt (inside_of v) (bound_of v.shape) && nat_lt (entries_of v) (2 ^ 63)) ≡ true =
    subst (λ b. (b || (nat_lt (inside_of v) (bound_of v.shape) && nat_lt (entries_of v) (2 ^ 63))) ≡ true) is either in
    let below : entries_of v < 2 ^ 63 = is_below (entries_of v) (2 ^ 63) (and_second (nat_lt (inside_of v) (bound_of v.shape)) _ free) in
    omega (arith, below, few)

room_by : (o : Op) (v : View) (l : ℕ) (e : Event) (n : ℕ) → may_take_by o v l e ≡ true → n < 2 ^ 64 → n ≤ entries_of v → n + entered_by o (took_by o v l e) < 2 ^ 64
room_by ops.New v l e n may fits few = new_room v.shut v e n refl (and_second (nat_lt l (length v.shape.ports)) _ may) fits few
room_by ops.Forward v l e n may fits few = omega (arith, fits)
room_by ops.Release v l e n may fits few = omega (arith, fits)
room_by ops.ForwardMore v l e n may fits few = omega (arith, fits)

entered_fits : (v : View) (l : ℕ) (e : Event) (n : ℕ) (T : List Step) → may_take v l e ≡ true → n < 2 ^ 64 → Stands T v → n ≡ new_count T → n + entered_by e.op (took_of v l e) < 2 ^ 64
entered_fits v l e n T may fits stands is = room_by e.op v l e n may fits (omega (arith, is, new_fits v T stands))

-- of what isn't new nothing is turned away
pub none_turned : (o : Op) (v : View) (l : ℕ) (e : Event) → o ≢ ops.New → turned_by (took_by o v l e) ≡ 0
none_turned ops.New v l e other = absurd (other refl)
none_turned ops.Forward v l e other = passed_turns_none _
none_turned ops.Release v l e other = refl
none_turned ops.ForwardMore v l e other = passed_turns_none _

-- what a lane has, once some were put behind what it had
put_here : {X : Type 0} (xss : List (List X)) (l : ℕ) (xs : List X) → l < length xss → get_or (set xss l xs) l [] ≡ xs
put_here xss l xs within = get_or-set_same xss l xs [] within

put_behind : {X : Type 0} (xss : List (List X)) (l j : ℕ) (xs : List X) (behind : ℕ → List X) → l < length xss → xs ≡ behind l → ((m : ℕ) → m ≢ l → behind m ≡ [])
    → get_or (set xss l (get_or xss l [] ++ xs)) j [] ≡ get_or xss j [] ++ behind j
put_behind xss l j xs behind within here elsewhere = by_place (cases_eq j l)
  where
    by_place : (j ≡ l) ⊎ (j ≢ l) → get_or (set xss l (get_or xss l [] ++ xs)) j [] ≡ get_or xss j [] ++ behind j
    by_place (inl same) =
        subst (λ m. get_or (set xss l (get_or xss l [] ++ xs)) m [] ≡ get_or xss m [] ++ behind m) (sym same)
        (put_here xss l (get_or xss l [] ++ xs) within ∙ ap (λ ys. get_or xss l [] ++ ys) here)
    by_place (inr other) = get_or-set_other xss l j (get_or xss l [] ++ xs) [] other ∙ append_none (get_or xss j []) (behind j) (elsewhere j other)

took_in_all :
    (s : Sight) (core later : View) (p n l k m : ℕ) (e : Event) (log longer : List Step)
    → l < length s.taken → l < lanes_of core.shape → may_take core l e ≡ true → later ≡ after core (steps_of core l e) → later.shape ≡ core.shape → longer ≡ log ++ steps_of core l e
    → ((T : List Step) → Stands T core → Stands (T ++ steps_of core l e) later)
    → n < 2 ^ 64 → k ≡ turned_by (took_of core l e) → m ≡ entered_by e.op (took_of core l e)
    → Takes (only l 1) 1 (with_core s core p n) log (with_core (with_taken s l (record { event = e } ∷ [])) later ((p + k) % 2 ^ 64) ((n + m) % 2 ^ 64)) longer
took_in_all r core later p n l k m e log longer within lane may view shape logged stands fits turns enters =
    record {
      replies = (l, e) ∷ [];
      runs = subst (λ S. Runs S s log t longer) (sym (one_steps core l e)) (runs_by (steps_of core l e) s t log longer logged adds);
      core = view ∙ ap (after core) (sym (one_steps core l e));
      may = (lane, may, tt);
      by_lane = λ i j d lt in_one. absurd (omega arith);
      few = λ m. one_count l m e;
      taken = lists;
      offered = refl;
      count = refl;
      account = refl;
      pocket = omega (arith, turns, reply_turns core l e, ap turned_count (one_steps core l e));
    }
  where
    s : Sight
    s = with_core r core p n

    t : Sight
    t = with_core (with_taken r l (record { event = e } ∷ [])) later ((p + k) % 2 ^ 64) ((n + m) % 2 ^ 64)

    lists : (j : ℕ) → taken_at t j ≡ taken_at s j ++ replies_from j ((l, e) ∷ [])
    lists j = put_behind r.taken l j (record { event = e } ∷ []) (λ m. replies_from m ((l, e) ∷ [])) within (sym (one_here l e)) (λ m other. one_elsewhere l m e other)

    adds : Adds (steps_of core l e) s t
    adds =
        record {
          stands = stands;
          shape = shape;
          site = refl;
          offered = λ m. append_none (map pair_of (offered_at s m)) (out (steps_of core l e) m) (steps_of-out core l e m);
          events = λ T m at accepted. accepted;
          taken = λ m. ap (map said) (lists m) ∙ (map-append said (taken_at s m) (replies_from m ((l, e) ∷ [])) ∙ ap (λ xs. map said (taken_at s m) ++ xs) (one_said core l e m));
          entered = λ T at is_new. omega (arith, entered_fits core l e n T may fits at is_new, enters, is_new, reply_enters core l e);
          own = λ came h. subst (λ j. IsPocket ((p + k) % 2 ^ 64) (came + j) r.account.returned) (turns ∙ sym (reply_turns core l e)) (more_in p came r.account.returned k h);
          shut = λ has. absurd (false≢true (sym (reply_shuts_none core l e) ∙ has));
          account = stays_same r.account;
        }

-- the lane's oldest reply, and what it leaves in the pocket and in the count of new events
pub took :
    (s : Sight) (core later : View) (p n held came l k m : ℕ) (e : Event) (log longer : List Step)
    → l < length s.taken → l < lanes_of core.shape → may_take core l e ≡ true → later ≡ after core (steps_of core l e) → later.shape ≡ core.shape → longer ≡ log ++ steps_of core l e
    → ((T : List Step) → Stands T core → Stands (T ++ steps_of core l e) later)
    → n < 2 ^ 64 → k ≡ turned_by (took_of core l e) → m ≡ entered_by e.op (took_of core l e) → held ≡ (p + k) % 2 ^ 64 → came ≡ (n + m) % 2 ^ 64
    → Takes (only l 1) 1 (with_core s core p n) log (with_core (with_taken s l (record { event = e } ∷ [])) later held came) longer
took s core later p n held came l k m e log longer within lane may view shape logged stands fits turns enters holds comes =
    let With : ℕ → ℕ → Type 0 = λ x y. Takes (only l 1) 1 (with_core s core p n) log (with_core (with_taken s l (record { event = e } ∷ [])) later x y) longer in
    subst (λ x. With x came) (sym holds)
    (subst (λ y. With ((p + k) % 2 ^ 64) y) (sym comes) (took_in_all s core later p n l k m e log longer within lane may view shape logged stands fits turns enters))

-- ---- some after others

pub takes_both : (f g most : ℕ → ℕ) (a b : ℕ) (s t u : Sight) (log mid longer : List Step) → (h : Takes f a s log t mid) → (k : Takes g b t mid u longer)
    → ((i j : ℕ) → 1 ≤ f i → 1 ≤ g j → i ≤ j) → ((m : ℕ) → f m + g m ≤ most m) → (both : Takes most (a + b) s log u longer) × (both.replies ≡ h.replies ++ k.replies)
takes_both f g most a b s t u log mid longer h k rise sums = (
  record {
    replies = h.replies ++ k.replies;
    runs = subst (λ S. Runs S s log u longer) (sym steps_are) (runs_runs (replies_steps s.core h.replies) (replies_steps t.core k.replies) s t u log mid longer h.runs k.runs);
    core = k.core ∙ (ap (λ c. after c (replies_steps t.core k.replies)) h.core ∙ (sym (after-append s.core (replies_steps s.core h.replies) (replies_steps t.core k.replies)) ∙ ap (after s.core) (sym steps_are)));
    may = may-append s.core h.replies k.replies h.may (subst (λ c. MayBeTaken c k.replies) h.core k.may);
    by_lane = by_lane-append f g h.replies k.replies h.by_lane k.by_lane h.few k.few rise;
    few = λ m. omega (arith, count-append (λ (r : ℕ × Event). r.0 == m) h.replies k.replies, h.few m, k.few m, sums m);
    taken = λ m.
        k.taken m
        ∙ (ap (λ xs. xs ++ replies_from m k.replies) (h.taken m)
        ∙ (append_assoc (taken_at s m) (replies_from m h.replies) (replies_from m k.replies) ∙ ap (λ xs. taken_at s m ++ xs) (sym (filter_map-append (reply_from m) h.replies k.replies))));
    offered = k.offered ∙ h.offered;
    count = length-append h.replies k.replies ∙ (ap (λ n. n + length k.replies) h.count ∙ ap (λ n. a + n) k.count);
    account = k.account ∙ h.account;
    pocket = omega (arith, h.pocket, k.pocket, ap turned_count steps_are, count-append is_turned (replies_steps s.core h.replies) (replies_steps t.core k.replies));
  },
  refl,
)
  where
    steps_are : replies_steps s.core (h.replies ++ k.replies) ≡ replies_steps s.core h.replies ++ replies_steps t.core k.replies
    steps_are = steps-append s.core h.replies k.replies ∙ ap (λ c. replies_steps s.core h.replies ++ replies_steps c k.replies) (sym h.core)

pub takes_takes : (f g most : ℕ → ℕ) (a b : ℕ) (s t u : Sight) (log mid longer : List Step) → Takes f a s log t mid → Takes g b t mid u longer
    → ((i j : ℕ) → 1 ≤ f i → 1 ≤ g j → i ≤ j) → ((m : ℕ) → f m + g m ≤ most m) → Takes most (a + b) s log u longer
takes_takes f g most a b s t u log mid longer h k rise sums = (takes_both f g most a b s t u log mid longer h k rise sums).0

-- the same under a wider bound
pub takes_within : (f most : ℕ → ℕ) (n : ℕ) (s t : Sight) (log longer : List Step) → (h : Takes f n s log t longer) → ((m : ℕ) → f m ≤ most m)
    → (all : Takes most n s log t longer) × (all.replies ≡ h.replies)
takes_within f most n s t log longer h wider = (
  record {
    replies = h.replies;
    runs = h.runs;
    core = h.core;
    may = h.may;
    by_lane = h.by_lane;
    few = λ m. omega (arith, h.few m, wider m);
    taken = h.taken;
    offered = h.offered;
    count = h.count;
    account = h.account;
    pocket = h.pocket;
  },
  refl,
)

-- ---- of one lane, and of one lane after the other

pub lane_more : (l n k : ℕ) (s t u : Sight) (log mid longer : List Step) → Takes (only l n) n s log t mid → Takes (only l k) k t mid u longer → Takes (only l (n + k)) (n + k) s log u longer
lane_more l n k s t u log mid longer h more =
    takes_takes (only l n) (only l k) (only l (n + k)) n k s t u log mid longer h more (λ i j some later. omega (arith, only_is l n i some, only_is l k j later)) (λ m. only_more l n k m)

pub next_lane : (i most same n k : ℕ) (s t u : Sight) (log mid longer : List Step) → same ≡ most → (h : Takes (of_first i most) n s log t mid) → (m : Takes (only i same) k t mid u longer)
    → (both : Takes (of_first (i + 1) most) (n + k) s log u longer) × (both.replies ≡ h.replies ++ m.replies)
next_lane i most same n k s t u log mid longer is h m =
    takes_both (of_first i most) (only i same) (of_first (i + 1) most) n k s t u log mid longer h m (λ a b some more. omega (arith, of_first_is i most a some, only_is i same b more))
    (λ a. subst (λ j. of_first i most a + only i j a ≤ of_first (i + 1) most a) (sym is) (first_more i most a))

-- none of a lane is none of any
none_by : (b : Bool) → ◌≡◌ {A = ℕ} (cond b 0 0) 0
none_by true = refl
none_by false = refl

none_of : (l m : ℕ) → only l 0 m ≡ 0
none_of l m = none_by (m == l)

-- nothing more of a lane was taken
pub lane_ends : (l n q : ℕ) (s t u : Sight) (log mid longer : List Step) → n ≤ q → Takes (only l n) n s log t mid → Takes (only l 0) 0 t mid u longer → Takes (only l q) n s log u longer
lane_ends l n q s t u log mid longer few h k =
    subst (λ k. Takes (only l q) k s log u longer) (omega arith)
    (takes_takes (only l n) (only l 0) (only l q) n 0 s t u log mid longer h k (λ i j some more. absurd (omega (arith, more, none_of l j))) (λ m. omega (arith, none_of l m, within m)))
  where
    within_by : (b : Bool) → cond b n 0 ≤ cond b q 0
    within_by true = few
    within_by false = omega arith

    within : (m : ℕ) → only l n m ≤ only l q m
    within m = within_by (m == l)

-- ---- a run of replies of one lane

-- none of none, and the first of some
pub run_none : (s : Sight) (l : ℕ) → l < length s.taken → with_taken s l [] ≡ s
run_none s l within = ap (λ ts. record s { taken = ts }) (ap (set s.taken l) (append-nil (taken_at s l)) ∙ set-get_or s.taken l [])

-- some replies more, and one
pub run_more : (s : Sight) (l : ℕ) (xs ys : List Reply) → l < length s.taken → with_taken (with_taken s l xs) l ys ≡ with_taken s l (xs ++ ys)
run_more s l xs ys within =
    ap (λ ts. record s { taken = ts })
    (ap (λ zs. set (set s.taken l (taken_at s l ++ xs)) l (zs ++ ys)) (put_here s.taken l (taken_at s l ++ xs) within)
    ∙ (set-set s.taken l (taken_at s l ++ xs) ((taken_at s l ++ xs) ++ ys) ∙ ap (set s.taken l) (append_assoc (taken_at s l) xs ys)))

pub run_next : (s : Sight) (l k : ℕ) (rs : List Reply) (r : Reply) → l < length s.taken → k < length rs → r ≡ get_or rs k r → with_taken (with_taken s l (take k rs)) l (r ∷ []) ≡ with_taken s l (take (k + 1) rs)
run_next s l k rs r within there next =
    run_more s l (take k rs) (r ∷ []) within ∙ ap (with_taken s l) (ap (λ x. take k rs ++ x ∷ []) next ∙ sym (take_more rs k r there))

-- of the first of some no more are the first
pub fewer_of : (k n : ℕ) (rs : List Reply) → k ≤ length (take n rs) → take k (take n rs) ≡ take k rs
fewer_of k n rs few = take-take k n rs (omega (arith, few, length-take n rs))

-- what is the first of those that were fetched is the first that is seen
first_seen : (n : ℕ) (rs seen : List Reply) (r : Reply) → IsPrefix rs seen → slice_get (take n rs) 0 ≡ Some r → slice_get seen 0 ≡ Some r
first_seen n [] seen r p there = absurd (omega (arith, slice_get_within (take n []) 0 r there, length-take {A = Reply} n []))
first_seen zero (x ∷ rs) seen r p there = absurd (none-some r there)
first_seen (suc n) (x ∷ rs) seen r p there = ap (λ xs. slice_get xs 0) (sym p.1) ∙ there

-- what is at a place of them is the first that is seen behind as many
pub first_left : (k n : ℕ) (rs seen : List Reply) (r : Reply) → IsPrefix rs seen → slice_get (take n rs) k ≡ Some r → slice_get (drop k seen) 0 ≡ Some r
first_left zero n rs seen r p there = first_seen n rs seen r p there
first_left (suc k) n [] seen r p there = absurd (omega (arith, slice_get_within (take n []) (suc k) r there, length-take {A = Reply} n []))
first_left (suc k) zero (x ∷ rs) seen r p there = absurd (none-some r there)
first_left (suc k) (suc n) (x ∷ rs) seen r p there = ap (λ xs. slice_get (drop (suc k) xs) 0) (sym p.1) ∙ first_left k n rs (rs ++ p.0) r (p.0, refl) there

pub some_there : (rs : List Reply) → rs ≢ [] → 0 < length rs
some_there [] some = absurd (some refl)
some_there (r ∷ rs) some = omega arith

-- taking ends where as many were taken as may be, or none is seen
pub ends_none : (quantum : ℕ) (v : View) (l n : ℕ) (seen : List Reply) → n ≤ quantum → (n < quantum → seen ≡ []) → MayEnd quantum v l n seen
ends_none quantum v l n seen few none = by_place (cases_lt n quantum)
  where
    by_place : (n < quantum) ⊎ (quantum ≤ n) → MayEnd quantum v l n seen
    by_place (inl fewer) = inr (inl (none fewer))
    by_place (inr all) = inl (omega (arith, few, all))

-- taking ends where fewer were taken than were there, or where none is seen, and else all that was there went
pub ends_by : {E : Type 0} → (k n : ℕ) (sees : Bool) → IsTrue (nat_lt k n || not sees) → (k < n → E) → (sees ≡ false → E) → E
ends_by {E = E} k n sees over fewer none = by_place (cases_lt k n)
  where
    by_sees : (b : Bool) → sees ≡ b → nat_lt k n ≡ false → E
    by_sees false is past = none is
    by_sees true is past = absurd (false≢true (sym (ap (λ b. b || not true) past) ∙ subst (λ b. (nat_lt k n || not b) ≡ true) is over))

    by_place : (k < n) ⊎ (n ≤ k) → E
    by_place (inl below) = fewer below
    by_place (inr past) = by_sees sees refl (le-ltb k n past)

pub all_went : (k n : ℕ) (sees : Bool) → IsFalse (nat_lt k n || not sees) → n ≤ k
all_went k n sees on = by_place (cases_lt k n)
  where
    by_place : (k < n) ⊎ (n ≤ k) → n ≤ k
    by_place (inl below) = absurd (false≢true (sym on ∙ ap (λ b. b || not sees) (lt-ltb k n below)))
    by_place (inr past) = past

-- the same replies left the lane's end, and more may have been seen of it
pub run_left :
    (pool : Credits) (core now : View) (lanes : List Near) (v : Account) (p n held came i k : ℕ) (near later : Near) (replies : List Reply) (log longer : List Step)
    → i < length lanes → near ≡ get_or lanes i near → near_id later ≡ near_id near → offered later ≡ offered near → taken later ≡ taken near ++ replies
    → Takes (only i k) k (sight pool core lanes v p n) log (with_core (with_taken (sight pool core lanes v p n) i replies) now held came) longer
    → Takes (only i k) k (sight pool core lanes v p n) log (sight pool now (set lanes i later) v held came) longer
run_left pool core now lanes v p n held came i k near later replies log longer within is id offers takings h =
    let s : Sight = sight pool core lanes v p n in
    let after : List Near = set lanes i later in
    let t : Sight = with_core (with_taken s i replies) now held came in
    let With : List LaneId → List (List Delivery) → List (List Reply) → Type 0 =
    λ ids os ts.
    Takes (only i k) k s log (record { site = record { pool = pool; lanes = ids }; core = now; offered = os; taken = ts; seen = map seen_replies after; account = v; pocket = held; accepted_new = came }) longer in
    let lists : map taken after ≡ set (map taken lanes) i (get_or (map taken lanes) i [] ++ replies) =
    map-set taken lanes i later ∙ ap (set (map taken lanes) i) (takings ∙ ap (λ xs. xs ++ replies) (sym (get_or-map taken lanes i near [] within ∙ ap taken (sym is)))) in
    subst (λ ids. With ids (map offered after) (map taken after)) (sym (same_lists near_id lanes i near later is id))
    (subst (λ os. With (map near_id lanes) os (map taken after)) (sym (same_lists offered lanes i near later is offers))
    (subst (λ ts. With (map near_id lanes) (map offered lanes) ts) (sym lists)
    (lane_ends i k k s t _ log longer longer (omega arith) h (takes_seen (only i 0) t (map seen_replies after) longer))))

-- ---- numbers

-- the room and the count of the lanes up to a later one
pub room_on : (q i j start free before now : ℕ) → i ≤ j → start + now ≤ free + before + 2 * q * i → start + now ≤ free + before + 2 * q * j
room_on q i j start free before now within had =
    let more : 2 * q * i ≤ 2 * q * j = mul-le-mul_left (2 * q) within in
    omega (arith, more, had)

pub count_on : (q i j n : ℕ) → i ≤ j → n ≤ q * i → n ≤ q * j
count_on q i j n within few =
    let more : q * i ≤ q * j = mul-le-mul_left q within in
    omega (arith, more, few)

-- the room of one lane more, and the replies of it
pub lane_room : (q same i start free next before mid later : ℕ) → same ≡ q → start + mid ≤ free + before + 2 * q * i → free + later ≤ next + mid + 2 * same → start + later ≤ next + before + 2 * q * (i + 1)
lane_room q same i start free next before mid later is h k = omega (arith, is, h, k)

pub lane_count : (q same i n k : ℕ) → same ≡ q → n ≤ q * i → k ≤ same → n + k ≤ q * (i + 1)
lane_count q same i n k is h m = omega (arith, is, h, m)

-- of a NEW that was taken, what became of it says whether it was accepted
pub entered_new : (op : Op) (t : Took) → is_new_op op ≡ true → entered_by op t ≡ entered_as t
entered_new ops.New t new = refl
entered_new ops.Forward t new = absurd (false≢true new)
entered_new ops.Release t new = absurd (false≢true new)
entered_new ops.ForwardMore t new = absurd (false≢true new)
