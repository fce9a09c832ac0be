-- Of two NEWs of a port, each the only event of its value, the one that was sent first has the lower number in their queue.
use Rattle.std.specs.Prelude.{ℕ, ◌≡◌, ◌≢◌, ◌+◌, ◌-◌, ◌<◌, ◌≤◌, Bool, true, false, not, cond, ◌&&◌, List, [], ◌∷◌, ◌++◌, ◌==◌, length, map, take, drop, filter_map, All, count_by, Option, Some, None, slice_get}
use Rattle.std.specs.List.{cons_option}
use Rattle.std.specs.Option.{option_map}
use Rattle.std.proofs.Common.{zero, suc, refl, sym, ap, ◌∙◌, subst, arith, ⊎_elim, length-append}
use Rattle.std.proofs.lemmas.Bool.{and_from, and_parts, cases_eq, cases_lt, cond-true, false≢true}
use Rattle.std.proofs.lemmas.List.{take-append-drop, take-map, take-take}
use Rattle.std.proofs.lemmas.List.Elements.{filter_map-append}
use Rattle.std.proofs.lemmas.Option.{same_Some, slice_get-map, slice_get_within}
use Rattle.std.proofs.Math.Seq.{take-append_seam}
use Rattle.evt_types.specs.Operation.{is_new_op, is_new_reply, is_release_op, is_release_reply}
use Rattle.evt_types.specs.Plan.{Plan, is_flows}
use Rattle.evt_types.specs.declared.event.Event.{Event}
use Rattle.evt_types.specs.declared.event.Op.{Op}
use Rattle.evt_types.specs.declared.event.Op.TheVariants as ops
use Rattle.evt_types.specs.declared.event.Reply.{Reply}
use Rattle.evt_types.specs.declared.step.Step.{Step}
use Rattle.lists.proofs.Lists.{All-front, eqb_is, eqb_other, eqb_same, slice_get-append_left}
use Rattle.lists.proofs.Parts.{count_by-front}
use Rattle.lists.proofs.Sums.{sum_of_map}
use Rattle.transcripts.proofs.Replies.{replies_in-append}
use Rattle.transcripts.specs.Lawful.{HasOrigin, IsFormed, IsPrefix}
use Rattle.transcripts.specs.Replies.{Said, replies_in, said, said_by}
use Rattle.transcripts.specs.Transcript.{accepted, accepted_in, event_at}
use Rattle.world_laws.proofs.Consistent.{consistent_end, consistent_none}
use Rattle.world_laws.proofs.Worlds.{prefix_trans}
use Rattle.world_laws.specs.World.{World, IsConsistent, Move, empty}
use Rattle.history_judge.proofs.Accepted.{accepted_later, accepts_few, has_origin, is_said, is_said_new, new_counted, queue_few, says, says_new}
use Rattle.history_judge.proofs.ByKeys.{count_agree, counts_join, one_counted, some_is}
use Rattle.history_judge.proofs.Fits.{count_more, submitted_at}
use Rattle.history_judge.proofs.Held.{event_stays}
use Rattle.history_judge.proofs.Lefts.{same_self}
use Rattle.history_judge.proofs.Unsent.{brings, said_brings, same_value, says_few, sent_by_port, sent_few, sent_here}
use Rattle.history_judge.specs.Breaches.{IsOnlyOne}
use Rattle.history_judge.specs.Histories.{Explains, IsSameBut, WasDone, WasSent, is_sent, sends, sent_before}
use Rattle.history_judge.specs.Values.{is_same_but, sends_value, times_sent}
use Rattle.history_judge.specs.declared.seen.Seen.{Seen}

-- ---- events of one value

pub same_fields : (e f : Event) → is_same_but e f ≡ true → IsSameBut e f
same_fields e f is =
    let a = and_parts (e.flow == f.flow) _ is in
    let b = and_parts (e.sub_type == f.sub_type) _ a.1 in
    let c = and_parts (e.event_type == f.event_type) _ b.1 in
    let d = and_parts (e.queue == f.queue) _ c.1 in
    let g = and_parts (e.priority == f.priority) _ d.1 in
    record {
      flow = eqb_is e.flow f.flow a.0;
      sub_type = eqb_is e.sub_type f.sub_type b.0;
      event_type = eqb_is e.event_type f.event_type c.0;
      queue = eqb_is e.queue f.queue d.0;
      priority = eqb_is e.priority f.priority g.0;
      payload = eqb_is e.payload f.payload g.1;
    }

-- a NEW brings its event
pub new_brings : (r : Reply) (e : Event) → is_new_reply r ≡ true → is_same_but e r.event ≡ true → brings e r ≡ true
new_brings r e new same = and_from (not (is_release_reply r)) (is_same_but e r.event) (by_op r.event.op new) same
  where
    by_op : (o : Op) → is_new_op o ≡ true → not (is_release_op o) ≡ true
    by_op ops.New is = refl
    by_op ops.Forward is = refl
    by_op ops.Release is = absurd (false≢true is)
    by_op ops.ForwardMore is = refl

new_said : (r : Reply) → is_new_reply r ≡ true → is_said_new (is_same_but r.event) (said r) ≡ true
new_said r new = by_op r.event.op new
  where
    by_op : (o : Op) → is_new_op o ≡ true → is_said_new (is_same_but r.event) (said_by o r.event) ≡ true
    by_op ops.New is = same_self r.event
    by_op ops.Forward is = absurd (false≢true is)
    by_op ops.Release is = absurd (false≢true is)
    by_op ops.ForwardMore is = absurd (false≢true is)

-- ---- counts of the first items

pub count_first : {X : Type 0} (f : X → Bool) (xs : List X) (i j : ℕ) → i ≤ j → count_by f (take i xs) ≤ count_by f (take j xs)
count_first f xs i j le =
    count_by-front f (take i xs) (drop i (take j xs)) (take j xs) (ap (λ ys. ys ++ drop i (take j xs)) (sym (take-take i j xs le)) ∙ take-append-drop i (take j xs))

pub count_part : {X : Type 0} (f : X → Bool) (xs : List X) (i : ℕ) → count_by f (take i xs) ≤ count_by f xs
count_part f xs i = count_by-front f (take i xs) (drop i xs) xs (take-append-drop i xs)

-- two that pass are counted
pub two_counted : {X : Type 0} (f : X → Bool) (xs : List X) (i j : ℕ) (x y : X) → i < j → slice_get xs i ≡ Some x → slice_get xs j ≡ Some y → f x ≡ true → f y ≡ true → 2 ≤ count_by f xs
two_counted f xs i j x y lt at there one other =
    omega (
      arith,
      count_more f xs i x at,
      cond-true {A = ℕ} (f x) 1 0 one,
      count_first f xs (i + 1) j (omega (arith, lt)),
      count_more f xs j y there,
      cond-true {A = ℕ} (f y) 1 0 other,
      count_part f xs (j + 1),
    )

-- before the only one that passes none does
none_before : {X : Type 0} (f : X → Bool) (xs : List X) (j : ℕ) (y : X) → count_by f xs ≡ 1 → slice_get xs j ≡ Some y → f y ≡ true → count_by f (take j xs) ≡ 0
none_before f xs j y once there is = omega (arith, once, count_more f xs j y there, cond-true {A = ℕ} (f y) 1 0 is, count_part f xs (j + 1))

one_key : (a b c : Bool) → (a ≡ true → b ≡ false) → cond {A = ℕ} (a && c) 1 0 + cond {A = ℕ} (b && c) 1 0 ≤ cond {A = ℕ} c 1 0
one_key true true c apart = absurd (false≢true (sym (apart refl)))
one_key true false c apart = omega arith
one_key false true c apart = omega arith
one_key false false c apart = omega arith

-- what was sent once, by one port, no other sent
pub sent_by_one : (hs : List Seen) (e : Event) (l m : ℕ) → times_sent hs e ≡ 1 → 1 ≤ count_by (sent_here e l) hs → m ≢ l → count_by (sent_here e m) hs ≡ 0
sent_by_one hs e l m once here differs =
    omega (
      arith,
      once,
      here,
      counts_join (sent_here e m) (sent_here e l) (λ (s : Seen). sends_value e s.deed) hs
          (λ (s : Seen). one_key (s.port == m) (s.port == l) (sends_value e s.deed) (λ is. eqb_other s.port l (λ same. differs (sym (eqb_is s.port m is) ∙ same)))),
    )

-- ---- a list that is cut

-- what stands behind the front of a list
slice_get_behind : {X : Type 0} (xs ys : List X) (j k : ℕ) → j ≡ length xs + k → slice_get (xs ++ ys) j ≡ slice_get ys k
slice_get_behind [] ys j k is = ap (slice_get ys) (omega (arith, is))
slice_get_behind (x ∷ xs) ys zero k is = absurd (omega (arith, is))
slice_get_behind (x ∷ xs) ys (suc j) k is = slice_get_behind xs ys j k (omega (arith, is))

record Cut {X Y : Type 0} (h : X → Option Y) (xs : List X) (n : ℕ) : Type 0 where
  front : List X
  back : List X
  whole : front ++ back ≡ xs
  size : length (filter_map h front) ≡ n

cut : {X Y : Type 0} (h : X → Option Y) (xs : List X) (n : ℕ) → n ≤ length (filter_map h xs) → Cut h xs n
cut h xs zero within = record { front = []; back = xs; whole = refl; size = refl }
cut h [] (suc n) within = absurd (omega (arith, within))
cut {X} {Y} h (x ∷ xs) (suc n) within = by_case (h x) refl (cut h xs (suc n)) (cut h xs n)
  where
    by_case : (o : Option Y) → h x ≡ o → (suc n ≤ length (filter_map h xs) → Cut h xs (suc n)) → (n ≤ length (filter_map h xs) → Cut h xs n) → Cut h (x ∷ xs) (suc n)
    by_case None is same less =
        let c = same (subst (λ o. suc n ≤ length (cons_option o (filter_map h xs))) is within) in
        record { front = x ∷ c.front; back = c.back; whole = ap (λ ys. x ∷ ys) c.whole; size = ap (λ o. length (cons_option o (filter_map h c.front))) is ∙ c.size }
    by_case (Some y) is same less =
        let few : suc n ≤ suc (length (filter_map h xs)) = subst (λ o. suc n ≤ length (cons_option o (filter_map h xs))) is within in
        let c = less (omega (arith, few)) in
        record { front = x ∷ c.front; back = c.back; whole = ap (λ ys. x ∷ ys) c.whole; size = ap (λ o. length (cons_option o (filter_map h c.front))) is ∙ ap suc c.size }

-- a transcript, up to the step with which the queue has accepted so many
record AcceptedCut (T : List Step) (q n : ℕ) : Type 0 where
  front : List Step
  back : List Step
  whole : front ++ back ≡ T
  size : length (accepted front q) ≡ n

accepted_cut : (T : List Step) (q n : ℕ) → n ≤ length (accepted T q) → AcceptedCut T q n
unfolding accepted
accepted_cut T q n within = let c = cut (accepted_in q) T n within in record { front = c.front; back = c.back; whole = c.whole; size = c.size }

-- an event with a later number is accepted behind it
accepted_behind : (P R T : List Step) (q n : ℕ) (e : Event) → P ++ R ≡ T → event_at T q n ≡ Some e → length (accepted P q) ≤ n → event_at R q (n - length (accepted P q)) ≡ Some e
unfolding accepted
accepted_behind P R T q n e whole at past =
    sym (slice_get_behind (filter_map (accepted_in q) P) (filter_map (accepted_in q) R) n (n - length (filter_map (accepted_in q) P)) (omega (arith, past)))
    ∙ (ap (λ es. slice_get es n) (sym (filter_map-append (accepted_in q) P R)) ∙ (ap (λ U. event_at U q n) whole ∙ at))

-- the front is so much of the whole
prefix_take : {X : Type 0} (xs ys : List X) → IsPrefix xs ys → take (length xs) ys ≡ xs
prefix_take xs ys front = ap (take (length xs)) (sym front.1) ∙ take-append_seam xs front.0

-- ---- two NEWs of one port

module _ (p : Plan) (hs : List Seen) (moves : List Move) (v : World) (clock : ℕ → ℕ) (x : Explains p hs moves v clock) (i j : ℕ) (one : IsOnlyOne is_new_reply hs i) (other : IsOnlyOne is_new_reply hs j)
    (plain : is_flows p.serving ≡ false) (sender : one.sender.port ≡ other.sender.port) (later : one.place < other.place) where
  abbrev pub l : ℕ
  l = one.sender.port

  abbrev pub d : Event
  d = one.reply.event

  abbrev pub e : Event
  e = other.reply.event

  world : IsConsistent p v
  world = consistent_end p empty v moves x.run (consistent_none p)

  was_one : WasSent hs moves clock one.place one.sender one.reply
  was_one = subst (WasDone hs moves v clock one.place one.sender) one.sent (x.each one.place one.sender one.enqueued)

  one_sends : sends_value d one.sender.deed ≡ true
  one_sends = ap (sends_value d) one.sent ∙ new_brings one.reply d one.kind (same_self d)

  other_sends : sends_value e other.sender.deed ≡ true
  other_sends = ap (sends_value e) other.sent ∙ new_brings other.reply e other.kind (same_self e)

  -- they aren't of one value
  differ : (f : Event) → is_same_but d f ≡ true → is_same_but e f ≡ true → ⊥
  differ f first second =
      omega (
        arith,
        one.once,
        two_counted (λ (s : Seen). sends_value d s.deed) hs one.place other.place one.sender other.sender later one.enqueued other.enqueued one_sends
            (ap (sends_value d) other.sent ∙ new_brings other.reply d other.kind (same_value d e f (same_fields e f second) ∙ first)),
      )

  -- the port sent the first before the second
  earlier : sent_before hs l one.place < sent_before hs l other.place
  earlier =
      omega (
        arith,
        count_more (is_sent l) hs one.place one.sender one.enqueued,
        cond-true {A = ℕ} (is_sent l one.sender) 1 0 (and_from (l == l) (sends one.sender.deed) (eqb_same l) (ap sends one.sent)),
        count_first (is_sent l) hs (one.place + 1) other.place (omega (arith, later)),
      )

  -- no other port sent the second
  no_other : (m : ℕ) → m ≢ l → count_by (sent_here e m) hs ≡ 0
  no_other m differs =
      sent_by_one hs e l m other.once
      (one_counted (sent_here e l) hs other.place
      (ap (some_is (sent_here e l)) other.enqueued
      ∙ and_from (other.sender.port == l) (sends_value e other.sender.deed) (ap (λ n. other.sender.port == n) sender ∙ eqb_same other.sender.port) other_sends))
      differs

  -- ---- a front of the transcript that has the second, and not the first

  module _ (P R : List Step) (whole : P ++ R ≡ v.log) where
    origin : HasOrigin P
    origin =
        subst HasOrigin (ap (take (length P)) (sym whole) ∙ take-append_seam P R)
        (world.lawful.origin (length P) (omega (arith, ap length whole, length-append P R)))

    formed : All (IsFormed p) P
    formed = All-front (IsFormed p) P R (subst (All (IsFormed p)) (sym whole) world.lawful.formed)

    front : (m : ℕ) → IsPrefix (replies_in P m) (replies_in v.log m)
    front m = (replies_in R m, sym (replies_in-append P R m) ∙ ap (λ U. replies_in U m) whole)

    submitted_first : (m : ℕ) → IsPrefix (replies_in P m) (map said (v.submitted m))
    submitted_first m = prefix_trans (replies_in P m) (replies_in v.log m) (map said (v.submitted m)) (front m) (world.taken m)

    -- what was said is the front of what was submitted
    said_counted : (f : Event) (m : ℕ) → count_by (is_said (is_same_but f)) (replies_in P m) ≡ count_by (brings f) (take (length (replies_in P m)) (v.submitted m))
    said_counted f m =
        omega (
          arith,
          ap (count_by (is_said (is_same_but f))) (sym (prefix_take (replies_in P m) (map said (v.submitted m)) (submitted_first m)) ∙ take-map said (length (replies_in P m)) (v.submitted m)),
          sum_of_map (λ (y : Said). cond {A = ℕ} (is_said (is_same_but f) y) 1 0) said (take (length (replies_in P m)) (v.submitted m)),
          count_agree (λ r. is_said (is_same_but f) (said r)) (brings f) (take (length (replies_in P m)) (v.submitted m)) (said_brings f),
        )

    -- if the port said no more than it had submitted before the second, nobody said the second
    by_port : length (replies_in P l) ≤ sent_before hs l other.place → (m : ℕ) → m < length p.ports
        → count_by (is_said (is_same_but e)) (replies_in P m) ≤ count_by (sent_here e m) (take other.place hs)
    by_port few m port = ⊎_elim here away (cases_eq m l)
      where
        here : m ≡ l → count_by (is_said (is_same_but e)) (replies_in P m) ≤ count_by (sent_here e m) (take other.place hs)
        here same =
            subst (λ k. count_by (is_said (is_same_but e)) (replies_in P k) ≤ count_by (sent_here e k) (take other.place hs)) (sym same)
            (omega (
              arith,
              said_counted e l,
              count_first (brings e) (v.submitted l) (length (replies_in P l)) (sent_before hs l other.place) few,
              sent_few p hs moves v clock x e l other.place (omega (arith, slice_get_within hs other.place other.sender other.enqueued)),
            ))

        away : m ≢ l → count_by (is_said (is_same_but e)) (replies_in P m) ≤ count_by (sent_here e m) (take other.place hs)
        away differs =
            omega (
              arith,
              count_by-front (is_said (is_same_but e)) (replies_in P m) (front m).0 (replies_in v.log m) (front m).1,
              sent_by_port p hs moves v clock x e m port,
              no_other m differs,
            )

    -- so where it was accepted the port had said it, and the first before it
    said_second : (q n : ℕ) (f : Event) → event_at P q n ≡ Some f → is_same_but e f ≡ true → sent_before hs l other.place < length (replies_in P l)
    said_second q n f at is = ⊎_elim (λ lt. lt) (λ few. absurd (unsaid few)) (cases_lt (sent_before hs l other.place) (length (replies_in P l)))
      where
        unsaid : length (replies_in P l) ≤ sent_before hs l other.place → ⊥
        unsaid few =
            omega (
              arith,
              one_counted (is_same_but e) (accepted P q) n (ap (some_is (is_same_but e)) at ∙ is),
              queue_few (is_same_but e) P q,
              accepts_few (is_same_but e) P origin,
              says_few p P (take other.place hs) e (λ c s. sends_value e c) formed plain (by_port few),
              none_before (λ (s : Seen). sends_value e s.deed) hs other.place other.sender other.once other.enqueued other_sends,
            )

    said_first : sent_before hs l other.place < length (replies_in P l) → 1 ≤ count_by (says_new (is_same_but d)) P
    said_first more = omega (arith, new_counted (is_same_but d) P l, one_counted (is_said_new (is_same_but d)) (replies_in P l) (sent_before hs l one.place) there)
      where
        is : slice_get (replies_in P l) (sent_before hs l one.place) ≡ Some (said one.reply)
        is =
            sym (slice_get-append_left (replies_in P l) (submitted_first l).0 (sent_before hs l one.place) (omega (arith, earlier, more)))
            ∙ (ap (λ xs. slice_get xs (sent_before hs l one.place)) (submitted_first l).1
            ∙ (slice_get-map said (v.submitted l) (sent_before hs l one.place)
            ∙ ap (option_map said) (submitted_at p hs moves v clock one.place one.sender one.reply x was_one)))

        there : some_is (is_said_new (is_same_but d)) (slice_get (replies_in P l) (sent_before hs l one.place)) ≡ true
        there = ap (some_is (is_said_new (is_same_but d))) is ∙ new_said one.reply one.kind

    -- the first can't be accepted behind it
    none_behind : (q n : ℕ) (f : Event) → event_at R q n ≡ Some f → is_same_but d f ≡ true → 1 ≤ count_by (says_new (is_same_but d)) P → ⊥
    none_behind q n f at is new =
        omega (
          arith,
          one.once,
          new,
          one_counted (is_same_but d) (accepted R q) n (ap (some_is (is_same_but d)) at ∙ is),
          queue_few (is_same_but d) R q,
          accepted_later (is_same_but d) P R (subst HasOrigin (sym whole) (has_origin p v.log world.lawful)),
          ap (count_by (says (is_same_but d))) whole,
          says_few p v.log hs d (λ c s. sends_value d c) world.lawful.formed plain (sent_by_port p hs moves v clock x d),
        )

  pub numbers_rise : (q n m : ℕ) (f g : Event) → event_at v.log q n ≡ Some f → is_same_but d f ≡ true → event_at v.log q m ≡ Some g → is_same_but e g ≡ true → n < m
  numbers_rise q n m f g at is there too = ⊎_elim (λ lt. lt) (λ ge. absurd (⊎_elim behind (λ le. together (omega (arith, ge, le))) (cases_lt m n))) (cases_lt n m)
    where
      behind : m < n → ⊥
      behind lt =
          let c = accepted_cut v.log q (m + 1) (omega (arith, slice_get_within (accepted v.log q) m g there)) in
          let here : event_at c.front q m ≡ Some g = event_stays c.front v.log q m g (c.back, c.whole) (omega (arith, c.size)) there in
          none_behind c.front c.back c.whole q (n - length (accepted c.front q)) f
          (accepted_behind c.front c.back v.log q n f c.whole at (omega (arith, c.size, lt))) is
          (said_first c.front c.back c.whole (said_second c.front c.back c.whole q m g here too))

      together : n ≡ m → ⊥
      together same = differ f is (subst (λ h. is_same_but e h ≡ true) (same_Some g f (sym there ∙ (ap (slice_get (accepted v.log q)) (sym same) ∙ at))) too)
