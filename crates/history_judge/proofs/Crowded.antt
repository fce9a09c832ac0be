-- What all ports hold at the end of a call: more than may be inside fits no run; and how the judge finds it.
use Rattle.std.specs.Prelude.{ℕ, ◌≡◌, ◌≢◌, ◌+◌, ◌-◌, ◌<◌, ◌≤◌, true, false, cond, Bool, ◌&&◌, List, ◌==◌, length, take, nat_le, nat_lt, count_by, sum_by, Some, slice_get}
use Rattle.std.specs.List.{range_with_len}
use Rattle.std.proofs.Common.{zero, suc, refl, sym, ap, ◌∙◌, add-one, arith, subst, ⊎_elim, get_or, replicate, set}
use Rattle.std.proofs.lemmas.Bool.{and_from, and_parts, cases_Bool, cases_eq, cases_lt, false≢true, le-leb, leb-true, lt-ltb, ltb-true}
use Rattle.std.proofs.lemmas.List.{get_or-replicate, get_or-set_other, get_or-set_same, length-replicate, length-set, take_all}
use Rattle.std.proofs.lemmas.List.Sums.{sum_by_push}
use Rattle.std.proofs.lemmas.Option.{same_Some, slice_get-get_or, slice_get_within}
use Rattle.std.specs.declared.alloc.Global.{Global}
use Rattle.std.specs.declared.vec.Vec.{Vec}
use Rattle.evt_types.specs.Plan.{Plan, bound_of, lanes_of}
use Rattle.evt_types.specs.declared.event.Event.{Event}
use Rattle.evt_types.specs.declared.step.Step.{Step}
use Rattle.lists.proofs.Lists.{and-true, eqb_is, slice_get-some}
use Rattle.lists.proofs.Ranges.{range_more}
use Rattle.transcripts.proofs.Pushes.{length-unanswered}
use Rattle.transcripts.specs.Lawful.{HasRoom}
use Rattle.transcripts.specs.Transcript.{inside, unanswered}
use Rattle.world_laws.proofs.Consistent.{consistent_none, consistent_run}
use Rattle.world_laws.proofs.Said.{answers_few as taken_few}
use Rattle.world_laws.specs.World.{World, IsConsistent, Move, after_moves, empty}
use Rattle.history_judge.proofs.AnswerTimes.{row_is}
use Rattle.history_judge.proofs.ByKeys.{count_le}
use Rattle.history_judge.proofs.Crossing.{in_order}
use Rattle.history_judge.proofs.Fits.{answers_few, count_more, count_no, count_yes}
use Rattle.history_judge.proofs.Held.{got_by}
use Rattle.history_judge.proofs.Holdings.{port_there}
use Rattle.history_judge.proofs.InOrder.{none_more}
use Rattle.history_judge.proofs.Moments.{made_by}
use Rattle.history_judge.proofs.Numbers.{count_part}
use Rattle.history_judge.proofs.RisingTimes.{begun_are_past, not_past, times_rise, to_come}
use Rattle.history_judge.proofs.Watched.{counts_on}
use Rattle.history_judge.specs.Breaches.{IsCrowded}
use Rattle.history_judge.specs.Crowds.{AllRise, AreCountedUp, AreKnownPast, AreRising, IsCrowdedBy, exceeds, held_before, held_by, past}
use Rattle.history_judge.specs.Entries.{IsUnsorted}
use Rattle.history_judge.specs.Histories.{Explains, IsImpossible, WasDone, answers_begun, gets, got_before, held_surely, is_answer_begun, is_answered, is_got, is_got_ended}
use Rattle.history_judge.specs.Holds.{ends_after, row, rows}
use Rattle.history_judge.specs.Watching.{IsFit, counted}
use Rattle.history_judge.specs.declared.seen.Deed.{Deed}
use Rattle.history_judge.specs.declared.seen.Deed.TheVariants.{Sent, Got}
use Rattle.history_judge.specs.declared.seen.Seen.{Seen}

-- ---- sums over the ports

pub sum_last : (f : ℕ → ℕ) (n : ℕ) → sum_by f (range_with_len 0 (n + 1)) ≡ sum_by f (range_with_len 0 n) + f n
sum_last f n = ap (sum_by f) (range_more n) ∙ sum_by_push f (range_with_len 0 n) n

sum_suc : (f : ℕ → ℕ) (n : ℕ) → sum_by f (range_with_len 0 (suc n)) ≡ sum_by f (range_with_len 0 n) + f n
sum_suc f n = ap (λ k. sum_by f (range_with_len 0 k)) (sym (add-one n)) ∙ sum_last f n

-- no term is more
sum_fewer : (f g : ℕ → ℕ) (n : ℕ) → ((k : ℕ) → k < n → f k ≤ g k) → sum_by f (range_with_len 0 n) ≤ sum_by g (range_with_len 0 n)
sum_fewer f g zero fewer = omega arith
sum_fewer f g (suc n) fewer =
    omega (arith, sum_suc f n, sum_suc g n, sum_fewer f g n (λ k lt. fewer k (omega (arith, lt))), fewer n (omega arith))

-- the first terms alone
pub sum_front : (f : ℕ → ℕ) (n m : ℕ) → n ≤ m → sum_by f (range_with_len 0 n) ≤ sum_by f (range_with_len 0 m)
sum_front f n zero le = subst (λ k. sum_by f (range_with_len 0 k) ≤ 0) none (omega arith)
  where
    none : 0 ≡ n
    none = omega (arith, le)
sum_front f n (suc m) le = ⊎_elim (λ past. all (omega (arith, le, past))) (λ less. omega (arith, sum_front f n m less, sum_suc f m)) (cases_lt m n)
  where
    all : n ≡ suc m → sum_by f (range_with_len 0 n) ≤ sum_by f (range_with_len 0 (suc m))
    all same = omega (arith, ap (λ k. sum_by f (range_with_len 0 k)) same)

-- ---- it fits no run

-- what a port got by t is among what it received by then
got_few : (p : Plan) (hs : List Seen) (moves : List Move) (v : World) (clock : ℕ → ℕ) (l t : ℕ) → Explains p hs moves v clock → (n : ℕ) → n ≤ length hs
    → count_by (is_got_ended l t) (take n hs) ≤ (after_moves moves (made_by clock t (length moves))).received l
got_few p hs moves v clock l t x zero within = omega arith
got_few p hs moves v clock l t x (suc n) within =
    let entry = slice_get-some hs n (omega (arith, within)) in
    subst (λ m. count_by (is_got_ended l t) (take m hs) ≤ now.received l) (add-one n) (⊎_elim (yes entry.0 entry.1) (no entry.0 entry.1 (got_few p hs moves v clock l t x n (omega (arith, within)))) (cases_Bool (is_got_ended l t entry.0)))
  where
    now : World
    now = after_moves moves (made_by clock t (length moves))

    no : (s : Seen) → slice_get hs n ≡ Some s → count_by (is_got_ended l t) (take n hs) ≤ now.received l → is_got_ended l t s ≡ false → count_by (is_got_ended l t) (take (n + 1) hs) ≤ now.received l
    no s at before is = omega (arith, count_no (is_got_ended l t) hs n s at is, before)

    yes : (s : Seen) → slice_get hs n ≡ Some s → is_got_ended l t s ≡ true → count_by (is_got_ended l t) (take (n + 1) hs) ≤ now.received l
    yes s at is = by_deed s.deed refl
      where
        parts : (is_got l s ≡ true) × (nat_le s.ended t ≡ true)
        parts = and_parts (is_got l s) (nat_le s.ended t) is

        got : (s.port == l ≡ true) × (gets s.deed ≡ true)
        got = and_parts (s.port == l) (gets s.deed) parts.0

        by_deed : (d : Deed) → s.deed ≡ d → count_by (is_got_ended l t) (take (n + 1) hs) ≤ now.received l
        by_deed (Sent r) deed = absurd (false≢true (ap gets (sym deed) ∙ got.1))
        by_deed (Got e) deed =
            omega (
              arith,
              subst (λ m. got_before hs m n < now.received m) (eqb_is s.port l got.0)
                  (got_by p hs moves v clock n t s e x (subst (WasDone hs moves v clock n s) deed (x.each n s at)) (leb-true s.ended t parts.1)),
              count_yes (is_got l) hs n s at parts.0,
              count_le (is_got_ended l t) (is_got l) (take (n + 1) hs) (λ u both. (and_parts (is_got l u) (nat_le u.ended t) both).0),
            )

-- the ports are lanes, and what they haven't answered is inside
ports_inside : (p : Plan) (T : List Step) → sum_by (λ l. length (unanswered T l)) (range_with_len 0 (length p.ports)) ≤ inside p T
unfolding inside lanes_of
ports_inside p T = omega (arith, sum_front (λ l. length (unanswered T l)) (length p.ports) (lanes_of p) (omega arith))

pub crowded_fits_none : (p : Plan) (hs : List Seen) (i : ℕ) → IsCrowded p hs i → IsImpossible p hs
crowded_fits_none p hs i b moves v clock x =
    omega (
      arith,
      b.more,
      sum_fewer (held_surely hs t) (λ l. length (unanswered now.log l)) (length p.ports) held,
      ports_inside p now.log,
      room.inside,
    )
  where
    t : ℕ
    t = b.seen.ended

    now : World
    now = after_moves moves (made_by clock t (length moves))

    consistent : IsConsistent p now
    consistent = consistent_run p empty v moves x.run (consistent_none p) (made_by clock t (length moves))

    room : HasRoom p now.log
    room = subst (HasRoom p) (take_all (length now.log) now.log (omega arith)) (consistent.lawful.room (length now.log) (omega arith))

    held : (l : ℕ) → l < length p.ports → held_surely hs t l ≤ length (unanswered now.log l)
    held l port =
        omega (
          arith,
          got_few p hs moves v clock l t x (length hs) (omega arith),
          ap (count_by (is_got_ended l t)) (take_all (length hs) hs (omega arith)),
          consistent.received l,
          length-unanswered now.log l,
          taken_few now.log l (now.submitted l) (consistent.taken l),
          answers_few p hs moves v clock l t x port,
        )

-- ---- how it is found

-- where so many entries ended by t, what a port got by them it got by t
all_ended : (hs : List Seen) (l t n : ℕ) → n ≤ length hs → ((j : ℕ) (s : Seen) → j < n → slice_get hs j ≡ Some s → s.ended ≤ t) → got_before hs l n ≤ count_by (is_got_ended l t) (take n hs)
all_ended hs l t zero within ended = omega arith
all_ended hs l t (suc n) within ended =
    let entry = slice_get-some hs n (omega (arith, within)) in
    let same : is_got_ended l t entry.0 ≡ is_got l entry.0 = ap (λ b. is_got l entry.0 && b) (le-leb (entry.0).ended t (ended n entry.0 (omega arith) entry.1)) ∙ and-true (is_got l entry.0) in
    subst (λ m. got_before hs l m ≤ count_by (is_got_ended l t) (take m hs)) (add-one n)
    (omega (
      arith,
      all_ended hs l t n (omega (arith, within)) (λ j s lt. ended j s (omega (arith, lt))),
      count_more (is_got l) hs n entry.0 entry.1,
      count_more (is_got_ended l t) hs n entry.0 entry.1,
      ap (λ b. cond {A = ℕ} b 1 0) same,
    ))

pub crowded_is : (p : Plan) (hs : List Seen) (i : ℕ) → ((j : ℕ) → ¬ IsUnsorted hs j) → IsCrowdedBy p hs i → IsCrowded p hs i
crowded_is p hs i sorted b =
    record {
      seen = b.seen;
      entry = b.entry;
      got = b.got;
      more = omega (arith, b.more, sum_fewer (held_before hs (i + 1) (b.seen).ended) (held_surely hs (b.seen).ended) (length p.ports) fewer);
    }
  where
    fewer : (l : ℕ) → l < length p.ports → held_before hs (i + 1) (b.seen).ended l ≤ held_surely hs (b.seen).ended l
    fewer l port =
        omega (
          arith,
          all_ended hs l (b.seen).ended (i + 1) (omega (arith, slice_get_within hs i b.seen b.entry))
              (λ j s lt there. in_order hs j i s b.seen sorted there b.entry (omega (arith, lt))),
          count_part (is_got_ended l (b.seen).ended) hs (i + 1),
        )

none_got : (a b c : Bool) → (b && c) ≡ false → ((a && b) && c) ≡ false
none_got true b c is = is
none_got false b c is = refl

-- the last event that was got by t was got at t, where an event was
pub never_crowded : (p : Plan) (hs : List Seen) → ((j : ℕ) → ¬ IsUnsorted hs j) → ((j : ℕ) → ¬ IsCrowdedBy p hs j) → (i : ℕ) → ¬ IsCrowded p hs i
never_crowded p hs sorted none i b = by_front (length hs) (omega arith) (slice_get_within hs i b.seen b.entry) whole
  where
    t : ℕ
    t = b.seen.ended

    -- what a port holds of what it got by the first n entries
    front : ℕ → ℕ → ℕ
    front n l = count_by (is_got_ended l t) (take n hs) - answers_begun hs l t

    IsFull : ℕ → Type 0
    IsFull n = bound_of p < sum_by (front n) (range_with_len 0 (length p.ports))

    whole : IsFull (length hs)
    whole =
        subst (λ xs. bound_of p < sum_by (λ l. count_by (is_got_ended l t) xs - answers_begun hs l t) (range_with_len 0 (length p.ports)))
        (sym (take_all (length hs) hs (omega arith))) b.more

    last : (n : ℕ) (s : Seen) → slice_get hs n ≡ Some s → i ≤ n → (gets s.deed && nat_le s.ended t) ≡ true → IsFull (n + 1) → ⊥
    last n s at le is more =
        none n
        (record { seen = s; entry = at; got = parts.0; more = omega (arith, more, sum_fewer (front (n + 1)) (held_before hs (n + 1) s.ended) (length p.ports) fewer) })
      where
        parts : (gets s.deed ≡ true) × (nat_le s.ended t ≡ true)
        parts = and_parts (gets s.deed) (nat_le s.ended t) is

        same : t ≡ s.ended
        same = omega (arith, leb-true s.ended t parts.1, in_order hs i n b.seen s sorted b.entry at le)

        fewer : (l : ℕ) → l < length p.ports → front (n + 1) l ≤ held_before hs (n + 1) s.ended l
        fewer l port =
            omega (
              arith,
              count_le (is_got_ended l t) (is_got l) (take (n + 1) hs) (λ u both. (and_parts (is_got l u) (nat_le u.ended t) both).0),
              ap (answers_begun hs l) same,
            )

    later : (n : ℕ) (s : Seen) → slice_get hs n ≡ Some s → i < n + 1 → (gets s.deed && nat_le s.ended t) ≡ false → i < n
    later n s at lt is = ⊎_elim (λ less. less) (λ past. absurd (here (omega (arith, lt, past)))) (cases_lt i n)
      where
        here : i ≡ n → ⊥
        here same =
            let one : b.seen ≡ s = same_Some b.seen s (sym b.entry ∙ (ap (slice_get hs) same ∙ at)) in
            false≢true (sym is ∙ subst (λ (u : Seen). (gets u.deed && nat_le u.ended t) ≡ true) one (and_from (gets (b.seen).deed) (nat_le t t) b.got (le-leb t t (omega arith))))

    by_front : (n : ℕ) → n ≤ length hs → i < n → IsFull n → ⊥
    by_front zero within lt more = omega (arith, lt)
    by_front (suc n) within lt more =
        ⊎_elim (λ is. last n s at (omega (arith, lt)) is full)
        (λ is. by_front n (omega (arith, within)) (later n s at (omega (arith, lt)) is) (omega (arith, full, sum_fewer (front (n + 1)) (front n) (length p.ports) (fewer is))))
        (cases_Bool (gets s.deed && nat_le s.ended t))
      where
        entry : (x : Seen) × (slice_get hs n ≡ Some x)
        entry = slice_get-some hs n (omega (arith, within))

        s : Seen
        s = entry.0

        at : slice_get hs n ≡ Some s
        at = entry.1

        full : IsFull (n + 1)
        full = subst IsFull (sym (add-one n)) more

        fewer : (gets s.deed && nat_le s.ended t) ≡ false → (l : ℕ) → l < length p.ports → front (n + 1) l ≤ front n l
        fewer is l port = omega (arith, count_no (is_got_ended l t) hs n s at (none_got (s.port == l) (gets s.deed) (nat_le s.ended t) is))

pub crowded_within : (p : Plan) (hs : List Seen) (i : ℕ) → IsCrowdedBy p hs i → i < length hs
crowded_within p hs i bad = slice_get_within hs i bad.seen bad.entry

-- ---- times that are past

pub past_of : (t g : ℕ) (xs : List ℕ) → AreRising xs → g < length xs → t < get_or xs g 0 → past xs t ≤ g
past_of t g xs rises within lt =
    not_past t g xs rises (ap (ends_after t) (slice_get-get_or xs g 0 within) ∙ lt-ltb t (get_or xs g 0) lt)

pub one_past : (t g : ℕ) (xs : List ℕ) → AreRising xs → g < length xs → get_or xs g 0 ≤ t → g < past xs t
one_past t g xs rises within le = ⊎_elim (λ lt. lt) (λ few. absurd (late few)) (cases_lt g (past xs t))
  where
    late : past xs t ≤ g → ⊥
    late few =
        omega (arith, le, ltb-true t (get_or xs g 0) (sym (ap (ends_after t) (slice_get-get_or xs g 0 within)) ∙ to_come t g xs rises few))

-- ---- one port more

-- how many of the port's times are past
pub past_at : (times : List (Vec ℕ Global)) (t l n : ℕ) (list : Vec ℕ Global) (items : List ℕ) → l < length times → list ≡ get_or times l list → items ≡ list.items → n ≡ past items t
    → n ≡ past (row (rows times) l) t
past_at times t l n list items lt at are is =
    is ∙ ap (λ xs. past xs t) (are ∙ (ap (λ (v : Vec ℕ Global). v.items) at ∙ sym (row_is times l list lt)))

-- its number is brought up to t
pub known_more : (times : List (Vec ℕ Global)) (t l n : ℕ) (known : List ℕ) → l < length times → AreKnownPast times t known → n ≡ past (row (rows times) l) t → AreKnownPast times t (set known l n)
known_more times t l n known lt are is =
    record {
      sized = length-set known l n ∙ are.sized;
      each = λ k less. ⊎_elim (here k) (other k less) (cases_eq k l);
    }
  where
    here : (k : ℕ) → k ≡ l → get_or (set known l n) k 0 ≤ past (row (rows times) k) t
    here k same =
        subst (λ m. get_or (set known l n) m 0 ≤ past (row (rows times) m) t) (sym same)
        (omega (arith, is, get_or-set_same known l n 0 (omega (arith, lt, are.sized))))

    other : (k : ℕ) → k < length times → k ≢ l → get_or (set known l n) k 0 ≤ past (row (rows times) k) t
    other k less differs = omega (arith, get_or-set_other known l k n 0 differs, are.each k less)

-- there is no room for what it holds
pub held_more : (bound room l : ℕ) (s : Seen) (e : Event) (got : List ℕ) (times : List (Vec ℕ Global)) → s.deed ≡ Got e → l < length got
    → bound ≡ room + sum_by (held_by got times s.ended) (range_with_len 0 l) → room < held_by got times s.ended l → true ≡ exceeds bound s got times
held_more bound room l s e got times deed lt is more =
    sym (and_from (gets s.deed) (nat_lt bound (sum_by (held_by got times s.ended) (range_with_len 0 (length got)))) (ap gets deed)
    (lt-ltb bound (sum_by (held_by got times s.ended) (range_with_len 0 (length got)))
    (omega (
      arith,
      is,
      more,
      sum_last (held_by got times s.ended) l,
      sum_front (held_by got times s.ended) (l + 1) (length got) (omega (arith, lt)),
    ))))

-- ---- the counts, entry by entry

pub none_counted_up : (p : Plan) (hs : List Seen) (got begun : List ℕ) → got ≡ replicate (length p.ports) 0 → begun ≡ replicate (length p.ports) 0 → AreCountedUp p hs 0 got begun
none_counted_up p hs got begun zeros nones =
    record {
      ports = ap length zeros ∙ length-replicate (length p.ports) 0;
      counts = λ l lt. ap (λ xs. get_or xs l 0) zeros ∙ get_or-replicate (length p.ports) l 0 0 lt;
      sized = ap length nones ∙ length-replicate (length p.ports) 0;
      by_then = λ l j s lt le at. omega (arith, ap (λ xs. get_or xs l 0) nones, get_or-replicate {A = ℕ} (length p.ports) l 0 0 lt);
      none = λ j lt. absurd (omega (arith, lt));
    }

begun_grow : (hs : List Seen) (l t u : ℕ) → t ≤ u → answers_begun hs l t ≤ answers_begun hs l u
begun_grow hs l t u le = count_le (is_answer_begun l t) (is_answer_begun l u) hs later
  where
    later : (s : Seen) → is_answer_begun l t s ≡ true → is_answer_begun l u s ≡ true
    later s is =
        let parts = and_parts (is_answered l s) (nat_le s.began t) is in
        and_from (is_answered l s) (nat_le s.began u) parts.0 (le-leb s.began u (omega (arith, le, leb-true s.began t parts.1)))

module _ (p : Plan) (hs : List Seen) (times : List (Vec ℕ Global)) (fit : IsFit p hs times) where
  past_is : (l t : ℕ) → l < length p.ports → past (row (rows times) l) t ≡ answers_begun hs l t
  past_is l t port = ap (λ xs. past xs t) (fit.noted.each l port) ∙ sym (begun_are_past hs l t)

  pub all_rise : AllRise times
  all_rise l lt = subst AreRising (sym (fit.noted.each l (omega (arith, lt, fit.noted.sized)))) (times_rise hs l fit.ordered)

  pub known_past : (i : ℕ) (s : Seen) (got begun : List ℕ) → slice_get hs i ≡ Some s → AreCountedUp p hs i got begun → AreKnownPast times s.ended begun
  known_past i s got begun at are =
      record {
        sized = are.sized ∙ sym fit.noted.sized;
        each = λ l lt. at_port l (omega (arith, lt, fit.noted.sized));
      }
    where
      at_port : (l : ℕ) → l < length p.ports → get_or begun l 0 ≤ past (row (rows times) l) s.ended
      at_port l port = omega (arith, are.by_then l i s port (omega arith) at, past_is l s.ended port)

  module _ (i : ℕ) (s : Seen) (got begun new : List ℕ) (at : slice_get hs i ≡ Some s) (are : AreCountedUp p hs i got begun) (is : new ≡ counted got s) where
    port_is : s.port < length p.ports
    port_is = port_there p hs times i s fit at

    sized : length new ≡ length p.ports
    sized = ap length is ∙ (length-set got s.port (get_or got s.port 0 + cond (gets s.deed) 1 0) ∙ are.ports)

    counts : (l : ℕ) → l < length p.ports → get_or new l 0 ≡ got_before hs l (i + 1)
    counts l lt =
        ap (λ xs. get_or xs l 0) is ∙ counts_on hs got i l s at (omega (arith, are.ports, port_is)) (are.counts s.port port_is) (are.counts l lt)

    whole : sum_by (held_by new times s.ended) (range_with_len 0 (length new)) ≡ sum_by (held_before hs (i + 1) s.ended) (range_with_len 0 (length p.ports))
    whole =
        ap (λ n. sum_by (held_by new times s.ended) (range_with_len 0 n)) sized
        ∙ omega (
          arith,
          sum_fewer (held_by new times s.ended) (held_before hs (i + 1) s.ended) (length p.ports) (λ l port. omega (arith, counts l port, past_is l s.ended port)),
          sum_fewer (held_before hs (i + 1) s.ended) (held_by new times s.ended) (length p.ports) (λ l port. omega (arith, counts l port, past_is l s.ended port)),
        )

    pub crowded_by : exceeds (bound_of p) s new times ≡ true → IsCrowdedBy p hs i
    crowded_by is_more = record { seen = s; entry = at; got = parts.0; more = omega (arith, ltb-true (bound_of p) (sum_by (held_by new times s.ended) (range_with_len 0 (length new))) parts.1, whole) }
      where
        parts : (gets s.deed ≡ true) × (nat_lt (bound_of p) (sum_by (held_by new times s.ended) (range_with_len 0 (length new))) ≡ true)
        parts = and_parts (gets s.deed) (nat_lt (bound_of p) (sum_by (held_by new times s.ended) (range_with_len 0 (length new)))) is_more

    not_crowded : exceeds (bound_of p) s new times ≡ false → ¬ IsCrowdedBy p hs i
    not_crowded is_less bad = false≢true (sym is_less ∙ full)
      where
        same : bad.seen ≡ s
        same = same_Some bad.seen s (sym bad.entry ∙ at)

        more : bound_of p < sum_by (held_before hs (i + 1) s.ended) (range_with_len 0 (length p.ports))
        more = subst (λ (u : Seen). bound_of p < sum_by (held_before hs (i + 1) u.ended) (range_with_len 0 (length p.ports))) same bad.more

        full : exceeds (bound_of p) s new times ≡ true
        full =
            and_from (gets s.deed) (nat_lt (bound_of p) (sum_by (held_by new times s.ended) (range_with_len 0 (length new)))) (ap (λ (u : Seen). gets u.deed) (sym same) ∙ bad.got)
            (lt-ltb (bound_of p) (sum_by (held_by new times s.ended) (range_with_len 0 (length new))) (omega (arith, more, whole)))

    pub counted_up : (known : List ℕ) → AreKnownPast times s.ended known → exceeds (bound_of p) s new times ≡ false → AreCountedUp p hs (i + 1) new known
    counted_up known now is_less =
        record {
          ports = sized;
          counts = counts;
          sized = now.sized ∙ fit.noted.sized;
          by_then = later;
          none = none_more (IsCrowdedBy p hs) i are.none (not_crowded is_less);
        }
      where
        later : (l j : ℕ) (u : Seen) → l < length p.ports → i + 1 ≤ j → slice_get hs j ≡ Some u → get_or known l 0 ≤ answers_begun hs l u.ended
        later l j u port le there =
            omega (
              arith,
              now.each l (omega (arith, port, fit.noted.sized)),
              past_is l s.ended port,
              begun_grow hs l s.ended u.ended (in_order hs i j s u fit.sorted at there (omega (arith, le))),
            )
