-- Replies that answer events which leave their queue in turn: their steps, and what these make of a view.
use Rattle.std.proofs.Common.{◌≡◌, ℕ, zero, suc, ◌+◌, ◌/◌, ◌<◌, ◌≤◌, ◌^◌, Bool, true, false, cond, count_by, List, [], ◌∷◌, ◌++◌, All, None, Option, Some, ap, arith, get_or, length, map, refl, set, subst, sum, sum_by, sym, take, ◌∙◌}
use Rattle.std.proofs.lemmas.Bool.{lt-ltb}
use Rattle.std.proofs.lemmas.List.{length-map, length-set, length-take, length-take-le, take-map}
use Rattle.std.proofs.lemmas.List.Elements.{All-head, All-tail, All-take, All-weaker}
use Rattle.std.proofs.lemmas.List.Sums.{sum_by-cons, sum_by-set}
use Rattle.std.proofs.lemmas.Option.{slice_get_within}
use Rattle.std.proofs.Math.Seq.{take-take}
use Rattle.transcripts.proofs.WholeStands.{shape_after}
use Rattle.evt_types.specs.Plan.{bound_of, lanes_of, level_of}
use Rattle.evt_types.specs.declared.event.Event.{Event}
use Rattle.evt_types.specs.declared.event.Op.{Op}
use Rattle.evt_types.specs.declared.event.Op.TheVariants as ops
use Rattle.evt_types.specs.declared.event.Reply.{Reply}
use Rattle.evt_types.specs.declared.step.Outcome.{Outcome}
use Rattle.evt_types.specs.declared.step.Outcome.TheVariants.{Forwarded, Released}
use Rattle.evt_types.specs.declared.step.Source.TheVariants.{Of}
use Rattle.evt_types.specs.declared.step.Step.{Step}
use Rattle.evt_types.specs.declared.step.Step.TheVariants.{Accept, Done}
use Rattle.order_parts.specs.declared.history.Entry.{Entry}
use Rattle.sched_core.proofs.Rows.{IsRowTaken, row_taken}
use Rattle.sched_core.specs.Inner.{unplaced}
use Rattle.sched_core.specs.View.{IsCore, next_in, view_in}
use Rattle.sched_core.specs.declared.state.Core.TheInside.{Inside}
use Rattle.sched_core.specs.Rows.{AreLetGo, HasRoomFor, IsFor, IsForwardTo, IsLetGo, IsLike, IsRelease, LeaveInTurn, LeavesAlone, after_waiting, row_of}
use Rattle.step_log.specs.Rows.{AreTo, forward_steps, release_steps}
use Rattle.transcripts.specs.Replies.{new_count, turned_count}
use Rattle.transcripts.specs.Standing.{View, accepts_of, after, after_accept, after_done, entries_of, inside_of, kept_in, may_answer, may_take_by, next_at, oldest_at, places_after, steps_by, steps_of, unanswered_at}
use Rattle.transcripts.specs.Sweep.{MayBeTaken, replies_steps}
use Rattle.transcripts.specs.Transcript.{Held, is_new, is_turned}

abbrev pub number_in : Held → ℕ
number_in h = h.number

-- ---- what is kept stays

pub leave_kept : (hs : List Held) (v : View) (l q : ℕ) → LeaveInTurn v l q hs → kept_in (after v (release_steps l (length hs))) ≡ kept_in v
leave_kept [] v l q leave = refl
leave_kept (h ∷ hs) v l q leave = leave_kept hs (after_done v l Released) l q leave.1 ∙ leave.0.kept

pub waiting_kept : (rs : List Reply) (v : View) (q : ℕ) → kept_in (after_waiting v q rs) ≡ kept_in v
waiting_kept [] v q = refl
waiting_kept (r ∷ rs) v q = waiting_kept rs (after_accept v q r.event) q

pub waiting_shape : (rs : List Reply) (v : View) (q : ℕ) → (after_waiting v q rs).shape ≡ v.shape
waiting_shape [] v q = refl
waiting_shape (r ∷ rs) v q = waiting_shape rs (after_accept v q r.event) q

-- ---- RELEASEs

may_answer_one : (v : View) (l : ℕ) (h : Held) → oldest_at v l ≡ Some h → may_answer v l ≡ true
may_answer_one v l h oldest = lt-ltb 0 (length (unanswered_at v l)) (slice_get_within (unanswered_at v l) 0 h oldest)

-- an event that leaves its queue alone is let go, too
pub let_go : (hs : List Held) (v : View) (l q : ℕ) → LeaveInTurn v l q hs → AreLetGo v l hs
let_go [] v l q leave = tt
let_go (h ∷ hs) v l q leave = (
  record { oldest = leave.0.oldest; accepts = leave.0.accepts Released; kept = leave.0.kept },
  let_go hs (after_done v l Released) l q leave.1,
)

release_step : (v : View) (l : ℕ) (h : Held) (e : Event) (o : Op) → IsLetGo v l h → o ≡ ops.Release → steps_by o v l e ≡ Done l Released ∷ []
release_step v l h e o alone is =
    ap (λ p. steps_by p v l e) is ∙ ap (λ ss. Done l Released ∷ ss) (ap (λ x. accepts_of v x Released) alone.oldest ∙ alone.accepts)

release_may : (v : View) (l : ℕ) (h : Held) (e : Event) (o : Op) → IsLetGo v l h → o ≡ ops.Release → may_take_by o v l e ≡ true
release_may v l h e o alone is = subst (λ p. may_take_by p v l e ≡ true) (sym is) (may_answer_one v l h alone.oldest)

pub record AreReleases (v : View) (l n : ℕ) (rs : List Reply) : Type 0 where
  pub may : MayBeTaken v (row_of l rs)
  pub steps : replies_steps v (row_of l rs) ≡ release_steps l n

pub releases : (hs : List Held) (v : View) (l : ℕ) (rs : List Reply) → l < lanes_of v.shape → AreLetGo v l hs → All IsRelease rs → length rs ≡ length hs → AreReleases v l (length hs) rs
releases [] v l [] lane leave all same = record { may = tt; steps = refl }
releases [] v l (r ∷ rs) lane leave all same = absurd (omega (arith, same))
releases (h ∷ hs) v l [] lane leave all same = absurd (omega (arith, same))
releases (h ∷ hs) v l (r ∷ rs) lane leave all same =
    let is : r.event.op ≡ ops.Release = All-head IsRelease r rs all in
    let step : steps_of v l r.event ≡ Done l Released ∷ [] = release_step v l h r.event r.event.op leave.0 is in
    let after1 : after v (steps_of v l r.event) ≡ after_done v l Released = ap (after v) step in
    let rest : AreReleases (after_done v l Released) l (length hs) rs = releases hs (after_done v l Released) l rs lane leave.1 (All-tail IsRelease r rs all) (omega (arith, same)) in
    record {
      may = (lane, release_may v l h r.event r.event.op leave.0 is, subst (λ u. MayBeTaken u (row_of l rs)) (sym after1) rest.may);
      steps = ap (λ u. steps_of v l r.event ++ replies_steps u (row_of l rs)) after1
          ∙ (ap (λ ss. ss ++ replies_steps (after_done v l Released) (row_of l rs)) step ∙ ap (λ ss. Done l Released ∷ ss) rest.steps);
    }

-- none is new, and none is turned away
releases_none : (is : Step → Bool) (l n : ℕ) → is (Done l Released) ≡ false → count_by is (release_steps l n) ≡ 0
releases_none is l zero none = refl
releases_none is l (suc n) none = omega (arith, sum_by-cons (λ (s : Step). cond (is s) 1 0) (Done l Released) (release_steps l n), ap {B = ℕ} (λ b. cond b 1 0) none, releases_none is l n none)

releases_new : (l n : ℕ) → new_count (release_steps l n) ≡ 0
releases_new l n = releases_none is_new l n refl

releases_turned : (l n : ℕ) → turned_count (release_steps l n) ≡ 0
releases_turned l n = releases_none is_turned l n refl

-- ---- an answer and an event that comes to wait, in either order

places_same : (v : View) (t : ℕ) (e : Event) (x : Option Held) (o : Outcome) → places_after (after_accept v t e) x o ≡ places_after v x o
places_same v t e None o = refl
places_same v t e (Some h) o = refl

in_order : (v : View) (t l : ℕ) (e : Event) (o : Outcome) → after_done (after_accept v t e) l o ≡ after_accept (after_done v l o) t e
in_order v t l e o =
    ap (λ ps. let u : View = record (after_done (after_accept v t e) l o) { places = ps } in u) (places_same v t e (oldest_at v l) o)

releases_in_order : (n : ℕ) (v : View) (t l : ℕ) (e : Event) → after (after_accept v t e) (release_steps l n) ≡ after_accept (after v (release_steps l n)) t e
releases_in_order zero v t l e = refl
releases_in_order (suc n) v t l e = ap (λ u. after u (release_steps l n)) (in_order v t l e Released) ∙ releases_in_order n (after_done v l Released) t l e

leaves_still : (v : View) (t : ℕ) (e : Event) (l q : ℕ) (h : Held) → LeavesAlone v l q h → LeavesAlone (after_accept v t e) l q h
leaves_still v t e l q h alone =
    record {
      oldest = alone.oldest;
      queue = alone.queue;
      accepts = alone.accepts;
      done = λ o. in_order v t l e o ∙ (ap (λ u. after_accept u t e) (alone.done o) ∙ sym (in_order v t l e Released));
      kept = ap kept_in (in_order v t l e Released) ∙ alone.kept;
    }

leave_still : (hs : List Held) (v : View) (t : ℕ) (e : Event) (l q : ℕ) → LeaveInTurn v l q hs → LeaveInTurn (after_accept v t e) l q hs
leave_still [] v t e l q leave = tt
leave_still (h ∷ hs) v t e l q leave = (
  leaves_still v t e l q h leave.0,
  subst (λ u. LeaveInTurn u l q hs) (sym (in_order v t l e Released)) (leave_still hs (after_done v l Released) t e l q leave.1),
)

-- ---- FORWARDs

-- one more is accepted
next_more : (ns : List ℕ) (t : ℕ) → t < length ns → sum (set ns t (get_or ns t 0 + 1)) ≡ sum ns + 1
next_more ns t there = omega (arith, sum_by-set (λ (n : ℕ). n) ns t (get_or ns t 0 + 1) 0 there, sums (set ns t (get_or ns t 0 + 1)), sums ns)
  where
    sums : (xs : List ℕ) → sum_by (λ (n : ℕ). n) xs ≡ sum xs
    sums xs = refl

forward_step : (v : View) (l q : ℕ) (h : Held) (e : Event) (o : Op) → LeavesAlone v l q h → o ≡ ops.Forward → steps_by o v l e ≡ Done l (Forwarded e) ∷ Accept e.queue e (Of q h.number) ∷ []
forward_step v l q h e o alone is =
    ap (λ p. steps_by p v l e) is ∙ ap (λ ss. Done l (Forwarded e) ∷ ss) (ap (λ x. accepts_of v x (Forwarded e)) alone.oldest ∙ alone.accepts (Forwarded e))

forward_may : (v : View) (l q t : ℕ) (h : Held) (e : Event) (o : Op) → LeavesAlone v l q h → o ≡ ops.Forward → e.queue ≡ t → t < length v.shape.queues → entries_of v < 2 ^ 63 → may_take_by o v l e ≡ true
forward_may v l q t h e o alone is for there room =
    subst (λ p. may_take_by p v l e ≡ true) (sym is)
    (rw (may_answer_one v l h alone.oldest, lt-ltb e.queue (length v.shape.queues) (subst (λ n. n < length v.shape.queues) (sym for) there), lt-ltb (entries_of v) (2 ^ 63) room) refl)

pub record AreForwards (v : View) (l q t : ℕ) (hs : List Held) (rs : List Reply) : Type 0 where
  pub may : MayBeTaken v (row_of l rs)
  pub steps : replies_steps v (row_of l rs) ≡ forward_steps l q (map number_in hs) rs
  pub view : after v (forward_steps l q (map number_in hs) rs) ≡ after_waiting (after v (release_steps l (length hs))) t rs

module _ (v : View) (l q t : ℕ) (h : Held) (hs : List Held) (r : Reply) (rs : List Reply) (lane : l < lanes_of v.shape) (alone : LeavesAlone v l q h) (is : IsForwardTo t r) (there : t < length v.shape.queues) (in_next : t < length v.next) (entries : entries_of v + length (r ∷ rs) ≤ 2 ^ 63) where
  abbrev e : Event
  e = r.event

  -- once it is answered, and its event waits
  abbrev pub v1 : View
  v1 = after_accept (after_done v l Released) t e

  step : steps_of v l e ≡ Done l (Forwarded e) ∷ Accept e.queue e (Of q h.number) ∷ []
  step = forward_step v l q h e e.op alone is.op

  view1 : after_accept (after_done v l (Forwarded e)) e.queue e ≡ v1
  view1 = ap (λ n. after_accept (after_done v l (Forwarded e)) n e) is.queue ∙ ap (λ u. after_accept u t e) (alone.done (Forwarded e))

  after1 : after v (steps_of v l e) ≡ v1
  after1 = ap (after v) step ∙ view1

  pub entries1 : entries_of v1 + length rs ≤ 2 ^ 63
  entries1 = omega (arith, entries, alone.kept, next_more v.next t in_next)

  pub in_next1 : t < length v1.next
  in_next1 = subst (λ n. t < n) (sym (length-set v.next t (next_at v t + 1))) in_next

  pub one_more : AreForwards v1 l q t hs rs → AreForwards v l q t (h ∷ hs) (r ∷ rs)
  one_more rest =
      record {
        may = (lane, forward_may v l q t h e e.op alone is.op is.queue there (omega (arith, entries)), subst (λ u. MayBeTaken u (row_of l rs)) (sym after1) rest.may);
        steps = ap (λ u. steps_of v l e ++ replies_steps u (row_of l rs)) after1
            ∙ (ap (λ ss. ss ++ replies_steps v1 (row_of l rs)) step ∙ ap (λ ss. Done l (Forwarded e) ∷ Accept e.queue e (Of q h.number) ∷ ss) rest.steps);
        view = ap (λ u. after u (forward_steps l q (map number_in hs) rs)) view1
            ∙ (rest.view ∙ ap (λ u. after_waiting u t rs) (releases_in_order (length hs) (after_done v l Released) t l e));
      }

pub forwards :
    (hs : List Held) (v : View) (l q t : ℕ) (rs : List Reply) → l < lanes_of v.shape → LeaveInTurn v l q hs → All (IsForwardTo t) rs → length rs ≡ length hs → t < length v.shape.queues → t < length v.next → entries_of v + length rs ≤ 2 ^ 63
    → AreForwards v l q t hs rs
forwards [] v l q t [] lane leave all same there in_next entries = record { may = tt; steps = refl; view = refl }
forwards [] v l q t (r ∷ rs) lane leave all same there in_next entries = absurd (omega (arith, same))
forwards (h ∷ hs) v l q t [] lane leave all same there in_next entries = absurd (omega (arith, same))
forwards (h ∷ hs) v l q t (r ∷ rs) lane leave all same there in_next entries =
    let is : IsForwardTo t r = All-head (IsForwardTo t) r rs all in
    one_more v l q t h hs r rs lane leave.0 is there in_next entries
    (forwards hs (v1 v l q t h hs r rs lane leave.0 is there in_next entries) l q t rs lane (leave_still hs (after_done v l Released) t r.event l q leave.1) (All-tail (IsForwardTo t) r rs all) (omega (arith, same)) there
    (in_next1 v l q t h hs r rs lane leave.0 is there in_next entries) (entries1 v l q t h hs r rs lane leave.0 is there in_next entries))

-- none is new, and none is turned away
forwards_none : (is : Step → Bool) (l q : ℕ) (ns : List ℕ) (rs : List Reply) → ((e : Event) → is (Done l (Forwarded e)) ≡ false) → ((e : Event) (n : ℕ) → is (Accept e.queue e (Of q n)) ≡ false) → count_by is (forward_steps l q ns rs) ≡ 0
forwards_none is l q [] rs done accepts = refl
forwards_none is l q (n ∷ ns) [] done accepts = refl
forwards_none is l q (n ∷ ns) (r ∷ rs) done accepts =
    let accepted : Step = Accept r.event.queue r.event (Of q n) in
    omega (
      arith,
      sum_by-cons (λ (s : Step). cond (is s) 1 0) (Done l (Forwarded r.event)) (accepted ∷ forward_steps l q ns rs),
      sum_by-cons (λ (s : Step). cond (is s) 1 0) accepted (forward_steps l q ns rs),
      ap {B = ℕ} (λ b. cond b 1 0) (done r.event),
      ap {B = ℕ} (λ b. cond b 1 0) (accepts r.event n),
      forwards_none is l q ns rs done accepts,
    )

forwards_new : (l q : ℕ) (ns : List ℕ) (rs : List Reply) → new_count (forward_steps l q ns rs) ≡ 0
forwards_new l q ns rs = forwards_none is_new l q ns rs (λ e. refl) (λ e n. refl)

forwards_turned : (l q : ℕ) (ns : List ℕ) (rs : List Reply) → turned_count (forward_steps l q ns rs) ≡ 0
forwards_turned l q ns rs = forwards_none is_turned l q ns rs (λ e. refl) (λ e n. refl)

-- the numbers of the lane's oldest events, as the core has them and as a view has them
pub numbers_are : (n : ℕ) (ys : List Entry) → map number_in (take n (map unplaced ys)) ≡ map (λ (y : Entry). y.number) (take n ys)
numbers_are n ys = ap (map number_in) (take-map unplaced n ys) ∙ numbers_of (take n ys)
  where
    numbers_of : (zs : List Entry) → map number_in (map unplaced zs) ≡ map (λ (y : Entry). y.number) zs
    numbers_of [] = refl
    numbers_of (z ∷ zs) = ap (λ ns. z.number ∷ ns) (numbers_of zs)

-- ---- replies that are alike, as the code takes them: so many of the first ones

all_release : (d : Event) (rs : List Reply) → d.op ≡ ops.Release → All (λ (r : Reply). IsLike d r.event) rs → All IsRelease rs
all_release d rs op like = All-weaker (λ (r : Reply). IsLike d r.event) IsRelease (λ r same. same.op ∙ op) rs like

all_forward : (d : Event) (t : ℕ) (rs : List Reply) → d.op ≡ ops.Forward → d.queue ≡ t → All (λ (r : Reply). IsLike d r.event) rs → All (IsForwardTo t) rs
all_forward d t rs op queue like = All-weaker (λ (r : Reply). IsLike d r.event) (IsForwardTo t) (λ r same. record { op = same.op ∙ op; queue = same.queue ∙ queue }) rs like

pub all_to : (d : Event) (t : ℕ) (rs : List Reply) → d.queue ≡ t → All (λ (r : Reply). IsLike d r.event) rs → AreTo t rs
all_to d t rs queue like = All-weaker (λ (r : Reply). IsLike d r.event) (λ (r : Reply). r.event.queue ≡ t) (λ r same. same.queue ∙ queue) rs like

-- so many of those that are alike
pub still_like : (n alike turn : ℕ) (d : Event) (rs : List Reply) → n ≤ alike → alike ≤ turn → All (λ (r : Reply). IsLike d r.event) (take alike (take turn rs)) → All (λ (r : Reply). IsLike d r.event) (take n rs)
still_like n alike turn d rs few fewer like =
    subst (All (λ (r : Reply). IsLike d r.event)) (take-take n alike (take turn rs) few ∙ take-take n turn rs (omega (arith, few, fewer)))
    (All-take (λ (r : Reply). IsLike d r.event) n (take alike (take turn rs)) like)

module _ (v : View) (l q n m : ℕ) (d : Event) (rs : List Reply) (few : n ≤ length (take m rs)) (most : length (take m rs) ≤ length (unanswered_at v l)) (like : All (λ (r : Reply). IsLike d r.event) (take n (take m rs))) where
  within : n ≤ m
  within = omega (arith, few, length-take m rs)

  pub first_ones : take n (take m rs) ≡ take n rs
  first_ones = take-take n m rs within

  pub first_like : All (λ (r : Reply). IsLike d r.event) (take n rs)
  first_like = subst (All (λ (r : Reply). IsLike d r.event)) first_ones like

  pub first_count : length (take n rs) ≡ n
  first_count = length-take-le n rs (omega (arith, few, length-take m rs))

  held_count : length (take n (unanswered_at v l)) ≡ n
  held_count = length-take-le n (unanswered_at v l) (omega (arith, few, most))

  pub taken_releases : (u : View) → l < lanes_of v.shape → AreLetGo v l (take n (unanswered_at v l)) → d.op ≡ ops.Release → u ≡ after v (release_steps l n) → IsRowTaken v u l (take n rs) (release_steps l n) 0
  taken_releases u lane leave op answered =
      let all : AreReleases v l n (take n rs) =
      subst (λ k. AreReleases v l k (take n rs)) held_count
      (releases (take n (unanswered_at v l)) v l (take n rs) lane leave (all_release d (take n rs) op first_like) (first_count ∙ sym held_count)) in
      row_taken v u l (take n rs) (release_steps l n) 0 all.may all.steps answered (releases_new l n) (releases_turned l n)

  -- once they are answered there is room for what they are passed on as
  pub room_for : (u : View) (t c : ℕ) → u ≡ after v (release_steps l n) → d.queue ≡ t → level_of d ≡ c → t < length v.shape.queues → inside_of u + n ≡ inside_of v → inside_of v ≤ bound_of v.shape → entries_of u ≡ entries_of v → entries_of v + m ≤ 2 ^ 63
      → HasRoomFor u t c (take n rs)
  room_for u t c is queue level there inside bound entries room =
      let same : u.shape ≡ v.shape = ap (λ (x : View). x.shape) is ∙ shape_after v (release_steps l n) in
      record {
        queue = subst (λ p. t < length p.queues) (sym same) there;
        inside = subst (λ p. inside_of u + length (take n rs) ≤ bound_of p) (sym same) (omega (arith, inside, bound, first_count));
        entries = omega (arith, entries, room, within, first_count);
        each = All-weaker (λ (r : Reply). IsLike d r.event) (IsFor t c) (λ r one. record { queue = one.queue ∙ queue; level = ap (λ k. k / 64) one.priority ∙ level }) (take n rs) first_like;
      }

  pub taken_forwards : (u w : View) (t : ℕ) (ns : List ℕ) → l < lanes_of v.shape → LeaveInTurn v l q (take n (unanswered_at v l)) → d.op ≡ ops.Forward → d.queue ≡ t → t < length v.shape.queues → t < length v.next → entries_of v + m ≤ 2 ^ 63
      → ns ≡ map number_in (take n (unanswered_at v l)) → u ≡ after v (release_steps l n) → w ≡ after_waiting u t (take n rs) → IsRowTaken v w l (take n rs) (forward_steps l q ns (take n rs)) 0
  taken_forwards u w t ns lane leave op queue there in_next room numbers answered waits =
      let hs : List Held = take n (unanswered_at v l) in
      let all : AreForwards v l q t hs (take n rs) =
      forwards hs v l q t (take n rs) lane leave (all_forward d t (take n rs) op queue first_like) (first_count ∙ sym held_count) there in_next (omega (arith, room, within, first_count)) in
      let same : forward_steps l q (map number_in hs) (take n rs) ≡ forward_steps l q ns (take n rs) = ap (λ ks. forward_steps l q ks (take n rs)) (sym numbers) in
      row_taken v w l (take n rs) (forward_steps l q ns (take n rs)) 0 all.may (all.steps ∙ same)
      (waits ∙ (ap (λ x. after_waiting x t (take n rs)) (answered ∙ ap (λ k. after v (release_steps l k)) (sym held_count)) ∙ (sym all.view ∙ ap (after v) same)))
      (forwards_new l q ns (take n rs)) (forwards_turned l q ns (take n rs))

-- the numbers that the core reads
pub numbers_taken : (n m : ℕ) (ys : List Entry) → n ≤ m → take n (map (λ (y : Entry). y.number) (take m ys)) ≡ map number_in (take n (map unplaced ys))
numbers_taken n m ys within =
    take-map (λ (y : Entry). y.number) n (take m ys) ∙ (ap (map (λ (y : Entry). y.number)) (take-take n m ys within) ∙ sym (numbers_are n ys))

-- the queue's next number is there
pub next_there : (a : Inside) (v : View) (t : ℕ) → IsCore a → view_in a ≡ v → t < length v.shape.queues → t < length v.next
next_there a v t core same there =
    subst (λ (u : View). t < length u.next) same (omega (arith, subst (λ (u : View). t < length u.shape.queues) (sym same) there, core.queues, length-map a.queues next_in))
