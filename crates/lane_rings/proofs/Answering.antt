-- Several replies go into the ring in a row, and the holder's end after each of the answers, as a value.
use Rattle.std.proofs.Common.{◌≡◌, ◌∙◌, ◌+◌, ◌-◌, ◌<◌, ◌≤◌, ℕ, suc, true, false, cond, All, List, [], ◌∷◌, ◌++◌, length, length-drop, drop, map, append_assoc, append-nil, refl, sym, ap, subst, arith}
use Rattle.std.proofs.lemmas.Grind.{common_steps}
use Rattle.std.proofs.lemmas.List.{drop-drop, length_push}
use Rattle.std.proofs.lemmas.List.Elements.{All-cons, All-nil}
use Rattle.std.proofs.lemmas.List.Sums.{sum_by-append, sum_by-cons}
use Rattle.std.proofs.lemmas.Bool.{false≢true}
use Rattle.evt_types.proofs.Additions.{answers_add_none, beside-append, beside-other, extras-answer, extras-other}
use Rattle.evt_types.specs.Additions.{AreBeside, extras_of}
use Rattle.evt_types.specs.Event.{pair_of}
use Rattle.evt_types.specs.Operation.{is_answer, is_answer_op, is_more_op, is_more_reply, is_new_op, is_new_reply}
use Rattle.evt_types.specs.declared.event.Event.{Event}
use Rattle.evt_types.specs.declared.event.Op.{Op}
use Rattle.evt_types.specs.declared.event.Op.TheVariants as ops
use Rattle.evt_types.specs.declared.event.Reply.{Reply}
use Rattle.lane_rings.specs.Ends.{answered, answers_among, received_by, room_left, unanswered}
use Rattle.lane_rings.specs.Identity.{far_id}
use Rattle.lane_rings.specs.HeldPairs.{Held, holds}
use Rattle.rtrb.specs.Fifo.{position_of}
use Rattle.rtrb.specs.Ring.{sent, SameProducer}
use Rattle.lane_rings.specs.Outlets.{put_in, room_of}
use Rattle.lane_rings.specs.Refusal.{reply_of}
use Rattle.lane_rings.specs.declared.far.Far.{Far}
use Rattle.lane_rings.specs.declared.outlet.Outlet.{Outlet}
use Rattle.lane_rings.proofs.HeldPairs.{answered_held}

-- each of these is an answer
abbrev pub AllAnswer : List Reply → Type 0
AllAnswer rs = All (λ (r : Reply). is_answer r ≡ true) rs

-- each of these is a NEW
abbrev pub AllNew : List Reply → Type 0
AllNew rs = All (λ (r : Reply). is_new_reply r ≡ true) rs

pub first_ends : (r : Reply) (rs : List Reply) → AllAnswer (r ∷ rs) → is_answer r ≡ true
first_ends r rs all = all 0 r (omega arith)

pub rest_end : (r : Reply) (rs : List Reply) → AllAnswer (r ∷ rs) → AllAnswer rs
rest_end r rs all k d lt = all (suc k) d (omega (arith, lt))

pub first_new : (r : Reply) (rs : List Reply) → AllNew (r ∷ rs) → is_new_reply r ≡ true
first_new r rs all = all 0 r (omega arith)

pub rest_new : (r : Reply) (rs : List Reply) → AllNew (r ∷ rs) → AllNew rs
rest_new r rs all k d lt = all (suc k) d (omega (arith, lt))

-- a NEW answers nothing and adds nothing
pub no_answer : (o : Op) → is_new_op o ≡ true → (is_answer_op o ≡ false) × (is_more_op o ≡ false)
no_answer ops.New new = (refl, refl)
no_answer ops.Forward new = absurd (false≢true new)
no_answer ops.Release new = absurd (false≢true new)
no_answer ops.ForwardMore new = absurd (false≢true new)

pub answers_row : (rs : List Reply) → AllAnswer rs → answers_among rs ≡ length rs
answers_row [] all = refl
answers_row (r ∷ rs) all =
    omega (arith, sum_by-cons (λ (x : Reply). cond (is_answer x) 1 0) r rs, ap {B = ℕ} (λ b. cond b 1 0) (first_ends r rs all), answers_row rs (rest_end r rs all))

pub no_answers : (rs : List Reply) → AllNew rs → answers_among rs ≡ 0
no_answers [] all = refl
no_answers (r ∷ rs) all =
    omega (arith, sum_by-cons (λ (x : Reply). cond (is_answer x) 1 0) r rs, ap {B = ℕ} (λ b. cond b 1 0) (no_answer r.event.op (first_new r rs all)).0, no_answers rs (rest_new r rs all))

one_then : (rs : List Reply) (r : Reply) (more : List Reply) → rs ++ r ∷ more ≡ (rs ++ r ∷ []) ++ more
one_then rs r more = sym (append_assoc rs (r ∷ []) more)

-- nothing is beside the oldest after answers
pub extras_row : (before rs : List Reply) → 0 < length rs → AllAnswer rs → extras_of (before ++ rs) ≡ 0
extras_row before [] some all = absurd (omega (arith, some))
extras_row before (r ∷ []) some all = extras-answer before r (first_ends r [] all)
extras_row before (r ∷ x ∷ rs) some all = ap extras_of (one_then before r (x ∷ rs)) ∙ extras_row (before ++ r ∷ []) (x ∷ rs) (omega arith) (rest_end r (x ∷ rs) all)

pub beside_row : (n : ℕ) (before rs : List Reply) → AllAnswer rs → AreBeside n before → AreBeside n (before ++ rs)
beside_row n before [] all beside = subst (AreBeside n) (sym (append-nil before)) beside
beside_row n before (r ∷ rs) all beside =
    subst (AreBeside n) (sym (one_then before r rs))
    (beside_row n (before ++ r ∷ []) rs (rest_end r rs all) (beside-other n before r (answers_add_none r (first_ends r rs all)) beside))

-- and as many as before after NEWs
pub extras_news : (before rs : List Reply) → AllNew rs → extras_of (before ++ rs) ≡ extras_of before
extras_news before [] all = ap extras_of (append-nil before)
extras_news before (r ∷ rs) all =
    let none = no_answer r.event.op (first_new r rs all) in
    ap extras_of (one_then before r rs) ∙ (extras_news (before ++ r ∷ []) rs (rest_new r rs all) ∙ extras-other before r none.0 none.1)

pub beside_news : (n : ℕ) (before rs : List Reply) → AllNew rs → AreBeside n before → AreBeside n (before ++ rs)
beside_news n before [] all beside = subst (AreBeside n) (sym (append-nil before)) beside
beside_news n before (r ∷ rs) all beside =
    subst (AreBeside n) (sym (one_then before r rs))
    (beside_news n (before ++ r ∷ []) rs (rest_new r rs all) (beside-other n before r (no_answer r.event.op (first_new r rs all)).1 beside))

-- the end after answers, where these went into the ring
module _ (f : Far) (rs : List Reply) (o : Outlet Reply) (h : Held) (all : AllAnswer rs) (some : 0 < length rs) (few : length rs ≤ length (unanswered f))
    (put : put_in o ≡ answered f ++ rs) (skipped : h ≡ holds (drop (length rs) f.held.items) f.held.room) where
  pub count : answers_among (put_in o) ≡ answers_among (answered f) + length rs
  count = omega (arith, ap answers_among put, sum_by-append (λ (x : Reply). cond (is_answer x) 1 0) (answered f) rs, answers_row rs all)

  pub held : length f.held.items ≡ length (unanswered f)
  held = omega (arith, f.held_is, length-drop (answers_among (answered f)) (received_by f))

  pub left : length h.items ≡ length (drop (length rs) f.held.items)
  left = ap (λ (x : Held). length x.items) skipped

  abbrev pub after_row : Far
  after_row = record {
    deliveries = f.deliveries;
    replies = o;
    held = h;
    extras = 0;
    held_is = omega (arith, count, held, left, few, length-drop (length rs) f.held.items, f.held_is);
    held_are =
        ap (λ (x : Held). x.items) skipped
        ∙ (ap (drop (length rs)) f.held_are
        ∙ (sym (answered_held (answers_among (answered f)) (length rs) (received_by f)) ∙ ap (λ n. map pair_of (drop n (received_by f))) (sym count)));
    held_few = omega (arith, f.held_few, left, length-drop (length rs) f.held.items);
    held_room = omega (arith, f.held_room, ap (λ (x : Held). x.room) skipped);
    all_received = f.all_received;
    extras_are = sym (ap extras_of put ∙ extras_row (answered f) rs some all);
    extras_few = omega arith;
    beside = subst (AreBeside (length (received_by f))) (sym put) (beside_row (length (received_by f)) (answered f) rs all f.beside);
  }

-- the end after NEWs, where these went into the ring
module _ (f : Far) (rs : List Reply) (o : Outlet Reply) (all : AllNew rs) (put : put_in o ≡ answered f ++ rs) where
  pub same_answers : answers_among (put_in o) ≡ answers_among (answered f)
  same_answers =
      omega (arith, ap answers_among put, sum_by-append (λ (x : Reply). cond (is_answer x) 1 0) (answered f) rs, no_answers rs all)

  abbrev pub after_news : Far
  after_news = record {
    deliveries = f.deliveries;
    replies = o;
    held = f.held;
    extras = f.extras;
    held_is = omega (arith, same_answers, f.held_is);
    held_are = f.held_are ∙ ap (λ n. map pair_of (drop n (received_by f))) (sym same_answers);
    held_few = f.held_few;
    held_room = f.held_room;
    all_received = f.all_received;
    extras_are = f.extras_are ∙ sym (ap extras_of put ∙ extras_news (answered f) rs all);
    extras_few = f.extras_few;
    beside = subst (AreBeside (length (received_by f))) (sym put) (beside_news (length (received_by f)) (answered f) rs all f.beside);
  }

pub only_new : (r : Reply) → is_new_reply r ≡ true → AllNew (r ∷ [])
only_new r new = All-cons (λ (x : Reply). is_new_reply x ≡ true) r [] new (All-nil (λ (x : Reply). is_new_reply x ≡ true))

pub only_answer : (r : Reply) → is_answer r ≡ true → AllAnswer (r ∷ [])
only_answer r ends = All-cons (λ (x : Reply). is_answer x ≡ true) r [] ends (All-nil (λ (x : Reply). is_answer x ≡ true))

-- one reply more is in the ring, for which there is room
pub outlet_step : (o : Outlet Reply) (r : Reply) → 0 < room_of o
    → (q : Outlet Reply) × SameProducer o.ring q.ring × (put_in q ≡ put_in o ++ r ∷ []) × (room_of q + 1 ≡ room_of o)
outlet_step o r room =
    let p = o.ring in
    let past : List Reply = p.end.past ++ r ∷ [] in (
      record {
        ring = record {
          end = record { words = p.end.words; slots = p.end.slots; marker = p.end.marker; names = p.end.names; heap = p.end.heap; role = p.end.role; past = past; ahead = p.end.ahead; limit = p.end.limit };
          alloc = p.alloc;
          capacity = p.capacity;
          cached_head = p.cached_head;
          cached_tail = position_of p.capacity (length past);
          writes = p.writes;
          counts = (p.counts.0, omega (arith, length_push p.end.past r, p.counts.1, o.known, room), omega (arith, length_push p.end.past r, p.counts.2));
          cached = (p.cached.0, refl);
        };
        free = o.free - 1;
        known = omega (arith, length_push p.end.past r, o.known, room);
      },
      ((refl, refl, refl, refl), refl),
      refl,
      omega (arith, room),
    )

-- what is unanswered after one answer more
one_answered : (f : Far) (r : Reply) (rs : List Reply) → is_answer r ≡ true → rs ≡ answered f ++ r ∷ []
    → drop (answers_among rs) (received_by f) ≡ drop 1 (unanswered f)
one_answered f r rs ends put =
    let n = answers_among (answered f) in
    let one : answers_among rs ≡ n + 1 = omega (arith, ap answers_among put, sum_by-append (λ (x : Reply). cond (is_answer x) 1 0) (answered f) (r ∷ []), sum_by-cons (λ (x : Reply). cond (is_answer x) 1 0) r [], ap {B = ℕ} (λ b. cond b 1 0) ends) in
    ap (λ k. drop k (received_by f)) one ∙ grind (arith, common_steps, drop-drop 1 n (received_by f))

-- the end after one answer
pub answer_step : (f : Far) (r : Reply) → is_answer r ≡ true → 0 < length (unanswered f) → 0 < room_left f
    → (g : Far) × (far_id g ≡ far_id f) × (received_by g ≡ received_by f) × (answered g ≡ answered f ++ r ∷ []) × (unanswered g ≡ drop 1 (unanswered f)) × (room_left g + 1 ≡ room_left f)
answer_step f r ends some room =
    let s = outlet_step f.replies r room in (
      after_row f (r ∷ []) s.0 (holds (drop 1 f.held.items) f.held.room) (only_answer r ends) (omega arith) (omega (arith, some)) s.2 refl,
      (λ i. record { deliveries = (far_id f).deliveries; replies = record { words = s.1.0.0 i; slots = s.1.0.1 i; names = s.1.0.2 i; heap = s.1.0.3 i }; depth = (far_id f).depth; room = s.1.1 i }),
      refl,
      s.2,
      one_answered f r _ ends s.2,
      s.3,
    )
