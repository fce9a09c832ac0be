-- Replies that are taken in a row.
use Rattle.std.proofs.Common.{◌≡◌, ℕ, suc, ◌+◌, ◌*◌, ◌/◌, ◌%◌, ◌<◌, ◌^◌, Bool, true, false, cond, ◌||◌, List, [], ◌∷◌, ◌++◌, All, add-zero, append_assoc, append-nil, ap, arith, length, refl, set, subst, sym, ◌∙◌}
use Rattle.std.proofs.lemmas.Bool.{cond-false, lt-ltb}
use Rattle.std.proofs.lemmas.List.{get_or-set_same, set-get_or}
use Rattle.std.proofs.lemmas.List.Elements.{All-head, All-tail, All-weaker}
use Rattle.std.proofs.lemmas.List.Sums.{get_or-le-sum_by, sum_by-cons}
use Rattle.std.proofs.Math.Seq.{set-set}
use Rattle.evt_types.specs.Plan.{bound_of, lanes_of, level_of}
use Rattle.evt_types.specs.Word.{Fits, op_code, word_of}
use Rattle.evt_types.specs.declared.event.Event.{Event}
use Rattle.evt_types.specs.declared.event.Kind.TheVariants.{Ordered}
use Rattle.evt_types.specs.declared.event.Op.{Op}
use Rattle.evt_types.specs.declared.event.Op.TheVariants as ops
use Rattle.evt_types.specs.declared.event.Reply.{Reply}
use Rattle.evt_types.specs.declared.step.Source.TheVariants.{New}
use Rattle.evt_types.specs.declared.step.Step.{Step}
use Rattle.evt_types.specs.declared.step.Step.TheVariants.{Accept, Turned}
use Rattle.parked_queue.proofs.Accepting.{waits_with}
use Rattle.parked_queue.proofs.RowCalls.{waits_none, waits_split}
use Rattle.parked_queue.specs.Waits.{AreWaits, Waits, count_of, no_waits, waits_at, with_event, with_replies}
use Rattle.sched_core.proofs.Busy.{waits_is}
use Rattle.sched_core.proofs.Cores.{accept_counts, core_accepts, fits_number, fits_queue, queue_here, view_accepts}
use Rattle.sched_core.proofs.Settling.{after-append}
use Rattle.sched_core.proofs.Steps.{taken_stands}
use Rattle.sched_core.specs.Rows.{HasRoomFor, IsFor, IsLike, IsNewOf, IsNewRow, after_waiting, row_of}
use Rattle.sched_core.specs.View.{IsCore, view_in}
use Rattle.sched_core.specs.declared.state.Core.TheInside.{Inside}
use Rattle.step_log.specs.Rows.{news_steps}
use Rattle.transcripts.proofs.WholeStands.{shape_after}
use Rattle.transcripts.specs.Replies.{new_count, turned_count}
use Rattle.transcripts.specs.Standing.{View, Stands, after, after_accept, entries_of, inside_of, kept_in, may_take_by, steps_by, steps_of}
use Rattle.transcripts.specs.Sweep.{MayBeTaken, replies_steps}
use Rattle.transcripts.specs.Transcript.{is_new, is_turned}

-- ---- events that are alike

same_op : (o p : Op) → op_code o ≡ op_code p → o ≡ p
same_op ops.New ops.New e = refl
same_op ops.Forward ops.Forward e = refl
same_op ops.Release ops.Release e = refl
same_op ops.ForwardMore ops.ForwardMore e = refl
same_op o p e = absurd cc

code_small : (o : Op) → op_code o < 4
code_small ops.New = omega arith
code_small ops.Forward = omega arith
code_small ops.Release = omega arith
code_small ops.ForwardMore = omega arith

-- what stands side by side in the word
key_is : (w low op queue priority rest : ℕ) → low < 2 ^ 32 → op < 4 → queue < 2 ^ 8 → priority < 2 ^ 8 → w ≡ low + 2 ^ 32 * (op + 2 ^ 8 * (queue + 2 ^ 8 * (priority + 2 ^ 8 * rest)))
    → w / 2 ^ 32 % 2 ^ 24 ≡ op + 2 ^ 8 * (queue + 2 ^ 8 * priority)
key_is w low op queue priority rest a b c d is = omega (arith, a, b, c, d, is)

word_key : (w : ℕ) (e : Event) → Fits e → w ≡ word_of e Ordered → w / 2 ^ 32 % 2 ^ 24 ≡ op_code e.op + 2 ^ 8 * (e.queue + 2 ^ 8 * e.priority)
word_key w e fits is =
    key_is w (e.flow + 2 ^ 20 * (e.sub_type + 2 ^ 8 * e.event_type)) (op_code e.op) e.queue e.priority e.impl_opaque
    (omega (arith, e.flow_fits, fits.sub_type, e.event_type_fits)) (code_small e.op) fits.queue fits.priority (omega (arith, is))

parts_same : (a b c x y z : ℕ) → a < 4 → b < 2 ^ 8 → c < 2 ^ 8 → x < 4 → y < 2 ^ 8 → z < 2 ^ 8 → a + 2 ^ 8 * (b + 2 ^ 8 * c) ≡ x + 2 ^ 8 * (y + 2 ^ 8 * z) → (a ≡ x) × ((b ≡ y) × (c ≡ z))
parts_same a b c x y z h i j k l m is = (omega (arith, h, i, j, k, l, m, is), (omega (arith, h, i, j, k, l, m, is), omega (arith, h, i, j, k, l, m, is)))

pub are_like : (v w : ℕ) (d e : Event) → Fits d → Fits e → v ≡ word_of d Ordered → w ≡ word_of e Ordered → w / 2 ^ 32 % 2 ^ 24 ≡ v / 2 ^ 32 % 2 ^ 24 → IsLike d e
are_like v w d e fits_d fits_e is_d is_e same =
    let parts = parts_same (op_code e.op) e.queue e.priority (op_code d.op) d.queue d.priority (code_small e.op) fits_e.queue fits_e.priority (code_small d.op) fits_d.queue fits_d.priority
    (sym (word_key w e fits_e is_e) ∙ (same ∙ word_key v d fits_d is_d)) in
    record { op = same_op e.op d.op parts.0; queue = parts.1.0; priority = parts.1.1 }

-- what is like a NEW is one for its queue, of its level
like_new : (q c : ℕ) (d : Event) (rs : List Reply) → d.op ≡ ops.New → d.queue ≡ q → level_of d ≡ c → All (λ (r : Reply). IsLike d r.event) rs → All (IsNewOf q c) rs
like_new q c d rs op queue level all =
    All-weaker (λ (r : Reply). IsLike d r.event) (IsNewOf q c)
    (λ r like. record { op = like.op ∙ op; queue = like.queue ∙ queue; level = ap (λ n. n / 64) like.priority ∙ level }) rs all

-- ---- steps of some replies

-- what stands stands after the steps of replies that may be taken
pub row_stands : (rs : List (ℕ × Event)) (v : View) (T : List Step) → MayBeTaken v rs → Stands T v → Stands (T ++ replies_steps v rs) (after v (replies_steps v rs))
row_stands [] v T may stands = subst (λ U. Stands U v) (sym (append-nil T)) stands
row_stands (r ∷ rs) v T may stands =
    let first = steps_of v r.0 r.1 in
    let w = after v first in
    let one : Stands (T ++ first) w = (taken_stands v w T r.0 r.1 r.1.op refl refl may.0 may.1 stands).1 in
    subst (λ u. Stands (T ++ replies_steps v (r ∷ rs)) u) (sym (after-append v first (replies_steps w rs)))
    (subst (λ U. Stands U (after w (replies_steps w rs))) (append_assoc T first (replies_steps w rs)) (row_stands rs w (T ++ first) may.2 one))

-- Replies of a lane are taken: their steps are these, by which so many new events are accepted and none is turned away.
pub record IsRowTaken (v w : View) (l : ℕ) (rs : List Reply) (ss : List Step) (news : ℕ) : Type 0 where
  pub may : MayBeTaken v (row_of l rs)
  pub steps : replies_steps v (row_of l rs) ≡ ss
  pub view : w ≡ after v (replies_steps v (row_of l rs))
  pub stands : (T : List Step) → Stands T v → Stands (T ++ replies_steps v (row_of l rs)) w
  pub accepted : new_count (replies_steps v (row_of l rs)) ≡ news
  pub turned : turned_count (replies_steps v (row_of l rs)) ≡ 0
  pub shape : w.shape ≡ v.shape

pub row_taken : (v w : View) (l : ℕ) (rs : List Reply) (ss : List Step) (news : ℕ) → MayBeTaken v (row_of l rs) → replies_steps v (row_of l rs) ≡ ss → w ≡ after v ss → new_count ss ≡ news → turned_count ss ≡ 0 → IsRowTaken v w l rs ss news
row_taken v w l rs ss news may steps ends accepted turned =
    let view : w ≡ after v (replies_steps v (row_of l rs)) = ends ∙ ap (after v) (sym steps) in
    record {
      may = may;
      steps = steps;
      view = view;
      stands = λ T stands. subst (Stands (T ++ replies_steps v (row_of l rs))) (sym view) (row_stands (row_of l rs) v T may stands);
      accepted = ap new_count steps ∙ accepted;
      turned = ap turned_count steps ∙ turned;
      shape = ap (λ (u : View). u.shape) view ∙ shape_after v (replies_steps v (row_of l rs));
    }

-- ---- NEWs

pub news_count : (l q : ℕ) (rs : List Reply) → new_count (news_steps l q rs) ≡ length rs
news_count l q [] = refl
news_count l q (r ∷ rs) = omega (arith, sum_by-cons (λ (s : Step). cond (is_new s) 1 0) (Accept q r.event (New l)) (news_steps l q rs), news_count l q rs)

pub news_turned : (l q : ℕ) (rs : List Reply) → turned_count (news_steps l q rs) ≡ 0
news_turned l q [] = refl
news_turned l q (r ∷ rs) = omega (arith, sum_by-cons (λ (s : Step). cond (is_turned s) 1 0) (Accept q r.event (New l)) (news_steps l q rs), news_turned l q rs)

-- NEWs wait
news_wait : (rs : List Reply) (v : View) (l q : ℕ) → after_waiting v q rs ≡ after v (news_steps l q rs)
news_wait [] v l q = refl
news_wait (r ∷ rs) v l q = news_wait rs (after_accept v q r.event) l q

pub news_kept : (l q : ℕ) (rs : List Reply) (v : View) → kept_in (after v (news_steps l q rs)) ≡ kept_in v
news_kept l q [] v = refl
news_kept l q (r ∷ rs) v = news_kept l q rs (after_accept v q r.event)

-- a NEW for which there is room may be taken, and its step accepts it
new_may : (v : View) (l : ℕ) (e : Event) (o : Op) → o ≡ ops.New → l < length v.shape.ports → e.queue < length v.shape.queues → inside_of v < bound_of v.shape → entries_of v < 2 ^ 63 → may_take_by o v l e ≡ true
new_may v l e o new port queue inside entries =
    subst (λ p. may_take_by p v l e ≡ true) (sym new)
    (rw (lt-ltb l (length v.shape.ports) port, lt-ltb e.queue (length v.shape.queues) queue, lt-ltb (inside_of v) (bound_of v.shape) inside, lt-ltb (entries_of v) (2 ^ 63) entries) (or_true v.shut))
  where
    or_true : (b : Bool) → (b || true) ≡ true
    or_true true = refl
    or_true false = refl

new_steps : (v : View) (l q : ℕ) (e : Event) (o : Op) → o ≡ ops.New → v.shut ≡ false → e.queue ≡ q → steps_by o v l e ≡ Accept q e (New l) ∷ []
new_steps v l q e o new unshut is =
    ap (λ p. steps_by p v l e) new ∙ (cond-false v.shut (Turned l e ∷ []) (Accept e.queue e (New l) ∷ []) unshut ∙ ap (λ n. Accept n e (New l) ∷ []) is)

-- the core with some NEWs more
abbrev pub with_news : Inside → ℕ → List Reply → Inside
with_news a q rs = record a { queues = set a.queues q (with_replies (waits_at a.queues q) rs); inside = a.inside + length rs; entries = a.entries + length rs }

-- NEWs of a port's own lane
abbrev pub IsNew : Reply → Type 0
IsNew r = r.event.op ≡ ops.New

pub record AreNews (v : View) (l : ℕ) (rs : List Reply) : Type 0 where
  pub port : l < length v.shape.ports
  pub unshut : v.shut ≡ false
  pub each : All IsNew rs

-- their events wait, and if they are NEWs they are taken by that
pub record HasTaken (a : Inside) (q : ℕ) (rs : List Reply) : Type 0 where
  pub core : IsCore (with_news a q rs)
  pub view : view_in (with_news a q rs) ≡ after_waiting (view_in a) q rs
  pub may : (l : ℕ) → l < lanes_of a.shape → AreNews (view_in a) l rs → MayBeTaken (view_in a) (row_of l rs)
  pub steps : (l : ℕ) → AreNews (view_in a) l rs → replies_steps (view_in a) (row_of l rs) ≡ news_steps l q rs

none_same : (a : Inside) (q : ℕ) → with_news a q [] ≡ a
none_same a q =
    ap (λ qs. record a { queues = qs; inside = a.inside + 0; entries = a.entries + 0 }) (ap (set a.queues q) (waits_none (waits_at a.queues q)) ∙ set-get_or a.queues q (no_waits 1 0))
    ∙ (ap (λ n. record a { inside = n; entries = a.entries + 0 }) (add-zero a.inside) ∙ ap (λ n. record a { entries = n }) (add-zero a.entries))

none_taken : (a : Inside) (q : ℕ) → IsCore a → HasTaken a q []
none_taken a q core = record { core = subst IsCore (sym (none_same a q)) core; view = ap view_in (none_same a q); may = λ l lane news. tt; steps = λ l news. refl }

-- one, and the rest of them
module _ (a : Inside) (q c : ℕ) (r : Reply) (rs : List Reply) (core : IsCore a) (few : c < 4) (row : HasRoomFor (view_in a) q c (r ∷ rs)) where
  abbrev e : Event
  e = r.event

  abbrev w : Waits
  w = waits_at a.queues q

  abbrev w1 : Waits
  w1 = with_event w e

  abbrev a1 : Inside
  a1 = record a { queues = set a.queues q w1; inside = a.inside + 1; entries = a.entries + 1 }

  is : IsFor q c r
  is = All-head (IsFor q c) r rs row.each

  h : q < length a.queues
  h = omega (arith, row.queue, core.queues)

  inside : inside_of (view_in a) < bound_of a.shape
  inside = omega (arith, row.inside)

  entries : entries_of (view_in a) < 2 ^ 63
  entries = omega (arith, row.entries)

  sound : AreWaits w1
  sound =
      let here = queue_here a q w core h (waits_is a.queues q h) in
      let all = fits_queue a q w core h (waits_is a.queues q h) inside in
      let number = fits_number a q w h (waits_is a.queues q h) in
      let share = get_or-le-sum_by count_of a.queues q (no_waits 1 0) h in
      waits_with w e here.waits (subst (λ n. n < 4) (sym is.level) few) (omega (arith, number, entries)) (omega (arith, all, share))

  core1 : IsCore a1
  core1 = core_accepts a q w w1 e core inside entries h (waits_is a.queues q h) refl sound

  view1 : view_in a1 ≡ after_accept (view_in a) q e
  view1 = view_accepts a q w w1 e h (waits_is a.queues q h) refl

  counts : (inside_of (view_in a1) ≡ inside_of (view_in a) + 1) × (entries_of (view_in a1) ≡ entries_of (view_in a) + 1)
  counts = accept_counts a q w w1 e (view_in a) core refl inside entries h (waits_is a.queues q h) refl sound

  row1 : HasRoomFor (view_in a1) q c rs
  row1 = record {
    queue = row.queue;
    inside = omega (arith, row.inside, counts.0);
    entries = omega (arith, row.entries, counts.1);
    each = All-tail (IsFor q c) r rs row.each;
  }

  joined : with_news a1 q rs ≡ with_news a q (r ∷ rs)
  joined =
      ap (λ qs. record a { queues = qs; inside = (a.inside + 1) + length rs; entries = (a.entries + 1) + length rs })
      (ap (λ x. set (set a.queues q w1) q (with_replies x rs)) (get_or-set_same a.queues q w1 (no_waits 1 0) h)
      ∙ (set-set a.queues q w1 (with_replies w1 rs) ∙ ap (set a.queues q) (waits_split w r rs)))
      ∙ (ap (λ n. record a { queues = set a.queues q (with_replies w (r ∷ rs)); inside = n; entries = (a.entries + 1) + length rs }) (omega arith)
      ∙ ap (λ n. record a { queues = set a.queues q (with_replies w (r ∷ rs)); inside = a.inside + suc (length rs); entries = n }) (omega arith))

  one_taken : HasTaken a1 q rs → HasTaken a q (r ∷ rs)
  one_taken rest =
      record {
        core = subst IsCore joined rest.core;
        view = ap view_in (sym joined) ∙ (rest.view ∙ ap (λ v. after_waiting v q rs) view1);
        may = λ l lane news. (
          lane,
          new_may (view_in a) l e e.op (news_op news) news.port (subst (λ n. n < length a.shape.queues) (sym is.queue) row.queue) inside entries,
          subst (λ v. MayBeTaken v (row_of l rs)) (sym (after1 l news)) (rest.may l lane (fewer_news l news)),
        );
        steps = λ l news.
            ap (λ v. steps_of (view_in a) l e ++ replies_steps v (row_of l rs)) (after1 l news)
            ∙ (ap (λ ss. ss ++ replies_steps (view_in a1) (row_of l rs)) (step l news) ∙ ap (λ ss. Accept q e (New l) ∷ ss) (rest.steps l (fewer_news l news)));
      }
    where
      news_op : {l : ℕ} → AreNews (view_in a) l (r ∷ rs) → e.op ≡ ops.New
      news_op news = All-head IsNew r rs news.each

      fewer_news : (l : ℕ) → AreNews (view_in a) l (r ∷ rs) → AreNews (view_in a1) l rs
      fewer_news l news = record { port = news.port; unshut = news.unshut; each = All-tail IsNew r rs news.each }

      step : (l : ℕ) → AreNews (view_in a) l (r ∷ rs) → steps_of (view_in a) l e ≡ Accept q e (New l) ∷ []
      step l news = new_steps (view_in a) l q e e.op (news_op news) news.unshut is.queue

      after1 : (l : ℕ) → AreNews (view_in a) l (r ∷ rs) → after (view_in a) (steps_of (view_in a) l e) ≡ view_in a1
      after1 l news = ap (after (view_in a)) (step l news) ∙ sym view1

pub waits_taken : (rs : List Reply) (a : Inside) (q c : ℕ) → IsCore a → c < 4 → HasRoomFor (view_in a) q c rs → HasTaken a q rs
waits_taken [] a q c core few row = none_taken a q core
waits_taken (r ∷ rs) a q c core few row =
    one_taken a q c r rs core few row (waits_taken rs (a1 a q c r rs core few row) q c (core1 a q c r rs core few row) few (row1 a q c r rs core few row))

-- what a row of NEWs is
pub news_room : (v : View) (l q c : ℕ) (rs : List Reply) → IsNewRow v l q c rs → HasRoomFor v q c rs
news_room v l q c rs row =
    record {
      queue = row.queue;
      inside = row.inside;
      entries = row.entries;
      each = All-weaker (IsNewOf q c) (IsFor q c) (λ r of. record { queue = of.queue; level = of.level }) rs row.each;
    }

pub are_news : (v : View) (l q c : ℕ) (rs : List Reply) → IsNewRow v l q c rs → AreNews v l rs
are_news v l q c rs row = record { port = row.port; unshut = row.unshut; each = All-weaker (IsNewOf q c) IsNew (λ r of. of.op) rs row.each }

pub news_taken : (rs : List Reply) (a : Inside) (v w : View) (l q c : ℕ) → IsCore a → view_in a ≡ v → c < 4 → l < lanes_of v.shape → IsNewRow v l q c rs → w ≡ after_waiting v q rs → IsRowTaken v w l rs (news_steps l q rs) (length rs)
news_taken rs a v w l q c core same few =
    subst (λ (u : View). l < lanes_of u.shape → IsNewRow u l q c rs → w ≡ after_waiting u q rs → IsRowTaken u w l rs (news_steps l q rs) (length rs)) same taken_here
  where
    taken_here : l < lanes_of a.shape → IsNewRow (view_in a) l q c rs → w ≡ after_waiting (view_in a) q rs → IsRowTaken (view_in a) w l rs (news_steps l q rs) (length rs)
    taken_here lane row waits =
        let taken = waits_taken rs a q c core few (news_room (view_in a) l q c rs row) in
        row_taken (view_in a) w l rs (news_steps l q rs) (length rs) (taken.may l lane (are_news (view_in a) l q c rs row)) (taken.steps l (are_news (view_in a) l q c rs row))
        (waits ∙ news_wait rs (view_in a) l q) (news_count l q rs) (news_turned l q rs)
