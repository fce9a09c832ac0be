-- What is crossed is overtaken, or was forwarded in the other order.
use Rattle.std.specs.Prelude.{IfNone, IfOk, IfSome, ℕ, ◌≡◌, Ok, Err, Bool, true, false, ◌&&◌, List, ◌==◌, Option, Some, None, slice_get, if◌then◌else◌}
use Rattle.std.proofs.Common.{Result, refl, sym, ap, ◌∙◌, subst, arith, ⊎_elim}
use Rattle.std.proofs.lemmas.Bool.{cases_Bool, cond-true, cond-false, false≢true}
use Rattle.std.proofs.lemmas.Option.{none-some, same_Some}
use Rattle.evt_types.specs.Plan.{Plan, is_atomic, is_flows, is_ordered, level_of, queue_of}
use Rattle.evt_types.specs.declared.event.Event.{Event}
use Rattle.evt_types.specs.declared.event.Kind.{Kind}
use Rattle.evt_types.specs.declared.event.Kind.TheVariants.{Atomic, Ordered, Parallel}
use Rattle.lists.proofs.Lists.{eqb_is, eqb_same}
use Rattle.history_judge.specs.Breaches.{AreKeptInOrder, CameBefore, IsOvertaken, IsReordered}
use Rattle.history_judge.specs.Streams.{GotFirst, IsCrossed, order_in, order_of, stream_of}
use Rattle.history_judge.specs.declared.arrivals.Course.TheVariants.{Itself, Forwarded}
use Rattle.history_judge.specs.declared.arrivals.KeptOrder.{KeptOrder}
use Rattle.history_judge.specs.declared.arrivals.Stream.{Stream}
use Rattle.history_judge.specs.declared.seen.Seen.{Seen}

-- ---- in which order a queue keeps its events

-- whether a queue of this kind keeps the order of the two
abbrev keeps : Kind → Event → Event → Bool
keeps k e f = if level_of e == level_of f then (if is_ordered k then true else is_atomic k && (e.flow == f.flow)) else false

order_queue : (k : Kind) (e : Event) (o : KeptOrder) → order_in k e ≡ Some o → o.queue ≡ e.queue
order_queue Atomic e o is = ap (λ (x : KeptOrder). x.queue) (sym (same_Some (record { queue = e.queue; level = level_of e; flow = Some e.flow }) o is))
order_queue Ordered e o is = ap (λ (x : KeptOrder). x.queue) (sym (same_Some (record { queue = e.queue; level = level_of e; flow = None }) o is))
order_queue Parallel e o is = absurd (none-some o is)

keeps_of_level : (k : Kind) (e f : Event) → level_of e ≡ level_of f → (if is_ordered k then true else is_atomic k && (e.flow == f.flow)) ≡ true → keeps k e f ≡ true
keeps_of_level k e f level rest =
    cond-true (level_of e == level_of f) (if is_ordered k then true else is_atomic k && (e.flow == f.flow)) false (ap (λ n. level_of e == n) (sym level) ∙ eqb_same (level_of e)) ∙ rest

keeps_by : (k : Kind) (e f : Event) → order_in k e ≡ order_in k f → (o : KeptOrder) → order_in k e ≡ Some o → keeps k e f ≡ true
keeps_by Atomic e f same o is =
    let one = same_Some (record { queue = e.queue; level = level_of e; flow = Some e.flow }) (record { queue = f.queue; level = level_of f; flow = Some f.flow }) same in
    keeps_of_level Atomic e f (ap (λ (x : KeptOrder). x.level) one)
    (ap (λ n. e.flow == n) (sym (same_Some e.flow f.flow (ap (λ (x : KeptOrder). x.flow) one))) ∙ eqb_same e.flow)
keeps_by Ordered e f same o is =
    let one = same_Some (record { queue = e.queue; level = level_of e; flow = None }) (record { queue = f.queue; level = level_of f; flow = None }) same in
    keeps_of_level Ordered e f (ap (λ (x : KeptOrder). x.level) one) refl
keeps_by Parallel e f same o is = absurd (none-some o is)

kept_by_origins : (p : Plan) (e f : Event) (o : KeptOrder) → order_of p e ≡ Some o → order_of p f ≡ Some o → AreKeptInOrder p e f
kept_by_origins p e f o one other =
    record { queue = queue; kept = keeps_by (queue_of p e.queue).kind e f (one ∙ sym (ap (λ q. order_in (queue_of p q).kind f) queue ∙ other)) o one }
  where
    queue : e.queue ≡ f.queue
    queue = sym (order_queue (queue_of p e.queue).kind e o one) ∙ order_queue (queue_of p f.queue).kind f o other

-- the order that both have
record Shared (k : Kind) (e f : Event) : Type 0 where
  origin : KeptOrder
  one : order_in k e ≡ Some origin
  other : order_in k f ≡ Some origin

shared_by : (k : Kind) (e f : Event) → e.queue ≡ f.queue → keeps k e f ≡ true → Shared k e f
shared_by k e f queue kept = ⊎_elim (λ same. by_kind k (eqb_is (level_of e) (level_of f) same) (sym (cond-true (level_of e == level_of f) _ false same) ∙ kept))
    (λ differs. absurd (false≢true (sym (cond-false (level_of e == level_of f) _ false differs) ∙ kept))) (cases_Bool (level_of e == level_of f))
  where
    by_kind : (k : Kind) → level_of e ≡ level_of f → (if is_ordered k then true else is_atomic k && (e.flow == f.flow)) ≡ true → Shared k e f
    by_kind Atomic level flow =
        record {
          origin = record { queue = e.queue; level = level_of e; flow = Some e.flow };
          one = refl;
          other = λ i. Some (record { queue = sym queue i; level = sym level i; flow = Some (sym (eqb_is e.flow f.flow flow) i) });
        }
    by_kind Ordered level rest =
        record {
          origin = record { queue = e.queue; level = level_of e; flow = None };
          one = refl;
          other = λ i. Some (record { queue = sym queue i; level = sym level i; flow = None });
        }
    by_kind Parallel level rest = absurd (false≢true rest)

-- what was got first, by the kind of the queue and by the order that it keeps
first_by_kind : (k : Kind) (e : Event) (o : KeptOrder) (j i : ℕ) (u s : Seen) → order_in k e ≡ Some o → GotFirst o.flow j u i s → CameBefore k j u i s
first_by_kind Atomic e o j i u s is before =
    subst (λ (x : KeptOrder). GotFirst x.flow j u i s) (sym (same_Some (record { queue = e.queue; level = level_of e; flow = Some e.flow }) o is)) before
first_by_kind Ordered e o j i u s is before =
    subst (λ (x : KeptOrder). GotFirst x.flow j u i s) (sym (same_Some (record { queue = e.queue; level = level_of e; flow = None }) o is)) before
first_by_kind Parallel e o j i u s is before = absurd (none-some o is)

first_by_order : (k : Kind) (e : Event) (o : KeptOrder) (j i : ℕ) (u s : Seen) → order_in k e ≡ Some o → CameBefore k j u i s → GotFirst o.flow j u i s
first_by_order Atomic e o j i u s is before =
    subst (λ (x : KeptOrder). GotFirst x.flow j u i s) (same_Some (record { queue = e.queue; level = level_of e; flow = Some e.flow }) o is) before
first_by_order Ordered e o j i u s is before =
    subst (λ (x : KeptOrder). GotFirst x.flow j u i s) (same_Some (record { queue = e.queue; level = level_of e; flow = None }) o is) before
first_by_order Parallel e o j i u s is before = absurd before

-- of a crossing's stream: its order is that of both, and so is what was got first
module _ (p : Plan) (hs : List Seen) (i j : ℕ) (k : Stream) (one other : Seen) (reader winner : Seen) (read : slice_get hs i ≡ Some reader) (won : slice_get hs j ≡ Some winner)
    (one_read : slice_get hs i ≡ Some one) (other_won : slice_get hs j ≡ Some other) where
  named_first : (e : Event) (o : KeptOrder) → order_of p e ≡ Some o → k.kept ≡ o → GotFirst k.kept.flow j winner i reader → CameBefore (queue_of p e.queue).kind j other i one
  named_first e o is same before =
      first_by_kind (queue_of p e.queue).kind e o j i other one is
      (subst (λ (u : Seen). GotFirst o.flow j u i one) (same_Some winner other (sym won ∙ other_won))
      (subst (λ (s : Seen). GotFirst o.flow j winner i s) (same_Some reader one (sym read ∙ one_read)) (subst (λ (x : KeptOrder). GotFirst x.flow j winner i reader) same before)))

-- ---- a NEW itself

pub overtaken_by_crossed : (p : Plan) (hs : List Seen) (i j : ℕ) → is_flows p.serving ≡ false → IsCrossed p hs Itself i j → IsOvertaken p hs i j
overtaken_by_crossed p hs i j ports x =
    record {
      ports = ports;
      one = x.one.only;
      other = x.other.only;
      sender = ap (λ (k : Stream). k.sender) streams;
      later = omega (arith, x.after, x.one.place, x.other.place);
      same = kept_by_origins p x.one.only.reply.event x.other.only.reply.event x.one.kept x.one.keeps (x.other.keeps ∙ ap Some (sym kept));
      before = named_first p hs i j x.stream x.one.only.getter x.other.only.getter x.reader x.winner x.read x.won x.one.only.dequeued x.other.only.dequeued x.one.only.reply.event x.one.kept x.one.keeps
          (ap (λ (k : Stream). k.kept) x.one.stream) x.before;
    }
  where
    streams : stream_of x.one.only.sender.port None x.one.kept ≡ stream_of x.other.only.sender.port None x.other.kept
    streams = sym x.one.stream ∙ x.other.stream

    kept : x.one.kept ≡ x.other.kept
    kept = ap (λ (k : Stream). k.kept) streams

pub crossed_by_overtaken : (p : Plan) (hs : List Seen) (i j : ℕ) → IsOvertaken p hs i j → IsCrossed p hs Itself i j
crossed_by_overtaken p hs i j b =
    record {
      place = b.one.place;
      later = b.other.place;
      after = b.later;
      stream = stream_of b.one.sender.port None shared.origin;
      one = record { only = b.one; place = refl; kept = shared.origin; keeps = shared.one; stream = refl };
      other = record {
        only = b.other;
        place = refl;
        kept = shared.origin;
        keeps = ap (λ q. order_in (queue_of p q).kind b.other.reply.event) (sym b.same.queue) ∙ shared.other;
        stream = ap (λ l. stream_of l None shared.origin) b.sender;
      };
      reader = b.one.getter;
      read = b.one.dequeued;
      winner = b.other.getter;
      won = b.other.dequeued;
      before = first_by_order (queue_of p b.one.reply.event.queue).kind b.one.reply.event shared.origin j i b.other.getter b.one.getter shared.one b.before;
    }
  where
    shared : Shared (queue_of p b.one.reply.event.queue).kind b.one.reply.event b.other.reply.event
    shared = shared_by (queue_of p b.one.reply.event.queue).kind b.one.reply.event b.other.reply.event b.same.queue b.same.kept

-- ---- what it was forwarded as

pub reordered_by_crossed : (p : Plan) (hs : List Seen) (i j : ℕ) → is_flows p.serving ≡ false → IsCrossed p hs Forwarded i j → IsReordered p hs i j
reordered_by_crossed p hs i j ports x =
    record {
      ports = ports;
      one_at = x.one.holder;
      one = x.one.new;
      other_at = x.other.holder;
      other = x.other.new;
      sender = ap (λ (k : Stream). k.sender) streams;
      later = omega (arith, x.after, x.one.place, x.other.place);
      kept = kept_by_origins p x.one.new.reply.event x.other.new.reply.event x.one.origin x.one.origin_is (x.other.origin_is ∙ sym (ap (λ (k : Stream). k.origin) streams));
      one_on = x.one.on;
      other_on = x.other.on;
      same = kept_by_origins p x.one.on.onward.reply.event x.other.on.onward.reply.event x.one.kept x.one.keeps (x.other.keeps ∙ ap Some (sym kept));
      before = named_first p hs i j x.stream x.one.on.onward.getter x.other.on.onward.getter x.reader x.winner x.read x.won x.one.on.onward.dequeued x.other.on.onward.dequeued
          x.one.on.onward.reply.event x.one.kept x.one.keeps (ap (λ (k : Stream). k.kept) x.one.stream) x.before;
    }
  where
    streams : stream_of x.one.new.sender.port (Some x.one.origin) x.one.kept ≡ stream_of x.other.new.sender.port (Some x.other.origin) x.other.kept
    streams = sym x.one.stream ∙ x.other.stream

    kept : x.one.kept ≡ x.other.kept
    kept = ap (λ (k : Stream). k.kept) streams

pub crossed_by_reordered : (p : Plan) (hs : List Seen) (i j : ℕ) → IsReordered p hs i j → IsCrossed p hs Forwarded i j
crossed_by_reordered p hs i j b =
    record {
      place = b.one.place;
      later = b.other.place;
      after = b.later;
      stream = stream_of b.one.sender.port (Some shared.origin) onward.origin;
      one = record {
        holder = b.one_at;
        new = b.one;
        place = refl;
        origin = shared.origin;
        origin_is = shared.one;
        on = b.one_on;
        kept = onward.origin;
        keeps = onward.one;
        stream = refl;
      };
      other = record {
        holder = b.other_at;
        new = b.other;
        place = refl;
        origin = shared.origin;
        origin_is = ap (λ q. order_in (queue_of p q).kind b.other.reply.event) (sym b.kept.queue) ∙ shared.other;
        on = b.other_on;
        kept = onward.origin;
        keeps = ap (λ q. order_in (queue_of p q).kind b.other_on.onward.reply.event) (sym b.same.queue) ∙ onward.other;
        stream = ap (λ l. stream_of l (Some shared.origin) onward.origin) b.sender;
      };
      reader = b.one_on.onward.getter;
      read = b.one_on.onward.dequeued;
      winner = b.other_on.onward.getter;
      won = b.other_on.onward.dequeued;
      before = first_by_order (queue_of p b.one_on.onward.reply.event.queue).kind b.one_on.onward.reply.event onward.origin j i b.other_on.onward.getter b.one_on.onward.getter onward.one b.before;
    }
  where
    shared : Shared (queue_of p b.one.reply.event.queue).kind b.one.reply.event b.other.reply.event
    shared = shared_by (queue_of p b.one.reply.event.queue).kind b.one.reply.event b.other.reply.event b.kept.queue b.kept.kept

    onward : Shared (queue_of p b.one_on.onward.reply.event.queue).kind b.one_on.onward.reply.event b.other_on.onward.reply.event
    onward = shared_by (queue_of p b.one_on.onward.reply.event.queue).kind b.one_on.onward.reply.event b.other_on.onward.reply.event b.same.queue b.same.kept

-- ---- what is found

pub some_found : {E : Type 0} (P Q : ℕ → ℕ → Type 0) (r : Result (Option (ℕ × ℕ)) E) → ((i j : ℕ) → P i j → Q i j) → IfOk r (λ found. IfSome found (λ x. P x.0 x.1))
    → IfOk r (λ found. IfSome found (λ x. Q x.0 x.1))
some_found P Q (Ok None) turns is = tt
some_found P Q (Ok (Some x)) turns is = turns x.0 x.1 is
some_found P Q (Err e) turns is = tt

pub none_found : {E : Type 0} (P Q : ℕ → ℕ → Type 0) (r : Result (Option (ℕ × ℕ)) E) → ((i j : ℕ) → Q i j → P i j) → IfOk r (λ found. IfNone found ((i j : ℕ) → ¬ P i j))
    → IfOk r (λ found. IfNone found ((i j : ℕ) → ¬ Q i j))
none_found P Q (Ok None) turns none = λ i j bad. none i j (turns i j bad)
none_found P Q (Ok (Some x)) turns none = tt
none_found P Q (Err e) turns none = tt
