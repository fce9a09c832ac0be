-- What came of a NEW, by what is looked up of a history.
use Rattle.std.specs.Prelude.{ℕ, ◌≡◌, ◌+◌, ◌<◌, Bool, true, not, cond, ◌&&◌, List, ◌==◌, length, Option, Some, None, slice_get}
use Rattle.std.specs.BTreeMap.{BTreeMap, Updates}
use Rattle.std.proofs.Common.{IfNone, IfSome, refl, sym, ap, ◌∙◌, subst, arith, ⊎_elim}
use Rattle.std.proofs.lemmas.Bool.{and_from, and_parts, cases_Bool, cases_lt, cond-true, cond-false, false≢true}
use Rattle.std.proofs.lemmas.Option.{cond_some, none-some, same_Some, slice_get_within}
use Rattle.evt_types.specs.Operation.{is_new_reply, is_release_reply}
use Rattle.evt_types.specs.Plan.{Plan}
use Rattle.evt_types.specs.declared.event.Event.{Event}
use Rattle.evt_types.specs.declared.event.Reply.{Reply}
use Rattle.lists.proofs.Lists.{eqb_is, eqb_same, slice_get-some}
use Rattle.history_judge.proofs.Answering.{answer_unique}
use Rattle.history_judge.proofs.ByKeys.{count_agree}
use Rattle.history_judge.proofs.Fits.{count_more}
use Rattle.history_judge.proofs.Lefts.{is_at_value}
use Rattle.history_judge.proofs.Numbers.{count_first, same_fields}
use Rattle.history_judge.specs.Breaches.{IsOnlyOne, is_forward_reply}
use Rattle.history_judge.specs.Histories.{IsAnswerTo, IsSameBut}
use Rattle.history_judge.specs.Left.{left_for, value_cmp, value_of}
use Rattle.history_judge.specs.Streams.{AreGetters, AreReady, Comes, HasGetter, IsForwardedTo, IsGetter, IsGot, IsSentTo, arrival_by, arrival_in, arrival_of, getter_of, of_all, only_event, only_sent, order_of, stream_of}
use Rattle.history_judge.specs.Values.{IsExcess, gets_value, is_same_but, sends_value, times_sent}
use Rattle.history_judge.specs.declared.arrivals.Arrival.{Arrival}
use Rattle.history_judge.specs.declared.arrivals.Course.{Course}
use Rattle.history_judge.specs.declared.arrivals.Course.TheVariants.{Itself, Forwarded}
use Rattle.history_judge.specs.declared.arrivals.KeptOrder.{KeptOrder}
use Rattle.history_judge.specs.declared.arrivals.Tables.{Tables}
use Rattle.history_judge.specs.declared.seen.Deed.{Deed}
use Rattle.history_judge.specs.declared.seen.Deed.TheVariants.{Sent, Got}
use Rattle.history_judge.specs.declared.seen.Seen.{Seen}
use Rattle.history_judge.specs.declared.values.Value.{Value}

pub getter_set : (m n : BTreeMap Value ℕ) (e : Event) (i : ℕ) → Updates value_cmp m n (value_of e) (Some i) → IsGetter m n e i
getter_set m n e i updates f = updates.0 (value_of f) ∙ ap (λ b. cond b (Some i) (getter_of m f)) (is_at_value e f)

-- ---- who got each value

pub getters_more : (hs : List Seen) (i : ℕ) (s : Seen) (m n : BTreeMap Value ℕ) → slice_get hs i ≡ Some s → AreGetters hs i m → HasGetter m n s i → AreGetters hs (i + 1) n
getters_more hs i s m n at are more =
    record {
      each = λ e g is. ⊎_elim
          (λ here. let same : g ≡ i = same_Some g i (sym is ∙ (more e ∙ cond-true (gets_value e s.deed) (Some i) (getter_of m e) here)) in
          record { getter = s; there = ap (slice_get hs) same ∙ at; before = omega (arith, same); got = here })
          (λ away. let old : IsGot hs i e g = are.each e g (sym (cond-false (gets_value e s.deed) (Some i) (getter_of m e) away) ∙ (sym (more e) ∙ is)) in
          record { getter = old.getter; there = old.there; before = omega (arith, old.before); got = old.got })
          (cases_Bool (gets_value e s.deed));
      none = λ e g is got. ⊎_elim
          (λ here. none-some i (sym is ∙ (more e ∙ cond-true (gets_value e s.deed) (Some i) (getter_of m e) here)))
          (λ away. ⊎_elim
          (λ lt. are.none e g (sym (cond-false (gets_value e s.deed) (Some i) (getter_of m e) away) ∙ (sym (more e) ∙ is)) (record { getter = got.getter; there = got.there; before = lt; got = got.got }))
          (λ ge. let same : g ≡ i = omega (arith, ge, got.before) in
          false≢true (sym away ∙ (ap (λ (u : Seen). gets_value e u.deed) (same_Some s got.getter (sym at ∙ (ap (slice_get hs) (sym same) ∙ got.there))) ∙ got.got)))
          (cases_lt g i))
          (cases_Bool (gets_value e s.deed));
    }

-- events of one value are sent and got as often
first_alike : (e f g : Event) → IsSameBut e f → is_same_but e g ≡ is_same_but f g
first_alike e f g same =
    λ i. (same.flow i == g.flow) && ((same.sub_type i == g.sub_type) && ((same.event_type i == g.event_type) && ((same.queue i == g.queue) && ((same.priority i == g.priority) && (same.payload i == g.payload)))))

sent_alike : (hs : List Seen) (e f : Event) → IsSameBut e f → times_sent hs e ≡ times_sent hs f
sent_alike hs e f same = count_agree (λ (s : Seen). sends_value e s.deed) (λ (s : Seen). sends_value f s.deed) hs (λ (s : Seen). by_deed s.deed)
  where
    by_deed : (d : Deed) → sends_value e d ≡ sends_value f d
    by_deed (Sent r) = ap (λ b. not (is_release_reply r) && b) (first_alike e f r.event same)
    by_deed (Got g) = refl

gets_alike : (e f : Event) → IsSameBut e f → (d : Deed) → gets_value e d ≡ gets_value f d
gets_alike e f same (Sent r) = refl
gets_alike e f same (Got x) = first_alike e f x same

-- a value that was sent once isn't got twice
got_twice : (hs : List Seen) (e : Event) (n g h : ℕ) → ((i : ℕ) → ¬ IsExcess hs i) → times_sent hs e ≡ 1 → IsGot hs n e g → IsGot hs n e h → g < h → ⊥
got_twice hs e n g h few once one other lt = by_deed other.getter.deed refl other.got
  where
    by_deed : (d : Deed) → other.getter.deed ≡ d → gets_value e d ≡ true → ⊥
    by_deed (Sent r) is got = false≢true got
    by_deed (Got f) is got =
        few h
        (record {
          seen = other.getter;
          entry = other.there;
          event = f;
          got = is;
          more = omega (
            arith,
            once,
            sent_alike hs e f (same_fields e f got),
            count_more (λ (s : Seen). gets_value f s.deed) hs g one.getter one.there,
            cond-true {A = ℕ} (gets_value f one.getter.deed) 1 0 (sym (gets_alike e f (same_fields e f got) one.getter.deed) ∙ one.got),
            count_first (λ (s : Seen). gets_value f s.deed) hs (g + 1) h (omega (arith, lt)),
            count_more (λ (s : Seen). gets_value f s.deed) hs h other.getter other.there,
            cond-true {A = ℕ} (gets_value f other.getter.deed) 1 0 (sym (gets_alike e f (same_fields e f got) other.getter.deed) ∙ other.got),
          );
        })

one_getter : (hs : List Seen) (e : Event) (n g h : ℕ) → ((i : ℕ) → ¬ IsExcess hs i) → times_sent hs e ≡ 1 → IsGot hs n e g → IsGot hs n e h → g ≡ h
one_getter hs e n g h few once one other =
    ⊎_elim (λ lt. absurd (got_twice hs e n g h few once one other lt))
    (λ ge. ⊎_elim (λ lt. absurd (got_twice hs e n h g few once other one lt)) (λ le. omega (arith, ge, le)) (cases_lt h g)) (cases_lt g h)

-- ---- an event that is the only one of its value

module _ (p : Plan) (hs : List Seen) (t : Tables) (ready : AreReady p hs t) where
  -- its event is found at the place from which it was sent
  only_is : (is : Reply → Bool) (g : ℕ) (s : Seen) (o : IsOnlyOne is hs g) → slice_get hs o.place ≡ Some s → only_event is t.sent s ≡ Some o.reply.event
  only_is is g s o at =
      ap (only_sent is t.sent) (ap (λ (u : Seen). u.deed) (same_Some s o.sender (sym at ∙ o.enqueued)) ∙ o.sent)
      ∙ cond-true (is r && (left_for t.sent r.event == 1)) (Some r.event) None
      (and_from (is r) (left_for t.sent r.event == 1) o.kind
      (subst (λ n. (left_for t.sent r.event == n) ≡ true) (ready.counted r.event ∙ o.once) (eqb_same (left_for t.sent r.event))))
    where
      r : Reply
      r = o.reply

  only_got : (is : Reply → Bool) (g : ℕ) (o : IsOnlyOne is hs g) → IsGot hs (length hs) o.reply.event g
  only_got is g o = record { getter = o.getter; there = o.dequeued; before = slice_get_within hs g o.getter o.dequeued; got = o.got }

  -- and so is its getter
  only_getter : (is : Reply → Bool) (g : ℕ) (o : IsOnlyOne is hs g) → getter_of t.getters o.reply.event ≡ Some g
  only_getter is g o = by_found (getter_of t.getters o.reply.event) refl
    where
      by_found : (found : Option ℕ) → getter_of t.getters o.reply.event ≡ found → getter_of t.getters o.reply.event ≡ Some g
      by_found None none = absurd (ready.got.none o.reply.event g none (only_got is g o))
      by_found (Some h) some =
          some ∙ ap Some (one_getter hs o.reply.event (length hs) h g ready.few o.once (ready.got.each o.reply.event h some) (only_got is g o))

  -- what is found is one
  record Made (is : Reply → Bool) (a g : ℕ) (s : Seen) (e : Event) : Type 0 where
    only : IsOnlyOne is hs g
    place : only.place ≡ a
    sender : only.sender ≡ s
    event : only.reply.event ≡ e

  made : (is : Reply → Bool) (a g : ℕ) (s : Seen) (e : Event) → slice_get hs a ≡ Some s → only_event is t.sent s ≡ Some e → getter_of t.getters e ≡ Some g → Made is a g s e
  made is a g s e at sent got = by_deed s.deed refl sent
    where
      is_got : IsGot hs (length hs) e g
      is_got = ready.got.each e g got

      by_deed : (d : Deed) → s.deed ≡ d → only_sent is t.sent d ≡ Some e → Made is a g s e
      by_deed (Got f) deed some = absurd (none-some e some)
      by_deed (Sent r) deed some =
          let both = cond_some (is r && (left_for t.sent r.event == 1)) r.event e some in
          let parts = and_parts (is r) (left_for t.sent r.event == 1) both.0 in
          record {
            only = record {
              place = a;
              sender = s;
              enqueued = at;
              reply = r;
              sent = deed;
              kind = parts.0;
              once = sym (ready.counted r.event) ∙ eqb_is (left_for t.sent r.event) 1 parts.1;
              getter = is_got.getter;
              dequeued = is_got.there;
              got = subst (λ f. gets_value f is_got.getter.deed ≡ true) (sym both.1) is_got.got;
            };
            place = refl;
            sender = refl;
            event = both.1;
          }

  -- ---- who got it, of a queue that keeps an order

  record Arrived (l : ℕ) (origin : Option KeptOrder) (e : Event) (x : Arrival) : Type 0 where
    kept : KeptOrder
    keeps : order_of p e ≡ Some kept
    getter : getter_of t.getters e ≡ Some x.getter
    stream : x.stream ≡ stream_of l origin kept

  arrived : (l : ℕ) (origin : Option KeptOrder) (e : Event) (x : Arrival) → arrival_of p t.getters l origin e ≡ Some x → Arrived l origin e x
  arrived l origin e x is = by_order (order_of p e) refl is
    where
      by_getter : (kept : KeptOrder) → order_of p e ≡ Some kept → (found : Option ℕ) → getter_of t.getters e ≡ found → arrival_by l origin kept found ≡ Some x → Arrived l origin e x
      by_getter kept keeps None none some = absurd (none-some x some)
      by_getter kept keeps (Some g) found some =
          let same : record { stream = stream_of l origin kept; getter = g } ≡ x = same_Some (record { stream = stream_of l origin kept; getter = g }) x some in
          record { kept = kept; keeps = keeps; getter = found ∙ ap (λ (y : Arrival). Some y.getter) same; stream = ap (λ (y : Arrival). y.stream) (sym same) }

      by_order : (o : Option KeptOrder) → order_of p e ≡ o → arrival_in t.getters l origin e o ≡ Some x → Arrived l origin e x
      by_order None none some = absurd (none-some x some)
      by_order (Some kept) keeps some = by_getter kept keeps (getter_of t.getters e) refl some

  arrives : (l : ℕ) (origin : Option KeptOrder) (e : Event) (kept : KeptOrder) (x : Arrival) → order_of p e ≡ Some kept → getter_of t.getters e ≡ Some x.getter
      → x.stream ≡ stream_of l origin kept → arrival_of p t.getters l origin e ≡ Some x
  arrives l origin e kept x keeps got stream =
      ap (arrival_in t.getters l origin e) keeps ∙ (ap (arrival_by l origin kept) got ∙ ap (λ k. Some (record { stream = k; getter = x.getter })) (sym stream))

  -- ---- what came of the entry's NEW

  module _ (a : ℕ) (s : Seen) (at : slice_get hs a ≡ Some s) where
    -- how it is found
    pub record Found (x : Arrival) : Type 0 where
      pub event : Event
      pub new : only_event is_new_reply t.sent s ≡ Some event
      pub came : arrival_of p t.getters s.port None event ≡ Some x

    pub found_sent : (x : Arrival) → IsSentTo p hs a x → Found x
    found_sent x is =
        record {
          event = is.only.reply.event;
          new = only_is is_new_reply x.getter s is.only here;
          came = subst (λ l. arrival_of p t.getters l None is.only.reply.event ≡ Some x) port
              (arrives is.only.sender.port None is.only.reply.event is.kept x is.keeps (only_getter is_new_reply x.getter is.only) is.stream);
        }
      where
        here : slice_get hs is.only.place ≡ Some s
        here = ap (slice_get hs) is.place ∙ at

        port : is.only.sender.port ≡ s.port
        port = ap (λ (u : Seen). u.port) (same_Some is.only.sender s (sym is.only.enqueued ∙ here))

    pub sent_found : (x : Arrival) → Found x → IsSentTo p hs a x
    sent_found x f =
        record {
          only = m.only;
          place = m.place;
          kept = here.kept;
          keeps = ap (order_of p) m.event ∙ here.keeps;
          stream = here.stream ∙ ap (λ (u : Seen). stream_of u.port None here.kept) (sym m.sender);
        }
      where
        here : Arrived s.port None f.event x
        here = arrived s.port None f.event x f.came

        m : Made is_new_reply a x.getter s f.event
        m = made is_new_reply a x.getter s f.event at f.new here.getter

    pub record FoundOn (x : Arrival) : Type 0 where
      pub event : Event
      pub new : only_event is_new_reply t.sent s ≡ Some event
      pub origin : KeptOrder
      pub origin_is : order_of p event ≡ Some origin
      pub holder : ℕ
      pub taken : getter_of t.getters event ≡ Some holder
      pub answer : ℕ
      pub answered : slice_get t.answers.items holder ≡ Some (Some answer)
      pub answerer : Seen
      pub there : slice_get hs answer ≡ Some answerer
      pub onward : Event
      pub forward : only_event is_forward_reply t.sent answerer ≡ Some onward
      pub came : arrival_of p t.getters s.port (Some origin) onward ≡ Some x

    -- the answer is found
    answer_found : (g b : ℕ) → IsAnswerTo hs g b → slice_get t.answers.items g ≡ Some (Some b)
    answer_found g b is = by_found (slice_get t.answers.items g) refl
      where
        there : g < length t.answers.items
        there = omega (arith, slice_get_within hs g is.holder is.taken, ready.answered.sized)

        by_found : (o : Option (Option ℕ)) → slice_get t.answers.items g ≡ o → slice_get t.answers.items g ≡ Some (Some b)
        by_found None none = absurd (none-some (slice_get-some t.answers.items g there).0 (sym none ∙ (slice_get-some t.answers.items g there).1))
        by_found (Some None) none = absurd (ready.answered.none g b none is)
        by_found (Some (Some c)) some = some ∙ ap (λ n. Some (Some n)) (answer_unique hs g c b (ready.answered.each g c some) is)

    pub found_forwarded : (x : Arrival) → IsForwardedTo p hs a x → FoundOn x
    found_forwarded x is =
        record {
          event = is.new.reply.event;
          new = only_is is_new_reply is.holder s is.new here;
          origin = is.origin;
          origin_is = is.origin_is;
          holder = is.holder;
          taken = only_getter is_new_reply is.holder is.new;
          answer = is.on.onward.place;
          answered = answer_found is.holder is.on.onward.place is.on.answer;
          answerer = is.on.onward.sender;
          there = is.on.onward.enqueued;
          onward = is.on.onward.reply.event;
          forward = only_is is_forward_reply x.getter is.on.onward.sender is.on.onward is.on.onward.enqueued;
          came = subst (λ l. arrival_of p t.getters l (Some is.origin) is.on.onward.reply.event ≡ Some x) port
              (arrives is.new.sender.port (Some is.origin) is.on.onward.reply.event is.kept x is.keeps (only_getter is_forward_reply x.getter is.on.onward) is.stream);
        }
      where
        here : slice_get hs is.new.place ≡ Some s
        here = ap (slice_get hs) is.place ∙ at

        port : is.new.sender.port ≡ s.port
        port = ap (λ (u : Seen). u.port) (same_Some is.new.sender s (sym is.new.enqueued ∙ here))

    pub forwarded_found : (x : Arrival) → FoundOn x → IsForwardedTo p hs a x
    forwarded_found x f =
        record {
          holder = f.holder;
          new = m.only;
          place = m.place;
          origin = f.origin;
          origin_is = ap (order_of p) m.event ∙ f.origin_is;
          on = record { onward = w.only; answer = subst (IsAnswerTo hs f.holder) (sym w.place) (ready.answered.each f.holder f.answer f.answered) };
          kept = here.kept;
          keeps = ap (order_of p) w.event ∙ here.keeps;
          stream = here.stream ∙ ap (λ (u : Seen). stream_of u.port (Some f.origin) here.kept) (sym m.sender);
        }
      where
        here : Arrived s.port (Some f.origin) f.onward x
        here = arrived s.port (Some f.origin) f.onward x f.came

        m : Made is_new_reply a f.holder s f.event
        m = made is_new_reply a f.holder s f.event at f.new f.taken

        w : Made is_forward_reply f.answer x.getter f.answerer f.onward
        w = made is_forward_reply f.answer x.getter f.answerer f.onward f.there f.forward here.getter

    -- ---- by what is found

    pub came_sent : (e : Event) (o : Option Arrival) → only_event is_new_reply t.sent s ≡ Some e → o ≡ arrival_of p t.getters s.port None e → IfSome o (λ x. IsSentTo p hs a x)
    came_sent e None new is = tt
    came_sent e (Some x) new is = sent_found x (record { event = e; new = new; came = sym is })

    pub none_sent : (e : Event) (o : Option Arrival) → only_event is_new_reply t.sent s ≡ Some e → o ≡ arrival_of p t.getters s.port None e → IfNone o ((x : Arrival) → ¬ IsSentTo p hs a x)
    none_sent e None new is =
        λ x bad. let f = found_sent x bad in none-some x (is ∙ (ap (arrival_of p t.getters s.port None) (same_Some e f.event (sym new ∙ f.new)) ∙ f.came))
    none_sent e (Some y) new is = tt

    module _ (e : Event) (new : only_event is_new_reply t.sent s ≡ Some e) where
      same_event : (x : Arrival) (f : FoundOn x) → e ≡ f.event
      same_event x f = same_Some e f.event (sym new ∙ f.new)

      pub none_held : getter_of t.getters e ≡ None → (x : Arrival) → ¬ IsForwardedTo p hs a x
      none_held none x bad =
          let f = found_forwarded x bad in none-some f.holder (sym none ∙ (ap (getter_of t.getters) (same_event x f) ∙ f.taken))

      module _ (h : ℕ) (taken : getter_of t.getters e ≡ Some h) where
        same_holder : (x : Arrival) (f : FoundOn x) → h ≡ f.holder
        same_holder x f = same_Some h f.holder (sym taken ∙ (ap (getter_of t.getters) (same_event x f) ∙ f.taken))

        pub holder_there : h < length t.answers.items
        holder_there = omega (arith, (ready.got.each e h taken).before, ready.answered.sized)

        pub none_answered : slice_get t.answers.items h ≡ Some None → (x : Arrival) → ¬ IsForwardedTo p hs a x
        none_answered none x bad =
            let f = found_forwarded x bad in
            none-some f.answer (same_Some None (Some f.answer) (sym none ∙ (ap (slice_get t.answers.items) (same_holder x f) ∙ f.answered)))

        module _ (b : ℕ) (w : Seen) (answered : slice_get t.answers.items h ≡ Some (Some b)) (there : slice_get hs b ≡ Some w) where
          same_answerer : (x : Arrival) (f : FoundOn x) → w ≡ f.answerer
          same_answerer x f =
              same_Some w f.answerer
              (sym there
              ∙ (ap (slice_get hs) (same_Some b f.answer (same_Some (Some b) (Some f.answer) (sym answered ∙ (ap (slice_get t.answers.items) (same_holder x f) ∙ f.answered))))
              ∙ f.there))

          pub none_forwarded : only_event is_forward_reply t.sent w ≡ None → (x : Arrival) → ¬ IsForwardedTo p hs a x
          none_forwarded none x bad =
              let f = found_forwarded x bad in
              none-some f.onward (sym none ∙ (ap (only_event is_forward_reply t.sent) (same_answerer x f) ∙ f.forward))

          module _ (origin : KeptOrder) (origin_is : order_of p e ≡ Some origin) (u : Event) (forward : only_event is_forward_reply t.sent w ≡ Some u) where
            pub came_forwarded : (o : Option Arrival) → o ≡ arrival_of p t.getters s.port (Some origin) u → IfSome o (λ x. IsForwardedTo p hs a x)
            came_forwarded None is = tt
            came_forwarded (Some x) is =
                forwarded_found x
                (record {
                  event = e;
                  new = new;
                  origin = origin;
                  origin_is = origin_is;
                  holder = h;
                  taken = taken;
                  answer = b;
                  answered = answered;
                  answerer = w;
                  there = there;
                  onward = u;
                  forward = forward;
                  came = sym is;
                })

            pub none_came : (o : Option Arrival) → o ≡ arrival_of p t.getters s.port (Some origin) u → IfNone o ((x : Arrival) → ¬ IsForwardedTo p hs a x)
            none_came None is =
                λ x bad. let f = found_forwarded x bad in
                none-some x
                (is
                ∙ (ap (λ y. arrival_of p t.getters s.port (Some y) u) (same_Some origin f.origin (sym origin_is ∙ (ap (order_of p) (same_event x f) ∙ f.origin_is)))
                ∙ (ap (arrival_of p t.getters s.port (Some f.origin))
                (same_Some u f.onward (sym forward ∙ (ap (only_event is_forward_reply t.sent) (same_answerer x f) ∙ f.forward)))
                ∙ f.came)))
            none_came (Some y) is = tt

    -- ---- it is one thing

    pub comes_once : (c : Course) (x y : Arrival) → Comes p hs c a x → Comes p hs c a y → x ≡ y
    comes_once Itself x y one other =
        let f = found_sent x one in
        let g = found_sent y other in
        same_Some x y (sym f.came ∙ (ap (arrival_of p t.getters s.port None) (same_Some f.event g.event (sym f.new ∙ g.new)) ∙ g.came))
    comes_once Forwarded x y one other = same_Some x y (sym f.came ∙ (ap (λ o. arrival_of p t.getters s.port (Some o) f.onward) origins ∙ (ap (arrival_of p t.getters s.port (Some g.origin)) onwards ∙ g.came)))
      where
        f : FoundOn x
        f = found_forwarded x one

        g : FoundOn y
        g = found_forwarded y other

        events : f.event ≡ g.event
        events = same_Some f.event g.event (sym f.new ∙ g.new)

        origins : f.origin ≡ g.origin
        origins = same_Some f.origin g.origin (sym f.origin_is ∙ (ap (order_of p) events ∙ g.origin_is))

        holders : f.holder ≡ g.holder
        holders = same_Some f.holder g.holder (sym f.taken ∙ (ap (getter_of t.getters) events ∙ g.taken))

        answers : f.answer ≡ g.answer
        answers = same_Some f.answer g.answer (same_Some (Some f.answer) (Some g.answer) (sym f.answered ∙ (ap (slice_get t.answers.items) holders ∙ g.answered)))

        answerers : f.answerer ≡ g.answerer
        answerers = same_Some f.answerer g.answerer (sym f.there ∙ (ap (slice_get hs) answers ∙ g.there))

        onwards : f.onward ≡ g.onward
        onwards = same_Some f.onward g.onward (sym f.forward ∙ (ap (only_event is_forward_reply t.sent) answerers ∙ g.forward))

-- its stream is that of all ports
pub comes_to_all : (p : Plan) (hs : List Seen) (c : Course) (a : ℕ) (x : Arrival) → Comes p hs c a x → of_all x.stream ≡ x.stream
comes_to_all p hs Itself a x is = ap of_all is.stream ∙ sym is.stream
comes_to_all p hs Forwarded a x is = ap of_all is.stream ∙ sym is.stream

-- its getter is an entry
pub getter_within : (p : Plan) (hs : List Seen) (c : Course) (a : ℕ) (x : Arrival) → Comes p hs c a x → x.getter < length hs
getter_within p hs Itself a x is = slice_get_within hs x.getter is.only.getter is.only.dequeued
getter_within p hs Forwarded a x is = slice_get_within hs x.getter is.on.onward.getter is.on.onward.dequeued

pub none_by : {X : Type 0} {Q : Type 0} (o : Option X) → Q → IfNone o Q
none_by None q = q
none_by (Some x) q = tt
