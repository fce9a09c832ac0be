-- What a FORWARD brought, of an event that was sent once, is accepted from the pair whose receipt it answers.
use Rattle.std.specs.Prelude.{ℕ, ◌≡◌, ◌<◌, ◌≤◌, Bool, true, false, not, List, [], ◌∷◌, ◌++◌, ◌==◌, length, take, count_by, Some, None, slice_get}
use Rattle.std.proofs.Common.{refl, sym, ap, ◌∙◌, subst, arith, ⊎_elim}
use Rattle.std.proofs.lemmas.Bool.{and_from, and_parts, cases_Bool, cases_eq, cases_lt, cond-false, cond-true, false≢true}
use Rattle.std.proofs.lemmas.Option.{none-some, same_Some, slice_get_within}
use Rattle.evt_types.specs.Operation.{is_answer, is_answer_op, is_release_op, is_release_reply, passes_on}
use Rattle.evt_types.specs.Plan.{Plan, is_flows}
use Rattle.evt_types.specs.declared.event.Event.{Event}
use Rattle.evt_types.specs.declared.event.Op.{Op}
use Rattle.evt_types.specs.declared.event.Op.TheVariants as ops
use Rattle.evt_types.specs.declared.event.Reply.{Reply}
use Rattle.evt_types.specs.declared.step.Outcome.TheVariants.{Forwarded}
use Rattle.evt_types.specs.declared.step.Source.{Source}
use Rattle.evt_types.specs.declared.step.Source.TheVariants.{New, Of}
use Rattle.evt_types.specs.declared.step.Step.{Step}
use Rattle.evt_types.specs.declared.step.Step.TheVariants.{Accept}
use Rattle.lists.proofs.Lists.{eqb_is, eqb_same, slice_get-append_left}
use Rattle.lists.proofs.Parts.{slice_get_after}
use Rattle.transcripts.proofs.Pushes.{Sends, is_pair_is, sends_is, taken_in-same}
use Rattle.transcripts.proofs.Replies.{out-append, said_in-done, said_in-more, said_in-new}
use Rattle.transcripts.specs.Lawful.{HasOrigin}
use Rattle.transcripts.specs.Replies.{Said, replies_in, said, said_by, said_in}
use Rattle.transcripts.specs.Transcript.{answers, forwards, is_pair, next_pair, out, sends, sent, sent_for, taken, taken_in}
use Rattle.world_laws.proofs.Consistent.{consistent_end, consistent_none}
use Rattle.world_laws.proofs.NextReplies.{NextReply, answers_so_far, new_is, next_reply}
use Rattle.world_laws.specs.World.{World, IsConsistent, Move, empty}
use Rattle.history_judge.proofs.Accepted.{has_origin, is_said}
use Rattle.history_judge.proofs.ByKeys.{count_le, one_counted, some_is}
use Rattle.history_judge.proofs.Fits.{submitted_at}
use Rattle.history_judge.proofs.Lefts.{same_self}
use Rattle.history_judge.proofs.Numbers.{sent_by_one, two_counted}
use Rattle.history_judge.proofs.Traced.{IsMadeAt, IsMappedAt, made_at, mapped_at, stands_mapped}
use Rattle.history_judge.proofs.Unsent.{brings, brought_few, few_lanes, said_brings, sent_here, silent, told_so_far}
use Rattle.history_judge.specs.Breaches.{IsForwarded, IsOnlyOne, is_forward_reply}
use Rattle.history_judge.specs.Histories.{Explains, IsAnswerTo, WasDone, WasSent, answered_before, got_before, sent_before}
use Rattle.history_judge.specs.Histories as histories
use Rattle.history_judge.specs.Values.{is_same_but, sends_value}
use Rattle.history_judge.specs.declared.seen.Seen.{Seen}

-- a FORWARD brings its event
forward_brings : (r : Reply) → is_forward_reply r ≡ true → brings r.event r ≡ true
forward_brings r forward = and_from (not (is_release_reply r)) (is_same_but r.event r.event) (by_op r.event.op (and_parts (is_answer r) (passes_on r.event.op) forward).1) (same_self r.event)
  where
    by_op : (o : Op) → passes_on o ≡ true → not (is_release_op o) ≡ true
    by_op ops.New is = absurd (false≢true is)
    by_op ops.Forward is = refl
    by_op ops.Release is = absurd (false≢true is)
    by_op ops.ForwardMore is = refl

-- of no more than one that pass there is one place
one_place : {X : Type 0} (f : X → Bool) (xs : List X) (i j : ℕ) (x y : X) → count_by f xs ≤ 1 → slice_get xs i ≡ Some x → slice_get xs j ≡ Some y → f x ≡ true → f y ≡ true → i ≡ j
one_place f xs i j x y few at there one other =
    ⊎_elim
    (λ lt. absurd (omega (arith, few, two_counted f xs i j x y lt at there one other)))
    (λ ge. ⊎_elim (λ lt. absurd (omega (arith, few, two_counted f xs j i y x lt there at other one))) (λ le. omega (arith, ge, le)) (cases_lt j i))
    (cases_lt i j)

sent_for_is : (q n : ℕ) (y : (ℕ × ℕ) × Event) (a : Event) → sent_for q n y ≡ Some a → ◌≡◌ {A = (ℕ × ℕ) × Event} y ((q, n), a)
sent_for_is q n y a is = ⊎_elim of_pair other (cases_Bool (is_pair q n y.0))
  where
    of_pair : is_pair q n y.0 ≡ true → ◌≡◌ {A = (ℕ × ℕ) × Event} y ((q, n), a)
    of_pair same =
        let parts = is_pair_is q n y.0 same in
        let event : y.1 ≡ a = same_Some y.1 a (sym (cond-true (is_pair q n y.0) (Some y.1) None same) ∙ is) in
        λ i. ((parts.0 i, parts.1 i), event i)

    other : is_pair q n y.0 ≡ false → ◌≡◌ {A = (ℕ × ℕ) × Event} y ((q, n), a)
    other apart = absurd (none-some a (sym (cond-false (is_pair q n y.0) (Some y.1) None apart) ∙ is))

-- ---- what was passed on

-- a step that passes the event on, from the pair
record IsPassed (T : List Step) (x : ℕ × ℕ) (a : Event) : Type 0 where
  front : List Step
  step : Step
  rest : List Step
  whole : front ++ step ∷ rest ≡ T
  sending : Sends front step x a

passed_on : (P rest T : List Step) (r q n : ℕ) (a : Event) → P ++ Accept r a (Of q n) ∷ rest ≡ T → HasOrigin T → IsPassed T (q, n) a
unfolding taken forwards sent
passed_on P rest T r q n a whole origin =
    record { front = made.front; step = made.item; rest = made.rest; whole = made.whole; sending = sends_is made.front made.item (q, n) a (made.is ∙ ap Some (sent_for_is q n one.item a one.is)) }
  where
    accepted : slice_get (taken T q n) (length (taken P q n)) ≡ Some a
    accepted = stands_mapped (taken_in q n) P rest T (Accept r a (Of q n)) a whole (taken_in-same r q n a)

    forwarded : slice_get (forwards T q n) (length (taken P q n)) ≡ Some a
    forwarded =
        ap (λ es. slice_get es (length (taken P q n))) (sym (origin q n).1)
        ∙ (slice_get-append_left (taken T q n) (origin q n).0 (length (taken P q n)) (slice_get_within (taken T q n) (length (taken P q n)) a accepted) ∙ accepted)

    one : IsMappedAt (sent_for q n) (sent T) (length (taken P q n)) a
    one = mapped_at (sent_for q n) (sent T) (length (taken P q n)) a forwarded

    made : IsMadeAt sends [] T one.item
    made = made_at sends [] T (length one.front) one.item (slice_get_after one.front one.rest one.item (sent T) (sym one.whole))

-- ---- who said it

-- What was said is the reply of the only entry with its event: the lane is its port, which had sent as much before it.
record IsOwn (hs : List Seen) (place : ℕ) (sender : Seen) (reply : Reply) (P : List Step) (l : ℕ) (y : Said) : Type 0 where
  lane : sender.port ≡ l
  says : said reply ≡ y
  before : length (replies_in P l) ≡ sent_before hs l place

module _ (p : Plan) (hs : List Seen) (moves : List Move) (v : World) (clock : ℕ → ℕ) (x : Explains p hs moves v clock) (plain : is_flows p.serving ≡ false) (g h : ℕ) (b : IsForwarded hs g h) where
  abbrev pub o : IsOnlyOne is_forward_reply hs h
  o = b.onward

  abbrev pub e : Event
  e = o.reply.event

  world : IsConsistent p v
  world = consistent_end p empty v moves x.run (consistent_none p)

  own_brings : brings e o.reply ≡ true
  own_brings = forward_brings o.reply o.kind

  own_sends : sends_value e o.sender.deed ≡ true
  own_sends = ap (sends_value e) o.sent ∙ own_brings

  -- the lane is a port's
  lane_there : (P rest : List Step) (s : Step) (l : ℕ) (y : Said) → P ++ s ∷ rest ≡ v.log → said_in l s ≡ Some y → l < length p.ports
  unfolding replies_in
  lane_there P rest s l y whole says =
      ⊎_elim
      (λ lt. lt)
      (λ past. absurd (none-some y
      (ap (λ ys. slice_get ys (length (replies_in P l))) (sym (silent p v.log l world.lawful.formed (omega (arith, past, few_lanes p plain))))
      ∙ stands_mapped (said_in l) P rest v.log s y whole says)))
      (cases_lt l (length p.ports))

  said_once : (P rest : List Step) (s : Step) (l : ℕ) (y : Said) → P ++ s ∷ rest ≡ v.log → said_in l s ≡ Some y → is_said (is_same_but e) y ≡ true → IsOwn hs o.place o.sender o.reply P l y
  said_once P rest s l y whole says same =
      record {
        lane = lane;
        says = ap said (same_Some o.reply next.reply (sym there ∙ (ap (slice_get (v.submitted l)) (sym before) ∙ next.there))) ∙ next.is;
        before = before;
      }
    where
      next : NextReply (v.submitted l) P l y
      next = next_reply P rest v.log s l (v.submitted l) y whole (world.taken l) says

      next_brings : brings e next.reply ≡ true
      next_brings = sym (said_brings e next.reply) ∙ (ap (is_said (is_same_but e)) next.is ∙ same)

      few : count_by (brings e) (v.submitted l) ≤ count_by (sent_here e l) hs
      few = brought_few p hs moves v clock x e l (lane_there P rest s l y whole says)

      lane : o.sender.port ≡ l
      lane =
          ⊎_elim
          (λ is. is)
          (λ differs. absurd (omega (
            arith,
            few,
            one_counted (brings e) (v.submitted l) (length (replies_in P l)) (ap (some_is (brings e)) next.there ∙ next_brings),
            sent_by_one hs e o.sender.port l o.once own_sent (λ is. differs (sym is)),
          )))
          (cases_eq o.sender.port l)
        where
          own_sent : 1 ≤ count_by (sent_here e o.sender.port) hs
          own_sent =
              one_counted (sent_here e o.sender.port) hs o.place
              (ap (some_is (sent_here e o.sender.port)) o.enqueued ∙ and_from (o.sender.port == o.sender.port) (sends_value e o.sender.deed) (eqb_same o.sender.port) own_sends)

      there : slice_get (v.submitted l) (sent_before hs l o.place) ≡ Some o.reply
      there =
          subst (λ m. slice_get (v.submitted m) (sent_before hs m o.place) ≡ Some o.reply) lane
          (submitted_at p hs moves v clock o.place o.sender o.reply x (subst (WasDone hs moves v clock o.place o.sender) o.sent (x.each o.place o.sender o.enqueued)))

      before : length (replies_in P l) ≡ sent_before hs l o.place
      before =
          one_place (brings e) (v.submitted l) (length (replies_in P l)) (sent_before hs l o.place) next.reply o.reply
          (omega (arith, few, o.once, count_le (sent_here e l) (λ (s : Seen). sends_value e s.deed) hs (λ (s : Seen) both. (and_parts (s.port == l) (sends_value e s.deed) both).1)))
          next.there there next_brings own_brings

  -- ---- the pair

  holder_is : o.sender.port ≡ b.answer.holder.port
  holder_is =
      ap (λ (s : Seen). s.port) (same_Some o.sender b.answer.answerer (sym o.enqueued ∙ b.answer.there))
      ∙ eqb_is b.answer.answerer.port b.answer.holder.port (and_parts (b.answer.answerer.port == b.answer.holder.port) (histories.answers b.answer.answerer.deed) b.answer.answer).0

  -- the answer to the lane's next pair where the entry's reply is its next, is to that of its receipt
  answered_pair : (P rest : List Step) (l : ℕ) (y : ℕ × ℕ) → P ++ rest ≡ v.log → o.sender.port ≡ l → length (replies_in P l) ≡ sent_before hs l o.place → next_pair P l ≡ Some y
      → slice_get (out v.log b.answer.holder.port) (got_before hs b.answer.holder.port g) ≡ Some y
  answered_pair P rest l y whole lane before next =
      subst (λ m. slice_get (out v.log m) (got_before hs b.answer.holder.port g) ≡ Some y) (sym lane ∙ holder_is)
      (ap (slice_get (out v.log l)) (sym turn) ∙ given)
    where
      given : slice_get (out v.log l) (length (answers P l)) ≡ Some y
      given =
          ap (λ xs. slice_get xs (length (answers P l))) (ap (λ U. out U l) (sym whole) ∙ out-append P rest l)
          ∙ (slice_get-append_left (out P l) (out rest l) (length (answers P l)) (slice_get_within (out P l) (length (answers P l)) y next) ∙ next)

      turn : length (answers P l) ≡ got_before hs b.answer.holder.port g
      turn =
          sym (answers_so_far P rest v.log l (v.submitted l) whole (world.taken l))
          ∙ (ap (λ n. count_by is_answer (take n (v.submitted l))) before
          ∙ (told_so_far p hs moves v clock x is_answer histories.answers (λ r. refl) (λ f. refl) l o.place (omega (arith, slice_get_within hs o.place o.sender o.enqueued))
          ∙ (ap (λ m. answered_before hs m o.place) (sym lane ∙ holder_is) ∙ b.answer.turn)))

  pub forwarded_from : (pair : ℕ × ℕ) → slice_get (out v.log b.answer.holder.port) (got_before hs b.answer.holder.port g) ≡ Some pair
      → (P rest : List Step) (r : ℕ) (a : Event) (c : Source) → P ++ Accept r a c ∷ rest ≡ v.log → is_same_but e a ≡ true → c ≡ Of pair.0 pair.1
  forwarded_from pair received P rest r a (New l) whole same =
      let own : IsOwn hs o.place o.sender o.reply P l (said_by ops.New a) = said_once P rest (Accept r a (New l)) l (said_by ops.New a) whole (said_in-new l r a) same in
      absurd (false≢true (sym (ap is_answer_op (new_is o.reply a own.says).0) ∙ (and_parts (is_answer o.reply) (passes_on o.reply.event.op) o.kind).0))
  forwarded_from pair received P rest r a (Of q n) whole same =
      ap (λ (y : ℕ × ℕ). Of y.0 y.1)
      (same_Some (q, n) pair (sym (answered_pair passed.front (passed.step ∷ passed.rest) l (q, n) passed.whole own.1.lane own.1.before passed.sending.next) ∙ received))
    where
      passed : IsPassed v.log (q, n) a
      passed = passed_on P rest v.log r q n a whole (has_origin p v.log world.lawful)

      l : ℕ
      l = passed.sending.lane

      by_step : (y : Said) → said_in l passed.step ≡ Some y → is_said (is_same_but e) y ≡ true → (z : Said) × IsOwn hs o.place o.sender o.reply passed.front l z
      by_step y says is = (y, said_once passed.front passed.rest passed.step l y passed.whole says is)

      own : (y : Said) × IsOwn hs o.place o.sender o.reply passed.front l y
      own =
          ⊎_elim
          (λ done. by_step (said_by ops.Forward a) (ap (said_in l) done ∙ said_in-done l (Forwarded a)) same)
          (λ more. by_step (said_by ops.ForwardMore a) (ap (said_in l) more ∙ said_in-more l a) same)
          passed.sending.is
