-- The moves of one step of the log, from the world before the step to the one after it.
use Rattle.std.specs.Prelude.{ℕ, ◌≡◌, ◌≢◌, ◌+◌, ◌<◌, ◌≤◌, ◌^◌, Bool, true, false, cond, ◌&&◌, ◌||◌, List, [], ◌∷◌, ◌++◌, ◌==◌, nat_lt, length, take, count_by, min, Some, None, slice_get, if◌then◌else◌}
use Rattle.std.proofs.Common.{refl, sym, ap, ◌∙◌, subst, arith, ⊎_elim, append_assoc, append-nil, length-append}
use Rattle.std.proofs.lemmas.Bool.{and_from, cases_eq, cond-true, cond-false, lt-ltb, ltb-false, ltb-true, or_left, or_right, false≢true}
use Rattle.std.proofs.lemmas.List.{length-take-le, length_push}
use Rattle.std.proofs.lemmas.Option.{get_or_from_slice_get, slice_get_within}
use Rattle.evt_types.specs.Event.{release_event}
use Rattle.evt_types.specs.Operation.{is_answer, is_answer_op, is_more_op, is_more_reply, is_new_op, is_new_reply}
use Rattle.evt_types.specs.Plan.{Plan, bound_of}
use Rattle.evt_types.specs.declared.event.Event.{Event}
use Rattle.evt_types.specs.declared.event.Op.{Op}
use Rattle.evt_types.specs.declared.event.Op.TheVariants as ops
use Rattle.evt_types.specs.declared.event.Reply.{Reply}
use Rattle.evt_types.specs.declared.event.TheConstants.{MAX_EXTRAS}
use Rattle.evt_types.specs.declared.step.Outcome.TheVariants.{Forwarded, Released}
use Rattle.evt_types.specs.declared.step.Source.TheVariants.{New, Of}
use Rattle.evt_types.specs.declared.step.Step.{Step}
use Rattle.evt_types.specs.declared.step.Step.TheVariants.{Accept, Give, Done, More, Turned, Bounced, Shut}
use Rattle.lists.proofs.Lists.{eqb_same, eqb_other, slice_get-last}
use Rattle.lists.proofs.Parts.{take_next}
use Rattle.transcripts.proofs.Entries.{entries_few}
use Rattle.transcripts.proofs.Pushes.{given_to-same, given_to-other, length-unanswered, out-none, out-some}
use Rattle.transcripts.proofs.Replies.{form_replies, replies_in-append, replies_in-none, said_in-done, said_in-more, said_in-new, said_in-turned}
use Rattle.transcripts.specs.Allowed.{Allowed}
use Rattle.transcripts.specs.Lawful.{Lawful}
use Rattle.transcripts.specs.Replies.{said, said_in, said_by, replies_in}
use Rattle.transcripts.specs.Standing.{AreStepsBy, AreStepsOf, may_be_taken, may_be_taken_by, may_forward_at}
use Rattle.transcripts.specs.Transcript.{entries, extras, given_to, has_shut, inside, is_from_of, out, unanswered}
use Rattle.world_laws.proofs.Consistent.{hand_some, taken_out}
use Rattle.world_laws.proofs.Fronts.{Split, split, front_lawful, step_at, none_after_new, none_after_turned, none_after_give, none_after_bounced, none_after_shut}
use Rattle.world_laws.proofs.NextReplies.{next_reply, new_is, forward_is, more_is, release_is, answers_so_far, one_more_answer}
use Rattle.world_laws.proofs.Worlds.{LeadsTo-append, at_each, at_lane-same, same_worlds}
use Rattle.world_laws.specs.Logged.{forwards_first, moves_at, moves_from, reply_after, reply_moves}
use Rattle.world_laws.specs.World.{World, Move, Submits, Takes, Gives, Receives, Bounces, Shuts, IsConsistent, LeadsTo, MaySubmit, MayTake, in_hand, moved, with_steps}

-- the world when the log was P, on the way to v: what each lane was given was received at once, where it ever was, and the replies
-- were submitted as they were taken
abbrev pub world_at : World → List Step → World
world_at v P = record { log = P; received = λ l. min (length (out P l)) (v.received l); submitted = λ l. take (length (replies_in P l)) (v.submitted l) }

-- ---- a reply is submitted and taken

-- the reply with the event may be taken, and these are its steps
record IsTaken (p : Plan) (P : List Step) (l : ℕ) (e : Event) (taken : List Step) : Type 0 where
  may : may_be_taken p P l e ≡ true
  are : AreStepsOf p P l e taken

-- by the operation of the event
taken_by : (o : Op) (p : Plan) (P : List Step) (l : ℕ) (e : Event) (taken : List Step) → e.op ≡ o → may_be_taken_by o p P l e ≡ true → AreStepsBy o P l e taken → Lawful p (P ++ taken) → IsTaken p P l e taken
taken_by o p P l e taken op may form lawful =
    record {
      may = subst (λ k. may_be_taken_by k p P l e ≡ true) (sym op) may;
      are = record { form = subst (λ k. AreStepsBy k P l e taken) (sym op) form; lawful = lawful };
    }

-- the Submit and the Take lead from the world before the reply's steps to the one after them
reply_leads : (p : Plan) (v : World) (P : List Step) (l : ℕ) (r : Reply) (taken : List Step) → slice_get (v.submitted l) (length (replies_in P l)) ≡ Some r
    → MaySubmit p (world_at v P) l r → IsTaken p P l r.event taken → LeadsTo p (world_at v P) (reply_moves v P l taken) (world_at v (P ++ taken))
reply_leads p v P l r taken there may is =
    subst (λ x. LeadsTo p (world_at v P) (Submits l x ∷ Takes l taken ∷ []) (world_at v (P ++ taken))) (sym same_reply) (may, (take_it, end))
  where
    so_far : ℕ
    so_far = length (replies_in P l)

    same_reply : reply_after v P l ≡ r
    same_reply = get_or_from_slice_get (v.submitted l) so_far r (record { event = release_event }) there

    long : length (take so_far (v.submitted l)) ≡ so_far
    long = let within : so_far < length (v.submitted l) = slice_get_within (v.submitted l) so_far r there in length-take-le so_far (v.submitted l) (omega arith)

    after : World
    after = moved (world_at v P) (Submits l r)

    take_it : MayTake p after l taken
    take_it = record {
      reply = r;
      next = ap (λ rs. slice_get rs so_far) (at_lane-same l (take so_far (v.submitted l) ++ r ∷ []) (λ m. take (length (replies_in P m)) (v.submitted m)))
          ∙ (ap (slice_get (take so_far (v.submitted l) ++ r ∷ [])) (sym long) ∙ slice_get-last (take so_far (v.submitted l)) r);
      may = is.may;
      are = is.are;
    }

    says : (m : ℕ) → replies_in (P ++ taken) m ≡ replies_in P m ++ (if m == l then said r ∷ [] else [])
    says m = replies_in-append P taken m ∙ ap (λ xs. replies_in P m ++ xs) (form_replies r.event.op P l r.event taken is.are.form m)

    here : take so_far (v.submitted l) ++ r ∷ [] ≡ take (length (replies_in (P ++ taken) l)) (v.submitted l)
    here =
        sym (take_next (v.submitted l) so_far r there)
        ∙ ap (λ n. take n (v.submitted l)) (sym (ap length (says l ∙ ap (λ xs. replies_in P l ++ xs) (cond-true (l == l) (said r ∷ []) [] (eqb_same l))) ∙ length_push (replies_in P l) (said r)))

    other : (m : ℕ) → m ≢ l → take (length (replies_in P m)) (v.submitted m) ≡ take (length (replies_in (P ++ taken) m)) (v.submitted m)
    other m differs =
        ap (λ xs. take (length xs) (v.submitted m))
        (sym (says m ∙ (ap (λ xs. replies_in P m ++ xs) (cond-false (m == l) (said r ∷ []) [] (eqb_other m l differs)) ∙ append-nil (replies_in P m))))

    end : moved after (Takes l taken) ≡ world_at v (P ++ taken)
    end =
        same_worlds (moved after (Takes l taken)) (world_at v (P ++ taken)) refl
        (λ m. ap (λ xs. min (length xs) (v.received m)) (sym (taken_out p after l taken take_it m)))
        (at_each (λ m rs. rs ≡ take (length (replies_in (P ++ taken) m)) (v.submitted m)) l (take so_far (v.submitted l) ++ r ∷ []) (λ m. take (length (replies_in P m)) (v.submitted m)) here other)

-- ---- the steps of the log, one by one

module _ (p : Plan) (v : World) (c : IsConsistent p v) (short : length v.log < 2 ^ 63) (P rest : List Step) where
  -- the counts have room
  few_entries : (s : Step) → P ++ s ∷ rest ≡ v.log → Lawful p P → nat_lt (entries p P) (2 ^ 63) ≡ true
  few_entries s e lawful =
      let whole : length P + length (s ∷ rest) ≡ length v.log = sym (length-append P (s ∷ rest)) ∙ ap length e in
      lt-ltb (entries p P) (2 ^ 63) (omega (arith, entries_few p P lawful))

  before : (s : Step) → P ++ s ∷ rest ≡ v.log → forwards_first (s ∷ rest) ≡ [] → Lawful p P
  before s e none = front_lawful p v.log c.lawful P (s ∷ rest) e none

  after_one : (s : Step) → P ++ s ∷ rest ≡ v.log → forwards_first rest ≡ [] → Lawful p (P ++ s ∷ [])
  after_one s e none = front_lawful p v.log c.lawful (P ++ s ∷ []) rest (append_assoc P (s ∷ []) rest ∙ e) none

  -- what the lane holds may be passed on to a queue that is there
  may_forward : (s : Step) → P ++ s ∷ rest ≡ v.log → Lawful p P → (l q : ℕ) → 0 < length (unanswered P l) → q < length p.queues → may_forward_at p P l q ≡ true
  may_forward s e lawful l q some there =
      and_from (nat_lt 0 (length (unanswered P l))) _ (lt-ltb 0 (length (unanswered P l)) some)
      (and_from (nat_lt q (length p.queues)) _ (lt-ltb q (length p.queues) there) (few_entries s e lawful))

  -- a NEW that is accepted or turned away
  submit_new : (l : ℕ) (r : Reply) → r.event.op ≡ ops.New → l < length p.ports → MaySubmit p (world_at v P) l r
  submit_new l r op lane = record {
    own = λ _. lane;
    held = λ answers_it. absurd (false≢true (sym (ap is_answer_op op) ∙ answers_it));
    beside = λ adds. absurd (false≢true (sym (ap is_more_op op) ∙ adds));
  }

  new_leads : (q l : ℕ) (d : Event) → P ++ Accept q d (New l) ∷ rest ≡ v.log
      → LeadsTo p (world_at v P) (reply_moves v P l (Accept q d (New l) ∷ [])) (world_at v (P ++ Accept q d (New l) ∷ []))
  new_leads q l d e =
      let s : Step = Accept q d (New l) in
      let may : Allowed p P s = step_at p v.log c.lawful P rest s e in
      let next = next_reply P rest v.log s l (v.submitted l) (said_by ops.New d) e (c.taken l) (said_in-new l q d) in
      let is = new_is next.reply d next.is in
      let room : nat_lt (inside p P) (bound_of p) ≡ true = lt-ltb (inside p P) (bound_of p) may.needs.room in
      let enters : (has_shut P || (nat_lt (inside p P) (bound_of p) && nat_lt (entries p P) (2 ^ 63))) ≡ true =
      or_right (has_shut P) (nat_lt (inside p P) (bound_of p) && nat_lt (entries p P) (2 ^ 63))
      (and_from (nat_lt (inside p P) (bound_of p)) (nat_lt (entries p P) (2 ^ 63)) room (few_entries s e (before s e refl))) in
      let there : nat_lt d.queue (length p.queues) ≡ true = lt-ltb d.queue (length p.queues) (subst (λ k. k < length p.queues) (sym may.formed.entry.named) may.formed.entry.queue) in
      let taken : IsTaken p P l d (s ∷ []) =
      taken_by ops.New p P l d (s ∷ []) may.formed.operation
      (and_from (nat_lt l (length p.ports)) _ (lt-ltb l (length p.ports) may.formed.lane) (and_from (nat_lt d.queue (length p.queues)) _ there enters))
      (ap (λ k. Accept k d (New l) ∷ []) (sym may.formed.entry.named) ∙ sym (cond-false (has_shut P) (Turned l d ∷ []) (Accept d.queue d (New l) ∷ []) may.needs.closed))
      (after_one s e (none_after_new p v.log c.lawful P rest q l d e)) in
      reply_leads p v P l next.reply (s ∷ []) next.there (submit_new l next.reply is.0 may.formed.lane)
      (subst (λ x. IsTaken p P l x (s ∷ [])) (sym is.1) taken)

  turned_leads : (l : ℕ) (d : Event) → P ++ Turned l d ∷ rest ≡ v.log
      → LeadsTo p (world_at v P) (reply_moves v P l (Turned l d ∷ [])) (world_at v (P ++ Turned l d ∷ []))
  turned_leads l d e =
      let s : Step = Turned l d in
      let may : Allowed p P s = step_at p v.log c.lawful P rest s e in
      let next = next_reply P rest v.log s l (v.submitted l) (said_by ops.New d) e (c.taken l) (said_in-turned l d) in
      let is = new_is next.reply d next.is in
      let enters : (has_shut P || (nat_lt (inside p P) (bound_of p) && nat_lt (entries p P) (2 ^ 63))) ≡ true =
      or_left (has_shut P) (nat_lt (inside p P) (bound_of p) && nat_lt (entries p P) (2 ^ 63)) may.needs in
      let taken : IsTaken p P l d (s ∷ []) =
      taken_by ops.New p P l d (s ∷ []) may.formed.operation
      (and_from (nat_lt l (length p.ports)) _ (lt-ltb l (length p.ports) may.formed.lane)
      (and_from (nat_lt d.queue (length p.queues)) _ (lt-ltb d.queue (length p.queues) may.formed.queue) enters))
      (sym (cond-true (has_shut P) (Turned l d ∷ []) (Accept d.queue d (New l) ∷ []) may.needs))
      (after_one s e (none_after_turned p v.log c.lawful P rest l d e)) in
      reply_leads p v P l next.reply (s ∷ []) next.there (submit_new l next.reply is.0 may.formed.lane)
      (subst (λ x. IsTaken p P l x (s ∷ [])) (sym is.1) taken)

  -- where the lane answered less than it was given, and less than it received in the end, something is in its hand
  held_so_far : (l : ℕ) (s : Step) → P ++ s ∷ rest ≡ v.log → 0 < length (unanswered P l) → count_by is_answer (take (length (replies_in P l)) (v.submitted l)) < v.received l
      → 0 < length (in_hand (world_at v P) l)
  held_so_far l s e some fewer =
      hand_some (world_at v P) l (omega arith)
      (omega (arith, length-unanswered P l, answers_so_far P (s ∷ rest) v.log l (v.submitted l) e (c.taken l), fewer, some))

  -- an answer
  submit_answer : (l : ℕ) (s : Step) (r : Reply) → P ++ s ∷ rest ≡ v.log → slice_get (v.submitted l) (length (replies_in P l)) ≡ Some r → is_answer r ≡ true → is_new_reply r ≡ false
      → is_more_reply r ≡ false → 0 < length (unanswered P l) → MaySubmit p (world_at v P) l r
  submit_answer l s r e there answer other plain some = record {
    own = λ new. absurd (false≢true (sym other ∙ new));
    held = λ _. held_so_far l s e some (omega (arith, one_more_answer (v.submitted l) (length (replies_in P l)) r there answer, c.fewer l));
    beside = λ adds. absurd (false≢true (sym plain ∙ adds));
  }

  -- an addition: what each needs of the replies before it holds of all that were submitted in the end
  submit_more : (l : ℕ) (s : Step) (r : Reply) → P ++ s ∷ rest ≡ v.log → slice_get (v.submitted l) (length (replies_in P l)) ≡ Some r → r.event.op ≡ ops.ForwardMore
      → 0 < length (unanswered P l) → MaySubmit p (world_at v P) l r
  submit_more l s r e there op some =
      let adds : is_more_reply r ≡ true = ap is_more_op op in
      let before = (c.beside l).each (length (replies_in P l)) r there adds in
      record {
        own = λ new. absurd (false≢true (sym (ap is_new_op op) ∙ new));
        held = λ answers_it. absurd (false≢true (sym (ap is_answer_op op) ∙ answers_it));
        beside = λ _. (held_so_far l s e some before.0, before.1);
      }

  -- an answer or an addition, and what is accepted after it
  led_lawful : (s : Step) → P ++ s ∷ rest ≡ v.log → Lawful p (P ++ s ∷ forwards_first rest)
  led_lawful s e =
      let parts : Split rest = split rest in
      front_lawful p v.log c.lawful (P ++ s ∷ forwards_first rest) parts.more
      (append_assoc P (s ∷ forwards_first rest) parts.more ∙ (ap (λ xs. P ++ s ∷ xs) parts.parts ∙ e)) parts.last

  forward_leads : (l : ℕ) (d : Event) → P ++ Done l (Forwarded d) ∷ rest ≡ v.log
      → LeadsTo p (world_at v P) (reply_moves v P l (Done l (Forwarded d) ∷ forwards_first rest)) (world_at v (P ++ Done l (Forwarded d) ∷ forwards_first rest))
  forward_leads l d e =
      let s : Step = Done l (Forwarded d) in
      let may : Allowed p P s = step_at p v.log c.lawful P rest s e in
      let next = next_reply P rest v.log s l (v.submitted l) (said_by ops.Forward d) e (c.taken l) (said_in-done l (Forwarded d)) in
      let is = forward_is next.reply d next.is in
      let taken : IsTaken p P l d (s ∷ forwards_first rest) =
      taken_by ops.Forward p P l d (s ∷ forwards_first rest) may.formed.1.1 (may_forward s e (before s e refl) l d.queue may.needs may.formed.1.0)
      (forwards_first rest, refl, (split rest).all) (led_lawful s e) in
      reply_leads p v P l next.reply (s ∷ forwards_first rest) next.there
      (submit_answer l s next.reply e next.there (ap is_answer_op is.0) (ap is_new_op is.0) (ap is_more_op is.0) may.needs)
      (subst (λ x. IsTaken p P l x (s ∷ forwards_first rest)) (sym is.1) taken)

  more_leads : (l : ℕ) (d : Event) → P ++ More l d ∷ rest ≡ v.log
      → LeadsTo p (world_at v P) (reply_moves v P l (More l d ∷ forwards_first rest)) (world_at v (P ++ More l d ∷ forwards_first rest))
  more_leads l d e =
      let s : Step = More l d in
      let may : Allowed p P s = step_at p v.log c.lawful P rest s e in
      let next = next_reply P rest v.log s l (v.submitted l) (said_by ops.ForwardMore d) e (c.taken l) (said_in-more l d) in
      let is = more_is next.reply d next.is in
      let taken : IsTaken p P l d (s ∷ forwards_first rest) =
      taken_by ops.ForwardMore p P l d (s ∷ forwards_first rest) may.formed.1.1
      (and_from (may_forward_at p P l d.queue) _ (may_forward s e (before s e refl) l d.queue may.needs.beside may.formed.1.0)
      (and_from (nat_lt (length (extras P l)) MAX_EXTRAS) _ (lt-ltb (length (extras P l)) MAX_EXTRAS may.needs.few) (lt-ltb (inside p P) (bound_of p) may.needs.room)))
      (forwards_first rest, refl, (split rest).all) (led_lawful s e) in
      reply_leads p v P l next.reply (s ∷ forwards_first rest) next.there (submit_more l s next.reply e next.there is.0 may.needs.beside)
      (subst (λ x. IsTaken p P l x (s ∷ forwards_first rest)) (sym is.1) taken)

  release_leads : (l : ℕ) → P ++ Done l Released ∷ rest ≡ v.log
      → LeadsTo p (world_at v P) (reply_moves v P l (Done l Released ∷ forwards_first rest)) (world_at v (P ++ Done l Released ∷ forwards_first rest))
  release_leads l e =
      let s : Step = Done l Released in
      let may : Allowed p P s = step_at p v.log c.lawful P rest s e in
      let next = next_reply P rest v.log s l (v.submitted l) (said_by ops.Release release_event) e (c.taken l) (said_in-done l Released) in
      let op : next.reply.event.op ≡ ops.Release = release_is next.reply release_event next.is in
      reply_leads p v P l next.reply (s ∷ forwards_first rest) next.there
      (submit_answer l s next.reply e next.there (ap is_answer_op op) (ap is_new_op op) (ap is_more_op op) may.needs)
      (taken_by ops.Release p P l next.reply.event (s ∷ forwards_first rest) op (lt-ltb 0 (length (unanswered P l)) may.needs)
      (forwards_first rest, refl, (split rest).all) (led_lawful s e))

  -- a step that gives nothing and says nothing
  silent_end : (s : Step) → ((m : ℕ) → given_to m s ≡ None) → ((m : ℕ) → said_in m s ≡ None) → with_steps (world_at v P) (s ∷ []) ≡ world_at v (P ++ s ∷ [])
  silent_end s given says =
      same_worlds (with_steps (world_at v P) (s ∷ [])) (world_at v (P ++ s ∷ [])) refl
      (λ m. ap (λ xs. min (length xs) (v.received m)) (sym (out-none P m s (given m))))
      (λ m. ap (λ xs. take (length xs) (v.submitted m)) (sym (replies_in-none P m s (says m))))

  -- a delivery is given, and received where it ever was
  give_leads : (l q n : ℕ) → P ++ Give l q n ∷ rest ≡ v.log → LeadsTo p (world_at v P) (moves_at v P rest (Give l q n)) (world_at v (P ++ Give l q n ∷ []))
  give_leads l q n e = by_test (nat_lt (length (out P l)) (v.received l)) refl
    where
      s : Step
      s = Give l q n

      given : World
      given = moved (world_at v P) (Gives l q n)

      lawful : Lawful p (P ++ s ∷ [])
      lawful = after_one s e (none_after_give p v.log c.lawful P rest l q n e)

      more : length (out (P ++ s ∷ []) l) ≡ length (out P l) + 1
      more = ap length (out-some P l s (q, n) (given_to-same l q n)) ∙ length_push (out P l) (q, n)

      others : (m : ℕ) → m ≢ l → min (length (out P m)) (v.received m) ≡ min (length (out (P ++ s ∷ []) m)) (v.received m)
      others m differs = ap (λ xs. min (length xs) (v.received m)) (sym (out-none P m s (given_to-other m l q n (λ same. differs (sym same)))))

      submitted_same : (m : ℕ) → take (length (replies_in P m)) (v.submitted m) ≡ take (length (replies_in (P ++ s ∷ []) m)) (v.submitted m)
      submitted_same m = ap (λ xs. take (length xs) (v.submitted m)) (sym (replies_in-none P m s refl))

      by_test : (b : Bool) → nat_lt (length (out P l)) (v.received l) ≡ b → LeadsTo p (world_at v P) (Gives l q n ∷ cond b (Receives l ∷ []) []) (world_at v (P ++ s ∷ []))
      by_test true received =
          let later : length (out P l) < v.received l = ltb-true (length (out P l)) (v.received l) received in
          let here : min (length (out P l)) (v.received l) + 1 ≡ min (length (out (P ++ s ∷ []) l)) (v.received l) = omega (arith, more, later) in (
            lawful,
            (
              omega (arith, more),
              same_worlds (moved given (Receives l)) (world_at v (P ++ s ∷ [])) refl
                  (at_each (λ m k. k ≡ min (length (out (P ++ s ∷ []) m)) (v.received m)) l (min (length (out P l)) (v.received l) + 1) (λ m. min (length (out P m)) (v.received m)) here others)
                  submitted_same,
            ),
          )
      by_test false received =
          let before_it : v.received l ≤ length (out P l) = ltb-false (length (out P l)) (v.received l) received in
          let here : min (length (out P l)) (v.received l) ≡ min (length (out (P ++ s ∷ []) l)) (v.received l) = omega (arith, more, before_it) in (
            lawful,
            same_worlds given (world_at v (P ++ s ∷ [])) refl
                (λ m. ⊎_elim (λ same. subst (λ k. min (length (out P k)) (v.received k) ≡ min (length (out (P ++ s ∷ []) k)) (v.received k)) (sym same) here) (others m) (cases_eq m l))
                submitted_same,
          )

  -- from the world before the step to the one after it and what is accepted with it
  with_forwards : (s : Step) (moves : List Move) → forwards_first rest ≡ [] → LeadsTo p (world_at v P) moves (world_at v (P ++ s ∷ [])) → LeadsTo p (world_at v P) moves (world_at v (P ++ s ∷ forwards_first rest))
  with_forwards s moves none leads = subst (λ xs. LeadsTo p (world_at v P) moves (world_at v (P ++ s ∷ xs))) (sym none) leads

  pub step_leads : (s : Step) → P ++ s ∷ rest ≡ v.log → is_from_of s ≡ false → LeadsTo p (world_at v P) (moves_at v P rest s) (world_at v (P ++ s ∷ forwards_first rest))
  step_leads (Accept q d (New l)) e other =
      with_forwards (Accept q d (New l)) (moves_at v P rest (Accept q d (New l))) (none_after_new p v.log c.lawful P rest q l d e) (new_leads q l d e)
  step_leads (Accept q d (Of r n)) e other = absurd (false≢true (sym other))
  step_leads (Give l q n) e other =
      with_forwards (Give l q n) (moves_at v P rest (Give l q n)) (none_after_give p v.log c.lawful P rest l q n e) (give_leads l q n e)
  step_leads (Done l (Forwarded d)) e other = forward_leads l d e
  step_leads (Done l Released) e other = release_leads l e
  step_leads (More l d) e other = more_leads l d e
  step_leads (Turned l d) e other =
      with_forwards (Turned l d) (moves_at v P rest (Turned l d)) (none_after_turned p v.log c.lawful P rest l d e) (turned_leads l d e)
  step_leads (Bounced l) e other =
      let none = none_after_bounced p v.log c.lawful P rest l e in
      let may : Allowed p P (Bounced l) = step_at p v.log c.lawful P rest (Bounced l) e in
      with_forwards (Bounced l) (Bounces l ∷ []) none (may.formed, silent_end (Bounced l) (λ m. refl) (λ m. refl))
  step_leads Shut e other =
      let none = none_after_shut p v.log c.lawful P rest e in
      let may : Allowed p P Shut = step_at p v.log c.lawful P rest Shut e in
      with_forwards Shut (Shuts ∷ []) none (may.needs, silent_end Shut (λ m. refl) (λ m. refl))

-- ---- the whole log

-- a step that is no Accept of what was passed on, and then the rest
then_rest : (p : Plan) (v : World) → IsConsistent p v → length v.log < 2 ^ 63 → (P rest : List Step) (s : Step) → P ++ s ∷ rest ≡ v.log → is_from_of s ≡ false
    → LeadsTo p (world_at v ((P ++ s ∷ []) ++ forwards_first rest)) (moves_from v (P ++ s ∷ []) rest) (world_at v v.log)
    → LeadsTo p (world_at v (P ++ [])) (moves_at v P rest s ++ moves_from v (P ++ s ∷ []) rest) (world_at v v.log)
then_rest p v c short P rest s e other later =
    LeadsTo-append p (world_at v (P ++ [])) (world_at v (P ++ s ∷ forwards_first rest)) (world_at v v.log) (moves_at v P rest s) (moves_from v (P ++ s ∷ []) rest)
    (subst (λ U. LeadsTo p (world_at v U) (moves_at v P rest s) (world_at v (P ++ s ∷ forwards_first rest))) (sym (append-nil P)) (step_leads p v c short P rest s e other))
    (subst (λ U. LeadsTo p (world_at v U) (moves_from v (P ++ s ∷ []) rest) (world_at v v.log)) (append_assoc P (s ∷ []) (forwards_first rest)) later)

pub log_leads : (p : Plan) (v : World) → IsConsistent p v → length v.log < 2 ^ 63 → (P rest : List Step) → P ++ rest ≡ v.log
    → LeadsTo p (world_at v (P ++ forwards_first rest)) (moves_from v P rest) (world_at v v.log)
log_leads p v c short P [] e = ap (world_at v) e
log_leads p v c short P (Accept q d (Of r n) ∷ rest) e =
    let s : Step = Accept q d (Of r n) in
    subst (λ U. LeadsTo p (world_at v U) (moves_from v (P ++ s ∷ []) rest) (world_at v v.log)) (append_assoc P (s ∷ []) (forwards_first rest))
    (log_leads p v c short (P ++ s ∷ []) rest (append_assoc P (s ∷ []) rest ∙ e))
log_leads p v c short P (Accept q d (New l) ∷ rest) e =
    let s : Step = Accept q d (New l) in then_rest p v c short P rest s e refl (log_leads p v c short (P ++ s ∷ []) rest (append_assoc P (s ∷ []) rest ∙ e))
log_leads p v c short P (Give l q n ∷ rest) e =
    let s : Step = Give l q n in then_rest p v c short P rest s e refl (log_leads p v c short (P ++ s ∷ []) rest (append_assoc P (s ∷ []) rest ∙ e))
log_leads p v c short P (Done l o ∷ rest) e =
    let s : Step = Done l o in then_rest p v c short P rest s e refl (log_leads p v c short (P ++ s ∷ []) rest (append_assoc P (s ∷ []) rest ∙ e))
log_leads p v c short P (More l d ∷ rest) e =
    let s : Step = More l d in then_rest p v c short P rest s e refl (log_leads p v c short (P ++ s ∷ []) rest (append_assoc P (s ∷ []) rest ∙ e))
log_leads p v c short P (Turned l d ∷ rest) e =
    let s : Step = Turned l d in then_rest p v c short P rest s e refl (log_leads p v c short (P ++ s ∷ []) rest (append_assoc P (s ∷ []) rest ∙ e))
log_leads p v c short P (Bounced l ∷ rest) e =
    let s : Step = Bounced l in then_rest p v c short P rest s e refl (log_leads p v c short (P ++ s ∷ []) rest (append_assoc P (s ∷ []) rest ∙ e))
log_leads p v c short P (Shut ∷ rest) e = then_rest p v c short P rest Shut e refl (log_leads p v c short (P ++ Shut ∷ []) rest (append_assoc P (Shut ∷ []) rest ∙ e))
