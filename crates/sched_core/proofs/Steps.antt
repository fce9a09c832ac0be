-- The steps of a reply and of a shut, and what they make of a core's view.
use Rattle.std.proofs.Common.{◌≡◌, ℕ, ◌+◌, ◌<◌, ◌≤◌, Bool, true, false, cond, ◌&&◌, ◌||◌, ◌==◌, List, [], ◌∷◌, ◌++◌, length, Some, ◌⊎◌, inl, inr, refl, sym, ap, ◌∙◌, subst, arith, append-nil, append_assoc}
use Rattle.std.proofs.lemmas.Bool.{cond-true, cond-false, false≢true}
use Rattle.std.proofs.lemmas.List.{length-append}
use Rattle.transcripts.proofs.ViewTells.{may_take_is}
use Rattle.transcripts.proofs.WholeStands.{stands_shut, takes_stand}
use Rattle.evt_types.specs.Plan.{queue_of, is_ordered, lanes_of}
use Rattle.transcripts.specs.Standing.{View, Stands, AreStepsOf, may_be_taken, may_take, may_take_by, steps_by, steps_of, oldest_at, added_of, answer_steps, more_steps, events_of, accepts_from, after, after_accept, after_more}
use Rattle.transcripts.specs.Transcript.{Held}
use Rattle.evt_types.specs.declared.step.Outcome.{Outcome}
use Rattle.evt_types.specs.declared.step.Step.{Step}
use Rattle.evt_types.specs.declared.event.Event.{Event}
use Rattle.evt_types.specs.Operation.{is_new_op}
use Rattle.evt_types.specs.declared.event.Op.{Op}
use Rattle.evt_types.specs.declared.event.Op.TheVariants as ops
use Rattle.evt_types.specs.declared.step.Source.TheVariants.{Of}
use Rattle.evt_types.specs.declared.step.Step.TheVariants.{Accept, Done, More, Shut}
use Rattle.sched_core.proofs.Settling.{after_answer-ordered, after_answer-plain, after_answer_is, answer_steps-ordered, answer_steps-plain}
use Rattle.sched_core.specs.Answered.{after_answer}
use Rattle.sched_core.specs.Settling.{flush_steps, flushed}
use Rattle.sched_core.specs.Shutting.{shut_steps}
use Rattle.sched_core.specs.Taken.{is_passed_on}
use Rattle.lists.proofs.Lists.{eqb_same}

-- ---- a reply

-- what stands stands after the reply's steps, by what is done
pub taken_stands : (v w : View) (T : List Step) (l : ℕ) (e : Event) (o : Op) → e.op ≡ o → w ≡ after v (steps_by o v l e) → l < lanes_of v.shape → may_take v l e ≡ true → Stands T v
    → AreStepsOf v.shape T l e (steps_of v l e) × Stands (T ++ steps_of v l e) w
taken_stands v w T l e o op is lane may stands =
    let both = takes_stand v T l e lane may stands in
    (both.0, subst (Stands (T ++ steps_of v l e)) (ap (λ p. after v (steps_by p v l e)) op ∙ sym is) both.1)

-- what may be taken may be taken at each transcript
pub taken_model : (v : View) (T : List Step) (l : ℕ) (e : Event) (o : Op) (b : Bool) → e.op ≡ o → b ≡ may_take_by o v l e → Stands T v → l < lanes_of v.shape → b ≡ may_be_taken v.shape T l e
taken_model v T l e o b op is stands lane = is ∙ (ap (λ p. may_take_by p v l e) (sym op) ∙ may_take_is v T l e stands lane)

-- ---- an answer to an ordered queue's event

module _ (v u : View) (l : ℕ) (h : Held) (o : Outcome) (oldest : oldest_at v l ≡ Some h) (noted : u ≡ after_answer v l o) (there : h.queue < length v.places) (restores : is_ordered (queue_of u.shape h.queue).kind ≡ true) where
  ordered : is_ordered (queue_of v.shape h.queue).kind ≡ true
  ordered = subst (λ (w : View). is_ordered (queue_of w.shape h.queue).kind ≡ true) noted restores

  -- first it is noted, and then the answered places leave
  pub settled_steps : answer_steps v l o ≡ Done l o ∷ flush_steps u h.queue
  settled_steps = answer_steps-ordered v l h o oldest ordered there ∙ ap (λ w. Done l o ∷ flush_steps w h.queue) (sym (noted ∙ after_answer_is v l h o oldest ordered))

  pub settled_view : (w : View) → w ≡ flushed u h.queue → w ≡ after v (answer_steps v l o)
  settled_view w is = is ∙ (ap (λ x. flushed x h.queue) (noted ∙ after_answer_is v l h o oldest ordered) ∙ sym (after_answer-ordered v l h o oldest ordered there))

  pub settled_log : (old mid new : List Step) → mid ≡ old ++ Done l o ∷ [] → new ≡ mid ++ flush_steps u h.queue → new ≡ old ++ answer_steps v l o
  settled_log old mid new done flushes = flushes ∙ (ap (λ ss. ss ++ flush_steps u h.queue) done ∙ (append_assoc old (Done l o ∷ []) (flush_steps u h.queue) ∙ ap (λ ss. old ++ ss) (sym settled_steps)))

  pub settled_room : (old mid : List Step) (n : ℕ) → mid ≡ old ++ Done l o ∷ [] → length old + length (answer_steps v l o) ≤ n → length mid + length (flush_steps u h.queue) ≤ n
  settled_room old mid n done room =
      let long : length mid ≡ length old + 1 = ap length done ∙ length-append old (Done l o ∷ []) in
      let all : length (answer_steps v l o) ≡ length (flush_steps u h.queue) + 1 = ap length settled_steps ∙ omega arith in
      omega arith

-- ---- an answer to another queue's event

module _ (v u : View) (l : ℕ) (h : Held) (o : Outcome) (oldest : oldest_at v l ≡ Some h) (plain : is_ordered (queue_of v.shape h.queue).kind ≡ false) (noted : u ≡ after_answer v l o) where
  pub plain_view : after u (accepts_from h.queue h.number (events_of o)) ≡ after v (answer_steps v l o)
  plain_view = ap (λ w. after w (accepts_from h.queue h.number (events_of o))) noted ∙ sym (after_answer-plain v l h o oldest plain)

  pub plain_log : (old mid new : List Step) → mid ≡ old ++ Done l o ∷ [] → new ≡ mid ++ accepts_from h.queue h.number (events_of o) → new ≡ old ++ answer_steps v l o
  plain_log old mid new done accepts =
      accepts
      ∙ (ap (λ ss. ss ++ accepts_from h.queue h.number (events_of o)) done
      ∙ (append_assoc old (Done l o ∷ []) (accepts_from h.queue h.number (events_of o)) ∙ ap (λ ss. old ++ ss) (sym (answer_steps-plain v l h o oldest plain))))

  pub plain_room : (old mid : List Step) (n : ℕ) → mid ≡ old ++ Done l o ∷ [] → length old + length (answer_steps v l o) ≤ n → length mid + length (accepts_from h.queue h.number (events_of o)) ≤ n
  plain_room old mid n done room =
      let long : length mid ≡ length old + 1 = ap length done ∙ length-append old (Done l o ∷ []) in
      let all : length (answer_steps v l o) ≡ length (accepts_from h.queue h.number (events_of o)) + 1 = ap length (answer_steps-plain v l h o oldest plain) ∙ omega arith in
      omega arith

-- ---- an event is added

module _ (v : View) (l : ℕ) (h : Held) (e : Event) (oldest : oldest_at v l ≡ Some h) where
  -- beside one of an ordered queue
  more_steps-ordered : is_ordered (queue_of v.shape h.queue).kind ≡ true → more_steps v l e ≡ More l e ∷ []
  more_steps-ordered ordered =
      ap (λ x. More l e ∷ added_of v x e) oldest
      ∙ ap (λ ss. More l e ∷ ss) (cond-true (is_ordered (queue_of v.shape h.queue).kind) [] (accepts_from h.queue h.number (e ∷ [])) ordered)

  -- beside one of another queue
  more_steps-plain : is_ordered (queue_of v.shape h.queue).kind ≡ false → more_steps v l e ≡ More l e ∷ Accept e.queue e (Of h.queue h.number) ∷ []
  more_steps-plain plain =
      ap (λ x. More l e ∷ added_of v x e) oldest
      ∙ ap (λ ss. More l e ∷ ss) (cond-false (is_ordered (queue_of v.shape h.queue).kind) [] (accepts_from h.queue h.number (e ∷ [])) plain)

  -- it is logged, and then it is accepted, where nothing keeps it
  pub more_view-ordered : is_ordered (queue_of v.shape h.queue).kind ≡ true → (w : View) → w ≡ after_more v l e → w ≡ after v (more_steps v l e)
  more_view-ordered ordered w is = is ∙ sym (ap (after v) (more_steps-ordered ordered))

  pub more_view-plain : is_ordered (queue_of v.shape h.queue).kind ≡ false → (u w : View) → u ≡ after_more v l e → w ≡ after_accept u e.queue e → w ≡ after v (more_steps v l e)
  more_view-plain plain u w is accepted = accepted ∙ (ap (λ x. after_accept x e.queue e) is ∙ sym (ap (after v) (more_steps-plain plain)))

  pub more_log-ordered : is_ordered (queue_of v.shape h.queue).kind ≡ true → (old new : List Step) → new ≡ old ++ More l e ∷ [] → new ≡ old ++ more_steps v l e
  more_log-ordered ordered old new logged = logged ∙ ap (λ ss. old ++ ss) (sym (more_steps-ordered ordered))

  pub more_log-plain : is_ordered (queue_of v.shape h.queue).kind ≡ false → (old mid new : List Step) → mid ≡ old ++ More l e ∷ [] → new ≡ mid ++ Accept e.queue e (Of h.queue h.number) ∷ [] → new ≡ old ++ more_steps v l e
  more_log-plain plain old mid new logged accepted =
      accepted
      ∙ (ap (λ ss. ss ++ Accept e.queue e (Of h.queue h.number) ∷ []) logged
      ∙ (append_assoc old (More l e ∷ []) (Accept e.queue e (Of h.queue h.number) ∷ []) ∙ ap (λ ss. old ++ ss) (sym (more_steps-plain plain))))

  pub more_room : (long n : ℕ) → long + length (more_steps v l e) ≤ n → long < n
  more_room long n room = omega arith

  pub more_room-plain : is_ordered (queue_of v.shape h.queue).kind ≡ false → (old mid : List Step) (n : ℕ) → mid ≡ old ++ More l e ∷ [] → length old + length (more_steps v l e) ≤ n → length mid < n
  more_room-plain plain old mid n logged room =
      let long : length mid ≡ length old + 1 = ap length logged ∙ length-append old (More l e ∷ []) in
      let all : length (more_steps v l e) ≡ 2 = ap length (more_steps-plain plain) in
      omega arith

  -- what becomes of it
  pub more_kept : is_ordered (queue_of v.shape h.queue).kind ≡ true → is_passed_on (oldest_at v l) (more_steps v l e) ≡ false
  more_kept ordered = ap (λ x. is_passed_on x (more_steps v l e)) oldest ∙ ap (is_passed_on (Some h)) (more_steps-ordered ordered)

  pub more_accepted : is_ordered (queue_of v.shape h.queue).kind ≡ false → is_passed_on (oldest_at v l) (more_steps v l e) ≡ true
  more_accepted plain =
      ap (λ x. is_passed_on x (more_steps v l e)) oldest
      ∙ (ap (is_passed_on (Some h)) (more_steps-plain plain)
      ∙ (ap (λ b. (b && (h.number == h.number)) || false) (eqb_same h.queue) ∙ ap (λ b. b || false) (eqb_same h.number)))

-- ---- a shut

-- what stands stands after a shut, of the first or of a later one
pub shut_stands : (v : View) (T : List Step) → Stands T v → Stands (T ++ shut_steps v) (record v { shut = true })
shut_stands v T stands = by_shut v.shut refl
  where
    by_shut : (b : Bool) → v.shut ≡ b → Stands (T ++ cond b [] (Shut ∷ [])) (record v { shut = true })
    by_shut false unshut = stands_shut v T unshut stands
    by_shut true shut = rw append-nil (subst (λ b. Stands T (record v { shut = b })) shut stands)

-- ---- operations told apart

pub new_told : (o : Op) → is_new_op o ≡ true → o ≡ ops.New
new_told ops.New e = refl
new_told ops.Forward e = absurd (false≢true e)
new_told ops.Release e = absurd (false≢true e)
new_told ops.ForwardMore e = absurd (false≢true e)

pub more_told : (o p : Op) → p ≡ o → is_new_op o ≡ false → ((p ≡ ops.New) ⊎ (p ≡ ops.ForwardMore)) → o ≡ ops.ForwardMore
more_told o p same old (inl new) = absurd (false≢true (sym old ∙ ap is_new_op (sym same ∙ new)))
more_told o p same old (inr more) = sym same ∙ more
