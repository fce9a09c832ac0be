-- What the steps of a sweep are: at least one for each reply that it takes and each event that it gives, and those that it gives to a lane.
use Rattle.std.proofs.Common.{◌≡◌, ℕ, zero, suc, ◌+◌, ◌-◌, ◌<◌, ◌≤◌, ◌==◌, ◌^◌, Bool, true, false, cond, List, [], ◌∷◌, ◌++◌, length, count_by, replicate, slice_index_or, if◌then◌else◌, ⊎_elim, refl, sym, ap, ◌∙◌, arith, length-append}
use Rattle.std.specs.Prelude.{not}
use Rattle.std.proofs.lemmas.Bool.{ne_eqb}
use Rattle.std.proofs.lemmas.List.Sums.{count_by-le-length, sum_by-cons}
use Rattle.event_answers.specs.declared.answer.Swept.{Swept}
use Rattle.event_scheduler.specs.Scheduler.{Sight}
use Rattle.event_scheduler.specs.Swept.{Sweeps}
use Rattle.evt_types.specs.Plan.{Plan}
use Rattle.evt_types.specs.declared.event.Event.{Event}
use Rattle.evt_types.specs.declared.event.Op.{Op}
use Rattle.evt_types.specs.declared.event.Op.TheVariants as ops
use Rattle.evt_types.specs.declared.shape.TheConstants.{MAX_PORTS}
use Rattle.evt_types.specs.declared.step.Step.{Step}
use Rattle.evt_types.specs.declared.step.Step.TheVariants.{Accept, Give, Done, More, Turned, Bounced, Shut}
use Rattle.step_log.specs.declared.counted.Counted.{Counted}
use Rattle.transcripts.specs.Standing.{View, after, steps_by, steps_of}
use Rattle.transcripts.specs.Sweep.{Sweeping, replies_steps, sweep_steps}
use Rattle.transcripts.specs.Transcript.{is_give, out}
use Rattle.transcripts.proofs.Replies.{out-append, steps_of-out}
use Rattle.event_device.specs.Parts.{Parts}
use Rattle.event_handles.specs.Logs.{steps_logged}
use Rattle.event_handles.specs.Sweeps.{AreLast, AreNoted, AreSentBy}
use Rattle.event_handles.specs.declared.sweep_counts.SweepCounts.{SweepCounts}

one_of_two : (b : Bool) (s t : Step) → 1 ≤ length (if b then s ∷ [] else t ∷ [])
one_of_two true s t = omega arith
one_of_two false s t = omega arith

one_by : (o : Op) (v : View) (l : ℕ) (e : Event) → 1 ≤ length (steps_by o v l e)
one_by ops.New v l e = one_of_two v.shut _ _
one_by ops.Forward v l e = omega arith
one_by ops.Release v l e = omega arith
one_by ops.ForwardMore v l e = omega arith

few_taken : (v : View) (rs : List (ℕ × Event)) → length rs ≤ length (replies_steps v rs)
few_taken v [] = omega arith
few_taken v (r ∷ rs) =
    omega (arith, one_by r.1.op v r.0 r.1, few_taken (after v (steps_of v r.0 r.1)) rs, length-append (steps_of v r.0 r.1) (replies_steps (after v (steps_of v r.0 r.1)) rs))

few_in_all : (v : View) (s : Sweeping) → length s.taken + count_by is_give s.offered ≤ length (sweep_steps v s)
few_in_all v s =
    omega (
      arith,
      few_taken (after v s.shut) s.taken,
      count_by-le-length is_give s.offered,
      length-append (s.shut ++ replies_steps (after v s.shut) s.taken) s.offered,
      length-append s.shut (replies_steps (after v s.shut) s.taken),
    )

module _ (n : Swept) (s : Sight) (log : List Step) (t : Sight) (longer : List Step) (sweeps : Sweeps n s log t longer) where
  -- so that what it answers can be counted, as its steps can
  pub answer_fits : (counted : Counted) → steps_logged counted ≡ longer → n.taken + n.given < 2 ^ 63
  answer_fits counted same =
      omega (arith, counted.count_is, counted.few, ap length same, few_in_all s.core sweeps.sweeping, ap length sweeps.runs.logged, length-append log (sweep_steps s.core sweeps.sweeping), sweeps.count_taken, sweeps.count_given)

-- ---- what a sweep gives to a lane

shut_gives : (shut : List Step) (l : ℕ) → shut ≡ Shut ∷ [] → out shut l ≡ []
unfolding out
shut_gives shut l is = ap (λ steps. out steps l) is

none_gives : (l : ℕ) → out [] l ≡ []
unfolding out
none_gives l = refl

replies_give : (v : View) (rs : List (ℕ × Event)) (l : ℕ) → out (replies_steps v rs) l ≡ []
replies_give v [] l = none_gives l
replies_give v (r ∷ rs) l =
    out-append (steps_of v r.0 r.1) (replies_steps (after v (steps_of v r.0 r.1)) rs) l ∙ (λ k. steps_of-out v r.0 r.1 l k ++ replies_give (after v (steps_of v r.0 r.1)) rs l k)

offers_give : (steps : List Step) (l : ℕ) → count_by is_give steps ≡ 0 → out steps l ≡ []
unfolding out
offers_give [] l none = refl
offers_give (Give m q n ∷ steps) l none = absurd (omega (arith, none, sum_by-cons (λ (s : Step). cond (is_give s) 1 0) (Give m q n) steps))
offers_give (Accept q e s ∷ steps) l none = offers_give steps l none
offers_give (Done m o ∷ steps) l none = offers_give steps l none
offers_give (More m e ∷ steps) l none = offers_give steps l none
offers_give (Turned m e ∷ steps) l none = offers_give steps l none
offers_give (Bounced m ∷ steps) l none = offers_give steps l none
offers_give (Shut ∷ steps) l none = offers_give steps l none

-- where it gives nothing, nothing to any lane
none_given : (n : Swept) (s : Sight) (log : List Step) (t : Sight) (longer : List Step) → Sweeps n s log t longer → n.given ≡ 0 → (l : ℕ) → length (out longer l) ≡ length (out log l)
none_given n s log t longer sweeps none l =
    let w = sweeps.sweeping in
    let front : List Step = w.shut ++ replies_steps (after s.core w.shut) w.taken in
    let shut : out w.shut l ≡ [] = ⊎_elim (λ is. ap (λ steps. out steps l) is ∙ none_gives l) (λ seen. shut_gives w.shut l seen.1) sweeps.looked in
    omega (
      arith,
      ap (λ T. length (out T l)) sweeps.runs.logged,
      ap length (out-append log (sweep_steps s.core w) l),
      length-append (out log l) (out (sweep_steps s.core w) l),
      ap length (out-append front w.offered l),
      length-append (out front l) (out w.offered l),
      ap length (out-append w.shut (replies_steps (after s.core w.shut) w.taken) l),
      length-append (out w.shut l) (out (replies_steps (after s.core w.shut) w.taken) l),
      ap length shut,
      ap length (replies_give (after s.core w.shut) w.taken l),
      ap length (offers_give w.offered l (sweeps.count_given ∙ none)),
    )

-- ---- what is noted

zeros : (n l : ℕ) → ◌≡◌ {A = ℕ} (slice_index_or (replicate n 0) l 0) 0
zeros zero l = refl
zeros (suc n) zero = refl
zeros (suc n) (suc l) = zeros n l

-- of no step, nothing
pub none_sent : (r : Parts) → r.recorded.log ≡ [] → AreSentBy r (replicate MAX_PORTS 0)
none_sent r empty l within = zeros MAX_PORTS l ∙ sym (ap (λ T. length (out T l)) empty ∙ ap length (none_gives l))

module _ (n : Swept) (r q : Parts) (sweeps : Sweeps n r.recorded.sight r.recorded.log q.recorded.sight q.recorded.log) (c d : SweepCounts) (sent : AreSentBy r c.sent) where
  ports_same : length q.recorded.sight.core.shape.ports ≡ length r.recorded.sight.core.shape.ports
  ports_same = ap (λ (p : Plan). length p.ports) sweeps.runs.shape

  sent_by : (given : ℕ) → n.given ≡ given → AreNoted given q c d → AreSentBy q d.sent
  sent_by zero none noted l within =
      ap (λ xs. slice_index_or xs l 0) noted ∙ (sent l (omega (arith, within, ports_same)) ∙ sym (none_given n _ _ _ _ sweeps none l))
  sent_by (suc given) some noted l within = noted.0 l within

  last_by : (given : ℕ) → n.given ≡ given → d.gave ≡ not (given == 0) → AreNoted given q c d → AreLast r.recorded.log q.recorded.log (length r.recorded.sight.core.shape.ports) d
  last_by zero none gave noted l within = ap (λ b. if b then slice_index_or d.sent l 0 - slice_index_or d.before l 0 else 0) gave ∙ omega (arith, none_given n _ _ _ _ sweeps none l)
  last_by (suc given) some gave noted l within =
      let there : l < length q.recorded.sight.core.shape.ports = omega (arith, within, ports_same) in
      ap (λ b. if b then slice_index_or d.sent l 0 - slice_index_or d.before l 0 else 0) (gave ∙ ap not (ne_eqb (suc given) 0 (λ e. absurd (omega (arith, e)))))
      ∙ omega (arith, noted.0 l there, noted.1 l there, sent l within)

  -- after a sweep that was counted it is what each lane was given, and what the sweep gave
  pub sent_after : AreNoted n.given q c d → AreSentBy q d.sent
  sent_after = sent_by n.given refl

  pub last_after : d.gave ≡ not (n.given == 0) → AreNoted n.given q c d → AreLast r.recorded.log q.recorded.log (length r.recorded.sight.core.shape.ports) d
  last_after = last_by n.given refl
