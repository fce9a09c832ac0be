-- How many events were accepted or are kept: one step adds one at most.
use Rattle.std.proofs.Common.{◌≡◌, ℕ, ◌+◌, ◌<◌, ◌≤◌, List, [], ◌∷◌, ◌++◌, length, sum_by, None, refl, sym, ap, arith}
use Rattle.std.proofs.lemmas.List.{length_push}
use Rattle.evt_types.specs.Plan.{Plan, queues}
use Rattle.transcripts.specs.Allowed.{Allowed}
use Rattle.transcripts.specs.Lawful.{Lawful}
use Rattle.transcripts.specs.Standing.{View, Stands, entries_of}
use Rattle.transcripts.specs.Transcript.{accepted_in, accepted, hand, kept, entries}
use Rattle.evt_types.specs.declared.event.Event.{Event}
use Rattle.evt_types.specs.declared.step.Outcome.TheVariants.{Forwarded, Released}
use Rattle.evt_types.specs.declared.step.Source.{Source}
use Rattle.evt_types.specs.declared.step.Source.TheVariants.{New, Of}
use Rattle.evt_types.specs.declared.step.Step.{Step}
use Rattle.evt_types.specs.declared.step.Step.TheVariants.{Accept, Give, Done, More, Turned, Bounced, Shut}
use Rattle.lists.proofs.Sums.{sum_same, sum_changed, sum_of_none}
use Rattle.transcripts.proofs.Facts.{Facts, Facts-none, Facts-push, AllowedAfter_keeps, gives_accepted}
use Rattle.transcripts.proofs.Insides.{kept_sum, kept_same, kept_given, kept_one_less, kept_more_le}
use Rattle.transcripts.proofs.Pushes.{accepted_in-same, accepted_in-other, accepted-some, accepted-none, next_pair-some, sending_done, sending_more}
use Rattle.transcripts.proofs.ViewTells.{entries_is}
use Rattle.transcripts.proofs.Whole.{steps-Lawful}

-- ---- the two sums

accepted_sum : Plan → List Step → ℕ
accepted_sum p T = sum_by (λ q. length (accepted T q)) (queues p)

entries_are : (p : Plan) (T : List Step) → entries p T ≡ accepted_sum p T + kept_sum p T
unfolding entries accepted_sum kept_sum
entries_are p T = refl

accepted_same : (p : Plan) (P : List Step) (s : Step) → ((q : ℕ) → accepted_in q s ≡ None) → accepted_sum p P ≡ accepted_sum p (P ++ s ∷ [])
unfolding accepted_sum
accepted_same p P s none =
    sum_same (λ q. length (accepted P q)) (λ q. length (accepted (P ++ s ∷ []) q)) (length p.queues) (λ q. sym (ap length (accepted-none P q s (none q))))

accepted_one_more : (p : Plan) (P : List Step) (q : ℕ) (e : Event) (c : Source) → q < length p.queues
    → accepted_sum p P + 1 ≡ accepted_sum p (P ++ Accept q e c ∷ []) + 0
unfolding accepted_sum
accepted_one_more p P q e c there =
    let s = Accept q e c in
    let here : length (accepted P q) + 1 ≡ length (accepted (P ++ s ∷ []) q) + 0 =
    omega (arith, ap length (accepted-some P q s e (accepted_in-same q e c)), length_push (accepted P q) e)
    in
    sum_changed (λ r. length (accepted P r)) (λ r. length (accepted (P ++ s ∷ []) r)) (length p.queues) q 1 0 there here
    (λ r other. sym (ap length (accepted-none P r s (accepted_in-other r q e c (λ same. other (sym same))))))

-- ---- one more step

entries_still : (p : Plan) (P : List Step) (s : Step) → ((q : ℕ) → accepted_in q s ≡ None) → kept_sum p P ≡ kept_sum p (P ++ s ∷ [])
    → entries p (P ++ s ∷ []) ≤ entries p P + 1
entries_still p P s none same = omega (arith, entries_are p P, entries_are p (P ++ s ∷ []), accepted_same p P s none, same)

entries_push : (p : Plan) (P : List Step) (s : Step) → Facts p P → Allowed p P s → entries p (P ++ s ∷ []) ≤ entries p P + 1
entries_push p P (Accept q e (New l)) f a =
    let s = Accept q e (New l) in
    omega (
      arith,
      entries_are p P,
      entries_are p (P ++ s ∷ []),
      accepted_one_more p P q e (New l) a.formed.entry.queue,
      kept_same p P s (λ r. refl) refl (λ r n. refl),
    )
entries_push p P (Accept q e (Of r n)) f a =
    let s = Accept q e (Of r n) in
    omega (
      arith,
      entries_are p P,
      entries_are p (P ++ s ∷ []),
      accepted_one_more p P q e (Of r n) a.formed.entry.queue,
      kept_one_less p P q n r e f a.needs.origin a.formed.source,
    )
entries_push p P (Give l q n) f a =
    let s = Give l q n in
    omega (
      arith,
      entries_are p P,
      entries_are p (P ++ s ∷ []),
      accepted_same p P s (λ r. refl),
      kept_given p P l q n f (gives_accepted p P l q n a.needs).1,
    )
entries_push p P (Done l (Forwarded e)) f a =
    let s = Done l (Forwarded e) in
    let next = next_pair-some P l a.needs in
    omega (arith, entries_are p P, entries_are p (P ++ s ∷ []), accepted_same p P s (λ r. refl), kept_more_le p P s next.0 e f (sending_done P l next.0 e next.1))
entries_push p P (Done l Released) f a = entries_still p P (Done l Released) (λ r. refl) (kept_same p P (Done l Released) (λ r. refl) refl (λ r n. refl))
entries_push p P (More l e) f a =
    let s = More l e in
    let next = next_pair-some P l a.needs.beside in
    omega (
      arith,
      entries_are p P,
      entries_are p (P ++ s ∷ []),
      accepted_same p P s (λ r. refl),
      kept_more_le p P s next.0 e f (sending_more P l next.0 e next.1),
    )
entries_push p P (Turned l e) f a = entries_still p P (Turned l e) (λ r. refl) (kept_same p P (Turned l e) (λ r. refl) refl (λ r n. refl))
entries_push p P (Bounced l) f a = entries_still p P (Bounced l) (λ r. refl) (kept_same p P (Bounced l) (λ r. refl) refl (λ r n. refl))
entries_push p P Shut f a = entries_still p P Shut (λ r. refl) (kept_same p P Shut (λ r. refl) refl (λ r n. refl))

-- ---- all steps

record Few (p : Plan) (T : List Step) : Type 0 where
  pub facts : Facts p T
  pub few : entries p T ≤ length T

entries_none : (p : Plan) → entries p [] ≡ 0
unfolding entries accepted kept hand
entries_none p =
    omega (
      arith,
      sum_of_none (λ q. length (accepted [] q)) (queues p) (λ k d lt. refl),
      sum_of_none (λ q. length (kept [] q)) (queues p) (λ k d lt. refl),
    )

Few-push : (p : Plan) (P : List Step) (s : Step) → Few p P → Allowed p P s → Few p (P ++ s ∷ [])
Few-push p P s h a =
    record { facts = Facts-push p P s h.facts a; few = omega (arith, h.few, entries_push p P s h.facts a, length_push P s) }

-- what was accepted or is kept is no more than the steps
pub entries_few : (p : Plan) (T : List Step) → Lawful p T → entries p T ≤ length T
entries_few p T h =
    (AllowedAfter_keeps p (Few p) (Few-push p) [] T (record { facts = Facts-none p; few = omega (arith, entries_none p) }) (steps-Lawful p T h).steps).few

pub held_few : (v : View) (T : List Step) → Stands T v → entries_of v ≤ length T
held_few v T stands = omega (arith, entries_is v T stands, entries_few v.shape T stands.lawful)
