-- The steps of a sweep fit the room that is made for them.
use Rattle.std.proofs.Common.{◌≡◌, ℕ, ◌+◌, ◌*◌, ◌<◌, ◌≤◌, false, List, [], ◌∷◌, ◌++◌, length, sum_by, filter_map, All, ◌⊎◌, inl, inr, refl, sym, ap, ◌∙◌, subst, arith}
use Rattle.std.proofs.lemmas.List.{length-append}
use Rattle.std.proofs.lemmas.List.Elements.{All-nil, All-cons, All-head, All-tail}
use Rattle.evt_types.specs.Plan.{Plan, kept_room, lanes_of}
use Rattle.evt_types.specs.declared.event.Event.{Event}
use Rattle.evt_types.specs.declared.event.TheConstants.{MAX_FORWARDS}
use Rattle.evt_types.specs.declared.step.Step.{Step}
use Rattle.evt_types.specs.declared.step.Step.TheVariants.{Accept, Give, Done, More, Turned, Bounced, Shut}
use Rattle.lists.proofs.Sums.{length_by_keys}
use Rattle.transcripts.specs.Standing.{View, Stands, steps_of, after, kept_in}
use Rattle.transcripts.specs.Sweep.{IsOffered, IsSweep, MayBeTaken, Sweeping, bounced_lane, given_queue, replies_steps, sweep_room, sweep_steps}
use Rattle.transcripts.proofs.Fewness.{kept_fit, steps_fit}
use Rattle.transcripts.proofs.WholeStands.{shape_after, stands_shut, takes_stand}

-- ---- the replies

-- a row of replies takes two steps each, and one for each event that was kept before
replies_fit : (v : View) (T : List Step) (rs : List (ℕ × Event)) → Stands T v → MayBeTaken v rs → length (replies_steps v rs) ≤ kept_in v + 2 * length rs
replies_fit v T [] stands may = omega arith
replies_fit v T (r ∷ rs) stands may =
    let steps : List Step = steps_of v r.0 r.1 in
    let later : length (replies_steps (after v steps) rs) ≤ kept_in (after v steps) + 2 * length rs =
    replies_fit (after v steps) (T ++ steps) rs (takes_stand v T r.0 r.1 may.0 may.1 stands).1 may.2 in
    omega (arith, length-append steps (replies_steps (after v steps) rs), later, steps_fit v T r.0 r.1 stands may.0)

-- they are of lanes that are there
lanes_there : (v : View) (n : ℕ) (rs : List (ℕ × Event)) → lanes_of v.shape ≡ n → MayBeTaken v rs → All (λ (r : ℕ × Event). r.0 < n) rs
lanes_there v n [] same may = All-nil (λ (r : ℕ × Event). r.0 < n)
lanes_there v n (r ∷ rs) same may =
    All-cons (λ (s : ℕ × Event). s.0 < n) r rs (subst (λ m. r.0 < m) same may.0)
    (lanes_there (after v (steps_of v r.0 r.1)) n rs (ap lanes_of (shape_after v (steps_of v r.0 r.1)) ∙ same) may.2)

-- ---- what is offered

-- each step gives an event or finds a ring full
offered_parts : (p : Plan) (steps : List Step) → All (IsOffered p) steps → length steps ≡ length (filter_map given_queue steps) + length (filter_map bounced_lane steps)
offered_parts p [] all = refl
offered_parts p (Give l q n ∷ steps) all = omega (arith, offered_parts p steps (All-tail (IsOffered p) (Give l q n) steps all))
offered_parts p (Bounced l ∷ steps) all = omega (arith, offered_parts p steps (All-tail (IsOffered p) (Bounced l) steps all))
offered_parts p (Accept q e s ∷ steps) all = absurd (All-head (IsOffered p) (Accept q e s) steps all)
offered_parts p (Done l o ∷ steps) all = absurd (All-head (IsOffered p) (Done l o) steps all)
offered_parts p (More l e ∷ steps) all = absurd (All-head (IsOffered p) (More l e) steps all)
offered_parts p (Turned l e ∷ steps) all = absurd (All-head (IsOffered p) (Turned l e) steps all)
offered_parts p (Shut ∷ steps) all = absurd (All-head (IsOffered p) Shut steps all)

queues_there : (p : Plan) (steps : List Step) → All (IsOffered p) steps → All (λ q. q < length p.queues) (filter_map given_queue steps)
queues_there p [] all = All-nil (λ q. q < length p.queues)
queues_there p (Give l q n ∷ steps) all =
    All-cons (λ r. r < length p.queues) q (filter_map given_queue steps) (All-head (IsOffered p) (Give l q n) steps all)
    (queues_there p steps (All-tail (IsOffered p) (Give l q n) steps all))
queues_there p (Bounced l ∷ steps) all = queues_there p steps (All-tail (IsOffered p) (Bounced l) steps all)
queues_there p (Accept q e s ∷ steps) all = absurd (All-head (IsOffered p) (Accept q e s) steps all)
queues_there p (Done l o ∷ steps) all = absurd (All-head (IsOffered p) (Done l o) steps all)
queues_there p (More l e ∷ steps) all = absurd (All-head (IsOffered p) (More l e) steps all)
queues_there p (Turned l e ∷ steps) all = absurd (All-head (IsOffered p) (Turned l e) steps all)
queues_there p (Shut ∷ steps) all = absurd (All-head (IsOffered p) Shut steps all)

full_there : (p : Plan) (steps : List Step) → All (IsOffered p) steps → All (λ l. l < lanes_of p) (filter_map bounced_lane steps)
full_there p [] all = All-nil (λ l. l < lanes_of p)
full_there p (Give l q n ∷ steps) all = full_there p steps (All-tail (IsOffered p) (Give l q n) steps all)
full_there p (Bounced l ∷ steps) all =
    All-cons (λ m. m < lanes_of p) l (filter_map bounced_lane steps) (All-head (IsOffered p) (Bounced l) steps all)
    (full_there p steps (All-tail (IsOffered p) (Bounced l) steps all))
full_there p (Accept q e s ∷ steps) all = absurd (All-head (IsOffered p) (Accept q e s) steps all)
full_there p (Done l o ∷ steps) all = absurd (All-head (IsOffered p) (Done l o) steps all)
full_there p (More l e ∷ steps) all = absurd (All-head (IsOffered p) (More l e) steps all)
full_there p (Turned l e ∷ steps) all = absurd (All-head (IsOffered p) (Turned l e) steps all)
full_there p (Shut ∷ steps) all = absurd (All-head (IsOffered p) Shut steps all)

-- ---- the whole

-- after the sweep saw that the device is shut, or didn't
shut_stands : (v : View) (T shut : List Step) → Stands T v → (shut ≡ []) ⊎ ((v.shut ≡ false) × (shut ≡ Shut ∷ [])) → Stands (T ++ shut) (after v shut)
shut_stands v T shut stands (inl none) = subst (λ s. Stands (T ++ s) (after v s)) (sym none) (subst (λ U. Stands U v) (sym (append-nothing T)) stands)
  where
    append-nothing : (U : List Step) → U ++ [] ≡ U
    append-nothing [] = refl
    append-nothing (s ∷ U) = ap (λ W. s ∷ W) (append-nothing U)
shut_stands v T shut stands (inr first) = subst (λ s. Stands (T ++ s) (after v s)) (sym first.1) (stands_shut v T first.0 stands)

shut_short : (v : View) (shut : List Step) → (shut ≡ []) ⊎ ((v.shut ≡ false) × (shut ≡ Shut ∷ [])) → (length shut ≤ 1) × (kept_in (after v shut) ≡ kept_in v)
shut_short v shut (inl none) = (omega (arith, ap length none), ap (λ s. kept_in (after v s)) none)
shut_short v shut (inr first) = (omega (arith, ap length first.1), ap (λ s. kept_in (after v s)) first.1)

pub sweep_fits : (v : View) (T : List Step) (s : Sweeping) → Stands T v → IsSweep v s → length (sweep_steps v s) ≤ sweep_room v.shape
sweep_fits v T s stands sweep =
    let short = shut_short v s.shut sweep.shut in
    let taking : length (replies_steps (after v s.shut) s.taken) ≤ kept_in (after v s.shut) + 2 * length s.taken =
    replies_fit (after v s.shut) (T ++ s.shut) s.taken (shut_stands v T s.shut stands sweep.shut) sweep.taken in
    let kept : kept_in v ≤ MAX_FORWARDS * sum_by kept_room v.shape.queues = kept_fit v T stands in
    let taken : length s.taken ≤ lanes_of v.shape * v.shape.sweep =
    length_by_keys (λ (r : ℕ × Event). r.0) (lanes_of v.shape) v.shape.sweep s.taken
    (lanes_there (after v s.shut) (lanes_of v.shape) s.taken (ap lanes_of (shape_after v s.shut)) sweep.taken) sweep.few_taken in
    let given : length (filter_map given_queue s.offered) ≤ length v.shape.queues * v.shape.sweep =
    length_by_keys (λ q. q) (length v.shape.queues) v.shape.sweep (filter_map given_queue s.offered) (queues_there v.shape s.offered sweep.offered) sweep.few_given in
    let full : length (filter_map bounced_lane s.offered) ≤ lanes_of v.shape * 1 =
    length_by_keys (λ l. l) (lanes_of v.shape) 1 (filter_map bounced_lane s.offered) (full_there v.shape s.offered sweep.offered) sweep.once_full in
    let parts = offered_parts v.shape s.offered sweep.offered in
    omega (
      arith,
      short.0,
      short.1,
      taking,
      kept,
      taken,
      given,
      full,
      parts,
      length-append (s.shut ++ replies_steps (after v s.shut) s.taken) s.offered,
      length-append s.shut (replies_steps (after v s.shut) s.taken),
    )
