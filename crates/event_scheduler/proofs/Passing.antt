-- What is given in a sweep: runs of gifts and refusals after others, what is passed over then, and how much may be given yet.
use Rattle.std.proofs.Common.{◌≡◌, ℕ, ◌+◌, ◌-◌, ◌*◌, ◌<◌, ◌≤◌, ◌==◌, Bool, true, false, cond, List, [], ◌∷◌, ◌++◌, length, map, set, get_or, count_by, sum_by, fold, refl, sym, ap, ◌∙◌, subst, add-zero, arith}
use Rattle.std.proofs.lemmas.List.{get_or-set_other, get_or-set_same, length-append, length-replicate, length-set}
use Rattle.std.proofs.lemmas.List.FromFn.{length-range_with_len}
use Rattle.std.proofs.lemmas.List.Sums.{fold-append, sum_by-le}
use Rattle.std.proofs.Math.Nat.{sub-le}
use Rattle.std.specs.List.{range_with_len}
use Rattle.credit_pool.specs.declared.account.Account.{Account}
use Rattle.credit_pool.specs.declared.pool.Credits.{Credits}
use Rattle.event_scheduler.proofs.Counts.{count-append}
use Rattle.event_scheduler.proofs.Gifts.{choices_are, choices_end, gifts-append, gifts_are_no, gifts_count}
use Rattle.event_scheduler.proofs.Giving.{Hands}
use Rattle.event_scheduler.proofs.Replies.{after-append}
use Rattle.event_scheduler.proofs.Serving.{runs_none, runs_runs}
use Rattle.event_scheduler.specs.Giving.{AreGifts, Gives, bounces_left, is_bounced, left, passed_by, passed_step, quota_left}
use Rattle.event_scheduler.specs.Scheduler.{Sight, Site, depth_at, depth_in, offered_at, sight}
use Rattle.evt_types.proofs.FlowLanes.{lanes_few}
use Rattle.evt_types.specs.Fault.{IsWithinLimits}
use Rattle.evt_types.specs.Plan.{Plan, lanes, lanes_of, queues}
use Rattle.evt_types.specs.declared.event.Delivery.{Delivery}
use Rattle.evt_types.specs.declared.event.Numbered.{Numbered}
use Rattle.evt_types.specs.declared.shape.TheConstants.{MAX_LANES, MAX_QUEUES}
use Rattle.evt_types.specs.declared.step.Step.{Step}
use Rattle.evt_types.specs.declared.step.Step.TheVariants.{Accept, Bounced, Done, Give, More, Shut, Turned}
use Rattle.lane_rings.specs.declared.near.Near.{Near}
use Rattle.lists.proofs.Lists.{eqb_other, eqb_same}
use Rattle.lists.proofs.Sums.{sum_changed}
use Rattle.sched_core.specs.Runs.{AreChoices, gift_of, gifts_of, given_once}
use Rattle.sched_core.specs.Skipped.{nothing_passed}
use Rattle.transcripts.proofs.Replies.{out-append}
use Rattle.transcripts.specs.Choice.{IsChoice, Passed, has_bounced}
use Rattle.transcripts.specs.Standing.{View, after}
use Rattle.transcripts.specs.Transcript.{is_give, out}

-- ---- some steps more

pub gives_none : (v : Passed) (s : Sight) (log : List Step) → v ≡ nothing_passed → Gives v 0 0 s log s log
unfolding out
gives_none v s log none =
    record {
      steps = [];
      runs = runs_none s log;
      core = refl;
      gifts = tt;
      passed = none;
      count_given = refl;
      count_bounced = refl;
      grows = λ l. omega arith;
      taken = refl;
      seen = refl;
      account = refl;
      pocket = refl;
    }

more : (steps : List Step) (v : Passed) (given bounced a b : ℕ) (s t u : Sight) (log mid longer : List Step) → (h : Gives v given bounced s log t mid) → Hands steps t mid u longer
    → AreGifts s h.steps steps → count_by is_give steps ≡ a → count_by is_bounced steps ≡ b → Gives (fold passed_step v steps) (given + a) (bounced + b) s log u longer
more steps v given bounced a b s t u log mid longer h k gifts now_given now_bounced =
    record {
      steps = h.steps ++ steps;
      runs = runs_runs h.steps steps s t u log mid longer h.runs k.runs;
      core = k.core ∙ (ap (λ c. after c steps) h.core ∙ sym (after-append s.core h.steps steps));
      gifts = gifts-append s [] h.steps steps h.gifts gifts;
      passed = ap (λ w. fold passed_step w steps) h.passed ∙ sym (fold-append passed_step nothing_passed h.steps steps);
      count_given = omega (arith, count-append is_give h.steps steps, h.count_given, now_given);
      count_bounced = omega (arith, count-append is_bounced h.steps steps, h.count_bounced, now_bounced);
      grows = λ l. omega (arith, k.grows l, h.grows l, ap length (out-append h.steps steps l), length-append (out h.steps l) (out steps l));
      taken = k.taken ∙ h.taken;
      seen = k.seen ∙ h.seen;
      account = k.account ∙ h.account;
      pocket = k.pocket ∙ h.pocket;
    }

pub gives_given : (l : ℕ) (ds : List Delivery) (v w : Passed) (given bounced count : ℕ) (s t u : Sight) (log mid longer : List Step) → count ≡ length ds → Gives v given bounced s log t mid
    → AreChoices l t.core v ds u.core w → Hands (gifts_of l ds) t mid u longer → Gives w (given + count) bounced s log u longer
gives_given l ds v w given bounced count s t u log mid longer counted h choices k =
    subst (λ x. Gives x (given + count) bounced s log u longer) (sym (choices_end l t.core v ds u.core w choices).1)
    (subst (λ n. Gives (fold passed_step v (gifts_of l ds)) (given + count) n s log u longer) (add-zero bounced)
    (more (gifts_of l ds) v given bounced count 0 s t u log mid longer h k (choices_are s h.steps l t.core v ds u.core w h.core h.passed choices) (gifts_count l ds ∙ sym counted)
    (gifts_are_no is_bounced l ds (λ d. refl))))

pub gives_bounced : (l q : ℕ) (x : Numbered) (v w : Passed) (given bounced : ℕ) (s t u : Sight) (log mid longer : List Step) → Gives v given bounced s log t mid
    → IsChoice t.core v l q x → depth_at t l ≤ length (offered_at t l) → Hands (Bounced l ∷ []) t mid u longer → w ≡ passed_step v (Bounced l) → Gives w given (bounced + 1) s log u longer
gives_bounced l q x v w given bounced s t u log mid longer h choice full k next =
    subst (λ y. Gives y given (bounced + 1) s log u longer) (sym next)
    (subst (λ n. Gives (passed_step v (Bounced l)) n (bounced + 1) s log u longer) (add-zero given)
    (more (Bounced l ∷ []) v given bounced 0 1 s t u log mid longer h k ((q, x, chosen_then, full_then), tt) refl refl))
  where
    chosen_then : IsChoice (after s.core h.steps) (passed_by h.steps) l q x
    chosen_then = subst (λ y. IsChoice (after s.core h.steps) y l q x) h.passed (subst (λ y. IsChoice y v l q x) h.core choice)

    full_then : depth_at s l ≤ length (offered_at s l) + length (out h.steps l)
    full_then = omega (arith, full, h.grows l, ap (λ (y : Site). get_or (map depth_in y.lanes) l 0) h.runs.site)

-- the core is the same after a look for what is chosen
pub gives_core : (pool : Credits) (core same : View) (lanes : List Near) (a : Account) (p n : ℕ) (v : Passed) (given bounced : ℕ) (s : Sight) (log longer : List Step) → same ≡ core
    → Gives v given bounced s log (sight pool core lanes a p n) longer → Gives v given bounced s log (sight pool same lanes a p n) longer
gives_core pool core same lanes a p n v given bounced s log longer is h =
    subst (λ x. Gives v given bounced s log (sight pool x lanes a p n) longer) (sym is) h

-- ---- how much may be given yet

abbrev pub long : Passed → Type 0
long v = (length v.given ≡ MAX_QUEUES) × (length v.bounced ≡ MAX_LANES)

pub long_step : (v : Passed) (x : Step) → long v → long (passed_step v x)
long_step v (Give l q n) h = (length-set v.given q _ ∙ h.0, h.1)
long_step v (Bounced l) h = (h.0, length-set v.bounced l true ∙ h.1)
long_step v (Accept q e c) h = h
long_step v (Done l o) h = h
long_step v (More l e) h = h
long_step v (Turned l e) h = h
long_step v Shut h = h

long_after : (v : Passed) (steps : List Step) → long v → long (fold passed_step v steps)
long_after v [] h = h
long_after v (x ∷ steps) h = long_after (passed_step v x) steps (long_step v x h)

pub passed_long : (v : Passed) (steps : List Step) → v ≡ passed_by steps → long v
passed_long v steps is = subst long (sym is) (long_after nothing_passed steps (length-replicate {A = ℕ} MAX_QUEUES 0, length-replicate MAX_LANES false))

cond_few : (b : Bool) → cond b 0 1 ≤ 1
cond_few true = omega arith
cond_few false = omega arith

-- at first
pub left_few : (p : Plan) (v : Passed) → left p v ≤ p.sweep * length p.queues + lanes_of p
left_few p v =
    let quotas : sum_by (quota_left p v) (queues p) ≤ length p.queues * p.sweep =
    subst (λ n. sum_by (quota_left p v) (queues p) ≤ n * p.sweep) (length-range_with_len 0 (length p.queues)) (sum_by-le (quota_left p v) p.sweep (queues p) (λ k d h. sub-le p.sweep _)) in
    let bounces : sum_by (bounces_left v) (lanes p) ≤ lanes_of p * 1 =
    subst (λ n. sum_by (bounces_left v) (lanes p) ≤ n * 1) (length-range_with_len 0 (lanes_of p)) (sum_by-le (bounces_left v) 1 (lanes p) (λ k d h. cond_few (has_bounced v _))) in
    omega (arith, quotas, bounces)

left_given : (p : Plan) (v : Passed) (l q n : ℕ) → long v → q < length p.queues → q < MAX_QUEUES → get_or v.given q 0 < p.sweep → left p (passed_step v (Give l q n)) + 1 ≡ left p v
left_given p v l q n are there within quota =
    let now : get_or (set v.given q (get_or v.given q 0 + 1)) q 0 ≡ get_or v.given q 0 + 1 = get_or-set_same v.given q _ 0 (omega (arith, are.0, within)) in
    let changed : quota_left p (passed_step v (Give l q n)) q + 1 ≡ quota_left p v q + 0 = omega (arith, now, quota) in
    omega (
      arith,
      sum_changed (quota_left p (passed_step v (Give l q n))) (quota_left p v) (length p.queues) q 1 0 there changed
          (λ k other. ap (λ m. p.sweep - m) (get_or-set_other v.given q k _ 0 other)),
    )

left_bounced : (p : Plan) (v : Passed) (l : ℕ) → long v → l < lanes_of p → l < MAX_LANES → has_bounced v l ≡ false → left p (passed_step v (Bounced l)) + 1 ≡ left p v
left_bounced p v l are there within ready =
    let now : bounces_left (passed_step v (Bounced l)) l ≡ 0 = ap {B = ℕ} (λ b. cond b 0 1) (get_or-set_same v.bounced l true false (omega (arith, are.1, within))) in
    let before : bounces_left v l ≡ 1 = ap {B = ℕ} (λ b. cond b 0 1) ready in
    let changed : bounces_left (passed_step v (Bounced l)) l + 1 ≡ bounces_left v l + 0 = omega (arith, now, before) in
    omega (
      arith,
      sum_changed (bounces_left (passed_step v (Bounced l))) (bounces_left v) (lanes_of p) l 1 0 there changed
          (λ k other. ap {B = ℕ} (λ b. cond b 0 1) (get_or-set_other v.bounced l k true false other)),
    )

-- a part of a sum is no more than the sum
one_of : (f : ℕ → ℕ) (n i : ℕ) → i < n → f i ≤ sum_by f (range_with_len 0 n)
one_of f n i within =
    let gone : cond (i == i) 0 (f i) ≡ 0 = ap {B = ℕ} (λ b. cond b 0 (f i)) (eqb_same i) in
    let here : cond (i == i) 0 (f i) + f i ≡ f i + 0 = omega (arith, gone) in
    omega (
      arith,
      sum_changed (λ k. cond (k == i) 0 (f k)) f n i (f i) 0 within here (λ k other. ap {B = ℕ} (λ b. cond b 0 (f k)) (eqb_other k i other)),
    )

-- what a choice says of the numbers, under the plan with which the sweep began
pub record IsChosen (p : Plan) (v : Passed) (l q : ℕ) : Type 0 where
  pub lane : l < MAX_LANES
  pub some : 0 < left p v
  pub quota : p.sweep ≤ left p v + get_or v.given q 0
  pub bounced : left p (passed_step v (Bounced l)) + 1 ≡ left p v

pub chosen : (p : Plan) (v : Passed) (core : View) (l q : ℕ) (x : Numbered) → IsWithinLimits p → core.shape ≡ p → long v → IsChoice core v l q x → IsChosen p v l q
chosen p v core l q x limits shape are choice =
    record {
      lane = lane;
      some = omega (arith, bounced);
      quota = omega (arith, one_of (quota_left p v) (length p.queues) q there);
      bounced = bounced;
    }
  where
    there : q < length p.queues
    there = subst (λ (y : Plan). q < length y.queues) shape choice.there

    on_lane : l < lanes_of p
    on_lane = subst (λ y. l < lanes_of y) shape choice.fits.lane

    lane : l < MAX_LANES
    lane = omega (arith, on_lane, lanes_few p limits)

    bounced : left p (passed_step v (Bounced l)) + 1 ≡ left p v
    bounced = left_bounced p v l are on_lane lane choice.fits.ready

-- a run leaves less, by as many as were given
pub left_run : (p : Plan) (l : ℕ) (v : View) (s : Passed) (ds : List Delivery) (w : View) (t : Passed) → IsWithinLimits p → v.shape ≡ p → long s → AreChoices l v s ds w t
    → (left p t + length ds ≡ left p s) × long t
left_run p l v s [] w t limits shape are h = (omega (arith, ap (left p) h.1), subst long (sym h.1) are)
left_run p l v s (d ∷ ds) w t limits shape are h =
    let rest = left_run p l (after v (gift_of l d ∷ [])) (given_once s d.queue) ds w t limits shape (long_step s (gift_of l d) are) h.1 in
    (omega (arith, one, rest.0), rest.1)
  where
    there : d.queue < length p.queues
    there = subst (λ (y : Plan). d.queue < length y.queues) shape h.0.there

    one : left p (given_once s d.queue) + 1 ≡ left p s
    one = left_given p s l d.queue d.number are there (omega (arith, there, limits.queue_count.1)) (subst (λ (y : Plan). get_or s.given d.queue 0 < y.sweep) shape h.0.quota)
