-- What is dealt to several lanes: what it gives and counts, and how much may be given after it; and where nothing is.
use Rattle.std.proofs.Common.{◌≡◌, ℕ, ◌+◌, ◌<◌, List, [], ◌∷◌, ◌++◌, length, set, All, refl, sym, ap, ◌∙◌, subst, append_assoc, append-nil, arith}
use Rattle.std.proofs.lemmas.List.{length-set}
use Rattle.std.proofs.lemmas.List.Elements.{All-head, All-tail, All-weaker}
use Rattle.credit_pool.specs.declared.account.Account.{Account}
use Rattle.credit_pool.specs.declared.pool.Credits.{Credits}
use Rattle.event_scheduler.proofs.Giving.{gave}
use Rattle.event_scheduler.proofs.Passing.{IsChosen, chosen, gives_given, left_run, long}
use Rattle.event_scheduler.specs.Dealing.{AreGathered}
use Rattle.event_scheduler.specs.Giving.{Gives, left}
use Rattle.event_scheduler.specs.Scheduler.{Sight, sight}
use Rattle.evt_types.specs.Fault.{IsWithinLimits}
use Rattle.evt_types.specs.Plan.{Plan}
use Rattle.evt_types.specs.declared.event.Delivery.{Delivery}
use Rattle.evt_types.specs.declared.event.Numbered.{Numbered}
use Rattle.evt_types.specs.declared.step.Step.{Step}
use Rattle.lane_rings.specs.declared.near.Near.{Near}
use Rattle.sched_core.proofs.Runs.{choices_stand}
use Rattle.sched_core.specs.Runs.{AreChoices, AreDeals, gifts_to, gift_of, given_once}
use Rattle.transcripts.specs.Choice.{IsChoice, Passed}
use Rattle.transcripts.specs.Standing.{View, after}

-- the first of them alone
one_deal : (l : ℕ) (v : View) (s : Passed) (d : Delivery) (ds : List Delivery) (to : List ℕ) (w : View) (t : Passed) → AreDeals v s (d ∷ ds) (l ∷ to) w t → AreChoices l v s (d ∷ []) (after v (gift_of l d ∷ [])) (given_once s d.queue)
one_deal l v s d ds to w t h = (h.0, (refl, refl))

-- each is given at its lane, one after the other
pub deals_gave : (pool : Credits) (v : Account) (p n bounced : ℕ) (s : Sight) (before : List Step) (ds : List Delivery) (to : List ℕ) (given : ℕ) (core later : View) (skips over : Passed) (lanes ends : List Near) (log : List Step)
    → All (λ l. l < length lanes) to → AreDeals core skips ds to later over → AreGathered lanes ds to ends → Gives skips given bounced s before (sight pool core lanes v p n) log
    → Gives over (given + length ds) bounced s before (sight pool later ends v p n) (log ++ gifts_to ds to)
deals_gave pool v p n bounced s before [] [] given core later skips over lanes ends log there deals gathered h =
    subst (λ x. Gives x (given + 0) bounced s before (sight pool later ends v p n) (log ++ [])) (sym deals.1)
    (subst (λ x. Gives skips (given + 0) bounced s before (sight pool x ends v p n) (log ++ [])) (sym deals.0)
    (subst (λ x. Gives skips (given + 0) bounced s before (sight pool core x v p n) (log ++ [])) (sym gathered)
    (subst (λ x. Gives skips (given + 0) bounced s before (sight pool core lanes v p n) x) (sym (append-nil log))
    (subst (λ k. Gives skips k bounced s before (sight pool core lanes v p n) log) (omega arith) h))))
deals_gave pool v p n bounced s before [] (l ∷ to) given core later skips over lanes ends log there deals gathered h = absurd deals
deals_gave pool v p n bounced s before (d ∷ ds) [] given core later skips over lanes ends log there deals gathered h = absurd deals
deals_gave pool v p n bounced s before (d ∷ ds) (l ∷ to) given core later skips over lanes ends log there deals gathered h =
    let near : Near = gathered.0 in
    let now : Near = gathered.1 in
    let put = gathered.3 in
    let mid : View = after core (gift_of l d ∷ []) in
    let one = one_deal l core skips d ds to later over deals in
    let first : Gives (given_once skips d.queue) (given + 1) bounced s before (sight pool mid (set lanes l now) v p n) (log ++ gift_of l d ∷ []) =
    gives_given l (d ∷ []) skips (given_once skips d.queue) given bounced 1 s (sight pool core lanes v p n) (sight pool mid (set lanes l now) v p n) before log (log ++ gift_of l d ∷ []) refl h one
    (gave pool core mid lanes v p n l (d ∷ []) skips (given_once skips d.queue) near now log (log ++ gift_of l d ∷ []) (All-head (λ k. k < length lanes) l to there) gathered.2 put.lane put.offers put.takings put.seens one refl refl
    (λ T stands. choices_stand l core skips (d ∷ []) mid (given_once skips d.queue) T one stands))
    in
    let rest = deals_gave pool v p n bounced s before ds to (given + 1) mid later (given_once skips d.queue) over (set lanes l now) ends (log ++ gift_of l d ∷ [])
    (All-weaker (λ k. k < length lanes) (λ k. k < length (set lanes l now)) (λ k lt. omega (arith, lt, length-set lanes l now)) to (All-tail (λ k. k < length lanes) l to there)) deals.1 gathered.4 first
    in
    subst (λ k. Gives over k bounced s before (sight pool later ends v p n) (log ++ gifts_to (d ∷ ds) (l ∷ to))) (omega arith)
    (subst (λ x. Gives over (given + 1 + length ds) bounced s before (sight pool later ends v p n) x) (append_assoc log (gift_of l d ∷ []) (gifts_to ds to)) rest)

-- and less is left to give, by as many
pub left_deals : (p : Plan) (v : View) (s : Passed) (ds : List Delivery) (to : List ℕ) (w : View) (t : Passed) → IsWithinLimits p → v.shape ≡ p → long s → AreDeals v s ds to w t → (left p t + length ds ≡ left p s) × long t
left_deals p v s [] [] w t limits shape are h = (omega (arith, ap (left p) h.1), subst long (sym h.1) are)
left_deals p v s [] (l ∷ to) w t limits shape are h = absurd h
left_deals p v s (d ∷ ds) [] w t limits shape are h = absurd h
left_deals p v s (d ∷ ds) (l ∷ to) w t limits shape are h =
    let one = left_run p l v s (d ∷ []) (after v (gift_of l d ∷ [])) (given_once s d.queue) limits shape are (one_deal l v s d ds to w t h) in
    let rest = left_deals p (after v (gift_of l d ∷ [])) (given_once s d.queue) ds to w t limits shape one.1 h.1 in
    (omega (arith, one.0, rest.0), rest.1)

-- where nothing was dealt the choice is the same
pub still_chosen : (p : Plan) (before core later : View) (skips over : Passed) (l q : ℕ) (w : Numbered) → IsWithinLimits p → core ≡ before → (later ≡ core) × (over ≡ skips) → before.shape ≡ p → long over → IsChoice before skips l q w
    → IsChoice later over l q w × IsChosen p over l q
still_chosen p before core later skips over l q w limits same stays shape are choice =
    let now : IsChoice later over l q w = subst (λ v. IsChoice v over l q w) (sym (stays.0 ∙ same)) (subst (λ s. IsChoice before s l q w) (sym stays.1) choice) in
    (now, chosen p over later l q w limits (ap (λ (v : View). v.shape) (stays.0 ∙ same) ∙ shape) are now)

pub gives_no_more : (v : Passed) (given bounced count : ℕ) (s t : Sight) (log longer : List Step) → count ≡ 0 → Gives v (given + count) bounced s log t longer → Gives v given bounced s log t longer
gives_no_more v given bounced count s t log longer none h = subst (λ k. Gives v k bounced s log t longer) (omega (arith, none)) h
