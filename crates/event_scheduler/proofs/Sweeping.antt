-- A whole sweep is a look, then replies that are taken, a return of credits, and then what is given.
use Rattle.std.proofs.Common.{◌≡◌, ℕ, ◌<◌, ◌^◌, List, [], ◌∷◌, ◌++◌, length, get_or, map, sym, ap, ◌∙◌, subst, arith}
use Rattle.event_scheduler.proofs.Replies.{after-append}
use Rattle.event_scheduler.proofs.Serving.{runs_rest, runs_runs}
use Rattle.event_scheduler.specs.Giving.{AreGifts, GivesAll, IsGift, passed_by}
use Rattle.event_scheduler.specs.Looking.{Looks, Rests, Returns, look_steps}
use Rattle.event_scheduler.specs.Scheduler.{Runs, Sight, Site, depth_in}
use Rattle.event_scheduler.specs.Swept.{Sweeps}
use Rattle.event_scheduler.specs.Taking.{MayEnd, Takes, TakesAll, count_from, replies_from, up_to}
use Rattle.credit_pool.specs.Accounts.{after_look}
use Rattle.credit_pool.specs.declared.account.Account.{Account}
use Rattle.evt_types.specs.Plan.{Plan, lanes_of}
use Rattle.evt_types.specs.declared.step.Step.{Step}
use Rattle.evt_types.specs.declared.step.Step.TheVariants.{Accept, Bounced, Done, Give, More, Shut, Turned}
use Rattle.transcripts.proofs.WholeStands.{shut_is}
use Rattle.transcripts.specs.Choice.{HasNoChoice, IsChoice}
use Rattle.transcripts.specs.Standing.{after}
use Rattle.transcripts.specs.Replies.{turned_count}
use Rattle.transcripts.specs.Sweep.{MayBeTaken, replies_steps}

-- what was given is told by the core, the depths and what was offered before
gift_same : (s t : Sight) (past : List Step) (x : Step) → s.core ≡ t.core → s.site ≡ t.site → s.offered ≡ t.offered → IsGift s past x → IsGift t past x
gift_same s t past (Give l q n) core site offers gift = (gift.0, gift.1, subst (λ c. IsChoice (after c past) (passed_by past) l q gift.0) core gift.2)
gift_same s t past (Bounced l) core site offers gift = (
  gift.0,
  gift.1,
  subst (λ c. IsChoice (after c past) (passed_by past) l gift.0 gift.1) core gift.2,
  omega (arith, gift.3, ap (λ (x : Site). get_or (map depth_in x.lanes) l 0) site, ap (λ xs. length (get_or xs l [])) offers),
)
gift_same s t past (Accept q e c) core site offers gift = absurd gift
gift_same s t past (Done l o) core site offers gift = absurd gift
gift_same s t past (More l e) core site offers gift = absurd gift
gift_same s t past (Turned l e) core site offers gift = absurd gift
gift_same s t past Shut core site offers gift = absurd gift

gifts_same : (s t : Sight) (past xs : List Step) → s.core ≡ t.core → s.site ≡ t.site → s.offered ≡ t.offered → AreGifts s past xs → AreGifts t past xs
gifts_same s t past [] core site offers gifts = tt
gifts_same s t past (x ∷ xs) core site offers gifts = (gift_same s t past x core site offers gifts.0, gifts_same s t (past ++ x ∷ []) xs core site offers gifts.1)

swept :
    (taken given bounced : ℕ) (s a b c t : Sight) (log first second longer : List Step) → Looks s log a first → TakesAll a.core.shape.sweep taken a first b second → Rests b c → c.seen ≡ b.seen → b.pocket < 2 ^ 64
    → Returns b.account b.pocket c.account c.pocket
    → GivesAll given bounced c second t longer → Sweeps (record { taken = taken; given = given; bounced = bounced }) s log t longer
swept taken given bounced s a b c t log first second longer looks all rests seen_is fits tried gives =
    record {
      sweeping = record { shut = looks.steps; taken = takes.replies; offered = gives.gives.steps };
      runs = runs_runs (looks.steps ++ replies) gives.gives.steps s c t log second longer before gives.gives.runs;
      core = gives.gives.core ∙ (ap (λ v. after v gives.gives.steps) core ∙ sym (after-append s.core (looks.steps ++ replies) gives.gives.steps));
      looked = looks.first;
      shut = λ T serves saw. sym (shut_is a.core (T ++ looks.steps) (looks.runs.serves T serves).stands) ∙ looks.shut saw;
      may = subst (λ v. MayBeTaken v takes.replies) looks.core takes.may;
      by_lane = takes.by_lane;
      quantum = λ l. omega (arith, takes.few l, ap (λ (p : Plan). p.sweep) looks.runs.shape);
      taken = λ l.
          ap (λ xs. get_or xs l []) (gives.gives.taken ∙ rests.taken)
          ∙ (takes.taken l ∙ ap (λ xs. get_or xs l [] ++ replies_from l takes.replies) looks.taken);
      ends = λ l lt.
          subst (λ seen. MayEnd s.core.shape.sweep (after (after s.core looks.steps) (replies_steps (after s.core looks.steps) (up_to l takes.replies))) l (count_from l takes.replies) (get_or seen l []))
          (sym (gives.gives.seen ∙ seen_is))
          (subst (λ v. MayEnd s.core.shape.sweep (after v (replies_steps v (up_to l takes.replies))) l (count_from l takes.replies) (get_or b.seen l [])) looks.core
          (subst (λ (p : Plan). MayEnd p.sweep (after a.core (replies_steps a.core (up_to l takes.replies))) l (count_from l takes.replies) (get_or b.seen l [])) looks.runs.shape
          (all.ends l (subst (λ (p : Plan). l < lanes_of p) (sym looks.runs.shape) lt))));
      between = b;
      read = takes.account ∙ (looks.read ∙ ap (λ (v : Account). after_look v.last s.account) (sym takes.account));
      logs = looks.logs ∙ ap (λ (v : Account). look_steps v.last s.core) (sym takes.account);
      pocket = omega (arith, takes.pocket, looks.pocket, ap turned_count same);
      fits = fits;
      held = (runs_runs looks.steps replies s a b log first second looks.runs (subst (λ S. Runs S a first b second) same takes.runs)).serves;
      returns = subst (λ v. Returns b.account b.pocket v t.pocket) (sym gives.gives.account) (subst (λ p. Returns b.account b.pocket c.account p) (sym gives.gives.pocket) tried);
      gifts = gifts_same c (record s { core = after (after s.core looks.steps) replies }) [] gives.gives.steps (core ∙ after-append s.core looks.steps replies) (rests.site ∙ (takes.runs.site ∙ looks.runs.site))
          (rests.offered ∙ (takes.offered ∙ looks.offered)) gives.gives.gifts;
      done = subst (λ v. HasNoChoice t.core v) gives.gives.passed gives.done;
      count_taken = takes.count;
      count_given = gives.gives.count_given;
      count_bounced = gives.gives.count_bounced;
    }
  where
    takes : Takes (λ l. a.core.shape.sweep) taken a first b second
    takes = all.takes

    replies : List Step
    replies = replies_steps (after s.core looks.steps) takes.replies

    same : replies_steps a.core takes.replies ≡ replies
    same = ap (λ v. replies_steps v takes.replies) looks.core

    before : Runs (looks.steps ++ replies) s log c second
    before =
        runs_rest (looks.steps ++ replies) s b c log second
        (runs_runs looks.steps replies s a b log first second looks.runs (subst (λ S. Runs S a first b second) same takes.runs)) rests

    core : c.core ≡ after s.core (looks.steps ++ replies)
    core =
        rests.core
        ∙ (takes.core ∙ (ap (after a.core) same ∙ (ap (λ v. after v replies) looks.core ∙ sym (after-append s.core looks.steps replies))))

-- the same where room in the log was reserved first
pub swept_from :
    (taken given bounced : ℕ) (s a b c t : Sight) (log reserved first second longer : List Step) → reserved ≡ log → Looks s reserved a first → TakesAll a.core.shape.sweep taken a first b second → Rests b c → c.seen ≡ b.seen → b.pocket < 2 ^ 64
    → Returns b.account b.pocket c.account c.pocket
    → GivesAll given bounced c second t longer → Sweeps (record { taken = taken; given = given; bounced = bounced }) s log t longer
swept_from taken given bounced s a b c t log reserved first second longer same looks takes rests seen_is fits tried gives =
    subst (λ xs. Sweeps (record { taken = taken; given = given; bounced = bounced }) s xs t longer) same (swept taken given bounced s a b c t reserved first second longer looks takes rests seen_is fits tried gives)
