-- A lane is given a run of events, or its ring refuses one.
use Rattle.std.proofs.Common.{◌≡◌, ℕ, ◌+◌, ◌<◌, ◌≤◌, List, [], ◌∷◌, ◌++◌, length, map, set, get_or, All, refl, sym, ap, ◌∙◌, subst, add-zero, arith}
use Rattle.std.proofs.lemmas.Bool.{false≢true}
use Rattle.std.proofs.lemmas.List.{get_or-map, length-append, length-map, map-append}
use Rattle.std.proofs.lemmas.List.Elements.{All-append}
use Rattle.credit_pool.specs.Pockets.{IsPocket}
use Rattle.credit_pool.specs.declared.account.Account.{Account}
use Rattle.credit_pool.specs.declared.pool.Credits.{Credits}
use Rattle.event_scheduler.proofs.Gifts.{choices_accepted, choices_end, gifts_are_no, gifts_elsewhere, gifts_here, gifts_say_none, gifts_shut_none}
use Rattle.event_scheduler.proofs.Lanes.{each_lane, same_lists, same_sight}
use Rattle.event_scheduler.proofs.Looking.{append_none}
use Rattle.event_scheduler.proofs.Serving.{Adds, runs_by, stays_same}
use Rattle.event_scheduler.specs.Scheduler.{IsAccepted, Runs, Sight, depth_at, depth_in, offered_at, sight, taken_at}
use Rattle.evt_types.specs.Event.{pair_of}
use Rattle.evt_types.specs.declared.event.Delivery.{Delivery}
use Rattle.evt_types.specs.declared.step.Step.{Step}
use Rattle.evt_types.specs.declared.step.Step.TheVariants.{Bounced}
use Rattle.lane_rings.specs.Ends.{offered, seen_replies, taken}
use Rattle.lane_rings.specs.Identity.{near_id}
use Rattle.lane_rings.specs.declared.near.Near.{Near}
use Rattle.sched_core.specs.Runs.{AreChoices, gifts_of}
use Rattle.transcripts.specs.Choice.{Passed}
use Rattle.transcripts.specs.Replies.{new_count, replies_in, said, turned_count}
use Rattle.transcripts.specs.Standing.{View, Stands, after}
use Rattle.transcripts.specs.Transcript.{is_new, is_turned, out}

-- These steps were made for the lanes: the core has what they make of it, and the lanes were offered what they give.
pub record Hands (steps : List Step) (s : Sight) (log : List Step) (t : Sight) (longer : List Step) : Type 0 where
  pub runs : Runs steps s log t longer
  pub core : t.core ≡ after s.core steps
  pub grows : (l : ℕ) → length (offered_at t l) ≡ length (offered_at s l) + length (out steps l)
  pub taken : t.taken ≡ s.taken
  pub seen : t.seen ≡ s.seen
  pub account : t.account ≡ s.account
  pub pocket : t.pocket ≡ s.pocket

-- ---- what a refusal gives and says

out_bounced : (l m : ℕ) → out (Bounced l ∷ []) m ≡ []
unfolding out
out_bounced l m = refl

bounce_says_none : (l m : ℕ) → replies_in (Bounced l ∷ []) m ≡ []
unfolding replies_in
bounce_says_none l m = refl

-- ---- given

pub gave :
    (pool : Credits) (core later : View) (lanes : List Near) (v : Account) (p n l : ℕ) (ds : List Delivery) (passed over : Passed) (near given : Near) (log longer : List Step)
    → l < length lanes → near ≡ get_or lanes l near → near_id given ≡ near_id near → offered given ≡ offered near ++ ds → taken given ≡ taken near → seen_replies given ≡ seen_replies near
    → AreChoices l core passed ds later over → later.shape ≡ core.shape → longer ≡ log ++ gifts_of l ds
    → ((T : List Step) → Stands T core → Stands (T ++ gifts_of l ds) later)
    → Hands (gifts_of l ds) (sight pool core lanes v p n) log (sight pool later (set lanes l given) v p n) longer
gave pool core later lanes v p n l ds passed over near given log longer within is id offers takings seens choices shape logged stands =
    record {
      runs = runs_by (gifts_of l ds) s t log longer logged adds;
      core = (choices_end l core passed ds later over choices).0;
      grows = each_lane (λ m before now. length now ≡ length before + length (out (gifts_of l ds) m)) offered lanes l near given within is
          (omega (arith, ap length offers, length-append (offered near) ds, ap length (gifts_here l ds), length-map ds pair_of))
          (λ m other xs. omega (arith, ap length (gifts_elsewhere l m ds other)));
      taken = takes_same;
      seen = same_lists seen_replies lanes l near given is seens;
      account = refl;
      pocket = refl;
    }
  where
    s : Sight
    s = sight pool core lanes v p n

    t : Sight
    t = sight pool later (set lanes l given) v p n

    takes_same : map taken (set lanes l given) ≡ map taken lanes
    takes_same = same_lists taken lanes l near given is takings

    none_new : new_count (gifts_of l ds) ≡ 0
    none_new = gifts_are_no is_new l ds (λ d. refl)

    none_turned : turned_count (gifts_of l ds) ≡ 0
    none_turned = gifts_are_no is_turned l ds (λ d. refl)

    adds : Adds (gifts_of l ds) s t
    adds =
        record {
          stands = stands;
          shape = shape;
          site = ap (λ ids. record { pool = pool; lanes = ids }) (same_lists near_id lanes l near given is id);
          offered = each_lane (λ m before now. map pair_of now ≡ map pair_of before ++ out (gifts_of l ds) m) offered lanes l near given within is
              (ap (map pair_of) offers ∙ (map-append pair_of (offered near) ds ∙ ap (λ xs. map pair_of (offered near) ++ xs) (sym (gifts_here l ds))))
              (λ m other xs. append_none (map pair_of xs) (out (gifts_of l ds) m) (gifts_elsewhere l m ds other));
          events = λ T m at.
              each_lane (λ k before now. All (IsAccepted T) before → All (IsAccepted T) now) offered lanes l near given within is
              (λ all. subst (All (IsAccepted T)) (sym offers) (All-append (IsAccepted T) (offered near) ds all (choices_accepted l core passed ds later over T at choices)))
              (λ k other xs all. all) m;
          taken = λ m.
              ap (λ xs. map said (get_or xs m [])) takes_same
              ∙ append_none (map said (taken_at s m)) (replies_in (gifts_of l ds) m) (gifts_say_none l m ds);
          entered = λ T at is_new. omega (arith, is_new, none_new);
          own = λ came h. subst (λ k. IsPocket p k v.returned) (sym (ap (λ k. came + k) none_turned ∙ add-zero came)) h;
          shut = λ has. absurd (false≢true (sym (gifts_shut_none l ds) ∙ has));
          account = stays_same v;
        }

-- ---- refused

depth_here : (pool : Credits) (core : View) (lanes : List Near) (v : Account) (p n l : ℕ) (near : Near) → l < length lanes → near ≡ get_or lanes l near → depth_at (sight pool core lanes v p n) l ≡ (near_id near).depth
depth_here pool core lanes v p n l near within is =
    get_or-map depth_in (map near_id lanes) l (near_id near) 0 (omega (arith, within, length-map lanes near_id))
    ∙ (ap depth_in (get_or-map near_id lanes l near (near_id near) within) ∙ ap (λ x. (near_id x).depth) (sym is))

offered_here : (pool : Credits) (core : View) (lanes : List Near) (v : Account) (p n l : ℕ) (near : Near) → l < length lanes → near ≡ get_or lanes l near → offered_at (sight pool core lanes v p n) l ≡ offered near
offered_here pool core lanes v p n l near within is = get_or-map offered lanes l near [] within ∙ ap offered (sym is)

-- the lane's ring is full
pub filled :
    (pool : Credits) (core : View) (lanes : List Near) (v : Account) (p n l : ℕ) (near : Near) → l < length lanes → near ≡ get_or lanes l near → (near_id near).depth ≤ length (offered near)
    → depth_at (sight pool core lanes v p n) l ≤ length (offered_at (sight pool core lanes v p n) l)
filled pool core lanes v p n l near within is full =
    omega (arith, depth_here pool core lanes v p n l near within is, ap length (offered_here pool core lanes v p n l near within is), full)

pub refused :
    (pool : Credits) (core : View) (lanes : List Near) (v : Account) (p n l : ℕ) (near same : Near) (log longer : List Step)
    → near ≡ get_or lanes l near → near_id same ≡ near_id near → offered same ≡ offered near → taken same ≡ taken near → seen_replies same ≡ seen_replies near
    → longer ≡ log ++ Bounced l ∷ []
    → ((T : List Step) → Stands T core → Stands (T ++ Bounced l ∷ []) core)
    → Hands (Bounced l ∷ []) (sight pool core lanes v p n) log (sight pool core (set lanes l same) v p n) longer
refused pool core lanes v p n l near same log longer is id offers takings seens logged stands =
    subst (λ t. Hands (Bounced l ∷ []) (sight pool core lanes v p n) log t longer) (same_sight pool core lanes v p n l near same is id offers takings seens)
    (record {
      runs = runs_by (Bounced l ∷ []) s s log longer logged adds;
      core = refl;
      grows = λ m. omega (arith, ap length (out_bounced l m));
      taken = refl;
      seen = refl;
      account = refl;
      pocket = refl;
    })
  where
    s : Sight
    s = sight pool core lanes v p n

    adds : Adds (Bounced l ∷ []) s s
    adds =
        record {
          stands = stands;
          shape = refl;
          site = refl;
          offered = λ m. append_none (map pair_of (offered_at s m)) (out (Bounced l ∷ []) m) (out_bounced l m);
          events = λ T m at all. all;
          taken = λ m. append_none (map said (taken_at s m)) (replies_in (Bounced l ∷ []) m) (bounce_says_none l m);
          entered = λ T at is_new. omega (arith, is_new);
          own = λ came h. subst (λ k. IsPocket p k v.returned) (sym (add-zero came)) h;
          shut = λ has. absurd (false≢true has);
          account = stays_same v;
        }
