-- The ends of all lanes where one of them changed.
use Rattle.std.proofs.Common.{◌≡◌, ◌≢◌, ℕ, ◌+◌, ◌-◌, ◌<◌, ◌≤◌, List, [], ◌∷◌, length, map, set, get_or, ◌⊎◌, inl, inr, refl, sym, ap, ◌∙◌, subst, arith}
use Rattle.std.proofs.lemmas.Bool.{cases_eq}
use Rattle.std.proofs.lemmas.List.{get_or-set_other, get_or-set_same, get_or-map, length-map, map-set}
use Rattle.std.proofs.Math.Seq.{map-set_same}
use Rattle.credit_pool.specs.declared.account.Account.{Account}
use Rattle.credit_pool.specs.declared.pool.Credits.{Credits}
use Rattle.event_scheduler.specs.Hidden.{NoneHidden}
use Rattle.event_scheduler.specs.Scheduler.{Sight, sight}
use Rattle.event_scheduler.specs.Seeking.{SameLanes, fetched_in, seen_in}
use Rattle.evt_types.specs.declared.event.Delivery.{Delivery}
use Rattle.evt_types.specs.declared.event.Reply.{Reply}
use Rattle.lane_rings.specs.Ends.{fetched_replies, hidden_offers, offered, seen_replies, taken}
use Rattle.lane_rings.specs.Identity.{LaneId, near_id}
use Rattle.lane_rings.specs.declared.near.Near.{Near}
use Rattle.transcripts.specs.Standing.{View}

-- a list of each lane, where one lane's end changed: its own is the new end's, the others are as they were
pub each_lane :
    {X : Type 0} (P : ℕ → List X → List X → Type 0) (f : Near → List X) (lanes : List Near) (i : ℕ) (near after : Near) → i < length lanes → near ≡ get_or lanes i near
    → P i (f near) (f after) → ((k : ℕ) → k ≢ i → (xs : List X) → P k xs xs) → (k : ℕ) → P k (get_or (map f lanes) k []) (get_or (map f (set lanes i after)) k [])
each_lane P f lanes i near after within is here others k = by_place (cases_eq k i)
  where
    by_place : (k ≡ i) ⊎ (k ≢ i) → P k (get_or (map f lanes) k []) (get_or (map f (set lanes i after)) k [])
    by_place (inl same) =
        let before : get_or (map f lanes) i [] ≡ f near = get_or-map f lanes i near [] within ∙ ap f (sym is) in
        let later : get_or (map f (set lanes i after)) i [] ≡ f after =
        ap (λ xs. get_or xs i []) (map-set f lanes i after) ∙ get_or-set_same (map f lanes) i (f after) [] (omega (arith, length-map lanes f, within)) in
        subst (λ j. P j (get_or (map f lanes) j []) (get_or (map f (set lanes i after)) j [])) (sym same)
        (subst (λ xs. P i xs (get_or (map f (set lanes i after)) i [])) (sym before) (subst (λ xs. P i (f near) xs) (sym later) here))
    by_place (inr other) =
        let later : get_or (map f (set lanes i after)) k [] ≡ get_or (map f lanes) k [] =
        ap (λ xs. get_or xs k []) (map-set f lanes i after) ∙ get_or-set_other (map f lanes) i k (f after) [] other in
        subst (λ xs. P k (get_or (map f lanes) k []) xs) (sym later) (others k other (get_or (map f lanes) k []))

-- what is the same of both ends is the same of all lanes
pub same_lists : {X : Type 0} (f : Near → X) (lanes : List Near) (i : ℕ) (near after : Near) → near ≡ get_or lanes i near → f after ≡ f near → map f (set lanes i after) ≡ map f lanes
same_lists f lanes i near after is same = map-set_same f lanes i after near (same ∙ ap f is)

-- the scheduler is the same to clauses where the end of a lane is, with what it has seen
pub same_sight :
    (pool : Credits) (core : View) (lanes : List Near) (v : Account) (p n i : ℕ) (near after : Near) → near ≡ get_or lanes i near
    → near_id after ≡ near_id near → offered after ≡ offered near → taken after ≡ taken near → seen_replies after ≡ seen_replies near
    → sight pool core lanes v p n ≡ sight pool core (set lanes i after) v p n
same_sight pool core lanes v p n i near after is id offers takings seens =
    let now : List Near = set lanes i after in
    sym
    (ap (λ x. of_lists x (map offered now) (map taken now) (map seen_replies now)) (same_lists near_id lanes i near after is id)
    ∙ (ap (λ x. of_lists (map near_id lanes) x (map taken now) (map seen_replies now)) (same_lists offered lanes i near after is offers)
    ∙ (ap (λ x. of_lists (map near_id lanes) (map offered lanes) x (map seen_replies now)) (same_lists taken lanes i near after is takings)
    ∙ ap (λ x. of_lists (map near_id lanes) (map offered lanes) (map taken lanes) x) (same_lists seen_replies lanes i near after is seens))))
  where
    of_lists : List LaneId → List (List Delivery) → List (List Reply) → List (List Reply) → Sight
    of_lists ids offers takings seens =
        record { site = record { pool = pool; lanes = ids }; core = core; offered = offers; taken = takings; seen = seens; account = v; pocket = p; accepted_new = n }

-- what is seen at the lane is its end's, and that of the others is as it was
pub seen_here : (lanes : List Near) (i : ℕ) (after : Near) → i < length lanes → get_or (map seen_replies (set lanes i after)) i [] ≡ seen_replies after
seen_here lanes i after within =
    ap (λ xs. get_or xs i []) (map-set seen_replies lanes i after) ∙ get_or-set_same (map seen_replies lanes) i (seen_replies after) [] (omega (arith, length-map lanes seen_replies, within))

-- what was fetched of the lane is what was fetched at its end
pub fetched_here : (lanes : List Near) (i : ℕ) (near : Near) → i < length lanes → near ≡ get_or lanes i near → fetched_in lanes i ≡ fetched_replies near
fetched_here lanes i near within is = get_or-map fetched_replies lanes i near [] within ∙ ap fetched_replies (sym is)

-- and what was fetched at the lane's new end
pub fetched_now : (lanes : List Near) (i : ℕ) (after : Near) → i < length lanes → fetched_in (set lanes i after) i ≡ fetched_replies after
fetched_now lanes i after within =
    ap (λ xs. get_or xs i []) (map-set fetched_replies lanes i after) ∙ get_or-set_same (map fetched_replies lanes) i (fetched_replies after) [] (omega (arith, length-map lanes fetched_replies, within))

-- one where nothing was fetched
abbrev pub unfetched : List Reply → ℕ
unfetched [] = 1
unfetched (r ∷ rs) = 0

-- taking goes on where some were taken, or nothing was fetched before, and something is fetched now
pub fewer_left : (before after : List Reply) (most more : ℕ) → after ≢ [] → 0 < most → more ≤ most → (before ≢ [] → 0 < more) → most - more + unfetched after < most + unfetched before
fewer_left before [] most more now some few took = absurd (now refl)
fewer_left [] (r ∷ rs) most more now some few took = omega (arith, some, few)
fewer_left (x ∷ xs) (r ∷ rs) most more now some few took = omega (arith, some, few, took (λ e. absurd cc))

pub seen_elsewhere : (lanes : List Near) (i : ℕ) (after : Near) (l : ℕ) → l ≢ i → get_or (map seen_replies (set lanes i after)) l [] ≡ get_or (map seen_replies lanes) l []
seen_elsewhere lanes i after l other =
    ap (λ xs. get_or xs l []) (map-set seen_replies lanes i after) ∙ get_or-set_other (map seen_replies lanes) i l (seen_replies after) [] other

-- ---- a lane more is looked at

pub same_lanes : (before lanes : List Near) (i : ℕ) (near after : Near) → SameLanes before lanes → near ≡ get_or lanes i near
    → near_id after ≡ near_id near → offered after ≡ offered near → hidden_offers after ≡ hidden_offers near → taken after ≡ taken near → SameLanes before (set lanes i after)
same_lanes before lanes i near after same is id offers hides takings =
    record {
      ids = same_lists near_id lanes i near after is id ∙ same.ids;
      offers = same_lists offered lanes i near after is offers ∙ same.offers;
      hidden = same_lists hidden_offers lanes i near after is hides ∙ same.hidden;
      takings = same_lists taken lanes i near after is takings ∙ same.takings;
    }

-- lanes of which only what was seen is other
pub length_sought : (before lanes : List Near) → SameLanes before lanes → length lanes ≡ length before
length_sought before lanes same = sym (length-map lanes near_id) ∙ (ap length same.ids ∙ length-map before near_id)

pub hidden_sought : (before lanes : List Near) → SameLanes before lanes → NoneHidden before → NoneHidden lanes
hidden_sought before lanes same h l = ap (λ xs. get_or xs l []) same.hidden ∙ h l

pub none_before : (lanes : List Near) (from i : ℕ) (after : Near) → ((k : ℕ) → from ≤ k → k < i → seen_in lanes k ≡ []) → (k : ℕ) → from ≤ k → k < i → seen_in (set lanes i after) k ≡ []
none_before lanes from i after none k past lt = seen_elsewhere lanes i after k (λ e. omega (arith, lt, e)) ∙ none k past lt

pub none_to : (lanes : List Near) (from i : ℕ) (after : Near) → i < length lanes → ((k : ℕ) → from ≤ k → k < i → seen_in lanes k ≡ []) → seen_replies after ≡ []
    → (k : ℕ) → from ≤ k → k < i + 1 → seen_in (set lanes i after) k ≡ []
none_to lanes from i after within none here k past lt = by_place (cases_eq k i)
  where
    by_place : (k ≡ i) ⊎ (k ≢ i) → seen_in (set lanes i after) k ≡ []
    by_place (inl same) = ap (λ j. seen_in (set lanes i after) j) same ∙ (seen_here lanes i after within ∙ here)
    by_place (inr other) = seen_elsewhere lanes i after k other ∙ none k past (omega (arith, lt, other))

pub still_seen : (before lanes : List Near) (from i : ℕ) (after : Near) → from ≤ i → ((k : ℕ) → k < from → seen_in lanes k ≡ seen_in before k) → (k : ℕ) → k < from → seen_in (set lanes i after) k ≡ seen_in before k
still_seen before lanes from i after past same k lt = seen_elsewhere lanes i after k (λ e. omega (arith, lt, past, e)) ∙ same k lt

-- ---- what is hidden

-- what the lane's end hides, where none is hidden
pub hidden_here : (lanes : List Near) (i : ℕ) (near : Near) → i < length lanes → near ≡ get_or lanes i near → NoneHidden lanes → hidden_offers near ≡ []
hidden_here lanes i near within is h = sym (get_or-map hidden_offers lanes i near [] within ∙ ap hidden_offers (sym is)) ∙ h i

-- the end hides nothing
pub none_hidden : (lanes : List Near) (i : ℕ) (near after : Near) → i < length lanes → near ≡ get_or lanes i near → hidden_offers after ≡ [] → NoneHidden lanes → NoneHidden (set lanes i after)
none_hidden lanes i near after within is shown h l =
    each_lane (λ k before now. before ≡ [] → now ≡ []) hidden_offers lanes i near after within is (λ _. shown) (λ k ne xs none. none) l (h l)

-- the end hides as much as before
pub still_hidden : (lanes : List Near) (i : ℕ) (near after : Near) → near ≡ get_or lanes i near → hidden_offers after ≡ hidden_offers near → NoneHidden lanes → NoneHidden (set lanes i after)
still_hidden lanes i near after is same h l = ap (λ xs. get_or xs l []) (same_lists hidden_offers lanes i near after is same) ∙ h l
