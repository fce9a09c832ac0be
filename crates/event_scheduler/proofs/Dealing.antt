-- What is gathered at lanes, and goes into their rings, one lane after another.
use Rattle.std.proofs.Common.{◌≡◌, ◌≢◌, ℕ, ◌+◌, ◌<◌, ◌≤◌, ◌==◌, List, [], ◌∷◌, ◌++◌, cond, drop, eq-eqb, length, map, set, get_or, take, ⊎_elim, refl, sym, ap, ◌∙◌, subst, arith}
use Rattle.std.proofs.lemmas.Bool.{cases_eq, ne_eqb}
use Rattle.std.proofs.lemmas.List.{drop_more, get_or-map, get_or-set_other, get_or-set_same, length-map, map-set, take_all, take_more}
use Rattle.std.proofs.lemmas.List.Sums.{sum_by-cons}
use Rattle.event_scheduler.proofs.Lanes.{each_lane}
use Rattle.event_scheduler.specs.Dealing.{AreGathered, HasRoomFor, IsOffered, room_at}
use Rattle.event_scheduler.specs.Hidden.{hidden_at}
use Rattle.evt_types.specs.Plan.{depth_of}
use Rattle.evt_types.specs.declared.event.Delivery.{Delivery}
use Rattle.lane_rings.specs.Ends.{hidden_offers, room_in}
use Rattle.lane_rings.specs.declared.near.Near.{Near}
use Rattle.sched_core.specs.Runs.{times}
use Rattle.small_set.specs.SmallSets.{Has, SameBut}
use Rattle.small_set.specs.declared.set.SmallSet.{SmallSet}
use Rattle.transcripts.specs.Standing.{View, unanswered_at}

-- nothing is hidden but at these lanes
abbrev pub HiddenAmong : SmallSet → List Near → Type 0
HiddenAmong set lanes = (l : ℕ) → (¬ Has set l) → hidden_at lanes l ≡ []

-- the set has only lanes that there are
abbrev pub AreThere : SmallSet → ℕ → Type 0
AreThere set count = (l : ℕ) → Has set l → l < count

-- a lane of them is flushed
pub flushed_more : (lanes : List Near) (i : ℕ) (near after : Near) (left rest : SmallSet) → i < length lanes → near ≡ get_or lanes i near → hidden_offers after ≡ [] → SameBut i left rest
    → HiddenAmong left lanes → HiddenAmong rest (set lanes i after)
flushed_more lanes i near after left rest within is shown same others l out =
    each_lane (λ k before now. ((¬ Has left k) → before ≡ []) → (¬ Has rest k) → now ≡ []) hidden_offers lanes i near after within is (λ was gone. shown)
    (λ k ne xs was gone. was (λ has. gone ((same k ne).1 has))) l (others l) out

-- a lane of these has another end
pub hidden_beside : (lanes : List Near) (i : ℕ) (after : Near) (among : SmallSet) → Has among i → HiddenAmong among lanes → HiddenAmong among (set lanes i after)
hidden_beside lanes i after among has others l out =
    ap (λ xs. get_or xs l []) (map-set hidden_offers lanes i after) ∙ (get_or-set_other (map hidden_offers lanes) i l (hidden_offers after) [] (λ e. out (subst (Has among) (sym e) has)) ∙ others l out)

pub there_less : (count i : ℕ) (left rest : SmallSet) → (¬ Has rest i) → SameBut i left rest → AreThere left count → AreThere rest count
there_less count i left rest gone same was l has = ⊎_elim (λ e. absurd (gone (subst (Has rest) e has))) (λ ne. was l ((same l ne).0 has)) (cases_eq l i)

-- ---- how many the lanes' rings have room for

-- at a lane, and at one whose end changed
pub room_here : (lanes : List Near) (i : ℕ) (near : Near) → i < length lanes → near ≡ get_or lanes i near → room_at lanes i ≡ room_in near
room_here lanes i near within is = get_or-map room_in lanes i near 0 within ∙ ap room_in (sym is)

pub room_now : (lanes : List Near) (i : ℕ) (after : Near) → i < length lanes → room_at (set lanes i after) i ≡ room_in after
room_now lanes i after within = ap (λ xs. get_or xs i 0) (map-set room_in lanes i after) ∙ get_or-set_same (map room_in lanes) i (room_in after) 0 (omega (arith, length-map lanes room_in, within))

-- and at the others
pub room_other : (lanes : List Near) (i k : ℕ) (after : Near) → k ≢ i → room_at (set lanes i after) k ≡ room_at lanes k
room_other lanes i k after ne = ap (λ xs. get_or xs k 0) (map-set room_in lanes i after) ∙ get_or-set_other (map room_in lanes) i k (room_in after) 0 ne

-- a lane more was looked at
pub room_more : (v : View) (lanes : List Near) (among left rest : SmallSet) (i : ℕ) (after : Near) (least lower : ℕ) → i < length lanes → SameBut i left rest → lower ≤ least
    → ((n : ℕ) → n ≤ lower → n + length (unanswered_at v i) ≤ depth_of v.shape i → n ≤ room_in after)
    → ((m : ℕ) → Has among m → ¬ Has left m → HasRoomFor v lanes least m) → (m : ℕ) → Has among m → ¬ Has rest m → HasRoomFor v (set lanes i after) lower m
room_more v lanes among left rest i after least lower within others fewer fits was m has out n few held =
    ⊎_elim
    (λ same. let its = fits n few (subst (λ k. n + length (unanswered_at v k) ≤ depth_of v.shape k) same held) in omega (arith, its, ap (room_at (set lanes i after)) same, room_now lanes i after within))
    (λ ne. let its = was m has (λ there. out ((others m ne).1 there)) n (omega (arith, few, fewer)) held in omega (arith, its, room_other lanes i m after ne))
    (cases_eq m i)

-- ---- what is gathered at the lanes

-- one more
pub gathered_push : (lanes : List Near) (ds : List Delivery) (to : List ℕ) (ends : List Near) (d : Delivery) (l : ℕ) (near later : Near) → AreGathered lanes ds to ends → near ≡ get_or ends l near → IsOffered d near later
    → AreGathered lanes (ds ++ d ∷ []) (to ++ l ∷ []) (set ends l later)
gathered_push lanes [] [] ends d l near later went is put = (near, later, is ∙ ap (λ xs. get_or xs l near) went, put, ap (λ xs. set xs l later) went)
gathered_push lanes [] (k ∷ to) ends d l near later went is put = absurd went
gathered_push lanes (e ∷ ds) [] ends d l near later went is put = absurd went
gathered_push lanes (e ∷ ds) (k ∷ to) ends d l near later went is put =
    (went.0, went.1, went.2, went.3, gathered_push (set lanes k went.1) ds to ends d l near later went.4 is put)

-- the row's next delivery
pub gathered_next : (lanes : List Near) (row : List Delivery) (to : List ℕ) (i : ℕ) (ends : List Near) (d : Delivery) (l : ℕ) (near later : Near) → i < length row → i < length to → d ≡ get_or row i d → l ≡ get_or to i l
    → AreGathered lanes (take i row) (take i to) ends → near ≡ get_or ends l near → IsOffered d near later → AreGathered lanes (take (i + 1) row) (take (i + 1) to) (set ends l later)
gathered_next lanes row to i ends d l near later within there read lane went is put =
    subst (λ ds. AreGathered lanes ds (take (i + 1) to) (set ends l later)) (sym (take_more row i d within ∙ ap (λ e. take i row ++ e ∷ []) (sym read)))
    (subst (λ ls. AreGathered lanes (take i row ++ d ∷ []) ls (set ends l later)) (sym (take_more to i l there ∙ ap (λ k. take i to ++ k ∷ []) (sym lane)))
    (gathered_push lanes (take i row) (take i to) ends d l near later went is put))

-- and the last one
pub all_gathered : (lanes : List Near) (row : List Delivery) (to : List ℕ) (i : ℕ) (ends : List Near) → i ≡ length row → length to ≡ length row → AreGathered lanes (take i row) (take i to) ends → AreGathered lanes row to ends
all_gathered lanes row to i ends all same went =
    subst (λ ds. AreGathered lanes ds to ends) (take_all i row (omega (arith, all)))
    (subst (λ ls. AreGathered lanes (take i row) ls ends) (take_all i to (omega (arith, all, same))) went)

-- of the lanes that are to come, one fewer is this one
pub times_next : (m l : ℕ) (to : List ℕ) (i : ℕ) → i < length to → l ≡ get_or to i l → times m (drop i to) ≡ cond (l == m) 1 0 + times m (drop (i + 1) to)
times_next m l to i within lane =
    ap (times m) (drop_more to i l within ∙ ap (λ k. k ∷ drop (i + 1) to) (sym lane)) ∙ sum_by-cons (λ k. cond (k == m) 1 0) l (drop (i + 1) to)

pub room_left : (lanes : List Near) (to : List ℕ) (i l : ℕ) (near later : Near) (m : ℕ) → i < length to → l ≡ get_or to i l → l < length lanes → near ≡ get_or lanes l near → room_in later + 1 ≡ room_in near
    → times m (drop i to) ≤ room_at lanes m → times m (drop (i + 1) to) ≤ room_at (set lanes l later) m
room_left lanes to i l near later m within lane there is less room =
    let count = times_next m l to i within lane in
    ⊎_elim
    (λ same.
    let one : ◌≡◌ {A = ℕ} (cond (l == m) 1 0) 1 = ap (λ b. cond b 1 0) (eq-eqb l m (sym same)) in
    let now = ap (room_at (set lanes l later)) same ∙ room_now lanes l later there in
    let before = ap (room_at lanes) same ∙ room_here lanes l near there is in
    omega (arith, count, one, now, before, less, room))
    (λ ne.
    let none : ◌≡◌ {A = ℕ} (cond (l == m) 1 0) 0 = ap (λ b. cond b 1 0) (ne_eqb l m (λ e. ne (sym e))) in
    omega (arith, count, none, room_other lanes l m later ne, room))
    (cases_eq m l)

-- a lane that comes next has room for one
pub room_first : (to : List ℕ) (i l : ℕ) → i < length to → l ≡ get_or to i l → 0 < times l (drop i to)
room_first to i l within lane =
    let one : ◌≡◌ {A = ℕ} (cond (l == l) 1 0) 1 = ap (λ b. cond b 1 0) (eq-eqb l l refl) in
    omega (arith, times_next l l to i within lane, one)
