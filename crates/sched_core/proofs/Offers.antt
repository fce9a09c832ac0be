-- How an offer is found: a lane that is free for the slot, a lane for the event, the event of the queue, the queue.
use Rattle.std.proofs.Common.{◌≡◌, ◌≢◌, ℕ, ◌<◌, ◌≤◌, ◌%◌, Bool, true, false, cond, nat_lt, ◌&&◌, ◌==◌, List, [], ◌⊎◌, length, get_or, All, Option, Some, None, inl, inr, ⊎_elim, refl, sym, ap, ◌∙◌, subst, arith, eq-eqb, eqb-true}
use Rattle.std.specs.Option.{IfSome, IfNone, is_some}
use Rattle.std.proofs.lemmas.Bool.{and_from, and_parts, or_cases, or_right, cases_eq, false≢true, false_from_ne_true, ltb-true, lt-ltb}
use Rattle.std.proofs.lemmas.List.{get_or_default}
use Rattle.transcripts.proofs.WholeStands.{offer_is_allowed, offer_is_accepted}
use Rattle.transcripts.specs.Allowed.{Allowed}
use Rattle.transcripts.specs.Choice.{Passed, Fits, HasNoOther, HasNone, HasQuota, IsBetterLane, IsChoice, IsOffer, IsServedBefore, WaitsIn, is_earlier}
use Rattle.transcripts.specs.Lawful.{keeps_order}
use Rattle.evt_types.specs.Plan.{Plan, queue_of, level_of, slot_of, serves, is_atomic, is_ordered}
use Rattle.transcripts.specs.Standing.{View, Stands, waiting_at}
use Rattle.transcripts.specs.Transcript.{event_at}
use Rattle.evt_types.specs.declared.event.Event.{Event}
use Rattle.evt_types.specs.declared.event.Kind.{Kind}
use Rattle.evt_types.specs.declared.event.Kind.TheVariants.{Ordered, Atomic, Parallel}
use Rattle.evt_types.specs.declared.event.Numbered.{Numbered}
use Rattle.evt_types.specs.declared.step.Step.{Step}
use Rattle.evt_types.specs.declared.step.Step.TheVariants.{Give}
use Rattle.small_set.specs.SmallSets.{Has, IsEmpty, IsFirst, SameBut}
use Rattle.small_set.specs.declared.set.SmallSet.{SmallSet}
use Rattle.parked_queue.specs.Busy.{AreBusy}
use Rattle.sched_core.proofs.Busy.{waiting_there}
use Rattle.sched_core.specs.Inner.{slots_for}
use Rattle.sched_core.specs.Offered.{numbered_in, FitsSlot, HasAllowed, HasNoneAllowedIn, HasNoneIn, IsFirstIn, IsOfferIn, IsOfferOf, slot_at}
use Rattle.sched_core.specs.Service.{IsServedFirst}
use Rattle.sched_core.specs.View.{view_in}
use Rattle.sched_core.specs.declared.state.Core.TheInside.{Inside}
use Rattle.sched_core.specs.declared.offer.Offer.{Offer}

-- ---- the event of a level

pub none_of : {X : Type 0} (o : Option X) (P : Type 0) → is_some o ≡ false → IfNone o P → P
none_of None P h p = p
none_of (Some x) P h p = absurd (false≢true (sym h))

pub some_here : {X : Type 0} (o : Option X) (P : Type 0) → is_some o ≡ true → IfNone o P
some_here None P h = absurd (false≢true h)
some_here (Some x) P h = tt

pub none_here : {X : Type 0} (o : Option X) (P : Type 0) → is_some o ≡ false → IfNone o P → P
none_here None P h p = p
none_here (Some x) P h p = absurd (false≢true (sym h))

pub none_either : {X : Type 0} (o : Option X) (P : Type 0) → P → IfNone o P
none_either None P p = p
none_either (Some x) P p = tt

-- a lane fits an event where it may take the event's slot
pub slot_fits : (v : View) (s : Passed) (l q : ℕ) (w : Numbered) → FitsSlot v s q (slot_at v q w) l → Fits v s l q w
slot_fits v s l q w fits = record { lane = fits.lane; ready = fits.ready; linked = fits.linked; room = fits.room; alone = fits.alone; places = fits.places }

pub fits_slot : (v : View) (s : Passed) (l q : ℕ) (w : Numbered) → Fits v s l q w → FitsSlot v s q (slot_at v q w) l
fits_slot v s l q w fits = record { lane = fits.lane; ready = fits.ready; linked = fits.linked; room = fits.room; alone = fits.alone; places = fits.places }

-- where no event of the level has an allowed slot no lane may take one of them
pub none_in : (v : View) (s : Passed) (q c : ℕ) (allowed : SmallSet) → HasAllowed v s q allowed → ((w : Numbered) → slot_at v q w < slots_for v.shape q) → HasNoneAllowedIn v q c allowed → HasNoneIn v s q c
none_in v s q c allowed has within none w waits level m fits = none w waits level (has (slot_at v q w) (within w) (m, fits_slot v s m q w fits))

-- where every slot is allowed none is missing
pub all_allowed : (v : View) (s : Passed) (q : ℕ) (all : SmallSet) → ((slot : ℕ) → slot < slots_for v.shape q → Has all slot) → HasAllowed v s q all
all_allowed v s q all has slot within some = has slot within

-- the first event of an allowed slot, for the best lane that may take it
pub offer_in : (v : View) (s : Passed) (q c l slot : ℕ) (allowed : SmallSet) (w : Numbered) → HasAllowed v s q allowed → ((u : Numbered) → slot_at v q u < slots_for v.shape q) → IsFirstIn v q c allowed w → slot ≡ slot_at v q w
    → FitsSlot v s q slot l → ((m : ℕ) → FitsSlot v s q slot m → ¬ IsBetterLane v m l) → IsOfferIn v s q c l w
offer_in v s q c l slot allowed w has within first is fits best =
    record {
      level = first.level;
      waits = first.waits;
      fits = slot_fits v s l q w (subst (λ k. FitsSlot v s q k l) is fits);
      best = λ m fits_m. best m (subst (λ k. FitsSlot v s q k m) (sym is) (fits_slot v s m q w fits_m));
      first = λ u m waits level fits_m. first.first u waits level (has (slot_at v q u) (within u) (m, fits_slot v s m q u fits_m));
    }

-- the slot of an event that no lane may take need not be asked again
pub allowed_rest : (v : View) (s : Passed) (q slot : ℕ) (allowed rest : SmallSet) → ((m : ℕ) → ¬ FitsSlot v s q slot m) → SameBut slot allowed rest → HasAllowed v s q allowed → HasAllowed v s q rest
allowed_rest v s q slot allowed rest none others has t within some =
    ⊎_elim (λ e. absurd (none some.0 (subst (λ k. FitsSlot v s q k some.0) e some.1))) (λ ne. (others t ne).1 (has t within some)) (cases_eq t slot)

-- ---- a walk over places

-- where the lowest place is taken out, what is beside the rest is that place or was beside before
beside : (n r : ℕ) (left rest : SmallSet) → SameBut n left rest → ¬ Has rest r → (r ≡ n) ⊎ (¬ Has left r)
beside n r left rest others never = ⊎_elim (λ e. inl e) (λ ne. inr (λ has. never ((others r ne).1 has))) (cases_eq r n)

-- ---- the levels of a queue

-- nothing can be given of the levels that aren't left to look at
abbrev pub HasNoneBeside : View → Passed → ℕ → SmallSet → Type 0
HasNoneBeside v s q left = (c : ℕ) → (¬ Has left c) → HasNoneIn v s q c

-- nothing waits of the levels that aren't looked at
pub levels_beside : (v : View) (s : Passed) (q : ℕ) (left : SmallSet) → ((c : ℕ) → (¬ Has left c) → All (λ (w : Numbered). level_of w.event ≢ c) (waiting_at v q)) → HasNoneBeside v s q left
levels_beside v s q left rest c never w waits here m fits = subst (λ (x : Numbered). level_of x.event ≢ c) waits.2 (rest c never waits.0 w waits.1) here

pub level_more : (v : View) (s : Passed) (q c : ℕ) (left next : SmallSet) → SameBut c left next → HasNoneIn v s q c → HasNoneBeside v s q left → HasNoneBeside v s q next
level_more v s q c left next others here none k never = ⊎_elim (λ e. subst (HasNoneIn v s q) (sym e) here) (λ was. none k was) (beside c k left next others never)

pub none_beside : (v : View) (s : Passed) (q : ℕ) (left : SmallSet) → IsEmpty left → HasNoneBeside v s q left → HasNone v s q
none_beside v s q left empty none w waits m fits = none (level_of w.event) (empty (level_of w.event)) w waits refl m fits

-- nothing that a lane may take is earlier than an offer of a level below which no lane may take anything
pub not_earlier : (v : View) (s : Passed) (q c l : ℕ) (w : Numbered) → IsOfferIn v s q c l w → ((u : Numbered) (m : ℕ) → WaitsIn v q u → level_of u.event < c → ¬ Fits v s m q u) → (u : Numbered) (m : ℕ) → WaitsIn v q u → Fits v s m q u → is_earlier u w ≡ false
not_earlier v s q c l w offer lower u m waits fits =
    false_from_ne_true (is_earlier u w) (λ earlier. ⊎_elim
    (λ less. lower u m waits (subst (λ n. level_of u.event < n) offer.level (ltb-true _ _ less)) fits)
    (λ same.
    let parts = and_parts (level_of u.event == level_of w.event) (nat_lt u.number w.number) same in
    let less : u.number < w.number = ltb-true _ _ parts.1 in
    let le : w.number ≤ u.number = offer.first u m waits (eqb-true (level_of u.event) (level_of w.event) parts.0 ∙ offer.level) fits in
    omega arith)
    (or_cases (nat_lt (level_of u.event) (level_of w.event)) ((level_of u.event == level_of w.event) && nat_lt u.number w.number) earlier))

-- an offer of the queue, and one of its level
abbrev pub IsOfferFrom : View → Passed → ℕ → Offer → Type 0
IsOfferFrom v s q y = (y.delivery.queue ≡ q) × IsOfferOf v s q y.lane (numbered_in y.delivery)

abbrev pub IsOfferAt : View → Passed → ℕ → ℕ → Offer → Type 0
IsOfferAt v s q c y = (y.delivery.queue ≡ q) × IsOfferIn v s q c y.lane (numbered_in y.delivery)

-- the event is for the lane
pub offer_made : (v : View) (s : Passed) (q c l : ℕ) (w : Numbered) (y : Offer) → y.lane ≡ l → y.delivery.queue ≡ q → numbered_in y.delivery ≡ w → IsOfferIn v s q c l w → IsOfferAt v s q c y
offer_made v s q c l w y lane queue event offer = (queue, subst (λ k. IsOfferIn v s q c k (numbered_in y.delivery)) (sym lane) (subst (IsOfferIn v s q c l) (sym event) offer))

pub offer_first : (v : View) (s : Passed) (q c : ℕ) (left : SmallSet) (o : Option Offer) → IsFirst left c → HasNoneBeside v s q left → IfSome o (IsOfferAt v s q c) → IfSome o (IsOfferFrom v s q)
offer_first v s q c left None least none offer = tt
offer_first v s q c left (Some y) least none offer =
    let this = offer.1 in (
      offer.0,
      record {
        waits = this.waits;
        fits = this.fits;
        best = this.best;
        first = not_earlier v s q c y.lane (numbered_in y.delivery) this (λ u m waits under. none (level_of u.event) (λ has. let le = least.first (level_of u.event) has in omega arith) u waits refl m);
      },
    )

-- ---- the queue

-- nothing can be given of the queues that aren't left to look at
abbrev pub NothingBeside : View → Passed → SmallSet → Type 0
NothingBeside v s left = (q : ℕ) → (¬ Has left q) → HasQuota v s q → HasNone v s q

-- a queue of which nothing can be given is passed over
pub queue_passed : (v : View) (s : Passed) (n : ℕ) (left next : SmallSet) → SameBut n left next → (HasQuota v s n → HasNone v s n) → NothingBeside v s left → NothingBeside v s next
queue_passed v s n left next others here none q gone quota =
    ⊎_elim (λ e. subst (HasNone v s) (sym e) (here (subst (HasQuota v s) e quota))) (λ was. none q was quota) (beside n q left next others gone)

-- what is in a set that one member left was in it before
pub others_there : (P : ℕ → Type 0) (n : ℕ) (left next : SmallSet) → (¬ Has next n) → SameBut n left next → ((q : ℕ) → Has left q → P q) → (q : ℕ) → Has next q → P q
others_there P n left next gone others all q has = all q ((others q (λ e. gone (subst (Has next) e has))).0 has)

-- a queue's offer is the choice where the queues that are served before have none
choice_is : (v : View) (s : Passed) (q l : ℕ) (w : Numbered) → q < length v.shape.queues → HasQuota v s q → IsOfferOf v s q l w → ((r : ℕ) → HasQuota v s r → IsServedBefore v.shape r q → HasNone v s r) → IsChoice v s l q w
choice_is v s q l w there quota offer before = record { there = there; quota = quota; waits = offer.waits; fits = offer.fits; lane = offer.best; event = offer.first; queue = λ r _ quota first. before r quota first }

-- so is the offer of the queue that is served first of those that are left
pub served_offer : (v : View) (s : Passed) (n : ℕ) (left : SmallSet) (o : Option Offer) → IsServedFirst v.shape left n → NothingBeside v s left → n < length v.shape.queues → HasQuota v s n → IfSome o (IsOfferFrom v s n)
    → IfSome o (λ y. IsChoice v s y.lane y.delivery.queue (numbered_in y.delivery))
served_offer v s n left None first nothing there quota offer = tt
served_offer v s n left (Some y) first nothing there quota offer =
    subst (λ q. IsChoice v s y.lane q (numbered_in y.delivery)) (sym offer.0)
    (choice_is v s n y.lane (numbered_in y.delivery) there quota offer.1 (λ r quota_r before. nothing r (λ has. first.first r has before) quota_r))

-- where nothing waits nothing is offered
pub none_waits : (v : View) (s : Passed) (q : ℕ) → waiting_at v q ≡ [] → HasNone v s q
none_waits v s q nothing w waits m fits = let e = ap length nothing in let lt = waits.1 in omega arith

-- so of the queues that aren't busy, and those that are are there
pub idle_queues : (a : Inside) (v : View) (s : Passed) (busy : SmallSet) → view_in a ≡ v → AreBusy a.queues busy → NothingBeside v s busy
idle_queues a v s busy is are q idle quota = subst (λ u. HasNone u s q) is (none_waits (view_in a) s q (waiting_there a q ∙ are.rest q idle))

pub busy_queues : (a : Inside) (v : View) (busy : SmallSet) → view_in a ≡ v → length a.queues ≡ length a.shape.queues → AreBusy a.queues busy → (q : ℕ) → Has busy q → q < length v.shape.queues
busy_queues a v busy is count are q has = subst (λ (u : View). q < length u.shape.queues) is (subst (λ n. q < n) count (are.there q has))

-- ---- a choice is an offer: what waits before it of its flow and level would fit the same lane

same_slot_by : (k : Kind) (slots : ℕ) (d e : Event) → cond (level_of d == level_of e) (cond (is_ordered k) true (is_atomic k && (d.flow == e.flow))) false ≡ true → cond (is_atomic k) (d.flow % slots) 0 ≡ cond (is_atomic k) (e.flow % slots) 0
same_slot_by Ordered slots d e h = refl
same_slot_by Parallel slots d e h = refl
same_slot_by Atomic slots d e h = by_level (level_of d == level_of e) h
  where
    by_level : (b : Bool) → cond b (d.flow == e.flow) false ≡ true → d.flow % slots ≡ e.flow % slots
    by_level true same = ap (λ f. f % slots) (eqb-true d.flow e.flow same)
    by_level false same = absurd (false≢true same)

-- two events of a queue that keep their order have one slot
same_slot : (p : Plan) (q : ℕ) (d e : Event) → keeps_order p q d e ≡ true → slot_of p q d.flow ≡ slot_of p q e.flow
same_slot p q d e h = same_slot_by (queue_of p q).kind (queue_of p q).slots d e h

fits_too : (v : View) (s : Passed) (l q : ℕ) (u w : Numbered) → keeps_order v.shape q u.event w.event ≡ true → Fits v s l q w → Fits v s l q u
fits_too v s l q u w keeps fits =
    let same = sym (same_slot v.shape q u.event w.event keeps) in
    record {
      lane = fits.lane;
      ready = fits.ready;
      linked = subst (λ slot. serves v.shape l q slot ≡ true) same fits.linked;
      room = fits.room;
      alone = λ atomic. subst (HasNoOther v l q) same (fits.alone atomic);
      places = fits.places;
    }

pub choice_is_offer : (v : View) (s : Passed) (l q : ℕ) (w : Numbered) → IsChoice v s l q w → IsOffer v l q w
choice_is_offer v s l q w choice =
    record {
      queue = choice.there;
      lane = choice.fits.lane;
      waits = choice.waits;
      linked = choice.fits.linked;
      room = choice.fits.room;
      alone = choice.fits.alone;
      places = choice.fits.places;
      flow = λ k d lt below. before (get_or (waiting_at v q) k d) (k, lt, get_or_default (waiting_at v q) k (get_or (waiting_at v q) k d) d lt) below;
    }
  where
    before : (u : Numbered) → WaitsIn v q u → u.number < w.number → keeps_order v.shape q u.event w.event ≡ false
    before u waits below =
        false_from_ne_true (keeps_order v.shape q u.event w.event) (λ keeps. false≢true (sym (choice.event u l waits (fits_too v s l q u w keeps choice.fits)) ∙ or_right (nat_lt (level_of u.event) (level_of w.event)) ((level_of u.event == level_of w.event) && nat_lt u.number w.number) (and_from _ _ (eq-eqb _ _ (same_level keeps)) (lt-ltb u.number w.number below))))
      where
        same_level : keeps_order v.shape q u.event w.event ≡ true → level_of u.event ≡ level_of w.event
        same_level keeps = by_case (level_of u.event == level_of w.event) refl keeps
          where
            by_case : (b : Bool) → (level_of u.event == level_of w.event) ≡ b → cond b (cond (is_ordered (queue_of v.shape q).kind) true (is_atomic (queue_of v.shape q).kind && (u.event.flow == w.event.flow))) false ≡ true → level_of u.event ≡ level_of w.event
            by_case true h k = eqb-true _ _ h
            by_case false h k = absurd (false≢true k)

pub offers : (v : View) (s : Passed) (o : Option Offer) → IfSome o (λ x. IsChoice v s x.lane x.delivery.queue (numbered_in x.delivery)) → IfSome o (λ x. IsOffer v x.lane x.delivery.queue (numbered_in x.delivery))
offers v s None choice = tt
offers v s (Some x) choice = choice_is_offer v s x.lane x.delivery.queue (numbered_in x.delivery) choice

pub offer_keeps : (v : View) (o : Option Offer) (T : List Step) → Stands T v → IfSome o (λ x. IsOffer v x.lane x.delivery.queue (numbered_in x.delivery)) → IfSome o (λ x. Allowed v.shape T (Give x.lane x.delivery.queue x.delivery.number) × (event_at T x.delivery.queue x.delivery.number ≡ Some x.delivery.event))
offer_keeps v None T stands offer = tt
offer_keeps v (Some x) T stands offer = (offer_is_allowed v T x.lane x.delivery.queue (numbered_in x.delivery) stands offer, offer_is_accepted v T x.lane x.delivery.queue (numbered_in x.delivery) stands offer)
