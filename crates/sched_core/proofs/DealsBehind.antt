-- Events that are dealt one by one, since some of their level are set aside: what is known after each.
use Rattle.std.proofs.Common.{◌≡◌, ◌≢◌, ◌↔◌, ℕ, ◌+◌, ◌-◌, ◌<◌, ◌≤◌, ◌==◌, false, cond, List, [], ◌∷◌, ◌++◌, length, set, get_or, All, refl, sym, ap, ◌∙◌, subst, arith, ⊎_elim}
use Rattle.std.proofs.lemmas.Bool.{cases_eq, eq-eqb, ne_eqb}
use Rattle.std.proofs.lemmas.Grind.{get_or-set_at}
use Rattle.std.proofs.lemmas.List.{length-set, length_push, set-set}
use Rattle.std.proofs.lemmas.List.Elements.{All-nil, All-push}
use Rattle.lists.proofs.Parts.{count_by-push}
use Rattle.evt_types.specs.Plan.{depth_of, has_flow_lanes}
use Rattle.evt_types.specs.declared.event.Delivery.{Delivery}
use Rattle.evt_types.specs.declared.step.Step.TheVariants.{Give}
use Rattle.sched_core.proofs.Offers.{choice_is_offer}
use Rattle.sched_core.proofs.OpenLanes.{choice_among}
use Rattle.sched_core.proofs.Runs.{allowed_on, left_on, open_on, out_on, serving_on, times_none, turn_on}
use Rattle.sched_core.specs.Offered.{AreOpenLanes, HasAllowed, HasPlace, IsOpenLane, numbered_in}
use Rattle.sched_core.specs.Runs.{AreDeals, AreDealtOut, HasLeft, HasTurn, IsNextGift, gift_of, given_once, given_times, times}
use Rattle.sched_core.specs.Sized.{IsSized}
use Rattle.small_set.specs.SmallSets.{Has, SameBut}
use Rattle.small_set.specs.declared.set.SmallSet.{SmallSet}
use Rattle.transcripts.specs.Choice.{IsChoice, IsOffer, Passed}
use Rattle.transcripts.specs.Standing.{View, after, unanswered_at}

times_none_of : (l : ℕ) → times l [] ≡ 0
times_none_of l = refl

-- one deal more
deals_push : (v : View) (s : Passed) (ds : List Delivery) (to : List ℕ) (w : View) (t : Passed) (d : Delivery) (l : ℕ) → AreDeals v s ds to w t → IsChoice w t l d.queue (numbered_in d)
    → AreDeals v s (ds ++ d ∷ []) (to ++ l ∷ []) (after w (gift_of l d ∷ [])) (given_once t d.queue)
deals_push v s [] [] w t d l h choice = (
  subst (λ x. IsChoice x s l d.queue (numbered_in d)) h.0 (subst (λ x. IsChoice w x l d.queue (numbered_in d)) h.1 choice),
  (ap (λ x. after x (gift_of l d ∷ [])) h.0, ap (λ x. given_once x d.queue) h.1),
)
deals_push v s [] (m ∷ to) w t d l h choice = absurd h
deals_push v s (e ∷ ds) [] w t d l h choice = absurd h
deals_push v s (e ∷ ds) (m ∷ to) w t d l h choice = (h.0, deals_push (after v (gift_of m e ∷ [])) (given_once s e.queue) ds to w t d l h.1 choice)

-- so many and one more
times_more : (s : Passed) (q n : ℕ) → q < length s.given → given_once (given_times s q n) q ≡ given_times s q (n + 1)
times_more s q n within =
    ap (λ gs. record s { given = gs })
    (set-set s.given q (get_or s.given q 0 + n) (get_or (set s.given q (get_or s.given q 0 + n)) q 0 + 1)
    ∙ ap (set s.given q) (omega (arith, get_or-set_at s.given q q (get_or s.given q 0 + n) 0 refl within)))

-- the lanes' events and what is given of them
abbrev pub IsOut : View → List ℕ → View → Type 0
IsOut v to w = (l : ℕ) → times l to + length (unanswered_at v l) ≤ length (unanswered_at w l)

-- What is known once some were given, of so many at most, as long as just these lanes are open and no slots but these are allowed.
pub record IsDealing (q c most : ℕ) (among : SmallSet) (v : View) (s : Passed) (ds : List Delivery) (to : List ℕ) (w : View) (t : Passed) (opened allowed : SmallSet) : Type 0 where
  pub dealt : AreDealtOut q most among v s ds to w
  pub passed : t ≡ given_times s q (length ds)
  pub count : length to ≡ length ds
  pub turn : HasTurn w t q c
  pub left : HasLeft w t q (most - length ds)
  pub long : q < length s.given
  pub ports : has_flow_lanes w.shape q ≡ false
  pub within : (l : ℕ) → Has opened l → Has among l
  pub out : IsOut v to w
  pub lanes : length ds < most → AreOpenLanes w t q opened
  pub slots : length ds < most → HasAllowed w t q allowed

-- none were given
pub dealing_none : (q c most : ℕ) (among : SmallSet) (v : View) (s : Passed) (ds : List Delivery) (to : List ℕ) (w : View) (allowed : SmallSet) → ds ≡ [] → to ≡ [] → w ≡ v → HasTurn v s q c → HasLeft v s q most → q < length s.given
    → has_flow_lanes v.shape q ≡ false → AreOpenLanes v s q among → HasAllowed v s q allowed → IsDealing q c most among v s ds to w s among allowed
dealing_none q c most among v s ds to w allowed none no_lanes same turn left long ports are all =
    subst (λ u. IsDealing q c most among v s ds to u s among allowed) (sym same)
    (subst (λ es. IsDealing q c most among v s es to v s among allowed) (sym none)
    (subst (λ ls. IsDealing q c most among v s [] ls v s among allowed) (sym no_lanes)
    (record {
      dealt =
          record {
            choices = (refl, times_none s q);
            named = All-nil (λ (d : Delivery). d.queue ≡ q);
            lanes = All-nil (Has among);
            room = λ l has. let room = ((are l).0 has).room in omega (arith, times_none_of l);
            few = omega arith;
            shape = refl;
          };
      passed = sym (times_none s q);
      count = refl;
      turn = turn;
      left = subst (HasLeft v s q) (omega arith) left;
      long = long;
      ports = ports;
      within = λ l has. has;
      out = λ l. omega (arith, times_none_of l);
      lanes = λ some. are;
      slots = λ some. all;
    })))

module _ (q c most : ℕ) (among : SmallSet) (v : View) (s : Passed) (ds : List Delivery) (to : List ℕ) (w : View) (t : Passed) (opened allowed : SmallSet) (l : ℕ) (d : Delivery) (x : View) (y : Passed)
    (was : IsDealing q c most among v s ds to w t opened allowed) (sized : IsSized w) (few : length ds < most) (next : IsNextGift q w t l d x y) where
  choice : IsChoice w t l q (numbered_in d)
  choice = subst (λ n. IsChoice w t l n (numbered_in d)) next.named next.choice

  offer : IsOffer w l q (numbered_in d)
  offer = choice_is_offer w t l q (numbered_in d) choice

  view : x ≡ after w (Give l q d.number ∷ [])
  view = next.view ∙ ap (λ n. after w (Give l n d.number ∷ [])) next.named

  -- its lane is an open one
  pub gift_open : Has opened l
  gift_open = choice_among w t l q (numbered_in d) opened was.ports (was.lanes few) choice

  long : q < length t.given
  long = let within = was.long in omega (arith, within, ap (λ (p : Passed). length p.given) was.passed, length-set s.given q (get_or s.given q 0 + length ds))

  shape : x.shape ≡ w.shape
  shape = ap (λ (z : View). z.shape) view

  left_now : HasLeft x y q (most - (length ds + 1))
  left_now = left_on l q (most - (length ds + 1)) w x t y (numbered_in d) sized offer long (subst (HasLeft w t q) (omega (arith, few)) was.left) view next.passed

  -- where one event more may be given, the queue has a place for it
  place : length ds + 1 < most → HasPlace x q
  place more ordered = let places = left_now.places ordered in omega (arith, more)

  -- while the lane has room, the same lanes are open
  pub open_still : length ds + 1 < most → length (unanswered_at x l) < depth_of x.shape l → AreOpenLanes x y q opened
  open_still more room = open_on l q opened w x t y (numbered_in d) sized offer (was.lanes few) view next.passed (place more) room

  -- once it is full, those but the lane
  pub open_less : length ds + 1 < most → depth_of x.shape l ≤ length (unanswered_at x l) → (rest : SmallSet) → ¬ Has rest l → SameBut l opened rest → AreOpenLanes x y q rest
  open_less more full rest gone others m = ⊎_elim here other (cases_eq m l)
    where
      are : AreOpenLanes w t q opened
      are = was.lanes few

      serving : IsOpenLane x y q m ↔ (Has opened m × (length (unanswered_at x m) < depth_of x.shape m))
      serving = serving_on l q opened w x t y (numbered_in d) sized offer (λ k. ((λ is. ((are k).1 is, is.room)), (λ both. (are k).0 both.0))) view next.passed (place more) m

      here : m ≡ l → Has rest m ↔ IsOpenLane x y q m
      here e = (
        λ has. absurd (gone (subst (Has rest) e has)),
        λ is. let room = is.room in absurd (omega (arith, full, subst (λ k. length (unanswered_at x k) < depth_of x.shape k) e room)),
      )

      other : m ≢ l → Has rest m ↔ IsOpenLane x y q m
      other ne =
          let before = (are m).0 in (
            λ has. let was_open = before ((others m ne).0 has) in let room = was_open.room in serving.1 ((others m ne).0 has, omega (arith, room, out_on l q m w x t (numbered_in d) sized offer view, ap {B = ℕ} (λ b. cond b 1 0) (ne_eqb l m (λ e. ne (sym e))), ap (λ p. depth_of p m) shape)),
            λ is. (others m ne).1 (serving.0 is).0,
          )

  pub less_within : (rest : SmallSet) → ¬ Has rest l → SameBut l opened rest → (m : ℕ) → Has rest m → Has opened m
  less_within rest gone others m has = ⊎_elim (λ e. absurd (gone (subst (Has rest) e has))) (λ ne. (others m ne).0 has) (cases_eq m l)

  -- as many slots are allowed as before at most
  pub allowed_still : HasAllowed x y q allowed
  allowed_still = allowed_on l q allowed w x t y (numbered_in d) sized offer (was.slots few) view next.passed

  module _ (es : List Delivery) (ls : List ℕ) (longer : es ≡ ds ++ d ∷ []) (lanes : ls ≡ to ++ l ∷ []) where
    count : length es ≡ length ds + 1
    count = ap length longer ∙ length_push ds d

    out_now : IsOut v ls x
    out_now m =
        let out = was.out m in
        omega (arith, out, ap (times m) lanes, count_by-push (λ k. k == m) to l, out_on l q m w x t (numbered_in d) sized offer view)

    choices : AreDeals v s es ls x (given_times s q (length es))
    choices =
        let push =
        deals_push v s ds to w (given_times s q (length ds)) d l was.dealt.choices (subst (λ p. IsChoice w p l d.queue (numbered_in d)) was.passed next.choice)
        in
        subst (λ ks. AreDeals v s es ks x (given_times s q (length es))) (sym lanes)
        (subst (λ fs. AreDeals v s fs (to ++ l ∷ []) x (given_times s q (length es))) (sym longer)
        (subst (λ z. AreDeals v s (ds ++ d ∷ []) (to ++ l ∷ []) z (given_times s q (length es))) (sym next.view)
        (subst (AreDeals v s (ds ++ d ∷ []) (to ++ l ∷ []) (after w (gift_of l d ∷ [])))
        (ap (given_once (given_times s q (length ds))) next.named ∙ (times_more s q (length ds) was.long ∙ ap (given_times s q) (sym count))) push)))

    room : (m : ℕ) → Has among m → times m ls + length (unanswered_at v m) ≤ depth_of v.shape m
    room m has =
        let out = out_now m in
        let before = was.dealt.room m has in
        let depth : depth_of w.shape m ≡ depth_of v.shape m = ap (λ p. depth_of p m) was.dealt.shape in
        let pushed = ap (times m) lanes ∙ count_by-push (λ k. k == m) to l in
        ⊎_elim
        (λ e. let has_room = subst (λ k. length (unanswered_at w k) < depth_of w.shape k) e choice.fits.room in omega (arith, out, depth, has_room, out_on l q m w x t (numbered_in d) sized offer view, ap {B = ℕ} (λ b. cond b 1 0) (eq-eqb l m e)))
        (λ ne. omega (arith, before, pushed, ap {B = ℕ} (λ b. cond b 1 0) (ne_eqb l m ne))) (cases_eq l m)

    -- one event more
    pub dealing_more : (rest slots : SmallSet) → ((m : ℕ) → Has rest m → Has opened m) → (length es < most → AreOpenLanes x y q rest) → (length es < most → HasAllowed x y q slots) → IsDealing q c most among v s es ls x y rest slots
    dealing_more rest slots within are all =
        record {
          dealt =
              record {
                choices = choices;
                named = subst (All (λ (e : Delivery). e.queue ≡ q)) (sym longer) (All-push (λ (e : Delivery). e.queue ≡ q) ds d was.dealt.named next.named);
                lanes = subst (All (Has among)) (sym lanes) (All-push (Has among) to l was.dealt.lanes (was.within l gift_open));
                room = room;
                few = omega (arith, few, count);
                shape = shape ∙ was.dealt.shape;
              };
          passed = next.passed ∙ (ap (λ p. given_once p q) was.passed ∙ (times_more s q (length ds) was.long ∙ ap (given_times s q) (sym count)));
          count = ap length lanes ∙ (length_push to l ∙ (ap {B = ℕ} (λ n. n + 1) was.count ∙ sym count));
          turn = turn_on l q c w x t y (numbered_in d) sized offer was.turn view next.passed;
          left = subst (HasLeft x y q) (omega (arith, count)) left_now;
          long = was.long;
          ports = ap (λ p. has_flow_lanes p q) shape ∙ was.ports;
          within = λ m has. was.within m (within m has);
          out = out_now;
          lanes = are;
          slots = all;
        }
