-- What stands at a transcript stands at it with the steps of a reply, a Give or a shutdown, whatever the kinds of its queues.
use Rattle.std.proofs.Common.{◌≡◌, ◌≢◌, ℕ, ◌+◌, ◌<◌, ◌≤◌, Bool, true, false, cond, ◌&&◌, ◌||◌, nat_lt, ◌^◌, List, [], ◌∷◌, ◌++◌, length, map, drop, flat_map, get_or, All, Contains, Some, None, sum_by, ◌⊎◌, inl, inr, refl, sym, ap, ◌∙◌, subst, arith, append_assoc}
use Rattle.std.proofs.lemmas.Bool.{and_parts, cases_Bool, cases_lt, cond-true, cond-false, ltb-true}
use Rattle.std.proofs.lemmas.List.{length-map, drop_all}
use Rattle.std.proofs.lemmas.List.Concat.{length-flat_map}
use Rattle.std.proofs.lemmas.List.Elements.{All-nil}
use Rattle.transcripts.specs.Allowed.{Allowed, AllowedAfter}
use Rattle.transcripts.specs.Choice.{IsOffer}
use Rattle.transcripts.specs.Lawful.{Lawful, IsFormed, IsOutcome, IsAddition, IsSettled, keeps_order}
use Rattle.evt_types.specs.Plan.{Plan, queue_of, lanes_of, depth_of, bound_of, slot_of, is_atomic, is_ordered, queues, lanes}
use Rattle.transcripts.specs.Standing.{View, Stands, view_of, places, place_at, places_at, waiting_at, unanswered_at, extras_at, kept_in, after_accept, after_give, after_done, after_more, after_step, after, oldest_at, events_of, answer_place, answered_places, leaving, accepts_from, accepts_of, added_of, answer_steps, more_steps, steps_by, steps_of, entries_of, may_enter, may_forward, may_take_by, may_take, AreStepsOf}
use Rattle.evt_types.specs.Place.{Place}
use Rattle.transcripts.specs.Standing as standing
use Rattle.transcripts.specs.Transcript.{event_at, given_to, out, unanswered, unanswered_slots, Held, held_at, next_pair, hand, waiting, kept, forwards, extras, open_of, inside, has_shut}
use Rattle.evt_types.specs.declared.event.Event.{Event}
use Rattle.evt_types.specs.declared.event.Numbered.{Numbered}
use Rattle.evt_types.specs.declared.event.TheConstants.{MAX_EXTRAS}
use Rattle.evt_types.specs.declared.event.Op.{Op}
use Rattle.evt_types.specs.declared.event.Op.TheVariants as ops
use Rattle.evt_types.specs.declared.step.Outcome.{Outcome}
use Rattle.evt_types.specs.declared.step.Outcome.TheVariants.{Forwarded, Released}
use Rattle.evt_types.specs.declared.step.Source.TheVariants.{New, Of}
use Rattle.evt_types.specs.declared.step.Step.{Step}
use Rattle.evt_types.specs.declared.step.Step.TheVariants.{Accept, Give, Done, More, Turned, Bounced, Shut}
use Rattle.transcripts.proofs.AddedPlaces.{more_overdue_plain, more_overdue_ordered}
use Rattle.transcripts.proofs.AnsweredPlaces.{accept_from, places_ordered, places_plain, leaving_accepts, done_overdue_plain, done_overdue_ordered}
use Rattle.transcripts.proofs.Facts.{Facts, Facts-allowed, Facts-push, next_pair-queue}
use Rattle.lists.proofs.Lists.{filter_map-none}
use Rattle.lists.proofs.Fronts.{tag, tagged, map_tag}
use Rattle.transcripts.proofs.Overdue.{overdue, settled_stays, settled_give, settled_overdue, kept_plain, kept_is_open}
use Rattle.transcripts.proofs.Pending.{Pending, Settles, pending_all, answered_pending, added_pending}
use Rattle.transcripts.proofs.Pushes.{given_to-other, next_pair-some}
use Rattle.transcripts.proofs.Replies.{steps_by-form}
use Rattle.lists.proofs.Sums.{sum_agree}
use Rattle.lists.proofs.Sums.{sum_of_map}
use Rattle.transcripts.proofs.Waits.{waiting_at as accepted_at, waiting_is_not_given}
use Rattle.transcripts.proofs.Whole.{Known-allowed, Lawful-push, Lawful-steps, steps-Lawful}
use Rattle.transcripts.proofs.WholeViews.{waiting_of_view, places_of_view, unanswered_of_view, extras_of_view, oldest_of_view, shape_of_view, shut_of_view, view_accept, view_give, view_done, view_more, view_same, view_shut}

-- ---- what a lawful transcript has

allowed_of : (p : Plan) (T : List Step) → Lawful p T → AllowedAfter p [] T
allowed_of p T lawful = (steps-Lawful p T lawful).steps

pub facts_of : (p : Plan) (T : List Step) → Lawful p T → Facts p T
facts_of p T lawful = Facts-allowed p T (allowed_of p T lawful)

settled_of : (p : Plan) (T : List Step) → Lawful p T → IsSettled p T
settled_of p T lawful = lawful.prompt.end

-- ---- what a core holds

pub shut_is : (v : View) (T : List Step) → Stands T v → v.shut ≡ has_shut T
shut_is v T stands = ap (λ (u : View). u.shut) stands.holds ∙ shut_of_view v.shape T

pub waiting_is : (v : View) (T : List Step) (q : ℕ) → Stands T v → q < length v.shape.queues → waiting_at v q ≡ waiting T q
waiting_is v T q stands h = ap (λ u. waiting_at u q) stands.holds ∙ waiting_of_view v.shape T q h

pub places_is : (v : View) (T : List Step) (q : ℕ) → Stands T v → q < length v.shape.queues → places_at v q ≡ places v.shape T q
places_is v T q stands h = ap (λ u. places_at u q) stands.holds ∙ places_of_view v.shape T q h

pub unanswered_is : (v : View) (T : List Step) (l : ℕ) → Stands T v → l < lanes_of v.shape → unanswered_at v l ≡ unanswered_slots v.shape T l
unanswered_is v T l stands h = ap (λ u. unanswered_at u l) stands.holds ∙ unanswered_of_view v.shape T l h

pub unanswered_count : (v : View) (T : List Step) (l : ℕ) → Stands T v → l < lanes_of v.shape → length (unanswered_at v l) ≡ length (unanswered T l)
unanswered_count v T l stands h = ap length (unanswered_is v T l stands h) ∙ length-map (unanswered T l) _

pub extras_count : (v : View) (T : List Step) (l : ℕ) → Stands T v → l < lanes_of v.shape → extras_at v l ≡ length (extras T l)
extras_count v T l stands h = ap (λ u. extras_at u l) stands.holds ∙ extras_of_view v.shape T l h

-- ---- how many are inside

places_count : (p : Plan) (T : List Step) (q : ℕ) → Lawful p T → sum_by (λ (x : Place). length x.forwards) (places p T q) ≡ length (kept T q)
places_count p T q lawful = by_kind (cases_Bool (is_ordered (queue_of p q).kind))
  where
    by_kind : (is_ordered (queue_of p q).kind ≡ true) ⊎ (is_ordered (queue_of p q).kind ≡ false)
        → sum_by (λ (x : Place). length x.forwards) (places p T q) ≡ length (kept T q)
    by_kind (inl ordered) =
        let open_kept : kept T q ≡ tagged (forwards T q) (open_of T q) =
        kept_is_open p T q ordered (facts_of p T lawful) ((Known-allowed p T (allowed_of p T lawful)).order.ordered q ordered)
        (settled_of p T lawful) in
        ap (sum_by (λ (x : Place). length x.forwards)) (places_ordered p T q ordered)
        ∙ (sum_of_map (λ (x : Place). length x.forwards) (place_at T q) (open_of T q)
        ∙ (sum_agree (λ n. length (forwards T q n)) (λ n. length (tag n (forwards T q n))) (open_of T q)
        (λ k d lt. sym (length-map (forwards T q _) _))
        ∙ (sym (length-flat_map (λ n. tag n (forwards T q n)) (open_of T q)) ∙ ap length (sym open_kept))))
    by_kind (inr plain) =
        ap (sum_by (λ (x : Place). length x.forwards)) (places_plain p T q plain)
        ∙ sym (ap length (kept_plain p T q plain ∙ settled_overdue p T (settled_of p T lawful) q))

sums_agree : (a b c x y z : ℕ) → a ≡ x → b ≡ y → c ≡ z → a + b + c ≡ x + y + z
sums_agree a b c x y z e f g = cc

pub kept_of_view : (p : Plan) (T : List Step) → Lawful p T → kept_in (view_of p T) ≡ sum_by (λ q. length (kept T q)) (queues p)
unfolding view_of
kept_of_view p T lawful =
    sum_of_map (λ ps. sum_by (λ (x : Place). length x.forwards) ps) (places p T) (queues p)
    ∙ sum_agree (λ q. sum_by (λ (x : Place). length x.forwards) (places p T q)) (λ q. length (kept T q)) (queues p)
    (λ k d h. places_count p T (get_or (queues p) k d) lawful)

inside_of_view : (p : Plan) (T : List Step) → Lawful p T → standing.inside_of (view_of p T) ≡ inside p T
unfolding view_of inside
inside_of_view p T lawful =
    let waits : sum_by (λ (xs : List Numbered). length xs) (map (waiting T) (queues p)) ≡ sum_by (λ q. length (waiting T q)) (queues p) = sum_of_map
    (λ (xs : List Numbered). length xs) (waiting T) (queues p) in
    let held : sum_by (λ (xs : List Held). length xs) (map (unanswered_slots p T) (lanes p)) ≡ sum_by (λ l. length (unanswered T l)) (lanes p) =
    sum_of_map (λ (xs : List Held). length xs) (unanswered_slots p T) (lanes p) ∙ sum_agree _ _ (lanes p) (λ k d h. length-map (unanswered T _) _) in
    sums_agree _ _ _ _ _ _ waits (kept_of_view p T lawful) held

pub inside_is : (v : View) (T : List Step) → Stands T v → standing.inside_of v ≡ inside v.shape T
inside_is v T stands = ap standing.inside_of stands.holds ∙ inside_of_view v.shape T stands.lawful

-- ---- one step more

-- what stands at a lawful transcript
stands_at : (p : Plan) (w : View) (T : List Step) → Lawful p T → w ≡ view_of p T → Stands T w
stands_at p w T lawful e =
    subst (Stands T) (sym e)
    (record { lawful = subst (λ r. Lawful r T) (sym (shape_of_view p T)) lawful; holds = ap (λ r. view_of r T) (sym (shape_of_view p T)) })

stands_push : (v w : View) (T : List Step) (s : Step) → Stands T v → Allowed v.shape T s → IsSettled v.shape (T ++ s ∷ [])
    → w ≡ view_of v.shape (T ++ s ∷ []) → Stands (T ++ s ∷ []) w
stands_push v w T s stands may settled e = stands_at v.shape w (T ++ s ∷ []) (Lawful-push v.shape T s stands.lawful may settled) e

pub stands_new : (v : View) (T : List Step) (l : ℕ) (e : Event) → Stands T v → l < length v.shape.ports → e.op ≡ ops.New → v.shut ≡ false
    → e.queue < length v.shape.queues → standing.inside_of v < bound_of v.shape
    → Stands (T ++ Accept e.queue e (New l) ∷ []) (after_accept v e.queue e)
stands_new v T l e stands lane op unshut queue room =
    let p : Plan = v.shape in
    let f : Facts p T = facts_of p T stands.lawful in
    stands_push v (after_accept v e.queue e) T (Accept e.queue e (New l)) stands
    (record {
      formed = record { entry = record { queue = queue; named = refl }; operation = op; lane = lane };
      prompt = λ _. settled_of p T stands.lawful;
      needs = record { closed = sym (shut_is v T stands) ∙ unshut; room = subst (λ n. n < bound_of p) (inside_is v T stands) room };
    })
    (settled_stays p T (Accept e.queue e (New l)) f (λ q. refl) refl refl (λ q n. refl) (settled_of p T stands.lawful))
    (ap (λ u. after_accept u e.queue e) stands.holds ∙ sym (view_accept p T e.queue e (New l) f queue))

pub stands_turned : (v : View) (T : List Step) (l : ℕ) (e : Event) → Stands T v → l < length v.shape.ports → e.op ≡ ops.New → v.shut ≡ true
    → e.queue < length v.shape.queues → Stands (T ++ Turned l e ∷ []) v
stands_turned v T l e stands lane op shut queue =
    let p : Plan = v.shape in
    let f : Facts p T = facts_of p T stands.lawful in
    stands_push v v T (Turned l e) stands
    (record {
      formed = record { queue = queue; operation = op; lane = lane };
      prompt = λ _. settled_of p T stands.lawful;
      needs = sym (shut_is v T stands) ∙ shut;
    })
    (settled_stays p T (Turned l e) f (λ q. refl) refl refl (λ q n. refl) (settled_of p T stands.lawful))
    (stands.holds ∙ sym (view_same p T (Turned l e) f (λ q. refl) (λ q. refl) refl refl (λ m. refl) (λ m. refl) (λ m. refl) refl))

pub stands_bounced : (v : View) (T : List Step) (l : ℕ) → Stands T v → l < lanes_of v.shape → Stands (T ++ Bounced l ∷ []) v
stands_bounced v T l stands lane =
    let p : Plan = v.shape in
    let f : Facts p T = facts_of p T stands.lawful in
    stands_push v v T (Bounced l) stands
    (record {
      formed = lane;
      prompt = λ _. settled_of p T stands.lawful;
      needs = tt;
    })
    (settled_stays p T (Bounced l) f (λ q. refl) refl refl (λ q n. refl) (settled_of p T stands.lawful))
    (stands.holds ∙ sym (view_same p T (Bounced l) f (λ q. refl) (λ q. refl) refl refl (λ m. refl) (λ m. refl) (λ m. refl) refl))

pub stands_shut : (v : View) (T : List Step) → v.shut ≡ false → Stands T v → Stands (T ++ Shut ∷ []) (record v { shut = true })
stands_shut v T unshut stands =
    let p : Plan = v.shape in
    let f : Facts p T = facts_of p T stands.lawful in
    stands_push v (record v { shut = true }) T Shut stands
    (record {
      formed = tt;
      prompt = λ _. settled_of p T stands.lawful;
      needs = sym (shut_is v T stands) ∙ unshut;
    })
    (settled_stays p T Shut f (λ q. refl) refl refl (λ q n. refl) (settled_of p T stands.lawful))
    (ap (λ (u : View). record u { shut = true }) stands.holds ∙ sym (view_shut p T f))

-- ---- an offer

formed_elsewhere : (p : Plan) (s : Step) (m : ℕ) → lanes_of p ≤ m → IsFormed p s → given_to m s ≡ None
formed_elsewhere p (Give l q n) m h formed = given_to-other m l q n (λ same. let lt = formed.lane in omega arith)
formed_elsewhere p s m h formed = refl

-- a lane that isn't there has nothing unanswered
none_elsewhere : (p : Plan) (T : List Step) (m : ℕ) → lanes_of p ≤ m → All (IsFormed p) T → unanswered T m ≡ []
unfolding unanswered out
none_elsewhere p T m h formed = ap (drop _) (filter_map-none (given_to m) T (λ k d lt. formed_elsewhere p _ m h (formed k d lt))) ∙ drop_all _ []
    (omega arith)

pub offer_is_allowed : (v : View) (T : List Step) (l q : ℕ) (w : Numbered) → Stands T v → IsOffer v l q w → Allowed v.shape T (Give l q w.number)
offer_is_allowed v T l q w stands offer =
    let p : Plan = v.shape in
    record {
      formed = record { lane = offer.lane; queue = offer.queue };
      prompt = λ _. settled_of p T stands.lawful;
      needs = (
        w,
        refl,
        record {
          once = subst (λ ws. Contains ws w) (waiting_is v T q stands offer.queue) offer.waits;
          linked = offer.linked;
          room = subst (λ n. n < depth_of p l) (unanswered_count v T l stands offer.lane) offer.room;
          places = λ ordered. subst (λ n. n < (queue_of p q).order)
              (ap length (places_is v T q stands offer.queue ∙ places_ordered p T q ordered) ∙ length-map (open_of T q) (place_at T q))
              (offer.places ordered);
          flow = subst (All (λ (u : Numbered). u.number < w.number → keeps_order p q u.event w.event ≡ false))
              (waiting_is v T q stands offer.queue) offer.flow;
          alone = λ is m differs. alone_at is m differs (cases_lt m (lanes_of p));
        },
      );
    }
  where
    alone_at : is_atomic (queue_of v.shape q).kind ≡ true → (m : ℕ) → m ≢ l → (m < lanes_of v.shape) ⊎ (lanes_of v.shape ≤ m)
        → All (λ (y : Held). y.queue ≡ q → y.slot ≢ slot_of v.shape q w.event.flow) (unanswered_slots v.shape T m)
    alone_at is m differs (inl lane) = subst (All (λ (y : Held). y.queue ≡ q → y.slot ≢ slot_of v.shape q w.event.flow))
        (unanswered_is v T m stands lane) (offer.alone is m differs)
    alone_at is m differs (inr past) = rw (none_elsewhere v.shape T m past stands.lawful.formed)
        (All-nil (λ (y : Held). y.queue ≡ q → y.slot ≢ slot_of v.shape q w.event.flow))

pub offer_is_accepted : (v : View) (T : List Step) (l q : ℕ) (w : Numbered) → Stands T v → IsOffer v l q w → event_at T q w.number ≡ Some w.event
offer_is_accepted v T l q w stands offer = accepted_at T q w (subst (λ ws. Contains ws w) (waiting_is v T q stands offer.queue) offer.waits)

pub stands_give : (v : View) (T : List Step) (l q : ℕ) (w : Numbered) → Stands T v → IsOffer v l q w
    → Stands (T ++ Give l q w.number ∷ []) (after_give v l q w.number)
stands_give v T l q w stands offer =
    let p : Plan = v.shape in
    let f : Facts p T = facts_of p T stands.lawful in
    let may : Allowed p T (Give l q w.number) = offer_is_allowed v T l q w stands offer in
    let waits : Contains (waiting T q) w = subst (λ ws. Contains ws w) (waiting_is v T q stands offer.queue) offer.waits in
    stands_push v (after_give v l q w.number) T (Give l q w.number) stands may
    (settled_give p T l q w.number f (waiting_is_not_given T q w waits) (settled_of p T stands.lawful) (Facts-push p T (Give l q w.number) f may))
    (ap (λ u. after_give u l q w.number) stands.holds ∙ sym (view_give p T l q w f offer.lane offer.queue waits))

-- ---- an answer

-- the events that are accepted at an answer are the overdue ones
accepts_are_overdue : (v : View) (T : List Step) (l : ℕ) (o : Outcome) (x : ℕ × ℕ) → Stands T v → l < lanes_of v.shape → next_pair T l ≡ Some x
    → accepts_of v (oldest_at v l) o ≡ map (accept_from x.0) (overdue v.shape (T ++ Done l o ∷ []) x.0)
accepts_are_overdue v T l o x stands lane next =
    ap (λ h. accepts_of v h o) (ap (λ u. oldest_at u l) stands.holds ∙ oldest_of_view v.shape T l x lane next) ∙ by_kind
    (cases_Bool (is_ordered (queue_of v.shape x.0).kind))
  where
    p : Plan
    p = v.shape

    S : List Step
    S = T ++ Done l o ∷ []

    all : AllowedAfter p [] T
    all = allowed_of p T stands.lawful

    accepts : Place → List Step
    accepts y = accepts_from x.0 y.number y.forwards

    same_places : places_at v x.0 ≡ places p T x.0
    same_places = places_is v T x.0 stands (next_pair-queue p T l x (facts_of p T stands.lawful) next)

    by_kind : (is_ordered (queue_of p x.0).kind ≡ true) ⊎ (is_ordered (queue_of p x.0).kind ≡ false)
        → accepts_of v (Some (held_at p T x)) o ≡ map (accept_from x.0) (overdue p S x.0)
    by_kind (inl ordered) =
        cond-true (is_ordered (queue_of p x.0).kind) (flat_map accepts (leaving (answered_places v x.0 x.1 o)))
        (accepts_from x.0 x.1 (events_of o)) ordered
        ∙ (ap (λ ps. flat_map accepts (leaving (map (answer_place x.1 o) ps))) same_places
        ∙ (leaving_accepts p T l o x next ordered ∙ ap (map (accept_from x.0))
        (sym (done_overdue_ordered p T l o x all (settled_of p T stands.lawful) next ordered))))
    by_kind (inr plain) =
        cond-false (is_ordered (queue_of p x.0).kind) (flat_map accepts (leaving (answered_places v x.0 x.1 o)))
        (accepts_from x.0 x.1 (events_of o)) plain
        ∙ (sym (map_tag (accept_from x.0) x.1 (events_of o)) ∙ ap (map (accept_from x.0))
        (sym (done_overdue_plain p T l o x all (settled_of p T stands.lawful) next plain)))

-- a step that leaves a queue's overdue events to accept, and these
stands_led : (p : Plan) (w : View) (T : List Step) (s : Step) (q : ℕ) (accepts : List Step) → Pending p (T ++ s ∷ []) q → w ≡ view_of p (T ++ s ∷ [])
    → accepts ≡ map (accept_from q) (overdue p (T ++ s ∷ []) q) → Stands (T ++ s ∷ accepts) (after w accepts)
stands_led p w T s q accepts pending w_is accepts_are =
    let S : List Step = T ++ s ∷ [] in
    let due : List Step = map (accept_from q) (overdue p S q) in
    let settles : Settles p S due = pending_all p q (overdue p S q) S pending refl in
    let view_is : after w due ≡ view_of p (S ++ due) = ap (λ u. after u due) w_is ∙ settles.view in
    let lawful : Lawful p (S ++ due) = Lawful-steps p (S ++ due) (record { steps = settles.allowed; end = settles.settled }) in
    subst (λ rest. Stands (T ++ s ∷ rest) (after w rest)) (sym accepts_are)
    (subst (λ U. Stands U (after w due)) (append_assoc T (s ∷ []) due) (stands_at p (after w due) (S ++ due) lawful view_is))

pub stands_answer : (v : View) (T : List Step) (l : ℕ) (o : Outcome) → Stands T v → l < lanes_of v.shape → 0 < length (unanswered_at v l)
    → IsOutcome v.shape o
    → Stands (T ++ answer_steps v l o) (after v (answer_steps v l o))
stands_answer v T l o stands lane some outcome =
    let p : Plan = v.shape in
    let settled : IsSettled p T = settled_of p T stands.lawful in
    let held : 0 < length (unanswered T l) = subst (λ n. 0 < n) (unanswered_count v T l stands lane) some in
    let next = next_pair-some T l held in
    let x : ℕ × ℕ = next.0 in
    let may : Allowed p T (Done l o) = record { formed = (lane, outcome); prompt = λ _. settled; needs = held } in
    stands_led p (after_done v l o) T (Done l o) x.0 (accepts_of v (oldest_at v l) o)
    (answered_pending p T l o x (allowed_of p T stands.lawful) settled next.1 may)
    (ap (λ u. after_done u l o) stands.holds ∙ sym (view_done p T l o x (facts_of p T stands.lawful) lane next.1))
    (accepts_are_overdue v T l o x stands lane next.1)

-- ---- an addition

-- the events that are accepted at an addition are the overdue ones
added_are_overdue : (v : View) (T : List Step) (l : ℕ) (e : Event) (x : ℕ × ℕ) → Stands T v → l < lanes_of v.shape → next_pair T l ≡ Some x
    → added_of v (oldest_at v l) e ≡ map (accept_from x.0) (overdue v.shape (T ++ More l e ∷ []) x.0)
added_are_overdue v T l e x stands lane next =
    ap (λ h. added_of v h e) (ap (λ u. oldest_at u l) stands.holds ∙ oldest_of_view v.shape T l x lane next) ∙ by_kind
    (cases_Bool (is_ordered (queue_of v.shape x.0).kind))
  where
    p : Plan
    p = v.shape

    S : List Step
    S = T ++ More l e ∷ []

    all : AllowedAfter p [] T
    all = allowed_of p T stands.lawful

    settled : IsSettled p T
    settled = settled_of p T stands.lawful

    by_kind : (is_ordered (queue_of p x.0).kind ≡ true) ⊎ (is_ordered (queue_of p x.0).kind ≡ false)
        → added_of v (Some (held_at p T x)) e ≡ map (accept_from x.0) (overdue p S x.0)
    by_kind (inl ordered) =
        cond-true (is_ordered (queue_of p x.0).kind) [] (accepts_from x.0 x.1 (e ∷ [])) ordered
        ∙ ap (map (accept_from x.0)) (sym (more_overdue_ordered p T l e x all settled next ordered))
    by_kind (inr plain) =
        cond-false (is_ordered (queue_of p x.0).kind) [] (accepts_from x.0 x.1 (e ∷ [])) plain
        ∙ (sym (map_tag (accept_from x.0) x.1 (e ∷ [])) ∙ ap (map (accept_from x.0)) (sym (more_overdue_plain p T l e x all settled next plain)))

pub stands_more : (v : View) (T : List Step) (l : ℕ) (e : Event) → Stands T v → l < lanes_of v.shape → 0 < length (unanswered_at v l)
    → extras_at v l < MAX_EXTRAS → standing.inside_of v < bound_of v.shape → IsAddition v.shape e
    → Stands (T ++ more_steps v l e) (after v (more_steps v l e))
stands_more v T l e stands lane some few room addition =
    let p : Plan = v.shape in
    let settled : IsSettled p T = settled_of p T stands.lawful in
    let held : 0 < length (unanswered T l) = subst (λ n. 0 < n) (unanswered_count v T l stands lane) some in
    let next = next_pair-some T l held in
    let x : ℕ × ℕ = next.0 in
    let may : Allowed p T (More l e) = record {
      formed = (lane, addition);
      prompt = λ _. settled;
      needs = record {
        beside = held;
        few = subst (λ n. n < MAX_EXTRAS) (extras_count v T l stands lane) few;
        room = subst (λ n. n < bound_of p) (inside_is v T stands) room;
      };
    } in
    stands_led p (after_more v l e) T (More l e) x.0 (added_of v (oldest_at v l) e)
    (added_pending p T l e x (allowed_of p T stands.lawful) settled next.1 may)
    (ap (λ u. after_more u l e) stands.holds ∙ sym (view_more p T l e x (facts_of p T stands.lawful) lane next.1))
    (added_are_overdue v T l e x stands lane next.1)

-- ---- a reply

-- a NEW is accepted, or turned away by a core that is shut
stands_enter : (v : View) (T : List Step) (l : ℕ) (e : Event) → Stands T v → l < length v.shape.ports → e.op ≡ ops.New → may_enter v e.queue ≡ true
    → (b : Bool) → v.shut ≡ b
    → Stands (T ++ cond b (Turned l e ∷ []) (Accept e.queue e (New l) ∷ [])) (after v (cond b (Turned l e ∷ []) (Accept e.queue e (New l) ∷ [])))
stands_enter v T l e stands lane op may true shut =
    let parts = and_parts (nat_lt e.queue (length v.shape.queues))
    (v.shut || (nat_lt (standing.inside_of v) (bound_of v.shape) && nat_lt (entries_of v) (2 ^ 63))) may in
    stands_turned v T l e stands lane op shut (ltb-true e.queue (length v.shape.queues) parts.0)
stands_enter v T l e stands lane op may false shut =
    let parts = and_parts (nat_lt e.queue (length v.shape.queues))
    (v.shut || (nat_lt (standing.inside_of v) (bound_of v.shape) && nat_lt (entries_of v) (2 ^ 63))) may in
    let rest : (nat_lt (standing.inside_of v) (bound_of v.shape) && nat_lt (entries_of v) (2 ^ 63)) ≡ true =
    subst (λ b. (b || (nat_lt (standing.inside_of v) (bound_of v.shape) && nat_lt (entries_of v) (2 ^ 63))) ≡ true) shut parts.1 in
    stands_new v T l e stands lane op shut (ltb-true e.queue (length v.shape.queues) parts.0)
    (ltb-true (standing.inside_of v) (bound_of v.shape) (and_parts (nat_lt (standing.inside_of v) (bound_of v.shape))
    (nat_lt (entries_of v) (2 ^ 63)) rest).0)

stands_by : (v : View) (T : List Step) (l : ℕ) (e : Event) → Stands T v → l < lanes_of v.shape → (o : Op) → e.op ≡ o → may_take_by o v l e ≡ true
    → Stands (T ++ steps_by o v l e) (after v (steps_by o v l e))
stands_by v T l e stands lane ops.New op may =
    let parts = and_parts (nat_lt l (length v.shape.ports)) (may_enter v e.queue) may in
    stands_enter v T l e stands (ltb-true l (length v.shape.ports) parts.0) op parts.1 v.shut refl
stands_by v T l e stands lane ops.Forward op may =
    let parts = and_parts (nat_lt 0 (length (unanswered_at v l))) (nat_lt e.queue (length v.shape.queues) && nat_lt (entries_of v) (2 ^ 63)) may in
    let there = and_parts (nat_lt e.queue (length v.shape.queues)) (nat_lt (entries_of v) (2 ^ 63)) parts.1 in
    stands_answer v T l (Forwarded e) stands lane (ltb-true 0 (length (unanswered_at v l)) parts.0)
    (ltb-true e.queue (length v.shape.queues) there.0, op)
stands_by v T l e stands lane ops.Release op may = stands_answer v T l Released stands lane (ltb-true 0 (length (unanswered_at v l)) may) tt
stands_by v T l e stands lane ops.ForwardMore op may =
    let parts = and_parts (may_forward v l e.queue) (nat_lt (extras_at v l) MAX_EXTRAS && nat_lt (standing.inside_of v) (bound_of v.shape)) may in
    let answers = and_parts (nat_lt 0 (length (unanswered_at v l))) (nat_lt e.queue (length v.shape.queues) && nat_lt (entries_of v) (2 ^ 63)) parts.0 in
    let there = and_parts (nat_lt e.queue (length v.shape.queues)) (nat_lt (entries_of v) (2 ^ 63)) answers.1 in
    let room = and_parts (nat_lt (extras_at v l) MAX_EXTRAS) (nat_lt (standing.inside_of v) (bound_of v.shape)) parts.1 in
    stands_more v T l e stands lane (ltb-true 0 (length (unanswered_at v l)) answers.0) (ltb-true (extras_at v l) MAX_EXTRAS room.0)
    (ltb-true (standing.inside_of v) (bound_of v.shape) room.1) (ltb-true e.queue (length v.shape.queues) there.0, op)

same_shape : (v : View) (s : Step) → (after_step v s).shape ≡ v.shape
same_shape v (Accept q e s) = refl
same_shape v (Give l q n) = refl
same_shape v (Done l o) = refl
same_shape v (More l e) = refl
same_shape v (Turned l e) = refl
same_shape v (Bounced l) = refl
same_shape v Shut = refl

pub shape_after : (v : View) (steps : List Step) → (after v steps).shape ≡ v.shape
shape_after v [] = refl
shape_after v (s ∷ steps) = shape_after (after_step v s) steps ∙ same_shape v s

-- the steps of a reply that may be taken are those of a transcript at which the view stands
pub takes_stand : (v : View) (T : List Step) (l : ℕ) (e : Event) → l < lanes_of v.shape → may_take v l e ≡ true → Stands T v
    → AreStepsOf v.shape T l e (steps_of v l e) × Stands (T ++ steps_of v l e) (after v (steps_of v l e))
takes_stand v T l e lane may stands =
    let after_it : Stands (T ++ steps_of v l e) (after v (steps_of v l e)) = stands_by v T l e stands lane e.op refl may in (
      record {
        form = steps_by-form e.op v T l e (shut_is v T stands);
        lawful = subst (λ p. Lawful p (T ++ steps_of v l e)) (shape_after v (steps_of v l e)) after_it.lawful;
      },
      after_it,
    )

-- ---- nothing has happened

empty_settled : (p : Plan) → IsSettled p []
unfolding kept hand
empty_settled p q k d lt = absurd (omega arith)

pub stands_none : (p : Plan) → Stands [] (view_of p [])
stands_none p = stands_at p (view_of p []) [] (Lawful-steps p [] (record { steps = tt; end = empty_settled p })) refl
