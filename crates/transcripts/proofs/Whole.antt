-- The two forms of lawfulness say the same: what holds of each prefix of a transcript, and that each of its steps was allowed.
use Rattle.std.proofs.Common.{◌≡◌, ℕ, zero, suc, ◌<◌, ◌≤◌, Bool, true, false, cond, ◌&&◌, ◌==◌, List, [], ◌∷◌, ◌++◌, length, take, get_or, filter, All, Contains, ◌⊎◌, inl, inr, ⊎_elim, refl, sym, ◌∙◌, subst, arith, add-one, sum_by}
use Rattle.std.proofs.lemmas.Bool.{false≢true, and_from, and_parts, false_from_ne_true}
use Rattle.std.proofs.lemmas.List.Sums.{sum_by-cons}
use Rattle.std.proofs.lemmas.List.{take_more, take_all}
use Rattle.std.proofs.lemmas.List.Elements.{All-nil, All-cons}
use Rattle.evt_types.specs.Plan.{Plan, bound_of, queues, lanes, queue_of, level_of, depth_of, is_atomic, is_ordered}
use Rattle.lists.specs.Lists.{has}
use Rattle.transcripts.specs.Transcript.{accepted, out, answers, unanswered, sent, forwards, hand, waiting, taken, sources, kept, open_of, inside}
use Rattle.transcripts.specs.Lawful.{IsFormed, AnswersWhatItHas, AddsFew, GivesOnce, IsLinked, HasRoom, is_of_flow, is_of_level, KeepsFlow, IsAlone, keeps_order, KeepsOrder, HasOrigin, IsClosed, IsSettled, Lawful}
use Rattle.transcripts.specs.Allowed.{Allowed, StepsLawful, AllowedAfter, Needs, MayGiveNumber, MayAcceptOf, MayAdd}
use Rattle.evt_types.specs.declared.event.Event.{Event}
use Rattle.evt_types.specs.declared.event.Numbered.{Numbered}
use Rattle.evt_types.specs.declared.step.Source.TheVariants.{New, Of}
use Rattle.evt_types.specs.declared.step.Step.{Step}
use Rattle.evt_types.specs.declared.step.Step.TheVariants.{Accept, Give, Done, More, Turned, Bounced, Shut}
use Rattle.lists.proofs.Lists.{eqb_same}
use Rattle.transcripts.proofs.Waits.{waiting_is_not_given}
use Rattle.transcripts.proofs.Facts.{Facts, Facts-none, Facts-push, AllowedAfter-push, AllowedAfter-take, AllowedAfter-at, AllowedAfter_keeps}
use Rattle.transcripts.proofs.Extras.{extras_none, extras_more, few_needs, beside_needs}
use Rattle.transcripts.proofs.Alones.{alone_more, alone_needs}
use Rattle.transcripts.proofs.Flows.{IsKey, InOrder, key-flow, key-level, flow_more, flow_needs}
use Rattle.transcripts.proofs.Insides.{inside_more, inside_needs, added_needs}
use Rattle.transcripts.proofs.Orders.{order_more, order_needs, answered_needs, rises_needs, source_is_given}
use Rattle.transcripts.proofs.Origins.{origin_more, origin_needs, origin_fewer}
use Rattle.transcripts.proofs.Rooms.{done_needs, once_more, once_needs, linked_more, linked_needs, lanes_more, lanes_needs, places_more, places_needs}
use Rattle.transcripts.proofs.Shuts.{closed_more, new_needs, shut_needs, turned_needs}

-- ---- what is known of a transcript whose steps were allowed

pub record Known (p : Plan) (T : List Step) : Type 0 where
  pub facts : Facts p T
  pub extras : AddsFew T
  pub origin : HasOrigin T
  pub flow : (q : ℕ) (key : Numbered → Bool) → IsKey p q key → InOrder key T q
  pub alone : IsAlone p T
  pub order : KeepsOrder p T
  pub linked : IsLinked p T
  pub lanes : (l : ℕ) → length (unanswered T l) ≤ depth_of p l
  pub places : (q : ℕ) → is_ordered (queue_of p q).kind ≡ true → length (open_of T q) ≤ (queue_of p q).order
  pub inside : inside p T ≤ bound_of p
  pub closed : IsClosed T

sum_by-zero : (f : ℕ → ℕ) (xs : List ℕ) → ((x : ℕ) → f x ≡ 0) → sum_by f xs ≡ 0
sum_by-zero f [] h = refl
sum_by-zero f (x ∷ xs) h = omega (arith, sum_by-cons f x xs, h x, sum_by-zero f xs h)

inside_none : (p : Plan) → inside p [] ≡ 0
unfolding inside waiting kept unanswered accepted hand out answers
inside_none p =
    omega (
      arith,
      sum_by-zero (λ q. length (waiting [] q)) (queues p) (λ q. refl),
      sum_by-zero (λ q. length (kept [] q)) (queues p) (λ q. refl),
      sum_by-zero (λ l. length (unanswered [] l)) (lanes p) (λ l. refl),
    )

pub Known-none : (p : Plan) → Known p []
unfolding waiting unanswered accepted hand out answers taken forwards sent sources open_of
Known-none p = record {
  facts = Facts-none p;
  extras = extras_none;
  origin = λ q n. ([], refl);
  flow = λ q key is. refl;
  alone = λ q atomic l m apart k d lt. absurd (omega arith);
  order = record {
    ordered = λ q ordered. record { order = λ i j d lt within. absurd (omega arith); answered = λ k d lt. absurd (omega arith) };
    atomic = λ q atomic i j d lt within. absurd (omega arith);
  };
  linked = λ l k d lt. absurd (omega arith);
  lanes = λ l. omega arith;
  places = λ q ordered. omega arith;
  inside = omega (arith, inside_none p);
  closed = record { no_new = λ k d lt. absurd (omega arith); no_turned = λ k d lt. absurd (omega arith); one = λ k d lt. absurd (omega arith) };
}

pub Known-push : (p : Plan) (P : List Step) (s : Step) → Known p P → Allowed p P s → Known p (P ++ s ∷ [])
Known-push p P s h a = record {
  facts = Facts-push p P s h.facts a;
  extras = extras_more p P s h.facts h.extras a.needs;
  origin = origin_more p P s h.origin a.needs;
  flow = λ q key is. flow_more p P s q key h.facts is (h.flow q key is) a.needs;
  alone = alone_more p P s h.facts h.alone a;
  order = order_more p P s h.facts h.order a.needs;
  linked = linked_more p P s h.facts h.linked a.needs;
  lanes = lanes_more p P s h.facts h.lanes a.needs;
  places = λ q ordered. places_more p P s q h.facts ordered (h.places q ordered) a.needs;
  inside = inside_more p P s h.facts h.inside a;
  closed = closed_more p P s h.closed a.needs;
}

pub Known-allowed : (p : Plan) (T : List Step) → AllowedAfter p [] T → Known p T
Known-allowed p T all = AllowedAfter_keeps p (Known p) (Known-push p) [] T (Known-none p) all

-- ---- the clauses at one transcript

pub record Clauses (p : Plan) (T : List Step) : Type 0 where
  pub answers : AnswersWhatItHas T
  pub extras : AddsFew T
  pub once : GivesOnce T
  pub linked : IsLinked p T
  pub room : HasRoom p T
  pub flow : KeepsFlow p T
  pub alone : IsAlone p T
  pub order : KeepsOrder p T
  pub origin : HasOrigin T
  pub closed : IsClosed T

clauses_known : (p : Plan) (T : List Step) → Known p T → Clauses p T
clauses_known p T h = record {
  answers = h.facts.answers;
  extras = h.extras;
  once = once_more p T h.facts;
  linked = h.linked;
  room = record { lanes = h.lanes; places = h.places; inside = h.inside };
  flow = record {
    atomic = λ q atomic f c. (filter (is_of_flow f c) (waiting T q), h.flow q (is_of_flow f c) (key-flow p q f c atomic));
    ordered = λ q ordered c. (filter (is_of_level c) (waiting T q), h.flow q (is_of_level c) (key-level p q c ordered));
  };
  alone = h.alone;
  order = h.order;
  origin = h.origin;
  closed = h.closed;
}

clauses_at : (p : Plan) (T : List Step) (k : ℕ) → k ≤ length T → Lawful p T → Clauses p (take k T)
clauses_at p T k le h = record {
  answers = h.answers k le;
  extras = h.extras k le;
  once = h.once k le;
  linked = h.linked k le;
  room = h.room k le;
  flow = h.flow k le;
  alone = h.alone k le;
  order = h.order k le;
  origin = h.origin k le;
  closed = h.closed k le;
}

-- ---- from the steps to the lists

AllowedAfter-formed : (p : Plan) (past T : List Step) → AllowedAfter p past T → All (IsFormed p) T
AllowedAfter-formed p past [] all = All-nil (IsFormed p)
AllowedAfter-formed p past (s ∷ T) all = All-cons (IsFormed p) s T all.0.formed (AllowedAfter-formed p (past ++ s ∷ []) T all.1)

pub Lawful-steps : (p : Plan) (T : List Step) → StepsLawful p T → Lawful p T
Lawful-steps p T h = record {
  formed = AllowedAfter-formed p [] T h.steps;
  answers = λ k le. (at k).answers;
  extras = λ k le. (at k).extras;
  once = λ k le. (at k).once;
  linked = λ k le. (at k).linked;
  room = λ k le. (at k).room;
  flow = λ k le. (at k).flow;
  alone = λ k le. (at k).alone;
  order = λ k le. (at k).order;
  origin = λ k le. (at k).origin;
  closed = λ k le. (at k).closed;
  prompt = record { end = h.end; before = λ k d lt other. (AllowedAfter-at p [] T k d lt h.steps).prompt other };
}
  where
    at : (k : ℕ) → Clauses p (take k T)
    at k = clauses_known p (take k T) (Known-allowed p (take k T) (AllowedAfter-take p [] T k h.steps))

-- ---- from the lists to the steps

-- two events that keep their order
keeps_parts : (p : Plan) (q : ℕ) (d e : Event) → keeps_order p q d e ≡ true
    → ((level_of d == level_of e) ≡ true) × ((is_ordered (queue_of p q).kind ≡ true) ⊎
    ((is_atomic (queue_of p q).kind ≡ true) × ((d.flow == e.flow) ≡ true)))
keeps_parts p q d e h = by_case (level_of d == level_of e) (is_ordered (queue_of p q).kind) (is_atomic (queue_of p q).kind) (d.flow == e.flow) h
  where
    by_case : (a b c f : Bool) → cond a (cond b true (c && f)) false ≡ true → (a ≡ true) × ((b ≡ true) ⊎ ((c ≡ true) × (f ≡ true)))
    by_case false b c f k = absurd (false≢true k)
    by_case true true c f k = (refl, inl refl)
    by_case true false c f k = (refl, inr (and_parts c f k))

-- no waiting event of a lower number keeps its order with the one that is given
give_flow : (p : Plan) (P : List Step) (l q n : ℕ) (w : Numbered) → Known p P → KeepsFlow p (P ++ Give l q n ∷ []) → Contains (waiting P q) w
    → w.number ≡ n → All (λ (v : Numbered). v.number < w.number → keeps_order p q v.event w.event ≡ false) (waiting P q)
give_flow p P l q n w h after c e k d lt less =
    false_from_ne_true (keeps_order p q (get_or (waiting P q) k d).event w.event)
    (λ keeps. by_kind (keeps_parts p q (get_or (waiting P q) k d).event w.event keeps))
  where
    by_kind : ((level_of (get_or (waiting P q) k d).event == level_of w.event) ≡ true) ×
        ((is_ordered (queue_of p q).kind ≡ true) ⊎ ((is_atomic (queue_of p q).kind ≡ true) ×
        (((get_or (waiting P q) k d).event.flow == w.event.flow) ≡ true))) → ⊥
    by_kind parts =
        ⊎_elim
        (λ ordered. let key = is_of_level (level_of w.event) in
        false≢true (sym (flow_needs p P l q n w key h.facts (h.flow q key (key-level p q (level_of w.event) ordered))
        (after.ordered q ordered (level_of w.event)) c e (eqb_same (level_of w.event)) k d lt less) ∙ parts.0))
        (λ atomic. let key = is_of_flow w.event.flow (level_of w.event) in
        false≢true (sym (flow_needs p P l q n w key h.facts (h.flow q key (key-flow p q w.event.flow (level_of w.event) atomic.0))
        (after.atomic q atomic.0 w.event.flow (level_of w.event)) c e
        (and_from (w.event.flow == w.event.flow) (level_of w.event == level_of w.event) (eqb_same w.event.flow) (eqb_same (level_of w.event))) k d
        lt less) ∙ and_from ((get_or (waiting P q) k d).event.flow == w.event.flow)
        (level_of (get_or (waiting P q) k d).event == level_of w.event) atomic.1 parts.0))
        parts.1

give_needs : (p : Plan) (P : List Step) (l q n : ℕ) → Known p P → Clauses p (P ++ Give l q n ∷ []) → MayGiveNumber p P l q n
give_needs p P l q n h after =
    let found = once_needs P l q n after.once in
    let w = found.0 in
    let fresh : has n (hand P q) ≡ false = subst (λ m. has m (hand P q) ≡ false) found.1 (waiting_is_not_given P q w found.2) in (
      w,
      found.1,
      record {
        once = found.2;
        linked = linked_needs p P l q n w after.linked found.2 found.1;
        room = lanes_needs p P l q n h.facts (after.room.lanes l);
        places = λ ordered. places_needs p P l q n h.facts fresh (after.room.places q ordered);
        flow = give_flow p P l q n w h after.flow found.2 found.1;
        alone = λ atomic m apart. alone_needs p P l q n w h.facts after.alone found.2 found.1 atomic m apart;
      },
    )

accept_of_needs : (p : Plan) (P : List Step) (q r n : ℕ) (e : Event) → Known p P → Clauses p (P ++ Accept q e (Of r n) ∷ []) → MayAcceptOf p P e r n
accept_of_needs p P q r n e h after =
    let origin = origin_needs P q r n e after.origin in
    record {
      origin = origin;
      order = λ ordered. order_needs P q r n e (after.order.ordered r ordered);
      answered = λ ordered. answered_needs P q r n e (after.order.ordered r ordered);
      rises = λ atomic. rises_needs p P q r n e h.facts (source_is_given p P e r n h.facts origin) (after.order.atomic r atomic);
    }

more_needs : (p : Plan) (P : List Step) (l : ℕ) (e : Event) → Known p P → Clauses p (P ++ More l e ∷ []) → MayAdd p P l
more_needs p P l e h after =
    let beside = beside_needs P l e after.extras in
    record {
      beside = beside;
      few = few_needs P l e after.extras;
      room = added_needs p P l e h.facts (origin_fewer P h.origin) beside after.room.inside;
    }

needs_next : (p : Plan) (P : List Step) (s : Step) → Known p P → IsFormed p s → Clauses p (P ++ s ∷ []) → Needs p P s
needs_next p P (Accept q e (New l)) h formed after =
    record { closed = new_needs P (Accept q e (New l)) refl after.closed; room = inside_needs p P q e l h.facts formed.entry.queue after.room.inside }
needs_next p P (Accept q e (Of r n)) h formed after = accept_of_needs p P q r n e h after
needs_next p P (Give l q n) h formed after = give_needs p P l q n h after
needs_next p P (Done l o) h formed after = done_needs P l o after.answers
needs_next p P (More l e) h formed after = more_needs p P l e h after
needs_next p P (Turned l e) h formed after = turned_needs P (Turned l e) refl refl after.closed
needs_next p P (Bounced l) h formed after = tt
needs_next p P Shut h formed after = shut_needs P Shut refl after.closed

allowed_upto : (p : Plan) (T : List Step) (k : ℕ) → k ≤ length T → Lawful p T → AllowedAfter p [] (take k T)
allowed_upto p T zero le h = tt
allowed_upto p T (suc k) le h = next (allowed_upto p T k (omega arith) h)
  where
    more : take (suc k) T ≡ take k T ++ get_or T k Shut ∷ []
    more = rw (← add-one) (take_more T k Shut (omega arith))

    next : AllowedAfter p [] (take k T) → AllowedAfter p [] (take (suc k) T)
    next all =
        let known = Known-allowed p (take k T) all in
        let formed = h.formed k Shut (omega arith) in
        let after = subst (Clauses p) more (clauses_at p T (suc k) le h) in
        subst (AllowedAfter p []) (sym more) (AllowedAfter-push p [] (take k T) (get_or T k Shut) all
        (record {
          formed = formed;
          prompt = λ other. h.prompt.before k Shut (omega arith) other;
          needs = needs_next p (take k T) (get_or T k Shut)
              known formed after;
        }))

pub steps-Lawful : (p : Plan) (T : List Step) → Lawful p T → StepsLawful p T
steps-Lawful p T h =
    record {
      steps = subst (AllowedAfter p []) (take_all (length T) T (omega arith)) (allowed_upto p T (length T) (omega arith) h);
      end = h.prompt.end;
    }

-- ---- what contracts use

-- an allowed step that leaves the transcript settled
pub Lawful-push : (p : Plan) (T : List Step) (s : Step) → Lawful p T → Allowed p T s → IsSettled p (T ++ s ∷ []) → Lawful p (T ++ s ∷ [])
Lawful-push p T s h a end = Lawful-steps p (T ++ s ∷ []) (record { steps = AllowedAfter-push p [] T s (steps-Lawful p T h).steps a; end = end })
