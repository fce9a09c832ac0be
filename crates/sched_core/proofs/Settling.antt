-- The answered places at a queue's front leave one after the other.
use Rattle.std.proofs.Common.{◌≡◌, ℕ, ◌+◌, ◌<◌, ◌≤◌, Bool, true, false, not, ◌&&◌, ◌||◌, ◌==◌, List, [], ◌∷◌, ◌++◌, length, drop, set, get_or, flat_map, Some, None, ◌⊎◌, inl, inr, refl, sym, ap, ◌∙◌, subst, arith, append_assoc, append-nil}
use Rattle.std.specs.List.{list_any}
use Rattle.std.proofs.lemmas.Bool.{and_right, cases_Bool, cond-true, cond-false}
use Rattle.std.proofs.lemmas.List.{length-append, length-map, length-set, get_or-set_same, set-get_or}
use Rattle.std.proofs.lemmas.List.Sums.{take_while-cons, fold-append}
use Rattle.std.proofs.lemmas.Option.{none-some}
use Rattle.lists.proofs.Lists.{list_any-append, eqb_same, eqb_other, or-false}
use Rattle.evt_types.specs.Plan.{queue_of, is_ordered}
use Rattle.transcripts.specs.Standing.{View, places_at, oldest_at, leaving, staying, accepts_from, accepts_of, answered_places, answer_steps, events_of, after, after_step, after_accept, places_after}
use Rattle.evt_types.specs.Place.{Place}
use Rattle.transcripts.specs.Transcript.{Held}
use Rattle.evt_types.specs.declared.event.Event.{Event}
use Rattle.evt_types.specs.declared.step.Outcome.{Outcome}
use Rattle.evt_types.specs.declared.step.Source.TheVariants.{Of}
use Rattle.evt_types.specs.declared.step.Step.{Step}
use Rattle.evt_types.specs.declared.step.Step.TheVariants.{Accept, Done}
use Rattle.order_parts.specs.Reorder.{oldest_answered, left_plain}
use Rattle.transcripts.proofs.WholeStands.{shape_after}
use Rattle.sched_core.specs.Settling.{with_places_at, leaving_steps, flush_steps, flushed, after_leaving_of, answered_view, IsOnTheWay, IsPassedOn}
use Rattle.sched_core.specs.Answered.{after_answer, after_leave, places_answered, rest_behind}
use Rattle.sched_core.specs.Taken.{is_accept_of}
use Rattle.lists.proofs.Writes.{set-set}
use Rattle.sched_core.proofs.Ordered.{leaving_is}

-- ---- the places at the front

pub leaving-cons : (x : Place) (xs : List Place) → x.answered ≡ true → leaving (x ∷ xs) ≡ x ∷ leaving xs
leaving-cons x xs done = take_while-cons (λ (y : Place). y.answered) x xs ∙ cond-true x.answered (x ∷ leaving xs) [] done

pub staying-cons : (x : Place) (xs : List Place) → x.answered ≡ true → staying (x ∷ xs) ≡ staying xs
staying-cons x xs done = ap (λ (ys : List Place). drop (length ys) (x ∷ xs)) (leaving-cons x xs done)

-- ---- accepting changes no place

pub after-append : (v : View) (ss ts : List Step) → after v (ss ++ ts) ≡ after (after v ss) ts
after-append v ss ts = fold-append after_step v ss ts

-- it makes the same of a view with other places
accepts_with : (v : View) (q r n : ℕ) (xs : List Place) (es : List Event) → with_places_at (after v (accepts_from r n es)) q xs ≡ after (with_places_at v q xs) (accepts_from r n es)
accepts_with v q r n xs [] = refl
accepts_with v q r n xs (e ∷ es) = accepts_with (after_accept v e.queue e) q r n xs es

pub accepts_places : (v : View) (q n : ℕ) (es : List Event) → (after v (accepts_from q n es)).places ≡ v.places
accepts_places v q n [] = refl
accepts_places v q n (e ∷ es) = accepts_places (after_accept v e.queue e) q n es

-- ---- one place leaves

-- the places after it
pub places_left : (v : View) (q : ℕ) (x : Place) → q < length v.places → places_at (after_leaving_of v q x) q ≡ drop 1 (places_at v q)
places_left v q x h =
    ap (λ (ps : List (List Place)). get_or ps q []) (accepts_places (with_places_at v q (drop 1 (places_at v q))) q x.number x.forwards)
    ∙ get_or-set_same v.places q (drop 1 (places_at v q)) [] h

pub places_count : (v : View) (q : ℕ) (x : Place) → length (after_leaving_of v q x).places ≡ length v.places
places_count v q x =
    ap (λ (ps : List (List Place)). length ps) (accepts_places (with_places_at v q (drop 1 (places_at v q))) q x.number x.forwards)
    ∙ length-set v.places q (drop 1 (places_at v q))

-- what is accepted, first of it and then of the others
pub flush_steps-turn : (v : View) (q : ℕ) (x : Place) → q < length v.places → oldest_answered (places_at v q) ≡ Some x
    → flush_steps v q ≡ accepts_from q x.number x.forwards ++ flush_steps (after_leaving_of v q x) q
flush_steps-turn v q x h e =
    let is = leaving_is (places_at v q) x e in
    ap (leaving_steps q) is.0
    ∙ (ap (flat_map (λ (y : Place). accepts_from q y.number y.forwards)) (leaving-cons x (drop 1 (places_at v q)) is.1)
    ∙ ap (λ ys. accepts_from q x.number x.forwards ++ leaving_steps q ys) (sym (places_left v q x h)))

pub flushed-turn : (v : View) (q : ℕ) (x : Place) → q < length v.places → oldest_answered (places_at v q) ≡ Some x → flushed v q ≡ flushed (after_leaving_of v q x) q
flushed-turn v q x h e =
    let xs : List Place = drop 1 (places_at v q) in
    let ss : List Step = accepts_from q x.number x.forwards in
    let u : View = after_leaving_of v q x in
    let is = leaving_is (places_at v q) x e in
    let left : places_at u q ≡ xs = places_left v q x h in
    let stays : staying (places_at v q) ≡ staying (places_at u q) = ap staying is.0 ∙ (staying-cons x xs is.1 ∙ ap staying (sym left)) in
    let other : with_places_at u q (staying (places_at u q)) ≡ after (with_places_at v q (staying (places_at u q))) ss =
    accepts_with (with_places_at v q xs) q q x.number (staying (places_at u q)) x.forwards
    ∙ ap (λ (ps : List (List Place)). after (record v { places = ps }) ss) (set-set v.places q xs (staying (places_at u q))) in
    ap (λ ys. after (with_places_at v q ys) (flush_steps v q)) stays
    ∙ (ap (after (with_places_at v q (staying (places_at u q)))) (flush_steps-turn v q x h e)
    ∙ (after-append (with_places_at v q (staying (places_at u q))) ss (flush_steps u q) ∙ ap (λ w. after w (flush_steps u q)) (sym other)))

-- ---- no place leaves any more

pub leaving_none : (xs : List Place) → oldest_answered xs ≡ None → leaving xs ≡ []
leaving_none [] e = refl
leaving_none (x ∷ xs) e = by_case (cases_Bool x.answered)
  where
    by_case : (x.answered ≡ true) ⊎ (x.answered ≡ false) → leaving (x ∷ xs) ≡ []
    by_case (inl done) = absurd (none-some x (sym e ∙ cond-true x.answered (Some x) None done))
    by_case (inr waits) = take_while-cons (λ (y : Place). y.answered) x xs ∙ cond-false x.answered (x ∷ leaving xs) [] waits

flush_none : (v : View) (q : ℕ) → oldest_answered (places_at v q) ≡ None → flush_steps v q ≡ []
flush_none v q e = ap (flat_map (λ (x : Place). accepts_from q x.number x.forwards)) (leaving_none (places_at v q) e)

flushed_none : (v : View) (q : ℕ) → oldest_answered (places_at v q) ≡ None → flushed v q ≡ v
flushed_none v q e =
    let stays : staying (places_at v q) ≡ places_at v q = ap (λ (ys : List Place). drop (length ys) (places_at v q)) (leaving_none (places_at v q) e) in
    ap (after (with_places_at v q (staying (places_at v q)))) (flush_none v q e)
    ∙ (ap (with_places_at v q) stays ∙ ap (λ (ps : List (List Place)). record v { places = ps }) (set-get_or v.places q []))

-- ---- the lane's oldest event is answered

-- of an ordered queue: its place, and then the answered places at the front leave
pub answer_steps-ordered : (v : View) (l : ℕ) (h : Held) (o : Outcome) → oldest_at v l ≡ Some h → is_ordered (queue_of v.shape h.queue).kind ≡ true → h.queue < length v.places
    → answer_steps v l o ≡ Done l o ∷ flush_steps (answered_view v l h o) h.queue
answer_steps-ordered v l h o oldest ordered there =
    let b : Bool = is_ordered (queue_of v.shape h.queue).kind in
    ap (λ x. Done l o ∷ accepts_of v x o) oldest
    ∙ ap (λ ss. Done l o ∷ ss)
    (cond-true b (leaving_steps h.queue (answered_places v h.queue h.number o)) (accepts_from h.queue h.number (events_of o)) ordered
    ∙ ap (leaving_steps h.queue) (sym (get_or-set_same v.places h.queue (answered_places v h.queue h.number o) [] there)))

pub after_answer-ordered : (v : View) (l : ℕ) (h : Held) (o : Outcome) → oldest_at v l ≡ Some h → is_ordered (queue_of v.shape h.queue).kind ≡ true → h.queue < length v.places
    → after v (answer_steps v l o) ≡ flushed (answered_view v l h o) h.queue
after_answer-ordered v l h o oldest ordered there =
    let b : Bool = is_ordered (queue_of v.shape h.queue).kind in
    let q : ℕ = h.queue in
    let xs : List Place = answered_places v q h.number o in
    let u : View = answered_view v l h o in
    let here : places_at u q ≡ xs = get_or-set_same v.places q xs [] there in
    let kept : places_after v (oldest_at v l) o ≡ set (set v.places q xs) q (staying (places_at u q)) =
    ap (λ x. places_after v x o) oldest
    ∙ (cond-true b (set v.places q (staying xs)) v.places ordered
    ∙ (sym (set-set v.places q xs (staying xs)) ∙ ap (λ ys. set (set v.places q xs) q (staying ys)) (sym here))) in
    ap (after v) (answer_steps-ordered v l h o oldest ordered there)
    ∙ ap (λ (ps : List (List Place)). after (record u { places = ps }) (flush_steps u q)) kept

-- of another queue: its own forward alone is accepted
pub answer_steps-plain : (v : View) (l : ℕ) (h : Held) (o : Outcome) → oldest_at v l ≡ Some h → is_ordered (queue_of v.shape h.queue).kind ≡ false
    → answer_steps v l o ≡ Done l o ∷ accepts_from h.queue h.number (events_of o)
answer_steps-plain v l h o oldest plain =
    ap (λ x. Done l o ∷ accepts_of v x o) oldest
    ∙ ap (λ ss. Done l o ∷ ss)
    (cond-false (is_ordered (queue_of v.shape h.queue).kind) (leaving_steps h.queue (answered_places v h.queue h.number o)) (accepts_from h.queue h.number (events_of o)) plain)

pub after_answer-plain : (v : View) (l : ℕ) (h : Held) (o : Outcome) → oldest_at v l ≡ Some h → is_ordered (queue_of v.shape h.queue).kind ≡ false
    → after v (answer_steps v l o) ≡ after (after_answer v l o) (accepts_from h.queue h.number (events_of o))
after_answer-plain v l h o oldest plain =
    let b : Bool = is_ordered (queue_of v.shape h.queue).kind in
    let kept : places_after v (oldest_at v l) o ≡ places_answered v (oldest_at v l) o =
    ap (λ x. places_after v x o) oldest
    ∙ (cond-false b (set v.places h.queue (staying (answered_places v h.queue h.number o))) v.places plain
    ∙ sym (ap (λ x. places_answered v x o) oldest ∙ cond-false b (set v.places h.queue (answered_places v h.queue h.number o)) v.places plain)) in
    ap (after v) (answer_steps-plain v l h o oldest plain)
    ∙ ap (λ (ps : List (List Place)). after (record (after_answer v l o) { places = ps }) (accepts_from h.queue h.number (events_of o))) kept

-- what an answer is, before anything leaves
pub after_answer_is : (v : View) (l : ℕ) (h : Held) (o : Outcome) → oldest_at v l ≡ Some h → is_ordered (queue_of v.shape h.queue).kind ≡ true → after_answer v l o ≡ answered_view v l h o
after_answer_is v l h o oldest ordered =
    ap (λ (ps : List (List Place)). record (answered_view v l h o) { places = ps })
    (ap (λ x. places_answered v x o) oldest ∙ cond-true (is_ordered (queue_of v.shape h.queue).kind) (set v.places h.queue (answered_places v h.queue h.number o)) v.places ordered)

-- ---- whether an event is passed on

tells_one : (q mine n : ℕ) (e : Event) → list_any (is_accept_of q mine) (accepts_from q n (e ∷ [])) ≡ (n == mine)
tells_one q mine n e = ap (λ b. (b && (n == mine)) || false) (eqb_same q) ∙ or-false (n == mine)

tells_some : (q mine n : ℕ) (es : List Event) → list_any (is_accept_of q mine) (accepts_from q n es) ≡ ((n == mine) && not (length es == 0))
tells_some q mine n [] = sym (and_right (n == mine) false refl)
tells_some q mine n (e ∷ es) =
    ap (λ b. (b && (n == mine)) || list_any (is_accept_of q mine) (accepts_from q n es)) (eqb_same q)
    ∙ (by_rest (n == mine) (tells_some q mine n es) ∙ ap (λ b. (n == mine) && not b) (sym (eqb_other (length (e ∷ es)) 0 (λ none. absurd (omega (arith, none))))))
  where
    by_rest : (b : Bool) → list_any (is_accept_of q mine) (accepts_from q n es) ≡ (b && not (length es == 0)) → (b || list_any (is_accept_of q mine) (accepts_from q n es)) ≡ (b && true)
    by_rest true rest = refl
    by_rest false rest = rest

pub passed_turn : (v : View) (q mine : ℕ) (x : Place) → q < length v.places → oldest_answered (places_at v q) ≡ Some x
    → list_any (is_accept_of q mine) (flush_steps v q)
    ≡ (list_any (is_accept_of q mine) (accepts_from q x.number x.forwards) || list_any (is_accept_of q mine) (flush_steps (after_leaving_of v q x) q))
passed_turn v q mine x h e =
    ap (list_any (is_accept_of q mine)) (flush_steps-turn v q x h e)
    ∙ list_any-append (is_accept_of q mine) (accepts_from q x.number x.forwards) (flush_steps (after_leaving_of v q x) q)

-- ---- the way from the answer to the end

pub way-turn : (q mine : ℕ) (start : View) (first : List Step) (v : View) (log : List Step) (passed : Bool) (x : Place) → IsOnTheWay q mine start first v log passed
    → q < length v.places → oldest_answered (places_at v q) ≡ Some x
    → IsOnTheWay q mine start first (after_leaving_of v q x) (log ++ accepts_from q x.number x.forwards) (passed || list_any (is_accept_of q mine) (accepts_from q x.number x.forwards))
way-turn q mine start first v log passed x way h e =
    let ss : List Step = accepts_from q x.number x.forwards in
    let ts : List Step = flush_steps (after_leaving_of v q x) q in
    record {
      view = sym (flushed-turn v q x h e) ∙ way.view;
      steps = append_assoc log ss ts ∙ (ap (λ us. log ++ us) (sym (flush_steps-turn v q x h e)) ∙ way.steps);
      passes =
          sym (or_assoc passed (list_any (is_accept_of q mine) ss) (list_any (is_accept_of q mine) ts))
          ∙ (ap (λ b. passed || b) (sym (passed_turn v q mine x h e)) ∙ way.passes);
    }
  where
    or_assoc : (a b c : Bool) → (a || (b || c)) ≡ ((a || b) || c)
    or_assoc true b c = refl
    or_assoc false b c = refl

-- ---- one place leaves, and what it was passed on as is accepted

-- there is room for it in the log
pub room_for : (v : View) (q most : ℕ) (x : Place) → q < length v.places → oldest_answered (places_at v q) ≡ Some x → length (flush_steps v q) ≤ most → length x.forwards ≤ most
room_for v q most x h oldest room =
    let turn : length (flush_steps v q) ≡ length (accepts_from q x.number x.forwards) + length (flush_steps (after_leaving_of v q x) q) =
    ap length (flush_steps-turn v q x h oldest) ∙ length-append (accepts_from q x.number x.forwards) (flush_steps (after_leaving_of v q x) q) in
    let same : length (accepts_from q x.number x.forwards) ≡ length x.forwards = length-map x.forwards (λ (e : Event). Accept e.queue e (Of q x.number)) in
    omega arith

left_is : (v u : View) (q : ℕ) (x : Place) → oldest_answered (places_at v q) ≡ Some x → u ≡ after_leave v q → u ≡ with_places_at v q (drop 1 (places_at v q))
left_is v u q x oldest is = is ∙ ap (λ o. with_places_at v q (rest_behind (places_at v q) o)) oldest

-- as nothing
pub passed_none : (q mine n : ℕ) (e : Event) (v u : View) (log : List Step) → oldest_answered (places_at v q) ≡ Some (left_plain n false e) → u ≡ after_leave v q → IsPassedOn q mine v log u log false
passed_none q mine n e v u log oldest is =
    record { place = left_plain n false e; oldest = oldest; view = left_is v u q (left_plain n false e) oldest is; steps = sym (append-nil log); passes = refl }

-- as one event
pub passed_one : (q mine n : ℕ) (e : Event) (v u w : View) (log new : List Step) → oldest_answered (places_at v q) ≡ Some (left_plain n true e) → u ≡ after_leave v q → w ≡ after_accept u e.queue e
    → new ≡ log ++ Accept e.queue e (Of q n) ∷ [] → IsPassedOn q mine v log w new (n == mine)
passed_one q mine n e v u w log new oldest is accepted logged =
    record {
      place = left_plain n true e;
      oldest = oldest;
      view = accepted ∙ ap (λ x. after_accept x e.queue e) (left_is v u q (left_plain n true e) oldest is);
      steps = logged;
      passes = sym (tells_one q mine n e);
    }

-- as some
pub passed_some : (q mine : ℕ) (x : Place) (v u w : View) (log new : List Step) → oldest_answered (places_at v q) ≡ Some x → u ≡ after_leave v q → w ≡ after u (accepts_from q x.number x.forwards)
    → new ≡ log ++ accepts_from q x.number x.forwards → IsPassedOn q mine v log w new ((x.number == mine) && not (length x.forwards == 0))
passed_some q mine x v u w log new oldest is accepted logged =
    record {
      place = x;
      oldest = oldest;
      view = accepted ∙ ap (λ y. after y (accepts_from q x.number x.forwards)) (left_is v u q x oldest is);
      steps = logged;
      passes = sym (tells_some q mine x.number x.forwards);
    }

-- fewer places are left
pub fewer_places : (q mine : ℕ) (v w : View) (log new : List Step) (passed : Bool) → q < length v.places → IsPassedOn q mine v log w new passed → length (places_at w q) < length (places_at v q)
fewer_places q mine v w log new passed h turn =
    let is : places_at v q ≡ turn.place ∷ drop 1 (places_at v q) = (leaving_is (places_at v q) turn.place turn.oldest).0 in
    let left : places_at w q ≡ drop 1 (places_at v q) = ap (λ u. places_at u q) turn.view ∙ places_left v q turn.place h in
    omega (arith, ap length is, ap length left)

-- ---- one turn of the loop

-- the same, with what else stays on the way: what a log has room for and what it has never shrink together
pub record IsSettling (q mine : ℕ) (start : View) (first : List Step) (most : ℕ) (v : View) (log : List Step) (free : ℕ) (passed : Bool) : Type 0 where
  pub way : IsOnTheWay q mine start first v log passed
  pub shape : v.shape ≡ start.shape
  pub there : q < length v.places
  pub room : most + length first ≤ free + length log

pub settles_turn : (q mine : ℕ) (start : View) (first : List Step) (most : ℕ) (v w : View) (log new : List Step) (free rest : ℕ) (passed now : Bool) → IsSettling q mine start first most v log free passed
    → IsPassedOn q mine v log w new now → free + length log ≤ rest + length new → IsSettling q mine start first most w new rest (passed || now)
settles_turn q mine start first most v w log new free rest passed now s turn room =
    let x : Place = turn.place in
    let ss : List Step = accepts_from q x.number x.forwards in
    let before = s.room in
    record {
      way =
          subst (λ b. IsOnTheWay q mine start first w new (passed || b)) (sym turn.passes)
          (subst (λ ts. IsOnTheWay q mine start first w ts (passed || list_any (is_accept_of q mine) ss)) (sym turn.steps)
          (subst (λ u. IsOnTheWay q mine start first u (log ++ ss) (passed || list_any (is_accept_of q mine) ss)) (sym turn.view)
          (way-turn q mine start first v log passed x s.way s.there turn.oldest)));
      shape = ap (λ (u : View). u.shape) turn.view ∙ (shape_after (with_places_at v q (drop 1 (places_at v q))) ss ∙ s.shape);
      there = subst (λ (u : View). q < length u.places) (sym turn.view) (subst (λ n. q < n) (sym (places_count v q x)) s.there);
      room = omega arith;
    }

-- there is room for what is still to come
pub room_left : (q mine : ℕ) (start : View) (first : List Step) (most : ℕ) (v : View) (log : List Step) (free : ℕ) (passed : Bool) → IsSettling q mine start first most v log free passed
    → length (flush_steps start q) ≤ most → length (flush_steps v q) ≤ free
room_left q mine start first most v log free passed s room =
    let all : length log + length (flush_steps v q) ≡ length first + length (flush_steps start q) =
    sym (length-append log (flush_steps v q)) ∙ (ap length s.way.steps ∙ length-append first (flush_steps start q)) in
    let before = s.room in
    omega arith

-- once no place leaves any more, all is as it is to be
pub record IsAtEnd (q mine : ℕ) (start : View) (first : List Step) (v : View) (log : List Step) (passed : Bool) : Type 0 where
  pub view : v ≡ flushed start q
  pub steps : log ≡ first ++ flush_steps start q
  pub passes : passed ≡ list_any (is_accept_of q mine) (flush_steps start q)

pub way_ends : (q mine : ℕ) (start : View) (first : List Step) (v : View) (log : List Step) (passed : Bool) → IsOnTheWay q mine start first v log passed → oldest_answered (places_at v q) ≡ None
    → IsAtEnd q mine start first v log passed
way_ends q mine start first v log passed way none =
    let ends = flush_none v q none in
    record {
      view = sym (flushed_none v q none) ∙ way.view;
      steps = sym (ap (λ ss. log ++ ss) ends ∙ append-nil log) ∙ way.steps;
      passes = sym (ap (λ ss. passed || list_any (is_accept_of q mine) ss) ends ∙ or-false passed) ∙ way.passes;
    }
