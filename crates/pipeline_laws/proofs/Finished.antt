-- What holds of a worked transcript once nothing is inside: each event was handed out, answered as is due, and accepted where it was
-- forwarded to.
use Rattle.std.proofs.Common.{◌≡◌, ℕ, ◌+◌, ◌-◌, ◌<◌, ◌≤◌, Bool, true, false, cond, List, [], ◌∷◌, length, map, filter_map, Contains, Option, Some, None, slice_get, ⊎_elim, refl, sym, ap, ◌∙◌, subst, arith, length-drop, nat_lt}
use Rattle.std.specs.List.{cons_option}
use Rattle.std.specs.Option.{option_map}
use Rattle.std.proofs.lemmas.Bool.{cases_Bool, cases_lt, cond-false, le-ltb}
use Rattle.std.proofs.lemmas.List.{length-map}
use Rattle.std.proofs.lemmas.List.Elements.{All-contains, Contains-append_left}
use Rattle.std.proofs.lemmas.Option.{none-some, same_Some, slice_get-map, slice_get_past}
use Rattle.evt_types.specs.Plan.{Plan, depth_of, flow_at, flow_depth, flow_lanes, lanes, lanes_of, port_of, queues}
use Rattle.evt_types.specs.declared.event.Event.{Event}
use Rattle.evt_types.specs.declared.step.Outcome.TheVariants.{Forwarded}
use Rattle.evt_types.specs.declared.step.Source.TheVariants.{New, Of}
use Rattle.evt_types.specs.declared.step.Step.{Step}
use Rattle.evt_types.specs.declared.step.Step.TheVariants.{Accept, Give, Done, More, Turned, Bounced, Shut}
use Rattle.lists.specs.Lists.{has}
use Rattle.lists.proofs.Lists.{All-has, slice_get-some}
use Rattle.lists.proofs.Parts.{count_by-cons}
use Rattle.lists.proofs.Sums.{none_in_sum}
use Rattle.pipeline_laws.proofs.Members.{Contains-slice_get, Contains-length, from_filter_map, into_filter_map, at_range, prefix_whole}
use Rattle.pipeline_laws.proofs.SentAnswers.{IsAnswered, Sent, Sent-allowed, given_has_lane}
use Rattle.pipeline_laws.specs.Worked.{AnswersAreDue, IsFinished, IsWorked, due, new_event, new_in, newcomers}
use Rattle.pipeline_laws.specs.declared.stage.Action.{Action}
use Rattle.pipeline_laws.specs.declared.stage.Entry.{Entry}
use Rattle.transcripts.proofs.Pushes.{is_pair_is, length-kept, length-unanswered, sent_for-same, source_in-same, taken_in-same, taken_in_is}
use Rattle.transcripts.proofs.Waits.{waits_if}
use Rattle.transcripts.proofs.Whole.{Known, Known-allowed, steps-Lawful}
use Rattle.transcripts.specs.Lawful.{Lawful}
use Rattle.transcripts.specs.Laws.{AddsNone}
use Rattle.transcripts.specs.Replies.{new_count}
use Rattle.transcripts.specs.Transcript.{accepted, answers, forwards, hand, inside, is_new, is_pair, kept, kept_of, out, sent, sent_for, source_in, sources, taken, taken_in, unanswered, waiting}

pub record Through (p : Plan) (actions : List Action) (trace : List Entry) (T : List Step) : Type 0 where
  pub known : Known p T
  pub adds_none : AddsNone T
  pub sent : Sent p T
  -- each lane answered all that it was given, as is due
  pub answered : (l : ℕ) → answers T l ≡ map (due actions T) (out T l)
  -- what a queue accepted was handed out
  pub handed : (q n : ℕ) → q < length p.queues → n < length (accepted T q) → has n (hand T q) ≡ true
  -- what was forwarded is accepted
  pub taken : (q n : ℕ) → q < length p.queues → has n (hand T q) ≡ true → length (forwards T q n) ≤ length (taken T q n)
  pub news : newcomers T ≡ map new_event trace

-- ---- nothing is inside

-- each of the three sums is of nothing
record Empties (p : Plan) (T : List Step) : Type 0 where
  waiting : (q : ℕ) → q < length p.queues → length (waiting T q) ≡ 0
  kept : (q : ℕ) → q < length p.queues → length (kept T q) ≡ 0
  unanswered : (l : ℕ) → l < lanes_of p → length (unanswered T l) ≡ 0

empties : (p : Plan) (T : List Step) → inside p T ≡ 0 → Empties p T
unfolding inside
empties p T none = record {
  waiting = λ q lt. at_range (λ k. length (waiting T k) ≡ 0) (length p.queues) q (none_in_sum (λ k. length (waiting T k)) (queues p) (omega arith)) lt;
  kept = λ q lt. at_range (λ k. length (kept T k) ≡ 0) (length p.queues) q (none_in_sum (λ k. length (kept T k)) (queues p) (omega arith)) lt;
  unanswered = λ l lt. at_range (λ k. length (unanswered T k) ≡ 0) (lanes_of p) l (none_in_sum (λ k. length (unanswered T k)) (lanes p) (omega arith)) lt;
}

-- a lane that isn't there may hold nothing
no_depth : (p : Plan) (l : ℕ) → lanes_of p ≤ l → depth_of p l ≡ 0
unfolding depth_of lanes_of
no_depth p l past =
    let ports : length p.ports ≤ l = omega arith in
    let flows : length (flow_lanes p) ≤ l - length p.ports = omega arith in
    cond-false (nat_lt l (length p.ports)) (port_of p l).depth (flow_depth (flow_at p l)) (le-ltb l (length p.ports) ports)
    ∙ ap flow_depth (slice_get_past (flow_lanes p) (l - length p.ports) flows)

none_unanswered : (p : Plan) (T : List Step) (l : ℕ) → Known p T → inside p T ≡ 0 → length (unanswered T l) ≡ 0
none_unanswered p T l known none =
    ⊎_elim (λ lt. (empties p T none).unanswered l lt) (λ past. omega (arith, known.lanes l, no_depth p l past)) (cases_lt l (lanes_of p))

-- ---- the parts

all_answered : (p : Plan) (actions : List Action) (T : List Step) (l : ℕ) → Known p T → AnswersAreDue actions T → inside p T ≡ 0
    → answers T l ≡ map (due actions T) (out T l)
all_answered p actions T l known are none =
    prefix_whole (answers T l) (map (due actions T) (out T l)) (are l)
    (omega (arith, none_unanswered p T l known none, length-unanswered T l, length-map (out T l) (due actions T)))

all_handed : (p : Plan) (T : List Step) (q n : ℕ) → inside p T ≡ 0 → q < length p.queues → n < length (accepted T q) → has n (hand T q) ≡ true
all_handed p T q n none there lt = ⊎_elim (λ yes. yes) (λ none_given. absurd (waits none_given)) (cases_Bool (has n (hand T q)))
  where
    waits : has n (hand T q) ≡ false → ⊥
    waits none_given =
        let event = slice_get-some (accepted T q) n lt in
        omega (arith, Contains-length (waiting T q) (record { number = n; event = event.0 }) (waits_if T q n event.0 event.1 none_given), (empties p T none).waiting q there)

all_taken : (p : Plan) (T : List Step) (q n : ℕ) → inside p T ≡ 0 → q < length p.queues → has n (hand T q) ≡ true → length (forwards T q n) ≤ length (taken T q n)
all_taken p T q n none there handed =
    let left : length (kept_of T q n) ≡ 0 =
    All-has (λ m. length (kept_of T q m) ≡ 0) n (hand T q)
    (none_in_sum (λ m. length (kept_of T q m)) (hand T q) (sym (length-kept T q) ∙ (empties p T none).kept q there)) handed in
    omega (arith, left, length-drop (length (taken T q n)) (forwards T q n))

-- what was accepted as new is counted
news_counted : (T : List Step) → length (newcomers T) ≡ new_count T
unfolding newcomers
news_counted [] = refl
news_counted (s ∷ T) = omega (arith, one (new_in s) (filter_map new_in T), by_step s, count_by-cons is_new s T, news_counted T)
  where
    one : (o : Option Event) (es : List Event) → length (cons_option o es) ≡ length (cons_option o []) + length es
    one None es = omega arith
    one (Some e) es = omega arith

    by_step : (t : Step) → length (cons_option (new_in t) []) ≡ cond (is_new t) 1 0
    by_step (Accept q e (New l)) = refl
    by_step (Accept q e (Of r n)) = refl
    by_step (Give l q n) = refl
    by_step (Done l o) = refl
    by_step (More l e) = refl
    by_step (Turned l e) = refl
    by_step (Bounced l) = refl
    by_step Shut = refl

pub through : (p : Plan) (actions : List Action) (trace : List Entry) (T : List Step) → Lawful p T → IsWorked actions trace T → IsFinished p trace T
    → Through p actions trace T
through p actions trace T lawful worked finished =
    let steps = (steps-Lawful p T lawful).steps in
    let known = Known-allowed p T steps in
    record {
      known = known;
      adds_none = worked.adds_none;
      sent = Sent-allowed p T worked.adds_none steps;
      answered = λ l. all_answered p actions T l known worked.answers finished.none_inside;
      handed = λ q n. all_handed p T q n finished.none_inside;
      taken = λ q n. all_taken p T q n finished.none_inside;
      news =
          prefix_whole (newcomers T) (map new_event trace) worked.newcomers
          (omega (arith, length-map trace new_event, news_counted T, finished.all));
    }

-- ---- accepted is what is due

-- what stands at a place of a lane's answers is due to the pair that stands there
answered_at : (actions : List Action) (T : List Step) (l i : ℕ) (x : ℕ × ℕ) → answers T l ≡ map (due actions T) (out T l) → slice_get (out T l) i ≡ Some x
    → slice_get (answers T l) i ≡ Some (due actions T x)
answered_at actions T l i x all e = ap (λ ys. slice_get ys i) all ∙ (slice_get-map (due actions T) (out T l) i ∙ ap (option_map (due actions T)) e)

-- an event that was accepted from a number is due to it
pub accepted_is_due : (p : Plan) (actions : List Action) (trace : List Entry) (T : List Step) (q : ℕ) (e : Event) (r n : ℕ) → Through p actions trace T
    → Contains T (Accept q e (Of r n)) → due actions T (r, n) ≡ Forwarded e
unfolding forwards taken
accepted_is_due p actions trace T q e r n t there =
    let accept = into_filter_map (taken_in r n) T (Accept q e (Of r n)) e there (taken_in-same q r n e) in
    let front = t.known.origin r n in
    let forwarded : Contains (forwards T r n) e = subst (λ ys. Contains ys e) front.1 (Contains-append_left (taken T r n) front.0 e accept) in
    let sending = from_filter_map (sent_for r n) (sent T) e forwarded in
    by_pair sending.0.0 sending.0.1 sending.2 (All-contains (λ (y : (ℕ × ℕ) × Event). IsAnswered T y.0 y.1) (sent T) sending.0 t.sent.from sending.1)
  where
    by_pair : (x : ℕ × ℕ) (d : Event) → sent_for r n (x, d) ≡ Some e → IsAnswered T x d → due actions T (r, n) ≡ Forwarded e
    by_pair x d is answered = by_test (is_pair r n x) refl is
      where
        by_test : (b : Bool) → is_pair r n x ≡ b → cond b (Some d) None ≡ Some e → due actions T (r, n) ≡ Forwarded e
        by_test true same k =
            let pair = is_pair_is r n x same in
            let first = answered_at actions T answered.0 answered.1 x (t.answered answered.0) answered.2 in
            let here : due actions T (r, n) ≡ due actions T x = ap (λ m. due actions T (m, n)) (sym pair.0) ∙ ap (λ m. due actions T (x.0, m)) (sym pair.1) in
            here ∙ (same_Some (due actions T x) (Forwarded d) (sym first ∙ answered.3) ∙ ap Forwarded (same_Some d e k))
        by_test false other k = absurd (none-some e k)

-- a number from which an event was accepted is a source
taken_is_source : (T : List Step) (q n : ℕ) (d : Event) → Contains (taken T q n) d → Contains (sources T q) n
unfolding taken sources
taken_is_source T q n d there =
    let step = from_filter_map (taken_in q n) T d there in
    let accept = taken_in_is q n step.0 d step.2 in
    let is : source_in q step.0 ≡ Some n = subst (λ s. source_in q s ≡ Some n) (sym accept.1) (source_in-same accept.0 q n d) in
    into_filter_map (source_in q) T step.0 n step.1 is

-- and what is due to a number was accepted from it
pub due_is_accepted : (p : Plan) (actions : List Action) (trace : List Entry) (T : List Step) (q n : ℕ) (e : Event) → Through p actions trace T
    → q < length p.queues → n < length (accepted T q) → due actions T (q, n) ≡ Forwarded e → Contains (sources T q) n
unfolding forwards
due_is_accepted p actions trace T q n e t there lt is =
    let handed = t.handed q n there lt in
    let lane = given_has_lane T q n handed in
    let answer = answered_at actions T lane.0 lane.1 (q, n) (t.answered lane.0) lane.2 in
    let sending = t.sent.to lane.0 lane.1 (q, n) e lane.2 (answer ∙ ap (λ o. Some o) is) in
    let forwarded : Contains (forwards T q n) e = into_filter_map (sent_for q n) (sent T) ((q, n), e) e sending (sent_for-same q n e) in
    let some : 0 < length (taken T q n) = omega (arith, t.taken q n there handed, Contains-length (forwards T q n) e forwarded) in
    let first = slice_get-some (taken T q n) 0 some in
    taken_is_source T q n first.0 (Contains-slice_get (taken T q n) 0 first.0 first.1)
