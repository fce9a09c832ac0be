-- Events that wait in their queues one after the other: what an event was passed on as.
use Rattle.std.proofs.Common.{◌≡◌, ℕ, ◌+◌, ◌<◌, ◌≤◌, ◌^◌, List, [], ◌∷◌, ◌++◌, length, map, set, take, get_or, refl, sym, ap, subst, ◌∙◌, arith, append_assoc, append-nil}
use Rattle.std.proofs.lemmas.List.{length-append, length-map, length-take-le, map_push, take_more}
use Rattle.evt_types.specs.Plan.{bound_of}
use Rattle.evt_types.specs.declared.event.Event.{Event}
use Rattle.evt_types.specs.declared.step.Source.TheVariants.{Of}
use Rattle.evt_types.specs.declared.step.Step.{Step}
use Rattle.evt_types.specs.declared.step.Step.TheVariants.{Accept}
use Rattle.parked_queue.specs.Waits.{AreWaits, Waits, all_waiting, waits_at, with_event}
use Rattle.sched_core.proofs.Busy.{waits_is}
use Rattle.sched_core.proofs.Cores.{accept_counts, core_accepts, fits_number, fits_queue, queue_there, view_accepts}
use Rattle.sched_core.specs.View.{IsCore, view_in}
use Rattle.sched_core.specs.declared.state.Core.TheInside.{Inside}
use Rattle.transcripts.specs.Standing.{View, inside_of, entries_of, accepts_from, after, after_accept}
use Rattle.sched_core.proofs.Settling.{after-append}

-- so many of the events were accepted since the start
pub record IsAccepting (q n : ℕ) (es : List Event) (start : View) (first : List Step) (most : ℕ) (v : View) (log : List Step) (free i : ℕ) : Type 0 where
  pub view : v ≡ after start (accepts_from q n (take i es))
  pub steps : log ≡ first ++ accepts_from q n (take i es)
  pub shape : v.shape ≡ start.shape
  pub inside : inside_of v ≡ inside_of start + i
  pub entries : entries_of v ≡ entries_of start + i
  pub room : most + length first ≤ free + length log

pub accepting_none : (q n : ℕ) (es : List Event) (start : View) (first : List Step) (most : ℕ) → IsAccepting q n es start first most start first most 0
accepting_none q n es start first most = record { view = refl; steps = sym (append-nil first); shape = refl; inside = omega arith; entries = omega arith; room = omega arith }

-- the steps of one event more
accepts_more : (q n : ℕ) (es : List Event) (i : ℕ) (e : Event) → i < length es → e ≡ get_or es i e → accepts_from q n (take (i + 1) es) ≡ accepts_from q n (take i es) ++ Accept e.queue e (Of q n) ∷ []
accepts_more q n es i e h is =
    let step : Event → Step = λ (d : Event). Accept d.queue d (Of q n) in
    ap (map step) (take_more es i e h) ∙ (map_push step (take i es) (get_or es i e) ∙ ap (λ d. map step (take i es) ++ step d ∷ []) (sym is))

pub accepting_more : (q n : ℕ) (es : List Event) (start : View) (first : List Step) (most : ℕ) (v w : View) (log new : List Step) (free rest i : ℕ) (e : Event) → IsAccepting q n es start first most v log free i
    → i < length es → e ≡ get_or es i e → w ≡ after_accept v e.queue e → (inside_of w ≡ inside_of v + 1) × (entries_of w ≡ entries_of v + 1)
    → new ≡ log ++ Accept e.queue e (Of q n) ∷ [] → free ≤ rest + 1 → IsAccepting q n es start first most w new rest (i + 1)
accepting_more q n es start first most v w log new free rest i e so h is accepted counts logged room =
    let more = accepts_more q n es i e h is in
    let inside = so.inside in
    let entries = so.entries in
    let before = so.room in
    let long : length new ≡ length log + 1 = ap length logged ∙ length-append log (Accept e.queue e (Of q n) ∷ []) in
    record {
      view = accepted ∙ (ap (λ u. after_accept u e.queue e) so.view
          ∙ sym (ap (after start) more ∙ after-append start (accepts_from q n (take i es)) (Accept e.queue e (Of q n) ∷ [])));
      steps = logged ∙ (ap (λ ss. ss ++ Accept e.queue e (Of q n) ∷ []) so.steps
          ∙ (append_assoc first (accepts_from q n (take i es)) (Accept e.queue e (Of q n) ∷ []) ∙ ap (λ ss. first ++ ss) (sym more)));
      shape = ap (λ (u : View). u.shape) accepted ∙ so.shape;
      inside = omega arith;
      entries = omega arith;
      room = omega arith;
    }

-- there is room for the next one in the log
pub accepting_room : (q n : ℕ) (es : List Event) (start : View) (first : List Step) (most : ℕ) (v : View) (log : List Step) (free i : ℕ) → IsAccepting q n es start first most v log free i → i < length es
    → length es ≤ most → 0 < free
accepting_room q n es start first most v log free i so h room =
    let done : length (accepts_from q n (take i es)) ≡ i = length-map (take i es) (λ (d : Event). Accept d.queue d (Of q n)) ∙ length-take-le i es (omega arith) in
    let all : length log ≡ length first + length (accepts_from q n (take i es)) = ap length so.steps ∙ length-append first (accepts_from q n (take i es)) in
    let same = so.room in
    omega arith

-- ---- a core that accepts an event

pub record HasAccepted (now : Inside) (v : View) (e : Event) : Type 0 where
  pub core : IsCore now
  pub view : view_in now ≡ after_accept v e.queue e
  pub counts : (inside_of (view_in now) ≡ inside_of v + 1) × (entries_of (view_in now) ≡ entries_of v + 1)

module _ (a : Inside) (v : View) (e : Event) (core : IsCore a) (same : view_in a ≡ v) (queue : e.queue < length v.shape.queues) (inside : inside_of v < bound_of v.shape) (entries : entries_of v < 2 ^ 63) where
  abbrev w : Waits
  w = waits_at a.queues e.queue

  h : e.queue < length a.queues
  h = omega (arith, queue_there a v e.queue same queue, core.queues)

  is : w ≡ get_or a.queues e.queue w
  is = waits_is a.queues e.queue h

  fits : inside_of (view_in a) < bound_of a.shape
  fits = subst (λ (u : View). inside_of u < bound_of u.shape) (sym same) inside

  few : entries_of (view_in a) < 2 ^ 63
  few = subst (λ (u : View). entries_of u < 2 ^ 63) (sym same) entries

  pub accept_room : all_waiting a.queues < w.room
  accept_room = fits_queue a e.queue w core h is fits

  pub accept_number : w.next < 2 ^ 63
  accept_number = omega (arith, fits_number a e.queue w h is, few)

  pub accepted_one : (qs : List Waits) → qs ≡ set a.queues e.queue (with_event w e) → AreWaits (with_event w e) → HasAccepted (record a { queues = qs; inside = a.inside + 1; entries = a.entries + 1 }) v e
  accepted_one qs value waits =
      let here : HasAccepted (record a { queues = set a.queues e.queue (with_event w e); inside = a.inside + 1; entries = a.entries + 1 }) v e = record {
        core = core_accepts a e.queue w (with_event w e) e core fits few h is refl waits;
        view = view_accepts a e.queue w (with_event w e) e h is refl ∙ ap (λ u. after_accept u e.queue e) same;
        counts = accept_counts a e.queue w (with_event w e) e v core same fits few h is refl waits;
      } in
      subst (λ xs. HasAccepted (record a { queues = xs; inside = a.inside + 1; entries = a.entries + 1 }) v e) (sym value) here
