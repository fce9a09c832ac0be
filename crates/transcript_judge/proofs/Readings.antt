-- What a reading knows of the steps that it has read.
use Rattle.std.proofs.Common.{◌≡◌, ℕ, ◌+◌, ◌<◌, ◌≤◌, List, [], ◌∷◌, ◌++◌, length, map, drop, All, Some, slice_get, refl, sym, ap, ◌∙◌, subst, arith, append_assoc, append-nil, take}
use Rattle.std.proofs.lemmas.List.{length-map, length-set, length_push, nil_from_length}
use Rattle.std.proofs.lemmas.List.Elements.{All-drop, All-map, All-nil, All-weaker}
use Rattle.std.proofs.lemmas.List.FromFn.{length-range_with_len}
use Rattle.evt_types.specs.Plan.{Plan, lanes, lanes_of, queues}
use Rattle.evt_types.specs.declared.event.KeptEvent.{KeptEvent}
use Rattle.evt_types.specs.declared.step.Step.{Step}
use Rattle.lists.proofs.Parts.{take_next}
use Rattle.transcripts.proofs.Account.{settled}
use Rattle.transcripts.proofs.Whole.{steps-Lawful}
use Rattle.transcripts.proofs.WholeStands.{facts_of, shape_after, unanswered_is}
use Rattle.transcripts.specs.Lawful.{IsPrefix, Lawful}
use Rattle.transcripts.specs.Replies.{more_count, new_count, release_count}
use Rattle.transcripts.specs.Standing.{Stands, View, after, after_accept, view_of}
use Rattle.transcripts.specs.Transcript.{Held, answers, held_at, inside, out, unanswered}
use Rattle.transcript_judge.proofs.RowLists.{length-rows}
use Rattle.transcript_judge.specs.Fronts.{Breaks}
use Rattle.transcript_judge.specs.Ledger.{IsSized, accept_of, row, rows, view_in}
use Rattle.transcript_judge.specs.Reading.{AreOfOne, IsRead, to_come}
use Rattle.transcript_judge.specs.Waiting.{Waits, kinds_in, kinds_of, nexts_in}
use Rattle.transcript_judge.specs.Verdicts.{IsBrokenAt, IsRunning}
use Rattle.transcript_judge.specs.declared.reading.Reading.{Reading}
use Rattle.transcript_judge.specs.declared.verdict.Clause.{Clause}
use Rattle.transcript_judge.proofs.Verdicts.{broken_ends}

-- ---- lawful with what is to come, and now where nothing is

pub lawful_to_come : (p : Plan) (P : List Step) (r : Reading) → IsRead p P r → Lawful p (P ++ to_come r)
lawful_to_come p P r h = subst (λ q. Lawful q (P ++ to_come r)) (shape_after (view_in p r.ledger) (to_come r)) h.stands.lawful

pub stands_now : (p : Plan) (P : List Step) (r : Reading) → IsRead p P r → to_come r ≡ [] → Stands P (view_in p r.ledger)
stands_now p P r h none =
    subst (λ T. Stands T (view_in p r.ledger)) (append-nil P) (subst (λ D. Stands (P ++ D) (after (view_in p r.ledger) D)) none h.stands)

pub lawful_now : (p : Plan) (P : List Step) (r : Reading) → IsRead p P r → to_come r ≡ [] → Lawful p P
lawful_now p P r h none = (stands_now p P r h none).lawful

pub inside_now : (p : Plan) (P : List Step) (r : Reading) → IsRead p P r → to_come r ≡ [] → r.inside ≡ inside p P
inside_now p P r h none = omega (arith, h.count, settled p P (steps-Lawful p P (lawful_now p P r h none)).steps)

-- ---- a list or a count for each queue and each lane

pub record Keeps (v w : View) : Type 0 where
  pub waiting : length w.waiting ≡ length v.waiting
  pub next : length w.next ≡ length v.next
  pub places : w.places ≡ v.places
  pub unanswered : w.unanswered ≡ v.unanswered
  pub extras : w.extras ≡ v.extras

pub accepts_keep : (ks : List KeptEvent) (v : View) → Keeps v (after v (map accept_of ks))
accepts_keep [] v = record { waiting = refl; next = refl; places = refl; unanswered = refl; extras = refl }
accepts_keep (k ∷ ks) v =
    let rest = accepts_keep ks (after_accept v (k.event).queue k.event) in
    record {
      waiting = rest.waiting ∙ length-set v.waiting _ _;
      next = rest.next ∙ length-set v.next _ _;
      places = rest.places;
      unanswered = rest.unanswered;
      extras = rest.extras;
    }

record HasSizes (v : View) (p : Plan) : Type 0 where
  pub waiting : length v.waiting ≡ length p.queues
  pub next : length v.next ≡ length p.queues
  pub places : length v.places ≡ length p.queues
  pub unanswered : length v.unanswered ≡ lanes_of p
  pub extras : length v.extras ≡ lanes_of p

view_sizes : (p : Plan) (T : List Step) → HasSizes (view_of p T) p
unfolding view_of
view_sizes p T = record {
  waiting = length-map (queues p) _ ∙ length-range_with_len 0 (length p.queues);
  next = length-map (queues p) _ ∙ length-range_with_len 0 (length p.queues);
  places = length-map (queues p) _ ∙ length-range_with_len 0 (length p.queues);
  unanswered = length-map (lanes p) _ ∙ length-range_with_len 0 (lanes_of p);
  extras = length-map (lanes p) _ ∙ length-range_with_len 0 (lanes_of p);
}

pub sized : (p : Plan) (P : List Step) (r : Reading) → IsRead p P r → IsSized p r.ledger
sized p P r h = record {
  waiting = sym (length-map r.ledger.waiting.items (λ (w : Waits). w.events)) ∙ (sym keep.waiting ∙ has.waiting);
  places = sym (length-rows r.ledger.places.items) ∙ (sym (ap length keep.places) ∙ has.places);
  unanswered = sym (length-rows r.ledger.unanswered.items) ∙ (sym (ap length keep.unanswered) ∙ has.unanswered);
  extras = sym (ap length keep.extras) ∙ has.extras;
}
  where
    v : View
    v = view_in p r.ledger

    w : View
    w = after v (to_come r)

    keep : Keeps v w
    keep = accepts_keep (drop r.taken r.due.items) v

    has : HasSizes w p
    has =
        subst (HasSizes w) (shape_after v (to_come r))
        (subst (λ u. HasSizes u w.shape) (sym h.stands.holds) (view_sizes w.shape (P ++ to_come r)))

-- ---- what is read next

-- an Accept that had to follow
pub read_taken : (p : Plan) (P : List Step) (s : Step) (D : List Step) (r t : Reading) → IsRead p P r → to_come r ≡ s ∷ D → to_come t ≡ D
    → Stands ((P ++ s ∷ []) ++ D) (after (view_in p t.ledger) D) → t.inside ≡ r.inside → release_count (P ++ s ∷ []) ≡ release_count P
    → new_count (P ++ s ∷ []) ≡ new_count P → more_count (P ++ s ∷ []) ≡ more_count P
    → All (λ n. n ≤ length (P ++ s ∷ [])) (nexts_in t.ledger.waiting.items) → kinds_in t.ledger.waiting.items ≡ kinds_of p → t.taken ≤ length t.due.items → AreOfOne p (drop t.taken t.due.items) → IsRead p (P ++ s ∷ []) t
read_taken p P s D r t h old new stands inside releases news mores numbers kinds within one = record {
  stands = subst (λ E. Stands ((P ++ s ∷ []) ++ E) (after (view_in p t.ledger) E)) (sym new) stands;
  only = λ U lawful.
      let whole : IsPrefix (s ∷ D) (s ∷ U) = subst (λ E. IsPrefix E (s ∷ U)) old (h.only (s ∷ U) (subst (Lawful p) (append_assoc P (s ∷ []) U) lawful)) in
      subst (λ E. IsPrefix E U) (sym new) (whole.0, ap (drop 1) whole.1);
  count = omega (arith, h.count, inside, releases, news, mores);
  numbers = numbers;
  kinds = kinds;
  within = within;
  one = one;
}

-- a step that leads the Accepts D
pub read_led : (p : Plan) (P : List Step) (s : Step) (D : List Step) (t : Reading) → to_come t ≡ D → Stands (P ++ s ∷ D) (after (view_in p t.ledger) D)
    → ((U : List Step) → Lawful p ((P ++ s ∷ []) ++ U) → IsPrefix D U)
    → t.inside + release_count (P ++ s ∷ []) ≡ new_count (P ++ s ∷ []) + more_count (P ++ s ∷ [])
    → All (λ n. n ≤ length (P ++ s ∷ [])) (nexts_in t.ledger.waiting.items) → kinds_in t.ledger.waiting.items ≡ kinds_of p → t.taken ≤ length t.due.items → AreOfOne p (drop t.taken t.due.items) → IsRead p (P ++ s ∷ []) t
read_led p P s D t new stands only count numbers kinds within one = record {
  stands = subst (λ E. Stands ((P ++ s ∷ []) ++ E) (after (view_in p t.ledger) E)) (sym new)
      (subst (λ T. Stands T (after (view_in p t.ledger) D)) (sym (append_assoc P (s ∷ []) D)) stands);
  only = λ U lawful. subst (λ E. IsPrefix E U) (sym new) (only U lawful);
  count = count;
  numbers = numbers;
  kinds = kinds;
  within = within;
  one = one;
}

none_due : (ks : List KeptEvent) → map accept_of ks ≡ [] → ks ≡ []
none_due ks none = nil_from_length ks (sym (length-map ks accept_of) ∙ ap length none)

pub of_none : (p : Plan) → AreOfOne p []
of_none p = record { queue = 0; same = All-nil (λ (k : KeptEvent). k.queue ≡ 0); one = λ plain. omega arith }

-- a step that leads none
pub read_alone : (p : Plan) (P : List Step) (s : Step) (t : Reading) → to_come t ≡ [] → Stands (P ++ s ∷ []) (view_in p t.ledger)
    → t.inside + release_count (P ++ s ∷ []) ≡ new_count (P ++ s ∷ []) + more_count (P ++ s ∷ [])
    → All (λ n. n ≤ length (P ++ s ∷ [])) (nexts_in t.ledger.waiting.items) → kinds_in t.ledger.waiting.items ≡ kinds_of p → t.taken ≤ length t.due.items → IsRead p (P ++ s ∷ []) t
read_alone p P s t none stands count numbers kinds within =
    read_led p P s [] t none stands (λ U lawful. (U, refl)) count numbers kinds within
    (subst (AreOfOne p) (sym (none_due (drop t.taken t.due.items) none)) (of_none p))

-- numbers that stay, and one that rises
pub numbers_stay : (P : List Step) (s : Step) (ns : List ℕ) → All (λ n. n ≤ length P) ns → All (λ n. n ≤ length (P ++ s ∷ [])) ns
numbers_stay P s ns all = All-weaker (λ n. n ≤ length P) (λ n. n ≤ length (P ++ s ∷ [])) (λ n le. omega (arith, le, length_push P s)) ns all

-- ---- the verdicts

pub running : (p : Plan) (P : List Step) (r : Reading) → IsRead p P r → 0 < length (to_come r) → IsRunning p P
running p P r h some = record {
  front = (to_come r, lawful_to_come p P r h);
  unlawful = λ lawful.
      let first : IsPrefix (to_come r) [] = h.only [] (subst (Lawful p) (sym (append-nil P)) lawful) in
      absurd (too_long (to_come r) first.0 first.1 some);
}
  where
    too_long : (xs ys : List Step) → xs ++ ys ≡ [] → 0 < length xs → ⊥
    too_long [] ys is lt = absurd (omega arith)
    too_long (x ∷ xs) ys is lt = cc

pub broken_at : (p : Plan) (T : List Step) (k : ℕ) (c : Clause) (s : Step) (r : Reading) → IsRead p (take k T) r → slice_get T k ≡ Some s
    → Breaks c p (take k T ++ s ∷ []) → IsBrokenAt p T k c s
broken_at p T k c s r h at broken =
    let here : Breaks c p (take (k + 1) T) = subst (Breaks c p) (sym (take_next T k s at)) broken in
    record {
      step = at;
      before = (to_come r, lawful_to_come p (take k T) r h);
      ended = broken_ends c p (take (k + 1) T) here;
      broken = here;
    }

-- the queues of what a lane holds are there
pub held_queues : (p : Plan) (P : List Step) (r : Reading) (l : ℕ) → IsRead p P r → to_come r ≡ [] → l < lanes_of p
    → All (λ (h : Held). h.queue < length p.queues) (row (rows r.ledger.unanswered.items) l)
unfolding unanswered
held_queues p P r l h none lane =
    subst (All (λ (y : Held). y.queue < length p.queues)) (sym (unanswered_is (view_in p r.ledger) P l (stands_now p P r h none) lane))
    (All-map (λ (y : Held). y.queue < length p.queues) (held_at p P) (unanswered P l)
    (All-drop (λ (x : ℕ × ℕ). x.0 < length p.queues) (length (answers P l)) (out P l)
    ((facts_of p P (lawful_now p P r h none)).queues l)))
