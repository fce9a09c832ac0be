-- A step that is allowed is read: what the reading then knows.
use Rattle.std.proofs.Common.{◌≡◌, ℕ, zero, suc, ◌+◌, ◌<◌, ◌≤◌, Bool, true, false, cond, List, [], ◌∷◌, ◌++◌, length, map, drop, flat_map, get_or, All, Some, slice_index, refl, sym, ap, ◌∙◌, subst, arith, append_assoc}
use Rattle.std.proofs.lemmas.Bool.{cond-false}
use Rattle.std.proofs.lemmas.List.{drop-drop, length-drop, length-map, length_push}
use Rattle.std.proofs.lemmas.List.Elements.{All-append, All-drop, All-head, All-map, All-nil, All-set, All-tail}
use Rattle.evt_types.specs.Place.{Place}
use Rattle.evt_types.specs.Limits.{most_extras}
use Rattle.evt_types.specs.Plan.{Plan, bound_of, is_ordered, lanes_of, queue_of, queues}
use Rattle.evt_types.specs.declared.event.Event.{Event}
use Rattle.evt_types.specs.declared.event.KeptEvent.{KeptEvent}
use Rattle.evt_types.specs.declared.event.Numbered.{Numbered}
use Rattle.evt_types.specs.declared.step.Outcome.{Outcome}
use Rattle.evt_types.specs.declared.step.Source.TheVariants.{New, Of}
use Rattle.evt_types.specs.declared.step.Step.{Step}
use Rattle.evt_types.specs.declared.step.Step.TheVariants.{Accept, Give, Done, More, Turned, Bounced, Shut}
use Rattle.lists.proofs.Lists.{All-unmap, slice_get-some}
use Rattle.lists.proofs.Parts.{count_by-push}
use Rattle.transcripts.proofs.Pushes.{events_few}
use Rattle.transcripts.proofs.WholeViews.{accepted_at_none}
use Rattle.transcripts.proofs.WholeStands.{inside_is, shape_after, stands_answer, stands_bounced, stands_give, stands_more, stands_new, stands_none, stands_shut, stands_turned}
use Rattle.transcripts.specs.Choice.{IsOffer}
use Rattle.transcripts.specs.Lawful.{IsAddition, IsForwardEntry, IsNewEntry, IsOutcome, IsPrefix, IsTurnedAway, Lawful}
use Rattle.transcripts.specs.Standing.{Stands, View, accepts_from, accepts_of, added_of, after, after_accept, after_done, after_give, after_more, answered_places, events_of, leaving, oldest_at, unanswered_at, view_of}
use Rattle.transcripts.specs.Transcript.{Held, accepted, is_from_of, is_more, is_new, is_release}
use Rattle.transcript_judge.proofs.Cuts.{answer_led, more_led}
use Rattle.transcript_judge.proofs.Readings.{inside_now, lawful_now, numbers_stay, of_none, read_alone, read_led, read_taken, stands_now}
use Rattle.transcript_judge.specs.Ledger.{accept_of, row, rows, view_in}
use Rattle.transcript_judge.specs.Reading.{AreOfOne, IsRead, to_come}
use Rattle.transcript_judge.specs.Scans.{IsNext}
use Rattle.transcript_judge.specs.Waiting.{kinds_in, kinds_of, nexts_in}
use Rattle.transcript_judge.specs.declared.ledger.Ledger.{Ledger}
use Rattle.transcript_judge.specs.declared.reading.Reading.{Reading}

-- ---- numbers

index_le : (ns : List ℕ) (q most : ℕ) → All (λ n. n ≤ most) ns → slice_index ns q ≤ most
index_le [] q most all = omega arith
index_le (n ∷ ns) zero most all = All-head (λ m. m ≤ most) n ns all
index_le (n ∷ ns) (suc q) most all = index_le ns q most (All-tail (λ m. m ≤ most) n ns all)

pub numbers_rise : (p : Plan) (P : List Step) (s : Step) (old new : Ledger) (q : ℕ) (e : Event) → All (λ n. n ≤ length P) (nexts_in old.waiting.items)
    → view_in p new ≡ after_accept (view_in p old) q e → All (λ n. n ≤ length (P ++ s ∷ [])) (nexts_in new.waiting.items)
numbers_rise p P s old new q e all is =
    let low : slice_index (nexts_in old.waiting.items) q ≤ length P = index_le (nexts_in old.waiting.items) q (length P) all in
    subst (All (λ n. n ≤ length (P ++ s ∷ []))) (sym (ap (λ (v : View). v.next) is))
    (All-set (λ n. n ≤ length (P ++ s ∷ [])) (nexts_in old.waiting.items) q (slice_index (nexts_in old.waiting.items) q + 1) (omega (arith, low, length_push P s))
    (numbers_stay P s (nexts_in old.waiting.items) all))

pub numbers_same : (P : List Step) (s : Step) (old new : List ℕ) → All (λ n. n ≤ length P) old → new ≡ old → All (λ n. n ≤ length (P ++ s ∷ [])) new
numbers_same P s old new all is = subst (All (λ n. n ≤ length (P ++ s ∷ []))) (sym is) (numbers_stay P s old all)

pub same_to_come : (r t : Reading) → t.due ≡ r.due → t.taken ≡ r.taken → to_come t ≡ to_come r
same_to_come r t due taken =
    ap (λ ks. map accept_of (drop t.taken ks)) (ap (λ d. d.items) due) ∙ ap (λ k. map accept_of (drop k r.due.items)) taken

pub same_within : (r t : Reading) → t.due ≡ r.due → t.taken ≡ r.taken → r.taken ≤ length r.due.items → t.taken ≤ length t.due.items
same_within r t due taken within = omega (arith, taken, ap (λ d. length d.items) due, within)

-- ---- nothing is read yet

pub read_start : (p : Plan) (r : Reading) → view_in p r.ledger ≡ view_of p [] → kinds_in r.ledger.waiting.items ≡ kinds_of p → r.due.items ≡ [] → r.taken ≡ 0 → r.inside ≡ 0 → IsRead p [] r
unfolding view_of
read_start p r view kinds due taken inside = record {
  stands = subst (λ D. Stands ([] ++ D) (after (view_in p r.ledger) D)) (sym none) (subst (Stands []) (sym view) (stands_none p));
  only = λ U lawful. subst (λ D. IsPrefix D U) (sym none) (U, refl);
  count = omega (arith, inside);
  numbers = subst (All (λ n. n ≤ 0)) (sym (ap (λ (v : View). v.next) view))
      (All-map (λ n. n ≤ 0) (λ q. length (accepted [] q)) (queues p) (λ k d lt. omega (arith, ap length (accepted_at_none (get_or (queues p) k d)))));
  kinds = kinds;
  within = omega (arith, taken);
  one = subst (AreOfOne p) (sym nothing) (of_none p);
}
  where
    nothing : drop r.taken r.due.items ≡ []
    nothing = ap (λ k. drop k r.due.items) taken ∙ due

    none : to_come r ≡ []
    none = ap (map accept_of) nothing

-- ---- steps that lead no Accepts

pub read_new : (p : Plan) (P : List Step) (r t : Reading) (q : ℕ) (e : Event) (l : ℕ) → IsRead p P r → to_come r ≡ [] → IsNewEntry p q e l
    → r.ledger.shut ≡ false → r.inside < bound_of p → view_in p t.ledger ≡ after_accept (view_in p r.ledger) q e → kinds_in t.ledger.waiting.items ≡ kinds_in r.ledger.waiting.items → t.due ≡ r.due → t.taken ≡ r.taken
    → t.inside ≡ r.inside + 1 → IsRead p (P ++ Accept q e (New l) ∷ []) t
read_new p P r t q e l h none formed unshut room view kinds due taken inside =
    read_alone p P s t (same_to_come r t due taken ∙ none) (subst (Stands (P ++ s ∷ [])) (sym view) stands)
    (omega (arith, h.count, inside, count_by-push is_release P s, count_by-push is_new P s, count_by-push is_more P s))
    (numbers_rise p P s r.ledger t.ledger q e h.numbers view) (kinds ∙ h.kinds) (same_within r t due taken h.within)
  where
    s : Step
    s = Accept q e (New l)

    v : View
    v = view_in p r.ledger

    before : Stands P v
    before = stands_now p P r h none

    stands : Stands (P ++ s ∷ []) (after_accept v q e)
    stands =
        subst (λ k. Stands (P ++ Accept k e (New l) ∷ []) (after_accept v k e)) formed.entry.named
        (stands_new v P l e before formed.lane formed.operation unshut (subst (λ k. k < length p.queues) (sym formed.entry.named) formed.entry.queue)
        (omega (arith, inside_is v P before, inside_now p P r h none, room)))

pub read_give : (p : Plan) (P : List Step) (r t : Reading) (l q : ℕ) (w : Numbered) → IsRead p P r → to_come r ≡ []
    → IsOffer (view_in p r.ledger) l q w → view_in p t.ledger ≡ after_give (view_in p r.ledger) l q w.number → kinds_in t.ledger.waiting.items ≡ kinds_in r.ledger.waiting.items → t.due ≡ r.due → t.taken ≡ r.taken
    → t.inside ≡ r.inside → IsRead p (P ++ Give l q w.number ∷ []) t
read_give p P r t l q w h none offer view kinds due taken inside =
    let s : Step = Give l q w.number in
    read_alone p P s t (same_to_come r t due taken ∙ none)
    (subst (Stands (P ++ s ∷ [])) (sym view) (stands_give (view_in p r.ledger) P l q w (stands_now p P r h none) offer))
    (omega (arith, h.count, inside, count_by-push is_release P s, count_by-push is_new P s, count_by-push is_more P s))
    (numbers_same P s (nexts_in r.ledger.waiting.items) (nexts_in t.ledger.waiting.items) h.numbers (ap (λ (v : View). v.next) view)) (kinds ∙ h.kinds) (same_within r t due taken h.within)

pub read_turned : (p : Plan) (P : List Step) (r : Reading) (l : ℕ) (e : Event) → IsRead p P r → to_come r ≡ [] → IsTurnedAway p l e → r.ledger.shut ≡ true
    → IsRead p (P ++ Turned l e ∷ []) r
read_turned p P r l e h none formed shut =
    let s : Step = Turned l e in
    read_alone p P s r none
    (stands_turned (view_in p r.ledger) P l e (stands_now p P r h none) formed.lane formed.operation shut formed.queue)
    (omega (arith, h.count, count_by-push is_release P s, count_by-push is_new P s, count_by-push is_more P s))
    (numbers_stay P s (nexts_in r.ledger.waiting.items) h.numbers) h.kinds h.within

pub read_bounced : (p : Plan) (P : List Step) (r : Reading) (l : ℕ) → IsRead p P r → to_come r ≡ [] → l < lanes_of p → IsRead p (P ++ Bounced l ∷ []) r
read_bounced p P r l h none lane =
    let s : Step = Bounced l in
    read_alone p P s r none (stands_bounced (view_in p r.ledger) P l (stands_now p P r h none) lane)
    (omega (arith, h.count, count_by-push is_release P s, count_by-push is_new P s, count_by-push is_more P s))
    (numbers_stay P s (nexts_in r.ledger.waiting.items) h.numbers) h.kinds h.within

pub read_shut : (p : Plan) (P : List Step) (r t : Reading) → IsRead p P r → to_come r ≡ [] → r.ledger.shut ≡ false
    → view_in p t.ledger ≡ record (view_in p r.ledger) { shut = true } → kinds_in t.ledger.waiting.items ≡ kinds_in r.ledger.waiting.items → t.due ≡ r.due → t.taken ≡ r.taken → t.inside ≡ r.inside
    → IsRead p (P ++ Shut ∷ []) t
read_shut p P r t h none unshut view kinds due taken inside =
    read_alone p P Shut t (same_to_come r t due taken ∙ none)
    (subst (Stands (P ++ Shut ∷ [])) (sym view) (stands_shut (view_in p r.ledger) P unshut (stands_now p P r h none)))
    (omega (arith, h.count, inside, count_by-push is_release P Shut, count_by-push is_new P Shut, count_by-push is_more P Shut))
    (numbers_same P Shut (nexts_in r.ledger.waiting.items) (nexts_in t.ledger.waiting.items) h.numbers (ap (λ (v : View). v.next) view)) (kinds ∙ h.kinds) (same_within r t due taken h.within)

-- ---- what is due is of one queue

abbrev source_queue : Step → ℕ
source_queue (Accept q e (Of r n)) = r
source_queue s = 0

from_queue : (q n : ℕ) (es : List Event) → All (λ s. source_queue s ≡ q) (accepts_from q n es)
from_queue q n es = All-map (λ s. source_queue s ≡ q) (λ (e : Event). Accept e.queue e (Of q n)) es (λ k d lt. refl)

from_places : (q : ℕ) (xs : List Place) → All (λ s. source_queue s ≡ q) (flat_map (λ (x : Place). accepts_from q x.number x.forwards) xs)
from_places q [] = All-nil (λ s. source_queue s ≡ q)
from_places q (x ∷ xs) =
    All-append (λ s. source_queue s ≡ q) (accepts_from q x.number x.forwards) (flat_map (λ (y : Place). accepts_from q y.number y.forwards) xs)
    (from_queue q x.number x.forwards) (from_places q xs)

either : (P : Step → Type 0) (b : Bool) (xs ys : List Step) → All P xs → All P ys → All P (cond b xs ys)
either P true xs ys all other = all
either P false xs ys all other = other

few_from : (q n : ℕ) (es : List Event) → length es ≤ 1 → length (accepts_from q n es) ≤ 1
few_from q n es few = omega (arith, length-map es (λ (e : Event). Accept e.queue e (Of q n)), few)

of_one : (p : Plan) (q : ℕ) (ks : List KeptEvent) (D es : List Step) → map accept_of ks ≡ cond (is_ordered (queue_of p q).kind) D es
    → All (λ s. source_queue s ≡ q) D → All (λ s. source_queue s ≡ q) es → length es ≤ 1 → AreOfOne p ks
of_one p q ks D es is all other few = record {
  queue = q;
  same = All-unmap (λ s. source_queue s ≡ q) accept_of ks
      (subst (All (λ s. source_queue s ≡ q)) (sym is) (either (λ s. source_queue s ≡ q) (is_ordered (queue_of p q).kind) D es all other));
  one = λ plain.
      omega (arith, length-map ks accept_of, ap length (is ∙ cond-false (is_ordered (queue_of p q).kind) D es plain), few);
}

all_from : (ks : List KeptEvent) → All (λ s. is_from_of s ≡ true) (map accept_of ks)
all_from ks = All-map (λ s. is_from_of s ≡ true) accept_of ks (λ k d lt. refl)

-- the lane's oldest event
oldest_some : (v : View) (l : ℕ) → 0 < length (unanswered_at v l) → (h : Held) × (oldest_at v l ≡ Some h)
oldest_some v l some = slice_get-some (unanswered_at v l) 0 some

-- ---- steps that lead Accepts

pub read_done : (p : Plan) (P : List Step) (r t : Reading) (l : ℕ) (o : Outcome) → IsRead p P r → to_come r ≡ [] → l < lanes_of p → IsOutcome p o
    → 0 < length (row (rows r.ledger.unanswered.items) l) → view_in p t.ledger ≡ after_done (view_in p r.ledger) l o
    → kinds_in t.ledger.waiting.items ≡ kinds_in r.ledger.waiting.items
    → map accept_of t.due.items ≡ accepts_of (view_in p r.ledger) (oldest_at (view_in p r.ledger) l) o → t.taken ≡ 0
    → t.inside + cond (is_release (Done l o)) 1 0 ≡ r.inside → IsRead p (P ++ Done l o ∷ []) t
read_done p P r t l o h none lane formed some view kinds due taken inside =
    read_led p P s D t coming
    (subst (λ u. Stands (P ++ s ∷ D) (after u D)) (sym view) stands)
    (answer_led p P D l o formed (lawful_now p P r h none) (subst (All (λ u. is_from_of u ≡ true)) due (all_from t.due.items)) lawful)
    (omega (arith, h.count, inside, count_by-push is_release P s, count_by-push is_new P s, count_by-push is_more P s))
    (numbers_same P s (nexts_in r.ledger.waiting.items) (nexts_in t.ledger.waiting.items) h.numbers (ap (λ (u : View). u.next) view)) (kinds ∙ h.kinds) (omega (arith, taken))
    (subst (λ k. AreOfOne p (drop k t.due.items)) (sym taken) one)
  where
    s : Step
    s = Done l o

    v : View
    v = view_in p r.ledger

    D : List Step
    D = accepts_of v (oldest_at v l) o

    coming : to_come t ≡ D
    coming = ap (λ k. map accept_of (drop k t.due.items)) taken ∙ due

    stands : Stands (P ++ s ∷ D) (after (after_done v l o) D)
    stands = stands_answer v P l o (stands_now p P r h none) lane some formed

    lawful : Lawful p (P ++ s ∷ D)
    lawful = subst (λ q. Lawful q (P ++ s ∷ D)) (shape_after (after_done v l o) D) stands.lawful

    one : AreOfOne p t.due.items
    one =
        let held = oldest_some v l some in
        of_one p (held.0).queue t.due.items
        (flat_map (λ (x : Place). accepts_from (held.0).queue x.number x.forwards) (leaving (answered_places v (held.0).queue (held.0).number o)))
        (accepts_from (held.0).queue (held.0).number (events_of o)) (due ∙ ap (λ x. accepts_of v x o) held.1)
        (from_places (held.0).queue (leaving (answered_places v (held.0).queue (held.0).number o)))
        (from_queue (held.0).queue (held.0).number (events_of o)) (few_from (held.0).queue (held.0).number (events_of o) (events_few o))

pub read_more : (p : Plan) (P : List Step) (r t : Reading) (l : ℕ) (e : Event) → IsRead p P r → to_come r ≡ [] → l < lanes_of p → IsAddition p e
    → 0 < length (row (rows r.ledger.unanswered.items) l) → slice_index r.ledger.extras.items l < most_extras → r.inside < bound_of p
    → view_in p t.ledger ≡ after_more (view_in p r.ledger) l e
    → kinds_in t.ledger.waiting.items ≡ kinds_in r.ledger.waiting.items
    → map accept_of t.due.items ≡ added_of (view_in p r.ledger) (oldest_at (view_in p r.ledger) l) e → t.taken ≡ 0
    → t.inside ≡ r.inside + 1 → IsRead p (P ++ More l e ∷ []) t
read_more p P r t l e h none lane formed some few room view kinds due taken inside =
    read_led p P s D t coming
    (subst (λ u. Stands (P ++ s ∷ D) (after u D)) (sym view) stands)
    (more_led p P D l e formed (lawful_now p P r h none) (subst (All (λ u. is_from_of u ≡ true)) due (all_from t.due.items)) lawful)
    (omega (arith, h.count, inside, count_by-push is_release P s, count_by-push is_new P s, count_by-push is_more P s))
    (numbers_same P s (nexts_in r.ledger.waiting.items) (nexts_in t.ledger.waiting.items) h.numbers (ap (λ (u : View). u.next) view)) (kinds ∙ h.kinds) (omega (arith, taken))
    (subst (λ k. AreOfOne p (drop k t.due.items)) (sym taken) one)
  where
    s : Step
    s = More l e

    v : View
    v = view_in p r.ledger

    before : Stands P v
    before = stands_now p P r h none

    D : List Step
    D = added_of v (oldest_at v l) e

    coming : to_come t ≡ D
    coming = ap (λ k. map accept_of (drop k t.due.items)) taken ∙ due

    stands : Stands (P ++ s ∷ D) (after (after_more v l e) D)
    stands = stands_more v P l e before lane some few (omega (arith, inside_is v P before, inside_now p P r h none, room)) formed

    lawful : Lawful p (P ++ s ∷ D)
    lawful = subst (λ q. Lawful q (P ++ s ∷ D)) (shape_after (after_more v l e) D) stands.lawful

    one : AreOfOne p t.due.items
    one =
        let held = oldest_some v l some in
        of_one p (held.0).queue t.due.items [] (accepts_from (held.0).queue (held.0).number (e ∷ [])) (due ∙ ap (λ x. added_of v x e) held.1) (All-nil (λ u. source_queue u ≡ (held.0).queue))
        (from_queue (held.0).queue (held.0).number (e ∷ [])) (few_from (held.0).queue (held.0).number (e ∷ []) (omega arith))

-- ---- an Accept that had to follow

dropped : (ks : List KeptEvent) → map accept_of (drop 1 ks) ≡ drop 1 (map accept_of ks)
dropped [] = refl
dropped (k ∷ ks) = refl

of_rest : (p : Plan) (ks : List KeptEvent) → AreOfOne p ks → AreOfOne p (drop 1 ks)
of_rest p ks h = record {
  queue = h.queue;
  same = All-drop (λ (k : KeptEvent). k.queue ≡ h.queue) 1 ks h.same;
  one = λ plain. omega (arith, h.one plain, length-drop 1 ks);
}

pub read_passed : (p : Plan) (P : List Step) (r t : Reading) (q : ℕ) (e : Event) (i n : ℕ) → IsRead p P r → IsForwardEntry p q e i
    → IsNext (to_come r) (Accept e.queue e (Of i n)) → view_in p t.ledger ≡ after_accept (view_in p r.ledger) q e → kinds_in t.ledger.waiting.items ≡ kinds_in r.ledger.waiting.items → t.due ≡ r.due
    → t.taken ≡ r.taken + 1 → t.inside ≡ r.inside → IsRead p (P ++ Accept q e (Of i n) ∷ []) t
read_passed p P r t q e i n h formed next view kinds due taken inside =
    read_taken p P s next.0 r t h old new stands inside
    (omega (arith, count_by-push is_release P s)) (omega (arith, count_by-push is_new P s)) (omega (arith, count_by-push is_more P s))
    (numbers_rise p P s r.ledger t.ledger q e h.numbers view) (kinds ∙ h.kinds)
    (omega (arith, taken, ap (λ d. length d.items) due, h.within, ap length old, length-map (drop r.taken r.due.items) accept_of, length-drop r.taken r.due.items))
    (subst (AreOfOne p) (sym rest) (of_rest p (drop r.taken r.due.items) h.one))
  where
    s : Step
    s = Accept q e (Of i n)

    old : to_come r ≡ s ∷ next.0
    old = next.1 ∙ ap (λ k. Accept k e (Of i n) ∷ next.0) formed.entry.named

    rest : drop t.taken t.due.items ≡ drop 1 (drop r.taken r.due.items)
    rest = ap (λ k. drop k t.due.items) taken ∙ (ap (λ d. drop (r.taken + 1) d.items) due ∙ sym (drop-drop 1 r.taken r.due.items))

    new : to_come t ≡ next.0
    new = ap (map accept_of) rest ∙ (dropped (drop r.taken r.due.items) ∙ ap (drop 1) old)

    stands : Stands ((P ++ s ∷ []) ++ next.0) (after (view_in p t.ledger) next.0)
    stands =
        subst (λ T. Stands T (after (view_in p t.ledger) next.0)) (sym (append_assoc P (s ∷ []) next.0))
        (subst (λ u. Stands (P ++ s ∷ next.0) (after u next.0)) (sym view) (subst (λ D. Stands (P ++ D) (after (view_in p r.ledger) D)) old h.stands))
