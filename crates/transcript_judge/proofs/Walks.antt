-- Lists that are gone through: one item more.
use Rattle.std.proofs.Common.{◌≡◌, ◌≢◌, ℕ, zero, suc, ◌+◌, ◌-◌, ◌<◌, Bool, true, false, List, [], ◌∷◌, ◌++◌, length, map, take, drop, set, get_or, flat_map, replicate, Some, slice_get, slice_index, ⊎_elim, refl, sym, ap, ◌∙◌, subst, arith, append_assoc}
use Rattle.std.specs.List.{range_with_len}
use Rattle.std.proofs.lemmas.Bool.{cases_eq, cond-true}
use Rattle.std.proofs.lemmas.List.{length-drop, replicate_more, take_all}
use Rattle.std.proofs.lemmas.List.FromFn.{map-range_with_len_more}
use Rattle.evt_types.specs.Place.{Place}
use Rattle.evt_types.specs.Plan.{Plan, lanes_of, queue_of}
use Rattle.evt_types.specs.declared.draft.QueueDraft.{QueueDraft}
use Rattle.evt_types.specs.declared.event.Event.{Event}
use Rattle.evt_types.specs.declared.event.KeptEvent.{KeptEvent}
use Rattle.evt_types.specs.declared.step.Source.TheVariants.{Of}
use Rattle.evt_types.specs.declared.step.Step.{Step}
use Rattle.evt_types.specs.declared.step.Step.TheVariants.{Accept}
use Rattle.std.proofs.lemmas.List.Sums.{take_while-cons}
use Rattle.evt_types.specs.declared.event.Numbered.{Numbered}
use Rattle.transcripts.specs.Standing.{View, accepts_from, leaving, places, staying, view_of}
use Rattle.transcripts.specs.Transcript.{Held, accepted, extras, unanswered_slots, waiting}
use Rattle.transcripts.proofs.WholeViews.{accepted_at_none, extras_at_none, places_at_none, unanswered_at_none, waiting_at_none}
use Rattle.transcript_judge.specs.Ledger.{IsOldest, accept_of, row, rows, view_in}
use Rattle.transcript_judge.specs.Scans.{AreOtherSlots, IsNext}
use Rattle.transcript_judge.specs.Waiting.{events_in, kinds_in, nexts_in, no_waits}
use Rattle.transcript_judge.specs.declared.ledger.Ledger.{Ledger}

-- ---- items that are changed, one after the other

mapped_at_suc : {X : Type 0} (f : X → X) (orig : List X) (i : ℕ) (x : X) → i < length orig
    → x ≡ get_or (map f (take i orig) ++ drop i orig) i x
    → set (map f (take i orig) ++ drop i orig) i (f x) ≡ map f (take (suc i) orig) ++ drop (suc i) orig
mapped_at_suc f [] i x lt is = absurd (omega arith)
mapped_at_suc f (o ∷ os) zero x lt is = ap (λ y. f y ∷ os) is
mapped_at_suc f (o ∷ os) (suc i) x lt is = ap (λ ys. f o ∷ ys) (mapped_at_suc f os i x (omega arith) is)

pub mapped_more : {X : Type 0} (f : X → X) (orig items : List X) (i : ℕ) (x y : X) → i < length items → length items ≡ length orig
    → items ≡ map f (take i orig) ++ drop i orig → x ≡ get_or items i x → y ≡ f x
    → set items i y ≡ map f (take (i + 1) orig) ++ drop (i + 1) orig
mapped_more f orig items i x y lt same is at changed =
    let one : suc i ≡ i + 1 = omega arith in
    ap (set items i) changed
    ∙ (ap (λ zs. set zs i (f x)) is
    ∙ (mapped_at_suc f orig i x (omega (arith, lt, same)) (at ∙ ap (λ zs. get_or zs i x) is)
    ∙ ap (λ k. map f (take k orig) ++ drop k orig) one))

abbrev held_of : ℕ → ℕ → ℕ → Held
held_of q n slot = record { queue = q; number = n; slot = slot }

-- ---- the places at the front that are answered

leaving_first : (x : Place) (xs : List Place) → x.answered ≡ true → leaving (x ∷ xs) ≡ x ∷ leaving xs
leaving_first x xs answered =
    take_while-cons (λ (y : Place). y.answered) x xs ∙ cond-true x.answered (x ∷ leaving xs) [] answered

staying_first : (x : Place) (xs : List Place) → x.answered ≡ true → staying (x ∷ xs) ≡ staying xs
staying_first x xs answered = ap (λ ys. drop (length ys) (x ∷ xs)) (leaving_first x xs answered)

abbrev pub all_due : ℕ → List Place → List Step
all_due q xs = flat_map (λ (x : Place). accepts_from q x.number x.forwards) xs

-- the first place leaves
pub record LeftOne (q : ℕ) (xs ys : List Place) (D E : List Step) : Type 0 where
  pub stay : staying ys ≡ staying xs
  pub due : E ++ all_due q (leaving ys) ≡ D ++ all_due q (leaving xs)

pub left_one : (q : ℕ) (xs ys : List Place) (x y : Place) (D E : List Step) → 0 < length xs → x ≡ get_or xs 0 x → y ≡ get_or xs 0 y → ys ≡ drop 1 xs
    → y.answered ≡ true → E ≡ D ++ accepts_from q x.number x.forwards → LeftOne q xs ys D E
left_one q [] ys x y D E some at here rest answered more = absurd (omega arith)
left_one q (z ∷ zs) ys x y D E some at here rest answered more =
    let first : z.answered ≡ true = ap (λ (w : Place). w.answered) (sym here) ∙ answered in
    record {
      stay = ap staying rest ∙ sym (staying_first z zs first);
      due = ap (λ us. E ++ all_due q (leaving us)) rest ∙ (ap (λ us. us ++ all_due q (leaving zs)) (more ∙ ap (λ (w : Place). D ++ accepts_from q w.number w.forwards) at)
          ∙ (append_assoc D (accepts_from q z.number z.forwards) (all_due q (leaving zs)) ∙ ap (λ us. D ++ all_due q us) (sym (leaving_first z zs first))));
    }

-- ---- what is looked for

pub slots_more : (lists : List (List Held)) (l q slot i : ℕ) → ((m : ℕ) → m < i → m ≢ l → AreOtherSlots q slot (row lists m))
    → (i ≢ l → AreOtherSlots q slot (row lists i)) → (m : ℕ) → m < i + 1 → m ≢ l → AreOtherSlots q slot (row lists m)
slots_more lists l q slot i below here m lt differs =
    ⊎_elim (λ same. subst (λ k. AreOtherSlots q slot (row lists k)) (sym same) (here (λ e. differs (same ∙ e)))) (λ other. below m (omega (arith, lt, other)) differs)
    (cases_eq m i)

-- the first held event
pub oldest_is : (held : List Held) (h : Held) (q n : ℕ) → 0 < length held → h ≡ get_or held 0 h → q ≡ h.queue → n ≡ h.number → IsOldest held q n
oldest_is [] h q n some at queue number = absurd (omega arith)
oldest_is (x ∷ xs) h q n some at queue number = record {
  slot = h.slot;
  first = ap Some (sym at)
      ∙ (ap (λ k. Some (held_of k h.number h.slot)) (sym queue) ∙ ap (λ k. Some (held_of q k h.slot)) (sym number));
}

-- the first that is due
pub next_yes : (ks : List KeptEvent) (k : KeptEvent) (q n : ℕ) (e : Event) → 0 < length ks → k ≡ get_or ks 0 k → k.queue ≡ q → k.number ≡ n → k.event ≡ e
    → IsNext (map accept_of ks) (Accept e.queue e (Of q n))
next_yes [] k q n e some at queue number event = absurd (omega arith)
next_yes (j ∷ js) k q n e some at queue number event = (
  map accept_of js,
  ap (λ s. s ∷ map accept_of js)
      (ap accept_of (sym at) ∙ (ap (λ (d : Event). Accept d.queue d (Of k.queue k.number)) event
      ∙ (ap (λ x. Accept e.queue e (Of x k.number)) queue ∙ ap (λ x. Accept e.queue e (Of q x)) number))),
)

-- an item that is there
pub at_some : {X : Type 0} (xs : List X) (i : ℕ) (x : X) → i < length xs → x ≡ get_or xs i x → slice_get xs i ≡ Some x
at_some [] i x lt at = absurd (omega arith)
at_some (y ∷ ys) zero x lt at = ap Some (sym at)
at_some (y ∷ ys) (suc i) x lt at = at_some ys i x (omega arith) at

-- what a slice has from a place on
pub rest_slice : {X : Type 0} (k : ℕ) (xs : List X) → take (length xs - k) (drop k xs) ≡ drop k xs
rest_slice k xs = take_all (length xs - k) (drop k xs) (omega (arith, length-drop k xs))

-- a number that is there, whatever stands for one that isn't
pub number_at : (xs : List ℕ) (i d : ℕ) → i < length xs → get_or xs i d ≡ slice_index xs i
number_at [] i d lt = absurd (omega arith)
number_at (x ∷ xs) zero d lt = refl
number_at (x ∷ xs) (suc i) d lt = number_at xs i d (omega arith)

-- the queue's draft, whatever stands for one that isn't there
pub queue_is : (p : Plan) (q : ℕ) (qs : List QueueDraft) (d : QueueDraft) → qs ≡ p.queues → q < length p.queues → get_or qs q d ≡ queue_of p q
queue_is p q qs d is lt = ap (λ xs. get_or xs q d) is ∙ any_default p.queues q d _ lt
  where
    any_default : (xs : List QueueDraft) (i : ℕ) (c e : QueueDraft) → i < length xs → get_or xs i c ≡ get_or xs i e
    any_default [] i c e h = absurd (omega arith)
    any_default (x ∷ xs) zero c e h = refl
    any_default (x ∷ xs) (suc i) c e h = any_default xs i c e (omega arith)

-- ---- nothing is held yet

const_range : {X : Type 0} (f : ℕ → X) (x : X) → ((k : ℕ) → f k ≡ x) → (n : ℕ) → map f (range_with_len 0 n) ≡ replicate n x
const_range f x h zero = refl
const_range f x h (suc n) =
    let one : n + 1 ≡ suc n = omega arith in
    subst (λ k. map f (range_with_len 0 k) ≡ replicate k x) one
    (map-range_with_len_more f 0 n n (omega arith) ∙ (ap (λ xs. xs ++ f n ∷ []) (const_range f x h n) ∙ (ap (λ y. replicate n x ++ y ∷ []) (h n) ∙ replicate_more n x)))

same_view : (p : Plan) (w w' : List (List Numbered)) (n n' : List ℕ) (r r' : List (List Place)) (u u' : List (List Held)) (m m' : List ℕ)
    (b b' : Bool) → w ≡ w' → n ≡ n' → r ≡ r' → u ≡ u' → m ≡ m' → b ≡ b'
    → ◌≡◌ {A = View} (record { shape = p; waiting = w; next = n; places = r; unanswered = u; extras = m; shut = b })
    (record { shape = p; waiting = w'; next = n'; places = r'; unanswered = u'; extras = m'; shut = b' })
same_view p w w' n n' r r' u u' m m' b b' e f g h i j = cc

no_events : (qs : List QueueDraft) → events_in (map (λ (d : QueueDraft). no_waits d.kind) qs) ≡ replicate (length qs) []
no_events [] = refl
no_events (q ∷ qs) = ap (λ ws. [] ∷ ws) (no_events qs)

no_nexts : (qs : List QueueDraft) → nexts_in (map (λ (d : QueueDraft). no_waits d.kind) qs) ≡ replicate (length qs) 0
no_nexts [] = refl
no_nexts (q ∷ qs) = ap (λ ns. 0 ∷ ns) (no_nexts qs)

pub no_kinds : (qs : List QueueDraft) → kinds_in (map (λ (d : QueueDraft). no_waits d.kind) qs) ≡ map (λ (d : QueueDraft). d.kind) qs
no_kinds [] = refl
no_kinds (q ∷ qs) = ap (λ ks. q.kind ∷ ks) (no_kinds qs)

pub view_none : (p : Plan) (l : Ledger) → l.waiting.items ≡ map (λ (d : QueueDraft). no_waits d.kind) p.queues
    → rows l.places.items ≡ replicate (length p.queues) [] → rows l.unanswered.items ≡ replicate (lanes_of p) []
    → l.extras.items ≡ replicate (lanes_of p) 0 → l.shut ≡ false → view_in p l ≡ view_of p []
unfolding view_of
view_none p l waits none held added unshut =
    same_view p _ _ _ _ _ _ _ _ _ _ _ _
    (ap events_in waits ∙ (no_events p.queues ∙ sym (const_range (waiting []) [] waiting_at_none (length p.queues))))
    (ap nexts_in waits ∙ (no_nexts p.queues ∙ sym (const_range (λ q. length (accepted [] q)) 0 (λ q. ap length (accepted_at_none q)) (length p.queues))))
    (none ∙ sym (const_range (places p []) [] (places_at_none p) (length p.queues)))
    (held ∙ sym (const_range (unanswered_slots p []) [] (unanswered_at_none p) (lanes_of p)))
    (added ∙ sym (const_range (λ l. length (extras [] l)) 0 (λ l. ap length (extras_at_none l)) (lanes_of p)))
    unshut
