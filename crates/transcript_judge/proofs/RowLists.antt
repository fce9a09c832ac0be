-- Lists that stand in a list.
use Rattle.std.proofs.Common.{◌≡◌, ℕ, zero, suc, ◌+◌, ◌<◌, false, List, [], ◌∷◌, ◌++◌, length, map, drop, set, get_or, slice_index, replicate, All, refl, sym, ap, ◌∙◌, subst, arith, vec_len}
use Rattle.std.proofs.lemmas.List.{length-map, map-append, map-set, replicate_more}
use Rattle.std.specs.declared.alloc.Global.{Global}
use Rattle.std.specs.declared.vec.Vec.{Vec}
use Rattle.evt_types.specs.Plan.{Plan, queue_of}
use Rattle.evt_types.specs.declared.draft.QueueDraft.{QueueDraft}
use Rattle.evt_types.specs.declared.event.Event.{Event}
use Rattle.evt_types.specs.declared.event.Numbered.{Numbered}
use Rattle.transcript_judge.proofs.Rising.{others}
use Rattle.transcript_judge.specs.Ledger.{row, rows}
use Rattle.transcript_judge.specs.Scans.{LetsPass}
use Rattle.transcript_judge.specs.Waiting.{KeepsApart, Waits, events_in, keeps_by, kinds_in, kinds_of, nexts_in, with_event, without}
use Rattle.transcript_judge.specs.declared.ledger.Ledger.{Ledger}

-- one list is written
pub rows_set : {X : Type 0} (lists : List (Vec X Global)) (n : ℕ) (list : Vec X Global) → rows (set lists n list) ≡ set (rows lists) n list.items
rows_set {X} lists n list = map-set (λ (v : Vec X Global). v.items) lists n list

pub length-rows : {X : Type 0} (lists : List (Vec X Global)) → length (rows lists) ≡ length lists
length-rows {X} lists = length-map lists (λ (v : Vec X Global). v.items)

-- an empty list more
pub rows_none_more : {X : Type 0} (old new : List (Vec X Global)) (list : Vec X Global) (n : ℕ) → new ≡ old ++ list ∷ [] → list.items ≡ [] → rows old ≡ replicate n []
    → rows new ≡ replicate (n + 1) []
rows_none_more {X} old new list n is none all =
    ap rows is ∙ (map-append (λ (v : Vec X Global). v.items) old (list ∷ []) ∙ (ap (λ (ls : List (List X)). ls ++ list.items ∷ []) all
    ∙ (ap (λ (xs : List X). replicate n [] ++ xs ∷ []) none ∙ replicate_more n [])))

-- the list at a place that is there
pub row_is : {X : Type 0} (lists : List (Vec X Global)) (n : ℕ) (d : Vec X Global) → n < length lists → row (rows lists) n ≡ (get_or lists n d).items
row_is [] n d h = absurd (omega arith)
row_is (v ∷ vs) zero d h = refl
row_is (v ∷ vs) (suc n) d h = row_is vs n d (omega arith)

-- a list that was looked up
pub row_now : {X : Type 0} (lists : List (Vec X Global)) (n : ℕ) (list : Vec X Global) → n < length lists → list ≡ get_or lists n list
    → row (rows lists) n ≡ list.items
row_now {X} lists n list h at = row_is lists n list h ∙ ap (λ (v : Vec X Global). v.items) (sym at)

pub row_len : {X : Type 0} (lists : List (Vec X Global)) (n : ℕ) (list : Vec X Global) → n < length lists → list ≡ get_or lists n list
    → vec_len list ≡ length (row (rows lists) n)
row_len lists n list h at = omega (arith, list.ok, ap length (row_now lists n list h at))

-- ---- what waits in each queue

abbrev event_of : ℕ → Event → Numbered
event_of n e = record { number = n; event = e }

waits_at : (ws : List Waits) (n : ℕ) (d : Waits) → n < length ws → row (events_in ws) n ≡ (get_or ws n d).events
waits_at [] n d h = absurd (omega arith)
waits_at (w ∷ ws) zero d h = refl
waits_at (w ∷ ws) (suc n) d h = waits_at ws n d (omega arith)

pub waits_now : (ws : List Waits) (n : ℕ) (w : Waits) → n < length ws → w ≡ get_or ws n w → row (events_in ws) n ≡ w.events
waits_now ws n w h at = waits_at ws n w h ∙ ap (λ (v : Waits). v.events) (sym at)

next_at : (ws : List Waits) (n : ℕ) (d : Waits) → n < length ws → slice_index (nexts_in ws) n ≡ (get_or ws n d).next
next_at [] n d h = absurd (omega arith)
next_at (w ∷ ws) zero d h = refl
next_at (w ∷ ws) (suc n) d h = next_at ws n d (omega arith)

pub next_now : (ws : List Waits) (n : ℕ) (w : Waits) → n < length ws → w ≡ get_or ws n w → slice_index (nexts_in ws) n ≡ w.next
next_now ws n w h at = next_at ws n w h ∙ ap (λ (v : Waits). v.next) (sym at)

-- one is written, of the same kind or of the same next number
pub kinds_set : (ws : List Waits) (n : ℕ) (v w : Waits) → n < length ws → w ≡ get_or ws n w → v.kind ≡ w.kind → kinds_in (set ws n v) ≡ kinds_in ws
kinds_set [] n v w h at same = refl
kinds_set (u ∷ us) zero v w h at same = ap (λ k. k ∷ kinds_in us) (same ∙ ap (λ (x : Waits). x.kind) at)
kinds_set (u ∷ us) (suc n) v w h at same = ap (λ ks. u.kind ∷ ks) (kinds_set us n v w (omega arith) at same)

pub nexts_set : (ws : List Waits) (n : ℕ) (v w : Waits) → n < length ws → w ≡ get_or ws n w → v.next ≡ w.next → nexts_in (set ws n v) ≡ nexts_in ws
nexts_set [] n v w h at same = refl
nexts_set (u ∷ us) zero v w h at same = ap (λ k. k ∷ nexts_in us) (same ∙ ap (λ (x : Waits). x.next) at)
nexts_set (u ∷ us) (suc n) v w h at same = ap (λ ks. u.next ∷ ks) (nexts_set us n v w (omega arith) at same)

-- the event waits in one queue, or leaves it
pub accepted_events : (ws : List Waits) (q : ℕ) (v w : Waits) (e : Event) → q < length ws → w ≡ get_or ws q w → v ≡ with_event w e
    → events_in (set ws q v) ≡ set (events_in ws) q (row (events_in ws) q ++ record { number = slice_index (nexts_in ws) q; event = e } ∷ [])
accepted_events ws q v w e h at is =
    map-set (λ (x : Waits). x.events) ws q v
    ∙ ap (set (events_in ws) q) (ap (λ (x : Waits). x.events) is ∙ (ap (λ es. es ++ event_of w.next e ∷ []) (sym (waits_now ws q w h at))
    ∙ ap (λ n. row (events_in ws) q ++ event_of n e ∷ []) (sym (next_now ws q w h at))))

pub accepted_nexts : (ws : List Waits) (q : ℕ) (v w : Waits) (e : Event) → q < length ws → w ≡ get_or ws q w → v ≡ with_event w e
    → nexts_in (set ws q v) ≡ set (nexts_in ws) q (slice_index (nexts_in ws) q + 1)
accepted_nexts ws q v w e h at is =
    map-set (λ (x : Waits). x.next) ws q v
    ∙ ap (set (nexts_in ws) q) (ap (λ (x : Waits). x.next) is ∙ ap (λ n. n + 1) (sym (next_now ws q w h at)))

pub taken_events : (ws : List Waits) (q : ℕ) (v w : Waits) (n : ℕ) → q < length ws → w ≡ get_or ws q w → v ≡ without w n
    → events_in (set ws q v) ≡ set (events_in ws) q (others n (row (events_in ws) q))
taken_events ws q v w n h at is =
    map-set (λ (x : Waits). x.events) ws q v
    ∙ ap (set (events_in ws) q) (ap (λ (x : Waits). x.events) is ∙ ap (others n) (sym (waits_now ws q w h at)))

kind_at : (ws : List Waits) (qs : List QueueDraft) (n : ℕ) (d : Waits) (e : QueueDraft) → n < length ws → kinds_in ws ≡ map (λ (q : QueueDraft). q.kind) qs
    → (get_or ws n d).kind ≡ (get_or qs n e).kind
kind_at [] qs n d e h same = absurd (omega arith)
kind_at (w ∷ ws) [] n d e h same = cc
kind_at (w ∷ ws) (q ∷ qs) zero d e h same = ap (λ ks. get_or ks 0 w.kind) same
kind_at (w ∷ ws) (q ∷ qs) (suc n) d e h same = kind_at ws qs n d e (omega arith) (ap (drop 1) same)

kind_now : (p : Plan) (l : Ledger) (q : ℕ) (w : Waits) → length l.waiting.items ≡ length p.queues → kinds_in l.waiting.items ≡ kinds_of p
    → q < length p.queues → w ≡ get_or l.waiting.items q w → w.kind ≡ (queue_of p q).kind
kind_now p l q w sized kinds there at = ap (λ (v : Waits). v.kind) at ∙ kind_at l.waiting.items p.queues q w _ (omega (arith, sized, there)) kinds

-- whether an event overtakes none, by what waits in its queue
pub apart_out : (p : Plan) (l : Ledger) (q : ℕ) (w : Waits) (n : ℕ) (e : Event) → length l.waiting.items ≡ length p.queues
    → kinds_in l.waiting.items ≡ kinds_of p → q < length p.queues → w ≡ get_or l.waiting.items q w → KeepsApart w n e
    → LetsPass p q (row (events_in l.waiting.items) q) n e
apart_out p l q w n e sized kinds there at apart =
    subst (λ ws. LetsPass p q ws n e) (sym (waits_now l.waiting.items q w (omega (arith, sized, there)) at))
    (subst (λ k. All (λ (v : Numbered). v.number < n → keeps_by k v.event e ≡ false) w.events) (kind_now p l q w sized kinds there at) apart)

pub apart_in : (p : Plan) (l : Ledger) (q : ℕ) (w : Waits) (n : ℕ) (e : Event) → length l.waiting.items ≡ length p.queues
    → kinds_in l.waiting.items ≡ kinds_of p → q < length p.queues → w ≡ get_or l.waiting.items q w
    → LetsPass p q (row (events_in l.waiting.items) q) n e → KeepsApart w n e
apart_in p l q w n e sized kinds there at lets =
    subst (λ k. All (λ (v : Numbered). v.number < n → keeps_by k v.event e ≡ false) w.events) (sym (kind_now p l q w sized kinds there at))
    (subst (λ ws. LetsPass p q ws n e) (waits_now l.waiting.items q w (omega (arith, sized, there)) at) lets)
