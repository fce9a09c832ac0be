-- What a row of gifts of one queue to one lane makes of the counts: those of the queue and of the lane are as many more, the others stay.
use Rattle.std.proofs.Common.{◌≡◌, ◌≢◌, ℕ, ◌+◌, ◌≤◌, List, [], ◌∷◌, ◌++◌, length, slice_index, slice_set, refl, sym, ap, ◌∙◌, subst, ⊎_elim, arith}
use Rattle.std.proofs.lemmas.Bool.{cases_lt}
use Rattle.std.proofs.lemmas.Grind.{get_or-set_at}
use Rattle.std.proofs.lemmas.List.{append-nil, append_assoc, set-get_or, set-set, set_past}
use Rattle.std.proofs.lemmas.Option.{same_Some}
use Rattle.evt_types.specs.declared.event.Delivery.{Delivery}
use Rattle.evt_types.specs.declared.step.Step.{Step}
use Rattle.evt_types.specs.declared.step.Step.TheVariants.{Give}
use Rattle.step_log.specs.Gives.{give_of, gives_of}
use Rattle.step_tally.specs.Counts.{lane_counts}
use Rattle.step_tally.specs.Tables.{AreCounts, queue_row, row_after, row_given}
use Rattle.step_tally.specs.declared.counts.LaneCounts.{LaneCounts}
use Rattle.step_tally.specs.declared.tables.QueueRow.{QueueRow}
use Rattle.step_tally.proofs.Entries.{AreCounts-same, AreCounts-set}
use Rattle.step_tally.proofs.Pushes.{lane_counts-other, lane_counts-same, queue_row-other, queue_row-same, same_lane, same_queue, same_row}

-- ---- rows of queues

-- one place, raised twice
raised : (xs : List ℕ) (i n : ℕ) → slice_set (slice_set xs i (slice_index xs i + 1)) i (slice_index (slice_set xs i (slice_index xs i + 1)) i + n) ≡ slice_set xs i (slice_index xs i + (n + 1))
raised xs i n =
    ⊎_elim
    (λ lt. set-set xs i _ _ ∙ ap (slice_set xs i) (omega (arith, get_or-set_at xs i i (slice_index xs i + 1) 0 refl lt)))
    (λ le. set_past (slice_set xs i _) i _ (subst (λ ys. length ys ≤ i) (sym (set_past xs i _ le)) le) ∙ (set_past xs i _ le ∙ sym (set_past xs i _ le)))
    (cases_lt i (length xs))

given_more : (r : QueueRow) (l q n m : ℕ) → row_given (row_after r (Give l q n)) l m ≡ row_given r l (m + 1)
given_more r l q n m = same_row (same_queue refl refl (omega arith)) (raised r.given l m)

given_none : (r : QueueRow) (l : ℕ) → row_given r l 0 ≡ r
given_none r l = same_row (same_queue refl refl (omega arith)) (ap (slice_set r.given l) (omega arith) ∙ set-get_or r.given l 0)

pub queue_row-gives : (T : List Step) (l q : ℕ) (ds : List Delivery) → queue_row (T ++ gives_of l q ds) q ≡ row_given (queue_row T q) l (length ds)
queue_row-gives T l q [] = ap (λ U. queue_row U q) (append-nil T) ∙ sym (given_none (queue_row T q) l)
queue_row-gives T l q (d ∷ ds) =
    ap (λ U. queue_row U q) (sym (append_assoc T (give_of l q d ∷ []) (gives_of l q ds)))
    ∙ (queue_row-gives (T ++ give_of l q d ∷ []) l q ds
    ∙ (ap (λ r. row_given r l (length ds)) (queue_row-same T (give_of l q d) q refl)
    ∙ (given_more (queue_row T q) l q d.number (length ds) ∙ ap (row_given (queue_row T q) l) (omega arith))))

-- what no single Give changes, a row of them leaves
unchanged_by_gives : {X : Type 0} (f : List Step → ℕ → X) (T : List Step) (l q k : ℕ) (ds : List Delivery)
    → ((U : List Step) (d : Delivery) → f (U ++ give_of l q d ∷ []) k ≡ f U k) → f (T ++ gives_of l q ds) k ≡ f T k
unchanged_by_gives f T l q k [] each = ap (λ U. f U k) (append-nil T)
unchanged_by_gives f T l q k (d ∷ ds) each =
    ap (λ U. f U k) (sym (append_assoc T (give_of l q d ∷ []) (gives_of l q ds)))
    ∙ (unchanged_by_gives f (T ++ give_of l q d ∷ []) l q k ds each ∙ each T d)

queue_row-gives_other : (T : List Step) (l q k : ℕ) (ds : List Delivery) → k ≢ q → queue_row (T ++ gives_of l q ds) k ≡ queue_row T k
queue_row-gives_other T l q k ds other =
    unchanged_by_gives queue_row T l q k ds (λ U d. queue_row-other U (give_of l q d) k (λ e. other (sym (same_Some q k e))))

pub queues_there : (T : List Step) (l q : ℕ) (ds : List Delivery) (table : List QueueRow) (x : QueueRow) → AreCounts (queue_row T) table → x ≡ row_given (queue_row T q) l (length ds)
    → AreCounts (queue_row (T ++ gives_of l q ds)) (slice_set table q x)
queues_there T l q ds table x h is =
    AreCounts-set (queue_row T) (queue_row (T ++ gives_of l q ds)) table q x h (is ∙ sym (queue_row-gives T l q ds)) (λ k other. queue_row-gives_other T l q k ds other)

pub queues_beyond : (T : List Step) (l q : ℕ) (ds : List Delivery) (table : List QueueRow) → AreCounts (queue_row T) table → length table ≤ q → AreCounts (queue_row (T ++ gives_of l q ds)) table
queues_beyond T l q ds table h beyond =
    AreCounts-same (queue_row T) (queue_row (T ++ gives_of l q ds)) table h (λ k lt. queue_row-gives_other T l q k ds (λ e. absurd (let same : k ≡ q = e in omega arith)))

-- ---- lanes

lane_counts-gives : (T : List Step) (l q : ℕ) (ds : List Delivery) → lane_counts (T ++ gives_of l q ds) l ≡ record (lane_counts T l) { tx = (lane_counts T l).tx + length ds }
lane_counts-gives T l q [] = ap (λ U. lane_counts U l) (append-nil T) ∙ same_lane refl (omega arith) refl refl refl refl refl
lane_counts-gives T l q (d ∷ ds) =
    ap (λ U. lane_counts U l) (sym (append_assoc T (give_of l q d ∷ []) (gives_of l q ds)))
    ∙ (lane_counts-gives (T ++ give_of l q d ∷ []) l q ds
    ∙ (ap (λ (c : LaneCounts). record c { tx = c.tx + length ds }) (lane_counts-same T (give_of l q d) l refl)
    ∙ same_lane refl (omega arith) refl refl refl refl refl))

lane_counts-gives_other : (T : List Step) (l q k : ℕ) (ds : List Delivery) → k ≢ l → lane_counts (T ++ gives_of l q ds) k ≡ lane_counts T k
lane_counts-gives_other T l q k ds other =
    unchanged_by_gives lane_counts T l q k ds (λ U d. lane_counts-other U (give_of l q d) k (λ e. other (sym (same_Some l k e))))

pub lanes_beyond : (T : List Step) (l q : ℕ) (ds : List Delivery) (table : List LaneCounts) → AreCounts (lane_counts T) table → length table ≤ l → AreCounts (lane_counts (T ++ gives_of l q ds)) table
lanes_beyond T l q ds table h beyond =
    AreCounts-same (lane_counts T) (lane_counts (T ++ gives_of l q ds)) table h (λ k lt. lane_counts-gives_other T l q k ds (λ e. absurd (let same : k ≡ l = e in omega arith)))

pub lanes_there : (T : List Step) (l q : ℕ) (ds : List Delivery) (table : List LaneCounts) (x : LaneCounts) → AreCounts (lane_counts T) table → x ≡ record (lane_counts T l) { tx = (lane_counts T l).tx + length ds }
    → AreCounts (lane_counts (T ++ gives_of l q ds)) (slice_set table l x)
lanes_there T l q ds table x h is =
    AreCounts-set (lane_counts T) (lane_counts (T ++ gives_of l q ds)) table l x h (is ∙ sym (lane_counts-gives T l q ds)) (λ k other. lane_counts-gives_other T l q k ds other)
