-- Tables of counts: at no step, where one place changes, and where none does.
use Rattle.std.proofs.Common.{◌≡◌, ◌≢◌, ℕ, ◌<◌, ◌≤◌, List, [], ◌∷◌, ◌++◌, length, slice_set, replicate, Option, Some, None, ⊎_elim, refl, sym, ap, ◌∙◌, arith}
use Rattle.std.proofs.lemmas.Bool.{cases_eq}
use Rattle.std.proofs.lemmas.List.{get_or-replicate, get_or-set_other, length-set, length-replicate}
use Rattle.std.proofs.lemmas.Grind.{get_or-set_at}
use Rattle.std.proofs.lemmas.Option.{same_Some, none-some}
use Rattle.evt_types.specs.declared.shape.TheConstants.{MAX_LANES, MAX_PORTS, MAX_QUEUES}
use Rattle.evt_types.specs.declared.step.Step.{Step}
use Rattle.transcripts.specs.Transcript.{hand, out, answers}
use Rattle.step_tally.specs.Counts.{new_to, passed_to, given_to, new_on, released_by, forwarded_by, added_by, turned_on, bounced_on, lane_counts}
use Rattle.step_tally.specs.Tables.{AreCounts, AreTables, given_row, queue_row}
use Rattle.step_tally.specs.declared.counts.LaneCounts.{LaneCounts}
use Rattle.step_tally.specs.declared.counts.QueueCounts.{QueueCounts}
use Rattle.step_tally.specs.declared.tables.QueueRow.{QueueRow}
use Rattle.step_tally.proofs.Pushes.{same_queue, same_lane, same_row}

pub AreCounts-same : {X : Type 0} (f g : ℕ → X) (table : List X) → AreCounts f table → ((k : ℕ) → k < length table → g k ≡ f k) → AreCounts g table
AreCounts-same f g table h same = λ k d lt. h k d lt ∙ sym (same k lt)

pub AreCounts-set : {X : Type 0} (f g : ℕ → X) (table : List X) (q : ℕ) (x : X) → AreCounts f table → x ≡ g q → ((k : ℕ) → k ≢ q → g k ≡ f k)
    → AreCounts g (slice_set table q x)
AreCounts-set f g table q x h here same = λ k d lt. ⊎_elim
    (λ e. get_or-set_at table q k x d e (omega (arith, length-set table q x)) ∙ (here ∙ ap g (sym e)))
    (λ other. get_or-set_other table q k x d other ∙ (h k d (omega (arith, length-set table q x)) ∙ sym (same k other)))
    (cases_eq k q)

-- One step more, which is counted at one number at most: the table has that number, or lacks it, or there is none.
module _ {X : Type 0} (counts : List Step → ℕ → X) (counted_at : Step → Option ℕ) (T : List Step) (s : Step)
    (others : (k : ℕ) → counted_at s ≢ Some k → counts (T ++ s ∷ []) k ≡ counts T k) (table : List X) (h : AreCounts (counts T) table) where
  pub AreCounts-there : (q : ℕ) (x : X) → counted_at s ≡ Some q → x ≡ counts (T ++ s ∷ []) q → AreCounts (counts (T ++ s ∷ [])) (slice_set table q x)
  AreCounts-there q x told here = AreCounts-set (counts T) (counts (T ++ s ∷ [])) table q x h here (λ k other. others k (λ e. other (same_Some _ _ (sym e ∙ told))))

  pub AreCounts-beyond : (q : ℕ) → counted_at s ≡ Some q → length table ≤ q → AreCounts (counts (T ++ s ∷ [])) table
  AreCounts-beyond q told beyond =
      AreCounts-same (counts T) (counts (T ++ s ∷ [])) table h (λ k lt. others k (λ e. let same : k ≡ q = same_Some _ _ (sym e ∙ told) in omega arith))

  pub AreCounts-nowhere : counted_at s ≡ None → AreCounts (counts (T ++ s ∷ [])) table
  AreCounts-nowhere told = AreCounts-same (counts T) (counts (T ++ s ∷ [])) table h (λ k lt. others k (λ e. none-some k (sym told ∙ e)))

AreCounts-replicate : {X : Type 0} (f : ℕ → X) (n : ℕ) (x : X) → ((k : ℕ) → f k ≡ x) → AreCounts f (replicate n x)
AreCounts-replicate f n x all = λ k d lt. get_or-replicate n k x d (omega (arith, length-replicate n x)) ∙ sym (all k)

-- ---- at no step

given_none : (q : ℕ) → given_row [] q ≡ replicate MAX_PORTS 0
unfolding given_to
given_none q = refl

-- a row of which nothing is counted
abbrev pub zero_row : QueueCounts → QueueRow
zero_row x = record { counts = x; given = replicate MAX_PORTS 0 }

queue_none : (x : QueueCounts) → (x.rx_new ≡ 0) × ((x.rx_forwarded ≡ 0) × (x.tx ≡ 0)) → (q : ℕ) → queue_row [] q ≡ zero_row x
unfolding new_to passed_to hand
queue_none x h q = same_row (same_queue (sym h.0) (sym h.1.0) (sym h.1.1)) (given_none q)

lane_none : (x : LaneCounts)
    → (x.rx_new ≡ 0) × ((x.tx ≡ 0) × ((x.released ≡ 0) × ((x.forwarded ≡ 0) × ((x.added ≡ 0) × ((x.turned ≡ 0) × (x.bounced ≡ 0)))))) → (l : ℕ)
    → lane_counts [] l ≡ x
unfolding new_on released_by forwarded_by added_by turned_on bounced_on out answers
lane_none x h l = same_lane (sym h.0) (sym h.1.0) (sym h.1.1.0) (sym h.1.1.1.0) (sym h.1.1.1.1.0) (sym h.1.1.1.1.1.0) (sym h.1.1.1.1.1.1)

-- tables of zeros are those of no step
pub AreTables-none : (x : QueueCounts) (y : LaneCounts) → (x.rx_new ≡ 0) × ((x.rx_forwarded ≡ 0) × (x.tx ≡ 0))
    → (y.rx_new ≡ 0) × ((y.tx ≡ 0) × ((y.released ≡ 0) × ((y.forwarded ≡ 0) × ((y.added ≡ 0) × ((y.turned ≡ 0) × (y.bounced ≡ 0))))))
    → AreTables [] (replicate MAX_QUEUES (zero_row x)) (replicate MAX_LANES y)
AreTables-none x y h k = record {
  all_queues = length-replicate MAX_QUEUES (zero_row x);
  all_lanes = length-replicate MAX_LANES y;
  queues = AreCounts-replicate (queue_row []) MAX_QUEUES (zero_row x) (queue_none x h);
  lanes = AreCounts-replicate (lane_counts []) MAX_LANES y (lane_none y k);
}
