-- What a deal makes of the counts: its queue gave as many events more, and each of its lanes was given one more at each of its places.
use Rattle.std.proofs.Common.{◌≡◌, ◌≢◌, ℕ, ◌+◌, ◌<◌, ◌≤◌, List, [], ◌∷◌, ◌++◌, length, get_or, take, slice_index, slice_set, sym, ap, ◌∙◌, refl, subst, append-nil, append_assoc, length-append, arith}
use Rattle.std.proofs.lemmas.List.{get_or_default, length-take, set_past, take_all}
use Rattle.std.proofs.lemmas.List.Sums.{count_by-le-length}
use Rattle.std.proofs.lemmas.Option.{same_Some}
use Rattle.evt_types.specs.declared.event.Delivery.{Delivery}
use Rattle.evt_types.specs.declared.shape.TheConstants.{MAX_PORTS}
use Rattle.evt_types.specs.declared.step.Step.{Step}
use Rattle.step_log.proofs.Deals.{deal_behind}
use Rattle.step_log.specs.Gives.{deals_of, give_of}
use Rattle.transcripts.specs.Transcript.{given_to as pair_of, out}
use Rattle.step_tally.specs.Counts.{given_to, is_given_to, lane_counts, queue_counts}
use Rattle.step_tally.specs.Tables.{AreCounts, given_row, lane_in, queue_row}
use Rattle.step_tally.specs.declared.counts.LaneCounts.{LaneCounts}
use Rattle.step_tally.specs.declared.counts.QueueCounts.{QueueCounts}
use Rattle.step_tally.specs.declared.tables.QueueRow.{QueueRow}
use Rattle.step_tally.proofs.Entries.{AreCounts-beyond, AreCounts-same, AreCounts-set, AreCounts-there}
use Rattle.step_tally.proofs.Pushes.{filter_map_few, given_row-at, given_row-gives, given_row-length, lane_counts-other, lane_counts-same, queue_row-other, queue_row-same, same_queue, same_row}

-- ---- the steps, and then those of the first events of the deal

abbrev pub dealt : List Step → ℕ → List Delivery → List ℕ → ℕ → List Step
dealt T q ds ls i = T ++ deals_of q (take i ds) (take i ls)

dealt_all : (T : List Step) (q : ℕ) (ds : List Delivery) (ls : List ℕ) (i : ℕ) → length ls ≡ length ds → length ls ≤ i → dealt T q ds ls i ≡ T ++ deals_of q ds ls
dealt_all T q ds ls i same all =
    ap (λ es. T ++ deals_of q es (take i ls)) (take_all i ds (omega (arith, same, all))) ∙ ap (λ ms. T ++ deals_of q ds ms) (take_all i ls all)

-- one event more
one_dealt : (T : List Step) (q : ℕ) (ds : List Delivery) (ls : List ℕ) (i : ℕ) → length ls ≡ length ds → i < length ls
    → (d : Delivery) × (dealt T q ds ls (i + 1) ≡ dealt T q ds ls i ++ give_of (slice_index ls i) q d ∷ [])
one_dealt T q [] ls i same lt = absurd (omega (arith, same, lt))
one_dealt T q (e ∷ ds) ls i same lt =
    let within : i < length (e ∷ ds) = omega (arith, same, lt) in
    let d : Delivery = get_or (e ∷ ds) i e in
    let l : ℕ = slice_index ls i in
    (d, deal_behind q (e ∷ ds) ls i l d T within lt (get_or_default (e ∷ ds) i e d within) (get_or_default ls i 0 l lt))

deals_few : (q : ℕ) (ds : List Delivery) (ls : List ℕ) → length (deals_of q ds ls) ≤ length ls
deals_few q [] ls = omega arith
deals_few q (d ∷ ds) [] = omega arith
deals_few q (d ∷ ds) (l ∷ ls) = omega (arith, deals_few q ds ls)

dealt_few : (T : List Step) (q : ℕ) (ds : List Delivery) (ls : List ℕ) (i : ℕ) → length (dealt T q ds ls i) ≤ length T + i
dealt_few T q ds ls i =
    omega (arith, length-append T (deals_of q (take i ds) (take i ls)), deals_few q (take i ds) (take i ls), length-take i ls)

-- ---- the queue

abbrev counts_given : QueueCounts → ℕ → QueueCounts
counts_given c n = record c { tx = c.tx + n }

queue_counts-deals : (T : List Step) (q : ℕ) (ds : List Delivery) (ls : List ℕ) → length ls ≡ length ds → queue_counts (T ++ deals_of q ds ls) q ≡ counts_given (queue_counts T q) (length ls)
queue_counts-deals T q [] [] same = ap (λ U. queue_counts U q) (append-nil T) ∙ same_queue refl refl (omega arith)
queue_counts-deals T q [] (l ∷ ls) same = absurd (omega (arith, same))
queue_counts-deals T q (d ∷ ds) [] same = absurd (omega (arith, same))
queue_counts-deals T q (d ∷ ds) (l ∷ ls) same =
    ap (λ U. queue_counts U q) (sym (append_assoc T (give_of l q d ∷ []) (deals_of q ds ls)))
    ∙ (queue_counts-deals (T ++ give_of l q d ∷ []) q ds ls (omega (arith, same))
    ∙ (ap (λ (r : QueueRow). counts_given r.counts (length ls)) (queue_row-same T (give_of l q d) q refl) ∙ same_queue refl refl (omega arith)))

queue_row-deals_other : (T : List Step) (q k : ℕ) (ds : List Delivery) (ls : List ℕ) → k ≢ q → queue_row (T ++ deals_of q ds ls) k ≡ queue_row T k
queue_row-deals_other T q k [] ls other = ap (λ U. queue_row U k) (append-nil T)
queue_row-deals_other T q k (d ∷ ds) [] other = ap (λ U. queue_row U k) (append-nil T)
queue_row-deals_other T q k (d ∷ ds) (l ∷ ls) other =
    ap (λ U. queue_row U k) (sym (append_assoc T (give_of l q d ∷ []) (deals_of q ds ls)))
    ∙ (queue_row-deals_other (T ++ give_of l q d ∷ []) q k ds ls other ∙ queue_row-other T (give_of l q d) k (λ e. other (sym (same_Some q k e))))

module _ (T : List Step) (q : ℕ) (ds : List Delivery) (ls : List ℕ) (table : List QueueRow) (h : AreCounts (queue_row T) table) where
  pub queues_dealt : (x : QueueRow) → x ≡ queue_row (T ++ deals_of q ds ls) q → AreCounts (queue_row (T ++ deals_of q ds ls)) (slice_set table q x)
  queues_dealt x is = AreCounts-set (queue_row T) (queue_row (T ++ deals_of q ds ls)) table q x h is (λ k other. queue_row-deals_other T q k ds ls other)

  pub queues_missed : length table ≤ q → AreCounts (queue_row (T ++ deals_of q ds ls)) table
  queues_missed beyond = AreCounts-same (queue_row T) (queue_row (T ++ deals_of q ds ls)) table h (λ k lt. queue_row-deals_other T q k ds ls (λ e. absurd (let same : k ≡ q = e in omega arith)))

-- ---- the queue's row, where all of the deal is counted of the queue, and its first events of the lanes

abbrev pub row_dealt : List Step → ℕ → List Delivery → List ℕ → ℕ → QueueRow
row_dealt T q ds ls i = record { counts = counts_given (queue_counts T q) (length ls); given = given_row (dealt T q ds ls i) q }

pub row_dealt-all : (T : List Step) (q : ℕ) (ds : List Delivery) (ls : List ℕ) (i : ℕ) → length ls ≡ length ds → length ls ≤ i → row_dealt T q ds ls i ≡ queue_row (T ++ deals_of q ds ls) q
row_dealt-all T q ds ls i same all = same_row (sym (queue_counts-deals T q ds ls same)) (ap (λ U. given_row U q) (dealt_all T q ds ls i same all))

pub row_dealt-few : (T : List Step) (q : ℕ) (ds : List Delivery) (ls : List ℕ) (i l : ℕ) (r : QueueRow) → r ≡ row_dealt T q ds ls i → l < MAX_PORTS → slice_index r.given l ≤ length T + i
unfolding given_to
row_dealt-few T q ds ls i l r is lt =
    let U = dealt T q ds ls i in
    omega (arith, ap (λ (x : QueueRow). slice_index x.given l) is, given_row-at U q l 0 lt, count_by-le-length (is_given_to q l) U, dealt_few T q ds ls i)

module _ (T : List Step) (q : ℕ) (ds : List Delivery) (ls : List ℕ) (i : ℕ) (same : length ls ≡ length ds) (lt : i < length ls) where
  given_row-dealt : given_row (dealt T q ds ls (i + 1)) q ≡ slice_set (given_row (dealt T q ds ls i) q) (slice_index ls i) (slice_index (given_row (dealt T q ds ls i) q) (slice_index ls i) + 1)
  given_row-dealt =
      let one = one_dealt T q ds ls i same lt in
      ap (λ U. given_row U q) one.1 ∙ given_row-gives (dealt T q ds ls i) (slice_index ls i) q one.0.number

  pub row_dealt-more : (r : QueueRow) → r ≡ row_dealt T q ds ls i → record r { given = slice_set r.given (slice_index ls i) (slice_index r.given (slice_index ls i) + 1) } ≡ row_dealt T q ds ls (i + 1)
  row_dealt-more r before =
      ap (λ (x : QueueRow). record x { given = slice_set x.given (slice_index ls i) (slice_index x.given (slice_index ls i) + 1) }) before
      ∙ same_row refl (sym given_row-dealt)

  -- a lane that is no port's has no place in the row
  pub row_dealt-beyond : MAX_PORTS ≤ slice_index ls i → row_dealt T q ds ls i ≡ row_dealt T q ds ls (i + 1)
  row_dealt-beyond beyond =
      same_row refl (sym (given_row-dealt ∙ set_past (given_row (dealt T q ds ls i) q) (slice_index ls i) _ (omega (arith, beyond, given_row-length (dealt T q ds ls i) q))))

-- ---- the lanes

pub lanes_few : (T : List Step) (q : ℕ) (ds : List Delivery) (ls : List ℕ) (i l : ℕ) (x : LaneCounts) → x ≡ lane_counts (dealt T q ds ls i) l → x.tx ≤ length T + i
unfolding out
lanes_few T q ds ls i l x is =
    omega (arith, ap (λ (y : LaneCounts). y.tx) is, filter_map_few (pair_of l) (dealt T q ds ls i), dealt_few T q ds ls i)

module _ (T : List Step) (q : ℕ) (ds : List Delivery) (ls : List ℕ) (i : ℕ) (same : length ls ≡ length ds) (lt : i < length ls) (table : List LaneCounts) (h : AreCounts (lane_counts (dealt T q ds ls i)) table) where
  pub lanes_dealt : (x : LaneCounts) → x ≡ record (lane_counts (dealt T q ds ls i) (slice_index ls i)) { tx = (lane_counts (dealt T q ds ls i) (slice_index ls i)).tx + 1 }
      → AreCounts (lane_counts (dealt T q ds ls (i + 1))) (slice_set table (slice_index ls i) x)
  lanes_dealt x here =
      let one = one_dealt T q ds ls i same lt in
      let U = dealt T q ds ls i in
      let l = slice_index ls i in
      let s = give_of l q one.0 in
      subst (λ V. AreCounts (lane_counts V) (slice_set table l x)) (sym one.1) (AreCounts-there lane_counts lane_in U s (lane_counts-other U s) table h l x refl (here ∙ sym (lane_counts-same U s l refl)))

  pub lanes_missed : length table ≤ slice_index ls i → AreCounts (lane_counts (dealt T q ds ls (i + 1))) table
  lanes_missed beyond =
      let one = one_dealt T q ds ls i same lt in
      let U = dealt T q ds ls i in
      let l = slice_index ls i in
      let s = give_of l q one.0 in
      subst (λ V. AreCounts (lane_counts V) table) (sym one.1) (AreCounts-beyond lane_counts lane_in U s (lane_counts-other U s) table h l refl beyond)
