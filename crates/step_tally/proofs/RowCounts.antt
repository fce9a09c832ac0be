-- What steps of one kind, one after the other, make of the counts.
use Rattle.std.proofs.Common.{◌≡◌, ◌≢◌, ℕ, zero, suc, ◌+◌, ◌*◌, ◌<◌, ◌≤◌, List, [], ◌∷◌, ◌++◌, add-zero, ap, append-nil, append_assoc, arith, get_or, length, refl, set, Some, subst, sym, ◌∙◌, ◌⊎◌, inl, inr}
use Rattle.std.proofs.lemmas.Bool.{cases_eq}
use Rattle.std.proofs.lemmas.List.{get_or-set_other, get_or-set_same, length-map, length-replicate, length-set}
use Rattle.std.proofs.lemmas.List.Elements.{All-head, All-tail}
use Rattle.std.proofs.lemmas.Option.{none-some, same_Some}
use Rattle.evt_types.specs.declared.event.Reply.{Reply}
use Rattle.evt_types.specs.declared.step.Outcome.TheVariants.{Forwarded, Released}
use Rattle.evt_types.specs.declared.step.Source.TheVariants.{New, Of}
use Rattle.evt_types.specs.declared.step.Step.{Step}
use Rattle.evt_types.specs.declared.step.Step.TheVariants.{Accept, Done}
use Rattle.step_log.specs.Rows.{AreTo, forward_steps, news_steps, release_steps}
use Rattle.step_tally.specs.Counts.{lane_counts}
use Rattle.step_tally.specs.Tables.{AreCounts, queue_row}
use Rattle.step_tally.specs.declared.counts.LaneCounts.{LaneCounts}
use Rattle.step_tally.specs.declared.tables.QueueRow.{QueueRow}
use Rattle.step_tally.proofs.Pushes.{lane_counts-other, lane_counts-same, queue_row-other, queue_row-same}

-- the counts with so many more
abbrev pub row_with : QueueRow → ℕ → QueueRow
row_with r n = record r { counts = record r.counts { rx_new = r.counts.rx_new + n } }

abbrev pub new_with : LaneCounts → ℕ → LaneCounts
new_with c n = record c { rx_new = c.rx_new + n }

abbrev pub released_with : LaneCounts → ℕ → LaneCounts
released_with c n = record c { released = c.released + n }

-- one step, and then the others
split : (T : List Step) (s : Step) (ss : List Step) → T ++ s ∷ ss ≡ (T ++ s ∷ []) ++ ss
split T s ss = sym (append_assoc T (s ∷ []) ss)

-- ---- NEWs

-- what no single NEW changes, a row of them leaves
unchanged_by_news : {X : Type 0} (f : List Step → ℕ → X) (l q : ℕ) (rs : List Reply) (T : List Step) (k : ℕ)
    → ((U : List Step) (r : Reply) → f (U ++ Accept q r.event (New l) ∷ []) k ≡ f U k) → f (T ++ news_steps l q rs) k ≡ f T k
unchanged_by_news f l q [] T k each = ap (λ U. f U k) (append-nil T)
unchanged_by_news f l q (r ∷ rs) T k each =
    ap (λ U. f U k) (split T (Accept q r.event (New l)) (news_steps l q rs))
    ∙ (unchanged_by_news f l q rs (T ++ Accept q r.event (New l) ∷ []) k each ∙ each T r)

pub news_row : (l q : ℕ) (rs : List Reply) (T : List Step) → queue_row (T ++ news_steps l q rs) q ≡ row_with (queue_row T q) (length rs)
news_row l q [] T = ap (λ U. queue_row U q) (append-nil T) ∙ ap (λ n. record (queue_row T q) { counts = record (queue_row T q).counts { rx_new = n } }) (sym (add-zero (queue_row T q).counts.rx_new))
news_row l q (r ∷ rs) T =
    let s = Accept q r.event (New l) in
    ap (λ U. queue_row U q) (split T s (news_steps l q rs))
    ∙ (news_row l q rs (T ++ s ∷ [])
    ∙ (ap (λ x. row_with x (length rs)) (queue_row-same T s q refl)
    ∙ ap (λ n. record (queue_row T q) { counts = record (queue_row T q).counts { rx_new = n } }) (omega arith)))

pub news_row-other : (l q : ℕ) (rs : List Reply) (T : List Step) (k : ℕ) → k ≢ q → queue_row (T ++ news_steps l q rs) k ≡ queue_row T k
news_row-other l q rs T k other =
    unchanged_by_news queue_row l q rs T k (λ U r. queue_row-other U (Accept q r.event (New l)) k (λ same. other (sym (same_Some q k same))))

pub news_lane : (l q : ℕ) (rs : List Reply) (T : List Step) → lane_counts (T ++ news_steps l q rs) l ≡ new_with (lane_counts T l) (length rs)
news_lane l q [] T = ap (λ U. lane_counts U l) (append-nil T) ∙ ap (λ n. record (lane_counts T l) { rx_new = n }) (sym (add-zero (lane_counts T l).rx_new))
news_lane l q (r ∷ rs) T =
    let s = Accept q r.event (New l) in
    ap (λ U. lane_counts U l) (split T s (news_steps l q rs))
    ∙ (news_lane l q rs (T ++ s ∷ [])
    ∙ (ap (λ x. new_with x (length rs)) (lane_counts-same T s l refl)
    ∙ ap (λ n. record (lane_counts T l) { rx_new = n }) (omega arith)))

pub news_lane-other : (l q : ℕ) (rs : List Reply) (T : List Step) (k : ℕ) → k ≢ l → lane_counts (T ++ news_steps l q rs) k ≡ lane_counts T k
news_lane-other l q rs T k other =
    unchanged_by_news lane_counts l q rs T k (λ U r. lane_counts-other U (Accept q r.event (New l)) k (λ same. other (sym (same_Some l k same))))

-- ---- releases

pub releases_lane : (l n : ℕ) (T : List Step) → lane_counts (T ++ release_steps l n) l ≡ released_with (lane_counts T l) n
releases_lane l zero T = ap (λ U. lane_counts U l) (append-nil T) ∙ ap (λ n. record (lane_counts T l) { released = n }) (sym (add-zero (lane_counts T l).released))
releases_lane l (suc n) T =
    let s = Done l Released in
    ap (λ U. lane_counts U l) (split T s (release_steps l n))
    ∙ (releases_lane l n (T ++ s ∷ [])
    ∙ (ap (λ x. released_with x n) (lane_counts-same T s l refl)
    ∙ ap (λ m. record (lane_counts T l) { released = m }) (omega arith)))

pub releases_lane-other : (l n : ℕ) (T : List Step) (k : ℕ) → k ≢ l → lane_counts (T ++ release_steps l n) k ≡ lane_counts T k
releases_lane-other l zero T k other = ap (λ U. lane_counts U k) (append-nil T)
releases_lane-other l (suc n) T k other =
    let s = Done l Released in
    ap (λ U. lane_counts U k) (split T s (release_steps l n))
    ∙ (releases_lane-other l n (T ++ s ∷ []) k other ∙ lane_counts-other T s k (λ same. other (sym (same_Some l k same))))

pub releases_row : (l n : ℕ) (T : List Step) (k : ℕ) → queue_row (T ++ release_steps l n) k ≡ queue_row T k
releases_row l zero T k = ap (λ U. queue_row U k) (append-nil T)
releases_row l (suc n) T k =
    let s = Done l Released in
    ap (λ U. queue_row U k) (split T s (release_steps l n))
    ∙ (releases_row l n (T ++ s ∷ []) k ∙ queue_row-other T s k (λ same. none-some k same))

-- ---- FORWARDs

abbrev pub passed_with : QueueRow → ℕ → QueueRow
passed_with r n = record r { counts = record r.counts { rx_forwarded = r.counts.rx_forwarded + n } }

abbrev pub forwarded_with : LaneCounts → ℕ → LaneCounts
forwarded_with c n = record c { forwarded = c.forwarded + n }

abbrev done_of : ℕ → Reply → Step
done_of l r = Done l (Forwarded r.event)

abbrev accept_of : ℕ → ℕ → Reply → Step
accept_of q n r = Accept r.event.queue r.event (Of q n)

-- the steps of one, and then the others
split_pair : (T : List Step) (s t : Step) (ss : List Step) → T ++ s ∷ t ∷ ss ≡ ((T ++ s ∷ []) ++ t ∷ []) ++ ss
split_pair T s t ss = split T s (t ∷ ss) ∙ split (T ++ s ∷ []) t ss

pub forwards_row : (l q k : ℕ) (ns : List ℕ) (rs : List Reply) (T : List Step) → length ns ≡ length rs → AreTo k rs → queue_row (T ++ forward_steps l q ns rs) k ≡ passed_with (queue_row T k) (length rs)
forwards_row l q k [] [] T same to = ap (λ U. queue_row U k) (append-nil T) ∙ ap (λ n. record (queue_row T k) { counts = record (queue_row T k).counts { rx_forwarded = n } }) (sym (add-zero (queue_row T k).counts.rx_forwarded))
forwards_row l q k [] (r ∷ rs) T same to = absurd (omega (arith, same))
forwards_row l q k (n ∷ ns) [] T same to = absurd (omega (arith, same))
forwards_row l q k (n ∷ ns) (r ∷ rs) T same to =
    let d = done_of l r in
    let s = accept_of q n r in
    let here : r.event.queue ≡ k = All-head (λ (x : Reply). x.event.queue ≡ k) r rs to in
    ap (λ U. queue_row U k) (split_pair T d s (forward_steps l q ns rs))
    ∙ (forwards_row l q k ns rs ((T ++ d ∷ []) ++ s ∷ []) (omega (arith, same)) (All-tail (λ (x : Reply). x.event.queue ≡ k) r rs to)
    ∙ (ap (λ x. passed_with x (length rs)) (queue_row-same (T ++ d ∷ []) s k (ap Some here))
    ∙ (ap (λ x. passed_with (passed_with x 1) (length rs)) (queue_row-other T d k (λ none. none-some k none))
    ∙ ap (λ m. record (queue_row T k) { counts = record (queue_row T k).counts { rx_forwarded = m } }) (omega arith))))

pub forwards_row-other : (l q k : ℕ) (ns : List ℕ) (rs : List Reply) (T : List Step) (j : ℕ) → AreTo k rs → j ≢ k → queue_row (T ++ forward_steps l q ns rs) j ≡ queue_row T j
forwards_row-other l q k [] rs T j to other = ap (λ U. queue_row U j) (append-nil T)
forwards_row-other l q k (n ∷ ns) [] T j to other = ap (λ U. queue_row U j) (append-nil T)
forwards_row-other l q k (n ∷ ns) (r ∷ rs) T j to other =
    let d = done_of l r in
    let s = accept_of q n r in
    let here : r.event.queue ≡ k = All-head (λ (x : Reply). x.event.queue ≡ k) r rs to in
    ap (λ U. queue_row U j) (split_pair T d s (forward_steps l q ns rs))
    ∙ (forwards_row-other l q k ns rs ((T ++ d ∷ []) ++ s ∷ []) j (All-tail (λ (x : Reply). x.event.queue ≡ k) r rs to) other
    ∙ (queue_row-other (T ++ d ∷ []) s j (λ is. other (sym (same_Some r.event.queue j is) ∙ here)) ∙ queue_row-other T d j (λ none. none-some j none)))

pub forwards_lane : (l q : ℕ) (ns : List ℕ) (rs : List Reply) (T : List Step) → length ns ≡ length rs → lane_counts (T ++ forward_steps l q ns rs) l ≡ forwarded_with (lane_counts T l) (length rs)
forwards_lane l q [] [] T same = ap (λ U. lane_counts U l) (append-nil T) ∙ ap (λ n. record (lane_counts T l) { forwarded = n }) (sym (add-zero (lane_counts T l).forwarded))
forwards_lane l q [] (r ∷ rs) T same = absurd (omega (arith, same))
forwards_lane l q (n ∷ ns) [] T same = absurd (omega (arith, same))
forwards_lane l q (n ∷ ns) (r ∷ rs) T same =
    let d = done_of l r in
    let s = accept_of q n r in
    ap (λ U. lane_counts U l) (split_pair T d s (forward_steps l q ns rs))
    ∙ (forwards_lane l q ns rs ((T ++ d ∷ []) ++ s ∷ []) (omega (arith, same))
    ∙ (ap (λ x. forwarded_with x (length rs)) (lane_counts-other (T ++ d ∷ []) s l (λ none. none-some l none) ∙ lane_counts-same T d l refl)
    ∙ ap (λ m. record (lane_counts T l) { forwarded = m }) (omega arith)))

pub forwards_lane-other : (l q : ℕ) (ns : List ℕ) (rs : List Reply) (T : List Step) (k : ℕ) → k ≢ l → lane_counts (T ++ forward_steps l q ns rs) k ≡ lane_counts T k
forwards_lane-other l q [] rs T k other = ap (λ U. lane_counts U k) (append-nil T)
forwards_lane-other l q (n ∷ ns) [] T k other = ap (λ U. lane_counts U k) (append-nil T)
forwards_lane-other l q (n ∷ ns) (r ∷ rs) T k other =
    let d = done_of l r in
    let s = accept_of q n r in
    ap (λ U. lane_counts U k) (split_pair T d s (forward_steps l q ns rs))
    ∙ (forwards_lane-other l q ns rs ((T ++ d ∷ []) ++ s ∷ []) k other
    ∙ (lane_counts-other (T ++ d ∷ []) s k (λ none. none-some k none) ∙ lane_counts-other T d k (λ is. other (sym (same_Some l k is)))))

-- ---- tables

-- another count at a place, and the others as they were
pub counts_set : {X : Type 0} (f g : ℕ → X) (table : List X) (q : ℕ) (x : X) → AreCounts f table → x ≡ g q → ((k : ℕ) → k ≢ q → g k ≡ f k) → AreCounts g (set table q x)
counts_set f g table q x are here others k d lt = by_place (cases_eq k q)
  where
    there : k < length table
    there = omega (arith, lt, length-set table q x)

    by_place : (k ≡ q) ⊎ (k ≢ q) → get_or (set table q x) k d ≡ g k
    by_place (inl same) = ap (λ i. get_or (set table q x) i d) same ∙ (get_or-set_same table q x d (subst (λ i. i < length table) same there) ∙ (here ∙ ap g (sym same)))
    by_place (inr other) = get_or-set_other table q k x d other ∙ (are k d there ∙ sym (others k other))

-- the table has no place for it
pub counts_beyond : {X : Type 0} (f g : ℕ → X) (table : List X) (q : ℕ) → AreCounts f table → length table ≤ q → ((k : ℕ) → k ≢ q → g k ≡ f k) → AreCounts g table
counts_beyond f g table q are past others k d lt = are k d lt ∙ sym (others k (λ same. absurd (omega (arith, past, lt, same))))

pub counts_same : {X : Type 0} (f g : ℕ → X) (table : List X) → AreCounts f table → ((k : ℕ) → g k ≡ f k) → AreCounts g table
counts_same f g table are same k d lt = are k d lt ∙ sym (same k)

-- ---- how many there are

pub length_news : (l q : ℕ) (rs : List Reply) → length (news_steps l q rs) ≡ length rs
length_news l q rs = length-map rs (λ (r : Reply). Accept q r.event (New l))

pub length_releases : (l n : ℕ) → length (release_steps l n) ≡ n
length_releases l n = length-replicate n (Done l Released)

pub length_forwards : (l q : ℕ) (ns : List ℕ) (rs : List Reply) → length ns ≡ length rs → length (forward_steps l q ns rs) ≡ 2 * length rs
length_forwards l q [] [] same = refl
length_forwards l q [] (r ∷ rs) same = absurd (omega (arith, same))
length_forwards l q (n ∷ ns) [] same = absurd (omega (arith, same))
length_forwards l q (n ∷ ns) (r ∷ rs) same = omega (arith, length_forwards l q ns rs (omega (arith, same)))
