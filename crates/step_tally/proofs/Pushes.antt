-- What one more step makes of the counts: those of its queue and of its lane are one more, the others stay.
use Rattle.std.proofs.Common.{◌≡◌, ◌≢◌, ℕ, ◌+◌, ◌<◌, ◌≤◌, ◌^◌, Bool, true, false, ◌==◌, ◌&&◌, List, [], ◌∷◌, ◌++◌, length, count_by, slice_index, slice_set, Option, Some, None, filter_map, cond, refl, sym, ap, ◌∙◌, subst, get_or, ⊎_elim, arith}
use Rattle.std.specs.List.{cons_option}
use Rattle.std.proofs.lemmas.Bool.{cases_eq, eq-eqb, cond-true, cond-false}
use Rattle.std.proofs.lemmas.Grind.{get_or-set_at}
use Rattle.std.proofs.lemmas.List.{get_or-set_other, length-set, length_push, same_lists}
use Rattle.std.proofs.lemmas.List.FromFn.{get_or-map-range_with_len, length-map-range_with_len}
use Rattle.std.proofs.lemmas.List.Sums.{sum_by_push, count_by-le-length}
use Rattle.std.proofs.lemmas.Option.{same_Some, none-some}
use Rattle.lists.proofs.Lists.{eqb_other}
use Rattle.transcripts.proofs.Pushes.{out-some, out-none, answers-some, answers-none, hand-some, hand-none, given_to-other, answer_of-other, given_of-other}
use Rattle.transcripts.specs.Transcript.{given_to as pair_of, out, answer_of, answers, given_of, hand}
use Rattle.evt_types.specs.declared.shape.TheConstants.{MAX_PORTS}
use Rattle.evt_types.specs.declared.step.Outcome.{Outcome}
use Rattle.evt_types.specs.declared.step.Outcome.TheVariants.{Forwarded, Released}
use Rattle.evt_types.specs.declared.step.Source.TheVariants.{New, Of}
use Rattle.evt_types.specs.declared.step.Step.{Step}
use Rattle.evt_types.specs.declared.step.Step.TheVariants.{Accept, Give, Done, More, Turned, Bounced}
use Rattle.step_tally.specs.Counts.{is_new_to, is_passed_to, new_to, passed_to, is_given_to, given_to, queue_counts, is_new_on, is_released, is_forwarded, is_added_on, is_turned_on, is_bounced_on, new_on, released_by, forwarded_by, added_by, turned_on, bounced_on, lane_counts}
use Rattle.step_tally.specs.Tables.{given_row, queue_row, queue_in, queue_after, row_after, lane_in, lane_after, HasFewOfQueue, HasFewOfLane}
use Rattle.step_tally.specs.declared.counts.LaneCounts.{LaneCounts}
use Rattle.step_tally.specs.declared.counts.QueueCounts.{QueueCounts}
use Rattle.step_tally.specs.declared.tables.QueueRow.{QueueRow}

-- ---- counts of a list

count_push : {X : Type 0} (p : X → Bool) (xs : List X) (x : X) → count_by p (xs ++ x ∷ []) ≡ count_by p xs + cond (p x) 1 0
count_push p xs x = sum_by_push (λ y. cond (p y) 1 0) xs x

count_more : {X : Type 0} (p : X → Bool) (xs : List X) (x : X) → p x ≡ true → count_by p (xs ++ x ∷ []) ≡ count_by p xs + 1
count_more p xs x h = omega (arith, count_push p xs x, cond-true {A = ℕ} (p x) 1 0 h)

count_still : {X : Type 0} (p : X → Bool) (xs : List X) (x : X) → p x ≡ false → count_by p (xs ++ x ∷ []) ≡ count_by p xs
count_still p xs x h = omega (arith, count_push p xs x, cond-false {A = ℕ} (p x) 1 0 h)

one_more : {Y : Type 0} (o : Option Y) (ys : List Y) → length (cons_option o ys) ≤ length ys + 1
one_more None ys = omega arith
one_more (Some y) ys = omega arith

pub filter_map_few : {X Y : Type 0} (f : X → Option Y) (xs : List X) → length (filter_map f xs) ≤ length xs
filter_map_few f [] = omega arith
filter_map_few f (x ∷ xs) = omega (arith, filter_map_few f xs, one_more (f x) (filter_map f xs))

-- ---- queues

handed_more : (T : List Step) (s : Step) (q n : ℕ) → given_of q s ≡ Some n → length (hand (T ++ s ∷ []) q) ≡ length (hand T q) + 1
handed_more T s q n h = ap length (hand-some T q s n h) ∙ length_push (hand T q) n

handed_still : (T : List Step) (s : Step) (q : ℕ) → given_of q s ≡ None → length (hand (T ++ s ∷ []) q) ≡ length (hand T q)
handed_still T s q h = ap length (hand-none T q s h)

pub same_queue : {a b c d e f : ℕ} → a ≡ d → b ≡ e → c ≡ f
    → ◌≡◌ {A = QueueCounts} (record { rx_new = a; rx_forwarded = b; tx = c }) (record { rx_new = d; rx_forwarded = e; tx = f })
same_queue h j k = cc

-- a step that isn't counted of the queue
queue_still : (T : List Step) (s : Step) (q : ℕ) → is_new_to q s ≡ false → is_passed_to q s ≡ false → given_of q s ≡ None
    → queue_counts (T ++ s ∷ []) q ≡ queue_counts T q
unfolding new_to passed_to
queue_still T s q h j k =
    same_queue (count_still (is_new_to q) T s h) (count_still (is_passed_to q) T s j) (handed_still T s q k)

queue_counts-same : (T : List Step) (s : Step) (q : ℕ) → queue_in s ≡ Some q → queue_counts (T ++ s ∷ []) q ≡ queue_after (queue_counts T q) s
unfolding new_to passed_to
queue_counts-same T (Accept r e (New l)) q h =
    let s = Accept r e (New l) in
    same_queue (count_more (is_new_to q) T s (eq-eqb r q (same_Some r q h))) (count_still (is_passed_to q) T s refl) (handed_still T s q refl)
queue_counts-same T (Accept r e (Of m n)) q h =
    let s = Accept r e (Of m n) in
    same_queue (count_still (is_new_to q) T s refl) (count_more (is_passed_to q) T s (eq-eqb r q (same_Some r q h))) (handed_still T s q refl)
queue_counts-same T (Give l r n) q h =
    let s = Give l r n in
    same_queue (count_still (is_new_to q) T s refl) (count_still (is_passed_to q) T s refl)
    (handed_more T s q n (cond-true (r == q) (Some n) None (eq-eqb r q (same_Some r q h))))
queue_counts-same T step q h = absurd (none-some q h)

queue_counts-other : (T : List Step) (s : Step) (q : ℕ) → queue_in s ≢ Some q → queue_counts (T ++ s ∷ []) q ≡ queue_counts T q
queue_counts-other T (Accept r e (New l)) q h =
    queue_still T (Accept r e (New l)) q (eqb_other r q (λ same. h (ap Some same))) refl refl
queue_counts-other T (Accept r e (Of m n)) q h =
    queue_still T (Accept r e (Of m n)) q refl (eqb_other r q (λ same. h (ap Some same))) refl
queue_counts-other T (Give l r n) q h = queue_still T (Give l r n) q refl refl (given_of-other l q r n (λ same. h (ap Some same)))
queue_counts-other T step q h = queue_still T step q refl refl refl

-- ---- rows of queues

given_more : (T : List Step) (s : Step) (q l : ℕ) → is_given_to q l s ≡ true → given_to (T ++ s ∷ []) q l ≡ given_to T q l + 1
unfolding given_to
given_more T s q l h = count_more (is_given_to q l) T s h

given_still : (T : List Step) (s : Step) (q l : ℕ) → is_given_to q l s ≡ false → given_to (T ++ s ∷ []) q l ≡ given_to T q l
unfolding given_to
given_still T s q l h = count_still (is_given_to q l) T s h

pub given_row-length : (T : List Step) (q : ℕ) → length (given_row T q) ≡ MAX_PORTS
given_row-length T q = length-map-range_with_len (given_to T q) 0 MAX_PORTS

pub given_row-at : (T : List Step) (q l d : ℕ) → l < MAX_PORTS → get_or (given_row T q) l d ≡ given_to T q l
given_row-at T q l d h = get_or-map-range_with_len (given_to T q) 0 MAX_PORTS l l d h (omega arith)

-- a step that isn't counted of the queue
given_row-still : (T : List Step) (s : Step) (q : ℕ) → ((l : ℕ) → is_given_to q l s ≡ false) → given_row (T ++ s ∷ []) q ≡ given_row T q
given_row-still T s q none =
    same_lists _ _ (given_row-length (T ++ s ∷ []) q ∙ sym (given_row-length T q)) (λ k d lt.
    let h : k < MAX_PORTS = omega (arith, given_row-length (T ++ s ∷ []) q) in
    given_row-at (T ++ s ∷ []) q k d h ∙ (given_still T s q k (none k) ∙ sym (given_row-at T q k d h)))

-- a Give of the queue
pub given_row-gives : (T : List Step) (l q n : ℕ)
    → given_row (T ++ Give l q n ∷ []) q ≡ slice_set (given_row T q) l (slice_index (given_row T q) l + 1)
given_row-gives T l q n =
    same_lists _ _ (given_row-length (T ++ s ∷ []) q ∙ sym (length-set (given_row T q) l _ ∙ given_row-length T q)) (λ k d lt.
    at k d (omega (arith, given_row-length (T ++ s ∷ []) q)))
  where
    s : Step
    s = Give l q n

    at : (k d : ℕ) → k < MAX_PORTS
        → get_or (given_row (T ++ s ∷ []) q) k d ≡ get_or (slice_set (given_row T q) l (slice_index (given_row T q) l + 1)) k d
    at k d h = given_row-at (T ++ s ∷ []) q k d h ∙ ⊎_elim
        (λ same. given_more T s q k (both same) ∙ sym (get_or-set_at (given_row T q) l k _ d same (omega (arith, given_row-length T q))
        ∙ ap (λ x. x + 1) (ap (λ i. slice_index (given_row T q) i) (sym same) ∙ given_row-at T q k 0 h)))
        (λ other. given_still T s q k (apart other) ∙ sym (get_or-set_other (given_row T q) l k _ d other ∙ given_row-at T q k d h))
        (cases_eq k l)
      where
        both : k ≡ l → is_given_to q k s ≡ true
        both same = ap (λ b. b && (l == k)) (eq-eqb q q refl) ∙ eq-eqb l k (sym same)

        apart : k ≢ l → is_given_to q k s ≡ false
        apart other = ap (λ b. b && (l == k)) (eq-eqb q q refl) ∙ eqb_other l k (λ e. other (sym e))

pub same_row : {a b : QueueCounts} {c d : List ℕ} → a ≡ b → c ≡ d → ◌≡◌ {A = QueueRow} (record { counts = a; given = c }) (record { counts = b; given = d })
same_row h j = cc

pub queue_row-same : (T : List Step) (s : Step) (q : ℕ) → queue_in s ≡ Some q → queue_row (T ++ s ∷ []) q ≡ row_after (queue_row T q) s
queue_row-same T (Accept r e (New l)) q h =
    let s = Accept r e (New l) in
    same_row (queue_counts-same T s q h) (given_row-still T s q (λ k. refl))
queue_row-same T (Accept r e (Of m n)) q h =
    let s = Accept r e (Of m n) in
    same_row (queue_counts-same T s q h) (given_row-still T s q (λ k. refl))
queue_row-same T (Give l r n) q h =
    let P : ℕ → Type 0 = λ k. given_row (T ++ Give l k n ∷ []) q ≡ slice_set (given_row T q) l (slice_index (given_row T q) l + 1) in
    same_row (queue_counts-same T (Give l r n) q h) (subst P (sym (same_Some r q h)) (given_row-gives T l q n))
queue_row-same T step q h = absurd (none-some q h)

pub queue_row-other : (T : List Step) (s : Step) (q : ℕ) → queue_in s ≢ Some q → queue_row (T ++ s ∷ []) q ≡ queue_row T q
queue_row-other T s q h = same_row (queue_counts-other T s q h) (given_row-still T s q (λ l. elsewhere s l h))
  where
    elsewhere : (s : Step) (l : ℕ) → queue_in s ≢ Some q → is_given_to q l s ≡ false
    elsewhere (Give m r n) l h = ap (λ b. b && (m == l)) (eqb_other r q (λ same. h (ap Some same)))
    elsewhere step l h = refl

pub queue_row_few : (T : List Step) (q : ℕ) → length T < 2 ^ 63 → HasFewOfQueue (queue_row T q)
unfolding new_to passed_to given_to hand
queue_row_few T q short = record {
  rx_new = omega (arith, count_by-le-length (is_new_to q) T);
  rx_forwarded = omega (arith, count_by-le-length (is_passed_to q) T);
  tx = omega (arith, filter_map_few (given_of q) T);
  given = λ l h. omega (arith, given_row-at T q l 0 h, count_by-le-length (is_given_to q l) T);
}

-- ---- lanes

out_more : (T : List Step) (s : Step) (l : ℕ) (x : ℕ × ℕ) → pair_of l s ≡ Some x → length (out (T ++ s ∷ []) l) ≡ length (out T l) + 1
out_more T s l x h = ap length (out-some T l s x h) ∙ length_push (out T l) x

out_still : (T : List Step) (s : Step) (l : ℕ) → pair_of l s ≡ None → length (out (T ++ s ∷ []) l) ≡ length (out T l)
out_still T s l h = ap length (out-none T l s h)

-- what an answer brings to a count of the lane's answers
answers_more : (p : Outcome → Bool) (T : List Step) (s : Step) (l : ℕ) (o : Outcome) → answer_of l s ≡ Some o → p o ≡ true
    → count_by p (answers (T ++ s ∷ []) l) ≡ count_by p (answers T l) + 1
answers_more p T s l o h k = ap (count_by p) (answers-some T l s o h) ∙ count_more p (answers T l) o k

answers_other : (p : Outcome → Bool) (T : List Step) (s : Step) (l : ℕ) (o : Outcome) → answer_of l s ≡ Some o → p o ≡ false
    → count_by p (answers (T ++ s ∷ []) l) ≡ count_by p (answers T l)
answers_other p T s l o h k = ap (count_by p) (answers-some T l s o h) ∙ count_still p (answers T l) o k

answers_still : (p : Outcome → Bool) (T : List Step) (s : Step) (l : ℕ) → answer_of l s ≡ None
    → count_by p (answers (T ++ s ∷ []) l) ≡ count_by p (answers T l)
answers_still p T s l h = ap (count_by p) (answers-none T l s h)

pub same_lane : {a b c d e f g h i j k m n o : ℕ} → a ≡ h → b ≡ i → c ≡ j → d ≡ k → e ≡ m → f ≡ n → g ≡ o
    → ◌≡◌ {A = LaneCounts} (record { rx_new = a; tx = b; released = c; forwarded = d; added = e; turned = f; bounced = g })
    (record { rx_new = h; tx = i; released = j; forwarded = k; added = m; turned = n; bounced = o })
same_lane p q r s t u v = cc

-- what neither brings in nor gives nor adds, turns away or bounces an event
lane_answered : (T : List Step) (s : Step) (l : ℕ) {r f : ℕ} → is_new_on l s ≡ false → pair_of l s ≡ None → is_added_on l s ≡ false
    → is_turned_on l s ≡ false → is_bounced_on l s ≡ false → count_by is_released (answers (T ++ s ∷ []) l) ≡ r
    → count_by is_forwarded (answers (T ++ s ∷ []) l) ≡ f → lane_counts (T ++ s ∷ []) l ≡ record (lane_counts T l) { released = r; forwarded = f }
unfolding new_on released_by forwarded_by added_by turned_on bounced_on
lane_answered T s l n g a t b released forwarded =
    same_lane (count_still (is_new_on l) T s n) (out_still T s l g) released forwarded
    (count_still (is_added_on l) T s a) (count_still (is_turned_on l) T s t) (count_still (is_bounced_on l) T s b)

-- a step that isn't counted of the lane
lane_still : (T : List Step) (s : Step) (l : ℕ) → is_new_on l s ≡ false → pair_of l s ≡ None → answer_of l s ≡ None → is_added_on l s ≡ false
    → is_turned_on l s ≡ false → is_bounced_on l s ≡ false → lane_counts (T ++ s ∷ []) l ≡ lane_counts T l
unfolding new_on released_by forwarded_by added_by turned_on bounced_on
lane_still T s l n g o a t b =
    lane_answered T s l n g a t b (answers_still is_released T s l o) (answers_still is_forwarded T s l o)

-- an answer
lane_done : (T : List Step) (m l : ℕ) (o : Outcome) → answer_of l (Done m o) ≡ Some o → lane_counts (T ++ Done m o ∷ []) l ≡ lane_after (lane_counts T l) (Done m o)
unfolding new_on released_by forwarded_by added_by turned_on bounced_on
lane_done T m l Released here =
    let s = Done m Released in
    lane_answered T s l refl refl refl refl refl (answers_more is_released T s l Released here refl) (answers_other is_forwarded T s l Released here refl)
lane_done T m l (Forwarded e) here =
    let s = Done m (Forwarded e) in
    lane_answered T s l refl refl refl refl refl (answers_other is_released T s l (Forwarded e) here refl) (answers_more is_forwarded T s l (Forwarded e) here refl)

-- a step that is no answer
lane_unanswered : (T : List Step) (s : Step) (l : ℕ) {n g a t b : ℕ} → answer_of l s ≡ None → count_by (is_new_on l) (T ++ s ∷ []) ≡ n
    → length (out (T ++ s ∷ []) l) ≡ g → count_by (is_added_on l) (T ++ s ∷ []) ≡ a → count_by (is_turned_on l) (T ++ s ∷ []) ≡ t
    → count_by (is_bounced_on l) (T ++ s ∷ []) ≡ b
    → lane_counts (T ++ s ∷ []) l ≡ record (lane_counts T l) { rx_new = n; tx = g; added = a; turned = t; bounced = b }
unfolding new_on released_by forwarded_by added_by turned_on bounced_on
lane_unanswered T s l o brought given added turned bounced =
    same_lane brought given (answers_still is_released T s l o) (answers_still is_forwarded T s l o) added turned bounced

pub lane_counts-same : (T : List Step) (s : Step) (l : ℕ) → lane_in s ≡ Some l → lane_counts (T ++ s ∷ []) l ≡ lane_after (lane_counts T l) s
unfolding new_on released_by forwarded_by added_by turned_on bounced_on
lane_counts-same T (Accept q e (New m)) l h =
    let s = Accept q e (New m) in
    let here = count_more (is_new_on l) T s (eq-eqb m l (same_Some m l h)) in
    lane_unanswered T s l refl here (out_still T s l refl) (count_still (is_added_on l) T s refl) (count_still (is_turned_on l) T s refl) (count_still (is_bounced_on l) T s refl)
lane_counts-same T (Give m q n) l h =
    let s = Give m q n in
    let here = out_more T s l (q, n) (cond-true (m == l) (Some (q, n)) None (eq-eqb m l (same_Some m l h))) in
    lane_unanswered T s l refl (count_still (is_new_on l) T s refl) here (count_still (is_added_on l) T s refl) (count_still (is_turned_on l) T s refl) (count_still (is_bounced_on l) T s refl)
lane_counts-same T (Done m o) l h =
    lane_done T m l o (cond-true (m == l) (Some o) None (eq-eqb m l (same_Some m l h)))
lane_counts-same T (More m e) l h =
    let s = More m e in
    let here = count_more (is_added_on l) T s (eq-eqb m l (same_Some m l h)) in
    lane_unanswered T s l refl (count_still (is_new_on l) T s refl) (out_still T s l refl) here (count_still (is_turned_on l) T s refl) (count_still (is_bounced_on l) T s refl)
lane_counts-same T (Turned m e) l h =
    let s = Turned m e in
    let here = count_more (is_turned_on l) T s (eq-eqb m l (same_Some m l h)) in
    lane_unanswered T s l refl (count_still (is_new_on l) T s refl) (out_still T s l refl) (count_still (is_added_on l) T s refl) here (count_still (is_bounced_on l) T s refl)
lane_counts-same T (Bounced m) l h =
    let s = Bounced m in
    let here = count_more (is_bounced_on l) T s (eq-eqb m l (same_Some m l h)) in
    lane_unanswered T s l refl (count_still (is_new_on l) T s refl) (out_still T s l refl) (count_still (is_added_on l) T s refl) (count_still (is_turned_on l) T s refl) here
lane_counts-same T step l h = absurd (none-some l h)

pub lane_counts-other : (T : List Step) (s : Step) (l : ℕ) → lane_in s ≢ Some l → lane_counts (T ++ s ∷ []) l ≡ lane_counts T l
lane_counts-other T (Accept q e (New m)) l h =
    lane_still T (Accept q e (New m)) l (eqb_other m l (λ same. h (ap Some same))) refl refl refl refl refl
lane_counts-other T (Accept q e (Of m n)) l h = lane_still T (Accept q e (Of m n)) l refl refl refl refl refl refl
lane_counts-other T (Give m q n) l h = lane_still T (Give m q n) l refl (given_to-other l m q n (λ same. h (ap Some same))) refl refl refl refl
lane_counts-other T (Done m o) l h = lane_still T (Done m o) l refl refl (answer_of-other l m o (λ same. h (ap Some same))) refl refl refl
lane_counts-other T (More m e) l h = lane_still T (More m e) l refl refl refl (eqb_other m l (λ same. h (ap Some same))) refl refl
lane_counts-other T (Turned m e) l h = lane_still T (Turned m e) l refl refl refl refl (eqb_other m l (λ same. h (ap Some same))) refl
lane_counts-other T (Bounced m) l h = lane_still T (Bounced m) l refl refl refl refl refl (eqb_other m l (λ same. h (ap Some same)))
lane_counts-other T step l h = lane_still T step l refl refl refl refl refl refl

answers_few : (p : Outcome → Bool) (T : List Step) (l : ℕ) → count_by p (answers T l) ≤ length T
unfolding answers
answers_few p T l = omega (arith, count_by-le-length p (answers T l), filter_map_few (answer_of l) T)

pub lane_counts_few : (T : List Step) (l : ℕ) → length T < 2 ^ 63 → HasFewOfLane (lane_counts T l)
unfolding new_on released_by forwarded_by added_by turned_on bounced_on out
lane_counts_few T l short = record {
  rx_new = omega (arith, count_by-le-length (is_new_on l) T);
  tx = omega (arith, filter_map_few (pair_of l) T);
  released = omega (arith, answers_few is_released T l);
  forwarded = omega (arith, answers_few is_forwarded T l);
  added = omega (arith, count_by-le-length (is_added_on l) T);
  turned = omega (arith, count_by-le-length (is_turned_on l) T);
  bounced = omega (arith, count_by-le-length (is_bounced_on l) T);
}
