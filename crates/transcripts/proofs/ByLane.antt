-- What all lanes said, summed lane by lane, is what the transcript took.
use Rattle.std.specs.Prelude.{ℕ, ◌≡◌, ◌≢◌, ◌<◌, ◌+◌, Bool, List, [], ◌∷◌, All, Option, Some, None, cond, count_by, sum_by, slice_index_or}
use Rattle.std.specs.List.{cons_option, range_with_len}
use Rattle.std.proofs.Common.{refl, sym, ap, ◌∙◌, arith}
use Rattle.std.proofs.lemmas.List.Elements.{All-head, All-tail}
use Rattle.std.proofs.lemmas.List.Sums.{sum_by-cons}
use Rattle.transcripts.proofs.Account.{HasLane}
use Rattle.transcripts.proofs.Replies.{said_of, said_in-new, said_in-new_other, said_in-turned, said_in-turned_other, said_in-done, said_in-done_other, said_in-more, said_in-more_other}
use Rattle.lists.proofs.Sums.{sum_agree, sum_changed}
use Rattle.evt_types.specs.Plan.{Plan, lanes, lanes_of}
use Rattle.transcripts.specs.Replies.{Said, said_by, said_in, replies_in, new_count, turned_count, release_count, more_count}
use Rattle.evt_types.specs.Operation.{is_new_op, is_release_op, is_more_op}
use Rattle.transcripts.specs.Transcript.{is_new, is_turned, is_release, is_more}
use Rattle.evt_types.specs.declared.event.Op.TheVariants as ops
use Rattle.evt_types.specs.declared.step.Outcome.TheVariants.{Forwarded, Released}
use Rattle.evt_types.specs.declared.step.Source.TheVariants.{New, Of}
use Rattle.evt_types.specs.declared.step.Step.{Step}
use Rattle.evt_types.specs.declared.step.Step.TheVariants.{Accept, Give, Done, More, Turned, Bounced, Shut}

-- ---- sums

pub sum_plus : {X : Type 0} (f g : X → ℕ) (xs : List X) → sum_by (λ x. f x + g x) xs ≡ sum_by f xs + sum_by g xs
sum_plus f g [] = refl
sum_plus f g (x ∷ xs) = omega (arith, sum_by-cons (λ y. f y + g y) x xs, sum_by-cons f x xs, sum_by-cons g x xs, sum_plus f g xs)

pub sum_zero : {X : Type 0} (f : X → ℕ) (xs : List X) → All (λ x. f x ≡ 0) xs → sum_by f xs ≡ 0
sum_zero f [] none = refl
sum_zero f (x ∷ xs) none =
    let here : f x ≡ 0 = All-head (λ y. f y ≡ 0) x xs none in
    omega (arith, sum_by-cons f x xs, sum_zero f xs (All-tail (λ y. f y ≡ 0) x xs none))

-- one place alone counts
pub sum_hit : (f : ℕ → ℕ) (n i x : ℕ) → i < n → f i ≡ x → ((k : ℕ) → k ≢ i → f k ≡ 0) → sum_by f (range_with_len 0 n) ≡ x
sum_hit f n i x below here none =
    omega (arith, sum_changed (λ k. 0) f n i x 0 below (omega arith) (λ k other. sym (none k other)), sum_zero (λ k. 0) (range_with_len 0 n) (λ k d l. refl))

-- ---- what one step says

weight_if : (Said → ℕ) → Option Said → ℕ
weight_if w None = 0
weight_if w (Some x) = w x

-- the weight of what was said where the step was taken, by whatever lane
abbrev pub step_weight : (Said → ℕ) → Step → ℕ
step_weight w (Accept q e (New l)) = w (said_by ops.New e)
step_weight w (Done l o) = w (said_of o)
step_weight w (More l e) = w (said_by ops.ForwardMore e)
step_weight w (Turned l e) = w (said_by ops.New e)
step_weight w s = 0

weight_cons : (w : Said → ℕ) (o : Option Said) (xs : List Said) → sum_by w (cons_option o xs) ≡ weight_if w o + sum_by w xs
unfolding weight_if
weight_cons w None xs = omega arith
weight_cons w (Some x) xs = sum_by-cons w x xs

one_step : (p : Plan) (w : Said → ℕ) (s : Step) → HasLane p s → sum_by (λ l. weight_if w (said_in l s)) (lanes p) ≡ step_weight w s
unfolding weight_if
one_step p w (Accept q e (New l)) there =
    sum_hit (λ m. weight_if w (said_in m (Accept q e (New l)))) (lanes_of p) l (w (said_by ops.New e)) there (ap (weight_if w) (said_in-new l q e)) (λ m other. ap (weight_if w) (said_in-new_other m l q e (λ same. other (sym same))))
one_step p w (Accept q e (Of r n)) there = sum_zero (λ m. 0) (lanes p) (λ k d l. refl)
one_step p w (Give l q n) there = sum_zero (λ m. 0) (lanes p) (λ k d l. refl)
one_step p w (Done l o) there =
    sum_hit (λ m. weight_if w (said_in m (Done l o))) (lanes_of p) l (w (said_of o)) there (ap (weight_if w) (said_in-done l o)) (λ m other. ap (weight_if w) (said_in-done_other m l o (λ same. other (sym same))))
one_step p w (More l e) there =
    sum_hit (λ m. weight_if w (said_in m (More l e))) (lanes_of p) l (w (said_by ops.ForwardMore e)) there (ap (weight_if w) (said_in-more l e)) (λ m other. ap (weight_if w) (said_in-more_other m l e (λ same. other (sym same))))
one_step p w (Turned l e) there =
    sum_hit (λ m. weight_if w (said_in m (Turned l e))) (lanes_of p) l (w (said_by ops.New e)) there (ap (weight_if w) (said_in-turned l e)) (λ m other. ap (weight_if w) (said_in-turned_other m l e (λ same. other (sym same))))
one_step p w (Bounced l) there = sum_zero (λ m. 0) (lanes p) (λ k d l. refl)
one_step p w Shut there = sum_zero (λ m. 0) (lanes p) (λ k d l. refl)

-- ---- the whole

-- any weight of what was said, summed lane by lane, is that of the steps
pub replies_sum : (p : Plan) (w : Said → ℕ) (T : List Step) → All (HasLane p) T → sum_by (λ l. sum_by w (replies_in T l)) (lanes p) ≡ sum_by (step_weight w) T
unfolding replies_in
replies_sum p w [] there = sum_zero (λ l. 0) (lanes p) (λ k d l. refl)
replies_sum p w (s ∷ T) there =
    let split = sum_agree (λ l. sum_by w (replies_in (s ∷ T) l)) (λ l. weight_if w (said_in l s) + sum_by w (replies_in T l)) (lanes p) (λ k d l. weight_cons w (said_in (slice_index_or (lanes p) k d) s) (replies_in T (slice_index_or (lanes p) k d))) in
    omega (arith, split, sum_plus (λ l. weight_if w (said_in l s)) (λ l. sum_by w (replies_in T l)) (lanes p), one_step p w s (All-head (HasLane p) s T there), replies_sum p w T (All-tail (HasLane p) s T there), sum_by-cons (step_weight w) s T)

-- ---- NEWs, RELEASEs and FORWARD_MOREs

abbrev pub is_new_said : Said → Bool
is_new_said x = is_new_op x.op

abbrev pub is_release_said : Said → Bool
is_release_said x = is_release_op x.op

abbrev pub is_more_said : Said → Bool
is_more_said x = is_more_op x.op

news_weight : (s : Step) → step_weight (λ x. cond (is_new_said x) 1 0) s ≡ cond (is_new s) 1 0 + cond (is_turned s) 1 0
news_weight (Accept q e (New l)) = refl
news_weight (Done l Released) = refl
news_weight s = refl

releases_weight : (s : Step) → step_weight (λ x. cond (is_release_said x) 1 0) s ≡ cond (is_release s) 1 0
releases_weight (Accept q e (New l)) = refl
releases_weight (Done l Released) = refl
releases_weight s = refl

mores_weight : (s : Step) → step_weight (λ x. cond (is_more_said x) 1 0) s ≡ cond (is_more s) 1 0
mores_weight (Accept q e (New l)) = refl
mores_weight (Done l Released) = refl
mores_weight s = refl

-- the NEWs of all lanes were accepted or turned away
pub news_by_lane : (p : Plan) (T : List Step) → All (HasLane p) T → sum_by (λ l. count_by is_new_said (replies_in T l)) (lanes p) ≡ new_count T + turned_count T
news_by_lane p T there =
    replies_sum p (λ x. cond (is_new_said x) 1 0) T there ∙ (sum_agree (step_weight (λ x. cond (is_new_said x) 1 0)) (λ s. cond (is_new s) 1 0 + cond (is_turned s) 1 0) T (λ k d l. news_weight (slice_index_or T k d)) ∙ sum_plus (λ s. cond (is_new s) 1 0) (λ s. cond (is_turned s) 1 0) T)

-- the RELEASEs of all lanes
pub releases_by_lane : (p : Plan) (T : List Step) → All (HasLane p) T → sum_by (λ l. count_by is_release_said (replies_in T l)) (lanes p) ≡ release_count T
releases_by_lane p T there =
    replies_sum p (λ x. cond (is_release_said x) 1 0) T there ∙ sum_agree (step_weight (λ x. cond (is_release_said x) 1 0)) (λ s. cond (is_release s) 1 0) T (λ k d l. releases_weight (slice_index_or T k d))

-- the FORWARD_MOREs of all lanes
pub mores_by_lane : (p : Plan) (T : List Step) → All (HasLane p) T → sum_by (λ l. count_by is_more_said (replies_in T l)) (lanes p) ≡ more_count T
mores_by_lane p T there =
    replies_sum p (λ x. cond (is_more_said x) 1 0) T there ∙ sum_agree (step_weight (λ x. cond (is_more_said x) 1 0)) (λ s. cond (is_more s) 1 0) T (λ k d l. mores_weight (slice_index_or T k d))
