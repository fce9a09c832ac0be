-- The account at stop, lane by lane and then summed.
use Rattle.std.specs.Prelude.{ℕ, ◌≡◌, ◌+◌, Bool, cond, not, List, [], ◌∷◌, length, drop, count_by, sum_by}
use Rattle.std.proofs.Common.{refl, sym, ap, ◌∙◌, arith, get_or, length-append, length-drop}
use Rattle.std.proofs.lemmas.List.{length-map}
use Rattle.evt_types.specs.Event.{pair_of}
use Rattle.evt_types.specs.Operation.{is_answer, is_answer_op, is_more_op, is_more_reply, is_new_op, is_new_reply, is_release_op, is_release_reply}
use Rattle.evt_types.specs.Plan.{Plan, lanes, queues}
use Rattle.evt_types.specs.declared.event.Op.{Op}
use Rattle.evt_types.specs.declared.event.Op.TheVariants as ops
use Rattle.evt_types.specs.declared.event.Reply.{Reply}
use Rattle.evt_types.specs.declared.step.Step.{Step}
use Rattle.lists.proofs.Parts.{count_by-append, count_by-cons}
use Rattle.lists.proofs.Sums.{sum_agree}
use Rattle.transcripts.specs.Replies.{Said, replies_in, turned_count}
use Rattle.transcripts.specs.Transcript.{answers, inside, kept, out, unanswered, waiting}
use Rattle.transcripts.proofs.Account.{formed_allowed, formed_lanes, settled}
use Rattle.transcripts.proofs.ByLane.{is_more_said, is_new_said, is_release_said, mores_by_lane, news_by_lane, releases_by_lane, sum_plus}
use Rattle.transcripts.proofs.Whole.{steps-Lawful}
use Rattle.world_laws.proofs.Said.{answers_are_said, answers_said, answers_same, ops_same}
use Rattle.world_laws.specs.Account.{events_at, events_left, has_event, mores_submitted, news_submitted, releases_submitted}
use Rattle.world_laws.specs.Rest.{AreRests, IsRest, Rest}

-- a FORWARD is an answer and has an event, a RELEASE is an answer alone, a NEW and a FORWARD_MORE have an event alone
one_reply : (o : Op) → cond (is_answer_op o) 1 0 + (cond (is_new_op o) 1 0 + cond (is_more_op o) 1 0) ≡ cond (not (is_release_op o)) 1 0 + cond (is_release_op o) 1 0
one_reply ops.New = refl
one_reply ops.Forward = refl
one_reply ops.Release = refl
one_reply ops.ForwardMore = refl

kinds : (rs : List Reply) → count_by is_answer rs + (count_by is_new_reply rs + count_by is_more_reply rs) ≡ count_by has_event rs + count_by is_release_reply rs
kinds [] = refl
kinds (r ∷ rs) =
    omega (
      arith,
      count_by-cons is_answer r rs,
      count_by-cons is_new_reply r rs,
      count_by-cons is_more_reply r rs,
      count_by-cons has_event r rs,
      count_by-cons is_release_reply r rs,
      one_reply r.event.op,
      kinds rs,
    )

-- what is unanswered by the transcript is undelivered, held, or answered by a reply that wasn't taken
lane_settles : (T : List Step) (l : ℕ) (r : Rest) → IsRest T l r
    → length (unanswered T l) + (count_by is_new_reply r.untaken + count_by is_more_reply r.untaken) ≡ events_at r + count_by is_release_reply r.untaken
unfolding unanswered
lane_settles T l r is =
    omega (
      arith,
      length-drop (length (answers T l)) (out T l),
      answers_are_said T l,
      ap (count_by answers_said) is.replies,
      answers_same r.taken,
      ap length is.given,
      length-map r.offered pair_of,
      ap length is.received,
      length-append r.received r.undelivered,
      ap (count_by is_answer) is.answered,
      count_by-append is_answer r.taken r.untaken,
      length-map (drop (count_by is_answer r.answered) r.received) pair_of,
      length-drop (count_by is_answer r.answered) r.received,
      is.fewer,
      kinds r.untaken,
    )

-- what was said by some operations is what the transcript has of it and what wasn't taken
lane_said : (f : Op → Bool) (T : List Step) (l : ℕ) (r : Rest) → IsRest T l r
    → count_by (λ (x : Reply). f x.event.op) r.answered ≡ count_by (λ (x : Said). f x.op) (replies_in T l) + count_by (λ (x : Reply). f x.event.op) r.untaken
lane_said f T l r is =
    let asked : Reply → Bool = λ x. f x.event.op in
    let told : Said → Bool = λ x. f x.op in
    omega (arith, ap (count_by asked) is.answered, count_by-append asked r.taken r.untaken, ops_same f r.taken, ap (count_by told) is.replies)

-- ---- all lanes

inside_parts : (p : Plan) (T : List Step)
    → inside p T ≡ sum_by (λ q. length (waiting T q)) (queues p) + sum_by (λ q. length (kept T q)) (queues p) + sum_by (λ l. length (unanswered T l)) (lanes p)
unfolding inside
inside_parts p T = refl

-- where terms agree two by two, so do their sums
sums_agree : (f g h k : ℕ → ℕ) (ls : List ℕ) → ((l : ℕ) → f l + g l ≡ h l + k l) → sum_by f ls + sum_by g ls ≡ sum_by h ls + sum_by k ls
sums_agree f g h k ls same =
    sym (sum_plus f g ls) ∙ (sum_agree (λ l. f l + g l) (λ l. h l + k l) ls (λ i d lt. same (get_or ls i d)) ∙ sum_plus h k ls)

pub sums_split : (f g h : ℕ → ℕ) (ls : List ℕ) → ((l : ℕ) → f l ≡ g l + h l) → sum_by f ls ≡ sum_by g ls + sum_by h ls
sums_split f g h ls same = sum_agree f (λ l. g l + h l) ls (λ i d lt. same (get_or ls i d)) ∙ sum_plus g h ls

-- what all lanes said by some operations
all_said : (f : Op → Bool) (p : Plan) (T : List Step) (rest : ℕ → Rest) → AreRests p T rest
    → sum_by (λ l. count_by (λ (x : Reply). f x.event.op) (rest l).answered) (lanes p)
    ≡ sum_by (λ l. count_by (λ (x : Said). f x.op) (replies_in T l)) (lanes p) + sum_by (λ l. count_by (λ (x : Reply). f x.event.op) (rest l).untaken) (lanes p)
all_said f p T rest are =
    sums_split (λ l. count_by (λ (x : Reply). f x.event.op) (rest l).answered) (λ l. count_by (λ (x : Said). f x.op) (replies_in T l))
    (λ l. count_by (λ (x : Reply). f x.event.op) (rest l).untaken) (lanes p) (λ l. lane_said f T l (rest l) (are.each l))

pub account_settles : (p : Plan) (T : List Step) (rest : ℕ → Rest) (free limit : ℕ) → AreRests p T rest
    → free + news_submitted p rest + mores_submitted p rest ≡ limit + releases_submitted p rest + turned_count T → free + events_left p T rest ≡ limit
account_settles p T rest free limit are paid =
    let allowed = (steps-Lawful p T are.lawful).steps in
    let there = formed_lanes p T (formed_allowed p T allowed) in
    let new_untaken : ℕ → ℕ = λ l. count_by is_new_reply (rest l).untaken in
    let more_untaken : ℕ → ℕ = λ l. count_by is_more_reply (rest l).untaken in
    let release_untaken : ℕ → ℕ = λ l. count_by is_release_reply (rest l).untaken in
    let held = sums_agree (λ l. length (unanswered T l)) (λ l. new_untaken l + more_untaken l) (λ l. events_at (rest l)) release_untaken (lanes p)
    (λ l. lane_settles T l (rest l) (are.each l)) in
    let brought : sum_by (λ l. new_untaken l + more_untaken l) (lanes p) ≡ sum_by new_untaken (lanes p) + sum_by more_untaken (lanes p) =
    sum_plus new_untaken more_untaken (lanes p) in
    let news : news_submitted p rest ≡ sum_by (λ l. count_by is_new_said (replies_in T l)) (lanes p) + sum_by new_untaken (lanes p) = all_said is_new_op p T rest are in
    let mores : mores_submitted p rest ≡ sum_by (λ l. count_by is_more_said (replies_in T l)) (lanes p) + sum_by more_untaken (lanes p) = all_said is_more_op p T rest are in
    let releases : releases_submitted p rest ≡ sum_by (λ l. count_by is_release_said (replies_in T l)) (lanes p) + sum_by release_untaken (lanes p) = all_said is_release_op p T rest are in
    let taken = news_by_lane p T there in
    let added = mores_by_lane p T there in
    let released = releases_by_lane p T there in
    let whole = inside_parts p T in
    let balance = settled p T allowed in
    omega arith
