-- Where each accepted event is: it waits or was handed out, once, and what was handed out is with the lanes.
use Rattle.std.specs.Prelude.{ℕ, ◌≡◌, ◌<◌, ◌≤◌, ◌+◌, Bool, true, false, cond, not, ◌&&◌, List, [], ◌∷◌, ◌==◌, length, map, take, drop, filter, count_by, sum_by, All, AllPairs, ◌≢◌, Option, Some, None, if◌then◌else◌}
use Rattle.std.specs.List.{cons_option}
use Rattle.std.proofs.Common.{refl, sym, ap, ◌∙◌, subst, arith, ⊎_elim}
use Rattle.std.proofs.lemmas.Bool.{cases_Bool, cases_eq, false≢true}
use Rattle.std.proofs.lemmas.List.{map-append, take-map, drop-map, take_all}
use Rattle.std.proofs.lemmas.List.Elements.{All-head, All-tail, All-weaker}
use Rattle.std.proofs.lemmas.List.Sums.{sum_by-take-drop}
use Rattle.evt_types.specs.Event.{pair_of}
use Rattle.evt_types.specs.Operation.{is_answer}
use Rattle.evt_types.specs.Plan.{Plan, lanes, lanes_of}
use Rattle.evt_types.specs.declared.event.Delivery.{Delivery}
use Rattle.evt_types.specs.declared.event.Event.{Event}
use Rattle.evt_types.specs.declared.event.Numbered.{Numbered}
use Rattle.evt_types.specs.declared.step.Step.{Step}
use Rattle.evt_types.specs.declared.step.Step.TheVariants.{Accept, Give, Done, More, Turned, Bounced, Shut}
use Rattle.lists.specs.Lists.{has}
use Rattle.lists.proofs.Lists.{All-differs, eqb_other, eqb_same}
use Rattle.lists.proofs.Parts.{count_by-append, count_by-cons}
use Rattle.lists.proofs.Sums.{sum_changed_in}
use Rattle.transcripts.specs.Lawful.{GivesOnce}
use Rattle.transcripts.specs.Transcript.{accepted, entered, given_of, given_to, hand, is_pair, numbered, out, waiting}
use Rattle.transcripts.proofs.Account.{HasLane, formed_lanes}
use Rattle.transcripts.proofs.ByLane.{sum_hit, sum_plus, sum_zero}
use Rattle.transcripts.proofs.Pushes.{given_to-other, given_to-same}
use Rattle.transcripts.proofs.Waits.{waiting-not_given}
use Rattle.world_laws.proofs.Accounts.{sums_split}
use Rattle.world_laws.specs.Places.{answered_pairs, taken_pairs, times_answered, times_held, times_taken, times_undelivered, times_untaken, times_waiting, undelivered_pairs, untaken_pairs}
use Rattle.world_laws.specs.Rest.{AreRests, IsRest, Rest, still_held}

-- ---- counts

abbrev one_if : Bool → ℕ
one_if b = cond b 1 0

count_none : {X : Type 0} (test : X → Bool) (xs : List X) → All (λ x. test x ≡ false) xs → count_by test xs ≡ 0
count_none test xs none = sum_zero (λ x. cond (test x) 1 0) xs (λ k d lt. ap one_if (none k d lt))

-- where each that is counted is kept
count_kept : {X : Type 0} (test keeps : X → Bool) (xs : List X) → ((x : X) → keeps x ≡ false → test x ≡ false)
    → count_by test (filter keeps xs) ≡ count_by test xs
count_kept test keeps [] none = refl
count_kept {X} test keeps (x ∷ xs) none = by_case (keeps x) refl (count_kept test keeps xs none)
  where
    by_case : (b : Bool) → keeps x ≡ b → count_by test (filter keeps xs) ≡ count_by test xs
        → count_by test (cond b (x ∷ filter keeps xs) (filter keeps xs)) ≡ count_by test (x ∷ xs)
    by_case true is rest = count_by-cons test x (filter keeps xs) ∙ (ap (λ m. one_if (test x) + m) rest ∙ sym (count_by-cons test x xs))
    by_case false is rest = omega (arith, rest, ap one_if (none x is), count_by-cons test x xs)

-- ---- an accepted event waits or was handed out

abbrev is_number : ℕ → Numbered → Bool
is_number n w = w.number == n

numbered_before : (k n : ℕ) (es : List Event) → n < k → count_by (is_number n) (numbered k es) ≡ 0
numbered_before k n [] before = refl
numbered_before k n (e ∷ es) before =
    let w : Numbered = record { number = k; event = e } in
    omega (
      arith,
      count_by-cons (is_number n) w (numbered (k + 1) es),
      ap one_if (eqb_other k n (λ same. omega arith)),
      numbered_before (k + 1) n es (omega arith),
    )

numbered_once : (k n : ℕ) (es : List Event) → k ≤ n → n < k + length es → count_by (is_number n) (numbered k es) ≡ 1
numbered_once k n [] from below = absurd (omega arith)
numbered_once k n (e ∷ es) from below =
    let w : Numbered = record { number = k; event = e } in
    let parts = count_by-cons (is_number n) w (numbered (k + 1) es) in
    ⊎_elim
    (λ same. omega (arith, parts, ap one_if (ap (λ i. i == n) same ∙ eqb_same n), numbered_before (k + 1) n es (omega arith)))
    (λ other. omega (arith, parts, ap one_if (eqb_other k n other), numbered_once (k + 1) n es (omega arith) (omega arith)))
    (cases_eq k n)

-- how often the number is in the list
abbrev times : ℕ → List ℕ → ℕ
times n ns = count_by (λ m. m == n) ns

times_none : (n : ℕ) (ns : List ℕ) → has n ns ≡ false → times n ns ≡ 0
times_none n ns missing = count_none (λ m. m == n) ns (All-weaker (λ m. m ≢ n) (λ m. (m == n) ≡ false) (λ m other. eqb_other m n other) ns (All-differs n ns missing))

times_one : (n : ℕ) (ns : List ℕ) → AllPairs (λ i j. i ≢ j) ns → has n ns ≡ true → times n ns ≡ 1
times_one n ns once there =
    let one : one_if (n == n) + 0 ≡ 0 + 1 = omega (arith, ap one_if (eqb_same n)) in
    let none : sum_by (λ (m : ℕ). 0) ns ≡ 0 = sum_zero (λ (m : ℕ). 0) ns (λ k d lt. refl) in
    omega (arith, none, sum_changed_in (λ (m : ℕ). one_if (m == n)) (λ (m : ℕ). 0) ns n 0 1 once there one (λ m other. ap one_if (eqb_other m n other)))

waits_once : (T : List Step) (q n : ℕ) → n < length (accepted T q) → has n (hand T q) ≡ false → times_waiting T q n ≡ 1
unfolding waiting
waits_once T q n below missing =
    count_kept (is_number n) (λ (w : Numbered). not (has w.number (hand T q))) (entered T q)
    (λ w gone. eqb_other w.number n (λ same. false≢true (sym gone ∙ (ap (λ m. not (has m (hand T q))) same ∙ ap not missing))))
    ∙ numbered_once 0 n (accepted T q) (omega arith) (omega arith)

-- it waits where it wasn't handed out, and there once
waits_or_given : (T : List Step) (q n : ℕ) → GivesOnce T → n < length (accepted T q) → times_waiting T q n + times n (hand T q) ≡ 1
waits_or_given T q n once below = ⊎_elim handed left (cases_Bool (has n (hand T q)))
  where
    handed : has n (hand T q) ≡ true → times_waiting T q n + times n (hand T q) ≡ 1
    handed found =
        let none : times_waiting T q n ≡ 0 =
        count_none (is_number n) (waiting T q)
        (All-weaker (λ (w : Numbered). has w.number (hand T q) ≡ false) (λ (w : Numbered). (w.number == n) ≡ false)
        (λ w missing. eqb_other w.number n (λ same. false≢true (sym missing ∙ (ap (λ (m : ℕ). has m (hand T q)) same ∙ found)))) (waiting T q) (waiting-not_given T q)) in
        omega (arith, none, times_one n (hand T q) (once.once q) found)

    left : has n (hand T q) ≡ false → times_waiting T q n + times n (hand T q) ≡ 1
    left missing = omega (arith, times_none n (hand T q) missing, waits_once T q n below missing)

-- ---- what the lanes were given, lane by lane, is the hand-out

abbrev ones : {X : Type 0} → (X → Bool) → Option X → ℕ
ones test None = 0
ones test (Some x) = cond (test x) 1 0

count_option : {X : Type 0} (test : X → Bool) (o : Option X) (xs : List X) → count_by test (cons_option o xs) ≡ ones test o + count_by test xs
count_option test None xs = omega arith
count_option test (Some x) xs = count_by-cons test x xs

pair_number : (q n r k : ℕ) → one_if (is_pair q n (r, k)) ≡ ones (λ m. m == n) (if r == q then Some k else None)
pair_number q n r k = by_case (r == q)
  where
    by_case : (b : Bool) → one_if (b && (k == n)) ≡ ones (λ m. m == n) (if b then Some k else None)
    by_case true = refl
    by_case false = refl

-- one step gives to one lane alone
one_lane : (p : Plan) (q n : ℕ) (s : Step) → HasLane p s → sum_by (λ l. ones (is_pair q n) (given_to l s)) (lanes p) ≡ ones (λ m. m == n) (given_of q s)
one_lane p q n (Give m r k) there =
    sum_hit (λ l. ones (is_pair q n) (given_to l (Give m r k))) (lanes_of p) m (one_if (is_pair q n (r, k))) there
    (ap (ones (is_pair q n)) (given_to-same m r k)) (λ l other. ap (ones (is_pair q n)) (given_to-other l m r k (λ same. other (sym same))))
    ∙ pair_number q n r k
one_lane p q n (Accept r e c) there = sum_zero (λ (l : ℕ). 0) (lanes p) (λ k d lt. refl)
one_lane p q n (Done l o) there = sum_zero (λ (l : ℕ). 0) (lanes p) (λ k d lt. refl)
one_lane p q n (More l e) there = sum_zero (λ (l : ℕ). 0) (lanes p) (λ k d lt. refl)
one_lane p q n (Turned l e) there = sum_zero (λ (l : ℕ). 0) (lanes p) (λ k d lt. refl)
one_lane p q n (Bounced l) there = sum_zero (λ (l : ℕ). 0) (lanes p) (λ k d lt. refl)
one_lane p q n Shut there = sum_zero (λ (l : ℕ). 0) (lanes p) (λ k d lt. refl)

given_by_lane : (p : Plan) (q n : ℕ) (T : List Step) → All (HasLane p) T → sum_by (λ l. count_by (is_pair q n) (out T l)) (lanes p) ≡ times n (hand T q)
unfolding out hand
given_by_lane p q n [] there = sum_zero (λ (l : ℕ). 0) (lanes p) (λ k d lt. refl)
given_by_lane p q n (s ∷ T) there =
    let split = sums_split (λ l. count_by (is_pair q n) (out (s ∷ T) l)) (λ l. ones (is_pair q n) (given_to l s)) (λ l. count_by (is_pair q n) (out T l)) (lanes p)
    (λ l. count_option (is_pair q n) (given_to l s) (out T l)) in
    let handed : times n (hand (s ∷ T) q) ≡ ones (λ m. m == n) (given_of q s) + times n (hand T q) = count_option (λ m. m == n) (given_of q s) (hand T q) in
    omega (arith, split, handed, one_lane p q n s (All-head (HasLane p) s T there), given_by_lane p q n T (All-tail (HasLane p) s T there))

-- ---- what a lane was given is undelivered, held or answered

split_at : (test : ℕ × ℕ → Bool) (k : ℕ) (ds : List Delivery)
    → count_by test (map pair_of ds) ≡ count_by test (map pair_of (drop k ds)) + count_by test (map pair_of (take k ds))
split_at test k ds =
    omega (
      arith,
      sum_by-take-drop (λ x. one_if (test x)) (map pair_of ds) k,
      ap (count_by test) (take-map pair_of k ds),
      ap (count_by test) (drop-map pair_of k ds),
    )

lane_places : (T : List Step) (l : ℕ) (r : Rest) (test : ℕ × ℕ → Bool) → IsRest T l r
    → count_by test (out T l) ≡ count_by test (undelivered_pairs r) + (count_by test (still_held r) + count_by test (answered_pairs r))
lane_places T l r test is =
    omega (
      arith,
      ap (count_by test) (sym is.given ∙ (ap (map pair_of) is.received ∙ map-append pair_of r.received r.undelivered)),
      count_by-append test (map pair_of r.received) (map pair_of r.undelivered),
      split_at test (count_by is_answer r.answered) r.received,
    )

lanes_places : (p : Plan) (T : List Step) (rest : ℕ → Rest) (q n : ℕ) → AreRests p T rest
    → times n (hand T q) ≡ times_undelivered p rest q n + (times_held p rest q n + times_answered p rest q n)
lanes_places p T rest q n are =
    let undelivered : ℕ → ℕ = λ l. count_by (is_pair q n) (undelivered_pairs (rest l)) in
    let held : ℕ → ℕ = λ l. count_by (is_pair q n) (still_held (rest l)) in
    let answered : ℕ → ℕ = λ l. count_by (is_pair q n) (answered_pairs (rest l)) in
    sym (given_by_lane p q n T (formed_lanes p T are.lawful.formed))
    ∙ (sums_split (λ l. count_by (is_pair q n) (out T l)) undelivered (λ l. held l + answered l) (lanes p)
    (λ l. lane_places T l (rest l) (is_pair q n) (are.each l)) ∙ ap (λ m. sum_by undelivered (lanes p) + m) (sum_plus held answered (lanes p)))

given_once : (p : Plan) (T : List Step) (rest : ℕ → Rest) → AreRests p T rest → GivesOnce T
given_once p T rest are = subst GivesOnce (take_all (length T) T (omega arith)) (are.lawful.once (length T) (omega arith))

pub one_place : (p : Plan) (T : List Step) (rest : ℕ → Rest) (q n : ℕ) → AreRests p T rest → n < length (accepted T q)
    → times_waiting T q n + times_undelivered p rest q n + times_held p rest q n + times_answered p rest q n ≡ 1
one_place p T rest q n are below = omega (arith, waits_or_given T q n (given_once p T rest are) below, lanes_places p T rest q n are)

-- the scheduler took the answer or it didn't
pub answered_parts : (p : Plan) (rest : ℕ → Rest) (q n : ℕ) → times_answered p rest q n ≡ times_taken p rest q n + times_untaken p rest q n
answered_parts p rest q n =
    sums_split (λ l. count_by (is_pair q n) (answered_pairs (rest l))) (λ l. count_by (is_pair q n) (taken_pairs (rest l)))
    (λ l. count_by (is_pair q n) (untaken_pairs (rest l))) (lanes p)
    (λ l. sym (sum_by-take-drop (λ x. cond (is_pair q n x) 1 0) (answered_pairs (rest l)) (count_by is_answer (rest l).taken)))
