-- What a lane said: its answers among its replies, and the front that was taken.
use Rattle.std.specs.Prelude.{ℕ, ◌≡◌, ◌+◌, ◌≤◌, Bool, true, false, cond, List, [], ◌∷◌, ◌++◌, ◌==◌, length, map, count_by, filter_map, Option, Some, None, slice_get}
use Rattle.std.specs.List.{cons_option}
use Rattle.std.specs.Option.{option_map}
use Rattle.std.proofs.Common.{refl, sym, ap, ◌∙◌, arith, append_assoc, get_or, drop}
use Rattle.std.proofs.lemmas.List.{map-append}
use Rattle.std.proofs.lemmas.Option.{slice_get-map}
use Rattle.evt_types.specs.Operation.{is_answer_op, is_answer}
use Rattle.evt_types.specs.declared.event.Event.{Event}
use Rattle.evt_types.specs.declared.event.Op.{Op}
use Rattle.evt_types.specs.declared.event.Op.TheVariants as ops
use Rattle.evt_types.specs.declared.event.Reply.{Reply}
use Rattle.evt_types.specs.declared.step.Outcome.TheVariants.{Forwarded, Released}
use Rattle.evt_types.specs.declared.step.Source.TheVariants.{New}
use Rattle.evt_types.specs.declared.step.Step.{Step}
use Rattle.evt_types.specs.declared.step.Step.TheVariants.{Accept, Done, More, Turned}
use Rattle.lists.proofs.Lists.{drop-slice_get, slice_get-at}
use Rattle.lists.proofs.Parts.{count_by-cons, count_by-front}
use Rattle.lists.proofs.Sums.{sum_of_map, sum_agree}
use Rattle.transcripts.specs.Lawful.{IsPrefix}
use Rattle.transcripts.specs.Replies.{Said, said, said_by, said_in, replies_in}
use Rattle.transcripts.specs.Transcript.{answers, answer_of}

-- whether what is said is an answer
abbrev pub answers_said : Said → Bool
answers_said x = is_answer_op x.op

-- what is said tells the operation
pub said_op : (o : Op) (e : Event) → (said_by o e).op ≡ o
said_op ops.New e = refl
said_op ops.Forward e = refl
said_op ops.Release e = refl
said_op ops.ForwardMore e = refl

one_if : Bool → ℕ
one_if b = cond b 1 0

-- as many replies of some operations are said as there are
pub ops_same : (f : Op → Bool) (rs : List Reply) → count_by (λ (x : Said). f x.op) (map said rs) ≡ count_by (λ (r : Reply). f r.event.op) rs
unfolding one_if
ops_same f rs =
    sum_of_map (λ (x : Said). one_if (f x.op)) said rs
    ∙ sum_agree (λ r. one_if (f (said r).op)) (λ r. one_if (f r.event.op)) rs (λ k d lt. ap (λ o. one_if (f o)) (said_op (get_or rs k d).event.op (get_or rs k d).event))

pub answers_same : (rs : List Reply) → count_by answers_said (map said rs) ≡ count_by is_answer rs
answers_same rs = ops_same is_answer_op rs

-- ---- the answers in a transcript are those that were said

-- what a test of two constructors brings
by_lane : {X Y : Type 0} (b : Bool) (x : X) (p : Y → Bool) (y : Y) → p y ≡ true → length (cons_option (cond b (Some x) None) []) ≡ count_by p (cons_option (cond b (Some y) None) [])
by_lane true x p y h = sym (count_by-cons p y [] ∙ ap (λ c. cond c 1 0 + 0) h)
by_lane false x p y h = refl

by_none : {Y : Type 0} (b : Bool) (p : Y → Bool) (y : Y) → p y ≡ false → 0 ≡ count_by p (cons_option (cond b (Some y) None) [])
by_none true p y h = sym (count_by-cons p y [] ∙ ap (λ c. cond c 1 0 + 0) h)
by_none false p y h = refl

step_answers : (l : ℕ) (s : Step) → length (cons_option (answer_of l s) []) ≡ count_by answers_said (cons_option (said_in l s) [])
step_answers l (Accept q e (New m)) = by_none (m == l) answers_said (said_by ops.New e) refl
step_answers l (Done m (Forwarded e)) = by_lane (m == l) (Forwarded e) answers_said (said_by ops.Forward e) refl
step_answers l (Done m Released) = by_lane (m == l) Released answers_said (record { op = ops.Release; event = None }) refl
step_answers l (More m e) = by_none (m == l) answers_said (said_by ops.ForwardMore e) refl
step_answers l (Turned m e) = by_none (m == l) answers_said (said_by ops.New e) refl
step_answers l s = refl

length_option : {X : Type 0} (o : Option X) (xs : List X) → length (cons_option o xs) ≡ length (cons_option o []) + length xs
length_option None xs = omega arith
length_option (Some x) xs = omega arith

count_option : {X : Type 0} (p : X → Bool) (o : Option X) (xs : List X) → count_by p (cons_option o xs) ≡ count_by p (cons_option o []) + count_by p xs
count_option p None xs = omega arith
count_option p (Some x) xs = omega (arith, count_by-cons p x xs, count_by-cons p x [])

pub answers_are_said : (T : List Step) (l : ℕ) → length (answers T l) ≡ count_by answers_said (replies_in T l)
unfolding answers replies_in
answers_are_said [] l = refl
answers_are_said (s ∷ T) l =
    omega (
      arith,
      length_option (answer_of l s) (filter_map (answer_of l) T),
      count_option answers_said (said_in l s) (filter_map (said_in l) T),
      step_answers l s,
      answers_are_said T l,
    )

-- ---- the front of the replies that was taken

-- no more answers were taken than submitted
pub answers_few : (T : List Step) (l : ℕ) (rs : List Reply) → IsPrefix (replies_in T l) (map said rs) → length (answers T l) ≤ count_by is_answer rs
answers_few T l rs front =
    omega (arith, answers_are_said T l, count_by-front answers_said (replies_in T l) front.0 (map said rs) front.1, answers_same rs)

pub prefix_push : (xs : List Said) (rs : List Reply) (r : Reply) → IsPrefix xs (map said rs) → IsPrefix xs (map said (rs ++ r ∷ []))
prefix_push xs rs r front =
    (front.0 ++ said r ∷ [], sym (append_assoc xs front.0 (said r ∷ [])) ∙ (ap (λ ys. ys ++ said r ∷ []) front.1 ∙ sym (map-append said rs (r ∷ []))))

-- the next is taken
pub prefix_next : (xs : List Said) (rs : List Reply) (r : Reply) → IsPrefix xs (map said rs) → slice_get rs (length xs) ≡ Some r → IsPrefix (xs ++ said r ∷ []) (map said rs)
prefix_next xs rs r front next =
    (drop 1 front.0, append_assoc xs (said r ∷ []) (drop 1 front.0) ∙ (ap (λ ys. xs ++ ys) (sym (drop-slice_get front.0 0 (said r) first)) ∙ front.1))
  where
    first : slice_get front.0 0 ≡ Some (said r)
    first =
        sym (slice_get-at xs front.0)
        ∙ (ap (λ ys. slice_get ys (length xs)) front.1 ∙ (slice_get-map said rs (length xs) ∙ ap (option_map said) next))
