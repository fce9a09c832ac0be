-- Events that are added beside a held one: what one reply more makes of them, and which replies add none.
use Rattle.std.proofs.Common.{◌≡◌, ◌≢◌, ℕ, ◌+◌, ◌<◌, ◌≤◌, true, false, List, [], ◌∷◌, ◌++◌, length, take, All, Some, slice_get, count_by, refl, sym, ap, ◌∙◌, subst, arith, ⊎_elim}
use Rattle.std.specs.Prelude.{◌||◌, if◌then◌else◌}
use Rattle.std.proofs.Math.Seq.{take-append_seam}
use Rattle.std.proofs.lemmas.Bool.{false≢true, cases_Bool, cases_eq, cond-true, cond-false}
use Rattle.std.proofs.lemmas.List.{length_push, take-append-le}
use Rattle.std.proofs.lemmas.List.Sums.{fold-append}
use Rattle.std.proofs.lemmas.Option.{none-some, same_Some, slice_get_within}
use Rattle.lists.proofs.Lists.{All-slice_get, slice_get-append_left, slice_get-last}
use Rattle.evt_types.specs.Additions.{AreBeside, extras_of, more_after}
use Rattle.evt_types.specs.Operation.{is_answer, is_answer_op, is_more_op, is_more_reply, needs_held}
use Rattle.evt_types.specs.declared.event.Op.{Op}
use Rattle.evt_types.specs.declared.event.Op.TheVariants as ops
use Rattle.evt_types.specs.declared.event.Reply.{Reply}
use Rattle.evt_types.specs.declared.event.TheConstants.{MAX_EXTRAS}

-- ---- what adds is no answer

adds_apart : (o : Op) → is_more_op o ≡ true → is_answer_op o ≡ false
adds_apart ops.New adds = refl
adds_apart ops.Forward adds = absurd (false≢true adds)
adds_apart ops.Release adds = absurd (false≢true adds)
adds_apart ops.ForwardMore adds = refl

pub answers_add_none : (r : Reply) → is_answer r ≡ true → is_more_reply r ≡ false
answers_add_none r ends = ⊎_elim (λ adds. absurd (false≢true (sym (adds_apart r.event.op adds) ∙ ends))) (λ plain. plain) (cases_Bool (is_more_reply r))

-- and it needs something that is held
pub more_needs_held : (r : Reply) → is_more_reply r ≡ true → needs_held r ≡ true
more_needs_held r adds = by_op r.event.op adds
  where
    by_op : (o : Op) → is_more_op o ≡ true → (is_answer_op o || is_more_op o) ≡ true
    by_op ops.New adds = adds
    by_op ops.Forward adds = refl
    by_op ops.Release adds = refl
    by_op ops.ForwardMore adds = refl

-- ---- how many were added since the last answer

pub extras-append : (rs : List Reply) (r : Reply) → extras_of (rs ++ r ∷ []) ≡ more_after (extras_of rs) r
extras-append rs r = fold-append more_after 0 rs (r ∷ [])

pub extras-answer : (rs : List Reply) (r : Reply) → is_answer r ≡ true → extras_of (rs ++ r ∷ []) ≡ 0
extras-answer rs r ends =
    extras-append rs r ∙ cond-true (is_answer r) 0 (if is_more_reply r then extras_of rs + 1 else extras_of rs) ends

pub extras-more : (rs : List Reply) (r : Reply) → is_more_reply r ≡ true → extras_of (rs ++ r ∷ []) ≡ extras_of rs + 1
extras-more rs r adds =
    extras-append rs r
    ∙ (cond-false (is_answer r) 0 (if is_more_reply r then extras_of rs + 1 else extras_of rs) (adds_apart r.event.op adds)
    ∙ cond-true (is_more_reply r) (extras_of rs + 1) (extras_of rs) adds)

pub extras-other : (rs : List Reply) (r : Reply) → is_answer r ≡ false → is_more_reply r ≡ false → extras_of (rs ++ r ∷ []) ≡ extras_of rs
extras-other rs r goes_on plain =
    extras-append rs r
    ∙ (cond-false (is_answer r) 0 (if is_more_reply r then extras_of rs + 1 else extras_of rs) goes_on
    ∙ cond-false (is_more_reply r) (extras_of rs + 1) (extras_of rs) plain)

-- ---- each was added while something was held, and as one of few

-- after these replies one may be added
abbrev MayAdd : ℕ → List Reply → Type 0
MayAdd n rs = (count_by is_answer rs < n) × (extras_of rs < MAX_EXTRAS)

-- one reply more
pub beside-append : (n : ℕ) (rs : List Reply) (r : Reply) → AreBeside n rs
    → (is_more_reply r ≡ true → (count_by is_answer rs < n) × (extras_of rs < MAX_EXTRAS)) → AreBeside n (rs ++ r ∷ [])
beside-append n rs r beside may = record { each = λ k x at adds. ⊎_elim (λ same. last k x same at adds) (λ other. front k x other at adds) (cases_eq k (length rs)) }
  where
    last : (k : ℕ) (x : Reply) → k ≡ length rs → slice_get (rs ++ r ∷ []) k ≡ Some x → is_more_reply x ≡ true → MayAdd n (take k (rs ++ r ∷ []))
    last k x same at adds =
        let here : r ≡ x = same_Some r x (sym (slice_get-last rs r) ∙ (ap (λ (j : ℕ). slice_get (rs ++ r ∷ []) j) (sym same) ∙ at)) in
        let before : take k (rs ++ r ∷ []) ≡ rs = ap (λ (j : ℕ). take j (rs ++ r ∷ [])) same ∙ take-append_seam rs (r ∷ []) in
        subst (MayAdd n) (sym before) (may (ap (λ (y : Reply). is_more_reply y) here ∙ adds))

    front : (k : ℕ) (x : Reply) → k ≢ length rs → slice_get (rs ++ r ∷ []) k ≡ Some x → is_more_reply x ≡ true → MayAdd n (take k (rs ++ r ∷ []))
    front k x other at adds =
        let within : k < length (rs ++ r ∷ []) = slice_get_within (rs ++ r ∷ []) k x at in
        let early : k < length rs = omega (arith, within, other, length_push rs r) in
        let before : take k (rs ++ r ∷ []) ≡ take k rs = take-append-le k rs (r ∷ []) (omega arith) in
        subst (MayAdd n) (sym before) (beside.each k x (sym (slice_get-append_left rs (r ∷ []) k early) ∙ at) adds)

-- and more was received
pub beside-kept : (m n : ℕ) (rs : List Reply) → m ≤ n → AreBeside m rs → AreBeside n rs
beside-kept m n rs more beside =
    record { each = λ k r at adds. let was : MayAdd m (take k rs) = beside.each k r at adds in (omega (arith, was.0, more), was.1) }

-- another reply needs nothing
pub beside-other : (n : ℕ) (rs : List Reply) (r : Reply) → is_more_reply r ≡ false → AreBeside n rs → AreBeside n (rs ++ r ∷ [])
beside-other n rs r plain beside = beside-append n rs r beside (λ adds. absurd (false≢true (sym plain ∙ adds)))

pub beside-none : (n : ℕ) → AreBeside n []
beside-none n = record { each = λ k r at adds. absurd (none-some r at) }

-- replies none of which adds an event
pub beside-plain : (n : ℕ) (rs : List Reply) → All (λ r. is_more_reply r ≡ false) rs → AreBeside n rs
beside-plain n rs plain =
    record { each = λ k r at adds. absurd (false≢true (sym (All-slice_get (λ (x : Reply). is_more_reply x ≡ false) rs k r plain at) ∙ adds)) }
