-- What is added beside held events: how a reply more counts, and that nothing counts where nothing is unanswered.
use Rattle.std.proofs.Common.{◌≡◌, ℕ, zero, suc, ◌+◌, ◌<◌, ◌≤◌, ◌⊎◌, inl, inr, ⊎_elim, true, cond, List, [], ◌∷◌, ◌++◌, length, take, get_or, refl, sym, ap, ◌∙◌, subst, arith, length-drop, count_by}
use Rattle.std.proofs.Math.Seq.{take-length}
use Rattle.std.proofs.lemmas.List.Sums.{fold_push}
use Rattle.std.proofs.lemmas.Option.{slice_get-get_or}
use mathlib.Core.Logic.{dite}
use native.Mathlib.Decide.{ℕ_discrete}
use Rattle.lists.proofs.Parts.{count_by-push, take_next}
use Rattle.evt_types.specs.Additions.{AreBeside, extras_of, more_after}
use Rattle.evt_types.specs.Operation.{is_answer, is_answer_op, is_more_op}
use Rattle.evt_types.specs.declared.event.Delivery.{Delivery}
use Rattle.evt_types.specs.declared.event.Op.{Op}
use Rattle.evt_types.specs.declared.event.Op.TheVariants as ops
use Rattle.evt_types.specs.declared.event.Reply.{Reply}
use Rattle.lane_rings.specs.Ends.{answered, received_by, unanswered}
use Rattle.lane_rings.specs.declared.far.Far.{Far}
use Rattle.event_ports.specs.Holds.{AddedAll, Hands, Same, Says, answered_on, extras_on}
use Rattle.event_ports.specs.Lanes.{release_reply}

pub extras_push : (rs : List Reply) (r : Reply) → extras_of (rs ++ r ∷ []) ≡ more_after (extras_of rs) r
extras_push rs r = fold_push more_after 0 rs r

-- ---- where nothing is unanswered

-- none was added since the last of so many answers, or something is unanswered
step : (o : Op) (m c n : ℕ) → (is_more_op o ≡ true → c < n) → (m ≡ 0) ⊎ (c < n)
    → (cond (is_answer_op o) 0 (cond (is_more_op o) (m + 1) m) ≡ 0) ⊎ (c + cond (is_answer_op o) 1 0 < n)
step ops.New m c n more was = ⊎_elim (λ none. inl none) (λ some. inr (omega (arith, some))) was
step ops.Forward m c n more was = inl refl
step ops.Release m c n more was = inl refl
step ops.ForwardMore m c n more was = inr (omega (arith, more refl))

none_or_held : (n : ℕ) (rs : List Reply) → AreBeside n rs → (k : ℕ) → k ≤ length rs → (extras_of (take k rs) ≡ 0) ⊎ (count_by is_answer (take k rs) < n)
none_or_held n rs are zero le = inl refl
none_or_held n rs are (suc k) le =
    let r : Reply = get_or rs k release_reply in
    let at = slice_get-get_or rs k release_reply (omega (arith, le)) in
    let one : suc k ≡ k + 1 = omega arith in
    let more : take (suc k) rs ≡ take k rs ++ r ∷ [] = ap (λ i. take i rs) one ∙ take_next rs k r at in
    let After : List Reply → Type 0 = λ xs. (extras_of xs ≡ 0) ⊎ (count_by is_answer xs < n) in
    subst After (sym more)
    (⊎_elim
    (λ none. inl (extras_push (take k rs) r ∙ none))
    (λ some. inr (omega (arith, some, count_by-push is_answer (take k rs) r)))
    (step r.event.op (extras_of (take k rs)) (count_by is_answer (take k rs)) n (λ is. (are.each k r at is).0) (none_or_held n rs are k (omega (arith, le)))))

pub none_extra : (far : Far) → unanswered far ≡ [] → extras_of (answered far) ≡ 0
none_extra far none =
    let rs : List Reply = answered far in
    let ds : List Delivery = received_by far in
    let all : take (length rs) rs ≡ rs = take-length rs in
    ⊎_elim
    (λ (no : extras_of (take (length rs) rs) ≡ 0). sym (ap extras_of all) ∙ no)
    (λ (some : count_by is_answer (take (length rs) rs) < length ds).
    absurd (omega (arith, some, ap (count_by is_answer) all, ap length none, length-drop (count_by is_answer rs) ds)))
    (none_or_held (length ds) rs far.beside (length rs) (omega arith))

-- ---- what the port has of its flow lanes

pub added_same : (h k : Hands) → Same h k → AddedAll h → AddedAll k
added_same h k same added = record { each = λ j. same.extras j ∙ added.each j ∙ sym (ap extras_of (same.answered_is j)) }

pub added_said : (h k : Hands) (lane : ℕ) (r : Reply) → Says lane r h k → AddedAll h → AddedAll k
added_said h k lane r says added = record {
  each = λ j.
      let At : ℕ → Type 0 = λ i. extras_on k i ≡ extras_of (answered_on k i) in
      dite (ℕ_discrete j lane)
      (λ e. subst At (sym e) (says.extras ∙ ap (λ n. more_after n r) (added.each lane) ∙ sym (ap extras_of says.answered_is ∙ extras_push (answered_on h lane) r)))
      (λ ne. says.others.extras j ne ∙ added.each j ∙ sym (ap extras_of (says.others.answered_is j ne)));
}
