use Rattle.std.proofs.Common.{◌≡◌, ◌++◌, ◌∙◌, ℕ, Some, None, sym, ap, drop, arith}
use Rattle.std.specs.Prelude.{decimal}
use Rattle.std.proofs.lemmas.List.{take-append-drop}
use Rattle.play_documents.specs.Words.{number}
use Rattle.history_reading.proofs.Numbers.{split-decimal, number-decimal, number-written, digits-utf8}
use Rattle.history_reading.proofs.number.number_at.Goals as goal

some_same : (x y : ℕ) → Some x ≡ Some y → x ≡ y
some_same x y e = cc

no_number : (x : ℕ) → None ≡ Some x → ⊥
no_number x e = cc

pub returns-in_default-clause-only : goal.returns-in_default-clause-only
returns-in_default-clause-only c = λ n more small behind e. absurd (c.in_default.ensures.cases.0 (rw c.split_at.ensures.front (digits-utf8 _ c.digit_count.ensures.digits)))

pub returns-in_err-value-clause-only : goal.returns-in_err-value-clause-only
returns-in_err-value-clause-only c = λ n more small behind e.
    let cut = split-decimal c.args.text.now c.digit_count.result n more (omega (arith, small, c.ranges.most)) c.digit_count.ensures.digits c.digit_count.ensures.end behind e in
    let read = number-decimal c.args.most n small (omega (arith, c.ranges.most)) in
    absurd (no_number n (c.in_err-value.ensures.value ∙ ap (number c.args.most) (c.in-Ok.ensures.cases.0 ∙ c.split_at.ensures.front ∙ cut.0) ∙ read))

pub returns-clause-some : goal.returns-clause-some
returns-clause-some c =
    let text = c.args.text.now in
    let i = c.digit_count.result in
    let word = number-written c.args.most c.in_ok-value.value c.in-Ok.word.now (omega (arith, c.ranges.most)) (sym c.in_ok-value.ensures.value) in
    sym (take-append-drop i text) ∙ ap (λ x. x ++ drop i text) (sym c.split_at.ensures.front ∙ sym c.in-Ok.ensures.cases.0 ∙ word) ∙ ap (λ x. decimal c.in_ok-value.value ++ x) (sym c.split_at.ensures.back)

pub returns-clause-only : goal.returns-clause-only
returns-clause-only c = λ n more small behind e.
    let cut = split-decimal c.args.text.now c.digit_count.result n more (omega (arith, small, c.ranges.most)) c.digit_count.ensures.digits c.digit_count.ensures.end behind e in
    let read = number-decimal c.args.most n small (omega (arith, c.ranges.most)) in
    (some_same c.in_ok-value.value n (c.in_ok-value.ensures.value ∙ ap (number c.args.most) (c.in-Ok.ensures.cases.0 ∙ c.split_at.ensures.front ∙ cut.0) ∙ read), c.split_at.ensures.back ∙ cut.1)
