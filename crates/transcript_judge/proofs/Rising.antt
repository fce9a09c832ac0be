-- Events that wait by rising number.
use Rattle.std.proofs.Common.{◌≡◌, ◌≢◌, ℕ, suc, ◌<◌, not, ◌==◌, List, [], ◌∷◌, filter, get_or, All, ap, ◌∙◌, refl, arith}
use Rattle.std.proofs.lemmas.Bool.{cond-true}
use Rattle.evt_types.specs.declared.event.Numbered.{Numbered}
use Rattle.lists.proofs.Lists.{eqb_other}
use Rattle.transcript_judge.specs.Waiting.{Rise}

-- the number doesn't wait
abbrev pub Lacks : List Numbered → ℕ → Type 0
Lacks ws n = All (λ (w : Numbered). w.number ≢ n) ws

abbrev pub others : ℕ → List Numbered → List Numbered
others n ws = filter (λ (w : Numbered). not (w.number == n)) ws

pub rise_tail : (w : Numbered) (ws : List Numbered) → Rise (w ∷ ws) → Rise ws
rise_tail w ws rise = λ i j d lt within. rise (suc i) (suc j) d (omega (arith, lt)) (omega (arith, within))

pub rest_higher : (w : Numbered) (ws : List Numbered) (n : ℕ) → Rise (w ∷ ws) → w.number ≡ n → Lacks ws n
rest_higher w ws n rise is k d lt same =
    let up : w.number < (get_or ws k d).number = rise 0 (suc k) d (omega arith) (omega (arith, lt)) in omega (arith, up, same, is)

pub all_stay : (ws : List Numbered) (n : ℕ) → Lacks ws n → others n ws ≡ ws
all_stay [] n lacks = refl
all_stay (w ∷ ws) n lacks =
    cond-true (not (w.number == n)) (w ∷ others n ws) (others n ws) (ap not (eqb_other w.number n (lacks 0 w (omega arith))))
    ∙ ap (λ us. w ∷ us) (all_stay ws n (λ k d lt. lacks (suc k) d (omega (arith, lt))))
