-- Texts that are written piece by piece.
use Rattle.std.proofs.Common.{◌≡◌, ◌≢◌, ℕ, zero, suc, List, ◌++◌, refl, ap, ◌∙◌}
use Rattle.std.proofs.lemmas.List.{append_assoc}
use Rattle.run_counts.specs.CountsText.{work_of, worker_work}
use Rattle.run_counts.specs.declared.looks.PortWork.{PortWork}

pub two_pieces : (start one new a b : List ℕ) → one ≡ start ++ a → new ≡ one ++ b → new ≡ start ++ (a ++ b)
two_pieces start one new a b first second = second ∙ (ap (λ xs. xs ++ b) first ∙ append_assoc start a b)

pub three_pieces : (start one two new a b c d e : List ℕ) → one ≡ start ++ a → a ≡ d → two ≡ one ++ b → b ≡ e → new ≡ two ++ c → new ≡ start ++ (d ++ (e ++ c))
three_pieces start one two new a b c d e first same second also third =
    two_pieces start one new d (e ++ c) (first ∙ ap (λ xs. start ++ xs) same) (two_pieces one two new e c (second ∙ ap (λ xs. one ++ xs) also) third)

-- a port that isn't the first is a worker's
pub is_worker : (n : ℕ) (w : PortWork) → n ≢ 0 → worker_work w ≡ work_of n w
is_worker zero w other = absurd (other refl)
is_worker (suc n) w other = refl
