-- What is written behind what was written.
use Rattle.std.proofs.Common.{◌≡◌, ℕ, List, ◌++◌, ap, ◌∙◌, append_assoc}
use Rattle.std.specs.Prelude.{Result, Ok, Err, OnOk, is_ok, if◌then◌else◌}

more : (o o1 o2 a b : List ℕ) → o1 ≡ o ++ a → o2 ≡ o1 ++ b → o2 ≡ o ++ (a ++ b)
more o o1 o2 a b e h = h ∙ (ap (λ xs. xs ++ b) e ∙ append_assoc o a b)

pub on_more : {X E : Type 0} (r : Result X E) (o o1 o2 a b : List ℕ) → o1 ≡ o ++ a → OnOk r (o2 ≡ o1 ++ b) → OnOk r (o2 ≡ o ++ (a ++ b))
on_more (Ok x) o o1 o2 a b e h = more o o1 o2 a b e h
on_more (Err x) o o1 o2 a b e h = tt

pub on_pushed : {X E : Type 0} (r : Result X E) (o o1 b : List ℕ) → o1 ≡ (if is_ok r then o ++ b else o) → OnOk r (o1 ≡ o ++ b)
on_pushed (Ok x) o o1 b h = h
on_pushed (Err x) o o1 b h = tt
