-- What is read of a list that a view shows.
use Rattle.std.proofs.Common.{◌≡◌, ℕ, ◌<◌, List, length, get_or, sym, ap, ◌∙◌}
use Rattle.std.proofs.lemmas.List.{get_or_read}

pub shown_at : {X : Type 0} (xs now : List X) (i : ℕ) (x d : X) → xs ≡ now → i < length now → x ≡ get_or xs i x → get_or now i d ≡ x
shown_at xs now i x d is within read = sym (get_or_read now i x within (read ∙ ap (λ ys. get_or ys i x) is) d)
