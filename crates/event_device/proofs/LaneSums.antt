-- Sums over the lanes, of what depends on the holders' ends alone, are sums over these ends.
use Rattle.std.proofs.Common.{◌≡◌, ℕ, ◌<◌, List, [], ◌∷◌, length, get_or, Some, sym, ap, ◌∙◌, arith, sum_by}
use Rattle.std.specs.Prelude.{slice_get}
use Rattle.std.specs.List.{range_with_len}
use Rattle.std.proofs.lemmas.Option.{slice_get-get_or}
use Rattle.lists.proofs.Sums.{sum_by_place}
use Rattle.event_ports.proofs.Totals.{sum_within}
use Rattle.lane_rings.specs.declared.far.Far.{Far}
use Rattle.lane_rings.specs.declared.near.Near.{Near}
use Rattle.event_device.specs.Between.{rest_at, rest_between, rest_of}
use Rattle.world_laws.specs.Rest.{Rest}

-- what stands at a lane, where both ends are there
lane_at : (m : Rest → ℕ) (f : Far → ℕ) (nears : List Near) (fars : List Far) (l : ℕ) (near : Near) (far : Far)
    → ((a : Near) (b : Far) → m (rest_between a b) ≡ f b) → l < length nears → l < length fars → m (rest_at nears fars l) ≡ f (get_or fars l far)
lane_at m f nears fars l near far same within there =
    ap (λ a. m (rest_of a (slice_get fars l))) (slice_get-get_or nears l near within)
    ∙ (ap (λ b. m (rest_of (Some (get_or nears l near)) b)) (slice_get-get_or fars l far there) ∙ same (get_or nears l near) (get_or fars l far))

pub lane_sum : (m : Rest → ℕ) (f : Far → ℕ) (nears : List Near) (fars : List Far) (n : ℕ) → ((a : Near) (b : Far) → m (rest_between a b) ≡ f b)
    → length nears ≡ n → length fars ≡ n → sum_by (λ l. m (rest_at nears fars l)) (range_with_len 0 n) ≡ sum_by f fars
lane_sum m f nears [] n same as_many here = ap (λ k. sum_by (λ l. m (rest_at nears [] l)) (range_with_len 0 k)) (sym here)
lane_sum m f [] (b ∷ bs) n same as_many here = absurd (omega arith)
lane_sum m f (a ∷ more) (b ∷ bs) n same as_many here =
    sum_within (λ l. m (rest_at (a ∷ more) (b ∷ bs) l)) (λ l. f (get_or (b ∷ bs) l b)) 0 n n (omega arith)
    (λ l low. lane_at m f (a ∷ more) (b ∷ bs) l a b same (omega (arith, as_many)) (omega (arith, here)))
    ∙ (ap (λ k. sum_by (λ l. f (get_or (b ∷ bs) l b)) (range_with_len 0 k)) (sym here) ∙ sum_by_place f (b ∷ bs) b)
