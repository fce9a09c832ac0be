-- What a dequeue has done of the links up to a position, and what is ahead of it.
use Rattle.std.proofs.Common.{◌≡◌, ◌≢◌, ℕ, ◌+◌, ◌<◌, ◌≤◌, true, List, slice_get, Option, Some, None, sym, ap, ◌∙◌, subst, arith}
use Rattle.std.proofs.lemmas.Bool.{false_from_ne_true}
use Rattle.std.proofs.lemmas.Option.{same_Some}
use Rattle.std.specs.Option.{is_some}
use mathlib.Core.Logic.{dite}
use native.Mathlib.Decide.{ℕ_discrete, dec_le}
use Rattle.lists.proofs.Lists.{All-has}
use Rattle.lane_rings.specs.LaneSets.{Has}
use Rattle.lane_rings.specs.declared.hints.LaneSet.{LaneSet}
use Rattle.flow_claims.specs.declared.claim.Stint.{Stint}
use Rattle.flow_claims.specs.declared.claims.Claims.{Claims}
use Rattle.flow_claims.specs.declared.claims.ClaimSeat.{ClaimSeat}
use Rattle.event_ports.specs.Holds.{AreFlows, Hands, IsDrained, entry_at, stint_in}
use Rattle.event_ports.specs.Looks.{IsLinkSet, IsIn}
use Rattle.event_ports.proofs.Entries.{Stints}
use Rattle.event_ports.proofs.Looks.{all_at, free_drained, placed_once}

-- of the links past the position, each lane that is held is left to be looked at
abbrev pub AreAhead : LaneSet → List ℕ → LaneSet → ℕ → Hands → Type 0
AreAhead linked links left position h = (j lane : ℕ) → position < j → slice_get links j ≡ Some lane → IsIn linked lane → is_some (stint_in h lane) ≡ true → Has left lane

-- of those before it, each lane that is held is drained
abbrev pub AreDone : List ℕ → ℕ → Hands → Type 0
AreDone links position h = (j lane : ℕ) → j < position → slice_get links j ≡ Some lane → IsDrained (stint_in h lane)

-- the links from one position up to another are of lanes that aren't left
abbrev pub ArePassed : LaneSet → List ℕ → LaneSet → ℕ → ℕ → Type 0
ArePassed linked links left from to = (j lane : ℕ) → from ≤ j → j < to → slice_get links j ≡ Some lane → IsIn linked lane × (¬ Has left lane)

-- a lane that isn't left isn't held
pub passed_done : (linked : LaneSet) (links : List ℕ) (left : LaneSet) (from to : ℕ) (h : Hands)
    → ((j lane : ℕ) → from ≤ j → slice_get links j ≡ Some lane → IsIn linked lane → is_some (stint_in h lane) ≡ true → Has left lane) → ArePassed linked links left from to
    → (j lane : ℕ) → from ≤ j → j < to → slice_get links j ≡ Some lane → IsDrained (stint_in h lane)
passed_done linked links left from to h ahead passed j lane le lt at =
    let both = passed j lane le lt at in
    free_drained (stint_in h lane) (false_from_ne_true (is_some (stint_in h lane)) (λ is. both.1 (ahead j lane le at both.0 is)))

-- a lane was looked at: the others past its position are held as before
pub ahead_still : (linked : LaneSet) (links : List ℕ) (left : LaneSet) (position here : ℕ) (h k : Hands) → IsLinkSet linked links → slice_get links position ≡ Some here
    → ((j : ℕ) → j ≢ here → stint_in k j ≡ stint_in h j) → AreAhead linked links left position h → AreAhead linked links left position k
ahead_still linked links left position here h k are at others ahead j lane lt is_at seen is =
    dite (ℕ_discrete lane here)
    (λ e. absurd (omega (arith, lt, placed_once linked links j position lane are is_at (at ∙ ap Some (sym e)) seen)))
    (λ ne. ahead j lane lt is_at seen (sym (ap is_some (others lane ne)) ∙ is))

-- and those before it are drained as before, with this one
pub done_more : (links : List ℕ) (position here : ℕ) (h k : Hands) → slice_get links position ≡ Some here
    → ((j : ℕ) → j ≢ here → stint_in k j ≡ stint_in h j) → IsDrained (stint_in k here) → AreDone links position h → AreDone links (position + 1) k
done_more links position here h k at others drained done j lane lt is_at =
    dite (ℕ_discrete lane here)
    (λ e. subst (λ l. IsDrained (stint_in k l)) (sym e) drained)
    (λ ne. subst IsDrained (sym (others lane ne))
    (done j lane (dite (ℕ_discrete j position) (λ e. absurd (ne (same_Some lane here (sym is_at ∙ ap (slice_get links) e ∙ at)))) (λ apart. omega (arith, lt, apart))) is_at))

pub done_past : (links : List ℕ) (from to : ℕ) (h : Hands) → AreDone links from h → ((j lane : ℕ) → from ≤ j → j < to → slice_get links j ≡ Some lane → IsDrained (stint_in h lane)) → AreDone links to h
done_past links from to h done more j lane lt at = dite (dec_le from j) (λ le. more j lane le lt at) (λ before. done j lane (omega (arith, before)) at)

-- once all links are done, each lane that is held is drained
pub all_drained : (claims : Claims) (seat : ClaimSeat) (stints : Stints) (links : List ℕ) → AreFlows claims seat stints links
    → ((j lane : ℕ) → slice_get links j ≡ Some lane → IsDrained (entry_at stints lane)) → (lane : ℕ) (o : Option Stint) → entry_at stints lane ≡ o → IsDrained (entry_at stints lane)
all_drained claims seat stints links are done lane None at = subst IsDrained (sym at) tt
all_drained claims seat stints links are done lane (Some s) at =
    All-has (λ l. IsDrained (entry_at stints l)) lane links (all_at (λ l. IsDrained (entry_at stints l)) links done) ((are.each lane).held s at).linked
