-- A port holds just those flow lanes of which it holds something.
use Rattle.std.proofs.Common.{◌≡◌, ◌≢◌, ℕ, true, false, List, [], length, map, Option, Some, None, refl, sym, ap, ◌∙◌, arith}
use Rattle.std.specs.Option.{is_some}
use Rattle.std.proofs.lemmas.List.{length-map}
use Rattle.evt_types.specs.Event.{pair_of}
use Rattle.flow_claims.specs.Open.{number_in}
use Rattle.flow_claims.specs.Seats.{stint_at}
use Rattle.flow_claims.specs.declared.claim.Stint.{Stint}
use Rattle.flow_claims.specs.declared.seating.Begun.{Begun}
use Rattle.flow_claims.specs.declared.seating.Seating.{Seating}
use Rattle.event_ports.specs.declared.lane.Lane.TheVariants.{Flow}
use Rattle.event_ports.specs.declared.lanes.Lanes.{Lanes}
use Rattle.event_ports.specs.Flows.{hands_of}
use Rattle.event_ports.specs.Holds.{IsEntry, held_now, held_on, stint_in}
use Rattle.event_ports.specs.Lanes.{held_in, held_of, pair_in}
use Rattle.event_ports.proofs.Entries.{none_left, nothing_there}

pub idle_lanes : (a : Lanes) (j : ℕ) → held_of (Flow j) (held_in a.own a.order) ≡ [] → is_some (stint_at (hands_of a.flows).view j) ≡ false
idle_lanes a j none =
    let open_none : held_on (hands_of a.flows) j ≡ [] =
    none_left (held_on (hands_of a.flows) j) (omega (arith, length-map (held_on (hands_of a.flows) j) pair_of, ap length (sym (a.ordered (Flow j)) ∙ ap (map pair_in) none))) in
    ap is_some ((a.flows.are.each j).free (nothing_there _ (a.idle j open_none)))

-- an open stint has a number
open_number : (o : Option Begun) (n : ℕ) → number_in o ≡ Some n → is_some o ≡ true
open_number None n is = absurd (cc)
open_number (Some b) n is = refl

-- where an entry has something unanswered, the seat has a stint of the lane open
entry_open : (links : List ℕ) (v : Seating) (lane : ℕ) (entry : Option Stint) → IsEntry links v lane entry → held_now entry ≢ [] → is_some (stint_at v lane) ≡ true
entry_open links v lane None is some = absurd (some refl)
entry_open links v lane (Some s) is some =
    let at = is.held s refl in
    open_number (stint_at v lane) s.number (ap (λ l. number_in (stint_at v l)) (sym at.lane_is) ∙ at.open_is.number)

-- what a port holds of a flow lane it holds under its open stint
pub staffed_lanes : (a : Lanes) (j : ℕ) → held_of (Flow j) (held_in a.own a.order) ≢ [] → is_some (stint_at (hands_of a.flows).view j) ≡ true
staffed_lanes a j some =
    let none : held_on (hands_of a.flows) j ≡ [] → held_of (Flow j) (held_in a.own a.order) ≡ [] =
    λ is. none_left (held_of (Flow j) (held_in a.own a.order)) (omega (arith, length-map (held_of (Flow j) (held_in a.own a.order)) pair_in, ap length (a.ordered (Flow j) ∙ ap (map pair_of) is))) in
    entry_open a.flows.links.items (hands_of a.flows).view j (stint_in (hands_of a.flows) j) (a.flows.are.each j) (λ is. some (none is))
