-- A port that is taken apart: what its finished stints left unanswered is what it holds of the flow lanes.
use Rattle.std.proofs.Common.{◌≡◌, ◌++◌, List, [], length, map, sym, ap, ◌∙◌, arith}
use Rattle.std.proofs.lemmas.List.{length-map}
use Rattle.evt_types.specs.Event.{pair_of}
use Rattle.lane_rings.specs.declared.far.Far.{Far}
use Rattle.flow_claims.specs.declared.seating.Seating.{Seating}
use Rattle.event_ports.specs.declared.lane.Holding.{Holding}
use Rattle.event_ports.specs.declared.lane.Lane.TheVariants.{Flow}
use Rattle.event_ports.specs.Holds.{AreIdle, Hands, Ends, GaveBack, held_on, stint_in}
use Rattle.event_ports.specs.Lanes.{AreOrdered, IsEndOf, got_on, said_on, pair_in}
use Rattle.event_ports.proofs.Entries.{none_left, nothing_there}
use Rattle.event_ports.proofs.Unanswered.{nothing_left}

pub end_of : (own : Far) (h : Hands) (xs : List Holding) (v : Seating) → AreOrdered own h xs → GaveBack h → AreIdle h → Ends h v
    → IsEndOf (record { said = said_on own h; got = got_on own h; holding = xs }) v.finished
end_of own h xs v ordered before idle ends = record {
  received = ends.received;
  answered_is = ends.answered_is;
  held = λ j. ordered (Flow j) ∙ ap (map pair_of) (sym (ends.left j ∙ ap (λ r. r ++ held_on h j) (nothing_left j h.view.finished (before j))));
  given_back = λ j none.
      let unheld : held_on h j ≡ [] = none_left (held_on h j) (omega (arith, ap length (ordered (Flow j)), length-map (held_on h j) pair_of, ap length (ap (map pair_in) none))) in
      ends.free j (nothing_there (stint_in h j) (idle j unheld)) ∙ before j;
}
