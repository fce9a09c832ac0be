use Rattle.std.proofs.Common.{◌≡◌, ◌++◌, flat_map, length, map}
use Rattle.evt_types.specs.Place.{Place}
use Rattle.transcripts.specs.Standing.{accepts_from, leaving, staying}
use Rattle.transcript_judge.specs.Ledger.{accept_of}
use Rattle.transcript_judge.proofs.ledger.let_go.Given as goal

abbrev pub invariant-front : goal.invariant-front
invariant-front l = record {
  stay : staying l.spots.items ≡ staying l.fn.spots.items;
  due : map accept_of l.due.items ++ flat_map (λ (x : Place). accepts_from l.queue x.number x.forwards) (leaving l.spots.items) ≡ map accept_of l.fn.due.items ++ flat_map (λ (x : Place). accepts_from l.queue x.number x.forwards) (leaving l.fn.spots.items);
}

abbrev pub decreases-front : goal.decreases-front
decreases-front l = length l.spots.items
