use Rattle.world_laws.proofs.Places.{answered_parts, one_place}
use Rattle.world_laws.proofs.laws.each_event_is_in_one_place.Goals as goal

pub returns-clause-one : goal.returns-clause-one
returns-clause-one c = one_place

pub returns-clause-answered : goal.returns-clause-answered
returns-clause-answered c = answered_parts
