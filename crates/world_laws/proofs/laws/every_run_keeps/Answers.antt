use Rattle.world_laws.proofs.Consistent.{consistent_end, consistent_none, consistent_run}
use Rattle.world_laws.proofs.Hands.{held_alone}
use Rattle.world_laws.proofs.Orders.{received_as_accepted, received_as_given}
use Rattle.world_laws.proofs.Receipts.{front_run}
use Rattle.world_laws.proofs.Worlds.{leads_to_moment}
use Rattle.world_laws.specs.World.{after_moves, empty}
use Rattle.world_laws.proofs.laws.every_run_keeps.Goals as goal

pub returns-clause-moments : goal.returns-clause-moments
returns-clause-moments c p moves v leads k = leads_to_moment p empty v moves leads k

pub returns-clause-consistent : goal.returns-clause-consistent
returns-clause-consistent c p moves v leads k = consistent_run p empty v moves leads (consistent_none p) k

pub returns-clause-alone : goal.returns-clause-alone
returns-clause-alone c p moves v leads k = held_alone p (after_moves moves k) (consistent_run p empty v moves leads (consistent_none p) k)

pub returns-clause-received : goal.returns-clause-received
returns-clause-received c p moves v l leads = front_run p empty v moves l leads (consistent_none p)

pub returns-clause-order : goal.returns-clause-order
returns-clause-order c p moves v leads = received_as_accepted p moves v leads (consistent_end p empty v moves leads (consistent_none p))

pub returns-clause-given : goal.returns-clause-given
returns-clause-given c = received_as_given
