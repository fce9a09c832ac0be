-- The law of the running world, of what a stop finds.
use Rattle.std.proofs.Common.{ℕ, List}
use Rattle.evt_types.specs.Plan.{Plan}
use Rattle.evt_types.specs.declared.step.Step.{Step}
use Rattle.world_laws.proofs.Consistent.{consistent_end, consistent_none, consistent_run}
use Rattle.world_laws.proofs.Hands.{held_alone}
use Rattle.world_laws.proofs.Orders.{received_as_accepted, received_as_given}
use Rattle.world_laws.proofs.Receipts.{front_run}
use Rattle.world_laws.proofs.Rests.{hand_at_rest, rests_are_a_run}
use Rattle.world_laws.specs.Rest.{AreRests, Rest, found_in}
use Rattle.world_laws.specs.World.{LeadsTo, Move, World, after_moves, empty}
use Rattle.event_device.specs.Stop.{IsWorldOf, IsOrderlyRun}

orderly_run : (p : Plan) (moves : List Move) (v : World) → LeadsTo p empty moves v → IsOrderlyRun p moves v
orderly_run p moves v leads =
    record {
      moments = λ k. consistent_run p empty v moves leads (consistent_none p) k;
      alone = λ k. held_alone p (after_moves moves k) (consistent_run p empty v moves leads (consistent_none p) k);
      fronts = λ l. front_run p empty v moves l leads (consistent_none p);
      accepted = received_as_accepted p moves v leads (consistent_end p empty v moves leads (consistent_none p));
      given = received_as_given p moves v leads;
    }

pub world_of : (p : Plan) (T : List Step) (rest : ℕ → Rest) → AreRests p T rest → IsWorldOf p T rest
world_of p T rest are =
    record {
      run = rests_are_a_run p T rest are;
      every = λ moves leads. orderly_run p moves (found_in T rest) leads;
      hands = λ l. hand_at_rest p T rest l are;
    }
