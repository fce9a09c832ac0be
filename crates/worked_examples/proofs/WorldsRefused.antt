-- Moves that can't be made.
use Rattle.std.specs.Prelude.{◌<◌}
use Rattle.std.proofs.Common.{refl, arith}
use Rattle.std.proofs.lemmas.Option.{none-some}
use Rattle.transcripts.specs.Transcript.{out}
use Rattle.worked_examples.specs.Logs.{atomic_stages, one_worker}
use Rattle.world_laws.specs.World.{LeadsTo, World, empty}
use Rattle.worked_examples.specs.Worlds.{adds_too_many, adds_unreceived, answers_unreceived, receives_twice, takes_unsubmitted}

-- nothing is in the hand
pub unreceived_refused : (v : World) → LeadsTo one_worker empty answers_unreceived v → ⊥
unreceived_refused v leads =
    let some : 0 < 0 = (leads.1.1.1.0).held refl in absurd (omega arith)

pub added_refused : (v : World) → LeadsTo atomic_stages empty adds_unreceived v → ⊥
added_refused v leads =
    let some : 0 < 0 = ((leads.1.1.1.0).beside refl).0 in absurd (omega arith)

-- four were added
pub many_refused : (v : World) → LeadsTo atomic_stages empty adds_too_many v → ⊥
many_refused v leads =
    let few : 4 < 4 = ((leads.1.1.1.1.1.1.1.1.0).beside refl).1 in absurd (omega arith)

-- one event was given
pub twice_refused : (v : World) → LeadsTo one_worker empty receives_twice v → ⊥
unfolding out
twice_refused v leads =
    let more : 1 < 1 = leads.1.1.1.1.0 in absurd (omega arith)

-- there is no reply
pub unsubmitted_refused : (v : World) → LeadsTo one_worker empty takes_unsubmitted v → ⊥
unsubmitted_refused v leads = none-some (leads.0).reply (leads.0).next
