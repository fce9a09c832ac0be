-- The steps of a row of gifts.
use Rattle.std.specs.Prelude.{ℕ, List, [], ◌∷◌, map}
use Rattle.evt_types.specs.declared.event.Delivery.{Delivery}
use Rattle.evt_types.specs.declared.step.Step.{Step}
use Rattle.evt_types.specs.declared.step.Step.TheVariants.{Give}

-- the step by which the lane is given this event of the queue
abbrev pub give_of : ℕ → ℕ → Delivery → Step
give_of l q d = Give l q d.number

-- and these
abbrev pub gives_of : ℕ → ℕ → List Delivery → List Step
gives_of l q ds = map (give_of l q) ds

-- by which these lanes are given these events of the queue, each the one at its place
abbrev pub deals_of : ℕ → List Delivery → List ℕ → List Step
deals_of q [] ls = []
deals_of q (d ∷ ds) [] = []
deals_of q (d ∷ ds) (l ∷ ls) = give_of l q d ∷ deals_of q ds ls
