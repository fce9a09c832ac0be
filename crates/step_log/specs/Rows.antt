-- Steps of one kind in a row.
use Rattle.std.specs.Prelude.{ℕ, ◌≡◌, List, [], ◌∷◌, map, replicate, All}
use Rattle.evt_types.specs.declared.event.Reply.{Reply}
use Rattle.evt_types.specs.declared.step.Outcome.TheVariants.{Forwarded, Released}
use Rattle.evt_types.specs.declared.step.Source.TheVariants.{New, Of}
use Rattle.evt_types.specs.declared.step.Step.{Step}
use Rattle.evt_types.specs.declared.step.Step.TheVariants.{Accept, Done}

-- the queue accepts the lane's NEWs
abbrev pub news_steps : ℕ → ℕ → List Reply → List Step
news_steps lane queue replies = map (λ (r : Reply). Accept queue r.event (New lane)) replies

-- the lane releases so many events
abbrev pub release_steps : ℕ → ℕ → List Step
release_steps lane count = replicate count (Done lane Released)

-- the replies' events are all for the queue
abbrev pub AreTo : ℕ → List Reply → Type 0
AreTo queue replies = All (λ (r : Reply). r.event.queue ≡ queue) replies

-- the lane passes the queue's events of these numbers on as those of the replies, each of which is accepted
abbrev pub forward_steps : ℕ → ℕ → List ℕ → List Reply → List Step
forward_steps lane queue [] replies = []
forward_steps lane queue (n ∷ ns) [] = []
forward_steps lane queue (n ∷ ns) (r ∷ rs) = Done lane (Forwarded r.event) ∷ Accept r.event.queue r.event (Of queue n) ∷ forward_steps lane queue ns rs
