-- What is left in a device that was stopped is handed out, some at a time.
use Rattle.std.specs.Prelude.{ℕ, ℤ, pos, ◌≡◌, suc, List, [], ◌∷◌, ◌++◌, length, min, take, drop, flat_map, slice_index_or, Option, MatchOption}
use Rattle.std.specs.Prelude.Option.{Some, None}
use Rattle.event_handles.specs.Left.{lists_of}
use Rattle.event_handles.specs.Numbers.{no_device}
use Rattle.event_handles.specs.declared.event.CLeft.{CLeft}
use Rattle.event_handles.specs.declared.hub.Hub.{Hub}
use Rattle.event_handles.specs.declared.stopped.Stopped.{Stopped}

-- of lists, what follows the first k of the i-th: the rest of this one, and all of those after it
abbrev pub rest_at : {X : Type 0} → List (List X) → ℕ → ℕ → List X
rest_at xss i k = drop k (slice_index_or xss i []) ++ flat_map (λ xs. xs) (drop (suc i) xss)

-- what was not yet handed out
abbrev pub rest_of : Stopped → List CLeft
rest_of s = rest_at (lists_of s.report s.kinds) s.part s.handed

-- the first of it is handed out, where there is one
pub record Takes (s t : Stopped) (first : Option CLeft) : Type 0 where
  pub rest : MatchOption first ((rest_of s ≡ []) × (rest_of t ≡ [])) (λ x. rest_of s ≡ x ∷ rest_of t)
  pub report : t.report ≡ s.report
  pub kinds : t.kinds ≡ s.kinds

-- as much of it as the array has room for is written to the array's front
pub record Pulls (s t : Stopped) (before after : List CLeft) (count : ℕ) : Type 0 where
  pub count_is : count ≡ min (length before) (length (rest_of s))
  pub written : after ≡ take count (rest_of s) ++ drop count before
  pub rest : rest_of t ≡ drop count (rest_of s)
  pub report : t.report ≡ s.report
  pub kinds : t.kinds ≡ s.kinds

pub record PullsSome (s t : Stopped) (before after : List CLeft) (answer : ℤ) : Type 0 where
  pub count : ℕ
  pub answered : answer ≡ pos count
  pub pulls : Pulls s t before after count

abbrev pub PullsFrom : Option Stopped → Option Stopped → List CLeft → List CLeft → ℤ → Type 0
PullsFrom (Some s) (Some t) before after answer = PullsSome s t before after answer
PullsFrom (Some s) None before after answer = ⊥
PullsFrom None (Some t) before after answer = ⊥
PullsFrom None None before after answer = (answer ≡ no_device) × (after ≡ before)

pub record IsLeft (old new : Hub) (before after : List CLeft) (answer : ℤ) : Type 0 where
  pub pulls : PullsFrom old.stopped new.stopped before after answer
  pub device : new.device ≡ old.device
  pub sweeps : new.sweeps ≡ old.sweeps
  pub why : new.why ≡ old.why
