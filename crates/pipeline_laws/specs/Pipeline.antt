-- The plain pipeline: what a pipeline makes of its trace, as one thread would compute it.
use Rattle.std.specs.Prelude.{ℕ, ◌+◌, ◌/◌, ◌%◌, ◌^◌, ◌<◌, Bool, ◌&&◌, ◌==◌, List, [], ◌∷◌, map, filter, filter_map, take, Option, Some, None, if◌then◌else◌}
use Rattle.pipeline_laws.specs.declared.stage.Action.{Action}
use Rattle.pipeline_laws.specs.declared.stage.Action.TheVariants.{Pass, Add, DropMultiples}
use Rattle.pipeline_laws.specs.declared.stage.Entry.{Entry}

-- what an action makes of a payload
abbrev pub acted : Action → ℕ → Option ℕ
acted Pass n = Some n
acted (Add k) n = Some ((n + k) % 2 ^ 64)
acted (DropMultiples m) n = if n % m == 0 then None else Some n

-- a divisor isn't 0
abbrev pub IsProper : Action → Type 0
IsProper Pass = Unit {0}
IsProper (Add k) = Unit {0}
IsProper (DropMultiples m) = 0 < m

-- the actions, one after the other, on some payloads: the dropped ones are left out
abbrev pub after_all : List Action → List ℕ → List ℕ
after_all [] ns = ns
after_all (a ∷ rest) ns = after_all rest (filter_map (acted a) ns)

-- an event of the trace of this flow and level
abbrev pub is_entry_of : ℕ → ℕ → Entry → Bool
is_entry_of f c t = (t.flow == f) && (t.priority / 64 == c)

-- what comes to stage k of flow f and level c: the trace's events of that flow and level, in order, after the actions of the stages
-- before it
abbrev pub plain : List Action → List Entry → ℕ → ℕ → ℕ → List ℕ
plain actions trace k f c = after_all (take k actions) (map (λ (t : Entry). t.payload) (filter (is_entry_of f c) trace))
