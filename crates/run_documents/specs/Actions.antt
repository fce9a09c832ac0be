-- A stage's action by its text.
use Rattle.std.specs.Prelude.{ℕ, ◌-◌, ◌^◌, ◌==◌, List, [], ◌∷◌, codes, Option, Some, None, option_map, option_and_then, if◌then◌else◌}
use Rattle.std.specs.List.{slice_split}
use Rattle.toml.specs.Data.{Members}
use Rattle.pipeline_laws.specs.declared.stage.Action.{Action}
use Rattle.pipeline_laws.specs.declared.stage.Action.TheVariants.{Pass, Add, DropMultiples}
use Rattle.play_documents.specs.Field.{good_or_bad, is_text, text_at}
use Rattle.play_documents.specs.Survey.{by_name}
use Rattle.play_documents.specs.Words.{number}
use Rattle.play_documents.specs.declared.field.Field.{Field}

-- `add K`
abbrev pub adds : List ℕ → Option Action
adds word = option_map (λ n. Add n) (number (2 ^ 64 - 1) word)

-- `drop M`, of which M isn't 0
abbrev pub drop_by : ℕ → Option Action
drop_by n = if n == 0 then None else Some (DropMultiples n)

abbrev pub drops : List ℕ → Option Action
drops word = option_and_then drop_by (number (2 ^ 64 - 1) word)

-- the action of some words
abbrev pub action_of : List (List ℕ) → Option Action
action_of [] = None
action_of (a ∷ []) = if is_text a (codes "pass") then Some Pass else None
action_of (a ∷ b ∷ []) = if is_text a (codes "add") then adds b else if is_text a (codes "drop") then drops b else None
action_of (a ∷ b ∷ c ∷ more) = None

-- the action of a text, whose words stand one space apart
unfoldable pub action_in : List ℕ → Option Action
action_in text = action_of (slice_split (λ b. b == 32) text)

-- the action at a key
abbrev pub action_named : List ℕ → Field Action
action_named text = good_or_bad (action_in text)

abbrev pub action_at : List ℕ → Members → Field Action
action_at key ms = by_name action_named (text_at key ms)
