-- The text of a finished run: for each stage, flow and level, each rising, one line of what came to it, where something did.
use Rattle.std.specs.Prelude.{ℕ, ◌-◌, ◌^◌, List, [], ◌∷◌, ◌++◌, length, map, filter, codes, flat_map}
use Rattle.std.specs.Fmt.{decimal}
use Rattle.std.specs.List.{range_with_len}
use Rattle.evt_types.specs.declared.event.Event.{Event}
use Rattle.pipeline_laws.specs.Pipeline.{plain}
use Rattle.pipeline_laws.specs.Worked.{is_of}
use Rattle.pipeline_laws.specs.declared.stage.Action.{Action}
use Rattle.pipeline_laws.specs.declared.stage.Entry.{Entry}

-- payloads, each after one space
abbrev pub payloads_text : List ℕ → List ℕ
payloads_text ns = flat_map (λ n. codes " " ++ decimal n) ns

-- the line of stage k, flow f and level c; none where nothing came
abbrev pub line_of : ℕ → ℕ → ℕ → List ℕ → List ℕ
line_of k f c [] = []
line_of k f c (n ∷ ns) =
    codes "stage " ++ decimal k ++ codes " flow " ++ decimal f ++ codes " level " ++ decimal c ++ codes ":" ++ payloads_text (n ∷ ns) ++ codes "\n"

-- the lines of a flow, level by level, where lists says what came of each flow and level
abbrev pub flow_text : ℕ → (ℕ → ℕ → List ℕ) → ℕ → List ℕ
flow_text k lists f = flat_map (λ c. line_of k f c (lists f c)) (range_with_len 0 4)

-- the numbers from low on, below high
unfoldable pub between : ℕ → ℕ → List ℕ
between low high = range_with_len low (high - low)

-- the lines of a stage, flow by flow
abbrev pub stage_text : (ℕ → ℕ → ℕ → List ℕ) → ℕ → List ℕ
stage_text lists k = flat_map (flow_text k (lists k)) (between 0 (2 ^ 20))

-- stage by stage
abbrev pub run_text : ℕ → (ℕ → ℕ → ℕ → List ℕ) → List ℕ
run_text stages lists = flat_map (stage_text lists) (range_with_len 0 stages)

-- the text of the plain pipeline
abbrev pub plain_text : List Action → List Entry → List ℕ
plain_text actions trace = run_text (length actions) (plain actions trace)

-- the payloads of some events, by flow and level
abbrev pub payloads_of : List Event → ℕ → ℕ → List ℕ
payloads_of events f c = map (λ (e : Event). e.payload) (filter (is_of f c) events)
