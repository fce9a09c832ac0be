-- A pipeline's table as plain rows.
use Rattle.std.specs.Prelude.{ℕ, ◌-◌, ◌^◌, Bool, List, [], ◌∷◌, map, codes, Vec}
use Rattle.std.specs.declared.alloc.Global.{Global}
use Rattle.toml.specs.Data.{Members}
use Rattle.play_documents.specs.Field.{field_map, knows, number_at, tables_at, text_at}
use Rattle.play_documents.specs.Survey.{device_row, queue_row}
use Rattle.play_documents.specs.declared.field.Field.{Field}
use Rattle.play_documents.specs.declared.survey.DeviceRow.{DeviceRow}
use Rattle.run_documents.specs.Actions.{action_at}
use Rattle.run_documents.specs.declared.survey.StageRow.{StageRow}
use Rattle.run_documents.specs.declared.survey.Survey.{Survey}

-- a pipeline's rows, without where they lie in memory
pub record SurveySeen : Type 0 where
  pub known : Bool
  pub device : DeviceRow
  pub depth : Field ℕ
  pub replies : Field ℕ
  pub trace : Field (List ℕ)
  pub stages : Field (List StageRow)

abbrev pub survey_seen : Survey → SurveySeen
survey_seen s =
    record {
      known = s.known;
      device = s.device;
      depth = s.depth;
      replies = s.replies;
      trace = field_map (λ t. t.now) s.trace;
      stages = field_map (λ (v : Vec StageRow Global). v.items) s.stages;
    }

-- a stage's row: that of its queue, but that the known keys are a stage's, and its action
abbrev pub stage_row : Members → StageRow
stage_row ms =
    record {
      queue = record (queue_row ms) { known = knows (codes "kind" ∷ codes "priority" ∷ codes "slots" ∷ codes "order" ∷ codes "action" ∷ []) ms };
      action = action_at (codes "action") ms;
    }

abbrev pub stages_at : Members → Field (List StageRow)
stages_at ms = field_map (map stage_row) (tables_at (codes "stage") ms)

-- a pipeline's rows
unfoldable pub survey_of : Members → SurveySeen
survey_of ms =
    record {
      known = knows (codes "limit" ∷ codes "quantum" ∷ codes "sweep" ∷ codes "depth" ∷ codes "replies" ∷ codes "serving" ∷ codes "trace" ∷ codes "stage" ∷ []) ms;
      device = device_row ms;
      depth = number_at (2 ^ 32 - 1) (codes "depth") ms;
      replies = number_at (2 ^ 32 - 1) (codes "replies") ms;
      trace = text_at (codes "trace") ms;
      stages = stages_at ms;
    }
