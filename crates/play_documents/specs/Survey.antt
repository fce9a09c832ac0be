-- A document's table as plain rows.
use Rattle.std.specs.Prelude.{ℕ, ◌-◌, ◌^◌, Bool, List, [], ◌∷◌, map, codes, Vec, if◌then◌else◌}
use Rattle.std.specs.declared.alloc.Global.{Global}
use Rattle.toml.specs.Data.{Members}
use Rattle.evt_types.specs.declared.draft.Serving.{Serving}
use Rattle.evt_types.specs.declared.draft.Serving.TheVariants as servings
use Rattle.evt_types.specs.declared.event.Kind.{Kind}
use Rattle.evt_types.specs.declared.event.Kind.TheVariants as kinds
use Rattle.play_documents.specs.Field.{field_map, number_at, flag_at, text_at, numbers_at, tables_at, is_text, knows}
use Rattle.play_documents.specs.Numbers.{most_byte}
use Rattle.play_documents.specs.declared.field.Field.{Field}
use Rattle.play_documents.specs.declared.field.Field.TheVariants.{Absent, Bad, Good}
use Rattle.play_documents.specs.declared.survey.DeviceRow.{DeviceRow}
use Rattle.play_documents.specs.declared.survey.PortRow.{PortRow}
use Rattle.play_documents.specs.declared.survey.QueueRow.{QueueRow}
use Rattle.play_documents.specs.declared.survey.Survey.{Survey}

-- a port's row and a document's rows, without where they lie in memory
pub record PortSeen : Type 0 where
  pub known : Bool
  pub threshold : Field ℕ
  pub depth : Field ℕ
  pub replies : Field ℕ
  pub implicit : Field Bool
  pub links : Field (List ℕ)

pub record SurveySeen : Type 0 where
  pub known : Bool
  pub device : DeviceRow
  pub script : Field (List ℕ)
  pub queues : Field (List QueueRow)
  pub ports : Field (List PortSeen)

abbrev pub port_seen : PortRow → PortSeen
port_seen p =
    record {
      known = p.known;
      threshold = p.threshold;
      depth = p.depth;
      replies = p.replies;
      implicit = p.implicit;
      links = field_map (λ (v : Vec ℕ Global). v.items) p.links;
    }

abbrev pub ports_seen : Vec PortRow Global → List PortSeen
ports_seen v = map port_seen v.items

abbrev pub survey_seen : Survey → SurveySeen
survey_seen s =
    record {
      known = s.known;
      device = s.device;
      script = field_map (λ t. t.now) s.script;
      queues = field_map (λ (v : Vec QueueRow Global). v.items) s.queues;
      ports = field_map ports_seen s.ports;
    }

-- a scheduling type and a serving by name
abbrev pub kind_named : List ℕ → Field Kind
kind_named name =
    if is_text name (codes "ordered") then Good kinds.Ordered
    else (if is_text name (codes "atomic") then Good kinds.Atomic else (if is_text name (codes "parallel") then Good kinds.Parallel else Bad))

abbrev pub serving_named : List ℕ → Field Serving
serving_named name =
    if is_text name (codes "ports") then Good servings.Ports else (if is_text name (codes "flows") then Good servings.Flows else Bad)

-- a text's value by its name
abbrev pub by_name : {A : Type 0} → (List ℕ → Field A) → Field (List ℕ) → Field A
by_name named Absent = Absent
by_name named Bad = Bad
by_name named (Good name) = named name

abbrev pub kind_at : List ℕ → Members → Field Kind
kind_at key ms = by_name kind_named (text_at key ms)

abbrev pub serving_at : List ℕ → Members → Field Serving
serving_at key ms = by_name serving_named (text_at key ms)

-- what a document's table says of its device
unfoldable pub device_row : Members → DeviceRow
device_row ms =
    record {
      limit = number_at (2 ^ 32 - 1) (codes "limit") ms;
      quantum = number_at (2 ^ 32 - 1) (codes "quantum") ms;
      sweep = number_at (2 ^ 32 - 1) (codes "sweep") ms;
      serving = serving_at (codes "serving") ms;
    }

-- a queue's row, a port's and a document's rows
unfoldable pub queue_row : Members → QueueRow
queue_row ms =
    record {
      known = knows (codes "kind" ∷ codes "priority" ∷ codes "slots" ∷ codes "order" ∷ codes "single" ∷ []) ms;
      kind = kind_at (codes "kind") ms;
      priority = number_at most_byte (codes "priority") ms;
      slots = number_at (2 ^ 32 - 1) (codes "slots") ms;
      order = number_at (2 ^ 32 - 1) (codes "order") ms;
      single = flag_at (codes "single") ms;
    }

unfoldable pub port_row : Members → PortSeen
port_row ms =
    record {
      known = knows (codes "threshold" ∷ codes "depth" ∷ codes "replies" ∷ codes "implicit" ∷ codes "links" ∷ []) ms;
      threshold = number_at (2 ^ 32 - 1) (codes "threshold") ms;
      depth = number_at (2 ^ 32 - 1) (codes "depth") ms;
      replies = number_at (2 ^ 32 - 1) (codes "replies") ms;
      implicit = flag_at (codes "implicit") ms;
      links = numbers_at (codes "links") ms;
    }

abbrev pub queues_at : Members → Field (List QueueRow)
queues_at ms = field_map (map queue_row) (tables_at (codes "queue") ms)

abbrev pub ports_at : Members → Field (List PortSeen)
ports_at ms = field_map (map port_row) (tables_at (codes "port") ms)

unfoldable pub survey_of : Members → SurveySeen
survey_of ms =
    record {
      known = knows (codes "limit" ∷ codes "quantum" ∷ codes "sweep" ∷ codes "serving" ∷ codes "script" ∷ codes "queue" ∷ codes "port" ∷ []) ms;
      device = device_row ms;
      script = text_at (codes "script") ms;
      queues = queues_at ms;
      ports = ports_at ms;
    }
