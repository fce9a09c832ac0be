-- The keys of a document's tables.
use Rattle.std.specs.Prelude.{ℕ, ◌-◌, ◌^◌, Bool, true, false, not, ◌&&◌, ◌||◌, List, [], ◌∷◌, codes, if◌then◌else◌}
use Rattle.toml.specs.Data.{Members}
use Rattle.evt_types.specs.declared.event.Kind.{Kind}
use Rattle.evt_types.specs.declared.event.Kind.TheVariants.{Ordered, Atomic, Parallel}
use Rattle.play_documents.specs.Field.{is_bad, is_known, is_text, number_at, flag_at, text_at, numbers_at, tables_at}
use Rattle.play_documents.specs.Numbers.{most_byte}
use Rattle.play_documents.specs.Survey.{device_row, queue_row}
use Rattle.play_documents.specs.declared.field.Field.{Field}
use Rattle.play_documents.specs.declared.field.Field.TheVariants.{Absent, Bad, Good}
use Rattle.run_documents.specs.Actions.{action_at}
use Rattle.document_checks.specs.declared.places.TableName.{TableName}
use Rattle.document_checks.specs.declared.places.TableName.TheVariants.{Top, Queue, Port, Stage}
use Rattle.document_checks.specs.declared.tables.Reading.{Reading}
use Rattle.document_checks.specs.declared.tables.Reading.TheVariants.{Play, Run}

-- those that a document's own table needs, and the one more that it may have
abbrev pub needed_on_top : Reading → List (List ℕ)
needed_on_top Play = codes "limit" ∷ codes "quantum" ∷ codes "sweep" ∷ codes "script" ∷ codes "queue" ∷ codes "port" ∷ []
needed_on_top (Run workers) = codes "limit" ∷ codes "quantum" ∷ codes "sweep" ∷ codes "depth" ∷ codes "replies" ∷ codes "trace" ∷ codes "stage" ∷ []

-- those that a queue or a stage may have beside its own one, and those that a port needs
abbrev pub queue_keys : List (List ℕ)
queue_keys = codes "kind" ∷ codes "priority" ∷ codes "slots" ∷ codes "order" ∷ []

abbrev pub needed_of_port : List (List ℕ)
needed_of_port = codes "threshold" ∷ codes "depth" ∷ codes "replies" ∷ codes "links" ∷ []

-- whether a table may have the key
abbrev pub may_have : Reading → TableName → List ℕ → Bool
may_have r Top key = is_known (needed_on_top r) key || is_text key (codes "serving")
may_have r (Queue n) key = is_known queue_keys key || is_text key (codes "single")
may_have r (Port n) key = is_known needed_of_port key || is_text key (codes "implicit")
may_have r (Stage n) key = is_known queue_keys key || is_text key (codes "action")

-- whether a table of this kind needs the size of this key: slots where it is atomic, order where it is ordered
abbrev pub needs_size : Field Kind → List ℕ → Bool
needs_size (Good Atomic) key = is_text key (codes "slots")
needs_size (Good Ordered) key = is_text key (codes "order")
needs_size (Good Parallel) key = false
needs_size Absent key = false
needs_size Bad key = false

abbrev pub queue_needs : Members → List ℕ → Bool
queue_needs ms key = is_text key (codes "kind") || needs_size (queue_row ms).kind key

-- whether the table needs the key
abbrev pub needs : Reading → TableName → Members → List ℕ → Bool
needs r Top ms key = is_known (needed_on_top r) key
needs r (Queue n) ms key = queue_needs ms key
needs r (Port n) ms key = is_known needed_of_port key
needs r (Stage n) ms key = queue_needs ms key

-- whether a table has a value at the key that may not stand there
abbrev pub is_bad_number : List ℕ → Members → Bool
is_bad_number key ms = is_bad (number_at (2 ^ 32 - 1) key ms)

abbrev pub top_refuses : Members → List ℕ → Bool
top_refuses ms key =
    if is_text key (codes "serving") then is_bad (device_row ms).serving
    else (if is_known (codes "script" ∷ codes "trace" ∷ []) key then is_bad (text_at key ms)
    else (if is_known (codes "queue" ∷ codes "port" ∷ codes "stage" ∷ []) key then is_bad (tables_at key ms)
    else is_bad_number key ms))

abbrev pub queue_refuses : Members → List ℕ → Bool
queue_refuses ms key =
    if is_text key (codes "kind") then is_bad (queue_row ms).kind
    else (if is_text key (codes "priority") then is_bad (number_at most_byte key ms)
    else (if is_text key (codes "single") then is_bad (flag_at key ms)
    else is_bad_number key ms))

abbrev pub port_refuses : Members → List ℕ → Bool
port_refuses ms key =
    if is_text key (codes "implicit") then is_bad (flag_at key ms)
    else (if is_text key (codes "links") then is_bad (numbers_at key ms)
    else is_bad_number key ms)

abbrev pub stage_refuses : Members → List ℕ → Bool
stage_refuses ms key = if is_text key (codes "action") then is_bad (action_at key ms) else queue_refuses ms key

abbrev pub refuses : TableName → Members → List ℕ → Bool
refuses Top ms key = top_refuses ms key
refuses (Queue n) ms key = queue_refuses ms key
refuses (Port n) ms key = port_refuses ms key
refuses (Stage n) ms key = stage_refuses ms key
