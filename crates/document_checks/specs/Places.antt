-- Which key of which table is at fault.
use Rattle.std.specs.Prelude.{ℕ, ◌≡◌, Bool, true, false, not, ◌&&◌, List, codes, slice_get, string_bytes, Option, Some, None, IfOk}
use Rattle.toml.specs.Data.{Members}
use Rattle.play_documents.specs.Document.{table_of}
use Rattle.play_documents.specs.Field.{rows, tables_at}
use Rattle.play_documents.specs.declared.fault.DocFault.{DocFault}
use Rattle.play_documents.specs.declared.fault.DocFault.TheVariants.{TooLong, NotToml, UnknownKey, MissingKey, BadValue, ParallelInside, LastAction, Shape, LimitTight, BadCommand, BadTrace}
use Rattle.document_checks.specs.Explanations.{has_key}
use Rattle.document_checks.specs.Keys.{may_have, needs, refuses}
use Rattle.document_checks.specs.declared.places.Place.{Place}
use Rattle.document_checks.specs.declared.places.TableName.{TableName}
use Rattle.document_checks.specs.declared.places.TableName.TheVariants.{Top, Queue, Port, Stage}
use Rattle.document_checks.specs.declared.tables.Reading.{Reading}

-- the table of this name in a document's table
abbrev pub table_named : TableName → Members → Option Members
table_named Top ms = Some ms
table_named (Queue n) ms = slice_get (rows (tables_at (codes "queue") ms)) n
table_named (Port n) ms = slice_get (rows (tables_at (codes "port") ms)) n
table_named (Stage n) ms = slice_get (rows (tables_at (codes "stage") ms)) n

-- a key that the table has and may not have; one that it needs and hasn't; one with a value that is refused
abbrev pub is_fault_of : Reading → TableName → Members → List ℕ → DocFault → Bool
is_fault_of r name ms key UnknownKey = has_key key ms && not (may_have r name key)
is_fault_of r name ms key MissingKey = needs r name ms key && not (has_key key ms)
is_fault_of r name ms key BadValue = may_have r name key && refuses name ms key
is_fault_of r name ms key f = false

abbrev pub is_fault_in : Reading → TableName → Option Members → List ℕ → DocFault → Bool
is_fault_in r name None key f = false
is_fault_in r name (Some ms) key f = is_fault_of r name ms key f

-- the document's table has this fault at the place
abbrev pub IsPlaceOf : Reading → Members → DocFault → Place → Type 0
IsPlaceOf r ms f p = is_fault_in r p.table (table_named p.table ms) (string_bytes p.key) f ≡ true

-- so has the document of these bytes
abbrev pub IsPlaceIn : Reading → List ℕ → DocFault → Place → Type 0
IsPlaceIn r bytes f p = IfOk (table_of bytes) (λ ms. IsPlaceOf r ms f p)
