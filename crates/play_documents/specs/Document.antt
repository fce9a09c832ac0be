-- What a document says: the configuration of a device and the commands of a script, or its first fault.
use Rattle.std.specs.Prelude.{◌≡◌, ◌≢◌, ℕ, List, [], length, map, nat_lt, Option, Some, None, Result, Ok, Err, if◌then◌else◌}
use Rattle.std.specs.Str.{is_utf8}
use Rattle.toml.specs.Data.{Members}
use Rattle.toml.specs.Parse.{parse_document}
use Rattle.evt_types.specs.Fault.{fault_of}
use Rattle.evt_types.specs.Plan.{Plan}
use Rattle.evt_types.specs.declared.shape.ShapeFault.{ShapeFault}
use Rattle.evt_types.specs.declared.shape.ShapeFault.TheVariants as shapes
use Rattle.play_documents.specs.Command.{Line, line_of}
use Rattle.play_documents.specs.Drafts.{plan_asked}
use Rattle.play_documents.specs.Field.{value_or}
use Rattle.play_documents.specs.Judge.{first_fault}
use Rattle.play_documents.specs.Numbers.{most_input}
use Rattle.play_documents.specs.Script.{script_of}
use Rattle.play_documents.specs.Survey.{SurveySeen, survey_of}
use Rattle.play_documents.specs.declared.document.Document.{Document}
use Rattle.play_documents.specs.declared.fault.ReadFault.{ReadFault}
use Rattle.play_documents.specs.declared.fault.ReadFault.TheVariants as reads
use Rattle.play_documents.specs.declared.fault.DocFault.{DocFault}
use Rattle.play_documents.specs.declared.fault.DocFault.TheVariants as doc

-- what a document says
pub record Planned : Type 0 where
  pub plan : Plan
  pub commands : List Line

abbrev pub planned_of : Document → Planned
planned_of d = record { plan = d.shape; commands = map line_of d.commands.items }

infixl 10 ◌>>=◌
abbrev pub ◌>>=◌ : {A B : Type 0} → Result A DocFault → (A → Result B DocFault) → Result B DocFault
(Ok x) >>= f = f x
(Err e) >>= f = Err e

-- What a function returned, seen by view, is what reading gives, unless memory ran out.
abbrev pub Fails : {Y : Type 0} → ReadFault → Result Y DocFault → Type 0
Fails (reads.Document f) read = read ≡ Err f
Fails reads.Memory read = Unit {0}

abbrev pub Gives : {X Y : Type 0} → (X → Y) → Result X ReadFault → Result Y DocFault → Type 0
Gives view (Ok x) read = read ≡ Ok (view x)
Gives view (Err e) read = Fails e read

-- the document's table
abbrev pub table_or_fault : Option Members → Result Members DocFault
table_or_fault None = Err doc.NotToml
table_or_fault (Some t) = Ok t

unfoldable pub parsed : List ℕ → Result Members DocFault
parsed bytes = if is_utf8 bytes then table_or_fault (parse_document bytes) else Err doc.NotToml

-- the table of bytes that aren't too many
abbrev pub table_of : List ℕ → Result Members DocFault
table_of bytes = if nat_lt most_input (length bytes) then Err doc.TooLong else parsed bytes

-- the rows, unless they show a fault
abbrev pub unless_fault : {A : Type 0} → Option DocFault → Result A DocFault → Result A DocFault
unless_fault None rest = rest
unless_fault (Some f) rest = Err f

-- the fault of a refused configuration
abbrev pub shape_fault : ShapeFault → ReadFault
shape_fault shapes.Memory = reads.Memory
shape_fault f = reads.Document (doc.Shape f)

-- the configuration, unless the device refuses it
abbrev pub plan_or_fault : Plan → Option ShapeFault → Result Plan DocFault
plan_or_fault p None = Ok p
plan_or_fault p (Some f) = Err (doc.Shape f)

unfoldable pub checked : Plan → Result Plan DocFault
checked p = plan_or_fault p (fault_of p)

-- what the rows say: each fault is looked for in the whole document before the next
unfoldable pub judged : SurveySeen → Result Planned DocFault
judged s =
    unless_fault (first_fault s) (do
      plan ← checked (plan_asked s)
      commands ← script_of (length plan.ports) (value_or [] s.script)
      Ok (record { plan = plan; commands = commands }))

-- what the bytes say: the configuration and the commands, or the first fault
unfoldable pub document_of : List ℕ → Result Planned DocFault
document_of bytes = do
  table ← table_of bytes
  judged (survey_of table)

-- a refused configuration's fault is named by its refusal, which want of memory isn't
abbrev pub IsNamedDoc : DocFault → Type 0
IsNamedDoc (doc.Shape f) = f ≢ shapes.Memory
IsNamedDoc f = Unit {0}

abbrev pub IsNamed : ReadFault → Type 0
IsNamed (reads.Document f) = IsNamedDoc f
IsNamed reads.Memory = Unit {0}
