-- A script's commands as plain data.
use Rattle.std.specs.Prelude.{ℕ, ◌<◌, List, All, length}
use Rattle.evt_types.specs.Plan.{Plan}
use Rattle.evt_types.specs.declared.event.Event.{Event}
use Rattle.evt_types.specs.declared.event.Op.{Op}
use Rattle.evt_types.specs.declared.event.Op.TheVariants as ops
use Rattle.play_documents.specs.declared.command.Command.{Command}
use Rattle.play_documents.specs.declared.command.Command.TheVariants as commands

-- an event's fields
pub record Fields : Type 0 where
  pub flow : ℕ
  pub sub_type : ℕ
  pub event_type : ℕ
  pub op : Op
  pub queue : ℕ
  pub priority : ℕ
  pub impl_opaque : ℕ
  pub payload : ℕ

-- a command's line
pub data Line : Type 0 where
  Enqueue : ℕ → Fields → Line
  Dequeue : ℕ → ℕ → Line
  Sweep : Line
  Shut : Line

abbrev pub fields_of : Event → Fields
fields_of e =
    record { flow = e.flow; sub_type = e.sub_type; event_type = e.event_type; op = e.op; queue = e.queue; priority = e.priority; impl_opaque = e.impl_opaque; payload = e.payload }

-- what a command says
abbrev pub line_of : Command → Line
line_of (commands.Enqueue p e) = Enqueue p (fields_of e)
line_of (commands.Dequeue p max) = Dequeue p max
line_of commands.Sweep = Sweep
line_of commands.Shut = Shut

-- the fields of a NEW, a FORWARD or a FORWARD_MORE, and of a RELEASE
abbrev pub event_fields : Op → ℕ → ℕ → ℕ → ℕ → Fields
event_fields op queue flow priority payload =
    record { flow = flow; sub_type = 0; event_type = 0; op = op; queue = queue; priority = priority; impl_opaque = 0; payload = payload }

abbrev pub release_fields : Fields
release_fields = record { flow = 0; sub_type = 0; event_type = 0; op = ops.Release; queue = 0; priority = 0; impl_opaque = 0; payload = 0 }

-- the command's port is one of so many
abbrev pub IsPortThere : ℕ → Command → Type 0
IsPortThere ports (commands.Enqueue p e) = p < ports
IsPortThere ports (commands.Dequeue p max) = p < ports
IsPortThere ports commands.Sweep = Unit {0}
IsPortThere ports commands.Shut = Unit {0}

abbrev pub AllPortsThere : Plan → List Command → Type 0
AllPortsThere p cs = All (IsPortThere (length p.ports)) cs
