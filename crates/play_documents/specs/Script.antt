-- What a script says: its commands, or the fault of its first bad line.
use Rattle.std.specs.Prelude.{ℕ, ◌-◌, ◌^◌, ◌==◌, List, [], ◌∷◌, codes, Option, Some, None, option_map, option_and_then, Result, if◌then◌else◌}
use Rattle.std.specs.List.{slice_split}
use Rattle.play_documents.specs.Command.{Line, Enqueue, Dequeue, Sweep, Shut, event_fields, release_fields}
use Rattle.evt_types.specs.declared.event.Op.{Op}
use Rattle.evt_types.specs.declared.event.Op.TheVariants as ops
use Rattle.play_documents.specs.Field.{is_text}
use Rattle.play_documents.specs.Lines.{lines_of}
use Rattle.play_documents.specs.Numbers.{flows, most_byte, most_dequeue}
use Rattle.play_documents.specs.Words.{number, port_number}
use Rattle.play_documents.specs.declared.fault.DocFault.{DocFault}
use Rattle.play_documents.specs.declared.fault.DocFault.TheVariants.{BadCommand}

infixl 10 ◌>>=◌
abbrev pub ◌>>=◌ : {A B : Type 0} → Option A → (A → Option B) → Option B
o >>= f = option_and_then f o

-- `new P Q FLOW PRIO PAYLOAD`, and the same with `fwd` and with `more`
abbrev pub entry_op : List ℕ → Option Op
entry_op name =
    if is_text name (codes "new") then Some ops.New
    else if is_text name (codes "fwd") then Some ops.Forward
    else if is_text name (codes "more") then Some ops.ForwardMore else None

unfoldable pub event_line : Op → ℕ → List ℕ → List ℕ → List ℕ → List ℕ → List ℕ → Option Line
event_line op ports p q flow prio payload = do
  port ← port_number ports p
  queue ← number most_byte q
  flow ← number (flows - 1) flow
  priority ← number most_byte prio
  payload ← number (2 ^ 64 - 1) payload
  Some (Enqueue port (event_fields op queue flow priority payload))

-- `rel P`
unfoldable pub release_line : ℕ → List ℕ → Option Line
release_line ports p = option_map (λ port. Enqueue port release_fields) (port_number ports p)

-- `deq P MAX`
unfoldable pub dequeue_line : ℕ → List ℕ → List ℕ → Option Line
dequeue_line ports p most = do
  port ← port_number ports p
  max ← number most_dequeue most
  Some (Dequeue port max)

-- the command of a line's words
abbrev pub command_of : ℕ → List (List ℕ) → Option Line
command_of ports [] = None
command_of ports (a ∷ []) = if is_text a (codes "sweep") then Some Sweep else if is_text a (codes "shut") then Some Shut else None
command_of ports (a ∷ b ∷ []) = if is_text a (codes "rel") then release_line ports b else None
command_of ports (a ∷ b ∷ c ∷ []) = if is_text a (codes "deq") then dequeue_line ports b c else None
command_of ports (a ∷ b ∷ c ∷ d ∷ []) = None
command_of ports (a ∷ b ∷ c ∷ d ∷ e ∷ []) = None
command_of ports (a ∷ b ∷ c ∷ d ∷ e ∷ f ∷ []) = entry_op a >>= (λ op. event_line op ports b c d e f)
command_of ports (a ∷ b ∷ c ∷ d ∷ e ∷ f ∷ g ∷ more) = None

-- the command of a line: its words stand one space apart
unfoldable pub line_command : ℕ → List ℕ → Option Line
line_command ports line = command_of ports (slice_split (λ b. b == 32) line)

-- the commands of a script, for so many ports
abbrev pub script_of : ℕ → List ℕ → Result (List Line) DocFault
script_of ports text = lines_of (line_command ports) (λ n. BadCommand n) text
