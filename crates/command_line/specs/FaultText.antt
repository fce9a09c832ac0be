-- What is printed for a fault.
use Rattle.std.specs.Prelude.{ℕ, List, [], ◌++◌, codes, decimal, Option, Some, None}
use Rattle.evt_types.specs.declared.shape.ShapeFault.{ShapeFault}
use Rattle.evt_types.specs.declared.shape.ShapeFault.TheVariants as shapes
use Rattle.command_line.specs.declared.fault.AppFault.{AppFault}
use Rattle.command_line.specs.declared.fault.AppFault.TheVariants.{Read, Write, Document, Memory, NoSeat, Strayed}
use Rattle.play_documents.specs.declared.fault.DocFault.{DocFault}
use Rattle.play_documents.specs.declared.fault.DocFault.TheVariants.{TooLong, NotToml, UnknownKey, MissingKey, BadValue, ParallelInside, LastAction, Shape, LimitTight, BadCommand, BadTrace}

-- the name of a configuration's refusal, which want of memory isn't
abbrev pub shape_fault_name : ShapeFault → Option (List ℕ)
shape_fault_name shapes.QueueCount = Some (codes "QueueCount")
shape_fault_name shapes.PortCount = Some (codes "PortCount")
shape_fault_name shapes.LimitRange = Some (codes "LimitRange")
shape_fault_name shapes.QuantumRange = Some (codes "QuantumRange")
shape_fault_name shapes.ThresholdRange = Some (codes "ThresholdRange")
shape_fault_name shapes.DepthRange = Some (codes "DepthRange")
shape_fault_name shapes.FlowSlots = Some (codes "FlowSlots")
shape_fault_name shapes.OrderDepth = Some (codes "OrderDepth")
shape_fault_name shapes.SweepRange = Some (codes "SweepRange")
shape_fault_name shapes.LinkUnknown = Some (codes "LinkUnknown")
shape_fault_name shapes.LinkTwice = Some (codes "LinkTwice")
shape_fault_name shapes.QueueUnlinked = Some (codes "QueueUnlinked")
shape_fault_name shapes.SingleLinkCount = Some (codes "SingleLinkCount")
shape_fault_name shapes.Memory = None

-- the name of a document's fault
abbrev pub doc_fault_name : DocFault → Option (List ℕ)
doc_fault_name TooLong = Some (codes "TooLong")
doc_fault_name NotToml = Some (codes "NotToml")
doc_fault_name UnknownKey = Some (codes "UnknownKey")
doc_fault_name MissingKey = Some (codes "MissingKey")
doc_fault_name BadValue = Some (codes "BadValue")
doc_fault_name ParallelInside = Some (codes "ParallelInside")
doc_fault_name LastAction = Some (codes "LastAction")
doc_fault_name (Shape f) = shape_fault_name f
doc_fault_name LimitTight = Some (codes "LimitTight")
doc_fault_name (BadCommand n) = Some (codes "BadCommand")
doc_fault_name (BadTrace n) = Some (codes "BadTrace")

-- the number of the line that a fault names
abbrev pub line_number : DocFault → List ℕ
line_number (BadCommand n) = codes " " ++ decimal n
line_number (BadTrace n) = codes " " ++ decimal n
line_number f = []

-- what is printed where memory ran out
abbrev pub no_memory : List ℕ
no_memory = codes "evsched: out of memory or seats"

-- a document's fault with a name, and the status; one without is want of memory
abbrev pub named_line : Option (List ℕ) → List ℕ → List ℕ
named_line None number = no_memory
named_line (Some name) number = codes "evsched: document: " ++ name ++ number

abbrev pub named_status : Option (List ℕ) → ℕ
named_status None = 5
named_status (Some name) = 4

-- the status that the program ends with
abbrev pub status_of : AppFault → ℕ
status_of Read = 3
status_of Write = 3
status_of (Document f) = named_status (doc_fault_name f)
status_of Memory = 5
status_of NoSeat = 5
status_of (Strayed log) = 6

-- the line, without its line end
abbrev pub line_of_fault : AppFault → List ℕ
line_of_fault Read = codes "evsched: read failed"
line_of_fault Write = codes "evsched: write failed"
line_of_fault (Document f) = named_line (doc_fault_name f) (line_number f)
line_of_fault Memory = no_memory
line_of_fault NoSeat = no_memory
line_of_fault (Strayed log) = codes "evsched: a worker strayed"
