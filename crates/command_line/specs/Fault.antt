-- Faults of a document as faults of a run.
use Rattle.play_documents.specs.declared.fault.ReadFault.{ReadFault}
use Rattle.play_documents.specs.declared.fault.ReadFault.TheVariants as reads
use Rattle.command_line.specs.declared.fault.AppFault.{AppFault}
use Rattle.command_line.specs.declared.fault.AppFault.TheVariants as app

-- the fault of a document's reading, as one of the play
abbrev pub app_fault : ReadFault → AppFault
app_fault (reads.Document f) = app.Document f
app_fault reads.Memory = app.Memory
