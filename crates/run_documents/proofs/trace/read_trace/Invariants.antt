use Rattle.std.proofs.Common.{◌≡◌, ◌+◌, drop}
use Rattle.play_documents.specs.Lines.{lines_from}
use Rattle.play_documents.specs.declared.fault.DocFault.TheVariants.{BadTrace}
use Rattle.play_documents.proofs.Lines.{after, texts}
use Rattle.run_documents.specs.Trace.{line_entry, trace_of}
use Rattle.run_documents.proofs.trace.read_trace.Given as goal

abbrev pub invariant-loop-line : goal.invariant-loop-line
invariant-loop-line l = (l.number ≡ l.line-index)
    × (after l.entries.items (lines_from line_entry (λ n. BadTrace n) (l.line-index + 1) (texts (drop l.line-index l.line-items))) ≡ trace_of l.text)
