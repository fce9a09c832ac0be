use Rattle.std.proofs.Common.{◌≡◌, ◌+◌, map, drop}
use Rattle.play_documents.specs.Command.{line_of}
use Rattle.play_documents.specs.Lines.{lines_from}
use Rattle.play_documents.specs.Script.{line_command, script_of}
use Rattle.play_documents.specs.declared.fault.DocFault.TheVariants.{BadCommand}
use Rattle.play_documents.proofs.Lines.{after, texts}
use Rattle.play_documents.proofs.script.read_script.Given as goal

abbrev pub invariant-loop-line : goal.invariant-loop-line
invariant-loop-line l = (l.number ≡ l.line-index)
    × (after (map line_of l.commands.items) (lines_from (line_command l.ports) (λ n. BadCommand n) (l.line-index + 1) (texts (drop l.line-index l.line-items))) ≡ script_of l.ports l.script)
