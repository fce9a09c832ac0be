use Rattle.std.proofs.Common.{◌≡◌, ◌++◌, take}
use Rattle.std.specs.Prelude.{flat_map, string_bytes}
use Rattle.json_lines.specs.Lines.{answer_line}
use Rattle.json_lines.proofs.answers.write_answers.Given as goal

abbrev pub invariant-loop-answer : goal.invariant-loop-answer
invariant-loop-answer l = string_bytes l.out ≡ string_bytes l.initial.out ++ flat_map (answer_line l.queues) (take l.answer-index l.answers)
