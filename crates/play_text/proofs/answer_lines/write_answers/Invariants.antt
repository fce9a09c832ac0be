use Rattle.std.proofs.Common.{◌≡◌, ◌++◌, take}
use Rattle.std.specs.Prelude.{flat_map, string_bytes}
use Rattle.play_text.specs.Text.{answer_text}
use Rattle.play_text.proofs.answer_lines.write_answers.Given as goal

abbrev pub invariant-loop-answer : goal.invariant-loop-answer
invariant-loop-answer l = string_bytes l.out ≡ string_bytes l.initial.out ++ flat_map (answer_text l.queues) (take l.answer-index l.answers)
