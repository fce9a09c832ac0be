use Rattle.std.proofs.Common.{◌≡◌, ◌∙◌, ap}
use Rattle.std.specs.Result.{result_ok}
use Rattle.log_reading.proofs.Numbers.{parsed-hex_word}
use Rattle.log_reading.proofs.words.word_said.Goals as goal

pub returns : goal.returns
returns c = λ n h e. c.ok.ensures.value ∙ ap result_ok (parsed-hex_word n c.args.word.now c.from_str_radix.result h e c.from_str_radix.ensures.value)
