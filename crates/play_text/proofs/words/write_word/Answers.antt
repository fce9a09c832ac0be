use Rattle.std.proofs.Common.{arith}
use Rattle.play_text.proofs.HexWords.{hex_word-length}
use Rattle.play_text.proofs.words.write_word.Goals as goal

pub returns-clause-sixteen : goal.returns-clause-sixteen
returns-clause-sixteen c = hex_word-length c.args.word (omega arith)
