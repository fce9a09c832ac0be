use Rattle.std.proofs.Common.{lit<}
use Rattle.std.proofs.lemmas.Str.Pattern.{strip_suffix_char}
use Rattle.play_documents.proofs.Lines.{stripped-none, stripped-some}
use Rattle.play_documents.proofs.words.without_carriage_return.Goals as goal

pub returns-in-None : goal.returns-in-None
returns-in-None c = stripped-none c.args.line.now (rw c.in-None.is at (strip_suffix_char 13 c.args.line.now c.strip_suffix.result c.strip_suffix.ensures.cases (lit< tt)))

pub returns-in-Some : goal.returns-in-Some
returns-in-Some c = stripped-some c.args.line.now c.in-Some.line.now (rw c.in-Some.is at (strip_suffix_char 13 c.args.line.now c.strip_suffix.result c.strip_suffix.ensures.cases (lit< tt)))
