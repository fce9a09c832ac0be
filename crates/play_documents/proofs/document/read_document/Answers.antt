use Rattle.play_documents.proofs.Named.{gives-named}
use Rattle.play_documents.proofs.Plays.{gives-ports}
use Rattle.play_documents.proofs.document.read_document.Goals as goal

pub returns-clause-read : goal.returns-clause-read
returns-clause-read c = c.planned.ensures

pub returns-clause-named : goal.returns-clause-named
returns-clause-named c = gives-named c.args.bytes.now c.planned.result c.planned.ensures

pub returns-clause-ports : goal.returns-clause-ports
returns-clause-ports c = gives-ports c.args.bytes.now c.planned.result c.planned.ensures
