use Rattle.std.proofs.Common.{length, sym, ap, subst, arith}
use Rattle.transcript_judge.proofs.RowLists.{row_now}
use Rattle.transcript_judge.proofs.Walks.{oldest_is}
use Rattle.transcript_judge.specs.Ledger.{IsOldest}
use Rattle.transcript_judge.proofs.ledger.Ledger.oldest.Goals as goal

pub returns : goal.returns
returns c =
    let row_is = row_now c.args.self.now.unanswered.items c.args.lane c.index.result.now c.requires.lane c.index.ensures in
    subst (λ hs. IsOldest hs c.queue.result c.number.result) (sym row_is)
    (oldest_is c.index.result.now.items c.index-held.result.now c.queue.result c.number.result (omega (arith, c.requires.some, ap length row_is)) c.index-held.ensures c.queue.ensures c.number.ensures)
