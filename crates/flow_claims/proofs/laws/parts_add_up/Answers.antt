use Rattle.std.proofs.Common.{sym}
use Rattle.flow_claims.proofs.Boards.{nothing_without_parts, others_spent, all_numbered}
use Rattle.flow_claims.proofs.WordReads.{busy_is, counted_all}
use Rattle.flow_claims.proofs.laws.parts_add_up.Goals as goal

pub returns-clause-none : goal.returns-clause-none
returns-clause-none c lanes s i v rule = nothing_without_parts lanes s rule i v

pub returns-clause-alone : goal.returns-clause-alone
returns-clause-alone c lanes s i j v w rule = others_spent lanes s rule i j v w

pub returns-clause-counted : goal.returns-clause-counted
returns-clause-counted c lanes s lane i v rule lt here whole = sym (counted_all lanes s i v rule here lane whole lt)

pub returns-clause-numbered : goal.returns-clause-numbered
returns-clause-numbered c lanes s lane number i v rule = all_numbered lanes s rule lane number i v

pub returns-clause-open : goal.returns-clause-open
returns-clause-open c lanes s lane i v rule lt here whole = sym (busy_is lanes s i v rule here lane whole lt)
