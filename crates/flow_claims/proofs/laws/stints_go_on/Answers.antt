use Rattle.flow_claims.proofs.Boards.{first_start, next_start, open_start, grows, all_done}
use Rattle.flow_claims.proofs.laws.stints_go_on.Goals as goal

pub returns-clause-first : goal.returns-clause-first
returns-clause-first c lanes s i v p rule = first_start lanes s rule i v p

pub returns-clause-next : goal.returns-clause-next
returns-clause-next c lanes s i j v w p q rule = next_start lanes s rule i j v w p q

pub returns-clause-begun : goal.returns-clause-begun
returns-clause-begun c lanes s i j v w p b rule = open_start lanes s rule i j v w p b

pub returns-clause-grows : goal.returns-clause-grows
returns-clause-grows c lanes s i v rule = grows lanes s rule i v

pub returns-clause-done : goal.returns-clause-done
returns-clause-done c lanes s i v rule = all_done lanes s rule i v
